use Rattle.std.proofs.Common.{◌≡◌, take, map}
use Rattle.rpp_tree.specs.Views.{procedure_of}
use Rattle.tree_walks.proofs.copy_whole.copy_class.Given as goal

abbrev pub invariant-loop-method : goal.invariant-loop-method
invariant-loop-method l = map procedure_of l.methods.items ≡ map procedure_of (take l.method-index l.method-items)
