use Rattle.std.proofs.Common.{◌≡◌, take, map}
use Rattle.tree_walks.specs.rpp_tree.Views.{procedure_of}
use Rattle.inverse_rules.specs.Inverse.{inverse_procedure}
use Rattle.stmt_inverter.proofs.whole.invert_methods.Given as goal

abbrev pub invariant-loop-method : goal.invariant-loop-method
invariant-loop-method l = map procedure_of l.inverted.items
    ≡ map inverse_procedure (map procedure_of (take l.method-index l.methods))
