use Rattle.std.proofs.Common.{◌≡◌, take, map}
use Rattle.rpp_tree.specs.Views.{statement_of}
use Rattle.tree_walks.proofs.copy_code.+copy_code.Given as goal

abbrev pub invariant-copy_block-loop-stmt : goal.invariant-copy_block-loop-stmt
invariant-copy_block-loop-stmt l = map statement_of l.list.items ≡ map statement_of (take l.stmt-index l.stmt-items)
