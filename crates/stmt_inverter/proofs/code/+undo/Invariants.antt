use Rattle.std.proofs.Common.{◌≡◌, take, map}
use Rattle.tree_walks.specs.rpp_tree.Views.{statement_of}
use Rattle.inverse_rules.specs.Inverse.{inverse_statement_as}
use Rattle.stmt_inverter.proofs.code.+undo.Given as goal

abbrev pub invariant-undo_block-loop-stmt : goal.invariant-undo_block-loop-stmt
invariant-undo_block-loop-stmt l = map statement_of l.list.items
    ≡ map (λ s. inverse_statement_as l.turn (statement_of s)) (take l.stmt-index l.stmt-items)
