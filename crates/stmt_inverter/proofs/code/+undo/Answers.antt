use Rattle.std.proofs.Common.{◌≡◌, ◌∙◌, sym, ap, map}
use Rattle.tree_walks.proofs.rpp_tree_laws.Blocks.{block_of-list, block_of-made}
use Rattle.std.proofs.lemmas.List.{take_all}
use Rattle.tree_walks.specs.rpp_tree.Views.{statement_of}
use Rattle.inverse_rules.specs.Inverse.{inverse_statement_as, inverse_as}
use Rattle.inverse_rules.proofs.Inverses.{block_undone}
use Rattle.stmt_inverter.proofs.code.+undo.Goals as goal

pub undo_block-returns : goal.undo_block-returns
undo_block-returns t c =
    let turn = c.args.turn in
    let same : map statement_of c.loop-stmt.list.items ≡ map (λ s. inverse_statement_as turn (statement_of s))
    c.args.b.now.list.items =
    c.loop-stmt.invariant ∙ ap (map (λ s. inverse_statement_as turn (statement_of s)))
    (take_all _ _ c.loop-stmt-test.false ∙ c.deref-stmt-items.ensures.value)
    in
    block_of-made c.reverse.new.self
    ∙ block_undone turn c.args.b.now.list.items c.loop-stmt.list.items c.reverse.new.self.items same
    c.reverse.ensures.items
    ∙ ap (inverse_as turn) (sym (block_of-list c.args.b.now))
