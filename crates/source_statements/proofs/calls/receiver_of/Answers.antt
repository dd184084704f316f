use Rattle.std.proofs.Common.{◌∙◌, sym, ap, ◌∷◌, [], Option, map}
use Rattle.source_blocks.specs.roopl_semantics.Store.{Value}
use Rattle.source_blocks.specs.roopl_semantics.Value.{read}
use Rattle.source_blocks.specs.source_steps.declared.cell.Cell.{Cell as Place}
use Rattle.source_blocks.specs.source_steps.CellView.{cell_view}
use Rattle.source_blocks.specs.Runs.{state_in, only_cell}
use Rattle.source_blocks.proofs.Scoped.{framed_by, slice_is}
use Rattle.source_statements.proofs.calls.receiver_of.Goals as goal

pub read_cell-value-requires : goal.read_cell-value-requires
read_cell-value-requires c = framed_by c.args.run.now c.scope_of-scope.result c.scope_of-scope.ensures
    c.deref.result.now c.deref.ensures.value c.requires.sound

pub returns-in-Some-clause-values : goal.returns-in-Some-clause-values
returns-in-Some-clause-values c =
    ap (λ (v : Value). v ∷ []) (c.read_cell-value.ensures ∙ ap (λ st. read st (cell_view c.in-Some.cell))
    (slice_is c.args.run.now c.scope_of-scope.result c.scope_of-scope.ensures c.deref.result.now c.deref.ensures.value))
    ∙ sym (ap (λ (o : Option Place). map (read (state_in c.args.run.now)) (only_cell o)) c.in-Some.is)
