use Rattle.std.proofs.Common.{◌∙◌, List, ap, map}
use Rattle.source_blocks.specs.roopl_semantics.Value.{read}
use Rattle.source_blocks.specs.source_steps.declared.cell.Cell.{Cell as Place}
use Rattle.source_blocks.specs.source_steps.CellView.{cell_view}
use Rattle.source_blocks.specs.Runs.{state_in}
use Rattle.source_blocks.proofs.Scoped.{framed_by, slice_is}
use Rattle.source_statements.proofs.calls.values_in_order.Goals as goal

pub read_cells-requires : goal.read_cells-requires
read_cells-requires c = framed_by c.args.run.now c.scope_of-scope.result c.scope_of-scope.ensures
    c.deref.result.now c.deref.ensures.value c.requires.sound

pub returns-in-Ok : goal.returns-in-Ok
returns-in-Ok c =
    c.in-Ok.ensures
    ∙ ap (λ st. map (read st) (map cell_view c.deref-2.result.now))
    (slice_is c.args.run.now c.scope_of-scope.result c.scope_of-scope.ensures c.deref.result.now
    c.deref.ensures.value)
    ∙ ap (λ (cells : List Place). map (read (state_in c.args.run.now)) (map cell_view cells)) c.deref-2.ensures.value
