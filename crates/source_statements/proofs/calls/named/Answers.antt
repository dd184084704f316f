use Rattle.std.proofs.Common.{◌∙◌, ap}
use Rattle.source_blocks.specs.roopl_semantics.Value.{read, cell_named}
use Rattle.source_blocks.specs.source_steps.CellView.{cell_view}
use Rattle.source_blocks.specs.Runs.{state_in}
use Rattle.source_blocks.specs.source_steps.StateView.{setting_of}
use Rattle.source_blocks.proofs.Scoped.{framed_by, slice_is}
use Rattle.source_statements.proofs.calls.named.Goals as goal

pub cell_of_name-cell-requires : goal.cell_of_name-cell-requires
cell_of_name-cell-requires c = framed_by c.args.run.now c.scope_of-scope.result c.scope_of-scope.ensures
    c.deref.result.now c.deref.ensures.value c.requires.sound

pub read_cell-value-requires : goal.read_cell-value-requires
read_cell-value-requires c = framed_by c.args.run.now c.scope_of-scope.result c.scope_of-scope.ensures
    c.deref-2.result.now c.deref-2.ensures.value c.requires.sound

pub returns-clause-cell : goal.returns-clause-cell
returns-clause-cell c = c.cell_of_name-cell.ensures
    ∙ ap (λ st. cell_named (setting_of c.args.run.now.setting).program st c.args.name.now)
    (slice_is c.args.run.now c.scope_of-scope.result c.scope_of-scope.ensures c.deref.result.now c.deref.ensures.value)

pub returns-clause-value : goal.returns-clause-value
returns-clause-value c =
    c.read_cell-value.ensures
    ∙ ap (λ st. read st (cell_view c.cell_of_name-cell.result))
    (slice_is c.args.run.now c.scope_of-scope.result c.scope_of-scope.ensures c.deref-2.result.now
    c.deref-2.ensures.value)
    ∙ ap (read (state_in c.args.run.now)) (c.cell_of_name-cell.ensures
    ∙ ap (λ st. cell_named (setting_of c.args.run.now.setting).program st c.args.name.now)
    (slice_is c.args.run.now c.scope_of-scope.result c.scope_of-scope.ensures c.deref.result.now c.deref.ensures.value))
