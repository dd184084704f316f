use Rattle.std.proofs.Common.{◌≡◌, map}
use Rattle.std.specs.Prelude.{MatchResult}
use Rattle.source_blocks.specs.roopl_semantics.Execution.{cells_named}
use Rattle.source_blocks.specs.source_steps.CellView.{cell_view}
use Rattle.source_blocks.specs.source_steps.StateView.{setting_of}
use Rattle.source_blocks.specs.source_steps.declared.stop.Stop.TheVariants as stop
use Rattle.source_blocks.specs.source_store.declared.lack.Lack.TheVariants as lacking
use Rattle.source_blocks.proofs.Scoped.{framed_in, at_state}
use Rattle.source_statements.proofs.calls.cells_in_order.Goals as goal

pub cells_of-requires : goal.cells_of-requires
cells_of-requires c = framed_in c.args.run.now c.scope_of-scope.result c.scope_of-scope.ensures c.requires.sound

pub returns : goal.returns
returns c =
    at_state c.args.run.now c.scope_of-scope.result c.scope_of-scope.ensures
    (λ st. MatchResult c.cells_of.result (λ cells. map cell_view cells.items
    ≡ cells_named (setting_of c.args.run.now.setting) st c.args.calls.now.args.now)
    (λ why. why ≡ stop.Lacks lacking.NoMemory))
    c.cells_of.ensures
