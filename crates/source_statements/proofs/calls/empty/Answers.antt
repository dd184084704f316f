use Rattle.std.proofs.Common.{map, refl}
use Rattle.source_blocks.specs.roopl_semantics.Execution.{moved_out}
use Rattle.source_blocks.specs.source_steps.CellView.{cell_view}
use Rattle.source_blocks.proofs.Scoped.{framed_in, moved_is, still_sound}
use Rattle.source_statements.proofs.calls.empty.Goals as goal

pub move_out-requires : goal.move_out-requires
move_out-requires c = framed_in c.args.run.now c.scope_of-scope.result c.scope_of-scope.ensures c.requires.sound

pub returns-clause-moved : goal.returns-clause-moved
returns-clause-moved c =
    moved_is c.args.run.now c.scope_of-scope.result c.scope_of-scope.ensures
    (record c.args.run.now { heap = c.move_out.new.heap; values = c.move_out.new.values }) refl
    (moved_out (map cell_view c.args.cells.now)) c.move_out.ensures.moved

pub returns-clause-sound : goal.returns-clause-sound
returns-clause-sound c =
    still_sound c.args.run.now c.scope_of-scope.result c.scope_of-scope.ensures
    (record c.args.run.now { heap = c.move_out.new.heap; values = c.move_out.new.values }) refl c.requires.sound
    c.move_out.ensures.framed
