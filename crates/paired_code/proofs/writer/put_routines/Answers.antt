use Rattle.paired_code.proofs.Writing.{routines_step, fit_take}
use Rattle.paired_code.proofs.writer.put_routines.Goals as goal

pub loop-piece-preserved : goal.loop-piece-preserved
loop-piece-preserved c =
    let s = routines_step _ c.args.routines.now c.loop-piece.piece-index c.piece-item.result _ _ _ c.cells_of.result.now
    c.loop-piece-test.true c.piece-item.is c.cells_of.ensures.cells c.in_ok-put_routine.ensures
    c.loop-piece.invariant.done c.loop-piece.invariant.room in
    record {
      done = s.0;
      room = s.1;
      fit = fit_take c.args.routines.now c.loop-piece.piece-index c.piece-item.result c.loop-piece-test.true
          c.piece-item.is c.cells_of.ensures.fit c.loop-piece.invariant.fit;
    }
