use Rattle.std.proofs.Common.{◌≡◌, ◌+◌, ap, arith, length, refl}
use Rattle.paired_code.proofs.Shifted.{marks_next, room_next, room_here, within_next}
use Rattle.paired_code.proofs.Fits.{moved, room_at}
use Rattle.paired_code.proofs.marking.put_routine_marks.Goals as goal
use Rattle.code_conventions.specs.pisa_isa.declared.image.TheConstants.{MOST_CELLS}

pub put_marks-requires : goal.put_marks-requires
put_marks-requires c =
    let x = c.piece-item.result in
    room_at _ _ _ _ _ refl c.marks_in.ensures.marks (moved (c.loop-piece.top + 3) (length x.cells) MOST_CELLS x.marks
    (room_here c.args.routines.now c.loop-piece.piece-index x c.loop-piece.top c.loop-piece-test.true c.piece-item.is
    c.loop-piece.invariant.room) c.marks_in.ensures.within)

pub loop-piece-preserved : goal.loop-piece-preserved
loop-piece-preserved c =
    let xs = c.args.routines.now in
    let i = c.loop-piece.piece-index in
    let x = c.piece-item.result in
    let size : length c.cells_of.result.now ≡ length x.cells = ap length c.cells_of.ensures.cells in
    record {
      done = marks_next xs i x _ _ _ _ c.loop-piece.top _ c.loop-piece-test.true c.piece-item.is
          c.marks_in.ensures.marks c.in_ok-put_marks.ensures (omega (arith, size)) c.loop-piece.invariant.done;
      room = room_next xs i x c.loop-piece.top _ c.loop-piece-test.true c.piece-item.is (omega (arith, size))
          c.loop-piece.invariant.room;
      within = within_next xs i x c.loop-piece-test.true c.piece-item.is c.marks_in.ensures.within
          c.loop-piece.invariant.within;
    }
