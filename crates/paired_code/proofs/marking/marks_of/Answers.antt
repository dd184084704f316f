use Rattle.std.proofs.Common.{arith, length, refl}
use Rattle.paired_code.proofs.Fits.{moved, room_at}
use Rattle.paired_code.proofs.marking.marks_of.Goals as goal
use Rattle.code_conventions.specs.pisa_isa.declared.image.TheConstants.{MOST_CELLS}

pub put_marks-requires : goal.put_marks-requires
put_marks-requires c = room_at _ _ _ _ _ refl c.marks_in.ensures.marks
    (moved 1 (length c.args.main.now.cells) MOST_CELLS c.args.main.now.marks (omega (arith, c.requires))
    c.marks_in.ensures.within)
