use Rattle.std.proofs.Common.{◌≡◌, ◌++◌, ◌+◌, ◌≤◌, drop, take}
use Rattle.paired_code.specs.Link.{routines_size}
use Rattle.paired_code.specs.Code.{bodies, routine_marks, EachWithin}
use Rattle.paired_code.proofs.marking.put_routine_marks.Given as goal
use Rattle.code_conventions.specs.pisa_isa.declared.image.TheConstants.{MOST_CELLS}

-- the marks so far and those of what is left are the whole
abbrev pub invariant-loop-piece : goal.invariant-loop-piece
invariant-loop-piece l = record {
  done : l.marks.items ++ routine_marks l.top (drop l.piece-index l.routines)
      ≡ l.initial.marks.items ++ routine_marks l.first l.routines;
  room : l.top + routines_size (bodies (drop l.piece-index l.routines)) ≤ MOST_CELLS;
  within : EachWithin (take l.piece-index l.routines);
}
