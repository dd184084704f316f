use Rattle.std.proofs.Common.{◌≡◌, ◌++◌, ◌+◌, ◌≤◌, drop}
use Rattle.paired_code.specs.Link.{link_positions, routines_size}
use Rattle.paired_code.specs.Code.{bodies}
use Rattle.paired_code.proofs.writer.places_of.Given as goal
use Rattle.code_conventions.specs.pisa_isa.declared.image.TheConstants.{MOST_CELLS}

abbrev pub invariant-loop-piece : goal.invariant-loop-piece
invariant-loop-piece l = record {
  done : l.found.items ++ link_positions l.top (bodies (drop l.piece-index l.routines))
      ≡ link_positions l.first (bodies l.routines);
  room : l.top + routines_size (bodies (drop l.piece-index l.routines)) ≤ MOST_CELLS;
}
