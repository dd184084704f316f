use Rattle.std.proofs.Common.{◌≡◌, ◌++◌, ◌+◌, ◌<◌, ◌^◌, drop, take, length}
use Rattle.paired_code.specs.Link.{routines_code, routines_size}
use Rattle.paired_code.specs.Fit.{EachFit}
use Rattle.paired_code.specs.Code.{bodies}
use Rattle.paired_code.proofs.writer.put_routines.Given as goal

abbrev pub invariant-loop-piece : goal.invariant-loop-piece
invariant-loop-piece l = record {
  done : l.code.items ++ routines_code l.places (length l.code.items) (bodies (drop l.piece-index l.routines))
      ≡ l.initial.code.items ++ routines_code l.places (length l.initial.code.items) (bodies l.routines);
  room : length l.code.items + routines_size (bodies (drop l.piece-index l.routines)) < 2 ^ 30;
  fit : EachFit (bodies (take l.piece-index l.routines));
}
