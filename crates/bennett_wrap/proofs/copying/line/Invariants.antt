use Rattle.std.proofs.Common.{◌≡◌, map}
use Rattle.paired_code.specs.Code.{unmarked}
use Rattle.bennett_wrap.specs.Copying.{own_symbol}
use Rattle.bennett_wrap.proofs.copying.line.Given as goal

abbrev pub invariant-loop-cell : goal.invariant-loop-cell
invariant-loop-cell l = l.piece ≡ unmarked (map own_symbol l.yielded)
