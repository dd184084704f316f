use Rattle.std.proofs.Common.{◌≡◌, map}
use Rattle.paired_code.specs.Layout.{inverse_sym}
use Rattle.paired_code.specs.Stored.{symbols_in}
use Rattle.paired_code.proofs.piece.mirrored.Given as goal

abbrev pub invariant-loop-c : goal.invariant-loop-c
invariant-loop-c l = symbols_in l.out ≡ map inverse_sym l.yielded
