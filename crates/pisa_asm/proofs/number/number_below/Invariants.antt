use Rattle.std.proofs.Common.{◌≡◌, ◌<◌, ◌^◌, drop}
use Rattle.pisa_asm.specs.Numerals.{below, numeral, numeral_from}
use Rattle.pisa_asm.proofs.number.number_below.Given as goal

-- what is left decides
abbrev pub invariant-loop-digit : goal.invariant-loop-digit
invariant-loop-digit l = record {
  small : l.number < 2 ^ 36;
  left : below l.end (numeral_from l.number (drop l.digit-index l.digits)) ≡ below l.end (numeral l.fn.digits);
}
