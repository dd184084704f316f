use Rattle.std.proofs.Common.{◌≡◌, ◌≤◌, ◌^◌, min, drop}
use Rattle.pisa_machine.specs.rpp_words.Texts.{decimal_from}
use Rattle.pisa_loader.proofs.lines.decimal.Given as goal

abbrev pub invariant-loop-digit : goal.invariant-loop-digit
invariant-loop-digit l = record {
  at_most : l.number ≤ 2 ^ 32;
  so_far : min (decimal_from l.number (drop l.digit-index l.digits)) (2 ^ 32) ≡ min (decimal_from 0 l.digits) (2 ^ 32);
}
