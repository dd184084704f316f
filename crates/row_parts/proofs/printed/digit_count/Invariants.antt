use Rattle.std.proofs.Common.{◌≡◌, ◌+◌, drop}
use Rattle.row_parts.specs.Printed.{digit_count}
use Rattle.row_parts.proofs.printed.digit_count.Given as goal

-- what is left decides
abbrev pub invariant-loop-byte : goal.invariant-loop-byte
invariant-loop-byte l = record {
  here : l.count ≡ l.byte-index;
  left : l.count + digit_count (drop l.byte-index l.said) ≡ digit_count l.said;
}
