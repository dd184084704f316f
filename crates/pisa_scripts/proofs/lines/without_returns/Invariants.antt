use Rattle.std.proofs.Common.{◌≡◌, ◌≤◌, ◌++◌, drop, vec_len}
use Rattle.pisa_scripts.specs.Lines.{without_returns}
use Rattle.pisa_scripts.proofs.lines.without_returns.Given as goal

-- the text so far and what is left are the whole
abbrev pub invariant-loop-i : goal.invariant-loop-i
invariant-loop-i l = record {
  whole : l.text.items ++ without_returns (drop l.i l.bytes) ≡ without_returns l.bytes;
  within : vec_len l.text ≤ l.i;
}
