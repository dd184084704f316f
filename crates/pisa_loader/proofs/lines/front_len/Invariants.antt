use Rattle.std.proofs.Common.{◌≡◌, ◌+◌, drop}
use Rattle.std.specs.List.{prefix_len}
use Rattle.pisa_loader.specs.Kinds.{is_of}
use Rattle.pisa_loader.proofs.lines.front_len.Given as goal

abbrev pub invariant-loop-i : goal.invariant-loop-i
invariant-loop-i l = prefix_len (is_of l.kind) l.text ≡ l.i + prefix_len (is_of l.kind) (drop l.i l.text)
