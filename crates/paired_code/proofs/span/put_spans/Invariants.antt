use Rattle.std.proofs.Common.{◌≡◌, ◌++◌, take}
use Rattle.paired_code.specs.Code.{shift}
use Rattle.paired_code.proofs.span.put_spans.Given as goal

abbrev pub invariant-loop-part : goal.invariant-loop-part
invariant-loop-part l = l.spans.items ≡ l.initial.spans.items ++ shift l.by (take l.part-index l.more)
