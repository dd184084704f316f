use Rattle.std.proofs.Common.{◌≡◌, ◌++◌, take}
use Rattle.paired_code.specs.Code.{shift}
use Rattle.paired_code.proofs.span.put_marks.Given as goal

abbrev pub invariant-loop-part : goal.invariant-loop-part
invariant-loop-part l = l.marks.items ≡ l.initial.marks.items ++ shift l.by (take l.part-index l.more)
