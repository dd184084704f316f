use Rattle.std.proofs.Common.{◌≡◌, ◌++◌, take}
use Rattle.std.specs.List.{flat_map}
use Rattle.pisa_image.specs.ImageBytes.{mark_bytes}
use Rattle.pisa_image.proofs.note_writing.add_marks.Given as goal

abbrev pub invariant-loop-mark : goal.invariant-loop-mark
invariant-loop-mark l = l.bytes.items ≡ l.initial.bytes.items ++ flat_map mark_bytes (take l.mark-index l.marks)
