use Rattle.std.proofs.Common.{◌≡◌, map, take}
use Rattle.pisa_isa.specs.Notes.{turned_mark}
use Rattle.pisa_isa.proofs.notes.turned_marks.Given as goal

abbrev pub invariant-loop-mark : goal.invariant-loop-mark
invariant-loop-mark l = l.turned.items ≡ map (turned_mark l.code) (take l.mark-index l.marks)
