use Rattle.std.proofs.Common.{◌≡◌, ◌++◌, drop}
use Rattle.std.specs.Prelude.{string_bytes}
use Rattle.pisa_asm.specs.Listing.{mark_text, lines_by}
use Rattle.pisa_asm.proofs.listing.add_marks.Given as goal

-- the lines so far and those of what is left are the whole
abbrev pub invariant-loop-mark : goal.invariant-loop-mark
invariant-loop-mark l = string_bytes l.out ++ lines_by mark_text (drop l.mark-index l.marks)
    ≡ string_bytes l.initial.out ++ lines_by mark_text l.marks
