use Rattle.std.proofs.Common.{◌≡◌, ◌++◌, drop}
use Rattle.std.specs.Prelude.{string_bytes}
use Rattle.pisa_asm.specs.Listing.{static_text, lines_by}
use Rattle.pisa_asm.proofs.listing.add_statics.Given as goal

-- the lines so far and those of what is left are the whole
abbrev pub invariant-loop-word : goal.invariant-loop-word
invariant-loop-word l = string_bytes l.out ++ lines_by static_text (drop l.word-index l.statics)
    ≡ string_bytes l.initial.out ++ lines_by static_text l.statics
