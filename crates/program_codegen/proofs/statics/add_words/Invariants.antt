use Rattle.std.proofs.Common.{◌≡◌, ◌++◌, map, take}
use Rattle.refine_program.specs.paired_code.declared.part.StaticWord.TheVariants.{Word}
use Rattle.program_codegen.proofs.statics.add_words.Given as goal

-- the words so far
abbrev pub invariant-loop-word : goal.invariant-loop-word
invariant-loop-word l = l.words.items ≡ l.initial.words.items ++ map Word (take l.word-index l.known)
