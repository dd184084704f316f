use Rattle.std.proofs.Common.{◌≡◌, ◌++◌, replicate}
use Rattle.refine_program.specs.paired_code.declared.part.StaticWord.TheVariants.{Word}
use Rattle.program_codegen.proofs.statics.add_zeros.Given as goal

-- the zeros so far
abbrev pub invariant-loop : goal.invariant-loop
invariant-loop l = l.words.items ≡ l.initial.words.items ++ replicate l.counter (Word 0)
