use Rattle.std.proofs.Common.{◌≡◌, ◌+◌, ◌++◌, drop}
use Rattle.refine_program.specs.code_conventions.declared.memory.TheConstants.{FIRST_FIELD}
use Rattle.program_codegen.specs.Notes.{field_names}
use Rattle.program_codegen.proofs.notes.field_names.Given as goal

-- the names so far and those of what is left are the whole
abbrev pub invariant-loop-number : goal.invariant-loop-number
invariant-loop-number l = l.names.items ++ field_names (FIRST_FIELD + l.number) (drop l.number l.vars)
    ≡ field_names FIRST_FIELD l.vars
