use Rattle.std.proofs.Common.{take, map}
use Rattle.std.specs.List.{AllZip}
use Rattle.refine_program.specs.rpp_tree.Views.{procedure_of, source_of}
use Rattle.refine_program.specs.Methods.{entries_of}
use Rattle.program_codegen.specs.Routines.{IsRoutine}
use Rattle.program_codegen.proofs.routines.class_routines.Given as goal

-- those so far
abbrev pub invariant-loop-number : goal.invariant-loop-number
invariant-loop-number l = AllZip (IsRoutine (source_of l.checked))
    (entries_of l.class (map procedure_of (take l.number l.methods))) l.pieces.items
