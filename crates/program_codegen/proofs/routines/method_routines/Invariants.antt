use Rattle.std.proofs.Common.{take}
use Rattle.std.specs.List.{AllZip}
use Rattle.refine_program.specs.rpp_tree.Views.{source_of}
use Rattle.refine_program.specs.Methods.{entries_from}
use Rattle.program_codegen.specs.Routines.{IsRoutine}
use Rattle.program_codegen.proofs.routines.method_routines.Given as goal

-- those of the classes so far
abbrev pub invariant-loop-class : goal.invariant-loop-class
invariant-loop-class l = AllZip (IsRoutine (source_of l.checked))
    (entries_from 0 (take l.class (source_of l.checked).classes)) l.pieces.items
