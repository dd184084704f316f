-- The laws in the form of their statements.
use Rattle.refine_program.specs.Laws.{LinkedProgramsStand, ProgramImagesHaveRoutines}
use Rattle.refine_program.proofs.ProgramStands.{stands, routines_there}
pub use Rattle.refine_program.proofs.Entries.{methods_have_routines, calls_find_routines, codes_are_made_in_order}
pub use Rattle.refine_program.proofs.FewStatics.{statics_are_few}

pub linked_programs_stand : LinkedProgramsStand
linked_programs_stand program main allocator bodies image is = stands program main allocator bodies image is

pub program_images_have_routines : ProgramImagesHaveRoutines
program_images_have_routines program main allocator bodies image is =
    routines_there program main allocator bodies image is
