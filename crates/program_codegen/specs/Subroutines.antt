-- Where the class tables of an image of a program lead.
use Rattle.std.specs.Prelude.{◌≡◌, ℕ, ◌+◌, ◌++◌, ◌<◌, true, List, [], length, slice_get}
use Rattle.std.specs.Prelude.{slice_index}
use Rattle.std.specs.Prelude.{Some}
use Rattle.std.specs.Option.{unwrap_or}
use Rattle.refine_program.specs.rpp_tree.declared.tree.Ident.{Ident}
use Rattle.refine_program.specs.rpp_tree.Tree.{Source}
use Rattle.refine_program.specs.class_rules.Table.{table_of, slot_in}
use Rattle.refine_program.specs.class_rules.Inheritance.{is_or_inherits}
use Rattle.refine_program.specs.pisa_isa.declared.notes.Mark.{Mark}
use Rattle.refine_program.specs.pisa_isa.Image.{Segments}
use Rattle.refine_program.specs.paired_code.declared.part.Symbol.{Symbol}
use Rattle.refine_program.specs.paired_code.Layout.{Routine}
use Rattle.refine_program.specs.roopl_semantics.Layout.{main_statics, tables}
use Rattle.program_codegen.specs.Notes.{HasMarks}

-- the code cell is the SWAPBR of a routine in the subroutine form, at which calls enter and leave
pub record IsSwapbrOfRoutine (image : Segments) (starts : List ℕ) (cell : ℕ) : Type 0 where
  pub number : ℕ
  pub top : ℕ
  pub body : List Symbol
  pub behind_top : cell ≡ top + 1
  pub form : Routine (record { code = image.code; routines = starts }) number top body

-- the static cells are the main object and the class tables, and each slot that a class has for a
-- name leads to the SWAPBR of a routine
pub record TablesLeadToSwapbr (program : Source) (image : Segments) : Type 0 where
  pub starts : List ℕ
  pub places : List (List ℕ)
  pub words : image.statics ≡ main_statics program ++ tables 1 places
  pub leads : (own class slot : ℕ) (name : Ident) → is_or_inherits program own class ≡ true
      → class < length program.classes
      → slot_in (table_of program) class name.text ≡ Some slot
      → IsSwapbrOfRoutine image starts (slice_index (unwrap_or (slice_get places own) []) slot)

-- so it is in every image with the marks of a program
abbrev pub CallsEnterBySwapbr : Type 0
CallsEnterBySwapbr =
    (program : Source) (image : Segments) (marks : List Mark) → HasMarks program image marks
    → TablesLeadToSwapbr program image
