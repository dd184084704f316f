-- What is noted of a program's image: the cells of each statement, which do in it what the
-- semantics says of the statement, and the cells of the main class's int fields.
use Rattle.std.specs.Prelude.{◌≡◌, ℕ, zero, suc, ◌+◌, ◌*◌, ◌≤◌, List, [], ◌∷◌, ◌++◌, length, Bool}
use Rattle.std.specs.Prelude.{if◌then◌else◌}
use Rattle.std.specs.List.{AllZip}
use Rattle.std.specs.List.Sorted.{IsPermutation, IsNonDecreasingBy}
use Rattle.refine_program.specs.rpp_words.declared.input.Limits.{Limits}
use Rattle.refine_program.specs.rpp_tree.declared.tree.Var.{Var}
use Rattle.refine_program.specs.rpp_tree.Tree.{Source}
use Rattle.refine_program.specs.pisa_isa.declared.notes.Mark.{Mark}
use Rattle.refine_program.specs.pisa_isa.declared.notes.FieldName.{FieldName}
use Rattle.refine_program.specs.pisa_isa.Image.{Segments}
use Rattle.refine_program.specs.pisa_isa.Notes.{NoteLists}
use Rattle.refine_program.specs.pisa_isa.Machine.{Memory}
use Rattle.refine_program.specs.paired_code.Machine.{Image}
use Rattle.refine_program.specs.paired_code.Layout.{code_line}
use Rattle.refine_program.specs.paired_code.Pieces.{Outcome, Ends, near_end, far_end}
use Rattle.refine_program.specs.paired_code.Does.{Meets}
use Rattle.refine_program.specs.roopl_semantics.Store.{State}
use Rattle.refine_program.specs.roopl_semantics.Source.{main_fields, is_int_type}
use Rattle.refine_program.specs.code_conventions.declared.memory.TheConstants.{FIRST_FIELD}
use Rattle.refine_program.specs.rpp_tree.Places.{statement_place}
use Rattle.statement_codegen.specs.Rows.{Row, block_rows}
use Rattle.statement_codegen.specs.Ranges.{AreNested, is_marked}
use Rattle.refine_program.specs.refine_form.Form.{HasOpenFrame, run_result, one, turned_statement}
use Rattle.refine_program.specs.refine_form.Frames.{Under}
use Rattle.refine_program.specs.refine_form.Worlds.{Place, world_of, rates_of}
use Rattle.refine_program.specs.Methods.{RoutineEntry, entries, scope_at}
use Rattle.refine_program.specs.Laws.{statement_address, HasRoutines}

-- ---- marks of statements

-- the statements of a method, in the order of the text
abbrev pub method_rows : RoutineEntry → List Row
method_rows entry = block_rows (scope_at entry) entry.method.body

-- of these methods
abbrev pub rows_of : List RoutineEntry → List Row
rows_of [] = []
rows_of (entry ∷ entries) = method_rows entry ++ rows_of entries

-- of the program
abbrev pub program_rows : Source → List Row
program_rows program = rows_of (entries program)

-- The run of these code cells of an image goes in one of these ways. From the near end of the cells
-- it stays in them, except for the routines that it calls. If it leaves, it leaves at the far end.
abbrev pub WillGo : Image → (back : Bool) → (first end : ℕ) → Memory → (Outcome → Type 0) → Type 0
WillGo im back first end m Q = (o : Outcome)
    × Ends im code_line back first end (near_end back first end) m (far_end back first end) o × Q o

-- The code cells from one to another of an image do what the semantics says of a statement. This
-- holds if a frame of the scope is current in the memory, with some state. Forward, the run does
-- what the statement says with any fuel; backward, what its inverse says. It leaves with the memory
-- of the state to which that leads, within 1000 steps for each cost unit, or stops at its fault, or
-- goes on.
pub record DoRow (place : Place) (row : Row) (first end : ℕ) : Type 0 where
  pub does : (fuel : ℕ) (back : Bool) (u : Under) (st : State) (m : Memory)
      → HasOpenFrame (world_of place) row.scope u st m
      → WillGo place.im back first end m
      (Meets (HasOpenFrame (world_of place) row.scope u) (rates_of place.setting) (suc fuel) 0
      (run_result (one place.setting fuel (turned_statement back row.statement) st)))

-- the mark of a statement: at its place, over cells that do with any limits what it says
pub record IsStatementMark (at : Limits → Place) (row : Row) (k : Mark) : Type 0 where
  pub place : k.at ≡ statement_place row.statement
  pub in_order : k.first ≤ k.end
  pub cells : (limits : Limits) → DoRow (at limits) row k.first k.end

-- The routines of the program are in the image, and there is one mark for each of its statements.
-- In this image, the cells of a mark do what the statement says.
pub record MarksDoTheirRows (program : Source) (image : Segments) (marks : List Mark) : Type 0 where
  pub starts : List ℕ
  pub routines : HasRoutines program image starts
  pub ranges : List Mark
  pub same : IsPermutation marks ranges
  pub each : AllZip
      (IsStatementMark (statement_address program image starts routines.bodies routines.tops))
      (program_rows program) ranges

-- of so many cells from this one on, how many lie in no mark's range
abbrev pub unmarked_from : List Mark → ℕ → ℕ → ℕ
unmarked_from marks cell zero = 0
unmarked_from marks cell (suc count) =
    (if is_marked marks cell then 0 else 1) + unmarked_from marks (cell + 1) count

-- one for each statement of the program, over cells that do it, nested as the statements are or
-- else apart, in the order of their places. The cells that lie in no mark's range are 12 around
-- each method's, and 119: START, FINISH, the 13 of the call of `main`, and the allocator's 104.
pub record HasMarks (program : Source) (image : Segments) (marks : List Mark) : Type 0 where
  pub rows : MarksDoTheirRows program image marks
  pub nested : AreNested (program_rows program) rows.ranges
  pub ascending : IsNonDecreasingBy (λ k. k.at) marks
  pub few : unmarked_from marks 0 (length image.code) ≤ 12 * length (entries program) + 119

-- ---- names of fields

-- the int fields of these, the first of which is in this cell
abbrev pub field_names : (cell : ℕ) → List Var → List FieldName
field_names cell [] = []
field_names cell (var ∷ vars) =
    if is_int_type var.kind then record { cell = cell; text = var.name.text }
    ∷ field_names (cell + 1) vars else field_names (cell + 1) vars

-- the notes of an image of the program
pub record AreNotes (program : Source) (image : Segments) (notes : NoteLists) : Type 0 where
  pub marks : HasMarks program image notes.marks
  pub names : notes.names ≡ field_names FIRST_FIELD (main_fields program)
