-- The fragment of a method's routine, and the numbers of routines.
use Rattle.std.specs.Prelude.{◌≡◌, ℕ, ◌+◌, ◌*◌, ◌≤◌, List, [], ◌∷◌, length}
use Rattle.std.specs.List.{AllZip}
use Rattle.refine_program.specs.rpp_tree.Parts.{block_tokens}
use Rattle.refine_program.specs.rpp_tree.Tree.{Source}
use Rattle.refine_program.specs.class_rules.First.{each_below}
use Rattle.refine_program.specs.paired_code.Code.{Code}
use Rattle.refine_program.specs.buddy_pisa.Promise.{AllocatorLaw}
use Rattle.statement_codegen.specs.Ranges.{MarksOf}
use Rattle.statement_codegen.specs.Pieces.{IsRowCode, cells_a_token}
use Rattle.refine_program.specs.Methods.{RoutineEntry, entries, methods_before}
use Rattle.refine_program.specs.Laws.{IsRoutineCode}
use Rattle.program_codegen.specs.Notes.{method_rows, unmarked_from}

-- it has the law of the method, a mark for each of its statements, and so many cells
pub record IsRoutine (program : Source) (entry : RoutineEntry) (p : Code) : Type 0 where
  pub law : IsRoutineCode program entry p.cells
  pub marks : MarksOf (IsRowCode program) (method_rows entry) p
  pub size : length p.cells ≤ cells_a_token * block_tokens entry.method.body + 8
  pub few : length p.marks ≤ block_tokens entry.method.body
  -- except for a few cells around it, it is that of the method's block
  pub unmarked : unmarked_from p.marks 0 (length p.cells) ≤ 8

-- the allocator of the heap: it has its law, no mark, and so many cells
pub record IsAllocator (p : Code) : Type 0 where
  pub law : AllocatorLaw p.cells
  pub marks : p.marks ≡ []
  pub size : length p.cells ≡ 100

-- the allocator, and a routine for each method
pub record AreRoutines (program : Source) (pieces : List Code) : Type 0 where
  pub allocator : Code
  pub methods : List Code
  pub all : pieces ≡ allocator ∷ methods
  pub allocates : IsAllocator allocator
  pub codes : AllZip (IsRoutine program) (entries program) methods

-- how many methods come before each class
abbrev pub first_numbers : Source → List ℕ
first_numbers program = each_below (methods_before program.classes) (length program.classes)
