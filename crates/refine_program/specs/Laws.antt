-- An image that is linked of the code of `main` and a routine for each method implements its
-- program. The laws of fragments hold for it, without assumptions about its routines.
use Rattle.std.specs.Prelude.{◌≡◌, ℕ, ◌+◌, ◌<◌, ◌≤◌, true, List, [], ◌∷◌, ◌++◌, length, slice_get}
use Rattle.std.specs.Prelude.{Some, ◌*◌}
use Rattle.std.specs.Option.{unwrap_or}
use Rattle.refine_calls.specs.rpp_words.declared.input.Limits.{Limits}
use Rattle.refine_calls.specs.rpp_tree.declared.tree.Ident.{Ident}
use Rattle.refine_calls.specs.rpp_tree.Tree.{Procedure, Source}
use Rattle.refine_calls.specs.rpp_tree.declared.limits.TheConstants.{MOST_CLASSES, MOST_FIELDS, MOST_METHODS}
use Rattle.refine_calls.specs.class_rules.declared.method.MethodId.{MethodId}
use Rattle.refine_calls.specs.class_rules.Members.{class_at}
use Rattle.refine_calls.specs.class_rules.Classes.{method_named}
use Rattle.refine_calls.specs.class_rules.Table.{table_of, slot_in}
use Rattle.refine_calls.specs.class_rules.Inheritance.{is_or_inherits}
use Rattle.refine_calls.specs.class_rules.Program.{IsAccepted}
use Rattle.refine_calls.specs.pisa_isa.Image.{Segments}
use Rattle.refine_calls.specs.code_conventions.declared.memory.TheConstants.{HEADER_WORDS, TABLE_HEADER}
use Rattle.refine_calls.specs.paired_code.declared.part.Symbol.{Symbol}
use Rattle.refine_calls.specs.paired_code.Link.{link_positions, first_top, Linked}
use Rattle.static_layout.specs.roopl_semantics.StandsFor.{StandsFor}
use Rattle.refine_calls.specs.buddy_pisa.Promise.{AllocatorLaw}
use Rattle.refine_calls.specs.refine_form.Form.{MethodRoutines, MethodLaw, Owes}
use Rattle.refine_calls.specs.refine_form.Worlds.{Place, world_of}
use Rattle.refine_calls.specs.method_calls.Laws.{MainCode}
use Rattle.refine_calls.specs.Laws.{IsLinked, IsRouted}
use Rattle.refine_program.specs.Methods.{RoutineEntry, entries, entry_at, scope_at, routine_of, routine_in}
use Rattle.refine_program.specs.Methods.{main_routine, statics_of}

-- ---- the routines of the methods

-- a method that is there has the routine of its number
pub record HasRoutine (program : Source) (id : MethodId) (method : Procedure) : Type 0 where
  pub below : routine_of program id < length (entries program)
  pub entry : entry_at (entries program) (routine_of program id)
      ≡ record { class = id.class; method = method }

abbrev pub MethodsHaveRoutines : Type 0
MethodsHaveRoutines =
    (program : Source) (id : MethodId) (method : Procedure)
    → slice_get (class_at program id.class).methods id.method ≡ Some method
    → HasRoutine program id method

-- a call finds the routine of the method that its name means in the class of the object
pub record FindsRoutine (program : Source) (own : ℕ) (name : Ident) : Type 0 where
  pub entry : RoutineEntry
  pub there : entry_at (entries program) (routine_in program own name) ≡ entry
  pub below : routine_in program own name < length (entries program)
  pub method_is : entry.method ≡ method_named program own name.text
  pub class_inside : entry.class < length program.classes
  pub class_above : is_or_inherits program own entry.class ≡ true

abbrev pub CallsFindRoutines : Type 0
CallsFindRoutines =
    (program : Source) → IsAccepted program → (own class slot : ℕ) (name : Ident)
    → is_or_inherits program own class ≡ true → class < length program.classes
    → slot_in (table_of program) class name.text ≡ Some slot → FindsRoutine program own name

-- ---- their code

-- the code has the law of its method at every place of an image that is linked from the program
pub record IsRoutineCode (program : Source) (entry : RoutineEntry) (cells : List Symbol) : Type 0 where
  pub law : (place : Place) (routine : ℕ → Ident → ℕ) → IsLinked place routine
      → place.setting.program ≡ program
      → MethodLaw (world_of place) (scope_at entry) entry.method cells

-- one code for each of the methods
abbrev pub AreRoutineCodes : Source → List RoutineEntry → List (List Symbol) → Type 0
AreRoutineCodes program [] [] = Unit {0}
AreRoutineCodes program [] (body ∷ bodies) = ⊥
AreRoutineCodes program (entry ∷ methods) [] = ⊥
AreRoutineCodes program (entry ∷ methods) (body ∷ bodies) =
    IsRoutineCode program entry body × AreRoutineCodes program methods bodies

-- the codes of the first methods of a program, if these are left
pub record AreFirstCodes (program : Source) (bodies : List (List Symbol))
    (left : List RoutineEntry) : Type 0 where
  pub done : List RoutineEntry
  pub codes : AreRoutineCodes program done bodies
  pub all : done ++ left ≡ entries program

-- the code of all methods is made one by one: of none, of one more, of all
pub record CodesAreMade (program : Source) : Type 0 where
  pub begins : AreFirstCodes program [] (entries program)
  pub goes_on : (bodies : List (List Symbol)) (entry : RoutineEntry) (left : List RoutineEntry)
      (body : List Symbol)
      → AreFirstCodes program bodies (entry ∷ left) → IsRoutineCode program entry body
      → AreFirstCodes program (bodies ++ body ∷ []) left
  pub ends : (bodies : List (List Symbol)) → AreFirstCodes program bodies []
      → AreRoutineCodes program (entries program) bodies
  pub as_many : (bodies : List (List Symbol)) → AreRoutineCodes program (entries program) bodies
      → length bodies ≡ length (entries program)

abbrev pub CodesAreMadeInOrder : Type 0
CodesAreMadeInOrder = (program : Source) → CodesAreMade program

-- ---- the image

-- an image of an accepted program, linked of the code of `main`, of the heap's allocator, and of a
-- routine for each method
pub record IsProgramImage
    (program : Source) (main allocator : List Symbol) (bodies : List (List Symbol))
    (image : Segments) : Type 0 where
  pub accepted : IsAccepted program
  pub main_code : MainCode (1 + main_routine program) main
  pub allocates : AllocatorLaw allocator
  pub codes : AreRoutineCodes program (entries program) bodies
  pub linked : Linked main (allocator ∷ bodies)
      (record { code = image.code; routines = link_positions (first_top main) (allocator ∷ bodies) })
  pub statics : image.statics ≡ statics_of program 1 (link_positions (first_top main) (allocator ∷ bodies))

-- it implements the program
abbrev pub LinkedProgramsStand : Type 0
LinkedProgramsStand =
    (program : Source) (main allocator : List Symbol) (bodies : List (List Symbol))
    (image : Segments)
    → IsProgramImage program main allocator bodies image → StandsFor program image

-- ---- its place

-- the routines of the methods in the order of the source, with these bodies, whose tops are there:
-- the routine of the allocator comes before them
abbrev pub method_routines : Source → (bodies : List (List Symbol)) → (tops : ℕ → ℕ) → MethodRoutines
method_routines program bodies tops = record {
  count = length (entries program);
  number = λ r. 1 + r;
  scope = λ r. scope_at (entry_at (entries program) r);
  method = λ r. (entry_at (entries program) r).method;
  body = λ r. unwrap_or (slice_get bodies r) [];
  top = tops;
}

-- an image of the program with these routines, whose places are `starts`, and some limits
abbrev pub statement_address : Source → Segments → (starts : List ℕ) → (bodies : List (List Symbol))
    → (tops : ℕ → ℕ) → Limits → Place
statement_address program image starts bodies tops limits = record {
  setting = record { program = program; limits = limits };
  statics = image.statics;
  im = record { code = image.code; routines = starts };
  routines = method_routines program bodies tops;
}

-- The routines of the program are in the image at these code addresses: that of the allocator, and
-- one for each method, to which the class tables lead. Each does with any limits and fuel, in both
-- directions, what the source of its method says. So the laws of fragments hold in the image
-- without assumptions.
pub record HasRoutines (program : Source) (image : Segments) (starts : List ℕ) : Type 0 where
  pub no_more : length starts ≡ 1 + length (entries program)
  pub bodies : List (List Symbol)
  pub tops : ℕ → ℕ
  pub linked : (limits : Limits)
      → IsRouted (statement_address program image starts bodies tops limits) (routine_in program)
  pub owed : (limits : Limits) (fuel : ℕ)
      → Owes (world_of (statement_address program image starts bodies tops limits)) fuel

-- such an image has them
abbrev pub ProgramImagesHaveRoutines : Type 0
ProgramImagesHaveRoutines =
    (program : Source) (main allocator : List Symbol) (bodies : List (List Symbol))
    (image : Segments)
    → IsProgramImage program main allocator bodies image
    → HasRoutines program image (link_positions (first_top main) (allocator ∷ bodies))

-- ---- its static cells

-- a main object of as many fields, and as many tables of as many slots, as there may be
abbrev pub most_cells : ℕ
most_cells = HEADER_WORDS + MOST_FIELDS + MOST_CLASSES * (TABLE_HEADER + MOST_METHODS)

abbrev pub StaticsAreFew : Type 0
StaticsAreFew =
    (program : Source) → IsAccepted program → (before : ℕ) (link_positions : List ℕ)
    → length (statics_of program before link_positions) ≤ most_cells
