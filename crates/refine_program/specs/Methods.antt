-- The methods of a program in the order of its text, the numbers of their routines, and where class
-- tables lead.
use Rattle.std.specs.Prelude.{ℕ, zero, suc, ◌+◌, List, [], ◌∷◌, ◌++◌, length, map, slice_get}
use Rattle.std.specs.Prelude.{slice_index}
use Rattle.std.specs.Option.{unwrap_or}
use Rattle.refine_calls.specs.rpp_tree.declared.tree.Ident.{Ident}
use Rattle.refine_calls.specs.rpp_tree.Tree.{Procedure, ClassText, Source}
use Rattle.refine_calls.specs.class_rules.declared.method.MethodId.{MethodId}
use Rattle.refine_calls.specs.class_rules.First.{each_below}
use Rattle.refine_calls.specs.class_rules.Members.{no_procedure}
use Rattle.refine_calls.specs.class_rules.Classes.{class_slots, method_slot, dispatch, main_of}
use Rattle.static_layout.specs.roopl_semantics.Layout.{main_statics, tables}
use Rattle.refine_calls.specs.refine_form.Form.{Scope}

-- ---- the methods

-- a method with the number of the class that it is written in
pub record RoutineEntry : Type 0 where
  pub class : ℕ
  pub method : Procedure

-- the methods of a class
abbrev pub entries_of : ℕ → List Procedure → List RoutineEntry
entries_of class [] = []
entries_of class (method ∷ methods) = record { class = class; method = method }
    ∷ entries_of class methods

-- the methods of these classes, the first of which has this number
abbrev pub entries_from : ℕ → List ClassText → List RoutineEntry
entries_from number [] = []
entries_from number (class ∷ classes) =
    entries_of number class.methods ++ entries_from (number + 1) classes

-- all methods in the order of the text
abbrev pub entries : Source → List RoutineEntry
entries program = entries_from 0 program.classes

abbrev pub entry_at : List RoutineEntry → ℕ → RoutineEntry
entry_at methods number = unwrap_or (slice_get methods number)
    (record { class = 0; method = no_procedure })

-- what is visible at the beginning of a method: its parameters, the first of which is the innermost
-- variable
abbrev pub scope_at : RoutineEntry → Scope
scope_at entry = record { class = entry.class; vars = entry.method.params }

-- ---- the numbers of their routines, which are in the same order

-- how many methods come before a class
abbrev pub methods_before : List ClassText → ℕ → ℕ
methods_before [] class = 0
methods_before (first ∷ classes) zero = 0
methods_before (first ∷ classes) (suc class) = length first.methods + methods_before classes class

-- the number of a method's routine
abbrev pub routine_of : Source → MethodId → ℕ
routine_of program id = methods_before program.classes id.class + id.method

-- of the method that a call of the name finds on an object of the class
abbrev pub routine_in : Source → ℕ → Ident → ℕ
routine_in program class name =
    routine_of program (dispatch program class (unwrap_or (method_slot program class name.text) 0))

-- of `main`
abbrev pub main_routine : Source → ℕ
main_routine program = routine_of program (main_of program)

-- ---- the class tables, if all routines have these code addresses, and so many come before those
-- of the methods

-- the place of a method
abbrev pub method_place : Source → ℕ → List ℕ → MethodId → ℕ
method_place program before places id = slice_index places (before + routine_of program id)

-- those of the methods in the slots of a class
abbrev pub slot_places : Source → ℕ → List ℕ → ℕ → List ℕ
slot_places program before places class =
    map (λ slot. method_place program before places slot.1) (class_slots program class)

-- of each class
abbrev pub table_places : Source → ℕ → List ℕ → List (List ℕ)
table_places program before places =
    each_below (slot_places program before places) (length program.classes)

-- the static cells of an image with them
abbrev pub statics_of : Source → ℕ → List ℕ → List ℕ
statics_of program before places = main_statics program
    ++ tables 1 (table_places program before places)
