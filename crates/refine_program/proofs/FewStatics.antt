-- The static cells of an accepted program are few, since its classes, their fields and their slots are.
use Rattle.std.proofs.Common.{◌≡◌, ℕ, zero, suc, ◌+◌, ◌*◌, ◌<◌, ◌≤◌, Bool, true, false, List, [], ◌∷◌, ◌++◌, length}
use Rattle.std.proofs.Common.{Option, Some, None, refl, sym, ap, ◌∙◌, arith, length-append, nat_lt, slice_get}
use Rattle.std.proofs.lemmas.List.{length-map, length-replicate}
use Rattle.refine_calls.specs.code_conventions.declared.memory.TheConstants.{HEADER_WORDS, TABLE_HEADER}
use Rattle.refine_calls.specs.rpp_tree.Tree.{Source}
use Rattle.refine_calls.specs.rpp_tree.declared.limits.TheConstants.{MOST_FIELDS, MOST_METHODS}
use Rattle.refine_calls.specs.class_rules.First.{each_below}
use Rattle.refine_calls.specs.class_rules.Classes.{class_slots, main_of}
use Rattle.refine_calls.specs.class_rules.Program.{IsAccepted}
use Rattle.static_layout.specs.roopl_semantics.Source.{main_fields}
use Rattle.static_layout.specs.roopl_semantics.Layout.{main_statics, tables}
use Rattle.static_layout.proofs.roopl_semantics_laws.MainPlace.{class_inside}
use Rattle.static_layout.proofs.Counted.{fields_few, slots_few}
use Rattle.refine_program.specs.Methods.{slot_places, table_places}
use Rattle.refine_program.specs.Laws.{StaticsAreFew}

-- one table more
long_tables : (number : ℕ) (rows : List (List ℕ)) (last : List ℕ)
    → length (tables number (rows ++ last ∷ [])) ≡ length (tables number rows) + (TABLE_HEADER + length last)
long_tables number [] last = let a = length-append last [] in omega (arith, a)
long_tables number (row ∷ rows) last =
    let h = long_tables (number + 1) rows last in
    let a = length-append row (tables (number + 1) (rows ++ last ∷ [])) in
    let b = length-append row (tables (number + 1) rows) in
    omega (arith, h, a, b)

few_cells : (row : ℕ → List ℕ) (n : ℕ) → ((class : ℕ) → class < n → length (row class) ≤ MOST_METHODS)
    → length (tables 1 (each_below row n)) ≤ (TABLE_HEADER + MOST_METHODS) * n
few_cells row zero few = omega arith
few_cells row (suc n) few =
    let h = few_cells row n (λ class l. few class (omega arith)) in
    let here = few n (omega arith) in
    let long = long_tables 1 (each_below row n) (row n) in
    omega (arith, h, here, long)

pub statics_are_few : StaticsAreFew
statics_are_few program accepted before places =
    let row = slot_places program before places in
    let slots = few_cells row (length program.classes) (λ class l. let few = slots_few program accepted class l in
    let m : length (row class) ≡ length (class_slots program class) = length-map (class_slots program class) _ in
    omega (arith, few, m)) in
    let fields : length (main_fields program) ≤ MOST_FIELDS = fields_few program accepted (main_of program).class
    (class_inside program accepted) in
    let classes = accepted.limits.classes_few in
    let front : length (main_statics program) ≡ HEADER_WORDS + length (main_fields program) =
    omega (arith, length-replicate {A = ℕ} (length (main_fields program)) 0) in
    let whole = length-append (main_statics program) (tables 1 (table_places program before places)) in
    omega (arith, slots, fields, classes, front, whole)
