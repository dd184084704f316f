-- The number of a method among all of a program, and how the code of all is made one by one.
use Rattle.std.proofs.Common.{◌≡◌, ℕ, zero, suc, ◌+◌, ◌<◌, List, [], ◌∷◌, ◌++◌, length, Some, refl, sym, ap, ◌∙◌, subst}
use Rattle.std.proofs.Common.{arith, length-append, append-nil, append_assoc}
use Rattle.std.proofs.lemmas.Option.{slice_get_within}
use Rattle.std.specs.Prelude.{slice_get}
use Rattle.std.specs.Option.{unwrap_or}
use Rattle.refine_calls.specs.rpp_tree.declared.tree.Ident.{Ident}
use Rattle.refine_calls.specs.rpp_tree.Tree.{Procedure, ClassText, Source}
use Rattle.refine_calls.specs.class_rules.Members.{no_class}
use Rattle.refine_calls.specs.class_rules.Classes.{method_named}
use Rattle.refine_calls.specs.class_rules.Inheritance.{is_or_inherits}
use Rattle.refine_calls.proofs.class_rules_laws.FoundMethods.{Dispatched, dispatched_method, own_range}
use Rattle.refine_calls.specs.paired_code.declared.part.Symbol.{Symbol}
use Rattle.refine_program.specs.Methods.{RoutineEntry, entries_of, entries_from, entries, entry_at, methods_before}
use Rattle.refine_program.specs.Methods.{routine_of}
use Rattle.refine_program.specs.Methods.{routine_in}
use Rattle.refine_program.specs.Laws.{MethodsHaveRoutines, FindsRoutine, CallsFindRoutines, IsRoutineCode}
use Rattle.refine_program.specs.Laws.{AreRoutineCodes, CodesAreMadeInOrder}

-- ---- the entry of a method

entry_of : (class : ℕ) (methods : List Procedure) (rest : List RoutineEntry) (n : ℕ) (m : Procedure)
    → slice_get methods n ≡ Some m → entry_at (entries_of class methods ++ rest) n
    ≡ record { class = class; method = m }
entry_of class [] rest n m h = absurd (cc)
entry_of class (x ∷ methods) rest zero m h = let e : x ≡ m = cc in ap (λ z. record { class = class; method = z }) e
entry_of class (x ∷ methods) rest (suc n) m h = entry_of class methods rest n m h

entry_past : (class : ℕ) (methods : List Procedure) (rest : List RoutineEntry) (n k : ℕ) → n ≡ length methods + k
    → entry_at (entries_of class methods ++ rest) n ≡ entry_at rest k
entry_past class [] rest n k e = let q : n ≡ k = omega (arith, e) in ap (entry_at rest) q
entry_past class (x ∷ methods) rest zero k e = absurd (omega (arith, e))
entry_past class (x ∷ methods) rest (suc n) k e = entry_past class methods rest n k (omega (arith, e))

entry_from : (number : ℕ) (classes : List ClassText) (class n : ℕ) (m : Procedure)
    → slice_get (unwrap_or (slice_get classes class) no_class).methods n ≡ Some m
    → entry_at (entries_from number classes) (methods_before classes class + n)
    ≡ record { class = number + class; method = m }
entry_from number [] class n m h = absurd (cc)
entry_from number (c ∷ classes) zero n m h =
    let z : 0 + n ≡ n = omega arith in
    let q : number ≡ number + 0 = omega arith in
    ap (entry_at (entries_from number (c ∷ classes))) z ∙ entry_of number c.methods (entries_from (number + 1) classes)
    n m h ∙ ap (λ k. record { class = k; method = m }) q
entry_from number (c ∷ classes) (suc class) n m h =
    let z : length c.methods + methods_before classes class + n
    ≡ length c.methods + (methods_before classes class + n) = omega arith in
    let q : number + 1 + class ≡ number + suc class = omega arith in
    entry_past number c.methods (entries_from (number + 1) classes)
    (length c.methods + methods_before classes class + n) (methods_before classes class + n) z
    ∙ entry_from (number + 1) classes class n m h ∙ ap (λ k. record { class = k; method = m }) q

long_of : (class : ℕ) (methods : List Procedure) → length (entries_of class methods) ≡ length methods
long_of class [] = refl
long_of class (x ∷ methods) = ap suc (long_of class methods)

below_from : (number : ℕ) (classes : List ClassText) (class n : ℕ) (m : Procedure)
    → slice_get (unwrap_or (slice_get classes class) no_class).methods n ≡ Some m
    → methods_before classes class + n < length (entries_from number classes)
below_from number [] class n m h = absurd (cc)
below_from number (c ∷ classes) zero n m h =
    let l = slice_get_within c.methods n m h in
    let a = length-append (entries_of number c.methods) (entries_from (number + 1) classes) in
    let b = long_of number c.methods in
    omega (arith, l, a, b)
below_from number (c ∷ classes) (suc class) n m h =
    let r = below_from (number + 1) classes class n m h in
    let a = length-append (entries_of number c.methods) (entries_from (number + 1) classes) in
    let b = long_of number c.methods in
    omega (arith, r, a, b)

pub methods_have_routines : MethodsHaveRoutines
methods_have_routines program id m h = record {
  below = below_from 0 program.classes id.class id.method m h;
  entry = entry_from 0 program.classes id.class id.method m h
      ∙ (let q : 0 + id.class ≡ id.class = omega arith in ap (λ k. record { class = k; method = m }) q);
}

-- ---- the routine that a call finds

pub found_routine : (program : Source) (own class slot : ℕ) (name : Ident)
    (d : Dispatched program own class slot name.text) → FindsRoutine program own name
found_routine program own class slot name d =
    let method = method_named program own name.text in
    let here : routine_in program own name ≡ routine_of program d.id = ap (routine_of program) d.id_is in
    let has = methods_have_routines program d.id method d.there in
    record {
      entry = record { class = d.id.class; method = method };
      there = ap (entry_at (entries program)) here ∙ has.entry;
      below = subst (λ r. r < length (entries program)) (sym here) has.below;
      method_is = refl;
      class_inside = subst (λ c. c < length program.classes) d.class_is d.found.inside;
      class_above = ap (is_or_inherits program own) (sym d.class_is) ∙ d.found.above;
    }

pub calls_find_routines : CallsFindRoutines
calls_find_routines program accepted own class slot name above inside is =
    found_routine program own class slot name (dispatched_method program accepted own class slot name.text
    (own_range program own class above inside) above is)

-- ---- code by code

one_more : (program : Source) (done : List RoutineEntry) (bodies : List (List Symbol)) (entry : RoutineEntry)
    (body : List Symbol)
    → AreRoutineCodes program done bodies → IsRoutineCode program entry body
    → AreRoutineCodes program (done ++ entry ∷ []) (bodies ++ body ∷ [])
one_more program [] [] entry body h c = (c, tt)
one_more program [] (b ∷ bodies) entry body h c = absurd h
one_more program (e ∷ done) [] entry body h c = absurd h
one_more program (e ∷ done) (b ∷ bodies) entry body h c = (h.0, one_more program done bodies entry body h.1 c)

pub as_many : (program : Source) (done : List RoutineEntry) (bodies : List (List Symbol))
    → AreRoutineCodes program done bodies
    → length bodies ≡ length done
as_many program [] [] h = refl
as_many program [] (b ∷ bodies) h = absurd h
as_many program (e ∷ done) [] h = absurd h
as_many program (e ∷ done) (b ∷ bodies) h = ap suc (as_many program done bodies h.1)

pub codes_are_made_in_order : CodesAreMadeInOrder
codes_are_made_in_order program = record {
  begins = record { done = []; codes = tt; all = refl };
  goes_on = λ bodies entry left body first code. record {
    done = first.done ++ entry ∷ [];
    codes = one_more program first.done bodies entry body first.codes code;
    all = append_assoc first.done (entry ∷ []) left ∙ first.all;
  };
  ends = λ bodies first. subst (λ es. AreRoutineCodes program es bodies) (sym (append-nil first.done) ∙ first.all)
      first.codes;
  as_many = as_many program (entries program);
}

-- the code of an entry by its number
pub code_at : (program : Source) (es : List RoutineEntry) (bodies : List (List Symbol))
    → AreRoutineCodes program es bodies
    → (r : ℕ) → r < length es → IsRoutineCode program (entry_at es r) (unwrap_or (slice_get bodies r) [])
code_at program [] bodies h r l = absurd (omega arith)
code_at program (e ∷ es) [] h r l = absurd h
code_at program (e ∷ es) (b ∷ bodies) h zero l = h.0
code_at program (e ∷ es) (b ∷ bodies) h (suc r) l = code_at program es bodies h.1 r (omega arith)
