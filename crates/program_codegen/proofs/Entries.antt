-- The methods of a program, class by class and one by one, with the fragments of their routines.
use Rattle.std.proofs.Common.{◌≡◌, ◌∙◌, sym, ap, subst, refl, ℕ, suc, ◌+◌, ◌<◌, List, [], ◌∷◌, ◌++◌, length, map, take}
use Rattle.std.proofs.Common.{get_or, slice_get, Some, arith, append-nil, append_assoc}
use Rattle.std.specs.List.{AllZip}
use Rattle.std.proofs.lemmas.List.{map-append, take_more, length-take-le}
use Rattle.std.proofs.lemmas.Option.{slice_get_within, get_or_from_slice_get}
use Rattle.refine_program.specs.rpp_tree.declared.tree.Method.{Method}
use Rattle.refine_program.specs.rpp_tree.Tree.{Procedure, ClassText, Source}
use Rattle.refine_program.specs.rpp_tree.Views.{procedure_of}
use Rattle.refine_program.specs.paired_code.Code.{Code, bodies}
use Rattle.refine_program.specs.Methods.{RoutineEntry, entries_of, entries_from}
use Rattle.refine_program.specs.Laws.{AreRoutineCodes}
use Rattle.program_codegen.specs.Routines.{IsRoutine}

pub one_more : (class : ℕ) (methods : List Procedure) (method : Procedure)
    → entries_of class (methods ++ method ∷ []) ≡ entries_of class methods ++ record { class = class; method = method }
    ∷ []
one_more class [] method = refl
one_more class (m ∷ methods) method = ap (λ es. record { class = class; method = m } ∷ es)
    (one_more class methods method)

pub class_more : (number : ℕ) (classes : List ClassText) (class : ClassText)
    → entries_from number (classes ++ class ∷ []) ≡ entries_from number classes
    ++ entries_of (number + length classes) class.methods
class_more number [] class =
    let e : number ≡ number + 0 = omega arith in
    append-nil (entries_of number class.methods) ∙ ap (λ n. entries_of n class.methods) e
class_more number (c ∷ classes) class =
    let e : number + 1 + length classes ≡ number + suc (length classes) = omega arith in
    ap (λ es. entries_of number c.methods ++ es) (class_more (number + 1) classes class)
    ∙ ap (λ n. entries_of number c.methods ++ (entries_from (number + 1) classes ++ entries_of n class.methods)) e
    ∙ sym (append_assoc (entries_of number c.methods) (entries_from (number + 1) classes)
    (entries_of (number + suc (length classes)) class.methods))

pub zip_append : {A B : Type 0} (P : A → B → Type 0) (xs : List A) (ys : List B) (us : List A) (vs : List B)
    → AllZip P xs ys → AllZip P us vs → AllZip P (xs ++ us) (ys ++ vs)
zip_append P [] [] us vs h k = k
zip_append P [] (y ∷ ys) us vs h k = absurd h
zip_append P (x ∷ xs) [] us vs h k = absurd h
zip_append P (x ∷ xs) (y ∷ ys) us vs h k = (h.0, zip_append P xs ys us vs h.1 k)

module _ (program : Source) where
  pub codes_of : (es : List RoutineEntry) (ps : List Code) → AllZip (IsRoutine program) es ps
      → AreRoutineCodes program es (bodies ps)
  codes_of [] [] h = tt
  codes_of [] (p ∷ ps) h = absurd h
  codes_of (e ∷ es) [] h = absurd h
  codes_of (e ∷ es) (p ∷ ps) h = (h.0.law, codes_of es ps h.1)

  -- one method more of a class
  pub method_pushed : (class : ℕ) (methods : List Method) (k : ℕ) (x : Method) (before after : List Code) (p : Code)
      → k < length methods → x ≡ get_or methods k x
      → after ≡ before ++ p ∷ [] → IsRoutine program (record { class = class; method = procedure_of x }) p
      → AllZip (IsRoutine program) (entries_of class (map procedure_of (take k methods))) before
      → AllZip (IsRoutine program) (entries_of class (map procedure_of (take (k + 1) methods))) after
  method_pushed class methods k x before after p h is pushed routine so_far =
      let front = take k methods in
      let more : take (k + 1) methods ≡ front ++ x ∷ [] = take_more methods k x h
      ∙ ap (λ y. front ++ y ∷ []) (sym is) in
      let named : entries_of class (map procedure_of (take (k + 1) methods))
      ≡ entries_of class (map procedure_of front) ++ record { class = class; method = procedure_of x } ∷ [] =
      ap (λ ms. entries_of class (map procedure_of ms)) more
      ∙ ap (entries_of class) (map-append procedure_of front (x ∷ []))
      ∙ one_more class (map procedure_of front) (procedure_of x)
      in
      subst (λ es. AllZip (IsRoutine program) es after) (sym named)
      (subst (AllZip (IsRoutine program) (entries_of class (map procedure_of front)
      ++ record { class = class; method = procedure_of x } ∷ [])) (sym pushed)
      (zip_append (IsRoutine program) (entries_of class (map procedure_of front)) before
      (record { class = class; method = procedure_of x } ∷ []) (p ∷ []) so_far (routine, tt)))

  -- those of one class more
  pub class_pushed : (classes : List ClassText) (k : ℕ) (c : ClassText) (methods : List Procedure)
      (before more after : List Code) → slice_get classes k ≡ Some c → methods ≡ c.methods
      → after ≡ before ++ more → AllZip (IsRoutine program) (entries_of k methods) more
      → AllZip (IsRoutine program) (entries_from 0 (take k classes)) before
      → AllZip (IsRoutine program) (entries_from 0 (take (k + 1) classes)) after
  class_pushed classes k c methods before more after there is pushed routines so_far =
      let front = take k classes in
      let low = slice_get_within classes k c there in
      let here : get_or classes k c ≡ c = get_or_from_slice_get classes k c c there in
      let one : take (k + 1) classes ≡ front ++ c ∷ [] = take_more classes k c low ∙ ap (λ y. front ++ y ∷ []) here in
      let number : 0 + length front ≡ k = omega (arith, length-take-le k classes (omega (arith, low))) in
      let named : entries_from 0 (take (k + 1) classes) ≡ entries_from 0 front ++ entries_of k methods =
      ap (entries_from 0) one ∙ class_more 0 front c ∙ ap (λ n. entries_from 0 front ++ entries_of n c.methods) number
      ∙ ap (λ ms. entries_from 0 front ++ entries_of k ms) (sym is)
      in
      subst (λ es. AllZip (IsRoutine program) es after) (sym named)
      (subst (AllZip (IsRoutine program) (entries_from 0 front ++ entries_of k methods)) (sym pushed)
      (zip_append (IsRoutine program) (entries_from 0 front) before (entries_of k methods) more so_far routines))
