-- What is kept for readers of a heap, name by name.
use Rattle.std.proofs.Common.{◌≡◌, ℕ, zero, suc, ◌+◌, ◌<◌, ◌≤◌, refl, sym, ap, ◌∙◌, arith, List, [], ◌∷◌, ◌++◌, length}
use Rattle.std.proofs.Common.{length-append, Bool, true, false, Option, Some, None}
use Rattle.std.proofs.lemmas.Bool.{eqb-true, eqb-false, ltb-true, ltb-false}
use Rattle.std.proofs.lemmas.Option.{slice_get_past}
use Rattle.std.specs.Prelude.{slice_get, nat_eq, nat_lt}
use Rattle.std.specs.Option.{unwrap_or, option_map}
use Rattle.source_execution.specs.roopl_semantics.Store.{object_named}
use Rattle.source_execution.specs.source_store.HeapView.{Kept}
use Rattle.source_meaning.specs.declared.store.Object.{Object as Seen}
use Rattle.source_meaning.specs.Numbers.{Numbers, numbers_of, seen_object, AreNumbers}

abbrev kept_at : List (Option Seen) → ℕ → Option Numbers
kept_at objects name = option_map seen_object (unwrap_or (slice_get objects name) None)

-- the names below this one are kept
pub record AreListed (heap : Kept) (objects : List (Option Seen)) (below : ℕ) : Type 0 where
  pub size : length objects ≡ below
  pub each : (name : ℕ) → name < below → kept_at objects name ≡ option_map numbers_of (object_named heap.store name)

pushed_before : {A : Type 0} (xs : List A) (x : A) (k : ℕ) → k < length xs → slice_get (xs ++ x ∷ []) k ≡ slice_get xs k
pushed_before [] x k h = absurd (omega arith)
pushed_before (y ∷ xs) x zero h = refl
pushed_before (y ∷ xs) x (suc k) h = pushed_before xs x k (omega arith)

pushed_last : {A : Type 0} (xs : List A) (x : A) → slice_get (xs ++ x ∷ []) (length xs) ≡ Some x
pushed_last [] x = refl
pushed_last (y ∷ xs) x = pushed_last xs x

pub listed_next : (heap : Kept) (objects new : List (Option Seen)) (below : ℕ) (x : Option Seen)
    → AreListed heap objects below
    → option_map seen_object x ≡ option_map numbers_of (object_named heap.store below) → new ≡ objects ++ x ∷ []
    → AreListed heap new (below + 1)
listed_next heap objects new below x l e n = record {
  size = ap length n ∙ length-append objects (x ∷ []) ∙ ap (λ k. k + 1) l.size;
  each = λ name h. by name h (nat_eq name below) refl;
}
  where
    by : (name : ℕ) → name < below + 1 → (t : Bool) → nat_eq name below ≡ t
        → kept_at new name ≡ option_map numbers_of (object_named heap.store name)
    by name h true t =
        let same : name ≡ below = eqb-true name below t in
        let there : name ≡ length objects = same ∙ sym l.size in
        ap (λ xs. kept_at xs name) n
        ∙ ap (kept_at (objects ++ x ∷ [])) there
        ∙ ap (λ o. option_map seen_object (unwrap_or o None)) (pushed_last objects x)
        ∙ e ∙ ap (λ k. option_map numbers_of (object_named heap.store k)) (sym same)
    by name h false t =
        let other : name ≡ below → ⊥ = eqb-false name below t in
        let s = l.size in
        let within : name < below = omega (arith, other) in
        ap (λ xs. kept_at xs name) n
        ∙ ap (λ o. option_map seen_object (unwrap_or o None)) (pushed_before objects x name (omega arith))
        ∙ l.each name within

pub all_listed : (heap : Kept) (objects : List (Option Seen)) (below : ℕ) → AreListed heap objects below
    → ((name : ℕ) → below ≤ name → object_named heap.store name ≡ None) → AreNumbers heap objects
all_listed heap objects below l past = record { each = λ name. by name (nat_lt name below) refl }
  where
    by : (name : ℕ) (t : Bool) → nat_lt name below ≡ t → kept_at objects name
        ≡ option_map numbers_of (object_named heap.store name)
    by name true t = l.each name (ltb-true name below t)
    by name false t =
        let h : below ≤ name = ltb-false name below t in
        let s = l.size in
        ap (λ o. option_map seen_object (unwrap_or o None)) (slice_get_past objects name (omega arith))
        ∙ ap (option_map numbers_of) (sym (past name h))
