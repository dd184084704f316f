-- The last of the kept steps can be undone.
use Rattle.std.proofs.Common.{◌≡◌, ◌≢◌, ◌∙◌, sym, ap, subst, refl, ℕ, suc, List, [], ◌∷◌, ◌++◌, Some, arith}
use Rattle.std.specs.List.{All}
use Rattle.pisa_cluster.specs.declared.processor.Kept.{Kept}
use Rattle.pisa_cluster.specs.declared.cluster.Undone.TheVariants.{Blocked}
use Rattle.pisa_cluster.specs.Schedules.{Schedule, LastOf, Undoes, next_touch}

abbrev last_of : Kept → List Kept → Kept
last_of k [] = k
last_of k (j ∷ js) = last_of j js

last-snoc : (k : Kept) (xs : List Kept) (x : Kept) → last_of k (xs ++ x ∷ []) ≡ x
last-snoc k [] x = refl
last-snoc k (y ∷ ys) x = last-snoc y ys x

last-append : (k : Kept) (xs : List Kept) (j : Kept) (js : List Kept) → last_of k (xs ++ j ∷ js) ≡ last_of j js
last-append k [] j js = refl
last-append k (y ∷ ys) j js = last-append y ys j js

all_last : (P : Kept → Type 0) (k : Kept) (ks : List Kept) → All P (k ∷ ks) → P (last_of k ks)
all_last P k [] h = h 0 k (omega arith)
all_last P k (j ∷ js) h = all_last P j js (λ i d l. h (suc i) d (omega arith))

-- nothing comes after the last step of its processor
free_by : (who : ℕ) (earlier : List Kept) (step : Kept) (front : List Kept) (own : Kept) (later : List Kept)
    (touched : Kept) → earlier ++ step ∷ [] ≡ front ++ own ∷ later → step.who ≡ who
    → All (λ (k : Kept). k.who ≢ who) later → next_touch own later ≡ Some touched → ⊥
free_by who earlier step front own [] touched whole mine others touches = cc
free_by who earlier step front own (k ∷ ks) touched whole mine others touches =
    let same : step ≡ last_of k ks = sym (last-snoc step earlier step) ∙ ap (last_of step) whole
    ∙ last-append step front own (k ∷ ks) in
    all_last (λ (j : Kept). j.who ≢ who) k ks others (sym (ap (λ (j : Kept). j.who) same) ∙ mine)

pub last_free : (c d : Schedule) (earlier : List Kept) (step : Kept) (other serial : ℕ) → c.kept ≡ earlier ++ step ∷ []
    → Undoes step.who (Blocked other serial) c d → ⊥
last_free c d earlier step other serial kept blocked =
    free_by step.who earlier step blocked.last.earlier blocked.last.step blocked.last.later blocked.step
    (sym kept ∙ blocked.last.whole) refl blocked.last.last blocked.touches
