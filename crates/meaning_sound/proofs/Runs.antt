-- What holds for the result of a run that is done.
use Rattle.std.proofs.Common.{◌≡◌, refl, subst, ℕ, Bool, true, false}
use Rattle.std.specs.Prelude.{Result, Ok, Err}
use Rattle.roopl_semantics.specs.Run.{Run, Done, Fault, More, after_cost, given, ◌>>=◌, fault_if}

abbrev pub Ends : {A : Type 0} → (A → Type 0) → Run A → Type 0
Ends P (Done result cost) = P result
Ends P (Fault code cost) = Unit {0}
Ends P More = Unit {0}

pub ends_after : {A : Type 0} (P : A → Type 0) (cost : ℕ) (r : Run A) → Ends P r → Ends P (after_cost cost r)
ends_after P cost (Done result c) h = h
ends_after P cost (Fault code c) h = tt
ends_after P cost More h = tt

pub ends_then : {A B : Type 0} (P : A → Type 0) (Q : B → Type 0) (r : Run A) (next : A → Run B) → Ends P r
    → ((a : A) → P a → Ends Q (next a)) → Ends Q (r >>= next)
ends_then P Q (Done result cost) next h k = ends_after Q cost (next result) (k result h)
ends_then P Q (Fault code cost) next h k = tt
ends_then P Q More next h k = tt

-- after a test that found no fault
pub ends_check : {B : Type 0} (Q : B → Type 0) (code : ℕ) (b : Bool) (next : Unit {0} → Run B)
    → (b ≡ false → Ends Q (next tt)) → Ends Q (fault_if code b >>= next)
ends_check Q code true next k = tt
ends_check Q code false next k = ends_after Q 0 (next tt) (k refl)

-- after a test that counted
pub ends_checked : {B : Type 0} (Q : B → Type 0) (cost code : ℕ) (b : Bool) (next : Unit {0} → Run B)
    → (b ≡ false → Ends Q (next tt)) → Ends Q (after_cost cost (fault_if code b) >>= next)
ends_checked Q cost code true next k = tt
ends_checked Q cost code false next k = ends_after Q _ (next tt) (k refl)

-- after a value or a place that was found
pub ends_given : {A B : Type 0} (Q : B → Type 0) (cost : ℕ) (r : Result A ℕ) (next : A → Run B)
    → ((a : A) → r ≡ Ok a → Ends Q (next a)) → Ends Q (after_cost cost (given r) >>= next)
ends_given Q cost (Ok a) next k = ends_after Q _ (next a) (k a refl)
ends_given Q cost (Err code) next k = tt

pub ends_done : {A : Type 0} (P : A → Type 0) (r : Run A) (result : A) (cost : ℕ) → Ends P r → r ≡ Done result cost
    → P result
ends_done P r result cost h e = subst (Ends P) e h

pub ends_more : {A : Type 0} (P Q : A → Type 0) (r : Run A) → ((a : A) → P a → Q a) → Ends P r → Ends Q r
ends_more P Q (Done result cost) k h = k result h
ends_more P Q (Fault code cost) k h = tt
ends_more P Q More k h = tt
