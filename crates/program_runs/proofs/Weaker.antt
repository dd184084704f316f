-- What holds of a result, in a weaker form.
use Rattle.std.proofs.Common.{Ok, Err}
use Rattle.std.specs.Prelude.{Result, IfOk, OnOk}

-- what holds for a result holds in a weaker form
pub weaken : {A E : Type 0} (r : Result A E) (P Q : A → Type 0) → ((x : A) → P x → Q x) → IfOk r P → IfOk r Q
weaken (Ok x) P Q f h = f x h
weaken (Err e) P Q f h = tt

-- the same, with what holds after every result that is no error
pub weaken_with : {A E : Type 0} (r : Result A E) (C : Type 0) (P Q : A → Type 0) → (C → (x : A) → P x → Q x) → OnOk r C
    → IfOk r P → IfOk r Q
weaken_with (Ok x) C P Q f c h = f c x h
weaken_with (Err e) C P Q f c h = tt
