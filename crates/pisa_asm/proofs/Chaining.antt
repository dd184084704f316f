-- What comes after a result that was put together.
use Rattle.std.proofs.Common.{◌≡◌, refl, ℕ, Bool, true, false, cond, Option, Some, None, Result, Ok, Err}
use Rattle.std.specs.Option.{option_map, option_and_then}
use Rattle.pisa_asm.specs.Chain.{and_then}

pub ok_then : {T U E : Type 0} (o : Result T E) (next : T → Result U E) (u : U) → and_then o next ≡ Ok u
    → (x : T) × (o ≡ Ok x) × (next x ≡ Ok u)
ok_then (Ok x) next u h = (x, refl, h)
ok_then (Err e) next u h = absurd (cc)

pub some_then : {T U : Type 0} (f : T → Option U) (o : Option T) (u : U) → option_and_then f o ≡ Some u
    → (x : T) × (o ≡ Some x) × (f x ≡ Some u)
some_then f None u h = absurd (cc)
some_then f (Some x) u h = (x, refl, h)

pub some_map : {T U : Type 0} (f : T → U) (o : Option T) (u : U) → option_map f o ≡ Some u
    → (x : T) × (o ≡ Some x) × (u ≡ f x)
some_map f None u h = absurd (cc)
some_map f (Some x) u h = (x, refl, cc)

-- a test that led to a value holds
pub tested : {T : Type 0} (b : Bool) (o : Option T) (x : T) → cond b o None ≡ Some x → (b ≡ true) × (o ≡ Some x)
tested true o x h = (refl, h)
tested false o x h = absurd (cc)
