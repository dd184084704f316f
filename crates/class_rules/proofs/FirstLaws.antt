-- The first refusal of a list is the first.
use Rattle.std.proofs.Common.{◌≡◌, ◌∙◌, sym, ap, ℕ, zero, suc, ◌<◌, List, [], ◌∷◌, Option, Some, None, refl, slice_get}
use Rattle.std.proofs.Common.{arith}
use Rattle.std.specs.Option.{option_or}
use Rattle.class_rules.specs.First.{first_in}
use Rattle.class_rules.specs.Laws.{IsRefusedFirst}

later : {A E : Type 0} (rule : A → Option E) (x : A) (xs : List A) (error : E) → rule x ≡ None
    → IsRefusedFirst rule xs error → IsRefusedFirst rule (x ∷ xs) error
later {A} rule x xs error none first = record {
  number = suc first.number;
  element = first.element;
  there = first.there;
  refused = first.refused;
  passed = passes;
}
  where
    passes : (k : ℕ) (y : A) → k < suc first.number → slice_get (x ∷ xs) k ≡ Some y → rule y ≡ None
    passes zero y h at = let e : x ≡ y = cc in ap rule (sym e) ∙ none
    passes (suc k) y h at = first.passed k y (omega arith) at

split : {A E : Type 0} (rule : A → Option E) (x : A) (xs : List A) (error : E)
    → (first_in rule xs ≡ Some error → IsRefusedFirst rule xs error) → (r : Option E) → rule x ≡ r
    → option_or r (first_in rule xs) ≡ Some error → IsRefusedFirst rule (x ∷ xs) error
split rule x xs error rest None none h = later rule x xs error none (rest h)
split rule x xs error rest (Some e) some h = record {
  number = 0;
  element = x;
  there = refl;
  refused = some ∙ h;
  passed = λ k y lt at. absurd (omega arith);
}

pub first_in-first : {A E : Type 0} (rule : A → Option E) (xs : List A) (error : E) → first_in rule xs ≡ Some error
    → IsRefusedFirst rule xs error
first_in-first rule [] error h = absurd (cc)
first_in-first rule (x ∷ xs) error h = split rule x xs error (first_in-first rule xs error) (rule x) refl h
