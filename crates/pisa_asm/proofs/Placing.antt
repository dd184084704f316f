-- A map of labels and the labels in their order.
use Rattle.std.proofs.Common.{◌≡◌, ap, refl, ℕ, Bool, true, false, List, [], ◌∷◌, ◌++◌, Some, None}
use Rattle.std.specs.Str.{bytes_eq}
use Rattle.indexmap.specs.IndexMap.{insert_entry}
use Rattle.pisa_asm.specs.LabelNames.{Labels, label_address}

-- a label with a new name goes last
pub not_placed : (labels : Labels) (name : List ℕ) (place : ℕ) → label_address name labels ≡ None
    → insert_entry bytes_eq labels name place ≡ labels ++ (name, place) ∷ []
not_placed [] name place e = refl
not_placed (label ∷ labels) name place e = by_case (bytes_eq name label.0) refl e (not_placed labels name place)
  where
    by_case : (t : Bool) → bytes_eq name label.0 ≡ t → label_address name (label ∷ labels) ≡ None
        → (label_address name labels ≡ None → insert_entry bytes_eq labels name place ≡ labels ++ (name, place) ∷ [])
        → insert_entry bytes_eq (label ∷ labels) name place ≡ (label ∷ labels) ++ (name, place) ∷ []
    by_case true f e rest = absurd (let g : Some label.1 ≡ None = rw f at e in (cc))
    by_case false f e rest = rw f (ap (λ ls. label ∷ ls) (rest (rw f at e)))
