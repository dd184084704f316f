-- The last of a list, and what the innermost open statement is.
use Rattle.std.proofs.Common.{◌≡◌, ◌-◌, suc, refl, ap, ◌∙◌, arith, List, [], ◌∷◌, ◌++◌, map, reverse, length, Some}
use Rattle.std.specs.Prelude.{slice_get}
use Rattle.source_blocks.specs.declared.frames.Frame.{Frame}
use Rattle.source_blocks.specs.Opens.{open_of, part_of, HasPart}
use Rattle.source_blocks.proofs.Opened.{around_more}

pub record HasLast {A : Type 0} (xs : List A) (x : A) : Type 0 where
  pub front : List A
  pub is : xs ≡ front ++ x ∷ []

pub last_is : {A : Type 0} (xs : List A) (x : A) → Some x ≡ slice_get xs (length xs - 1) → HasLast xs x
last_is [] x e = absurd (nothing x e)
  where
    nothing : {A : Type 0} (x : A) → Some x ≡ slice_get [] 0 → ⊥
    nothing x e = cc
last_is (y ∷ []) x e = record { front = []; is = ap (λ z. z ∷ []) (same y x e) }
  where
    same : {A : Type 0} (y x : A) → Some x ≡ Some y → y ≡ x
    same y x e = cc
last_is (y ∷ z ∷ ys) x e =
    let next : length (y ∷ z ∷ ys) - 1 ≡ suc (length (z ∷ ys) - 1) = omega arith in
    let later : HasLast (z ∷ ys) x = last_is (z ∷ ys) x (e ∙ ap (slice_get (y ∷ z ∷ ys)) next) in
    record { front = y ∷ later.front; is = ap (λ xs. y ∷ xs) later.is }

pub part_at_end : (frames : List Frame) (frame : Frame) → Some frame ≡ slice_get frames (length frames - 1)
    → HasPart (map open_of (reverse frames)) (part_of frame.part)
part_at_end frames frame e =
    let last : HasLast frames frame = last_is frames frame e in
    record {
      inmost = open_of frame;
      others = map open_of (reverse last.front);
      is = ap (λ (fs : List Frame). map open_of (reverse fs)) last.is ∙ around_more last.front frame;
      same = refl;
    }
