-- The positions of names in two lists, one after the other.
use Rattle.std.proofs.Common.{◌≡◌, ◌<◌, ◌≤◌, ℕ, suc, ◌+◌, refl, sym, ap, subst, ◌∙◌, arith, List, [], ◌∷◌, ◌++◌, length}
use Rattle.std.proofs.Common.{Bool, true, false, Some, None, map}
use Rattle.std.proofs.lemmas.Bool.{ltb-true, ltb-false, lt-ltb, le-ltb}
use Rattle.std.specs.Prelude.{Option, IfSome, position, nat_lt, not, cond}
use Rattle.std.specs.List.{position_or_len}
use Rattle.std.specs.Option.{option_map}

abbrev or_later : ℕ → Option ℕ → Option ℕ → Option ℕ
or_later n (Some i) later = Some i
or_later n None later = option_map (λ k. n + k) later

abbrev pub after_first : Bool → Option ℕ → Option ℕ
after_first true rest = Some 0
after_first false rest = option_map suc rest

abbrev below : ℕ → ℕ → Option ℕ
below at count = cond (nat_lt at count) (Some at) None

later_by : (t : Bool) (at count : ℕ) → nat_lt at count ≡ t
    → below (1 + at) (suc count) ≡ option_map suc (below at count)
later_by true at count e =
    let l : at < count = ltb-true at count e in
    let next : 1 + at ≡ suc at = omega arith in
    ap (λ b. cond b (Some (1 + at)) None) (lt-ltb (1 + at) (suc count) (omega arith))
    ∙ ap (λ k. Some k) next ∙ sym (ap (λ b. option_map suc (cond b (Some at) None)) e)
later_by false at count e =
    let l : count ≤ at = ltb-false at count e in
    ap (λ b. cond b (Some (1 + at)) None) (le-ltb (1 + at) (suc count) (omega arith))
    ∙ sym (ap (λ b. option_map suc (cond b (Some at) None)) e)

by_first : (here : Bool) (at count : ℕ)
    → below (cond (not here) (1 + at) 0) (suc count) ≡ after_first here (below at count)
by_first true at count = ap (λ b. cond b (Some 0) None) (lt-ltb 0 (suc count) (omega arith))
by_first false at count = later_by (nat_lt at count) at count refl

pub position_cons : {A : Type 0} (p : A → Bool) (x : A) (xs : List A)
    → position p (x ∷ xs) ≡ after_first (p x) (position p xs)
position_cons p x xs = by_first (p x) (position_or_len p xs) (length xs)

none_more : (r : Option ℕ) → r ≡ option_map (λ k. 0 + k) r
none_more None = refl
none_more (Some k) = let e : k ≡ 0 + k = omega arith in ap (λ k. Some k) e

one_more : (here : Bool) (n : ℕ) (first later : Option ℕ)
    → after_first here (or_later n first later) ≡ or_later (suc n) (after_first here first) later
one_more true n first later = refl
one_more false n (Some i) later = refl
one_more false n None None = refl
one_more false n None (Some k) = let e : suc (n + k) ≡ suc n + k = omega arith in ap (λ k. Some k) e

position_both : {A : Type 0} (p : A → Bool) (xs ys : List A)
    → position p (xs ++ ys) ≡ or_later (length xs) (position p xs) (position p ys)
position_both p [] ys = none_more (position p ys)
position_both p (x ∷ xs) ys = position_cons p x (xs ++ ys) ∙ ap (after_first (p x)) (position_both p xs ys)
    ∙ one_more (p x) (length xs) (position p xs) (position p ys)
    ∙ ap (λ r. or_later (suc (length xs)) r (position p ys)) (sym (position_cons p x xs))

-- a position is below the length
pub position_within : {A : Type 0} (p : A → Bool) (xs : List A) (r : Option ℕ) → r ≡ position p xs
    → IfSome r (λ at. at < length xs)
position_within p xs r e = by (nat_lt (position_or_len p xs) (length xs)) refl
  where
    by : (t : Bool) → nat_lt (position_or_len p xs) (length xs) ≡ t → IfSome r (λ at. at < length xs)
    by true h = subst (λ r. IfSome r (λ at. at < length xs))
        (sym (e ∙ ap (λ b. cond b (Some (position_or_len p xs)) None) h))
        (ltb-true (position_or_len p xs) (length xs) h)
    by false h = subst (λ r. IfSome r (λ at. at < length xs))
        (sym (e ∙ ap (λ b. cond b (Some (position_or_len p xs)) None) h)) tt

-- the position among the images of elements
pub position_in_map : {A B : Type 0} (p : B → Bool) (f : A → B) (xs : List A)
    → position (λ x. p (f x)) xs ≡ position p (map f xs)
position_in_map p f [] = refl
position_in_map p f (x ∷ xs) = position_cons (λ x. p (f x)) x xs
    ∙ ap (after_first (p (f x))) (position_in_map p f xs) ∙ sym (position_cons p (f x) (map f xs))

module _ {A : Type 0} (p : A → Bool) (xs ys : List A) where
  pub position_front : (i : ℕ) → Some i ≡ position p xs → Some i ≡ position p (xs ++ ys)
  position_front i e = ap (λ r. or_later (length xs) r (position p ys)) e ∙ sym (position_both p xs ys)

  pub position_behind : (i : ℕ) → None ≡ position p xs → Some i ≡ position p ys
      → Some (length xs + i) ≡ position p (xs ++ ys)
  position_behind i e f = ap (option_map (λ k. length xs + k)) f
      ∙ ap (λ r. or_later (length xs) r (position p ys)) e ∙ sym (position_both p xs ys)

  pub position_nowhere : None ≡ position p xs → None ≡ position p ys → None ≡ position p (xs ++ ys)
  position_nowhere e f = ap (option_map (λ k. length xs + k)) f
      ∙ ap (λ r. or_later (length xs) r (position p ys)) e ∙ sym (position_both p xs ys)
