-- The marks of names: one more keeps those that are there, and a name without a mark is nowhere.
use Rattle.std.proofs.Common.{◌≡◌, ◌<◌, ℕ, suc, ◌/◌, ◌%◌, ◌^◌, max, refl, sym, ap, subst, ◌∙◌, arith, List, [], ◌∷◌, map}
use Rattle.std.proofs.Common.{Bool, true, false, None, nat_eq, bit_or}
use Rattle.std.proofs.lemmas.Bool.{eqb-true, eqb-false, eq-eqb}
use Rattle.std.proofs.lemmas.Nat.Bits.{bit_at_or, bit_at-pow_same, bit_at-zero}
use Rattle.std.proofs.lemmas.Slice.Eq.{bytes_eq-Decides}
use Rattle.std.specs.Prelude.{position}
use Rattle.std.specs.Int.{bit_at}
use Rattle.std.specs.Option.{option_map}
use Rattle.std.specs.Str.{bytes_eq}
use Rattle.class_table.specs.rpp_tree.declared.tree.Var.{Var}
use Rattle.source_steps.specs.Marks.{mark_number, has_mark, with_mark, with_marks, AreMarked}
use Rattle.source_steps.proofs.Scopes.{after_first, position_cons}

small : (n : ℕ) → n % 2 < 2
small n = omega arith

one_of : (a b c : ℕ) → c ≡ max a b → a ≡ 1 → b < 2 → c ≡ 1
one_of a b c e f g = omega arith

other_one : (a b c : ℕ) → c ≡ max a b → b ≡ 1 → a < 2 → c ≡ 1
other_one a b c e f g = omega arith

-- no name has a mark among none
pub no_mark : (marks : ℕ) (name : List ℕ) → marks ≡ 0 → false ≡ has_mark marks name
no_mark marks name e = sym (ap (λ m. has_mark m name) e ∙ ap (λ b. nat_eq b 1) (bit_at-zero (mark_number name)))

own_mark : (marks : ℕ) (name : List ℕ) → has_mark (with_mark marks name) name ≡ true
own_mark marks name =
    let k : ℕ = mark_number name in
    eq-eqb (bit_at (bit_or marks (2 ^ k)) k) 1
    (other_one (bit_at marks k) (bit_at (2 ^ k) k) (bit_at (bit_or marks (2 ^ k)) k) (bit_at_or marks (2 ^ k) k)
    (bit_at-pow_same k) (small (marks / 2 ^ k)))

kept_mark : (marks : ℕ) (name other : List ℕ) → has_mark marks other ≡ true
    → has_mark (with_mark marks name) other ≡ true
kept_mark marks name other h =
    let k : ℕ = mark_number other in
    let bit : ℕ = 2 ^ mark_number name in
    eq-eqb (bit_at (bit_or marks bit) k) 1
    (one_of (bit_at marks k) (bit_at bit k) (bit_at (bit_or marks bit) k) (bit_at_or marks bit k)
    (eqb-true (bit_at marks k) 1 h) (small (bit / 2 ^ k)))

kept_marks : (marks : ℕ) (name : List ℕ) (names : List (List ℕ)) → AreMarked marks names
    → AreMarked (with_mark marks name) names
kept_marks marks name [] h = tt
kept_marks marks name (other ∷ names) h = (kept_mark marks name other h.0, kept_marks marks name names h.1)

-- one more name with its mark
pub marked_more : (marks : ℕ) (name : List ℕ) (names : List (List ℕ)) → AreMarked marks names
    → AreMarked (with_mark marks name) (name ∷ names)
marked_more marks name names h = (own_mark marks name, kept_marks marks name names h)

kept_by_all : (marks : ℕ) (vars : List Var) (other : List ℕ) → has_mark marks other ≡ true
    → has_mark (with_marks marks vars) other ≡ true
kept_by_all marks [] other h = h
kept_by_all marks (var ∷ vars) other h =
    kept_by_all (with_mark marks var.name.text) vars other (kept_mark marks var.name.text other h)

-- the names of parameters with their marks
pub params_marked : (marks : ℕ) (vars : List Var) → AreMarked (with_marks marks vars) (map (λ var. var.name.text) vars)
params_marked marks [] = tt
params_marked marks (var ∷ vars) = (
  kept_by_all (with_mark marks var.name.text) vars var.name.text (own_mark marks var.name.text),
  params_marked (with_mark marks var.name.text) vars,
)

-- a name without a mark is none of the marked ones
pub nowhere : (marks : ℕ) (name : List ℕ) (names : List (List ℕ)) → AreMarked marks names
    → has_mark marks name ≡ false → None ≡ position (bytes_eq name) names
nowhere marks name [] h f = refl
nowhere marks name (own ∷ names) h f = by (bytes_eq name own) refl (nowhere marks name names h.1 f)
  where
    by : (t : Bool) → bytes_eq name own ≡ t → None ≡ position (bytes_eq name) names
        → None ≡ position (bytes_eq name) (own ∷ names)
    by true e rest =
        let same : name ≡ own = (bytes_eq-Decides name own).0 e in
        let there : has_mark marks name ≡ true = subst (λ n. has_mark marks n ≡ true) (sym same) h.0 in
        absurd (eqb-false (bit_at marks (mark_number name)) 1 f (eqb-true (bit_at marks (mark_number name)) 1 there))
    by false e rest = sym (position_cons (bytes_eq name) own names
        ∙ ap (λ b. after_first b (position (bytes_eq name) names)) e ∙ ap (option_map suc) (sym rest))
