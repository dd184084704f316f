-- Ranges of marks, moved on and put together.
use Rattle.std.proofs.Common.{◌≡◌, ℕ, zero, suc, ◌≤◌, List, [], ◌∷◌, ◌++◌, length, refl, sym, ap, subst, arith}
use Rattle.std.proofs.Common.{length-append, take, drop, inl, inr}
use Rattle.std.specs.Prelude.{◌⊎◌, map, All}
use Rattle.std.specs.List.{AllZip}
use Rattle.std.specs.List.Sorted.{IsPermutation}
use Rattle.std.proofs.lemmas.List.{take-append-le, drop-append-le}
use Rattle.std.proofs.lemmas.List.Elements.{All-nil, All-cons, All-tail, All-append, All-weaker, All-take}
use Rattle.std.proofs.lemmas.List.Sorted.{IsPermutation-map}
use Rattle.branch_codegen.specs.pisa_isa.declared.notes.Mark.{Mark}
use Rattle.branch_codegen.specs.paired_code.Code.{moved_on, shift}
use Rattle.statement_codegen.specs.Rows.{Row}
use Rattle.statement_codegen.specs.Ranges.{LiesIn, LiesApart, AreNested}
use Rattle.branch_codegen.proofs.paired_code_laws.Shifted.{length-shift}

-- ---- one range for each

pub each_append : (P : Row → Mark → Type 0) (rs : List Row) (ks : List Mark) (rs2 : List Row) (ks2 : List Mark)
    → AllZip P rs ks → AllZip P rs2 ks2 → AllZip P (rs ++ rs2) (ks ++ ks2)
each_append P [] [] rs2 ks2 h h2 = h2
each_append P [] (k ∷ ks) rs2 ks2 h h2 = absurd h
each_append P (r ∷ rs) [] rs2 ks2 h h2 = absurd h
each_append P (r ∷ rs) (k ∷ ks) rs2 ks2 h h2 = (h.0, each_append P rs ks rs2 ks2 h.1 h2)

pub each_length : (P : Row → Mark → Type 0) (rs : List Row) (ks : List Mark) → AllZip P rs ks → length rs ≡ length ks
each_length P [] [] h = refl
each_length P [] (k ∷ ks) h = absurd h
each_length P (r ∷ rs) [] h = absurd h
each_length P (r ∷ rs) (k ∷ ks) h = ap suc (each_length P rs ks h.1)

pub each_moved : (P Q : Row → Mark → Type 0) (n : ℕ) → ((r : Row) (k : Mark) → P r k → Q r (moved_on n k))
    → (rs : List Row) (ks : List Mark) → AllZip P rs ks → AllZip Q rs (shift n ks)
each_moved P Q n f [] [] h = h
each_moved P Q n f [] (k ∷ ks) h = absurd h
each_moved P Q n f (r ∷ rs) [] h = absurd h
each_moved P Q n f (r ∷ rs) (k ∷ ks) h = (f r k h.0, each_moved P Q n f rs ks h.1)

-- what only one range has
pub each_all : (P : Row → Mark → Type 0) (Q : Mark → Type 0) → ((r : Row) (k : Mark) → P r k → Q k)
    → (rs : List Row) (ks : List Mark) → AllZip P rs ks → All Q ks
each_all P Q f [] [] h = All-nil Q
each_all P Q f [] (k ∷ ks) h = absurd h
each_all P Q f (r ∷ rs) [] h = absurd h
each_all P Q f (r ∷ rs) (k ∷ ks) h = All-cons Q k ks (f r k h.0) (each_all P Q f rs ks h.1)

-- ---- moved on

shift_map : (n : ℕ) (ks : List Mark) → shift n ks ≡ map (moved_on n) ks
shift_map n [] = refl
shift_map n (k ∷ ks) = ap (λ z. moved_on n k ∷ z) (shift_map n ks)

pub shift_same : (n : ℕ) (xs ys : List Mark) → IsPermutation xs ys → IsPermutation (shift n xs) (shift n ys)
shift_same n xs ys h = subst (λ z. IsPermutation z (shift n ys)) (sym (shift_map n xs))
    (subst (λ z. IsPermutation (map (moved_on n) xs) z) (sym (shift_map n ys)) (IsPermutation-map (moved_on n) xs ys h))

pub all_moved : (P Q : Mark → Type 0) (n : ℕ) → ((k : Mark) → P k → Q (moved_on n k)) → (ks : List Mark) → All P ks
    → All Q (shift n ks)
all_moved P Q n f [] h = All-nil Q
all_moved P Q n f (k ∷ ks) h = All-cons Q (moved_on n k) (shift n ks) (f k (h 0 k (omega arith)))
    (all_moved P Q n f ks (All-tail P k ks h))

take_moved : (n i : ℕ) (ks : List Mark) → take i (shift n ks) ≡ shift n (take i ks)
take_moved n zero ks = refl
take_moved n (suc i) [] = refl
take_moved n (suc i) (k ∷ ks) = ap (λ z. moved_on n k ∷ z) (take_moved n i ks)

drop_moved : (n i : ℕ) (ks : List Mark) → drop i (shift n ks) ≡ shift n (drop i ks)
drop_moved n zero ks = refl
drop_moved n (suc i) [] = refl
drop_moved n (suc i) (k ∷ ks) = drop_moved n i ks

in_moved : (n : ℕ) (k j : Mark) → LiesIn k j → LiesIn (moved_on n k) (moved_on n j)
in_moved n k j h = (let a = h.0 in omega arith, let a = h.1 in omega arith)

apart_moved : (n : ℕ) (k j : Mark) → LiesApart k j → LiesApart (moved_on n k) (moved_on n j)
apart_moved n k j (inl a) = inl (omega arith)
apart_moved n k j (inr a) = inr (omega arith)

pub nested_moved : (n : ℕ) (rs : List Row) (ks : List Mark) → AreNested rs ks → AreNested rs (shift n ks)
nested_moved n [] [] h = h
nested_moved n [] (k ∷ ks) h = absurd h
nested_moved n (r ∷ rs) [] h = absurd h
nested_moved n (r ∷ rs) (k ∷ ks) h = (
  subst (λ z. r.inside ≤ z) (sym (length-shift n ks)) h.0,
  subst (All (LiesIn (moved_on n k))) (sym (take_moved n r.inside ks))
      (all_moved (LiesIn k) (LiesIn (moved_on n k)) n (in_moved n k) (take r.inside ks) h.1),
  subst (All (LiesApart (moved_on n k))) (sym (drop_moved n r.inside ks))
      (all_moved (LiesApart k) (LiesApart (moved_on n k)) n (apart_moved n k) (drop r.inside ks) h.2),
  nested_moved n rs ks h.3,
)

-- ---- one list after another

-- ranges of which each lies apart from each of others
abbrev pub AllApart : List Mark → List Mark → Type 0
AllApart ks js = All (λ k. All (LiesApart k) js) ks

pub nested_append : (rs : List Row) (ks : List Mark) (rs2 : List Row) (ks2 : List Mark) → AreNested rs ks
    → AreNested rs2 ks2 → AllApart ks ks2 → AreNested (rs ++ rs2) (ks ++ ks2)
nested_append [] [] rs2 ks2 h h2 a = h2
nested_append [] (k ∷ ks) rs2 ks2 h h2 a = absurd h
nested_append (r ∷ rs) [] rs2 ks2 h h2 a = absurd h
nested_append (r ∷ rs) (k ∷ ks) rs2 ks2 h h2 a =
    let l = h.0 in (
      omega (arith, length-append ks ks2),
      subst (All (LiesIn k)) (sym (take-append-le r.inside ks ks2 l)) h.1,
      subst (All (LiesApart k)) (sym (drop-append-le r.inside ks ks2 l))
          (All-append (LiesApart k) (drop r.inside ks) ks2 h.2 (a 0 k (omega arith))),
      nested_append rs ks rs2 ks2 h.3 h2 (All-tail (λ k. All (LiesApart k) ks2) k ks a),
    )

-- the statement itself before those in it
pub nested_whole : (r : Row) (k : Mark) (rs : List Row) (ks : List Mark) → r.inside ≡ length ks → All (LiesIn k) ks
    → AreNested rs ks → AreNested (r ∷ rs) (k ∷ ks)
nested_whole r k rs ks e a h = (
  let f = e in omega arith,
  All-take (LiesIn k) r.inside ks a,
  subst (All (LiesApart k)) (sym (all_gone r.inside ks e)) (All-nil (LiesApart k)),
  h,
)
  where
    all_gone : (i : ℕ) (ks : List Mark) → i ≡ length ks → drop i ks ≡ []
    all_gone zero [] e = refl
    all_gone zero (k ∷ ks) e = absurd (cc)
    all_gone (suc i) [] e = absurd (cc)
    all_gone (suc i) (k ∷ ks) e = all_gone i ks (omega arith)

-- ranges that lie within bounds
abbrev pub IsBetween : ℕ → ℕ → Mark → Type 0
IsBetween lo hi k = (lo ≤ k.first) × (k.first ≤ k.end) × (k.end ≤ hi)

pub apart_by : (a b c d : ℕ) → (b ≤ c) ⊎ (d ≤ a) → (ks js : List Mark) → All (IsBetween a b) ks → All (IsBetween c d) js
    → AllApart ks js
apart_by a b c d (inl l) ks js h h2 = All-weaker (IsBetween a b) (λ k. All (LiesApart k) js)
    (λ k x. All-weaker (IsBetween c d) (LiesApart k) (λ j y. inl (let p = x.2 in let q = y.0 in omega arith)) js h2) ks
    h
apart_by a b c d (inr l) ks js h h2 = All-weaker (IsBetween a b) (λ k. All (LiesApart k) js)
    (λ k x. All-weaker (IsBetween c d) (LiesApart k) (λ j y. inr (let p = x.0 in let q = y.2 in omega arith)) js h2) ks
    h
