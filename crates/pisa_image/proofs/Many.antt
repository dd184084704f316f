-- Reading many items one after the other, as a loop does.
use Rattle.std.proofs.Common.{◌≡◌, ℕ, zero, suc, ◌-◌, ◌+◌, ◌≤◌, ◌<◌, List, [], ◌∷◌, ◌++◌, length, get_or, Result, Ok}
use Rattle.std.proofs.Common.{Err, refl, sym, ap, subst, ◌∙◌, append_assoc, arith}
use Rattle.std.specs.List.{flat_map, AllByRecursion}
use Rattle.std.proofs.lemmas.List.{append-nil}
use Rattle.std.proofs.lemmas.List.Concat.{flat_map-cons}
use Rattle.pisa_image.specs.Numbers.{◌>>=◌, many_at}

-- a reader of one item
abbrev pub Reads : (A E : Type 0) → Type 0
Reads A E = ℕ → List ℕ → Result (A × List ℕ) E

-- what was read before, and what is still read
abbrev pub with_front : {E A : Type 0} → List A → Result (List A × List ℕ) E → Result (List A × List ℕ) E
with_front front read = read >>= λ x. Ok (front ++ x.0, x.1)

regroup : {E A : Type 0} (front : List A) (n : A) (read : Result (List A × List ℕ) E)
    → with_front front (read >>= λ x. Ok (n ∷ x.0, x.1)) ≡ with_front (front ++ n ∷ []) read
regroup {A = A} front n (Ok x) = ap (λ (ns : List A). Ok (ns, x.1)) (simp append_assoc)
regroup front n (Err f) = refl

pub goes_on : {E A : Type 0} (one : Reads A E) (size : ℕ) (front : List A) (count i at : ℕ) (bytes : List ℕ) (n : A)
    (after : List ℕ) (total : Result (List A × List ℕ) E) → i < count → one at bytes ≡ Ok (n, after)
    → with_front front (many_at one size (count - i) at bytes) ≡ total
    → with_front (front ++ n ∷ []) (many_at one size (count - (i + 1)) (at + size) after) ≡ total
unfolding many_at
goes_on one size front count i at bytes n after total lt h so_far =
    let k : count - i ≡ suc (count - (i + 1)) = omega arith in
    let one_more : with_front front (many_at one size (count - i) at bytes)
    ≡ with_front (front ++ n ∷ []) (many_at one size (count - (i + 1)) (at + size) after) =
    rw (k, h) (regroup front n (many_at one size (count - (i + 1)) (at + size) after)) in
    sym one_more ∙ so_far

pub stops : {E A : Type 0} (one : Reads A E) (size : ℕ) (front : List A) (count i at : ℕ) (bytes : List ℕ) (e : E)
    (total : Result (List A × List ℕ) E) → i < count → one at bytes ≡ Err e
    → with_front front (many_at one size (count - i) at bytes) ≡ total → total ≡ Err e
unfolding many_at
stops one size front count i at bytes e total lt h so_far =
    let k : count - i ≡ suc (count - (i + 1)) = omega arith in
    let here : with_front front (many_at one size (count - i) at bytes) ≡ Err e = rw (k, h) refl in
    sym so_far ∙ here

pub is_done : {E A : Type 0} (one : Reads A E) (size : ℕ) (front : List A) (count i at : ℕ) (bytes : List ℕ)
    (total : Result (List A × List ℕ) E) → count ≤ i
    → with_front front (many_at one size (count - i) at bytes) ≡ total → total ≡ Ok (front, bytes)
unfolding many_at
is_done {A = A} one size front count i at bytes total le so_far =
    let k : count - i ≡ 0 = omega arith in
    let here : with_front front (many_at one size (count - i) at bytes) ≡ Ok (front, bytes) =
    rw k (ap (λ (ns : List A). Ok (ns, bytes)) (append-nil front)) in
    sym so_far ∙ here

-- bytes, and what a reader took from their beginning

abbrev pub IsBytes : List ℕ → Type 0
IsBytes bytes = (i : ℕ) → get_or bytes i 0 < 256

pub record Takes (bytes text rest : List ℕ) : Type 0 where
  pub parts : bytes ≡ text ++ rest
  pub rest_fits : IsBytes rest

pub takes_then : (a x b y c : List ℕ) → Takes a x b → Takes b y c → Takes a (x ++ y) c
takes_then a x b y c p q = record {
  parts = p.parts ∙ ap (λ (t : List ℕ). x ++ t) q.parts
      ∙ sym (append_assoc x y c);
  rest_fits = q.rest_fits;
}

-- a step that refused nothing
pub bind_ok : {E A B : Type 0} (r : Result A E) (f : A → Result B E) (y : B) → (r >>= f) ≡ Ok y
    → (x : A) × (r ≡ Ok x) × (f x ≡ Ok y)
bind_ok (Ok x) f y e = (x, refl, e)
bind_ok (Err d) f y e = absurd cc

abbrev pub done : {E A : Type 0} → A → Result A E
done x = Ok x

pub ok_is : {E A : Type 0} (x y : A) → done {E = E} x ≡ done y → x ≡ y
ok_is x y e = cc

-- what a reader takes are the bytes of what it reads, which fits
abbrev pub TakesItsText : {E A : Type 0} → Reads A E → (A → List ℕ) → (A → Type 0) → Type 0
TakesItsText {A = A} one text Fits = (at : ℕ) (bytes : List ℕ) (x : A × List ℕ) → IsBytes bytes → one at bytes ≡ Ok x
    → Takes bytes (text x.0) x.1 × Fits x.0

-- it reads the bytes of what fits again
abbrev pub ReadsAgain : {E A : Type 0} → Reads A E → (A → List ℕ) → (A → Type 0) → Type 0
ReadsAgain {A = A} one text Fits = (at : ℕ) (x : A) (rest : List ℕ) → Fits x → one at (text x ++ rest) ≡ Ok (x, rest)

-- many items took their texts
abbrev pub Taken : {A : Type 0} → (A → List ℕ) → (A → Type 0) → ℕ → List ℕ → List A × List ℕ → Type 0
Taken {A = A} text Fits n bytes x = Takes bytes (flat_map text x.0) x.1 × (length x.0 ≡ n) × AllByRecursion Fits x.0

pub many_take : {E A : Type 0} (one : Reads A E) (size : ℕ) (text : A → List ℕ) (Fits : A → Type 0)
    → TakesItsText one text Fits
    → (n at : ℕ) (bytes : List ℕ) (x : List A × List ℕ) → IsBytes bytes → many_at one size n at bytes ≡ Ok x
    → Taken text Fits n bytes x
unfolding many_at
many_take {A = A} one size text Fits takes zero at bytes x fits e =
    let none : List A × List ℕ = ([], bytes) in
    subst (Taken text Fits 0 bytes) (ok_is none x e) (record { parts = refl; rest_fits = fits }, refl, tt)
many_take {A = A} one size text Fits takes (suc n) at bytes x fits e =
    let a = bind_ok (one at bytes) (λ first. many_at one size n (at + size) first.1 >>= λ others. Ok
    (first.0 ∷ others.0, others.1)) x e in
    let b = bind_ok (many_at one size n (at + size) a.0.1) (λ others. Ok (a.0.0 ∷ others.0, others.1)) x a.2 in
    let first = takes at bytes a.0 fits a.1 in
    let second = many_take one size text Fits takes n (at + size) a.0.1 b.0 first.0.rest_fits b.1 in
    let both = takes_then bytes (text a.0.0) a.0.1 (flat_map text b.0.0) b.0.1 first.0 second.0 in
    let made : List A × List ℕ = (a.0.0 ∷ b.0.0, b.0.1) in
    subst (Taken text Fits (suc n) bytes) (ok_is made x b.2)
    (rw flat_map-cons both, ap suc second.1, (first.1, second.2))

pub many_again : {E A : Type 0} (one : Reads A E) (size : ℕ) (text : A → List ℕ) (Fits : A → Type 0)
    → ReadsAgain one text Fits
    → (xs : List A) (at : ℕ) (rest : List ℕ) → AllByRecursion Fits xs
    → many_at one size (length xs) at (flat_map text xs ++ rest) ≡ Ok (xs, rest)
unfolding many_at
many_again one size text Fits again [] at rest fits = refl
many_again one size text Fits again (x ∷ xs) at rest fits =
    let regrouped : flat_map text (x ∷ xs) ++ rest ≡ text x ++ (flat_map text xs ++ rest) =
    ap (λ (t : List ℕ). t ++ rest) (flat_map-cons text x xs) ∙ append_assoc (text x) (flat_map text xs) rest in
    ap (many_at one size (suc (length xs)) at) regrouped
    ∙ rw (again at x (flat_map text xs ++ rest) fits.0, many_again one size text Fits again xs (at + size) rest fits.1)
    refl
