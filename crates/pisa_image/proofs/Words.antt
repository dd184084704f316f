-- A number that is read has these four bytes, and these four bytes are read as it.
use Rattle.std.proofs.Common.{◌≡◌, ℕ, ◌+◌, ◌≤◌, Bool, true, false, cond, ltb, List, ◌++◌, length, take, drop, Result}
use Rattle.std.proofs.Common.{Ok, Err, refl, sym, ap, subst, ◌∙◌, arith, inl, inr}
use Rattle.std.specs.Int.{w32, from_le_bytes}
use Rattle.std.proofs.lemmas.Bool.{cases_lt, ltb-false, le-ltb}
use Rattle.std.proofs.lemmas.List.{take_at, drop_at, take-append-drop, length-append, length-take, get_or-drop}
use Rattle.std.proofs.lemmas.List.{get_or-take, get_or_past}
use Rattle.std.proofs.lemmas.Nat.{le_bytes_4, from_le_bytes-to_le_bytes_4}
use Rattle.pisa_isa.specs.rpp_words.Words.{IsWord}
use Rattle.pisa_image.specs.declared.error.NumberError.{NumberError}
use Rattle.pisa_image.specs.declared.error.NumberError.TheVariants.{Cut, NoMemory}
use Rattle.pisa_image.specs.Numbers.{refused_as, word_bytes, read_word_at, NumberFails}
use Rattle.pisa_image.proofs.Many.{IsBytes, Takes, TakesItsText, ReadsAgain}

-- a refusal within is a refusal of the whole
pub fails_with : {X Y : Type 0} (e : NumberError) (inner : Result X NumberError) (whole : Result Y NumberError)
    → ((r : NumberError) → inner ≡ Err r → whole ≡ Err r) → NumberFails e inner → NumberFails e whole
fails_with NoMemory inner whole go f = tt
fails_with e inner whole go f = go e f

-- what is read under other words for its refusals is read
pub read_as : {A E F : Type 0} (words : E → F) (r : Result A E) (x : A) → refused_as words r ≡ Ok x → r ≡ Ok x
read_as words (Ok y) x e = cc
read_as words (Err d) x e = absurd cc

IsBytes-drop : (n : ℕ) (bytes : List ℕ) → IsBytes bytes → IsBytes (drop n bytes)
IsBytes-drop n bytes h i = rw get_or-drop (h (n + i))

IsBytes-take : (n : ℕ) (bytes : List ℕ) → IsBytes bytes → IsBytes (take n bytes)
IsBytes-take n bytes h i =
    elim (cases_lt i n) [
      | inl lt ↦ rw (get_or-take n bytes i 0 lt) (h i)
      | inr le ↦ rw (get_or_past (take n bytes) i 0 (omega (arith, length-take n bytes))) (omega arith)
    ]

-- a test that refused nothing
pub guard_ok : {E A : Type 0} (b : Bool) (d : E) (x y : A) → cond b (Err d) (Ok x) ≡ Ok y → (b ≡ false) × (x ≡ y)
guard_ok true d x y e = absurd cc
guard_ok false d x y e = (refl, cc)

word_below : (bytes : List ℕ) → IsBytes bytes → IsWord (from_le_bytes w32 bytes)
word_below bytes fits = omega (arith, fits 0, fits 1, fits 2, fits 3)

pub word_takes : TakesItsText read_word_at word_bytes IsWord
word_takes at bytes x fits e =
    let front : List ℕ = take 4 bytes in
    let read : ℕ × List ℕ = (from_le_bytes w32 front, drop 4 bytes) in
    let g = guard_ok (ltb (length bytes) 4) (Cut (at + length bytes)) read x e in
    let long : 4 ≤ length bytes = ltb-false _ _ g.0 in
    let front_fits = IsBytes-take 4 bytes fits in
    let spelled : word_bytes (from_le_bytes w32 front) ≡ front =
    le_bytes_4 front _ (omega (arith, length-take 4 bytes)) front_fits refl in
    subst (λ (y : ℕ × List ℕ). Takes bytes (word_bytes y.0) y.1 × IsWord y.0) g.1 (
      record {
        parts = sym (take-append-drop 4 bytes) ∙ ap (λ (t : List ℕ). t ++ drop 4 bytes) (sym spelled);
        rest_fits = IsBytes-drop 4 bytes fits;
      },
      word_below front front_fits,
    )

abbrev read : ℕ → List ℕ → Result (ℕ × List ℕ) NumberError
read n rest = Ok (n, rest)

same_read : (a b : ℕ) (s t : List ℕ) → a ≡ b → s ≡ t → read a s ≡ read b t
same_read a b s t p q = rw (p, q) refl

pub word_again : ReadsAgain read_word_at word_bytes IsWord
word_again at n rest lt =
    let bytes : List ℕ = word_bytes n ++ rest in
    let long : ltb (length bytes) 4 ≡ false = le-ltb _ _ (omega (arith, length-append (word_bytes n) rest)) in
    let front : take 4 bytes ≡ word_bytes n = take_at (word_bytes n) rest 4 refl in
    let behind : drop 4 bytes ≡ rest = drop_at (word_bytes n) rest 4 refl in
    let one : from_le_bytes w32 (take 4 bytes) ≡ n = ap (from_le_bytes w32) front ∙ from_le_bytes-to_le_bytes_4 n lt in
    ap (λ b. cond b (Err (Cut (at + length bytes))) (read (from_le_bytes w32 (take 4 bytes)) (drop 4 bytes))) long
    ∙ same_read _ _ _ _ one behind
