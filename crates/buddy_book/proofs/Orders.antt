-- Takes and gives by the list of one order, and what they keep of a book over a heap of order h.
use Rattle.std.proofs.Common.{◌≡◌, ℕ, zero, suc, ◌+◌, ◌-◌, ◌*◌, ◌^◌, ◌%◌, ◌<◌, ◌≤◌, Bool, true, false, refl, sym, ap}
use Rattle.std.proofs.Common.{subst, ◌∙◌, arith, List, [], ◌∷◌, length, Option, Some, None, slice_get, slice_set}
use Rattle.std.proofs.Math.Nat.{pow-succ'}
use Rattle.std.proofs.Math.Pow.{pow-lt}
use Rattle.std.proofs.lemmas.Bool.{ltb-true, ltb-false}
use Rattle.std.specs.Prelude.{nat_lt}
use Rattle.buddy_book.specs.Book.{Book, upper_half, take_first, below_taken, take_past, take, lower_half, merged}
use Rattle.buddy_book.specs.Book.{give_first, give_past, give_back}
use Rattle.buddy_book.specs.Shown.{is_sound, IsAdditive, weight}
use Rattle.buddy_book.proofs.TakeGive.{doubled, TookBlock, TookPast, take_past_took, give_past_gave}
use Rattle.std.proofs.lemmas.Option.{same_Some}

-- if the list of the order has a head
pub take_past-head : (lower size block : ℕ) (free : List ℕ) (book : Book) → slice_get book lower ≡ Some (block ∷ free)
    → take_past lower size book ≡ Some (block, slice_set book lower free)
take_past-head lower size block free [] e = cc
take_past-head zero size block free (x ∷ book) e = ap (λ l. take_first size (l ∷ book)) (same_Some x (block ∷ free) e)
take_past-head (suc lower) size block free (x ∷ book) e =
    ap (below_taken x) (take_past-head lower size block free book e)

-- the upper half of a block, whose lower half becomes the list of the order
abbrev pub upper_at : ℕ → ℕ → Option (ℕ × Book) → Option (ℕ × Book)
upper_at lower size None = None
upper_at lower size (Some (low, after)) = Some (low + size, slice_set after lower (low ∷ []))

upper_half-below : (size : ℕ) (taken : Option (ℕ × Book))
    → upper_half size taken ≡ upper_at 0 size (below_taken [] taken)
upper_half-below size None = refl
upper_half-below size (Some (low, after)) = refl

below_taken-upper : (lower size : ℕ) (x : List ℕ) (taken : Option (ℕ × Book))
    → below_taken x (upper_at lower size taken) ≡ upper_at (suc lower) size (below_taken x taken)
below_taken-upper lower size x None = refl
below_taken-upper lower size x (Some (low, after)) = refl

-- if the list of the order is empty
pub take_past-empty : (lower size : ℕ) (book : Book) → slice_get book lower ≡ Some []
    → take_past lower size book ≡ upper_at lower size (take_past (suc lower) (2 * size) book)
take_past-empty lower size [] e = cc
take_past-empty zero size (x ∷ higher) e =
    ap (λ l. take_first size (l ∷ higher)) (same_Some x [] e)
    ∙ upper_half-below size (take_first (2 * size) higher)
    ∙ ap (λ l. upper_at 0 size (below_taken l (take_first (2 * size) higher))) (sym (same_Some x [] e))
take_past-empty (suc lower) size (x ∷ higher) e =
    ap (below_taken x) (take_past-empty lower size higher e)
    ∙ below_taken-upper lower size x (take_past (suc lower) (2 * size) higher)

-- above the highest order
pub take_past-above : (lower size : ℕ) (book : Book) → length book ≤ lower → take_past lower size book ≡ None
take_past-above zero size [] h = refl
take_past-above (suc lower) size [] h = refl
take_past-above zero size (x ∷ book) h = absurd (omega arith)
take_past-above (suc lower) size (x ∷ book) h = ap (below_taken x) (take_past-above lower size book (omega arith))

-- if the given block merges
pub give_past-merge : (lower size block low : ℕ) (free : List ℕ) (book : Book) → slice_get book lower ≡ Some free
    → lower_half size block free ≡ Some low → give_past lower size block book
    ≡ give_past (suc lower) (2 * size) low (slice_set book lower [])
give_past-merge lower size block low free [] e h = cc
give_past-merge zero size block low free (x ∷ higher) e h =
    ap (λ l. give_first size block (l ∷ higher)) (same_Some x free e)
    ∙ ap (merged block free higher (λ l. give_first (2 * size) l higher)) h
give_past-merge (suc lower) size block low free (x ∷ higher) e h =
    ap (λ b. x ∷ b) (give_past-merge lower size block low free higher e h)

-- if the given block becomes the head
pub give_past-head : (lower size block : ℕ) (free : List ℕ) (book : Book) → slice_get book lower ≡ Some free
    → lower_half size block free ≡ None → give_past lower size block book ≡ slice_set book lower (block ∷ free)
give_past-head lower size block free [] e h = cc
give_past-head zero size block free (x ∷ higher) e h =
    ap (λ l. give_first size block (l ∷ higher)) (same_Some x free e)
    ∙ ap (merged block free higher (λ l. give_first (2 * size) l higher)) h
give_past-head (suc lower) size block free (x ∷ higher) e h =
    ap (λ b. x ∷ b) (give_past-head lower size block free higher e h)

doubled-pow : (n size : ℕ) → doubled n size ≡ size * 2 ^ n
doubled-pow zero size = omega arith
doubled-pow (suc n) size = let p = pow-succ' 2 n in let d = doubled-pow n (2 * size) in let q = 2 ^ n in d
    ∙ twice_over size q ∙ ap (λ x. size * x) (sym p)
  where
    twice_over : (a b : ℕ) → 2 * a * b ≡ a * (2 * b)
    twice_over a b = grind arith

-- blocks of order k have the size of those of order 1, doubled k - 1 times
pub doubled-order : (k : ℕ) → 1 ≤ k → doubled (k - 1) 2 ≡ 2 ^ k
doubled-order zero h = absurd (omega arith)
doubled-order (suc n) h = let e : suc n - 1 ≡ n = omega arith in ap (λ x. doubled x 2) e ∙ doubled-pow n 2
    ∙ sym (pow-succ' 2 n)

-- what a take of order k from a sound book did
pub record TookOrder (h k block : ℕ) (book after : Book) : Type 0 where
  pub aligned : block % 2 ^ k ≡ 0
  pub fits : block + 2 ^ k ≤ 2 ^ h
  pub undone : give_back after k block ≡ book
  pub sound : is_sound (2 ^ h) 2 after ≡ true
  pub weights : (f : ℕ → ℕ → ℕ) → IsAdditive f → weight f 2 book ≡ f block (2 ^ k) + weight f 2 after
  pub count : length after ≡ length book

abbrev TookSize : ℕ → ℕ → ℕ → ℕ → Book → Book → Type 0
TookSize h lower size block book after =
    (block % size ≡ 0) × (block + size ≤ 2 ^ h) × (give_past lower size block after ≡ book)
    × (is_sound (2 ^ h) 2 after ≡ true) × ((f : ℕ → ℕ → ℕ) → IsAdditive f
    → weight f 2 book ≡ f block size + weight f 2 after)

pub take_took : (h k block : ℕ) (book after : Book) → 1 ≤ k → is_sound (2 ^ h) 2 book ≡ true
    → take book k ≡ Some (block, after) → TookOrder h k block book after
take_took h k block book after from sound e =
    let size = doubled-order k from in
    let start : TookPast (2 ^ h) (k - 1) 2 book (take_past (k - 1) (doubled (k - 1) 2) book) =
    take_past_took (2 ^ h) (k - 1) 2 book sound in
    let taken : take_past (k - 1) (doubled (k - 1) 2) book ≡ Some (block, after) =
    ap (λ s. take_past (k - 1) s book) size ∙ e in
    let P : Option (ℕ × Book) → Type 0 = TookPast (2 ^ h) (k - 1) 2 book in
    let took : TookBlock (2 ^ h) (k - 1) 2 block book after = subst P taken start in
    let all : TookSize h (k - 1) (doubled (k - 1) 2) block book after =
    (took.aligned, took.fits, took.undone, took.sound, took.weights) in
    let Q : ℕ → Type 0 = λ s. TookSize h (k - 1) s block book after in
    let done = subst Q size all in
    record { aligned = done.0; fits = done.1; undone = done.2; sound = done.3; weights = done.4; count = took.count }

-- what a give of order k to a sound book did
pub record GaveOrder (h k block : ℕ) (book : Book) : Type 0 where
  pub undone : take (give_back book k block) k ≡ Some (block, book)
  pub sound : is_sound (2 ^ h) 2 (give_back book k block) ≡ true
  pub weights : (f : ℕ → ℕ → ℕ) → IsAdditive f → weight f 2 (give_back book k block) ≡ f block (2 ^ k) + weight f 2 book
  pub count : length (give_back book k block) ≡ length book

abbrev GaveSize : ℕ → ℕ → ℕ → ℕ → Book → Type 0
GaveSize h lower size block book =
    (take_past lower size (give_past lower size block book) ≡ Some (block, book))
    × (is_sound (2 ^ h) 2 (give_past lower size block book) ≡ true)
    × ((f : ℕ → ℕ → ℕ) → IsAdditive f → weight f 2 (give_past lower size block book)
    ≡ f block size + weight f 2 book)

pub pow_pos : (h : ℕ) → 0 < 2 ^ h
pow_pos zero = omega arith
pow_pos (suc h) = let p = pow_pos h in let e = pow-succ' 2 h in omega arith

-- a block of an order is no larger than the heap only up to the heap's order
pub order_below : (i j : ℕ) → 2 ^ i ≤ 2 ^ j → i ≤ j
order_below i j h = by (nat_lt j i) refl
  where
    by : (t : Bool) → nat_lt j i ≡ t → i ≤ j
    by true e = let p = pow-lt (ltb-true j i e) in absurd (omega arith)
    by false e = ltb-false j i e

pub give_gave : (h k block : ℕ) (book : Book) → 1 ≤ k → k ≤ h → length book ≡ h → is_sound (2 ^ h) 2 book ≡ true
    → block % 2 ^ k ≡ 0 → block + 2 ^ k ≤ 2 ^ h → GaveOrder h k block book
give_gave h k block book from to lists sound aligned fits =
    let size = doubled-order k from in
    let ends : doubled (length book) 2 ≡ 2 * 2 ^ h = ap (λ n. doubled n 2) lists ∙ doubled-pow h 2 in
    let Fits : ℕ → Type 0 = λ s. (block % s ≡ 0) × (block + s ≤ 2 ^ h) in
    let in_size : Fits (doubled (k - 1) 2) = subst Fits (sym size) (aligned, fits) in
    let gave = give_past_gave (2 ^ h) (pow_pos h) (k - 1) 2 block book sound ends (omega arith) in_size.0 in_size.1 in
    let all : GaveSize h (k - 1) (doubled (k - 1) 2) block book = (gave.undone, gave.sound, gave.weights) in
    let Q : ℕ → Type 0 = λ s. GaveSize h (k - 1) s block book in
    let done = subst Q size all in
    record {
      undone = done.0;
      sound = done.1;
      weights = done.2;
      count = ap (λ s. length (give_past (k - 1) s block book)) (sym size) ∙ gave.count;
    }
