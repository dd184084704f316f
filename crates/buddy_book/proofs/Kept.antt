-- What every book keeps, at the start and through takes and gives.
use Rattle.std.proofs.Common.{◌≡◌, ℕ, ◌+◌, ◌-◌, ◌^◌, ◌%◌, ◌<◌, ◌≤◌, refl, arith, length, Option, Some, None}
use Rattle.buddy_book.specs.Book.{Book, take, give_back}
use Rattle.buddy_book.specs.Shown.{Shown, order_in, with_taken, without_taken, IsAdditive, weight, size_of, cover}
use Rattle.buddy_book.specs.Shown.{taken_weight, IsKept}
use Rattle.buddy_book.proofs.Orders.{pow_pos, order_below, take_took, give_gave}
use Rattle.buddy_book.proofs.Table.{taken_weight-with, taken_weight-without, is_aligned-with, is_aligned-without}
use Rattle.buddy_book.proofs.Table.{is_aligned-taken}

pub cover-additive : (x : ℕ) → IsAdditive (cover x)
cover-additive x block size = omega arith

pub size_of-additive : IsAdditive size_of
size_of-additive block size = omega arith

-- no block is both free and taken
pub none_taken : (book : Shown) (k block : ℕ) (after : Book) → IsKept book → 1 ≤ k
    → take book.free k ≡ Some (block, after) → (order : Option ℕ) → order_in book.taken block ≡ order → order ≡ None
none_taken book k block after kept from e None is = refl
none_taken book k block after kept from e (Some order) is =
    let took = take_took book.h k block book.free after from kept.sound e in
    let total = kept.balanced (cover block) (cover-additive block) in
    let of_free = took.weights (cover block) (cover-additive block) in
    let of_taken = taken_weight-without (cover block) block order book.taken is in
    let p = pow_pos k in
    let q = pow_pos order in
    absurd (counted_twice block (2 ^ k) (2 ^ order) (2 ^ book.h) (weight (cover block) 2 book.free)
    (taken_weight (cover block) book.taken) (weight (cover block) 2 after)
    (taken_weight (cover block) (without_taken block book.taken)) p q of_free of_taken total)
  where
    counted_twice : (b s t u w v x y : ℕ) → 0 < s → 0 < t → w ≡ cover b b s + x → v ≡ cover b b t + y
        → w + v ≡ cover b 0 u → ⊥
    counted_twice b s t u w v x y ps pt ew ev total = omega arith

abbrev taken_book : Shown → ℕ → ℕ → Book → Shown
taken_book book k block after = record {
  h = book.h;
  base = book.base;
  free = after;
  taken = with_taken block k book.taken;
}

pub take_kept : (book : Shown) (k block : ℕ) (after : Book) → IsKept book → 1 ≤ k
    → take book.free k ≡ Some (block, after) → length after ≡ book.h → IsKept (taken_book book k block after)
take_kept book k block after kept from e lists =
    let took = take_took book.h k block book.free after from kept.sound e in
    record {
      h_from = kept.h_from;
      h_to = kept.h_to;
      base_to = kept.base_to;
      lists = lists;
      sound = took.sound;
      aligned = is_aligned-with block k book.taken took.aligned kept.aligned;
      balanced = λ f additive. let w = took.weights f additive in let v = taken_weight-with f block k book.taken in
          let t = kept.balanced f additive in omega arith;
    }

-- what holds for an allocated block
pub record GivenBack (book : Shown) (k block : ℕ) : Type 0 where
  pub order_to : k ≤ book.h
  pub aligned : block % 2 ^ k ≡ 0
  pub fits : block + 2 ^ k ≤ 2 ^ book.h
  pub room : weight size_of 2 book.free + 2 ^ k ≤ 2 ^ book.h

pub given_back : (book : Shown) (k block : ℕ) → IsKept book → order_in book.taken block ≡ Some k
    → GivenBack book k block
given_back book k block kept e =
    let x = block + 2 ^ k - 1 in
    let total = kept.balanced (cover x) (cover-additive x) in
    let of_taken = taken_weight-without (cover x) block k book.taken e in
    let sizes = kept.balanced size_of size_of-additive in
    let taken_sizes = taken_weight-without size_of block k book.taken e in
    let fits = in_heap block (2 ^ k) (2 ^ book.h) (weight (cover x) 2 book.free) (taken_weight (cover x) book.taken)
    (taken_weight (cover x) (without_taken block book.taken)) (pow_pos k) of_taken total in
    record {
      order_to = order_below k book.h (omega arith);
      aligned = is_aligned-taken block k book.taken e kept.aligned;
      fits = fits;
      room = room_of (2 ^ k) (2 ^ book.h) (weight size_of 2 book.free) (taken_weight size_of book.taken)
          (taken_weight size_of (without_taken block book.taken)) taken_sizes sizes;
    }
  where
    in_heap : (b s u w v y : ℕ) → 0 < s → v ≡ cover (b + s - 1) b s + y → w + v ≡ cover (b + s - 1) 0 u → b + s ≤ u
    in_heap b s u w v y ps ev total = omega arith

    room_of : (s u w v y : ℕ) → v ≡ s + y → w + v ≡ u → w + s ≤ u
    room_of s u w v y ev total = omega arith

abbrev given_book : Shown → ℕ → ℕ → Shown
given_book book k block = record {
  h = book.h;
  base = book.base;
  free = give_back book.free k block;
  taken = without_taken block book.taken;
}

pub give_kept : (book : Shown) (k block : ℕ) → IsKept book → 1 ≤ k → order_in book.taken block ≡ Some k
    → length (give_back book.free k block) ≡ book.h → IsKept (given_book book k block)
give_kept book k block kept from e lists =
    let back = given_back book k block kept e in
    let gave = give_gave book.h k block book.free from back.order_to kept.lists kept.sound back.aligned back.fits in
    record {
      h_from = kept.h_from;
      h_to = kept.h_to;
      base_to = kept.base_to;
      lists = lists;
      sound = gave.sound;
      aligned = is_aligned-without block book.taken kept.aligned;
      balanced = λ f additive. let w = gave.weights f additive in let v = taken_weight-without f block k book.taken e in
          let t = kept.balanced f additive in omega arith;
    }
