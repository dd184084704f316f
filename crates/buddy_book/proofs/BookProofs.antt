-- A stored book through takes and gives.
use Rattle.std.proofs.Common.{◌≡◌, ℕ, zero, suc, ◌+◌, ◌-◌, ◌*◌, ◌/◌, ◌^◌, ◌%◌, ◌<◌, ◌≤◌, refl, sym, ap, subst, ◌∙◌}
use Rattle.std.proofs.Common.{arith, List, length, Some, None, slice_get, slice_set, slice_index_or, Vec, Global}
use Rattle.std.proofs.lemmas.Option.{slice_get_within, slice_get-get_or}
use Rattle.std.proofs.lemmas.List.{length-map, length-set}
use Rattle.std.proofs.Math.Nat.{pow-suc, mod-add-div, mul-div_left}
use Rattle.buddy_book.specs.Book.{Book, take, give_back}
use Rattle.buddy_book.specs.Shown.{Shown, TakenBlocks, order_in, IsTaken, with_taken, without_taken, taken_from, weight}
use Rattle.buddy_book.specs.Shown.{size_of, IsKept}
use Rattle.buddy_book.specs.Stored.{list_of, free_of, HasRoom, shown_book, IsStored}
use Rattle.buddy_book.proofs.Orders.{pow_pos, take_took, give_gave}
use Rattle.buddy_book.proofs.Table.{entry_of_free, entry_of_taken, taken_of_entry, taken_from-set, taken_from-clear}
use Rattle.buddy_book.proofs.Table.{order_in-with}
use Rattle.buddy_book.proofs.Kept.{none_taken, take_kept, given_back, give_kept}
use Rattle.buddy_book.proofs.StoredLaws.{two_power}

-- a block of an order from 1 on has an even distance
even : (k block : ℕ) → 1 ≤ k → block % 2 ^ k ≡ 0 → block ≡ 2 * (block / 2)
even zero block h e = absurd (omega arith)
even (suc n) block h e =
    let q = block / 2 ^ suc n in
    let whole : block ≡ 2 ^ n * q * 2 = sym (mod-add-div block (2 ^ suc n)) ∙ ap (λ r. r + 2 ^ suc n * q) e
    ∙ ap (λ p. 0 + p * q) (pow-suc 2 n) ∙ turned (2 ^ n) q in
    let half : block / 2 ≡ 2 ^ n * q = ap (λ b. b / 2) whole ∙ mul-div_left (2 ^ n * q) {n = 2} (omega arith) in
    whole ∙ turned_back (2 ^ n * q) ∙ ap (λ x. 2 * x) (sym half)
  where
    turned : (a b : ℕ) → 0 + a * 2 * b ≡ a * b * 2
    turned a b = grind arith

    turned_back : (a : ℕ) → a * 2 ≡ 2 * a
    turned_back a = omega arith

-- what a take did to a stored book
pub record TookStored (h base k block : ℕ) (lists later : List (Vec ℕ Global)) (orders : List ℕ) : Type 0 where
  pub stored : IsStored h base later (slice_set orders (block / 2) k)
  pub taken : taken_from 0 (slice_set orders (block / 2) k) ≡ with_taken block k (taken_from 0 orders)
  pub undone : give_back (free_of later) k block ≡ free_of lists
  pub with_order : order_in (taken_from 0 (slice_set orders (block / 2) k)) block ≡ Some k

-- the distance of an allocated block
pub record TakenAt (base block : ℕ) (orders : List ℕ) : Type 0 where
  pub in_table : block / 2 < length orders
  pub address : base + block < 4294967296

pub taken_at : (h base k block : ℕ) (lists later : List (Vec ℕ Global)) (orders : List ℕ) → IsStored h base lists orders
    → 1 ≤ k → take (free_of lists) k ≡ Some (block, free_of later) → TakenAt base block orders
taken_at h base k block lists later orders stored from e =
    let took = take_took h k block (free_of lists) (free_of later) from stored.kept.sound e in
    let two = even k block from took.aligned in
    let fits = took.fits in
    let table = stored.table in
    let some = pow_pos k in
    let top = two_power h stored.kept.h_to in
    let most = stored.kept.base_to in
    let a : 2 ^ 20 ≡ 1048576 = refl in
    let b : 2 ^ 21 ≡ 2097152 = refl in
    record { in_table = omega arith; address = omega arith }

entry_set : (k j : ℕ) (orders : List ℕ) → 1 ≤ k → slice_get orders j ≡ Some 0
    → taken_from 0 (slice_set orders j k) ≡ with_taken (2 * j) k (taken_from 0 orders)
entry_set zero j orders h e = absurd (omega arith)
entry_set (suc n) j orders h e = taken_from-set 0 j n orders e
    ∙ ap (λ b. with_taken b (suc n) (taken_from 0 orders)) (let s : 0 + 2 * j ≡ 2 * j = omega arith in s)

pub took_stored : (h base k block : ℕ) (lists later : List (Vec ℕ Global)) (orders : List ℕ)
    → IsStored h base lists orders → 1 ≤ k → take (free_of lists) k ≡ Some (block, free_of later) → HasRoom later
    → length later ≡ length lists → TookStored h base k block lists later orders
took_stored h base k block lists later orders stored from e room count =
    let book = shown_book h base lists orders in
    let took = take_took h k block (free_of lists) (free_of later) from stored.kept.sound e in
    let two = even k block from took.aligned in
    let at = taken_at h base k block lists later orders stored from e in
    let none = none_taken book k block (free_of later) stored.kept from e (order_in book.taken block) refl in
    let P : ℕ → Type 0 = λ b. order_in (taken_from 0 orders) b ≡ None in
    let free_entry = entry_of_free 0 (block / 2) orders (subst P
    (two ∙ (let s : 2 * (block / 2) ≡ 0 + 2 * (block / 2) = omega arith in s)) none) at.in_table in
    let taken : taken_from 0 (slice_set orders (block / 2) k) ≡ with_taken block k (taken_from 0 orders) =
    entry_set k (block / 2) orders from free_entry ∙ ap (λ b. with_taken b k (taken_from 0 orders)) (sym two) in
    let many : length (free_of later) ≡ h = length-map later list_of ∙ count ∙ sym (length-map lists list_of)
    ∙ stored.kept.lists in
    let kept = take_kept book k block (free_of later) stored.kept from e many in
    let Q : TakenBlocks → Type 0 = λ t. IsKept (record { h = h; base = base; free = free_of later; taken = t }) in
    record {
      stored = record {
        kept = subst Q (sym taken) kept;
        room = room;
        table = ap (λ n. 2 * n) (length-set orders (block / 2) k) ∙ stored.table;
      };
      taken = taken;
      undone = took.undone;
      with_order = ap (λ t. order_in t block) taken ∙ order_in-with block k (taken_from 0 orders) none;
    }

-- what is known before a block is given back
pub record GiveAt (h base k block : ℕ) (lists : List (Vec ℕ Global)) (orders : List ℕ) : Type 0 where
  pub from_one : 1 ≤ k
  pub order_to : k ≤ length lists
  pub fits : block + 2 ^ k ≤ 2 ^ length lists
  pub room : weight size_of 2 (free_of lists) + 2 ^ k ≤ 2 ^ length lists
  pub in_table : block / 2 < length orders
  pub entry : slice_get orders (block / 2) ≡ Some k
  pub two : block ≡ 2 * (block / 2)

pub give_at : (h base k block : ℕ) (lists : List (Vec ℕ Global)) (orders : List ℕ) → IsStored h base lists orders
    → order_in (taken_from 0 orders) block ≡ Some k → GiveAt h base k block lists orders
give_at h base k block lists orders stored e =
    let entry = entry_of_taken 0 block k orders e in
    let back = given_back (shown_book h base lists orders) k block stored.kept e in
    let many : h ≡ length lists = sym stored.kept.lists ∙ length-map lists list_of in
    let two = even k block entry.from_one back.aligned in
    let at = entry.at in
    let index : entry.index ≡ block / 2 = omega arith in
    let P : ℕ → Type 0 = λ j. slice_get orders j ≡ Some k in
    let power = ap (λ n. 2 ^ n) many in
    let there = subst P index entry.entry in
    record {
      from_one = entry.from_one;
      order_to = let o = back.order_to in omega arith;
      fits = let f = back.fits in omega arith;
      room = let r = back.room in omega arith;
      in_table = slice_get_within orders (block / 2) k there;
      entry = there;
      two = two;
    }

-- what a give did to a stored book
pub record GaveStored (h base k block : ℕ) (lists later : List (Vec ℕ Global)) (orders : List ℕ) : Type 0 where
  pub stored : IsStored h base later (slice_set orders (block / 2) 0)
  pub taken : taken_from 0 (slice_set orders (block / 2) 0) ≡ without_taken block (taken_from 0 orders)
  pub undone : take (free_of later) k ≡ Some (block, free_of lists)

entry_cleared : (k j : ℕ) (orders : List ℕ) → 1 ≤ k → slice_get orders j ≡ Some k
    → taken_from 0 (slice_set orders j 0) ≡ without_taken (2 * j) (taken_from 0 orders)
entry_cleared zero j orders h e = absurd (omega arith)
entry_cleared (suc n) j orders h e = taken_from-clear 0 j n orders e
    ∙ ap (λ b. without_taken b (taken_from 0 orders)) (let s : 0 + 2 * j ≡ 2 * j = omega arith in s)

pub gave_stored : (h base k block : ℕ) (lists later : List (Vec ℕ Global)) (orders : List ℕ)
    → IsStored h base lists orders → order_in (taken_from 0 orders) block ≡ Some k
    → free_of later ≡ give_back (free_of lists) k block → HasRoom later → length later ≡ length lists
    → GaveStored h base k block lists later orders
gave_stored h base k block lists later orders stored e given room count =
    let book = shown_book h base lists orders in
    let at = give_at h base k block lists orders stored e in
    let back = given_back book k block stored.kept e in
    let gave = give_gave h k block (free_of lists) at.from_one back.order_to stored.kept.lists stored.kept.sound
    back.aligned back.fits in
    let taken : taken_from 0 (slice_set orders (block / 2) 0) ≡ without_taken block (taken_from 0 orders) =
    entry_cleared k (block / 2) orders at.from_one at.entry
    ∙ ap (λ b. without_taken b (taken_from 0 orders)) (sym at.two) in
    let many : length (free_of later) ≡ h = length-map later list_of ∙ count ∙ sym (length-map lists list_of)
    ∙ stored.kept.lists in
    let kept = give_kept book k block stored.kept at.from_one e (ap length (sym given) ∙ many) in
    let Q : TakenBlocks → Type 0 = λ t. IsKept (record {
      h = h;
      base = base;
      free = give_back (free_of lists) k block;
      taken = t;
    }) in
    let R : Book → Type 0 = λ b. IsKept (record {
      h = h;
      base = base;
      free = b;
      taken = taken_from 0 (slice_set orders (block / 2) 0);
    }) in
    record {
      stored = record {
        kept = subst R (sym given) (subst Q (sym taken) kept);
        room = room;
        table = ap (λ n. 2 * n) (length-set orders (block / 2) 0) ∙ stored.table;
      };
      taken = taken;
      undone = ap (λ b. take b k) given ∙ gave.undone;
    }

-- the order of the block that is given back
pub given_block : (book same : Shown) (address k : ℕ) → same ≡ book → IsTaken book address k
    → order_in same.taken (address - same.base) ≡ Some k
given_block book same address k is taken =
    let at : book.base + taken.block - book.base ≡ taken.block = omega arith in
    ap (λ s. order_in s.taken (address - s.base)) is
    ∙ ap (λ a. order_in book.taken (a - book.base)) taken.at
    ∙ ap (order_in book.taken) at
    ∙ taken.with_order

-- what the table says at a place where it is not 0
pub taken_of_index : (book : Shown) (h base at order : ℕ) (lists : List (Vec ℕ Global)) (orders : List ℕ)
    → shown_book h base lists orders ≡ book → order ≡ slice_index_or orders ((at - base) / 2) order
    → (at - base) / 2 < length orders → 1 ≤ order → base ≤ at → 2 * ((at - base) / 2) ≡ at - base
    → IsTaken book at order
taken_of_index book h base at zero lists orders is entry in_table some above is_even = absurd (omega arith)
taken_of_index book h base at (suc order) lists orders is entry in_table some above is_even =
    let got : slice_get orders ((at - base) / 2) ≡ Some (suc order) =
    slice_get-get_or orders ((at - base) / 2) (suc order) in_table ∙ ap (λ o. Some o) (sym entry) in
    let block : 0 + 2 * ((at - base) / 2) ≡ at - base = omega (arith, is_even) in
    record {
      block = at - base;
      at = let b = ap (λ s. s.base) is in omega arith;
      with_order = ap (λ s. order_in s.taken (at - base)) (sym is)
          ∙ ap (λ b. order_in (taken_from 0 orders) b) (sym block)
          ∙ taken_of_entry 0 ((at - base) / 2) order orders got;
    }
