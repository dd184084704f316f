-- The table of taken blocks, seen as their list.
use Rattle.std.proofs.Common.{◌≡◌, ℕ, zero, suc, ◌+◌, ◌*◌, ◌^◌, ◌%◌, ◌<◌, ◌≤◌, Bool, true, false, refl, sym, ap, subst}
use Rattle.std.proofs.Common.{◌∙◌, arith, List, [], ◌∷◌, length, Some, None, slice_get, slice_set, eq-eqb}
use Rattle.std.proofs.Common.{if◌then◌else◌}
use Rattle.std.proofs.lemmas.Bool.{eqb-true, lt-ltb, le-ltb, and_parts, and_from}
use Rattle.std.specs.Prelude.{nat_eq, nat_lt}
use Rattle.buddy_book.specs.Shown.{TakenBlocks, order_in, with_taken, without_taken, taken_from, is_aligned}
use Rattle.buddy_book.specs.Shown.{taken_weight}
use Rattle.std.proofs.lemmas.Option.{same_Some}

below_differs : (a b : ℕ) → a < b → nat_eq a b ≡ false
below_differs a b h = by (nat_eq a b) refl
  where
    by : (t : Bool) → nat_eq a b ≡ t → nat_eq a b ≡ false
    by true e = let same = eqb-true a b e in absurd (omega arith)
    by false e = e

-- the place of the entry of a block moves along
next_block : (block j : ℕ) → block + 2 * suc j ≡ 2 + block + 2 * j
next_block block j = omega arith

-- a block that is not taken has no order in the table
pub entry_of_free : (block j : ℕ) (orders : List ℕ) → order_in (taken_from block orders) (block + 2 * j) ≡ None
    → j < length orders → slice_get orders j ≡ Some 0
entry_of_free block j [] e h = absurd (omega arith)
entry_of_free block zero (zero ∷ orders) e h = refl
entry_of_free block zero (suc order ∷ orders) e h =
    let same : nat_eq block (block + 2 * 0) ≡ true = eq-eqb block (block + 2 * 0) (omega arith) in
    let found : order_in (taken_from block (suc order ∷ orders)) (block + 2 * 0) ≡ Some (suc order) =
    ap (λ t. if t then Some (suc order) else order_in (taken_from (2 + block) orders) (block + 2 * 0)) same in
    cc
entry_of_free block (suc j) (zero ∷ orders) e h =
    let P : ℕ → Type 0 = λ b. order_in (taken_from (2 + block) orders) b ≡ None in
    entry_of_free (2 + block) j orders (subst P (next_block block j) e) (omega arith)
entry_of_free block (suc j) (suc order ∷ orders) e h =
    let other : nat_eq block (block + 2 * suc j) ≡ false = below_differs block (block + 2 * suc j) (omega arith) in
    let P : ℕ → Type 0 = λ b. order_in (taken_from (2 + block) orders) b ≡ None in
    let later : order_in (taken_from (2 + block) orders) (block + 2 * suc j) ≡ None =
    sym (ap (λ t. if t then Some (suc order) else order_in (taken_from (2 + block) orders) (block + 2 * suc j))
    other) ∙ e in
    entry_of_free (2 + block) j orders (subst P (next_block block j) later) (omega arith)

-- an entry that is not 0 is the order of a taken block
pub taken_of_entry : (start j order : ℕ) (orders : List ℕ) → slice_get orders j ≡ Some (suc order)
    → order_in (taken_from start orders) (start + 2 * j) ≡ Some (suc order)
taken_of_entry start j order [] e = cc
taken_of_entry start zero order (zero ∷ orders) e = cc
taken_of_entry start zero order (suc o ∷ orders) e =
    ap (λ t. if t then Some (suc o) else order_in (taken_from (2 + start) orders) (start + 2 * 0))
    (eq-eqb start (start + 2 * 0) (omega arith)) ∙ e
taken_of_entry start (suc j) order (zero ∷ orders) e =
    let P : ℕ → Type 0 = λ b. order_in (taken_from (2 + start) orders) b ≡ Some (suc order) in
    subst P (sym (next_block start j)) (taken_of_entry (2 + start) j order orders e)
taken_of_entry start (suc j) order (suc o ∷ orders) e =
    let P : ℕ → Type 0 = λ b. order_in (taken_from (2 + start) orders) b ≡ Some (suc order) in
    ap (λ t. if t then Some (suc o) else order_in (taken_from (2 + start) orders) (start + 2 * suc j))
    (below_differs start (start + 2 * suc j) (omega arith))
    ∙ subst P (sym (next_block start j)) (taken_of_entry (2 + start) j order orders e)

-- the index of an allocated block's entry
pub record Entry (start block order : ℕ) (orders : List ℕ) : Type 0 where
  pub index : ℕ
  pub at : block ≡ start + 2 * index
  pub entry : slice_get orders index ≡ Some order
  pub from_one : 1 ≤ order

later_entry : (start block order o : ℕ) (orders : List ℕ) → Entry (2 + start) block order orders
    → Entry start block order (o ∷ orders)
later_entry start block order o orders t =
    record { index = suc t.index; at = t.at ∙ sym (next_block start t.index); entry = t.entry; from_one = t.from_one }

pub entry_of_taken : (start block order : ℕ) (orders : List ℕ) → order_in (taken_from start orders) block ≡ Some order
    → Entry start block order orders
entry_of_taken start block order [] e = cc
entry_of_taken start block order (zero ∷ orders) e = later_entry start block order 0 orders
    (entry_of_taken (2 + start) block order orders e)
entry_of_taken start block order (suc o ∷ orders) e = here_or_later
    (λ f. entry_of_taken (2 + start) block order orders f) (nat_eq start block) refl e
  where
    here_or_later : (order_in (taken_from (2 + start) orders) block ≡ Some order → Entry (2 + start) block order orders)
        → (t : Bool) → nat_eq start block ≡ t → (if t then Some (suc o) else order_in (taken_from (2 + start) orders)
        block) ≡ Some order → Entry start block order (suc o ∷ orders)
    here_or_later later true same found =
        let is : suc o ≡ order = same_Some (suc o) order found in
        record {
          index = 0;
          at = let b = eqb-true start block same in omega arith;
          entry = found;
          from_one = omega arith;
        }
    here_or_later later false other found = later_entry start block order (suc o) orders (later found)

-- a block below all taken ones comes first
with_taken-first : (block order start : ℕ) (orders : List ℕ) → block < start
    → with_taken block order (taken_from start orders) ≡ (block, order) ∷ taken_from start orders
with_taken-first block order start [] h = refl
with_taken-first block order start (zero ∷ orders) h = with_taken-first block order (2 + start) orders (omega arith)
with_taken-first block order start (suc o ∷ orders) h =
    ap (λ t. if t then (block, order) ∷ (start, suc o) ∷ taken_from (2 + start) orders else (start, suc o)
    ∷ with_taken block order (taken_from (2 + start) orders)) (lt-ltb block start h)

-- an entry that was 0 gets an order
pub taken_from-set : (block j order : ℕ) (orders : List ℕ) → slice_get orders j ≡ Some 0
    → taken_from block (slice_set orders j (suc order)) ≡ with_taken (block + 2 * j) (suc order)
    (taken_from block orders)
taken_from-set block j order [] e = cc
taken_from-set block zero order (o ∷ orders) e =
    let first = with_taken-first block (suc order) (2 + block) orders (omega arith) in
    let here : block ≡ block + 2 * 0 = omega arith in
    sym first ∙ ap (λ b. with_taken b (suc order) (taken_from (2 + block) orders)) here
    ∙ ap (λ x. with_taken (block + 2 * 0) (suc order) (taken_from block (x ∷ orders))) (sym (same_Some o 0 e))
taken_from-set block (suc j) order (zero ∷ orders) e =
    taken_from-set (2 + block) j order orders e ∙ ap (λ b. with_taken b (suc order) (taken_from (2 + block) orders))
    (sym (next_block block j))
taken_from-set block (suc j) order (suc o ∷ orders) e =
    let rest = taken_from-set (2 + block) j order orders e
    ∙ ap (λ b. with_taken b (suc order) (taken_from (2 + block) orders)) (sym (next_block block j)) in
    let at = block + 2 * suc j in
    ap (λ l. (block, suc o) ∷ l) rest
    ∙ sym (ap (λ t. if t then (at, suc order) ∷ (block, suc o) ∷ taken_from (2 + block) orders else (block, suc o)
    ∷ with_taken at (suc order) (taken_from (2 + block) orders)) (le-ltb at block (omega arith)))

-- an entry that held an order becomes 0
pub taken_from-clear : (block j order : ℕ) (orders : List ℕ) → slice_get orders j ≡ Some (suc order)
    → taken_from block (slice_set orders j 0) ≡ without_taken (block + 2 * j) (taken_from block orders)
taken_from-clear block j order [] e = cc
taken_from-clear block zero order (o ∷ orders) e =
    let same : nat_eq block (block + 2 * 0) ≡ true = eq-eqb block (block + 2 * 0) (omega arith) in
    sym (ap (λ t. if t then taken_from (2 + block) orders else (block, suc order)
    ∷ without_taken (block + 2 * 0) (taken_from (2 + block) orders)) same)
    ∙ ap (λ x. without_taken (block + 2 * 0) (taken_from block (x ∷ orders))) (sym (same_Some o (suc order) e))
taken_from-clear block (suc j) order (zero ∷ orders) e =
    taken_from-clear (2 + block) j order orders e ∙ ap (λ b. without_taken b (taken_from (2 + block) orders))
    (sym (next_block block j))
taken_from-clear block (suc j) order (suc o ∷ orders) e =
    let rest = taken_from-clear (2 + block) j order orders e
    ∙ ap (λ b. without_taken b (taken_from (2 + block) orders)) (sym (next_block block j)) in
    let at = block + 2 * suc j in
    ap (λ l. (block, suc o) ∷ l) rest
    ∙ sym (ap (λ t. if t then taken_from (2 + block) orders else (block, suc o)
    ∷ without_taken at (taken_from (2 + block) orders)) (below_differs block at (omega arith)))

-- what one more, and one less, taken block weighs
pub taken_weight-with : (f : ℕ → ℕ → ℕ) (block order : ℕ) (taken : TakenBlocks)
    → taken_weight f (with_taken block order taken) ≡ f block (2 ^ order) + taken_weight f taken
taken_weight-with f block order [] = refl
taken_weight-with f block order ((b, o) ∷ taken) = by (taken_weight-with f block order taken) (nat_lt block b)
  where
    by : taken_weight f (with_taken block order taken) ≡ f block (2 ^ order) + taken_weight f taken → (t : Bool)
        → taken_weight f (if t then (block, order) ∷ (b, o) ∷ taken else (b, o) ∷ with_taken block order taken)
        ≡ f block (2 ^ order) + (f b (2 ^ o) + taken_weight f taken)
    by w true = refl
    by w false = omega arith

pub taken_weight-without : (f : ℕ → ℕ → ℕ) (block order : ℕ) (taken : TakenBlocks) → order_in taken block ≡ Some order
    → taken_weight f taken ≡ f block (2 ^ order) + taken_weight f (without_taken block taken)
taken_weight-without f block order [] e = cc
taken_weight-without f block order ((b, o) ∷ taken) e =
    by (λ found. taken_weight-without f block order taken found) (nat_eq b block) refl e
  where
    by : (order_in taken block ≡ Some order → taken_weight f taken
        ≡ f block (2 ^ order) + taken_weight f (without_taken block taken)) → (t : Bool) → nat_eq b block ≡ t
        → (if t then Some o else order_in taken block) ≡ Some order
        → f b (2 ^ o) + taken_weight f taken ≡ f block (2 ^ order) + taken_weight f
        (if t then taken else (b, o) ∷ without_taken block taken)
    by later true same found = ap (λ x. f x (2 ^ o) + taken_weight f taken) (eqb-true b block same)
        ∙ ap (λ x. f block (2 ^ x) + taken_weight f taken) (same_Some o order found)
    by later false other found = let w = later found in omega arith

pub is_aligned-with : (block order : ℕ) (taken : TakenBlocks) → block % 2 ^ order ≡ 0 → is_aligned taken ≡ true
    → is_aligned (with_taken block order taken) ≡ true
is_aligned-with block order [] h e = and_from (nat_eq (block % 2 ^ order) 0) _ (eq-eqb (block % 2 ^ order) 0 h) refl
is_aligned-with block order ((b, o) ∷ taken) h e = by (is_aligned-with block order taken h parts.1) (nat_lt block b)
  where
    parts : (nat_eq (b % 2 ^ o) 0 ≡ true) × (is_aligned taken ≡ true)
    parts = and_parts (nat_eq (b % 2 ^ o) 0) (is_aligned taken) e

    by : is_aligned (with_taken block order taken) ≡ true → (t : Bool)
        → is_aligned (if t then (block, order) ∷ (b, o) ∷ taken else (b, o) ∷ with_taken block order taken) ≡ true
    by rest true = and_from (nat_eq (block % 2 ^ order) 0) _ (eq-eqb (block % 2 ^ order) 0 h) e
    by rest false = and_from (nat_eq (b % 2 ^ o) 0) _ parts.0 rest

pub is_aligned-without : (block : ℕ) (taken : TakenBlocks) → is_aligned taken ≡ true
    → is_aligned (without_taken block taken) ≡ true
is_aligned-without block [] e = refl
is_aligned-without block ((b, o) ∷ taken) e = by (is_aligned-without block taken parts.1) (nat_eq b block)
  where
    parts : (nat_eq (b % 2 ^ o) 0 ≡ true) × (is_aligned taken ≡ true)
    parts = and_parts (nat_eq (b % 2 ^ o) 0) (is_aligned taken) e

    by : is_aligned (without_taken block taken) ≡ true → (t : Bool)
        → is_aligned (if t then taken else (b, o) ∷ without_taken block taken) ≡ true
    by rest true = parts.1
    by rest false = and_from (nat_eq (b % 2 ^ o) 0) _ parts.0 rest

pub is_aligned-taken : (block order : ℕ) (taken : TakenBlocks) → order_in taken block ≡ Some order
    → is_aligned taken ≡ true → block % 2 ^ order ≡ 0
is_aligned-taken block order [] e h = cc
is_aligned-taken block order ((b, o) ∷ taken) e h = by (λ found. is_aligned-taken block order taken found parts.1)
    (nat_eq b block) refl e
  where
    parts : (nat_eq (b % 2 ^ o) 0 ≡ true) × (is_aligned taken ≡ true)
    parts = and_parts (nat_eq (b % 2 ^ o) 0) (is_aligned taken) h

    by : (order_in taken block ≡ Some order → block % 2 ^ order ≡ 0) → (t : Bool) → nat_eq b block ≡ t
        → (if t then Some o else order_in taken block) ≡ Some order → block % 2 ^ order ≡ 0
    by later true same found = ap (λ x. x % 2 ^ order) (sym (eqb-true b block same))
        ∙ ap (λ x. b % 2 ^ x) (sym (same_Some o order found)) ∙ eqb-true (b % 2 ^ o) 0 parts.0
    by later false other found = later found

taken_at_head : (block order : ℕ) (taken : TakenBlocks) → order_in ((block, order) ∷ taken) block ≡ Some order
taken_at_head block order taken = ap (λ t. if t then Some order else order_in taken block) (eq-eqb block block refl)

-- a block that was taken has its order
pub order_in-with : (block order : ℕ) (taken : TakenBlocks) → order_in taken block ≡ None
    → order_in (with_taken block order taken) block ≡ Some order
order_in-with block order [] e = taken_at_head block order []
order_in-with block order ((b, o) ∷ taken) e = by (λ f. order_in-with block order taken f) (nat_lt block b)
  where
    later : (order_in taken block ≡ None → order_in (with_taken block order taken) block ≡ Some order) → (t : Bool)
        → (if t then Some o else order_in taken block) ≡ None
        → (if t then Some o else order_in (with_taken block order taken) block) ≡ Some order
    later rest true found = cc
    later rest false found = rest found

    by : (order_in taken block ≡ None → order_in (with_taken block order taken) block ≡ Some order) → (t : Bool)
        → order_in (if t then (block, order) ∷ (b, o) ∷ taken else (b, o) ∷ with_taken block order taken) block
        ≡ Some order
    by rest true = taken_at_head block order ((b, o) ∷ taken)
    by rest false = later rest (nat_eq b block) e
