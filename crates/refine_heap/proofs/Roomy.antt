-- The allocated blocks have space for the objects.
use Rattle.std.proofs.Common.{◌≡◌, ◌≢◌, ◌∙◌, ℕ, ◌+◌, ◌^◌, ◌<◌, ◌≤◌, Bool, true, false, List, [], ◌∷◌, refl, sym, ap}
use Rattle.std.proofs.Common.{arith, nat_eq, nat_lt, Some, None, eqb-true, ne_eqb, if◌then◌else◌}
use Rattle.roopl_semantics.specs.rpp_tree.Tree.{Source}
use Rattle.buddy_pisa.specs.buddy_book.Book.{Book}
use Rattle.buddy_pisa.specs.buddy_book.Shown.{TakenBlocks, Shown, order_in, with_taken, without_taken, weight, taken_weight}
use Rattle.buddy_pisa.specs.buddy_book.Shown.{IsKept, cover}
use Rattle.buddy_pisa.proofs.buddy_book_laws.Kept.{cover-additive, given_back}
use Rattle.buddy_pisa.proofs.buddy_book_laws.Table.{taken_weight-without}
use Rattle.roopl_semantics.specs.Store.{Store}
use Rattle.refine_heap.specs.Laid.{StandApart}
use Rattle.refine_heap.specs.Rooms.{HaveRoom, NotAmongBlocks, RoomLaw}

-- no word of a taken block is free
none_free : (x block s u w v y : ℕ) → v ≡ cover x block s + y → w + v ≡ cover x 0 u → block ≤ x → x < block + s → w ≡ 0
none_free x block s u w v y ev total lo hi = omega arith

rooms_apart : (program : Source) (h base : ℕ) (store : Store) (all blocks : List (ℕ × ℕ)) (book : Book)
    (taken : TakenBlocks) → IsKept (record { h = h; base = base; free = book; taken = taken })
    → HaveRoom program base store all blocks taken → StandApart program (2 ^ h) base store all blocks book
rooms_apart program h base store all [] book taken kept have = tt
rooms_apart program h base store all ((name, block) ∷ rest) book taken kept have =
    let shown : Shown = record { h = h; base = base; free = book; taken = taken } in
    let k = have.0.0 in
    let order = have.0.1 in
    let room = have.0.2 in
    let back = given_back shown k block kept order in
    let fits = back.fits in (
      omega arith,
      (λ x lo hi. none_free x block (2 ^ k) (2 ^ h) (weight (cover x) 2 book) (taken_weight (cover x) taken)
          (taken_weight (cover x) (without_taken block taken)) (taken_weight-without (cover x) block k taken order)
          (kept.balanced (cover x) (cover-additive x)) lo (omega arith)),
      rooms_apart program h base store all rest book taken kept have.1,
    )

-- the orders of other blocks stay
order_kept : (block k b o : ℕ) (taken : TakenBlocks) → b ≢ block → order_in taken b ≡ Some o
    → order_in (with_taken block k taken) b ≡ Some o
order_kept block k b o [] ne e = cc
order_kept block k b o ((c, p) ∷ taken) ne e = by (nat_lt block c) (λ f. order_kept block k b o taken ne f)
  where
    differs : nat_eq block b ≡ false
    differs = ne_eqb block b (λ c. ne (sym c))

    same : (t : Bool) → (order_in taken b ≡ Some o → order_in (with_taken block k taken) b ≡ Some o)
        → (if t then Some p else order_in taken b) ≡ Some o
        → (if t then Some p else order_in (with_taken block k taken) b) ≡ Some o
    same true next f = f
    same false next f = next f

    by : (t : Bool) → (order_in taken b ≡ Some o → order_in (with_taken block k taken) b ≡ Some o)
        → order_in (if t then (block, k) ∷ ((c, p) ∷ taken) else (c, p) ∷ with_taken block k taken) b ≡ Some o
    by true next = ap (λ t. if t then Some k else order_in ((c, p) ∷ taken) b) differs ∙ e
    by false next = same (nat_eq c b) next e

order_left : (block b o : ℕ) (taken : TakenBlocks) → b ≢ block → order_in taken b ≡ Some o
    → order_in (without_taken block taken) b ≡ Some o
order_left block b o [] ne e = cc
order_left block b o ((c, p) ∷ taken) ne e = by (nat_eq c block) refl (λ f. order_left block b o taken ne f)
  where
    gone : c ≡ block → order_in taken b ≡ Some o
    gone is = sym (ap (λ t. if t then Some p else order_in taken b) (ne_eqb c b (λ f. ne (sym f ∙ is)))) ∙ e

    same : (t : Bool) → (order_in taken b ≡ Some o → order_in (without_taken block taken) b ≡ Some o)
        → (if t then Some p else order_in taken b) ≡ Some o
        → (if t then Some p else order_in (without_taken block taken) b) ≡ Some o
    same true next f = f
    same false next f = next f

    by : (t : Bool) → nat_eq c block ≡ t → (order_in taken b ≡ Some o → order_in (without_taken block taken) b ≡ Some o)
        → order_in (if t then taken else (c, p) ∷ without_taken block taken) b ≡ Some o
    by true f next = gone (eqb-true c block f)
    by false f next = same (nat_eq c b) next e

rooms_with : (program : Source) (base : ℕ) (store : Store) (all blocks : List (ℕ × ℕ)) (block k : ℕ)
    (taken : TakenBlocks) → order_in taken block ≡ None → HaveRoom program base store all blocks taken
    → HaveRoom program base store all blocks (with_taken block k taken)
rooms_with program base store all [] block k taken none have = tt
rooms_with program base store all ((name, b) ∷ rest) block k taken none have = (
  (have.0.0, order_kept block k b have.0.0 taken (λ e. differ e have.0.1) have.0.1, have.0.2),
  rooms_with program base store all rest block k taken none have.1,
)
  where
    differ : {o : ℕ} → b ≡ block → order_in taken b ≡ Some o → ⊥
    differ e f = let z = ap (order_in taken) e in cc

rooms_without : (program : Source) (base : ℕ) (store : Store) (all blocks : List (ℕ × ℕ)) (block : ℕ)
    (taken : TakenBlocks) → NotAmongBlocks block blocks → HaveRoom program base store all blocks taken
    → HaveRoom program base store all blocks (without_taken block taken)
rooms_without program base store all [] block taken out have = tt
rooms_without program base store all ((name, b) ∷ rest) block taken out have = (
  (have.0.0, order_left block b have.0.0 taken out.0 have.0.1, have.0.2),
  rooms_without program base store all rest block taken out.1 have.1,
)

pub room_law : RoomLaw
room_law = record { apart = rooms_apart; with_one = rooms_with; without_one = rooms_without }
