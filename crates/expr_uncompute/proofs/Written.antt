-- Words below the free words of the frame are written.
use Rattle.std.proofs.Common.{◌≡◌, ◌≢◌, ℕ, ◌+◌, ◌^◌, ◌<◌, ◌≤◌, List, [], ◌∷◌, length, length-set, refl, sym, ap, ◌∙◌}
use Rattle.std.proofs.Common.{subst, arith, ⊎_elim}
use Rattle.std.specs.Prelude.{slice_index, slice_set}
use Rattle.std.proofs.lemmas.List.{get_or-set_same, get_or-set_other, set_past, set_comm}
use Rattle.std.proofs.lemmas.Bool.{cases_lt, cases_eq}
use Rattle.register_expressions.specs.rpp_tree.Tree.{Expression, Number, Null, Variable, Element, Binary, Lvalue, Whole, Item}
use Rattle.register_expressions.specs.refine_form.declared.spot.Spot.{Spot}
use Rattle.register_expressions.specs.Code.{words}
use Rattle.expr_uncompute.specs.Code.{place_words}
use Rattle.register_expressions.specs.Number.{Bases, lvalue_read, Sees, Same, SamePlace}
use Rattle.register_expressions.proofs.Numbers.{Agree, AllWords, sees_same}
use Rattle.expr_uncompute.proofs.Stored.{home, stored, parted, IsWrite, stored_length, stored_other, stored_below}
use Rattle.expr_uncompute.proofs.Stored.{stored_written, parted_written, same_lifted}
use Rattle.expr_uncompute.proofs.Prepare.{Fit, stored_words}
use Rattle.expr_uncompute.proofs.PlaceLaws.{FitPlace, placed}

pub set_lifts : (zs ys : List ℕ) (a y k : ℕ) → length ys ≡ length zs → slice_index ys k ≡ slice_index zs k
    → slice_index (slice_set ys a y) k ≡ slice_index (slice_set zs a y) k
set_lifts zs ys a y k l e = ⊎_elim (λ q. same q) (λ n. get_or-set_other ys a k y 0 n ∙ e
    ∙ sym (get_or-set_other zs a k y 0 n)) (cases_eq k a)
  where
    same : k ≡ a → slice_index (slice_set ys a y) k ≡ slice_index (slice_set zs a y) k
    same q = ⊎_elim (λ h. inside h) (λ g. beyond g) (cases_lt a (length zs))
      where
        inside : a < length zs → slice_index (slice_set ys a y) k ≡ slice_index (slice_set zs a y) k
        inside h = subst (λ k. slice_index (slice_set ys a y) k ≡ slice_index (slice_set zs a y) k) (sym q)
            (get_or-set_same ys a y 0 (omega arith) ∙ sym (get_or-set_same zs a y 0 h))

        beyond : length zs ≤ a → slice_index (slice_set ys a y) k ≡ slice_index (slice_set zs a y) k
        beyond g = ap (λ z. slice_index z k) (set_past ys a y (omega arith)) ∙ e
            ∙ sym (ap (λ z. slice_index z k) (set_past zs a y g))

module _ (spot : List ℕ → Spot) (free : ℕ) (b : Bases) where
  abbrev low : ℕ
  low = b.frame + free

  -- one word
  pub write_one : (a y : ℕ) → a < low → IsWrite spot free b (λ zs. slice_set zs a y)
  write_one a y h = record {
    passes = λ zs g v l. set_comm zs g a v y (λ e. omega arith);
    lifts = λ zs ys l ag k hk. set_lifts zs ys a y k l (ag k hk);
  }

  -- two words
  pub write_two : (a y a' y' : ℕ) → a < low → a' < low → IsWrite spot free b (λ zs. slice_set (slice_set zs a y) a' y')
  write_two a y a' y' h h' = record {
    passes = λ zs g v l. ap (λ z. slice_set z a' y') (set_comm zs g a v y (λ e. omega arith))
        ∙ set_comm (slice_set zs a y) g a' v y' (λ e. omega arith);
    lifts = λ zs ys l ag k hk. set_lifts (slice_set zs a y) (slice_set ys a y) a' y' k
        (length-set ys a y ∙ l ∙ sym (length-set zs a y)) (set_lifts zs ys a y k l (ag k hk));
  }

  -- the same the other way
  pub same_turned : (e : Expression) (zs zs' : List ℕ) → Same spot b zs zs' e → Same spot b zs' zs e
  same_turned (Number at word) zs zs' h = tt
  same_turned (Null at) zs zs' h = tt
  same_turned (Variable name) zs zs' h = sym h
  same_turned (Element name index) zs zs' h = (sym h.0, same_turned index zs zs' h.1)
  same_turned (Binary at op left right) zs zs' h = (sym h.0, same_turned left zs zs' h.1, same_turned right zs zs' h.2)

  pub place_turned : (target : Lvalue) (zs zs' : List ℕ) → SamePlace spot b zs zs' target
      → SamePlace spot b zs' zs target
  place_turned (Whole name) zs zs' h = tt
  place_turned (Item name index) zs zs' h = (sym h.0, same_turned index zs zs' h.1)

  -- ---- a place, and what is found after it

  -- a place and n words more fit
  pub record FitFrom (target : Lvalue) (n : ℕ) (zs : List ℕ) : Type 0 where
    pub all : AllWords zs
    pub sees : Sees spot b low zs (lvalue_read target)
    pub fits : home spot free b (place_words target + n) ≤ length zs
    pub small : length zs ≤ 2 ^ 31
    pub empty : (a : ℕ) → home spot free b 0 ≤ a → a < home spot free b (place_words target + n) → slice_index zs a ≡ 0

  pub place_fits : (target : Lvalue) (n : ℕ) (zs : List ℕ) → FitFrom target n zs → FitPlace spot free b target 0 zs
  place_fits target n zs h = record {
    all = h.all;
    sees = h.sees;
    fits = let l = h.fits in omega arith;
    small = h.small;
    empty = λ a lo hi. h.empty a lo (omega arith);
  }

  pub placed_length : (target : Lvalue) (zs : List ℕ) → length (placed spot free b target 0 zs) ≡ length zs
  placed_length (Whole name) zs = refl
  placed_length (Item name index) zs = stored_length spot free b index 0 zs

  pub placed_below : (target : Lvalue) (zs : List ℕ) → Agree low zs (placed spot free b target 0 zs)
  placed_below (Whole name) zs = λ a h. refl
  placed_below (Item name index) zs = stored_below spot free b index 0 zs

  pub placed_words : (target : Lvalue) (zs : List ℕ) → AllWords zs → Sees spot b low zs (lvalue_read target)
      → AllWords (placed spot free b target 0 zs)
  placed_words (Whole name) zs w s = w
  placed_words (Item name index) zs w s = stored_words spot free b index 0 zs w s.2

  pub placed_other : (target : Lvalue) (zs : List ℕ) (a : ℕ) → home spot free b (place_words target) ≤ a
      → slice_index (placed spot free b target 0 zs) a ≡ slice_index zs a
  placed_other (Whole name) zs a h = refl
  placed_other (Item name index) zs a h = stored_other spot free b index 0 zs a
      (Rattle.std.proofs.Common.inr (omega arith))

  pub placed_written : (write : List ℕ → List ℕ) → IsWrite spot free b write → (target : Lvalue) (zs : List ℕ)
      → Sees spot b low zs (lvalue_read target) → Sees spot b low (write zs) (lvalue_read target)
      → SamePlace spot b zs (write zs) target → placed spot free b target 0 (write zs)
      ≡ write (placed spot free b target 0 zs)
  placed_written write w (Whole name) zs s s' h = refl
  placed_written write w (Item name index) zs s s' h = stored_written spot free b write w index 0 zs s.2 s'.2 h.1

  -- a value after an lvalue
  pub value_fits : (target : Lvalue) (e : Expression) (zs : List ℕ) → FitFrom target (words e) zs → Sees spot b low zs e
      → Fit spot free b e (place_words target) (placed spot free b target 0 zs)
  value_fits target e zs h s = record {
    all = placed_words target zs h.all h.sees;
    sees = sees_same spot b low zs _ (placed_below target zs) e s;
    room = record { fits = rw (placed_length target zs) h.fits; small = rw (placed_length target zs) h.small };
    empty = λ a lo hi. placed_other target zs a lo ∙ h.empty a (omega arith) hi;
  }

  -- what is filled by both
  abbrev pub filled : Lvalue → Expression → List ℕ → List ℕ
  filled target e zs = parted spot free b e (place_words target) (placed spot free b target 0 zs)

  pub filled_written : (write : List ℕ → List ℕ) → IsWrite spot free b write
      → (target : Lvalue) (e : Expression) (zs : List ℕ) → Sees spot b low zs (lvalue_read target)
      → Sees spot b low (write zs) (lvalue_read target) → SamePlace spot b zs (write zs) target → Sees spot b low zs e
      → Sees spot b low (write zs) e → Same spot b zs (write zs) e
      → filled target e (write zs) ≡ write (filled target e zs)
  filled_written write w target e zs t t' p s s' h =
      let zs1 : List ℕ = placed spot free b target 0 zs in
      let below = placed_below target zs in
      let below' : Agree low (write zs) (write zs1) = w.lifts zs zs1 (placed_length target zs) below in
      ap (parted spot free b e (place_words target)) (placed_written write w target zs t t' p)
      ∙ parted_written spot free b write w e (place_words target) zs1 (sees_same spot b low zs zs1 below e s)
      (sees_same spot b low (write zs) (write zs1) below' e s')
      (same_lifted spot free b e zs (write zs) zs1 (write zs1) below below' s s' h)

  -- the same with a second place
  pub other_fits : (target other : Lvalue) (zs : List ℕ) → FitFrom target (place_words other) zs
      → Sees spot b low zs (lvalue_read other) → FitPlace spot free b other (place_words target)
      (placed spot free b target 0 zs)
  other_fits target other zs h s = record {
    all = placed_words target zs h.all h.sees;
    sees = sees_same spot b low zs _ (placed_below target zs) (lvalue_read other) s;
    fits = rw (placed_length target zs) h.fits;
    small = rw (placed_length target zs) h.small;
    empty = λ a lo hi. placed_other target zs a lo ∙ h.empty a (omega arith) hi;
  }

  abbrev pub both_placed : (target other : Lvalue) → List ℕ → List ℕ
  both_placed target other zs = placed spot free b other (place_words target) (placed spot free b target 0 zs)

  pub both_written : (write : List ℕ → List ℕ) → IsWrite spot free b write → (target other : Lvalue) (zs : List ℕ)
      → Sees spot b low zs (lvalue_read target) → Sees spot b low (write zs) (lvalue_read target)
      → SamePlace spot b zs (write zs) target → Sees spot b low zs (lvalue_read other)
      → Sees spot b low (write zs) (lvalue_read other) → SamePlace spot b zs (write zs) other
      → both_placed target other (write zs) ≡ write (both_placed target other zs)
  both_written write w target (Whole name) zs t t' p s s' h = placed_written write w target zs t t' p
  both_written write w target (Item name index) zs t t' p s s' h =
      let zs1 : List ℕ = placed spot free b target 0 zs in
      let below = placed_below target zs in
      let below' : Agree low (write zs) (write zs1) = w.lifts zs zs1 (placed_length target zs) below in
      ap (stored spot free b index (place_words target)) (placed_written write w target zs t t' p)
      ∙ stored_written spot free b write w index (place_words target) zs1 (sees_same spot b low zs zs1 below index s.2)
      (sees_same spot b low (write zs) (write zs1) below' index s'.2)
      (same_lifted spot free b index zs (write zs) zs1 (write zs1) below below' s.2 s'.2 h.1)
