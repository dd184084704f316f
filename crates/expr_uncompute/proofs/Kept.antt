-- The words that places and values fill, if words below them change.
use Rattle.std.proofs.Common.{◌≡◌, ℕ, ◌+◌, ◌≤◌, inr, List, length, refl, sym, ap, ◌∙◌, arith}
use Rattle.std.specs.Prelude.{slice_index, slice_set}
use Rattle.register_expressions.specs.rpp_tree.Tree.{Expression, Number, Null, Variable, Element, Binary, Lvalue, Whole, Item}
use Rattle.register_expressions.specs.refine_form.declared.spot.Spot.{Spot}
use Rattle.register_expressions.specs.Code.{words}
use Rattle.expr_uncompute.specs.Code.{place_words}
use Rattle.register_expressions.specs.Number.{Bases, word_given, number, lvalue_read, Sees, Same, SamePlace}
use Rattle.expr_uncompute.specs.Found.{Filled, Changes}
use Rattle.register_expressions.proofs.Numbers.{Agree, AllWords, sees_same}
use Rattle.expr_uncompute.proofs.Stored.{home, stored, parted, stored_length, stored_other, stored_below, same_lifted}
use Rattle.expr_uncompute.proofs.Prepare.{parts_done}
use Rattle.expr_uncompute.proofs.PlaceLaws.{placed}
use Rattle.expr_uncompute.proofs.Updates.{placed_is, address_same}
use Rattle.expr_uncompute.proofs.Written.{FitFrom, set_lifts, value_fits, placed_below, placed_length, placed_words}
use Rattle.expr_uncompute.proofs.Written.{filled, both_placed}

module _ (spot : List ℕ → Spot) (free : ℕ) (b : Bases) where
  abbrev low : ℕ
  low = b.frame + free

  -- the same words from an address on
  abbrev pub From : List ℕ → List ℕ → Type 0
  From zs zs' = (a : ℕ) → b.frame + free ≤ a → slice_index zs' a ≡ slice_index zs a

  -- what is stored depends only on the numbers
  pub stored_from : (e : Expression) (i : ℕ) (zs zs' : List ℕ) → length zs' ≡ length zs → Sees spot b low zs e
      → Sees spot b low zs' e → Same spot b zs zs' e → From zs zs'
      → From (stored spot free b e i zs) (stored spot free b e i zs')
  stored_from (Number at word) i zs zs' l s s' h k = k
  stored_from (Null at) i zs zs' l s s' h k = k
  stored_from (Variable name) i zs zs' l s s' h k = k
  stored_from (Element name index) i zs zs' l s s' h k = λ a r.
      let n : ℕ = word_given (number spot b zs (Element name index)) in
      let one : List ℕ = stored spot free b index (i + 1) zs in
      let two : List ℕ = stored spot free b index (i + 1) zs' in
      ap (λ x. slice_index (slice_set two (home spot free b i) (word_given x)) a) h.0
      ∙ set_lifts one two (home spot free b i) n a (stored_length spot free b index (i + 1) zs' ∙ l
      ∙ sym (stored_length spot free b index (i + 1) zs)) (stored_from index (i + 1) zs zs' l s.2 s'.2 h.1 k a r)
  stored_from (Binary at op left right) i zs zs' l s s' h k = λ a r.
      let n : ℕ = word_given (number spot b zs (Binary at op left right)) in
      let j : ℕ = i + 1 + words left in
      let zs1 : List ℕ = stored spot free b left (i + 1) zs in
      let zs1' : List ℕ = stored spot free b left (i + 1) zs' in
      let one : List ℕ = stored spot free b right j zs1 in
      let two : List ℕ = stored spot free b right j zs1' in
      let l1 : length zs1' ≡ length zs1 = stored_length spot free b left (i + 1) zs' ∙ l
      ∙ sym (stored_length spot free b left (i + 1) zs) in
      let below : Agree low zs zs1 = stored_below spot free b left (i + 1) zs in
      let below' : Agree low zs' zs1' = stored_below spot free b left (i + 1) zs' in
      let t = sees_same spot b low zs zs1 below right s.1 in
      let t' = sees_same spot b low zs' zs1' below' right s'.1 in
      let same = same_lifted spot free b right zs zs' zs1 zs1' below below' s.1 s'.1 h.2 in
      let k1 = stored_from left (i + 1) zs zs' l s.0 s'.0 h.1 k in
      ap (λ x. slice_index (slice_set two (home spot free b i) (word_given x)) a) h.0
      ∙ set_lifts one two (home spot free b i) n a (stored_length spot free b right j zs1' ∙ l1
      ∙ sym (stored_length spot free b right j zs1)) (stored_from right j zs1 zs1' l1 t t' same k1 a r)

  -- the same of parts
  pub parted_from : (e : Expression) (i : ℕ) (zs zs' : List ℕ) → length zs' ≡ length zs → Sees spot b low zs e
      → Sees spot b low zs' e → Same spot b zs zs' e → From zs zs'
      → From (parted spot free b e i zs) (parted spot free b e i zs')
  parted_from (Number at word) i zs zs' l s s' h k = k
  parted_from (Null at) i zs zs' l s s' h k = k
  parted_from (Variable name) i zs zs' l s s' h k = k
  parted_from (Element name index) i zs zs' l s s' h k = stored_from index (i + 1) zs zs' l s.2 s'.2 h.1 k
  parted_from (Binary at op left right) i zs zs' l s s' h k =
      let j : ℕ = i + 1 + words left in
      let zs1 : List ℕ = stored spot free b left (i + 1) zs in
      let zs1' : List ℕ = stored spot free b left (i + 1) zs' in
      let l1 : length zs1' ≡ length zs1 = stored_length spot free b left (i + 1) zs' ∙ l
      ∙ sym (stored_length spot free b left (i + 1) zs) in
      let below : Agree low zs zs1 = stored_below spot free b left (i + 1) zs in
      let below' : Agree low zs' zs1' = stored_below spot free b left (i + 1) zs' in
      stored_from right j zs1 zs1' l1 (sees_same spot b low zs zs1 below right s.1)
      (sees_same spot b low zs' zs1' below' right s'.1) (same_lifted spot free b right zs zs' zs1 zs1' below below'
      s.1 s'.1 h.2) (stored_from left (i + 1) zs zs' l s.0 s'.0 h.1 k)

  pub parted_other : (e : Expression) (i : ℕ) (zs : List ℕ) (a : ℕ) → home spot free b (i + words e) ≤ a
      → slice_index (parted spot free b e i zs) a ≡ slice_index zs a
  parted_other (Number at word) i zs a h = refl
  parted_other (Null at) i zs a h = refl
  parted_other (Variable name) i zs a h = refl
  parted_other (Element name index) i zs a h = stored_other spot free b index (i + 1) zs a (inr (omega arith))
  parted_other (Binary at op left right) i zs a h =
      stored_other spot free b right (i + 1 + words left) (stored spot free b left (i + 1) zs) a (inr (omega arith))
      ∙ stored_other spot free b left (i + 1) zs a (inr (omega arith))

  -- of a place from word i on
  pub placed_from : (target : Lvalue) (i : ℕ) (zs zs' : List ℕ) → length zs' ≡ length zs
      → Sees spot b low zs (lvalue_read target) → Sees spot b low zs' (lvalue_read target)
      → SamePlace spot b zs zs' target
      → From zs zs' → From (placed spot free b target i zs) (placed spot free b target i zs')
  placed_from (Whole name) i zs zs' l s s' h k = k
  placed_from (Item name index) i zs zs' l s s' h k = stored_from index i zs zs' l s.2 s'.2 h.1 k

  pub placed_past : (target : Lvalue) (i : ℕ) (zs : List ℕ) (a : ℕ) → home spot free b (i + place_words target) ≤ a
      → slice_index (placed spot free b target i zs) a ≡ slice_index zs a
  placed_past (Whole name) i zs a h = refl
  placed_past (Item name index) i zs a h = stored_other spot free b index i zs a (inr (omega arith))

  -- a place stays where it is, over the words that another one fills
  pub place_lifted : (target : Lvalue) (zs zs' ys ys' : List ℕ) → Agree low zs ys → Agree low zs' ys'
      → Sees spot b low zs (lvalue_read target) → Sees spot b low zs' (lvalue_read target)
      → SamePlace spot b zs zs' target
      → SamePlace spot b ys ys' target
  place_lifted (Whole name) zs zs' ys ys' k k' s s' h = tt
  place_lifted (Item name index) zs zs' ys ys' k k' s s' h = (
    address_same spot free b (Item name index) zs' ys' k' s' ∙ h.0
        ∙ sym (address_same spot free b (Item name index) zs ys k s),
    same_lifted spot free b index zs zs' ys ys' k k' s.2 s'.2 h.1,
  )

  -- ---- a place

  pub place_fills : (target : Lvalue) (zs : List ℕ) → AllWords zs → Sees spot b low zs (lvalue_read target)
      → Filled low (place_words target) zs (placed spot free b target 0 zs)
  place_fills target zs w s = record {
    count = placed_length spot free b target zs;
    words = placed_words spot free b target zs w s;
    below = placed_below spot free b target zs;
    above = λ a h. placed_past target 0 zs a (omega arith);
  }

  pub place_changes : (target : Lvalue) (zs zs' : List ℕ) → Sees spot b low zs (lvalue_read target)
      → Sees spot b low zs' (lvalue_read target) → SamePlace spot b zs zs' target → Changes low zs zs'
      → Changes low (placed spot free b target 0 zs) (placed spot free b target 0 zs')
  place_changes target zs zs' s s' h c = record {
    count = placed_length spot free b target zs' ∙ c.count ∙ sym (placed_length spot free b target zs);
    words = placed_words spot free b target zs' c.words s';
    above = placed_from target 0 zs zs' c.count s s' h c.above;
  }

  -- ---- a place and a value

  pub value_fills : (target : Lvalue) (e : Expression) (zs : List ℕ) → FitFrom spot free b target (words e) zs
      → Sees spot b low zs e → Filled low (place_words target + words e) zs (filled spot free b target e zs)
  value_fills target e zs h s =
      let zs1 : List ℕ = placed spot free b target 0 zs in
      let d = parts_done spot free b e (place_words target) zs1 (value_fits spot free b target e zs h s) in
      record {
        count = d.count ∙ placed_length spot free b target zs;
        words = d.all;
        below = λ a l. d.below a l ∙ placed_below spot free b target zs a l;
        above = λ a l. parted_other e (place_words target) zs1 a (omega arith)
            ∙ placed_past target 0 zs a (omega arith);
      }

  pub value_changes : (target : Lvalue) (e : Expression) (zs zs' : List ℕ) → FitFrom spot free b target (words e) zs
      → FitFrom spot free b target (words e) zs' → Sees spot b low zs e → Sees spot b low zs' e
      → SamePlace spot b zs zs' target → Same spot b zs zs' e → Changes low zs zs'
      → Changes low (filled spot free b target e zs) (filled spot free b target e zs')
  value_changes target e zs zs' h h' s s' p q c =
      let zs1 : List ℕ = placed spot free b target 0 zs in
      let zs1' : List ℕ = placed spot free b target 0 zs' in
      let f = value_fills target e zs h s in
      let f' = value_fills target e zs' h' s' in
      let below = placed_below spot free b target zs in
      let below' = placed_below spot free b target zs' in
      let one = place_changes target zs zs' h.sees h'.sees p c in
      record {
        count = f'.count ∙ c.count ∙ sym f.count;
        words = f'.words;
        above = parted_from e (place_words target) zs1 zs1' one.count (sees_same spot b low zs zs1 below e s)
            (sees_same spot b low zs' zs1' below' e s') (same_lifted spot free b e zs zs' zs1 zs1' below below' s s' q)
            one.above;
      }

  -- ---- two places

  pub places_fill : (source target : Lvalue) (zs : List ℕ) → FitFrom spot free b source (place_words target) zs
      → Sees spot b low zs (lvalue_read target) → Filled low (place_words source + place_words target) zs
      (both_placed spot free b source target zs)
  places_fill source target zs h s =
      let zs1 : List ℕ = placed spot free b source 0 zs in
      let k = placed_is spot free b (λ r. 0) source target zs h s in
      record {
        count = k.count;
        words = k.all;
        below = k.below;
        above = λ a l. placed_past target (place_words source) zs1 a (omega arith)
            ∙ placed_past source 0 zs a (omega arith);
      }

  pub places_change : (source target : Lvalue) (zs zs' : List ℕ) → FitFrom spot free b source (place_words target) zs
      → FitFrom spot free b source (place_words target) zs' → SamePlace spot b zs zs' source
      → Sees spot b low zs (lvalue_read target) → Sees spot b low zs' (lvalue_read target)
      → SamePlace spot b zs zs' target
      → Changes low zs zs' → Changes low (both_placed spot free b source target zs)
      (both_placed spot free b source target zs')
  places_change source target zs zs' h h' p t t' q c =
      let zs1 : List ℕ = placed spot free b source 0 zs in
      let zs1' : List ℕ = placed spot free b source 0 zs' in
      let f = places_fill source target zs h t in
      let f' = places_fill source target zs' h' t' in
      let below = placed_below spot free b source zs in
      let below' = placed_below spot free b source zs' in
      let one = place_changes source zs zs' h.sees h'.sees p c in
      record {
        count = f'.count ∙ c.count ∙ sym f.count;
        words = f'.words;
        above = placed_from target (place_words source) zs1 zs1' one.count
            (sees_same spot b low zs zs1 below (lvalue_read target) t)
            (sees_same spot b low zs' zs1' below' (lvalue_read target) t')
            (place_lifted target zs zs' zs1 zs1' below below' t t' q) one.above;
      }
