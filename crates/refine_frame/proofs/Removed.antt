-- The memory of a state is that of the state without an object which nothing holds, with the
-- object's words in its block, if all is zero without it.
use Rattle.std.proofs.Common.{◌≡◌, ◌≢◌, ◌∙◌, sym, ap, refl, ℕ, zero, suc, ◌+◌, ◌-◌, ◌*◌, ◌^◌, ◌<◌, ◌≤◌, ◌⊎◌, inl, inr}
use Rattle.std.proofs.Common.{⊎_elim, Bool, true, false, List, [], ◌∷◌, ◌++◌, map, length, Some, arith}
use Rattle.std.proofs.lemmas.Bool.{eqb-true, ltb-true, ltb-false}
use Rattle.std.proofs.lemmas.List.{ext_get_or}
use Rattle.std.specs.Prelude.{nat_eq, nat_lt, slice_index, if◌then◌else◌}
use Rattle.std.specs.Option.{unwrap_or, option_map}
use Rattle.meaning_sound.specs.code_conventions.declared.memory.TheConstants.{HEADER_WORDS}
use Rattle.meaning_sound.specs.rpp_tree.Tree.{Source}
use Rattle.meaning_sound.specs.buddy_book.Book.{Book}
use Rattle.meaning_sound.specs.buddy_book.Place.{Placing, block_of, without_name, count_taken}
use Rattle.meaning_sound.specs.buddy_book.Shown.{order_in, without_taken, list_weight, weight, taken_weight, cover}
use Rattle.meaning_sound.proofs.buddy_book_laws.Table.{taken_weight-without}
use Rattle.meaning_sound.proofs.buddy_book_laws.Kept.{cover-additive}
use Rattle.meaning_sound.specs.roopl_semantics.Store.{Value, Word, Nil, Name, Object, Store, main_name, no_object}
use Rattle.meaning_sound.specs.roopl_semantics.Store.{object_named}
use Rattle.meaning_sound.specs.roopl_semantics.Store.{object_at, without}
use Rattle.meaning_sound.specs.roopl_semantics.Execution.{Setting, order_of_cells}
use Rattle.meaning_sound.specs.roopl_semantics.Layout.{overlaid, word_of_value, head_word, object_words, with_links}
use Rattle.meaning_sound.specs.roopl_semantics.Layout.{with_book}
use Rattle.meaning_sound.specs.roopl_semantics.Layout.{with_objects}
use Rattle.meaning_sound.specs.buddy_book.Shown.{first_address}
use Rattle.meaning_sound.specs.roopl_semantics.Laws.{one_if_name, holders_among, holders}
use Rattle.meaning_sound.specs.Sound.{head_of, head_named, is_live, cell_kinds, AllFit, IsPlaced}
use Rattle.meaning_sound.proofs.Lists.{all_length}
use Rattle.meaning_sound.proofs.Stores.{same_number, differs, live_object, without_other, holders_inside}
use Rattle.meaning_sound.proofs.buddy_book_laws.Requests.{block_of_other}
use Rattle.meaning_sound.proofs.Overlays.{overlaid_is, laid, length_overlaid, index_inside, index_outside}
use Rattle.meaning_sound.proofs.Regions.{regions_apart, BlocksDescend, EntriesAre, has_entry}
use Rattle.refine_frame.proofs.Heaps.{length_words}
use Rattle.meaning_sound.specs.code_conventions.Header.{header}

-- ---- overlays that do not meet

-- where a place is, seen from a region
data Seen (p a n : ℕ) : Type 0 where
  out : (p < a) ⊎ (a + n ≤ p) → Seen p a n
  inside : (i : ℕ) → p ≡ a + i → i < n → Seen p a n

seen : (p a n : ℕ) → Seen p a n
seen p a n = by (nat_lt p a) refl (nat_lt p (a + n)) refl
  where
    by : (b : Bool) → nat_lt p a ≡ b → (c : Bool) → nat_lt p (a + n) ≡ c → Seen p a n
    by true e c f = out (inl (ltb-true p a e))
    by false e false f = out (inr (ltb-false p (a + n) f))
    by false e true f = let x = ltb-false p a e in let y = ltb-true p (a + n) f in
        inside (p - a) (omega arith) (omega arith)

pub overlays_commute : (xs : List ℕ) (a : ℕ) (x : List ℕ) (b : ℕ) (y : List ℕ) → (a + length x ≤ b) ⊎ (b + length y ≤ a)
    → overlaid (overlaid xs a x) b y ≡ overlaid (overlaid xs b y) a x
overlays_commute xs a x b y apart =
    ext_get_or 0 (overlaid (overlaid xs a x) b y) (overlaid (overlaid xs b y) a x)
    (length_overlaid (overlaid xs a x) b y ∙ length_overlaid xs a x
    ∙ sym (length_overlaid (overlaid xs b y) a x ∙ length_overlaid xs b y))
    (λ p h. by p (let z = length_overlaid (overlaid xs a x) b y in let w = length_overlaid xs a x in omega arith)
    (seen p a (length x)) (seen p b (length y)))
  where
    lx : length (overlaid xs a x) ≡ length xs
    lx = length_overlaid xs a x

    ly : length (overlaid xs b y) ≡ length xs
    ly = length_overlaid xs b y

    by : (p : ℕ) → p < length xs → Seen p a (length x) → Seen p b (length y)
        → slice_index (overlaid (overlaid xs a x) b y) p ≡ slice_index (overlaid (overlaid xs b y) a x) p
    by p h (out o) (out q) = index_outside (overlaid xs a x) b y p q ∙ index_outside xs a x p o
        ∙ sym (index_outside (overlaid xs b y) a x p o ∙ index_outside xs b y p q)
    by p h (inside i e l) (out q) = index_outside (overlaid xs a x) b y p q ∙ index_inside xs a x p i e l h
        ∙ sym (index_inside (overlaid xs b y) a x p i e l (let z = ly in omega arith))
    by p h (out o) (inside j e l) = index_inside (overlaid xs a x) b y p j e l (let z = lx in omega arith)
        ∙ sym (index_outside (overlaid xs b y) a x p o ∙ index_inside xs b y p j e l h)
    by p h (inside i e l) (inside j f m) = absurd (⊎_elim (λ z. omega arith) (λ z. omega arith) apart)

laid_none : (xs : List ℕ) → laid xs 0 [] ≡ xs
laid_none [] = refl
laid_none (x ∷ xs) = refl

laid_left : (xs ys : List ℕ) (b : ℕ) (w : List ℕ) → b + length w ≤ length xs → laid (xs ++ ys) b w ≡ laid xs b w ++ ys
laid_left [] ys zero [] h = laid_none ys
laid_left [] ys zero (w ∷ ws) h = absurd (omega arith)
laid_left [] ys (suc b) ws h = absurd (omega arith)
laid_left (x ∷ xs) ys zero [] h = refl
laid_left (x ∷ xs) ys zero (w ∷ ws) h = ap (λ z. w ∷ z) (laid_left xs ys zero ws (omega arith))
laid_left (x ∷ xs) ys (suc b) ws h = ap (λ z. x ∷ z) (laid_left xs ys b ws (omega arith))

laid_right : (xs ys : List ℕ) (c b : ℕ) (w : List ℕ) → c ≡ length xs + b → laid (xs ++ ys) c w ≡ xs ++ laid ys b w
laid_right [] ys c b w e = let same : c ≡ b = omega arith in ap (λ k. laid ys k w) same
laid_right (x ∷ xs) ys zero b w e = absurd (omega arith)
laid_right (x ∷ xs) ys (suc c) b w e = ap (λ z. x ∷ z) (laid_right xs ys c b w (omega arith))

pub overlaid_left : (xs ys : List ℕ) (b : ℕ) (w : List ℕ) → b + length w ≤ length xs
    → overlaid (xs ++ ys) b w ≡ overlaid xs b w ++ ys
overlaid_left xs ys b w h = overlaid_is (xs ++ ys) b w ∙ laid_left xs ys b w h
    ∙ ap (λ z. z ++ ys) (sym (overlaid_is xs b w))

pub overlaid_right : (xs ys : List ℕ) (c b : ℕ) (w : List ℕ) → c ≡ length xs + b
    → overlaid (xs ++ ys) c w ≡ xs ++ overlaid ys b w
overlaid_right xs ys c b w e = overlaid_is (xs ++ ys) c w ∙ laid_right xs ys c b w e
    ∙ ap (λ z. xs ++ z) (sym (overlaid_is ys b w))

-- ---- words of values that do not name it

pub words_same : (base : ℕ) (blocks : List (ℕ × ℕ)) (n : ℕ) (vs : List Value) → holders_among n vs ≡ 0
    → map (word_of_value base (without_name blocks n)) vs ≡ map (word_of_value base blocks) vs
words_same base blocks n [] h = refl
words_same base blocks n (v ∷ vs) h =
    ap (λ z. z ∷ map (word_of_value base (without_name blocks n)) vs) (one v (omega arith))
    ∙ ap (λ z. word_of_value base blocks v ∷ z) (words_same base blocks n vs (omega arith))
  where
    one : (v : Value) → one_if_name n v ≡ 0 → word_of_value base (without_name blocks n) v ≡ word_of_value base blocks v
    one (Word w) k = refl
    one Nil k = refl
    one (Name m) k = ap (λ b. base + b) (block_of_other blocks n m
        (λ e. let o : one_if_name n (Name m) ≡ 1 = ap (λ b. if b then 1 else 0)
        (ap (λ z. nat_eq z n) (sym e) ∙ same_number n) in omega arith))

module _ (setting : Setting) (store : Store) (log : Rattle.meaning_sound.specs.buddy_book.Place.Log)
    (p : IsPlaced setting store log)
    (base : ℕ) (objects : (name : ℕ) (object : Object) → object_named store name ≡ Some object
    → AllFit setting.program store (cell_kinds setting.program object.head) object.cells) (n : ℕ)
    (live : is_live store n ≡ true) (no_main : n ≢ main_name) (unheld : holders n store ≡ 0) where
  abbrev program : Source
  program = setting.program

  abbrev blocks : List (ℕ × ℕ)
  blocks = p.at.blocks

  abbrev less : List (ℕ × ℕ)
  less = without_name blocks n

  -- another object's words
  pub other_words : (m : ℕ) → is_live store m ≡ true → n ≢ m
      → object_words program base less (object_at (without store n) m)
      ≡ object_words program base blocks (object_at store m)
  other_words m live_m apart =
      let same : object_at (without store n) m ≡ object_at store m =
      ap (λ r. unwrap_or r no_object) (without_other store n m apart) in
      let inside = holders_inside n store m (object_at store m) (live_object store m live_m) in
      ap (object_words program base less) same
      ∙ ap (λ z. header (head_word program (object_at store m).head) (object_at store m).count ++ z)
      (words_same base blocks n (object_at store m).cells (omega arith))

  live_head : (m : ℕ) → is_live store m ≡ true → head_named store m ≡ Some (object_at store m).head
  live_head m l = ap (option_map head_of) (live_object store m l)

  pub sized : (m : ℕ) → is_live store m ≡ true → length (object_words program base blocks (object_at store m))
      ≡ HEADER_WORDS + length (cell_kinds program (object_at store m).head)
  sized m l =
      length_words program base blocks (object_at store m)
      ∙ ap (λ k. HEADER_WORDS + k) (all_length program store (cell_kinds program (object_at store m).head)
      (object_at store m).cells (objects m (object_at store m) (live_object store m l)))

  abbrev own_words : List ℕ
  own_words = object_words program base blocks (object_at store n)

  -- later blocks do not meet it
  push : (bound : ℕ) (rest : List (ℕ × ℕ)) (words : List ℕ) → bound ≤ n → BlocksDescend bound rest
      → EntriesAre store blocks rest → with_objects program base store blocks rest
      (overlaid words (block_of blocks n) own_words) ≡ overlaid
      (with_objects program base (without store n) less rest words) (block_of blocks n) own_words
  push bound [] words l d e = refl
  push bound ((m, b) ∷ rest) words l d e =
      let below = d.0 in
      let above = d.1 in
      let wm = object_words program base blocks (object_at store m) in
      let apart = regions_apart setting store log p n m (object_at store n).head (object_at store m).head
      (live_head n live) (live_head m e.0) no_main (λ z. omega arith) (λ z. omega arith) in
      let sn = sized n live in
      let sm = sized m e.0 in
      let eb = e.1 in
      ap (with_objects program base store blocks rest) (overlays_commute words (block_of blocks n) own_words b wm
      (⊎_elim (λ h. inl (omega arith)) (λ h. inr (omega arith)) apart))
      ∙ push m rest (overlaid words b wm) (omega arith) d.2 e.2
      ∙ ap (λ w. overlaid (with_objects program base (without store n) less rest (overlaid words b w))
      (block_of blocks n) own_words) (sym (other_words m e.0 (λ z. omega arith)))

  pub removed_heap : (bound : ℕ) (rest : List (ℕ × ℕ)) (words : List ℕ) → BlocksDescend bound rest
      → EntriesAre store blocks rest → has_entry n rest ≡ true
      → with_objects program base store blocks rest words ≡ overlaid
      (with_objects program base (without store n) less (without_name rest n) words) (block_of blocks n) own_words
  removed_heap bound [] words d e h = absurd (cc)
  removed_heap bound ((m, b) ∷ rest) words d e h = by (λ ws q. removed_heap m rest ws d.2 e.2 q) (nat_eq m n) refl h
    where
      by : ((ws : List ℕ) → has_entry n rest ≡ true → with_objects program base store blocks rest ws
          ≡ overlaid (with_objects program base (without store n) less (without_name rest n) ws) (block_of blocks n)
          own_words)
          → (t : Bool) → nat_eq m n ≡ t → (if t then true else has_entry n rest) ≡ true
          → with_objects program base store blocks rest (overlaid words b
          (object_words program base blocks (object_at store m)))
          ≡ overlaid (with_objects program base (without store n) less
          (if t then rest else (m, b) ∷ without_name rest n) words) (block_of blocks n) own_words
      by more true z g =
          let same = eqb-true m n z in
          let eb : b ≡ block_of blocks n = sym e.1 ∙ ap (block_of blocks) same in
          ap (λ k. with_objects program base store blocks rest
          (overlaid words k (object_words program base blocks (object_at store m)))) eb
          ∙ ap (λ k. with_objects program base store blocks rest
          (overlaid words (block_of blocks n) (object_words program base blocks (object_at store k)))) same
          ∙ push m rest words (omega arith) d.2 e.2
      by more false z g =
          more (overlaid words b (object_words program base blocks (object_at store m))) g
          ∙ ap (λ w. overlaid (with_objects program base (without store n) less (without_name rest n)
          (overlaid words b w)) (block_of blocks n) own_words)
          (sym (other_words m e.0 (λ y. differs m n z (sym y))))

  -- ---- what is there without it

  -- no free block begins in a taken one
  abbrev NoFree : ℕ → List ℕ → Type 0
  NoFree q [] = Unit {0}
  NoFree q (b ∷ free) = (b ≢ q) × NoFree q free

  abbrev NoFreeIn : ℕ → Book → Type 0
  NoFreeIn q [] = Unit {0}
  NoFreeIn q (free ∷ higher) = NoFree q free × NoFreeIn q higher

  no_free : (q size : ℕ) (free : List ℕ) → 0 < size → list_weight (cover q) size free ≡ 0 → NoFree q free
  no_free q size [] pos h = tt
  no_free q size (b ∷ free) pos h = ((λ e. covers b size q e pos (omega arith)), no_free q size free pos (omega arith))
    where
      covers : (b s q : ℕ) → b ≡ q → 0 < s → cover q b s ≡ 0 → ⊥
      covers b s q e pos z = omega arith

  no_free_in : (q size : ℕ) (book : Book) → 0 < size → weight (cover q) size book ≡ 0 → NoFreeIn q book
  no_free_in q size [] pos h = tt
  no_free_in q size (free ∷ higher) pos h = (
    no_free q size free pos (omega arith),
    no_free_in q (2 * size) higher (omega arith) (omega arith),
  )

  links_zero : (free words : List ℕ) (q : ℕ) → NoFree q free
      → slice_index (with_links base free words) q ≡ slice_index words q
  links_zero [] words q h = refl
  links_zero (b ∷ free) words q h = links_zero free (overlaid words b (first_address base free ∷ [])) q h.1
      ∙ index_outside words b (first_address base free ∷ []) q (side (nat_lt q b) refl)
    where
      side : (t : Bool) → nat_lt q b ≡ t → (q < b) ⊎ (b + 1 ≤ q)
      side true e = inl (ltb-true q b e)
      side false e = inr (more (ltb-false q b e) (nat_lt b q) refl)
        where
          more : b ≤ q → (t : Bool) → nat_lt b q ≡ t → b + 1 ≤ q
          more l true f = let x = ltb-true b q f in omega arith
          more l false f = absurd (h.0 (let x = ltb-false b q f in omega arith))

  pub book_zero : (book : Book) (words : List ℕ) (q : ℕ) → NoFreeIn q book
      → slice_index (with_book base book words) q ≡ slice_index words q
  book_zero [] words q h = refl
  book_zero (free ∷ higher) words q h = book_zero higher (with_links base free words) q h.1
      ∙ links_zero free words q h.0

  taken_is : order_in p.taken (block_of blocks n) ≡ Some
      (order_of_cells (length (cell_kinds program (object_at store n).head)))
  taken_is = p.orders n (object_at store n).head (live_head n live) no_main

  pub book_none : (q i : ℕ) → q ≡ block_of blocks n + i → i < 2 ^ order_of_cells
      (length (cell_kinds program (object_at store n).head)) → NoFreeIn q p.at.book
  book_none q i e l =
      let k = order_of_cells (length (cell_kinds program (object_at store n).head)) in
      let total = p.kept.balanced (cover q) (cover-additive q) in
      let mine = taken_weight-without (cover q) (block_of blocks n) k p.taken taken_is in
      no_free_in q 2 p.at.book (omega arith) (none (block_of blocks n) (2 ^ k) (2 ^ setting.limits.heap) q i
      (weight (cover q) 2 p.at.book) (taken_weight (cover q) p.taken)
      (taken_weight (cover q) (without_taken (block_of blocks n) p.taken)) e l mine total)
    where
      none : (b s u q i w v y : ℕ) → q ≡ b + i → i < s → v ≡ cover q b s + y → w + v ≡ cover q 0 u → w ≡ 0
      none b s u q i w v y e l mine total = omega arith

  -- other objects' blocks are elsewhere
  pub skip_others : (bound : ℕ) (rest : List (ℕ × ℕ)) (words : List ℕ) (q i : ℕ) → BlocksDescend bound rest
      → EntriesAre store blocks rest → q ≡ block_of blocks n + i
      → i < HEADER_WORDS + length (cell_kinds program (object_at store n).head)
      → slice_index (with_objects program base (without store n) less (without_name rest n) words) q
      ≡ slice_index words q
  skip_others bound [] words q i d e at l = refl
  skip_others bound ((m, b) ∷ rest) words q i d e at l =
      by (λ ws. skip_others m rest ws q i d.2 e.2 at l) (nat_eq m n) refl
    where
      after : (bound : ℕ) (rest : List (ℕ × ℕ)) (words : List ℕ) → bound ≤ n → BlocksDescend bound rest
          → EntriesAre store blocks rest → slice_index (with_objects program base (without store n) less rest words) q
          ≡ slice_index words q
      after bound [] words c d e = refl
      after bound ((k, b) ∷ rest) words c d e =
          let below = d.0 in
          let above = d.1 in
          let w = object_words program base less (object_at (without store n) k) in
          let same = other_words k e.0 (λ z. omega arith) in
          let size = ap length same ∙ sized k e.0 in
          let apart = regions_apart setting store log p n k (object_at store n).head (object_at store k).head
          (live_head n live) (live_head k e.0) no_main (λ z. omega arith) (λ z. omega arith) in
          let eb = e.1 in
          after k rest (overlaid words b w) (omega arith) d.2 e.2
          ∙ index_outside words b w q (⊎_elim (λ h. inl (omega arith)) (λ h. inr (omega arith)) apart)

      by : ((ws : List ℕ) → slice_index (with_objects program base (without store n) less (without_name rest n) ws) q
          ≡ slice_index ws q) → (t : Bool) → nat_eq m n ≡ t
          → slice_index (with_objects program base (without store n) less
          (if t then rest else (m, b) ∷ without_name rest n) words) q ≡ slice_index words q
      by more true z = let same = eqb-true m n z in after m rest words (omega arith) d.2 e.2
      by more false z =
          let above = d.1 in
          let w = object_words program base less (object_at (without store n) m) in
          let same = other_words m e.0 (λ y. differs m n z (sym y)) in
          let size = ap length same ∙ sized m e.0 in
          let apart = regions_apart setting store log p n m (object_at store n).head (object_at store m).head
          (live_head n live) (live_head m e.0) no_main (λ y. omega arith) (λ y. differs m n z (sym y)) in
          let eb = e.1 in
          more (overlaid words b w)
          ∙ index_outside words b w q (⊎_elim (λ h. inl (omega arith)) (λ h. inr (omega arith)) apart)
