-- Reads and writes of objects and arrays in the heap's words.
use Rattle.std.proofs.Common.{◌≡◌, ◌≢◌, ◌∙◌, sym, ap, refl, ℕ, zero, suc, ◌+◌, ◌<◌, ◌≤◌, ◌⊎◌, inl, inr, ⊎_elim, Bool}
use Rattle.std.proofs.Common.{true, false, List, [], ◌∷◌, map, length, Some, arith, ◌++◌, ◌-◌}
use Rattle.std.proofs.lemmas.Bool.{eqb-true}
use Rattle.std.proofs.lemmas.List.{length-map, map-set, length-replicate, set-append_right, get_or-append-add}
use Rattle.std.specs.Prelude.{nat_eq, slice_get, slice_index, slice_set, replicate, if◌then◌else◌}
use Rattle.std.specs.Option.{unwrap_or, option_map}
use Rattle.meaning_sound.specs.code_conventions.declared.memory.TheConstants.{HEADER_WORDS}
use Rattle.meaning_sound.specs.rpp_tree.Tree.{Source}
use Rattle.meaning_sound.specs.buddy_book.Book.{Book}
use Rattle.meaning_sound.specs.buddy_book.Place.{block_of}
use Rattle.meaning_sound.specs.roopl_semantics.Store.{Value, Nil, Object, Store, main_name, no_object, object_named}
use Rattle.meaning_sound.specs.roopl_semantics.Store.{object_at}
use Rattle.meaning_sound.specs.roopl_semantics.Store.{changed_at}
use Rattle.meaning_sound.specs.roopl_semantics.Execution.{Setting}
use Rattle.meaning_sound.specs.roopl_semantics.Layout.{overlaid, word_of_value, head_word, object_words, with_links}
use Rattle.meaning_sound.specs.roopl_semantics.Layout.{with_book}
use Rattle.meaning_sound.specs.roopl_semantics.Layout.{with_objects, heap_words}
use Rattle.meaning_sound.specs.buddy_book.Shown.{first_address}
use Rattle.meaning_sound.specs.Sound.{head_of, head_named, is_live, cell_kinds, AllFit, IsPlaced}
use Rattle.meaning_sound.proofs.Lists.{all_length}
use Rattle.meaning_sound.proofs.Stores.{differs, live_object, changed_here, changed_other}
use Rattle.meaning_sound.proofs.Overlays.{length_overlaid, index_inside, index_outside, set_inside, set_outside}
use Rattle.meaning_sound.proofs.Regions.{regions_apart, BlocksDescend, EntriesAre, has_entry}
use Rattle.meaning_sound.specs.code_conventions.Header.{header}
use Rattle.meaning_sound.proofs.roopl_semantics_laws.Changed.{with_cell, with_count}

-- ---- lengths

pub length_links : (base : ℕ) (free words : List ℕ) → length (with_links base free words) ≡ length words
length_links base [] words = refl
length_links base (block ∷ free) words = length_links base free (overlaid words block (first_address base free ∷ []))
    ∙ length_overlaid words block (first_address base free ∷ [])

pub length_book : (base : ℕ) (book : Book) (words : List ℕ) → length (with_book base book words) ≡ length words
length_book base [] words = refl
length_book base (free ∷ higher) words = length_book base higher (with_links base free words)
    ∙ length_links base free words

pub length_objects : (program : Source) (base : ℕ) (store : Store) (blocks rest : List (ℕ × ℕ)) (words : List ℕ)
    → length (with_objects program base store blocks rest words) ≡ length words
length_objects program base store blocks [] words = refl
length_objects program base store blocks ((n, b) ∷ rest) words =
    length_objects program base store blocks rest (overlaid words b
    (object_words program base blocks (object_at store n)))
    ∙ length_overlaid words b (object_words program base blocks (object_at store n))

pub length_heap : (program : Source) (size base : ℕ) (store : Store)
    (at : Rattle.meaning_sound.specs.buddy_book.Place.Placing)
    → length (heap_words program size base store at) ≡ size
length_heap program size base store at =
    length_objects program base store at.blocks at.blocks (with_book base at.book (replicate size 0))
    ∙ length_book base at.book (replicate size 0) ∙ length-replicate size 0

pub length_words : (program : Source) (base : ℕ) (blocks : List (ℕ × ℕ)) (o : Object)
    → length (object_words program base blocks o) ≡ HEADER_WORDS + length o.cells
length_words program base blocks o = omega (arith, length-map o.cells (word_of_value base blocks))

-- ---- a word of an object

pub index_words : (x y : ℕ) (ws : List ℕ) (i : ℕ) → slice_index (header x y ++ ws) (HEADER_WORDS + i) ≡ slice_index ws i
index_words x y ws i = get_or-append-add (header x y) ws i 0

set_words : (x y : ℕ) (ws : List ℕ) (i w : ℕ)
    → slice_set (header x y ++ ws) (HEADER_WORDS + i) w ≡ header x y ++ slice_set ws i w
set_words x y ws i w =
    let e : HEADER_WORDS + i - HEADER_WORDS ≡ i = omega arith in
    set-append_right (header x y) ws HEADER_WORDS (HEADER_WORDS + i) w refl (omega arith)
    ∙ ap (λ k. header x y ++ slice_set ws k w) e

index_map : (f : Value → ℕ) (vs : List Value) (i : ℕ) → i < length vs
    → slice_index (map f vs) i ≡ f (unwrap_or (slice_get vs i) Nil)
index_map f [] i h = absurd (omega arith)
index_map f (v ∷ vs) zero h = refl
index_map f (v ∷ vs) (suc i) h = index_map f vs i (omega arith)

pub index_object : (program : Source) (base : ℕ) (blocks : List (ℕ × ℕ)) (o : Object) (i : ℕ) → i < length o.cells
    → slice_index (object_words program base blocks o) (HEADER_WORDS + i)
    ≡ word_of_value base blocks (unwrap_or (slice_get o.cells i) Nil)
index_object program base blocks o i h = index_words (head_word program o.head) o.count
    (map (word_of_value base blocks) o.cells) i ∙ index_map (word_of_value base blocks) o.cells i h

pub set_object : (program : Source) (base : ℕ) (blocks : List (ℕ × ℕ)) (o : Object) (i : ℕ) (v : Value)
    → slice_set (object_words program base blocks o) (HEADER_WORDS + i) (word_of_value base blocks v)
    ≡ object_words program base blocks (with_cell i v o)
set_object program base blocks o i v =
    set_words (head_word program o.head) o.count (map (word_of_value base blocks) o.cells) i (word_of_value base blocks v)
    ∙ ap (λ z. header (head_word program o.head) o.count ++ z) (sym (map-set (word_of_value base blocks) o.cells i v))

pub changed_object : (store : Store) (n : ℕ) (f : Object → Object) (o : Object) → object_named store n ≡ Some o
    → object_at (changed_at store n f) n ≡ f (object_at store n)
changed_object store n f o named =
    ap (λ r. unwrap_or r no_object) (changed_here store n f ∙ ap (option_map f) named)
    ∙ ap f (sym (ap (λ r. unwrap_or r no_object) named))

-- ---- the heap

-- a place in no region of a list of blocks
abbrev pub Misses : Source → ℕ → List (ℕ × ℕ) → Store → ℕ → ℕ → ℕ → Type 0
Misses program base blocks store q n b = (q < b) ⊎ (b + length (object_words program base blocks (object_at store n)) ≤
    q)

abbrev pub MissesAll : Source → ℕ → List (ℕ × ℕ) → Store → ℕ → List (ℕ × ℕ) → Type 0
MissesAll program base blocks store q [] = Unit {0}
MissesAll program base blocks store q ((n, b) ∷ rest) =
    Misses program base blocks store q n b × MissesAll program base blocks store q rest

module _ (program : Source) (base : ℕ) (blocks : List (ℕ × ℕ)) where
  pub index_past : (store : Store) (rest : List (ℕ × ℕ)) (words : List ℕ) (q : ℕ)
      → MissesAll program base blocks store q rest → slice_index (with_objects program base store blocks rest words) q
      ≡ slice_index words q
  index_past store [] words q h = refl
  index_past store ((n, b) ∷ rest) words q h =
      index_past store rest (overlaid words b (object_words program base blocks (object_at store n))) q h.1
      ∙ index_outside words b (object_words program base blocks (object_at store n)) q h.0

  set_past : (store : Store) (rest : List (ℕ × ℕ)) (words : List ℕ) (q w : ℕ)
      → MissesAll program base blocks store q rest → slice_set (with_objects program base store blocks rest words) q w
      ≡ with_objects program base store blocks rest (slice_set words q w)
  set_past store [] words q w h = refl
  set_past store ((n, b) ∷ rest) words q w h =
      set_past store rest (overlaid words b (object_words program base blocks (object_at store n))) q w h.1
      ∙ ap (with_objects program base store blocks rest)
      (set_outside words b (object_words program base blocks (object_at store n)) q w h.0)

  same_objects : (store : Store) (n : ℕ) (f : Object → Object) (bound : ℕ) (rest : List (ℕ × ℕ)) (words : List ℕ)
      → bound ≤ n → BlocksDescend bound rest → with_objects program base (changed_at store n f) blocks rest words
      ≡ with_objects program base store blocks rest words
  same_objects store n f bound [] words l d = refl
  same_objects store n f bound ((m, b) ∷ rest) words l d =
      let below = d.0 in
      let other : object_at (changed_at store n f) m ≡ object_at store m =
      ap (λ r. unwrap_or r no_object) (changed_other store n m f (λ e. omega arith)) in
      same_objects store n f m rest (overlaid words b (object_words program base blocks
      (object_at (changed_at store n f) m))) (omega arith) d.2
      ∙ ap (λ o. with_objects program base store blocks rest (overlaid words b (object_words program base blocks o)))
      other

module _ (setting : Setting) (store : Store) (log : Rattle.meaning_sound.specs.buddy_book.Place.Log)
    (p : IsPlaced setting store log)
    (base : ℕ) (objects : (name : ℕ) (object : Object) → object_named store name ≡ Some object
    → AllFit setting.program store (cell_kinds setting.program object.head) object.cells) where
  abbrev program : Source
  program = setting.program

  abbrev blocks : List (ℕ × ℕ)
  blocks = p.at.blocks

  live_head : (n : ℕ) → is_live store n ≡ true → head_named store n ≡ Some (object_at store n).head
  live_head n live = ap (option_map head_of) (live_object store n live)

  sized : (n : ℕ) → is_live store n ≡ true → length (object_words program base blocks (object_at store n))
      ≡ HEADER_WORDS + length (cell_kinds program (object_at store n).head)
  sized n live =
      length_words program base blocks (object_at store n)
      ∙ ap (λ k. HEADER_WORDS + k) (all_length program store (cell_kinds program (object_at store n).head)
      (object_at store n).cells (objects n (object_at store n) (live_object store n live)))

  -- a place in an object's region is in no other's
  pub misses_all : (n : ℕ) → is_live store n ≡ true → n ≢ main_name → (bound : ℕ) (rest : List (ℕ × ℕ)) → bound ≤ n
      → BlocksDescend bound rest → EntriesAre store blocks rest → (q i : ℕ) → q ≡ block_of blocks n + i
      → i < length (object_words program base blocks (object_at store n)) → MissesAll program base blocks store q rest
  misses_all n live no_main bound [] l d e q i at inside = tt
  misses_all n live no_main bound ((m, b) ∷ rest) l d e q i at inside =
      let below = d.0 in
      let above = d.1 in
      let apart = regions_apart setting store log p n m (object_at store n).head (object_at store m).head
      (live_head n live) (live_head m e.0) no_main (λ z. omega arith) (λ z. omega arith) in
      let sn = sized n live in
      let sm = sized m e.0 in
      let eb = e.1 in (
        ⊎_elim (λ h. inl (omega arith)) (λ h. inr (omega arith)) apart,
        misses_all n live no_main m rest (omega arith) d.2 e.2 q i at inside,
      )

  pub read_heap : (n : ℕ) → is_live store n ≡ true → n ≢ main_name → (bound : ℕ) (rest : List (ℕ × ℕ)) (words : List ℕ)
      → BlocksDescend bound rest → EntriesAre store blocks rest → has_entry n rest ≡ true → (q i : ℕ)
      → q ≡ block_of blocks n + i → i < length (object_words program base blocks (object_at store n)) → q < length words
      → slice_index (with_objects program base store blocks rest words) q
      ≡ slice_index (object_words program base blocks (object_at store n)) i
  read_heap n live no_main bound [] words d e h q i at inside in_words = absurd (cc)
  read_heap n live no_main bound ((m, b) ∷ rest) words d e h q i at inside in_words =
      by (λ g. read_heap n live no_main m rest (overlaid words b (object_words program base blocks (object_at store m)))
      d.2 e.2 g q i at inside (let z = length_overlaid words b
      (object_words program base blocks (object_at store m)) in omega arith)) (nat_eq m n) refl h
    where
      by : (has_entry n rest ≡ true → slice_index (with_objects program base store blocks rest
          (overlaid words b (object_words program base blocks (object_at store m)))) q
          ≡ slice_index (object_words program base blocks (object_at store n)) i)
          → (t : Bool) → nat_eq m n ≡ t → (if t then true else has_entry n rest) ≡ true
          → slice_index (with_objects program base store blocks rest
          (overlaid words b (object_words program base blocks (object_at store m)))) q
          ≡ slice_index (object_words program base blocks (object_at store n)) i
      by more true f g =
          let same = eqb-true m n f in
          let eb : block_of blocks n ≡ b = ap (block_of blocks) (sym same) ∙ e.1 in
          let w = object_words program base blocks (object_at store m) in
          let in_m : i < length w = let z : length w ≡ length (object_words program base blocks (object_at store n)) =
          ap (λ k. length (object_words program base blocks (object_at store k))) same in omega arith in
          index_past program base blocks store rest (overlaid words b w) q
          (misses_all n live no_main m rest (omega arith) d.2 e.2 q i at inside)
          ∙ index_inside words b w q i (omega arith) in_m in_words
          ∙ ap (λ k. slice_index (object_words program base blocks (object_at store k)) i) same
      by more false f g = more g

  -- a word of an object is written, if that is a change of the object
  pub write_heap : (n : ℕ) → is_live store n ≡ true → n ≢ main_name → (f : Object → Object) (j w : ℕ)
      → j < length (object_words program base blocks (object_at store n))
      → slice_set (object_words program base blocks (object_at store n)) j w
      ≡ object_words program base blocks (f (object_at store n))
      → (bound : ℕ) (rest : List (ℕ × ℕ)) (words : List ℕ) → BlocksDescend bound rest → EntriesAre store blocks rest
      → has_entry n rest ≡ true → (q : ℕ) → q ≡ block_of blocks n + j
      → slice_set (with_objects program base store blocks rest words) q w
      ≡ with_objects program base (changed_at store n f) blocks rest words
  write_heap n live no_main f j w long is bound [] words d e h q at = absurd (cc)
  write_heap n live no_main f j w long is bound ((m, b) ∷ rest) words d e h q at =
      by (λ ws g. write_heap n live no_main f j w long is m rest ws d.2 e.2 g q at) (nat_eq m n) refl h
    where
      by : ((ws : List ℕ) → has_entry n rest ≡ true → slice_set (with_objects program base store blocks rest ws) q w
          ≡ with_objects program base (changed_at store n f) blocks rest ws)
          → (t : Bool) → nat_eq m n ≡ t → (if t then true else has_entry n rest) ≡ true
          → slice_set (with_objects program base store blocks rest
          (overlaid words b (object_words program base blocks (object_at store m)))) q w
          ≡ with_objects program base (changed_at store n f) blocks rest
          (overlaid words b (object_words program base blocks (object_at (changed_at store n f) m)))
      by more true z g =
          let same = eqb-true m n z in
          let eb : block_of blocks n ≡ b = ap (block_of blocks) (sym same) ∙ e.1 in
          let wm = object_words program base blocks (object_at store m) in
          let wn = object_words program base blocks (object_at store n) in
          let equal : wm ≡ wn = ap (λ k. object_words program base blocks (object_at store k)) same in
          let after : object_at (changed_at store n f) m ≡ f (object_at store n) =
          ap (object_at (changed_at store n f)) same ∙ changed_object store n f (object_at store n)
          (live_object store n live) in
          set_past program base blocks store rest (overlaid words b wm) q w
          (misses_all n live no_main m rest (omega arith) d.2 e.2 q j at long)
          ∙ ap (with_objects program base store blocks rest)
          (ap (λ y. slice_set (overlaid words b y) q w) equal ∙ set_inside words b wn q j w (omega arith) long
          ∙ ap (overlaid words b) (is ∙ sym (ap (object_words program base blocks) after)))
          ∙ sym (same_objects program base blocks store n f m rest
          (overlaid words b (object_words program base blocks (object_at (changed_at store n f) m))) (omega arith)
          d.2)
      by more false z g =
          let other : object_at (changed_at store n f) m ≡ object_at store m =
          ap (λ r. unwrap_or r no_object) (changed_other store n m f (λ y. differs m n z (sym y))) in
          more (overlaid words b (object_words program base blocks (object_at store m))) g
          ∙ ap (λ o. with_objects program base (changed_at store n f) blocks rest
          (overlaid words b (object_words program base blocks o))) (sym other)

-- the main object is in no block
pub main_elsewhere : (program : Source) (base : ℕ) (blocks : List (ℕ × ℕ)) (store : Store) (f : Object → Object)
    (bound : ℕ) (rest : List (ℕ × ℕ)) (words : List ℕ) → BlocksDescend bound rest
    → with_objects program base (changed_at store main_name f) blocks rest words
    ≡ with_objects program base store blocks rest words
main_elsewhere program base blocks store f bound [] words d = refl
main_elsewhere program base blocks store f bound ((m, b) ∷ rest) words d =
    let above = d.1 in
    let other : object_at (changed_at store main_name f) m ≡ object_at store m =
    ap (λ r. unwrap_or r no_object) (changed_other store main_name m f (λ e. omega arith)) in
    main_elsewhere program base blocks store f m rest (overlaid words b
    (object_words program base blocks (object_at (changed_at store main_name f) m))) d.2
    ∙ ap (λ o. with_objects program base store blocks rest (overlaid words b (object_words program base blocks o)))
    other

pub set_count : (program : Source) (base : ℕ) (blocks : List (ℕ × ℕ)) (o : Object) (change : ℕ → ℕ)
    → slice_set (object_words program base blocks o) 1 (change o.count)
    ≡ object_words program base blocks (with_count change o)
set_count _ _ _ o change = refl
