-- Reads and writes of the memory of a current frame, and the layout.
use Rattle.std.proofs.Common.{◌≡◌, ◌≢◌, ◌∙◌, sym, ap, subst, refl, ℕ, ◌+◌, ◌-◌, ◌*◌, ◌/◌, ◌^◌, ◌<◌, ◌≤◌, Bool, true}
use Rattle.std.proofs.Common.{false, List, [], ◌++◌, map, length, drop, Some, arith, length-append, length-drop}
use Rattle.std.proofs.Math.Nat.{mod-add-div, mod-lt}
use Rattle.std.proofs.lemmas.Bool.{eqb-true}
use Rattle.std.proofs.lemmas.List.{get_or_append_left, get_or-append_right, set-append_left, set-append_right}
use Rattle.std.proofs.lemmas.List.{length-map, length-replicate}
use Rattle.std.specs.Prelude.{nat_eq, is_some, slice_get, slice_index, slice_set, replicate, if◌then◌else◌}
use Rattle.std.specs.Option.{unwrap_or, option_map}
use Rattle.meaning_sound.specs.rpp_words.declared.input.TheConstants.{FIXED_CELLS, FRAME_WORDS}
use Rattle.meaning_sound.specs.code_conventions.declared.memory.TheConstants.{HEADER_WORDS}
use Rattle.meaning_sound.specs.rpp_tree.Tree.{Source}
use Rattle.meaning_sound.specs.class_rules.Scope.{Locals}
use Rattle.meaning_sound.specs.buddy_book.Place.{Log, Placing, block_of, place}
use Rattle.meaning_sound.proofs.buddy_book_laws.Orders.{pow_pos}
use Rattle.meaning_sound.specs.roopl_semantics.Store.{Value, Nil, OfClass, Object, Store, State}
use Rattle.meaning_sound.specs.roopl_semantics.Store.{main_name}
use Rattle.meaning_sound.specs.roopl_semantics.Store.{object_named, object_at, changed_at}
use Rattle.meaning_sound.specs.roopl_semantics.Source.{main_fields}
use Rattle.meaning_sound.specs.class_rules.Classes.{main_of}
use Rattle.meaning_sound.specs.roopl_semantics.Layout.{overlaid, word_of_value, object_words, with_book, heap_words}
use Rattle.meaning_sound.specs.roopl_semantics.Layout.{static_words}
use Rattle.meaning_sound.specs.roopl_semantics.Layout.{laid, layout, no_placing}
use Rattle.meaning_sound.specs.buddy_book.Shown.{first_address}
use Rattle.meaning_sound.specs.pisa_isa.Loaded.{statics_at, fixed_cells}
use Rattle.meaning_sound.specs.class_rules.Inheritance.{kind_of_var}
use Rattle.meaning_sound.specs.Sound.{head_of, is_live, cell_kinds, Typed}
use Rattle.refine_frame.specs.Open.{Setup, setup_base, stack_at, object_address, memory, IsGrounded}
use Rattle.meaning_sound.proofs.Lists.{all_length}
use Rattle.meaning_sound.proofs.Stores.{other_number, live_object, changed_other}
use Rattle.meaning_sound.proofs.Overlays.{length_overlaid, index_inside, set_inside, zeros_padded, none_over_zeros}
use Rattle.meaning_sound.proofs.Regions.{region_inside, blocks_descend, entries_are, entry_of}
use Rattle.refine_frame.proofs.Heaps.{length_heap, length_words, index_object, set_object, changed_object}
use Rattle.refine_frame.proofs.Heaps.{read_heap, write_heap, main_elsewhere, set_count}
use Rattle.meaning_sound.proofs.roopl_semantics_laws.Changed.{with_cell, with_count}

-- ---- the heap's base is not below the static cells' end

rounded : (x s : ℕ) → 0 < s → x ≤ (x + s - 1) / s * s
rounded x s pos =
    let n = x + s - 1 in
    let e = mod-add-div n s in
    let l = mod-lt n {m = s} pos in
    let c : n / s * s ≡ s * (n / s) = omega arith in
    omega arith

pub base_above : (u : Setup) → statics_at + length u.statics ≤ setup_base u
base_above u = rounded (statics_at + length u.statics) (2 ^ u.setting.limits.heap) (pow_pos u.setting.limits.heap)

-- ---- five parts of a list

module _ (a s p h k : List ℕ) where
  abbrev pub five : List ℕ
  five = a ++ s ++ p ++ h ++ k

  pub second : (i j : ℕ) → i ≡ length a + j → j < length s → slice_index five i ≡ slice_index s j
  second i j e l =
      let q : i - length a ≡ j = omega arith in
      get_or_append_left (a ++ s ++ p ++ h) k 0 i (omega (
        arith,
        length-append (a ++ s ++ p) h,
        length-append (a ++ s) p,
        length-append a s,
      ))
      ∙ get_or_append_left (a ++ s ++ p) h 0 i (omega (arith, length-append (a ++ s) p, length-append a s))
      ∙ get_or_append_left (a ++ s) p 0 i (omega (arith, length-append a s))
      ∙ get_or-append_right a s (length a) i 0 refl (omega arith)
      ∙ ap (slice_index s) q

  pub fourth : (i j : ℕ) → i ≡ length a + length s + length p + j → j < length h → slice_index five i ≡ slice_index h j
  fourth i j e l =
      let n : length (a ++ s ++ p) ≡ length a + length s + length p =
      omega (arith, length-append (a ++ s) p, length-append a s) in
      let q : i - (length a + length s + length p) ≡ j = omega arith in
      get_or_append_left (a ++ s ++ p ++ h) k 0 i (omega (arith, length-append (a ++ s ++ p) h))
      ∙ get_or-append_right (a ++ s ++ p) h (length a + length s + length p) i 0 n (omega arith)
      ∙ ap (slice_index h) q

  pub fifth : (i j : ℕ) → i ≡ length a + length s + length p + length h + j → slice_index five i ≡ slice_index k j
  fifth i j e =
      let n : length (a ++ s ++ p ++ h) ≡ length a + length s + length p + length h =
      omega (arith, length-append (a ++ s ++ p) h, length-append (a ++ s) p, length-append a s) in
      let q : i - (length a + length s + length p + length h) ≡ j = omega arith in
      get_or-append_right (a ++ s ++ p ++ h) k (length a + length s + length p + length h) i 0 n (omega arith)
      ∙ ap (slice_index k) q

  set_second : (i j w : ℕ) → i ≡ length a + j → j < length s → slice_set five i w ≡ a ++ slice_set s j w ++ p ++ h ++ k
  set_second i j w e l =
      let q : i - length a ≡ j = omega arith in
      set-append_left (a ++ s ++ p ++ h) k i w (omega (
        arith,
        length-append (a ++ s ++ p) h,
        length-append (a ++ s) p,
        length-append a s,
      ))
      ∙ ap (λ z. z ++ k) (set-append_left (a ++ s ++ p) h i w
      (omega (arith, length-append (a ++ s) p, length-append a s))
      ∙ ap (λ z. z ++ h) (set-append_left (a ++ s) p i w (omega (arith, length-append a s))
      ∙ ap (λ z. z ++ p) (set-append_right a s (length a) i w refl (omega arith) ∙ ap (λ z. a ++ slice_set s z w) q)))

  set_fourth : (i j w : ℕ) → i ≡ length a + length s + length p + j → j < length h
      → slice_set five i w ≡ a ++ s ++ p ++ slice_set h j w ++ k
  set_fourth i j w e l =
      let n : length (a ++ s ++ p) ≡ length a + length s + length p =
      omega (arith, length-append (a ++ s) p, length-append a s) in
      let q : i - (length a + length s + length p) ≡ j = omega arith in
      set-append_left (a ++ s ++ p ++ h) k i w (omega (arith, length-append (a ++ s ++ p) h))
      ∙ ap (λ z. z ++ k) (set-append_right (a ++ s ++ p) h (length a + length s + length p) i w n (omega arith)
      ∙ ap (λ z. a ++ s ++ p ++ slice_set h z w) q)

  set_fifth : (i j w : ℕ) → i ≡ length a + length s + length p + length h + j
      → slice_set five i w ≡ a ++ s ++ p ++ h ++ slice_set k j w
  set_fifth i j w e =
      let n : length (a ++ s ++ p ++ h) ≡ length a + length s + length p + length h =
      omega (arith, length-append (a ++ s ++ p) h, length-append (a ++ s) p, length-append a s) in
      let q : i - (length a + length s + length p + length h) ≡ j = omega arith in
      set-append_right (a ++ s ++ p ++ h) k (length a + length s + length p + length h) i w n (omega arith)
      ∙ ap (λ z. a ++ s ++ p ++ h ++ slice_set k z w) q

module _ (u : Setup) (extra : ℕ → ℕ) (shape : Locals) (class : ℕ) (st : State)
    (s : Typed u.setting extra shape class st) (g : IsGrounded u st.store) where
  abbrev pub program : Source
  program = u.setting.program

  abbrev pub at : Placing
  at = s.placed.at

  abbrev pub base : ℕ
  base = setup_base u

  abbrev pub size : ℕ
  size = 2 ^ u.setting.limits.heap

  -- the parts
  abbrev pub fixed : List ℕ
  fixed = fixed_cells u.setting.limits.heap u.setting.limits.deep base (map (first_address base) at.book)

  abbrev pub statics : List ℕ
  statics = static_words program base at.blocks u.statics st.store

  abbrev pub gap : List ℕ
  gap = replicate (base - statics_at - length u.statics) 0

  abbrev pub heap : List ℕ
  heap = heap_words program size base st.store at

  abbrev pub stack_part : List ℕ → List ℕ
  stack_part stack = overlaid (replicate (FRAME_WORDS * u.setting.limits.deep) 0) 0 stack

  pub main_object_is : object_named st.store main_name ≡ Some (object_at st.store main_name)
  main_object_is = live_object st.store main_name (ap is_some g.main)

  main_head : (object_at st.store main_name).head ≡ OfClass (main_of program).class
  main_head = let x : Some (object_at st.store main_name).head ≡ Some (OfClass (main_of program).class) =
      sym (ap (option_map head_of) main_object_is) ∙ g.main in cc

  pub main_cells : length (object_at st.store main_name).cells ≡ length (main_fields program)
  main_cells =
      all_length program st.store (cell_kinds program (object_at st.store main_name).head)
      (object_at st.store main_name).cells (s.objects main_name (object_at st.store main_name) main_object_is)
      ∙ ap (λ h. length (cell_kinds program h)) main_head ∙ length-map (main_fields program) (kind_of_var program)

  pub main_long : length (object_words program base at.blocks (object_at st.store main_name))
      ≡ HEADER_WORDS + length (main_fields program)
  main_long = omega (arith, length_words program base at.blocks (object_at st.store main_name), main_cells)

  pub length_fixed : length fixed ≡ FIXED_CELLS
  length_fixed =
      let heads = map (first_address base) at.book in
      let n = length-map at.book (first_address base) in
      let l = s.placed.kept.lists in
      let t = s.placed.kept.h_to in
      omega (
        arith,
        length-append heads (replicate (31 - length heads) 0),
        length-replicate {A = ℕ} (31 - length heads) 0,
      )

  pub length_statics : length statics ≡ length u.statics
  length_statics =
      let main = object_words program base at.blocks (object_at st.store main_name) in
      let r = g.room in
      omega (arith, length-append main (drop (length main) u.statics), length-drop (length main) u.statics, main_long)

  pub length_gap : length gap ≡ base - FIXED_CELLS - length u.statics
  length_gap = length-replicate {A = ℕ} (base - statics_at - length u.statics) 0

  pub length_heap_is : length heap ≡ size
  length_heap_is = length_heap program size base st.store at

  pub before_heap : length fixed + length statics + length gap ≡ base
  before_heap = let b = base_above u in omega (arith, length_fixed, length_statics, length_gap)

  -- ---- reads

  pub read_stack : (stack : List ℕ) (i : ℕ) → i < length stack → length stack ≤ FRAME_WORDS * u.setting.limits.deep
      → slice_index (memory u at st.store stack) (stack_at u + i) ≡ slice_index stack i
  read_stack stack i h room =
      fifth fixed statics gap heap (stack_part stack) (stack_at u + i) i
      (let b = before_heap in let z = length_heap_is in omega arith)
      ∙ index_inside (replicate (FRAME_WORDS * u.setting.limits.deep) 0) 0 stack i i (omega arith) h
      (omega (arith, length-replicate {A = ℕ} (FRAME_WORDS * u.setting.limits.deep) 0))

  pub write_stack : (stack : List ℕ) (i w : ℕ) → i < length stack
      → slice_set (memory u at st.store stack) (stack_at u + i) w ≡ memory u at st.store (slice_set stack i w)
  write_stack stack i w h =
      set_fifth fixed statics gap heap (stack_part stack) (stack_at u + i) i w
      (let b = before_heap in let z = length_heap_is in omega arith)
      ∙ ap (λ z. fixed ++ statics ++ gap ++ heap ++ z) (set_inside (replicate (FRAME_WORDS * u.setting.limits.deep) 0) 0
      stack i i w (omega arith) h)

  pub address_other : (n : ℕ) → n ≢ main_name → object_address u at.blocks n ≡ base + block_of at.blocks n
  address_other n h = ap (λ t. if t then statics_at else base + block_of at.blocks n) (other_number n main_name h)

  pub read_main : (stack : List ℕ) (i : ℕ) → i < length (object_at st.store main_name).cells
      → slice_index (memory u at st.store stack) (statics_at + HEADER_WORDS + i)
      ≡ word_of_value base at.blocks (unwrap_or (slice_get (object_at st.store main_name).cells i) Nil)
  read_main stack i h =
      let main = object_words program base at.blocks (object_at st.store main_name) in
      let l = main_long in
      let c = main_cells in
      second fixed statics gap heap (stack_part stack) (statics_at + HEADER_WORDS + i) (HEADER_WORDS + i)
      (let f = length_fixed in omega arith) (let n = length_statics in let r = g.room in omega arith)
      ∙ get_or_append_left main (drop (length main) u.statics) 0 (HEADER_WORDS + i) (omega arith)
      ∙ index_object program base at.blocks (object_at st.store main_name) i h

  pub read_object : (stack : List ℕ) (n i : ℕ) → is_live st.store n ≡ true → n ≢ main_name
      → i < length (object_at st.store n).cells → slice_index (memory u at st.store stack)
      (base + block_of at.blocks n + HEADER_WORDS + i) ≡ word_of_value base at.blocks
      (unwrap_or (slice_get (object_at st.store n).cells i) Nil)
  read_object stack n i live no_main h =
      let named = live_object st.store n live in
      let inside = region_inside u.setting st.store st.log s.placed n (object_at st.store n).head
      (ap (option_map head_of) named) no_main in
      let cells = all_length program st.store (cell_kinds program (object_at st.store n).head)
      (object_at st.store n).cells (s.objects n (object_at st.store n) named) in
      let words = with_book base at.book (replicate size 0) in
      let total = length_heap_is in
      fourth fixed statics gap heap (stack_part stack) (base + block_of at.blocks n + HEADER_WORDS + i)
      (block_of at.blocks n + (HEADER_WORDS + i)) (let b = before_heap in omega arith) (omega arith)
      ∙ read_heap u.setting st.store st.log s.placed base s.objects n live no_main
      (2 + Rattle.meaning_sound.specs.buddy_book.Place.count_taken st.log) at.blocks words
      (blocks_descend u.setting st.store st.log (2 + Rattle.meaning_sound.specs.buddy_book.Place.count_taken st.log)
      s.placed
      s.fresh) (entries_are u.setting st.store st.log (2 + Rattle.meaning_sound.specs.buddy_book.Place.count_taken
      st.log)
      s.placed s.fresh)
      (entry_of (2 + Rattle.meaning_sound.specs.buddy_book.Place.count_taken st.log) st.store at.blocks n s.placed.names
      live no_main)
      (block_of at.blocks n + (HEADER_WORDS + i)) (HEADER_WORDS + i) refl
      (let z = length_words program base at.blocks (object_at st.store n) in omega arith)
      (let z = length_with_book in omega arith)
      ∙ index_object program base at.blocks (object_at st.store n) i h
    where
      length_with_book : length (with_book base at.book (replicate size 0)) ≡ size
      length_with_book = Rattle.refine_frame.proofs.Heaps.length_book base at.book (replicate size 0)
          ∙ length-replicate {A = ℕ} size 0

  -- ---- writes

  write_main : (stack : List ℕ) (f : Object → Object) (j w : ℕ)
      → j < length (object_words program base at.blocks (object_at st.store main_name))
      → slice_set (object_words program base at.blocks (object_at st.store main_name)) j w
      ≡ object_words program base at.blocks (f (object_at st.store main_name))
      → slice_set (memory u at st.store stack) (statics_at + j) w ≡ memory u at (changed_at st.store main_name f) stack
  write_main stack f j w h whole =
      let main = object_words program base at.blocks (object_at st.store main_name) in
      let main' = object_words program base at.blocks (f (object_at st.store main_name)) in
      let l = main_long in
      let same_length : length main ≡ length main' = sym (Rattle.std.proofs.lemmas.List.length-set main j w)
      ∙ ap length whole in
      let changed : object_at (changed_at st.store main_name f) main_name ≡ f (object_at st.store main_name) =
      changed_object st.store main_name f (object_at st.store main_name) main_object_is in
      let words = with_book base at.book (replicate size 0) in
      set_second fixed statics gap heap (stack_part stack) (statics_at + j) j w (let a = length_fixed in omega arith)
      (let n = length_statics in let r = g.room in omega arith)
      ∙ ap (λ z. fixed ++ z ++ gap ++ heap ++ stack_part stack)
      (set-append_left main (drop (length main) u.statics) j w h ∙ ap (λ z. z ++ drop (length main) u.statics) whole
      ∙ ap (λ n. main' ++ drop n u.statics) same_length)
      ∙ ap (λ (o : Object). fixed ++ (let m = object_words program base at.blocks o in m ++ drop (length m) u.statics)
      ++ gap ++ heap ++ stack_part stack) (sym changed)
      ∙ ap (λ z. fixed ++ static_words program base at.blocks u.statics (changed_at st.store main_name f) ++ gap ++ z
      ++ stack_part stack)
      (sym (main_elsewhere program base at.blocks st.store f
      (2 + Rattle.meaning_sound.specs.buddy_book.Place.count_taken st.log)
      at.blocks words (blocks_descend u.setting st.store st.log
      (2 + Rattle.meaning_sound.specs.buddy_book.Place.count_taken st.log) s.placed s.fresh)))

  write_object : (stack : List ℕ) (n : ℕ) → is_live st.store n ≡ true → n ≢ main_name → (f : Object → Object) (j w : ℕ)
      → j < length (object_words program base at.blocks (object_at st.store n))
      → slice_set (object_words program base at.blocks (object_at st.store n)) j w
      ≡ object_words program base at.blocks (f (object_at st.store n))
      → slice_set (memory u at st.store stack) (base + block_of at.blocks n + j) w
      ≡ memory u at (changed_at st.store n f) stack
  write_object stack n live no_main f j w h whole =
      let named = live_object st.store n live in
      let bound = 2 + Rattle.meaning_sound.specs.buddy_book.Place.count_taken st.log in
      let inside = region_inside u.setting st.store st.log s.placed n (object_at st.store n).head
      (ap (option_map head_of) named) no_main in
      let cells = all_length program st.store (cell_kinds program (object_at st.store n).head)
      (object_at st.store n).cells (s.objects n (object_at st.store n) named) in
      let long = length_words program base at.blocks (object_at st.store n) in
      let words = with_book base at.book (replicate size 0) in
      let total = length_heap_is in
      let main_same : object_at (changed_at st.store n f) main_name ≡ object_at st.store main_name =
      ap (λ r. unwrap_or r Rattle.meaning_sound.specs.roopl_semantics.Store.no_object)
      (changed_other st.store n main_name f no_main) in
      set_fourth fixed statics gap heap (stack_part stack) (base + block_of at.blocks n + j) (block_of at.blocks n + j)
      w (let b = before_heap in omega arith) (omega arith)
      ∙ ap (λ z. fixed ++ statics ++ gap ++ z ++ stack_part stack)
      (write_heap u.setting st.store st.log s.placed base s.objects n live no_main f j w h whole bound at.blocks words
      (blocks_descend u.setting st.store st.log bound s.placed s.fresh)
      (entries_are u.setting st.store st.log bound s.placed s.fresh)
      (entry_of bound st.store at.blocks n s.placed.names live no_main) (block_of at.blocks n + j) refl)
      ∙ ap (λ (o : Object). fixed ++ (let m = object_words program base at.blocks o in m ++ drop (length m) u.statics)
      ++ gap ++ heap_words program size base (changed_at st.store n f) at ++ stack_part stack) (sym main_same)

  -- a word of an object is written, if that is a change of the object
  pub write_word : (stack : List ℕ) (n : ℕ) → is_live st.store n ≡ true → (f : Object → Object) (j w : ℕ)
      → j < length (object_words program base at.blocks (object_at st.store n))
      → slice_set (object_words program base at.blocks (object_at st.store n)) j w
      ≡ object_words program base at.blocks (f (object_at st.store n))
      → slice_set (memory u at st.store stack) (object_address u at.blocks n + j) w
      ≡ memory u at (changed_at st.store n f) stack
  write_word stack n live f j w h whole = by (nat_eq n main_name) refl
    where
      by : (b : Bool) → nat_eq n main_name ≡ b → slice_set (memory u at st.store stack)
          (object_address u at.blocks n + j) w
          ≡ memory u at (changed_at st.store n f) stack
      by true e =
          let same = eqb-true n main_name e in
          subst (λ k. slice_set (memory u at st.store stack) (object_address u at.blocks k + j) w
          ≡ memory u at (changed_at st.store k f) stack) (sym same)
          (write_main stack f j w (subst (λ k. j < length (object_words program base at.blocks (object_at st.store k)))
          same h) (subst (λ k. slice_set (object_words program base at.blocks (object_at st.store k)) j w
          ≡ object_words program base at.blocks (f (object_at st.store k))) same whole))
      by false e =
          let apart = Rattle.meaning_sound.proofs.Stores.differs n main_name e in
          ap (λ a. slice_set (memory u at st.store stack) (a + j) w) (address_other n apart)
          ∙ write_object stack n live apart f j w h whole

  pub write_part : (stack : List ℕ) (n i : ℕ) (v : Value) → is_live st.store n ≡ true
      → i < length (object_at st.store n).cells → slice_set (memory u at st.store stack)
      (object_address u at.blocks n + HEADER_WORDS + i) (word_of_value base at.blocks v)
      ≡ memory u at (changed_at st.store n (with_cell i v)) stack
  write_part stack n i v live h =
      let e : object_address u at.blocks n + HEADER_WORDS + i ≡ object_address u at.blocks n + (HEADER_WORDS + i) =
      omega arith in
      ap (λ a. slice_set (memory u at st.store stack) a (word_of_value base at.blocks v)) e
      ∙ write_word stack n live (with_cell i v) (HEADER_WORDS + i) (word_of_value base at.blocks v)
      (omega (arith, length_words program base at.blocks (object_at st.store n)))
      (set_object program base at.blocks (object_at st.store n) i v)

  -- the count of an object changes
  pub write_count : (stack : List ℕ) (n : ℕ) (change : ℕ → ℕ) → is_live st.store n ≡ true
      → slice_set (memory u at st.store stack) (object_address u at.blocks n + 1) (change (object_at st.store n).count)
      ≡ memory u at (changed_at st.store n (with_count change)) stack
  write_count stack n change live =
      write_word stack n live (with_count change) 1 (change (object_at st.store n).count)
      (omega (arith, length_words program base at.blocks (object_at st.store n)))
      (set_count program base at.blocks (object_at st.store n) change)

  pub read_part : (stack : List ℕ) (n i : ℕ) → is_live st.store n ≡ true → i < length (object_at st.store n).cells
      → slice_index (memory u at st.store stack) (object_address u at.blocks n + HEADER_WORDS + i)
      ≡ word_of_value base at.blocks (unwrap_or (slice_get (object_at st.store n).cells i) Nil)
  read_part stack n i live h = by (nat_eq n main_name) refl
    where
      by : (b : Bool) → nat_eq n main_name ≡ b → slice_index (memory u at st.store stack)
          (object_address u at.blocks n + HEADER_WORDS + i) ≡ word_of_value base at.blocks
          (unwrap_or (slice_get (object_at st.store n).cells i) Nil)
      by true e =
          let same = eqb-true n main_name e in
          let inside : i < length (object_at st.store main_name).cells =
          subst (λ k. i < length (object_at st.store k).cells) same h in
          subst (λ k. slice_index (memory u at st.store stack) (object_address u at.blocks k + HEADER_WORDS + i)
          ≡ word_of_value base at.blocks (unwrap_or (slice_get (object_at st.store k).cells i) Nil)) (sym same)
          (read_main stack i inside)
      by false e =
          let apart = Rattle.meaning_sound.proofs.Stores.differs n main_name e in
          ap (λ a. slice_index (memory u at st.store stack) (a + HEADER_WORDS + i)) (address_other n apart)
          ∙ read_object stack n i live apart h

  -- the number of cells
  pub memory_length : (stack : List ℕ) → length (memory u at st.store stack)
      ≡ stack_at u + FRAME_WORDS * u.setting.limits.deep
  memory_length stack =
      let b = before_heap in let z = length_heap_is in
      omega (
        arith,
        length-append (fixed ++ statics ++ gap ++ heap) (stack_part stack),
        length-append (fixed ++ statics ++ gap) heap,
        length-append (fixed ++ statics) gap,
        length-append fixed statics,
        length_overlaid (replicate (FRAME_WORDS * u.setting.limits.deep) 0) 0 stack,
        length-replicate {A = ℕ} (FRAME_WORDS * u.setting.limits.deep) 0,
      )

-- zeros at the end of the stack are no words of it
pub zeros_end : (u : Setup) (at : Placing) (store : Store) (stack : List ℕ) (n : ℕ)
    → memory u at store (stack ++ replicate n 0) ≡ memory u at store stack
zeros_end u at store stack n =
    let front = fixed_cells u.setting.limits.heap u.setting.limits.deep (setup_base u)
    (map (first_address (setup_base u)) at.book) ++ static_words u.setting.program (setup_base u) at.blocks u.statics
    store ++ replicate (setup_base u - statics_at - length u.statics) 0
    ++ heap_words u.setting.program (2 ^ u.setting.limits.heap) (setup_base u) store at in
    ap (λ z. front ++ z) (zeros_padded (FRAME_WORDS * u.setting.limits.deep) stack n)

-- with no words on the stack the memory is the layout
pub memory_is_layout : (u : Setup) (at : Placing) (store : Store) (log : Log)
    → place u.setting.limits.heap log ≡ Some at → memory u at store []
    ≡ layout u.setting.program u.setting.limits u.statics store log
memory_is_layout u at store log placed =
    let front = fixed_cells u.setting.limits.heap u.setting.limits.deep (setup_base u)
    (map (first_address (setup_base u)) at.book) ++ static_words u.setting.program (setup_base u) at.blocks u.statics
    store ++ replicate (setup_base u - statics_at - length u.statics) 0
    ++ heap_words u.setting.program (2 ^ u.setting.limits.heap) (setup_base u) store at in
    ap (λ z. front ++ z) (none_over_zeros (FRAME_WORDS * u.setting.limits.deep))
    ∙ ap (λ o. laid u.setting.program u.setting.limits u.statics store (unwrap_or o no_placing)
    (replicate (FRAME_WORDS * u.setting.limits.deep) 0)) (sym placed)
