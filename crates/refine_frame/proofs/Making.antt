-- What a new object changes in memory, and a deleted one: its words in its block, which is zero
-- without it.
use Rattle.std.proofs.Common.{◌≡◌, ◌≢◌, ◌∙◌, sym, ap, refl, ℕ, ◌+◌, ◌^◌, ◌<◌, ◌≤◌, true, List, ◌++◌, length, drop}
use Rattle.std.proofs.Common.{arith, length-append}
use Rattle.std.proofs.lemmas.List.{get_or-replicate}
use Rattle.std.specs.Prelude.{slice_index, replicate}
use Rattle.std.specs.Option.{option_map}
use Rattle.meaning_sound.specs.rpp_tree.Tree.{Source}
use Rattle.meaning_sound.specs.class_rules.Scope.{Locals}
use Rattle.meaning_sound.specs.buddy_book.Place.{Placing, block_of, without_name, count_taken}
use Rattle.meaning_sound.specs.roopl_semantics.Store.{State, main_name, object_at, without}
use Rattle.meaning_sound.specs.roopl_semantics.Layout.{overlaid, object_words, with_book, heap_words}
use Rattle.meaning_sound.specs.roopl_semantics.Laws.{holders}
use Rattle.meaning_sound.specs.Sound.{head_of, is_live, cell_kinds, held, Typed}
use Rattle.refine_frame.specs.Open.{Setup, setup_base, memory, IsGrounded}
use Rattle.meaning_sound.proofs.Lists.{all_length}
use Rattle.meaning_sound.proofs.Stores.{live_object}
use Rattle.meaning_sound.proofs.Regions.{region_inside, blocks_descend, entries_are, entry_of, room_of}
use Rattle.refine_frame.proofs.Heaps.{length_words, length_heap}
use Rattle.refine_frame.proofs.Memory.{before_heap, fixed, statics, gap, stack_part, fourth}
use Rattle.refine_frame.proofs.Removed.{removed_heap, other_words, book_none, book_zero, skip_others, overlaid_left}
use Rattle.refine_frame.proofs.Removed.{overlaid_right}

module _ (u : Setup) (extra : ℕ → ℕ) (shape : Locals) (class : ℕ) (st : State)
    (s : Typed u.setting extra shape class st) (g : IsGrounded u st.store) (n : ℕ) (live : is_live st.store n ≡ true)
    (no_main : n ≢ main_name) (unheld : held n st ≡ 0) where
  abbrev program : Source
  program = u.setting.program

  abbrev at : Placing
  at = s.placed.at

  abbrev base : ℕ
  base = setup_base u

  abbrev size : ℕ
  size = 2 ^ u.setting.limits.heap

  -- the same book, without the block
  abbrev pub less : Placing
  less = record { book = s.placed.at.book; blocks = without_name s.placed.at.blocks n }

  abbrev bound : ℕ
  bound = 2 + count_taken st.log

  abbrev zeros : List ℕ
  zeros = with_book base at.book (replicate size 0)

  in_store : holders n st.store ≡ 0
  in_store = omega arith

  own_inside : block_of at.blocks n + length (object_words program base at.blocks (object_at st.store n)) ≤ size
  own_inside =
      let named = live_object st.store n live in
      let inside = region_inside u.setting st.store st.log s.placed n (object_at st.store n).head
      (ap (option_map head_of) named) no_main in
      let cells = all_length program st.store (cell_kinds program (object_at st.store n).head)
      (object_at st.store n).cells (s.objects n (object_at st.store n) named) in
      omega (arith, length_words program base at.blocks (object_at st.store n))

  heap_is : heap_words program size base st.store at ≡ overlaid (heap_words program size base (without st.store n) less)
      (block_of at.blocks n) (object_words program base at.blocks (object_at st.store n))
  heap_is = removed_heap u.setting st.store st.log s.placed base s.objects n live no_main in_store bound at.blocks zeros
      (blocks_descend u.setting st.store st.log bound s.placed s.fresh)
      (entries_are u.setting st.store st.log bound s.placed s.fresh)
      (entry_of bound st.store at.blocks n s.placed.names live no_main)

  main_same : object_words program base less.blocks (object_at (without st.store n) main_name)
      ≡ object_words program base at.blocks (object_at st.store main_name)
  main_same = other_words u.setting st.store st.log s.placed base s.objects n live no_main in_store main_name
      (s.lives main_name (let m = s.main_extra in omega arith)) no_main

  -- the memory is that without the object, with the object's words in its block
  pub made_memory : (stack : List ℕ) → memory u at st.store stack
      ≡ overlaid (memory u less (without st.store n) stack) (base + block_of at.blocks n)
      (object_words program base at.blocks (object_at st.store n))
  made_memory stack =
      let f = fixed u extra shape class st s g in
      let sw = statics u extra shape class st s g in
      let gp = gap u extra shape class st s g in
      let k = stack_part u extra shape class st s g stack in
      let h' = heap_words program size base (without st.store n) less in
      let w = object_words program base at.blocks (object_at st.store n) in
      let b = block_of at.blocks n in
      let front = f ++ sw ++ gp in
      let length_front : length front ≡ base = omega (
        arith,
        before_heap u extra shape class st s g,
        length-append (f ++ sw) gp,
        length-append f sw,
      ) in
      let long : length h' ≡ size = length_heap program size base (without st.store n) less in
      let inside = own_inside in
      ap (λ z. f ++ sw ++ gp ++ z ++ k) heap_is
      ∙ ap (λ z. z ++ k) (sym (overlaid_right front h' (base + b) b w (omega arith)))
      ∙ sym (overlaid_left (front ++ h') k (base + b) w (omega (arith, length-append front h')))
      ∙ ap (λ m. overlaid (f ++ (m ++ drop (length m) u.statics) ++ gp ++ h' ++ k) (base + b) w) (sym main_same)

  -- without the object all is zero in its block
  pub block_is_zero : (stack : List ℕ) (i : ℕ) → i < length (object_words program base at.blocks (object_at st.store n))
      → slice_index (memory u less (without st.store n) stack) (base + block_of at.blocks n + i) ≡ 0
  block_is_zero stack i l =
      let f = fixed u extra shape class st s g in
      let sw = statics u extra shape class st s g in
      let gp = gap u extra shape class st s g in
      let k = stack_part u extra shape class st s g stack in
      let h' = heap_words program size base (without st.store n) less in
      let b = block_of at.blocks n in
      let inside = own_inside in
      let before = before_heap u extra shape class st s g in
      let named = live_object st.store n live in
      let cells = all_length program st.store (cell_kinds program (object_at st.store n).head)
      (object_at st.store n).cells (s.objects n (object_at st.store n) named) in
      let words = length_words program base at.blocks (object_at st.store n) in
      let room = room_of u.setting st.store st.log s.placed n (object_at st.store n).head
      (ap (option_map head_of) named) no_main in
      let long : length h' ≡ size = length_heap program size base (without st.store n) less in
      ap (λ m. slice_index (f ++ (m ++ drop (length m) u.statics) ++ gp ++ h' ++ k) (base + b + i)) main_same
      ∙ fourth f sw gp h' k (base + b + i) (b + i) (omega arith) (omega arith)
      ∙ skip_others u.setting st.store st.log s.placed base s.objects n live no_main in_store bound at.blocks zeros
      (b + i) i (blocks_descend u.setting st.store st.log bound s.placed s.fresh)
      (entries_are u.setting st.store st.log bound s.placed s.fresh) refl (omega arith)
      ∙ book_zero u.setting st.store st.log s.placed base s.objects n live no_main in_store at.book (replicate size 0)
      (b + i) (book_none u.setting st.store st.log s.placed base s.objects n live no_main in_store (b + i) i refl
      (omega arith))
      ∙ get_or-replicate size (b + i) 0 0 (omega arith)
