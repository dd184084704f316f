-- The allocator of an image takes a block from the memory of a frame and gives it back.
use Rattle.std.proofs.Common.{◌≡◌, ◌≢◌, ◌∙◌, sym, ap, subst, refl, ℕ, zero, suc, ◌+◌, ◌-◌, ◌*◌, ◌^◌, ◌<◌, ◌≤◌, true}
use Rattle.std.proofs.Common.{false, List, [], ◌∷◌, length, Option, Some, None, arith, append-nil}
use Rattle.std.specs.Prelude.{is_none}
use Rattle.std.specs.Option.{option_map}
use Rattle.object_codegen.specs.rpp_words.declared.input.TheConstants.{FRAME_WORDS}
use Rattle.object_codegen.specs.rpp_tree.declared.tree.Ident.{Ident}
use Rattle.object_codegen.specs.rpp_tree.Tree.{Source}
use Rattle.object_codegen.specs.class_rules.Scope.{Locals}
use Rattle.object_codegen.specs.buddy_book.Book.{Book, take, take_past, below_taken}
use Rattle.object_codegen.specs.buddy_book.Place.{Placing, Taken, count_taken, place, after_request, with_block}
use Rattle.object_codegen.specs.buddy_book.Shown.{Shown, TakenBlocks, order_in, with_taken, IsKept}
use Rattle.object_codegen.proofs.buddy_book_laws.Orders.{TookOrder, take_took, take_past-above}
use Rattle.object_codegen.proofs.buddy_book_laws.Kept.{none_taken, take_kept}
use Rattle.object_codegen.proofs.buddy_book_laws.Table.{order_in-with}
use Rattle.object_codegen.specs.buddy_pisa.Promise.{most_steps}
use Rattle.object_codegen.specs.roopl_semantics.Store.{State, main_name, object_at}
use Rattle.object_codegen.specs.roopl_semantics.Execution.{order_of_cells}
use Rattle.object_codegen.specs.meaning_sound.Sound.{head_of, cell_kinds, Typed}
use Rattle.object_codegen.proofs.meaning_sound_laws.Lists.{all_length}
use Rattle.object_codegen.proofs.meaning_sound_laws.Stores.{live_object}
use Rattle.object_codegen.proofs.meaning_sound_laws.Regions.{BlocksDescend, EntriesAre, room_of, blocks_descend}
use Rattle.object_codegen.proofs.meaning_sound_laws.Regions.{entries_are}
use Rattle.object_codegen.specs.refine_frame.Open.{IsGrounded}
use Rattle.object_codegen.proofs.refine_frame_laws.Heaps.{length_words}
use Rattle.object_codegen.proofs.refine_frame_laws.Memory.{main_long}
use Rattle.object_codegen.proofs.refine_frame_laws.Tells.{cells_small}
use Rattle.object_codegen.specs.refine_heap.Laid.{IsHeapPlaced, block_words}
use Rattle.object_codegen.specs.refine_heap.Rooms.{HaveRoom}
use Rattle.object_codegen.proofs.refine_heap_laws.Roomy.{room_law}
use Rattle.object_codegen.specs.refine_form.Frames.{base, before_stack, filled_to, memory}
use Rattle.object_codegen.specs.refine_form.Stands.{setup}
use Rattle.object_codegen.specs.refine_form.Worlds.{Place}
use Rattle.refine_expressions.specs.refine_calls.Laws.{IsLinked}
use Rattle.object_codegen.specs.declared.shape.Shape.{Shape}
use Rattle.object_codegen.specs.News.{Allocates, Lacks}
use Rattle.object_codegen.proofs.OverLayout.{IsLeft, allocates, lacks}
use Rattle.refine_objects.proofs.BookWords.{memory_small}

module _ (p : Place) (routine : ℕ → Ident → ℕ) (linked : IsLinked p routine) (extra : ℕ → ℕ) (shape : Locals)
    (class : ℕ) (st : State) (t : Typed p.setting extra shape class st)
    (g : IsGrounded (setup p.setting p.statics) st.store) where
  abbrev P : Source
  P = p.setting.program

  abbrev h : ℕ
  h = p.setting.limits.heap

  abbrev at : Placing
  at = t.placed.at

  abbrev b : ℕ
  b = base p.setting p.statics

  pub cells_low : b + 2 ^ h + FRAME_WORDS * p.setting.limits.deep ≤ 2 ^ 23
  cells_low = cells_small (setup p.setting p.statics) g.limits linked.routed.few

  base_low : b ≤ 2 ^ 21
  base_low = Rattle.refine_objects.proofs.Bases.base_small p.setting p.statics g.limits linked.routed.few

  rooms : (bound : ℕ) (rest : List (ℕ × ℕ)) → BlocksDescend bound rest → EntriesAre st.store at.blocks rest
      → HaveRoom P b st.store at.blocks rest t.placed.taken
  rooms bound [] d e = tt
  rooms bound ((n, block) ∷ rest) d e =
      let object = object_at st.store n in
      let live = live_object st.store n e.0 in
      let named = ap (option_map head_of) live in
      let above = d.1 in
      let no_main : n ≢ main_name = λ q. omega (arith, q, above) in
      let sized = all_length P st.store (cell_kinds P object.head) object.cells (t.objects n object live) in
      let room = room_of p.setting st.store st.log t.placed n object.head named no_main in
      let words = length_words P b at.blocks object in (
        (
          order_of_cells (length (cell_kinds P object.head)),
          ap (order_in t.placed.taken) (sym e.1)
              ∙ t.placed.orders n object.head named no_main,
          omega (arith, words, sized, room),
        ),
        rooms n rest d.2 e.2,
      )

  have : HaveRoom P b st.store at.blocks at.blocks t.placed.taken
  have = rooms (2 + count_taken st.log) at.blocks (blocks_descend p.setting st.store st.log (2 + count_taken st.log)
      t.placed t.fresh) (entries_are p.setting st.store st.log (2 + count_taken st.log) t.placed t.fresh)

  kept_at : (book : Book) (taken : TakenBlocks) → IsKept (record { h = h; base = 0; free = book; taken = taken })
      → IsKept (record { h = h; base = b; free = book; taken = taken })
  kept_at book taken k = record {
    h_from = k.h_from;
    h_to = k.h_to;
    base_to = base_low;
    lists = k.lists;
    sound = k.sound;
    aligned = k.aligned;
    balanced = k.balanced;
  }

  main_room : block_words P b st.store at.blocks main_name ≤ length p.statics
  main_room = let l = main_long (setup p.setting p.statics) extra shape class st t g in let r = g.room in
      omega (arith, l, r)

  heap_placed : IsHeapPlaced P p.setting.limits p.statics st.store at t.placed.taken
  heap_placed = record {
    kept = kept_at at.book t.placed.taken t.placed.kept;
    apart = room_law.apart P h b st.store at.blocks at.blocks at.book t.placed.taken
        (kept_at at.book t.placed.taken t.placed.kept) have;
    main = main_room;
  }

  abbrev shown : Shown
  shown = record { h = h; base = 0; free = at.book; taken = t.placed.taken }

  module _ (order block : ℕ) (after : Book) (from : 1 ≤ order) (is : take at.book order ≡ Some (block, after)) where
    took : TookOrder h order block at.book after
    took = take_took h order block at.book after from t.placed.kept.sound is

    unused : order_in t.placed.taken block ≡ None
    unused = none_taken shown order block after t.placed.kept from is (order_in t.placed.taken block) refl

    abbrev pub later_taken : TakenBlocks
    later_taken = with_taken block order t.placed.taken

    pub later_kept : IsKept (record { h = h; base = 0; free = after; taken = with_taken block order t.placed.taken })
    later_kept = take_kept shown order block after t.placed.kept from is (took.count ∙ t.placed.kept.lists)

    abbrev pub later : Placing
    later = record { book = after; blocks = t.placed.at.blocks }

    later_placed : IsHeapPlaced P p.setting.limits p.statics st.store later later_taken
    later_placed = record {
      kept = kept_at after later_taken later_kept;
      apart = room_law.apart P h b st.store at.blocks at.blocks after later_taken (kept_at after later_taken later_kept)
          (room_law.with_one P b st.store at.blocks at.blocks block order t.placed.taken unused have);
      main = main_room;
    }

    module _ (object frame a v : ℕ) (sh : Shape) (object_small : object < 2 ^ 32) (frame_small : frame < 2 ^ 32)
        (order_small : order < 2 ^ 32) (place_small : a < 2 ^ 32) (length_small : v < 2 ^ 32) (left : IsLeft v sh)
        (low n : ℕ) (words : List ℕ)
        (long : length (before_stack p.setting p.statics at st.store) ≤ low)
        (inside : low ≤ length (memory p.setting p.statics at st.store words)) where
      pub allocated : Allocates p.im object frame order (b + block) a v sh low n (h + 1) (most_steps h + 7)
          (memory p.setting p.statics at st.store words) (memory p.setting p.statics later st.store words)
      allocated =
          let f = took.fits in
          let c = cells_low in
          allocates object frame order a v sh object_small frame_small order_small place_small length_small left p.im
          linked.routed.allocator.top linked.routed.allocator.body linked.routed.allocator.law
          linked.routed.allocator.routine linked.routed.tidy from
          P p.setting.limits p.statics st.store at t.placed.taken later_taken block after
          (record {
            takes = is;
            gives = took.undone;
            placed = heap_placed;
            placed_after = later_placed;
            is_taken = order_in-with block order t.placed.taken unused;
            address_small = omega (arith, f, c);
          })
          (filled_to p.setting p.statics (FRAME_WORDS * p.setting.limits.deep) words) low n
          (subst (λ z. length z ≤ low) (sym (append-nil (before_stack p.setting p.statics at st.store))) long) inside
          (memory_small p.setting p.statics at st.store after t.placed.taken later_taken t.placed.kept later_kept
          cells_low words).count

  module _ (order : ℕ) (from : 1 ≤ order) (object frame a v : ℕ) (sh : Shape) (object_small : object < 2 ^ 32)
      (frame_small : frame < 2 ^ 32) (order_small : order < 2 ^ 32) (place_small : a < 2 ^ 32)
      (length_small : v < 2 ^ 32) (left : IsLeft v sh) (low n : ℕ) (words : List ℕ)
      (long : length (before_stack p.setting p.statics at st.store) ≤ low)
      (inside : low ≤ length (memory p.setting p.statics at st.store words)) where
    pub lacking : take at.book order ≡ None → Lacks p.im object frame order a v sh low n (most_steps h + 7)
        (memory p.setting p.statics at st.store words)
    lacking none =
        lacks object frame order a v sh object_small frame_small order_small place_small length_small left p.im
        linked.routed.allocator.top linked.routed.allocator.body linked.routed.allocator.law
        linked.routed.allocator.routine linked.routed.tidy from P
        p.setting.limits p.statics st.store at t.placed.taken
        (filled_to p.setting p.statics (FRAME_WORDS * p.setting.limits.deep) words) low n heap_placed none
        (subst (λ z. length z ≤ low) (sym (append-nil (before_stack p.setting p.statics at st.store))) long) inside

  -- if a request finds none, there is none
  pub none_there : (name order : ℕ) → is_none (place h (Taken name order ∷ st.log)) ≡ true → take at.book order ≡ None
  none_there name order e = by (take at.book order) refl
    where
      by : (r : Option (ℕ × Book)) → take at.book order ≡ r → take at.book order ≡ None
      by None q = q
      by (Some (block, book)) q =
          let some : is_none (place h (Taken name order ∷ st.log)) ≡ false =
          ap (λ o. is_none (after_request (Taken name order) o)) t.placed.placed
          ∙ ap (λ r. is_none (with_block name at.blocks r)) q in
          absurd (cc)

  pub none_above : (order : ℕ) → h < order → take at.book order ≡ None
  none_above order l = take_past-above (order - 1) (2 ^ order) at.book
      (let k = t.placed.kept.lists in omega (arith, k, l))
