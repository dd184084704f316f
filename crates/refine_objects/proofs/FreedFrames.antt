-- A current frame whose place's object or array is given back.
use Rattle.std.proofs.Common.{◌≡◌, ◌≢◌, ◌∙◌, sym, ap, subst, refl, ℕ, ◌+◌, ◌-◌, ◌*◌, ◌^◌, ◌<◌, ◌≤◌, ◌⊎◌, ⊎_elim, Bool}
use Rattle.std.proofs.Common.{true, false, List, [], ◌∷◌, length, Some, None, arith}
use Rattle.std.specs.Prelude.{nat_eq, is_some, slice_get, slice_index, slice_set, not}
use Rattle.std.specs.Option.{option_map, unwrap_or}
use Rattle.std.proofs.lemmas.List.{set-set, set-get_or, get_or-set_other, get_or-set_same}
use Rattle.object_codegen.specs.rpp_words.declared.input.TheConstants.{FRAME_WORDS, FIXED_CELLS}
use Rattle.object_codegen.specs.code_conventions.declared.memory.TheConstants.{FIRST_VARIABLE, HEADER_WORDS, COUNT_WORD}
use Rattle.object_codegen.specs.class_rules.declared.kind.Kind.{Kind}
use Rattle.object_codegen.specs.class_rules.declared.kind.Kind.TheVariants as kind
use Rattle.object_codegen.specs.class_rules.Expressions.{is_int}
use Rattle.object_codegen.specs.buddy_book.Book.{take, give_back}
use Rattle.object_codegen.specs.buddy_book.Place.{Placing, Given, after_request, block_of, without_name, count_taken}
use Rattle.object_codegen.specs.buddy_book.Place.{place}
use Rattle.object_codegen.specs.buddy_book.Shown.{Shown, without_taken, IsKept}
use Rattle.object_codegen.proofs.buddy_book_laws.Orders.{GaveOrder, give_gave}
use Rattle.object_codegen.proofs.buddy_book_laws.Kept.{GivenBack, given_back, give_kept}
use Rattle.object_codegen.proofs.buddy_book_laws.Requests.{block_of_other}
use Rattle.object_codegen.specs.roopl_semantics.Store.{Value, Nil, Name, Head, OfClass, Object, Store, State, main_name}
use Rattle.object_codegen.specs.roopl_semantics.Store.{no_object}
use Rattle.object_codegen.specs.roopl_semantics.Store.{object_named, object_at, without}
use Rattle.object_codegen.specs.roopl_semantics.Value.{Cell, Slot, Part, read, written}
use Rattle.object_codegen.specs.roopl_semantics.Execution.{Setting, order_of_cells, all_zero, freed}
use Rattle.object_codegen.specs.roopl_semantics.Laws.{one_if_name}
use Rattle.object_codegen.specs.roopl_semantics.Layout.{head_word}
use Rattle.object_codegen.proofs.roopl_semantics_laws.Orders.{order_from_one}
use Rattle.object_codegen.specs.meaning_sound.Sound.{head_of, head_named, part_kind, count_of, named_fits, is_of_kind}
use Rattle.object_codegen.specs.meaning_sound.Sound.{is_live, cell_kinds}
use Rattle.object_codegen.specs.meaning_sound.Sound.{cell_kind, held, Sound, Keeps, IsPlaced, Typed}
use Rattle.object_codegen.proofs.meaning_sound_laws.Lists.{all_length}
use Rattle.object_codegen.proofs.meaning_sound_laws.Stores.{live_object, live_named, without_other}
use Rattle.object_codegen.proofs.meaning_sound_laws.Cells.{sound_of, read_fits, kind_stays}
use Rattle.object_codegen.proofs.meaning_sound_laws.Objects.{fit_live}
use Rattle.object_codegen.proofs.meaning_sound_laws.Removal.{one_name, apart_cell, object_stays, smaller, smaller_typed}
use Rattle.object_codegen.proofs.meaning_sound_laws.Removal.{freed_is}
use Rattle.object_codegen.proofs.meaning_sound_laws.Removal.{freed_keeps}
use Rattle.object_codegen.specs.refine_form.Form.{Scope}
use Rattle.object_codegen.specs.refine_form.Frames.{CallerFrame, Under, base, stack_base, before_stack, memory, stack_words}
use Rattle.object_codegen.specs.refine_form.Frames.{address_of}
use Rattle.object_codegen.specs.refine_form.Frames.{value_word, CallersStand, OpenFrame}
use Rattle.object_codegen.specs.refine_form.Stands.{shape_of, extra, main_held, below_held, setup, CallersHeld, Kept}
use Rattle.object_codegen.specs.refine_form.Stands.{Reads, Stands}
use Rattle.refine_expressions.proofs.refine_calls_laws.Bridge.{typed, typed_by, reads_of, same_at, before_long}
use Rattle.refine_expressions.proofs.refine_calls_laws.Bridge.{as_many_vars}
use Rattle.refine_expressions.proofs.refine_calls_laws.MovesFit.{frame_address, place_of, class_at, frame_read}
use Rattle.refine_expressions.proofs.refine_calls_laws.MovesFit.{cell_low, cell_inside}
use Rattle.refine_expressions.proofs.meaning_inverse_laws.Cells.{length_with}
use Rattle.object_codegen.proofs.meaning_sound_laws.AfterWrites.{read_same}
use Rattle.object_codegen.proofs.refine_frame_laws.Memory.{base_above}
use Rattle.refine_expressions.proofs.CellsWritten.{reads_after, held_after}
use Rattle.object_codegen.specs.News.{Takes, filled_words}
use Rattle.refine_objects.proofs.BookWords.{memory_small, memory_words, memory_above}
use Rattle.refine_objects.proofs.Placings.{placed_as, same_frame}
use Rattle.refine_objects.proofs.Elsewhere.{Avoids, address_same, callers_fit_on, callers_stand_on}
use Rattle.refine_objects.proofs.MadeMemory.{bare, bare_zero, written_over, cell_outside, block_inside}

-- a name that is held nowhere below is in no frame there: the object of each is held
avoids_free : (n : ℕ) (callers : List CallerFrame) → CallersHeld callers → main_held n ≡ 0 → below_held n callers ≡ 0
    → Avoids n callers
avoids_free n [] h m b = tt
avoids_free n (c ∷ callers) h m b = (
  omega (arith, b),
  (λ e. let q = h.0 in by c.self e q),
  avoids_free n callers h.1 m (omega (arith, b)),
)
  where
    by : (self : ℕ) → n ≡ self → 0 < main_held self + (Rattle.object_codegen.specs.refine_form.Stands.receiver_held self
        c.self
        c.put_by + below_held self callers) → ⊥
    by self e q =
        let z : main_held n + (Rattle.object_codegen.specs.refine_form.Stands.receiver_held n c.self c.put_by +
        below_held n
        callers) ≡ main_held self + (Rattle.object_codegen.specs.refine_form.Stands.receiver_held self c.self c.put_by +
        below_held self callers) =
        ap (λ k. main_held k + (Rattle.object_codegen.specs.refine_form.Stands.receiver_held k c.self c.put_by +
        below_held k
        callers)) e in
        omega (arith, m, b, z, q)

module _ (setting : Setting) (statics : List ℕ) (s : Scope) (u : Under) (st : State) (cells : List ℕ)
    (h : Stands setting statics s u [] st cells) (cell : Cell) (k : Kind)
    (has : cell_kind setting.program (shape_of setting.program s) st.store cell ≡ Some k) (no_int : is_int k ≡ false)
    (n : ℕ) (reads : read st cell ≡ Name n) (single : (object_at st.store n).count ≡ 1)
    (zeros : all_zero (object_at st.store n).cells ≡ true) where
  abbrev r : Reads setting statics s u [] st cells
  r = reads_of h

  abbrev t : Typed setting (extra u []) (shape_of setting.program s) s.class st
  t = typed setting statics s u [] st cells (reads_of h)

  live : is_live st.store n ≡ true
  live = fit_live setting.program st.store (Name n) k n (subst (λ v. is_of_kind setting.program st.store v k ≡ true) reads
      (read_fits setting (extra u []) (shape_of setting.program s) s.class st cell k t has))
      (let o = one_name n in omega (arith, o))

  named : object_named st.store n ≡ Some (object_at st.store n)
  named = live_object st.store n live

  pub apart : (m i : ℕ) → cell ≡ Part m i → n ≢ m
  apart = apart_cell setting (extra u []) (shape_of setting.program s) s.class st cell n reads zeros

  abbrev cleared : State
  cleared = written st cell Nil

  abbrev pub place_at : ℕ
  place_at = place_of setting statics h.frame.at u st cell

  -- the place is nil first
  abbrev nil_reads : Reads setting statics s u [] cleared (slice_set cells place_at 0)
  nil_reads = reads_after setting statics s u st cells (reads_of h) cell k has Nil (ap not no_int) refl (omega arith)

  held_now : (m : ℕ) → held m cleared + one_if_name m (read st cell) ≡ held m st + 0
  held_now m = held_after setting statics s u st cells (reads_of h) cell k has Nil m

  law : 1 ≡ held n st + extra u [] n
  law = sym single ∙ h.counts n (object_at st.store n).count (ap (option_map count_of) named)

  once : one_if_name n (read st cell) ≡ 1
  once = ap (one_if_name n) reads ∙ one_name n

  pub no_extra : extra u [] n ≡ 0
  no_extra = let a = held_now n in let b = law in let c = once in omega (arith, a, b, c)

  pub unheld_now : held n cleared ≡ 0
  unheld_now = let a = held_now n in let b = law in let c = once in omega (arith, a, b, c)

  pub no_main : n ≢ main_name
  no_main e = let z : extra u [] n ≡ extra u [] main_name = ap (extra u []) e in let a = no_extra in let b =
      h.keeps.main_extra in omega (arith, z, a, b)

  avoids : Avoids n u.callers
  avoids = let a = no_extra in avoids_free n u.callers h.keeps.callers_held (omega (arith, a)) (omega (arith, a))

  object_now : object_named cleared.store n ≡ Some (object_at st.store n)
  object_now = object_stays setting (extra u []) (shape_of setting.program s) s.class st cell n Nil apart ∙ named

  object_same : object_at cleared.store n ≡ object_at st.store n
  object_same = ap (λ o. Rattle.std.specs.Option.unwrap_or o
      Rattle.object_codegen.specs.roopl_semantics.Store.no_object) object_now

  pub live_now : is_live cleared.store n ≡ true
  live_now = live_named cleared.store n (object_at st.store n) object_now

  abbrev head : Head
  head = (object_at st.store n).head

  abbrev pub order : ℕ
  order = order_of_cells (length (cell_kinds setting.program (object_at st.store n).head))

  abbrev small : State
  small = smaller setting (extra u []) (shape_of setting.program s) s.class cleared n (object_at st.store n).head

  abbrev t1 : Typed setting (extra u []) (shape_of setting.program s) s.class cleared
  t1 = typed_by setting statics s u [] cleared nil_reads.keeps [] (slice_set cells place_at 0) nil_reads.frame

  pub t2 : Typed setting (extra u []) (shape_of setting.program s) s.class small
  t2 = smaller_typed setting (extra u []) (shape_of setting.program s) s.class cleared n (object_at st.store n).head t1
      no_main (ap (option_map head_of) object_now) unheld_now no_extra

  abbrev pub before : Placing
  before = nil_reads.keeps.placed.at

  abbrev pub block : ℕ
  block = block_of before.blocks n

  abbrev pub after : Placing
  after = record { book = give_back before.book order block; blocks = without_name before.blocks n }

  pub placed_is : place setting.limits.heap small.log ≡ Some after
  placed_is = ap (after_request (Given n order)) nil_reads.keeps.placed.placed

  abbrev small_placed : IsPlaced setting small.store small.log
  small_placed = placed_as setting small.store small.log t2.placed after placed_is

  pub blocks : (m : ℕ) → n ≢ m → block_of after.blocks m ≡ block_of before.blocks m
  blocks m e = block_of_other before.blocks n m e

  older : (m : ℕ) → n ≢ m → is_live cleared.store m ≡ true → head_named small.store m ≡ head_named cleared.store m
  older m e l = ap (option_map head_of) (without_other cleared.store n m e)

  self_apart : n ≢ u.self
  self_apart e = let z : extra u [] n ≡ extra u [] u.self = ap (extra u []) e in let a = no_extra in let b =
      h.keeps.self_held in omega (arith, z, a, b)

  self_live : is_live cleared.store u.self ≡ true
  self_live = ap is_some nil_reads.keeps.own_is

  -- the memory with the block given back
  abbrev pub given : List ℕ
  given = memory setting statics after small.store (stack_words setting statics after u cleared.frame [])

  pub same : before ≡ nil_reads.frame.at
  same = same_at setting statics s u [] cleared (slice_set cells place_at 0) nil_reads

  abbrev small_frame : OpenFrame setting statics s u [] small given
  small_frame = record {
    at = after;
    placed = placed_is;
    cells_are = refl;
    names_are = nil_reads.frame.names_are;
    self_is = nil_reads.frame.self_is;
    stands = (
      class_at small.store u.self u.class (older u.self self_apart self_live ∙ nil_reads.keeps.own_is),
      address_same setting statics before after n blocks u.self self_apart
          ∙ ap (λ (a : Placing). address_of setting statics a u.self) same ∙ nil_reads.frame.stands.1,
    );
    callers_stand = callers_stand_on setting statics before after n blocks cleared.store small.store older u.callers
        nil_reads.keeps.callers_fit avoids (subst (λ (a : Placing). CallersStand setting statics a cleared.store
        u.callers) (sym same) nil_reads.frame.callers_stand);
    depth_is = nil_reads.frame.depth_is;
    in_depth = nil_reads.frame.in_depth;
    put_long = nil_reads.frame.put_long;
    few = nil_reads.frame.few;
    few_vals = nil_reads.frame.few_vals;
    above_fits = tt;
  }

  pub sized : length (object_at st.store n).cells ≡ length (cell_kinds setting.program (object_at st.store n).head)
  sized = all_length setting.program st.store (cell_kinds setting.program (object_at st.store n).head)
      (object_at st.store n).cells (h.keeps.objects n (object_at st.store n) named)

  pub freed_small : small ≡ freed setting cell n st
  freed_small =
      freed_is setting (extra u []) (shape_of setting.program s) s.class st cell n order apart
      ∙ ap (λ m. written (record st { store = without st.store n; log = Given n (order_of_cells m) ∷ st.log }) cell Nil)
      (sym sized)

  keeps_all : Keeps setting (extra u []) (shape_of setting.program s) s.class st (freed setting cell n st)
  keeps_all =
      freed_keeps setting (extra u []) (shape_of setting.program s) s.class st cell k n
      (sound_of setting (extra u []) (shape_of setting.program s) s.class st t
      (record { counts = h.counts; main_unheld = h.keeps.main_unheld })) has no_int reads
      (ap (λ c. not (nat_eq c 1)) single) zeros

  sound_small : Sound setting (extra u []) (shape_of setting.program s) s.class small
  sound_small = subst (Sound setting (extra u []) (shape_of setting.program s) s.class) (sym freed_small)
      keeps_all.sound

  small_keeps : Kept setting statics s u [] small
  small_keeps = record {
    class_inside = h.keeps.class_inside;
    variables = t2.variables;
    objects = t2.objects;
    arrays = λ m hd q. arrays m hd q (nat_eq n m) refl;
    lives = t2.lives;
    self_is = ap (named_fits setting.program (kind.Class s.class)) (older u.self self_apart self_live)
        ∙ nil_reads.keeps.self_is;
    own_is = older u.self self_apart self_live ∙ nil_reads.keeps.own_is;
    self_held = h.keeps.self_held;
    main_extra = h.keeps.main_extra;
    main_unheld = sound_small.main_unheld;
    fresh = t2.fresh;
    placed = small_placed;
    grounded = record {
      limits = h.keeps.grounded.limits;
      room = h.keeps.grounded.room;
      main = ap (option_map head_of) (without_other cleared.store n main_name no_main)
          ∙ nil_reads.keeps.grounded.main;
    };
    callers_fit = callers_fit_on setting statics before after n blocks cleared.store small.store older u.callers
        nil_reads.keeps.callers_fit avoids;
    callers_held = h.keeps.callers_held;
    moved_fit = tt;
  }
    where
      arrays : (m : ℕ) (hd : Head) → head_named small.store m ≡ Some hd → (b : Bool) → nat_eq n m ≡ b
          → Rattle.object_codegen.specs.refine_form.Stands.HasElements hd
      arrays m hd q true e =
          let none = Rattle.object_codegen.proofs.meaning_sound_laws.Stores.without_here (2 + count_taken cleared.log)
          cleared.store n
          nil_reads.keeps.fresh in
          let z : head_named small.store n ≡ Some hd = ap (head_named small.store)
          (Rattle.std.proofs.lemmas.Bool.eqb-true n m e) ∙ q in
          let y : head_named small.store n ≡ None = ap (option_map head_of) none in
          absurd (cc)
      arrays m hd q false e = nil_reads.keeps.arrays m hd (sym
          (ap (option_map head_of) (without_other cleared.store n m
          (Rattle.object_codegen.proofs.meaning_sound_laws.Stores.differs n m e))) ∙ q)

  -- ---- the cells

  abbrev pub x : ℕ
  x = base setting statics + block

  abbrev pub mark : ℕ
  mark = head_word setting.program (object_at st.store n).head

  abbrev pub taken : List ℕ
  taken = bare setting statics s u cleared (slice_set cells place_at 0) nil_reads.keeps nil_reads.frame n live_now
      no_main unheld_now

  pub place_word : slice_index cells place_at ≡ x
  place_word =
      frame_read setting statics s u [] st cells (reads_of h) cell k has
      ∙ ap (value_word setting statics h.frame.at) reads
      ∙ ap (λ (a : Placing). base setting statics + block_of a.blocks n) at_same
    where
      at_same : h.frame.at ≡ before
      at_same = sym (same ∙ same_frame setting statics s u st cells (slice_set cells place_at 0) (reads_of h) cell Nil
          nil_reads)

  nil_cells_are : slice_set cells place_at 0 ≡ slice_set (slice_set taken x mark) (x + COUNT_WORD) 1
  nil_cells_are =
      written_over setting statics s u cleared (slice_set cells place_at 0) nil_reads.keeps nil_reads.frame n live_now
      no_main unheld_now avoids (ap (λ (o : Object). o.count) object_same ∙ single)
      (ap (λ (o : Object). all_zero o.cells) object_same ∙ zeros)
      ∙ ap (λ (o : Object). slice_set (slice_set taken x (head_word setting.program o.head)) (x + COUNT_WORD) 1)
      object_same

  -- the memory before is that of the freed state with the block taken and filled
  pub was : cells ≡ filled_words place_at x mark taken
  was =
      let one : slice_set (slice_set cells place_at 0) place_at x ≡ cells = set-set cells place_at 0 x
      ∙ ap (slice_set cells place_at) (sym place_word) ∙ set-get_or cells place_at 0 in
      sym one ∙ ap (λ z. slice_set z place_at x) nil_cells_are

  pub taken_zero : (i : ℕ) → i < HEADER_WORDS + length (object_at st.store n).cells → slice_index taken (x + i) ≡ 0
  taken_zero i l = bare_zero setting statics s u cleared (slice_set cells place_at 0) nil_reads.keeps nil_reads.frame n
      live_now no_main unheld_now avoids i (subst (λ (o : Object). i < HEADER_WORDS + length o.cells) (sym object_same)
      l)

  -- the block was taken with this order
  back : GivenBack (record {
    h = setting.limits.heap;
    base = 0;
    free = before.book;
    taken = nil_reads.keeps.placed.taken;
  }) order block
  back = given_back (record {
    h = setting.limits.heap;
    base = 0;
    free = before.book;
    taken = nil_reads.keeps.placed.taken;
  }) order block nil_reads.keeps.placed.kept
      (nil_reads.keeps.placed.orders n (object_at st.store n).head (ap (option_map head_of) object_now) no_main)

  gave : GaveOrder setting.limits.heap order block before.book
  gave = give_gave setting.limits.heap order block before.book
      (order_from_one (length (cell_kinds setting.program (object_at st.store n).head))) back.order_to
      nil_reads.keeps.placed.kept.lists nil_reads.keeps.placed.kept.sound back.aligned back.fits

  -- so it can be taken again
  pub takes_again : take after.book order ≡ Some (block, before.book)
  takes_again = gave.undone

  pub outside : (place_of setting statics before u cleared cell < x)
      ⊎ (x + (HEADER_WORDS + length (object_at cleared.store n).cells) ≤ place_of setting statics before u cleared cell)
  outside =
      cell_outside setting statics s u cleared (slice_set cells place_at 0) nil_reads.keeps nil_reads.frame n live_now
      no_main unheld_now cell k
      (kind_stays setting (extra u []) (shape_of setting.program s) s.class st cell Nil cell ∙ has) apart

  -- ---- every cell is a word, and the frame is open again

  taken_words : (a : ℕ) → slice_index taken a < 2 ^ 32
  taken_words a = by (nat_eq a x) refl (nat_eq a (x + COUNT_WORD)) refl
    where
      zero_at : (i : ℕ) → i < HEADER_WORDS + length (object_at st.store n).cells → a ≡ x + i
          → slice_index taken a < 2 ^ 32
      zero_at i l e = subst (λ z. z < 2 ^ 32) (sym (ap (slice_index taken) e ∙ taken_zero i l)) (omega arith)

      by : (b : Bool) → nat_eq a x ≡ b → (c : Bool) → nat_eq a (x + COUNT_WORD) ≡ c → slice_index taken a < 2 ^ 32
      by true e c g = zero_at 0 (omega arith) (let q = Rattle.std.proofs.lemmas.Bool.eqb-true a x e in omega (arith, q))
      by false e true g = zero_at 1 (omega arith) (Rattle.std.proofs.lemmas.Bool.eqb-true a (x + COUNT_WORD) g)
      by false e false g =
          let first = get_or-set_other (slice_set taken x mark) (x + COUNT_WORD) a 1 0
          (Rattle.object_codegen.proofs.meaning_sound_laws.Stores.differs a (x + COUNT_WORD) g) in
          let second = get_or-set_other taken x a mark 0 (Rattle.object_codegen.proofs.meaning_sound_laws.Stores.differs
          a x e) in
          subst (λ z. z < 2 ^ 32) (ap (λ z. slice_index z a) nil_cells_are ∙ first ∙ second) (nil_reads.words a)

  module _ (low : base setting statics + 2 ^ setting.limits.heap + FRAME_WORDS * setting.limits.deep ≤ 2 ^ 23) where
    pub given_words : (a : ℕ) → slice_index given a < 2 ^ 32
    given_words =
        let from = order_from_one (length (cell_kinds setting.program (object_at st.store n).head)) in
        let shown : Shown = record {
          h = setting.limits.heap;
          base = 0;
          free = before.book;
          taken = nil_reads.keeps.placed.taken;
        } in
        let own = nil_reads.keeps.placed.orders n (object_at st.store n).head (ap (option_map head_of) object_now)
        no_main in
        memory_words setting statics (record { book = before.book; blocks = without_name before.blocks n }) small.store
        after.book nil_reads.keeps.placed.taken (without_taken block nil_reads.keeps.placed.taken)
        nil_reads.keeps.placed.kept
        (give_kept shown order block nil_reads.keeps.placed.kept from own
        (gave.count ∙ nil_reads.keeps.placed.kept.lists))
        low (stack_words setting statics after u cleared.frame []) taken_words

    -- the frame is open without it
    pub gone : Stands setting statics s u [] (freed setting cell n st) given
    gone = subst (λ z. Stands setting statics s u [] z given) freed_small
        (record { frame = small_frame; keeps = small_keeps; words = given_words; counts = sound_small.counts })

    -- ---- the block that was taken

    abbrev pub low_word : ℕ
    low_word = frame_address setting statics u + (FIRST_VARIABLE + length s.vars)

    abbrev small_reads : Reads setting statics s u [] small given
    small_reads = record { frame = small_frame; keeps = small_keeps; words = given_words }

    pub at_same : before ≡ h.frame.at
    at_same = same ∙ same_frame setting statics s u st cells (slice_set cells place_at 0) (reads_of h) cell Nil
        nil_reads

    has_now : cell_kind setting.program (shape_of setting.program s) cleared.store cell ≡ Some k
    has_now = kind_stays setting (extra u []) (shape_of setting.program s) s.class st cell Nil cell ∙ has

    -- the cell in the three states
    place_now : place_of setting statics before u cleared cell ≡ place_at
    place_now = by cell ∙ ap (λ (a : Placing). place_of setting statics a u st cell) at_same
      where
        by : (c : Cell) → place_of setting statics before u (written st c Nil) c
            ≡ place_of setting statics before u st c
        by (Slot i) = ap (λ l. frame_address setting statics u + (FIRST_VARIABLE + (l - 1 - i)))
            (length_with st.frame i Nil)
        by (Part m i) = refl

    out : (place_at < x) ⊎ (x + (HEADER_WORDS + length (object_at st.store n).cells) ≤ place_at)
    out =
        subst (λ a. (a < x) ⊎ (x + (HEADER_WORDS + length (object_at st.store n).cells) ≤ a)) place_now
        (subst (λ (o : Object). (place_of setting statics before u cleared cell < x)
        ⊎ (x + (HEADER_WORDS + length o.cells) ≤ place_of setting statics before u cleared cell)) object_same outside)

    pub place_low : place_at < low_word
    place_low = let c = cell_low setting statics s u [] st cells (reads_of h) cell k has in let v =
        as_many_vars setting statics s u [] st cells (reads_of h) in omega (arith, c, v)

    pub taken_nil : slice_index taken place_at ≡ 0
    taken_nil =
        let apart_x : place_at ≢ x = λ e. ⊎_elim (λ l. omega (arith, e, l)) (λ l. omega (arith, e, l)) out in
        let apart_c : place_at ≢ x + COUNT_WORD = λ e. ⊎_elim (λ l. omega (arith, e, l)) (λ l. omega (arith, e, l)) out
        in
        sym (ap (λ z. slice_index z place_at) nil_cells_are
        ∙ get_or-set_other (slice_set taken x mark) (x + COUNT_WORD) place_at 1 0 apart_c
        ∙ get_or-set_other taken x place_at mark 0 apart_x)
        ∙ get_or-set_same cells place_at 0 0 (cell_inside setting statics s u [] st cells (reads_of h) cell k has)

    pub x_inside : x + (HEADER_WORDS + length (object_at st.store n).cells) ≤ stack_base setting statics
    x_inside = subst (λ (o : Object). x + (HEADER_WORDS + length o.cells) ≤ stack_base setting statics) object_same
        (block_inside setting statics s u cleared (slice_set cells place_at 0) nil_reads.keeps nil_reads.frame n
        live_now no_main unheld_now)

    read_now : read cleared cell ≡ Nil
    read_now = read_same setting (extra u []) (shape_of setting.program s) s.class st cell k Nil t has

    read_small : read small cell ≡ Nil
    read_small = by cell apart ∙ read_now
      where
        by : (c : Cell) → ((m i : ℕ) → c ≡ Part m i → n ≢ m) → read small c ≡ read cleared c
        by (Slot i) other = refl
        by (Part m i) other = ap (λ o. unwrap_or (slice_get (unwrap_or o no_object).cells i) Nil)
            (without_other cleared.store n m (other m i refl))

    has_small : cell_kind setting.program (shape_of setting.program s) small.store cell ≡ Some k
    has_small = by cell apart ∙ has_now
      where
        by : (c : Cell) → ((m i : ℕ) → c ≡ Part m i → n ≢ m)
            → cell_kind setting.program (shape_of setting.program s) small.store c
            ≡ cell_kind setting.program (shape_of setting.program s) cleared.store c
        by (Slot i) other = refl
        by (Part m i) other = ap (λ o. part_kind setting.program (option_map head_of o) i)
            (without_other cleared.store n m (other m i refl))

    place_small : place_of setting statics after u small cell ≡ place_at
    place_small = by cell apart ∙ place_now
      where
        by : (c : Cell) → ((m i : ℕ) → c ≡ Part m i → n ≢ m)
            → place_of setting statics after u small c ≡ place_of setting statics before u cleared c
        by (Slot i) other = refl
        by (Part m i) other = ap (λ a. a + (HEADER_WORDS + i)) (address_same setting statics before after n blocks m
            (other m i refl))

    given_nil : slice_index given place_at ≡ 0
    given_nil = ap (slice_index given) (sym place_small) ∙ frame_read setting statics s u [] small given small_reads
        cell k has_small ∙ ap (value_word setting statics after) read_small

    kept_after : IsKept (record {
      h = setting.limits.heap;
      base = 0;
      free = after.book;
      taken = without_taken block nil_reads.keeps.placed.taken;
    })
    kept_after =
        let own = nil_reads.keeps.placed.orders n (object_at st.store n).head (ap (option_map head_of) object_now)
        no_main in
        give_kept (record {
          h = setting.limits.heap;
          base = 0;
          free = before.book;
          taken = nil_reads.keeps.placed.taken;
        }) order block nil_reads.keeps.placed.kept
        (order_from_one (length (cell_kinds setting.program (object_at st.store n).head))) own
        (gave.count ∙ nil_reads.keeps.placed.kept.lists)

    pub small_before : length (before_stack setting statics after small.store) ≡ stack_base setting statics
    small_before = before_long setting statics s u [] small given small_reads

    -- the block is one of zeros, taken from what is left
    pub takes : Takes low_word (length (object_at st.store n).cells) place_at x given taken
    takes =
        let i = x_inside in
        let above_base : FIXED_CELLS + length statics ≤ base setting statics = base_above (setup setting statics) in
        let T = nil_reads.keeps.placed.taken in
        let stack = stack_words setting statics after u cleared.frame [] in
        record {
          changes = record {
            count = (memory_small setting statics after small.store before.book (without_taken block T) T kept_after
                nil_reads.keeps.placed.kept low stack).count;
            words = taken_words;
            above = λ a l. memory_above setting statics after small.store before.book (without_taken block T) T
                kept_after nil_reads.keeps.placed.kept low stack a (let b = small_before in omega (arith, b, l));
          };
          p_in = place_low;
          within = omega (arith, i);
          ends = omega (arith, i, low);
          some = λ e. omega (arith, e, above_base);
          nil_before = given_nil;
          nil = taken_nil;
          zero = λ a lo hi. subst (λ z. slice_index taken z ≡ 0) (let e : x + (a - x) ≡ a = omega (arith, lo) in e)
              (taken_zero (a - x) (omega (arith, lo, hi)));
          outside = λ a lo hi e. ⊎_elim (λ l. omega (arith, e, l, lo)) (λ l. omega (arith, e, l, hi)) out;
        }
