-- A current frame with a new object or array in its place.
use Rattle.std.proofs.Common.{◌≡◌, ◌≢◌, ◌∙◌, sym, ap, subst, refl, ℕ, ◌+◌, ◌-◌, ◌*◌, ◌^◌, ◌<◌, ◌≤◌, ◌⊎◌, ⊎_elim, Bool}
use Rattle.std.proofs.Common.{true, false, List, [], ◌∷◌, map, length, Option, Some, None, arith}
use Rattle.std.specs.Prelude.{nat_eq, nat_lt, is_none, is_some, ◌||◌, slice_index, slice_set, not, if◌then◌else◌}
use Rattle.std.specs.Option.{option_map}
use Rattle.object_codegen.specs.rpp_tree.Tree.{Source}
use Rattle.object_codegen.specs.class_rules.declared.kind.Kind.{Kind}
use Rattle.object_codegen.specs.class_rules.declared.kind.Kind.TheVariants as kind
use Rattle.object_codegen.specs.buddy_book.Place.{Placing, Taken, block_of, without_name, count_taken, place}
use Rattle.object_codegen.specs.roopl_semantics.Store.{Value, Nil, Name, Head, OfClass, Object, Store, State, main_name}
use Rattle.object_codegen.specs.roopl_semantics.Store.{is_nil}
use Rattle.object_codegen.specs.roopl_semantics.Store.{object_named, object_at, without}
use Rattle.object_codegen.specs.roopl_semantics.Value.{Cell, Slot, Part, read, written}
use Rattle.object_codegen.specs.roopl_semantics.Run.{◌>>=◌, give, fault_if}
use Rattle.object_codegen.specs.roopl_semantics.Execution.{Setting, new_object, order_of_cells, all_zero}
use Rattle.object_codegen.specs.roopl_semantics.Execution.{HEAP_FULL}
use Rattle.object_codegen.specs.roopl_semantics.Laws.{holders_among}
use Rattle.object_codegen.specs.roopl_semantics.Layout.{head_word}
use Rattle.object_codegen.proofs.roopl_semantics_laws.Orders.{order_from_one}
use Rattle.object_codegen.specs.meaning_sound.Sound.{head_of, head_named, head_fits, named_fits, is_of_kind, is_live}
use Rattle.object_codegen.specs.meaning_sound.Sound.{cell_kinds}
use Rattle.object_codegen.specs.meaning_sound.Sound.{cell_kind, AllFit, bound_value, held, Sound, Keeps, IsPlaced, Typed}
use Rattle.object_codegen.proofs.meaning_sound_laws.Stores.{here, there, same_number, other_number, live_named}
use Rattle.object_codegen.proofs.meaning_sound_laws.Cells.{sound_of}
use Rattle.object_codegen.proofs.meaning_sound_laws.Placing.{TookBlock, took_block, place_taken}
use Rattle.object_codegen.proofs.meaning_sound_laws.Objects.{all_live, clash, unheld, dead_above, bigger, bigger_typed}
use Rattle.object_codegen.proofs.meaning_sound_laws.Objects.{older_head}
use Rattle.object_codegen.proofs.meaning_sound_laws.Objects.{cell_bigger, read_bigger, allocated_keeps, not_pos}
use Rattle.object_codegen.proofs.meaning_sound_laws.Runs.{Ends}
use Rattle.object_codegen.specs.refine_form.Form.{Scope}
use Rattle.object_codegen.specs.refine_form.Frames.{CallerFrame, Under, base, stack_base, before_stack, memory, stack_words}
use Rattle.object_codegen.specs.refine_form.Frames.{address_of}
use Rattle.object_codegen.specs.refine_form.Frames.{value_word, StandsAt, OpenFrame}
use Rattle.object_codegen.specs.refine_form.Stands.{shape_of, extra, setup, HasElements, CallersFit, Kept, Reads}
use Rattle.object_codegen.specs.refine_form.Stands.{Stands}
use Rattle.refine_expressions.proofs.refine_calls_laws.Bridge.{typed, reads_of, same_at, set_words, before_long}
use Rattle.refine_expressions.proofs.refine_calls_laws.Bridge.{as_many_vars}
use Rattle.refine_expressions.proofs.refine_calls_laws.MovesFit.{frame_address, place_of, class_at, frame_read}
use Rattle.refine_expressions.proofs.refine_calls_laws.MovesFit.{cell_low}
use Rattle.std.proofs.lemmas.List.{get_or-set_other}
use Rattle.object_codegen.specs.rpp_words.declared.input.TheConstants.{FRAME_WORDS, FIXED_CELLS}
use Rattle.object_codegen.specs.code_conventions.declared.memory.TheConstants.{FIRST_VARIABLE, HEADER_WORDS, COUNT_WORD}
use Rattle.object_codegen.proofs.refine_frame_laws.Memory.{base_above}
use Rattle.refine_expressions.proofs.CellsWritten.{reads_after}
use Rattle.refine_objects.proofs.BookWords.{memory_small, memory_words, memory_above}
use Rattle.refine_objects.proofs.Placings.{placed_as}
use Rattle.refine_objects.proofs.Elsewhere.{Avoids, address_same, callers_fit_on, callers_stand_on}
use Rattle.refine_objects.proofs.MadeMemory.{bare, bare_zero, written_over, cell_outside, block_inside}
use Rattle.object_codegen.specs.News.{Takes, filled_words}
use Rattle.object_codegen.specs.buddy_book.Shown.{with_taken, IsKept}
use Rattle.object_codegen.proofs.buddy_book_laws.Orders.{take_took}
use Rattle.object_codegen.proofs.buddy_book_laws.Kept.{take_kept}

-- a name that is not live is in no frame
avoids_dead : (setting : Setting) (statics : List ℕ) (store : Store) (n : ℕ) → is_live store n ≡ false
    → (callers : List CallerFrame) → CallersFit setting statics store callers → Avoids n callers
avoids_dead setting statics store n dead [] h = tt
avoids_dead setting statics store n dead (c ∷ callers) h = (
  not_pos (holders_among n (map bound_value c.frame))
      (λ q. clash (is_live store n) (all_live setting.program store
      (map Rattle.object_codegen.specs.meaning_sound.Sound.local_type (shape_of setting.program c.scope))
      (map bound_value c.frame)
      n h.0 q) dead),
  (λ e. clash (is_live store n) (ap (is_live store) e ∙ ap is_some h.2) dead),
  avoids_dead setting statics store n dead callers h.3,
)

module _ (setting : Setting) (statics : List ℕ) (s : Scope) (u : Under) (st : State) (cells : List ℕ)
    (h : Stands setting statics s u [] st cells) (cell : Cell) (k : Kind)
    (has : cell_kind setting.program (shape_of setting.program s) st.store cell ≡ Some k) (empty : read st cell ≡ Nil)
    (head : Head) (values : List Value) (fit_head : head_fits setting.program k head ≡ true)
    (fit : (store : Store) → AllFit setting.program store (cell_kinds setting.program head) values)
    (none : (m : ℕ) → holders_among m values ≡ 0) (zeros : all_zero values ≡ true) (elements : HasElements head)
    (not_full : (nat_lt setting.limits.heap (order_of_cells (length (cell_kinds setting.program head))) || is_none
    (place setting.limits.heap (Taken (2 + count_taken st.log)
    (order_of_cells (length (cell_kinds setting.program head))) ∷ st.log))) ≡ false)
    (mark_small : head_word setting.program head < 2 ^ 32)
    (low : base setting statics + 2 ^ setting.limits.heap + FRAME_WORDS * setting.limits.deep ≤ 2 ^ 23) where
  abbrev P : Source
  P = setting.program

  abbrev r : Reads setting statics s u [] st cells
  r = reads_of h

  abbrev t : Typed setting (extra u []) (shape_of setting.program s) s.class st
  t = typed setting statics s u [] st cells (reads_of h)

  abbrev pub n : ℕ
  n = 2 + count_taken st.log

  abbrev pub order : ℕ
  order = order_of_cells (length (cell_kinds setting.program head))

  some : is_none (place setting.limits.heap (Taken n order ∷ st.log)) ≡ false
  some = second (nat_lt setting.limits.heap order) not_full
    where
      second : (a : Bool) {b : Bool} → (a || b) ≡ false → b ≡ false
      second true e = absurd (cc)
      second false e = e

  pub took : TookBlock h.keeps.placed.at order
  took = took_block setting.limits.heap n order st.log h.keeps.placed.at h.keeps.placed.placed some

  abbrev big : State
  big = bigger setting (extra u []) (shape_of setting.program s) s.class st head values

  tb : Typed setting (extra u []) (shape_of setting.program s) s.class big
  tb = bigger_typed setting (extra u []) (shape_of setting.program s) s.class st head values t fit some

  pub dead : is_live st.store n ≡ false
  dead = dead_above setting (extra u []) (shape_of setting.program s) s.class st n t (omega arith)

  older : (m : ℕ) → is_live st.store m ≡ true → head_named big.store m ≡ head_named st.store m
  older m l = older_head setting (extra u []) (shape_of setting.program s) s.class st head values m t l

  avoids : Avoids n u.callers
  avoids = avoids_dead setting statics st.store n dead u.callers h.keeps.callers_fit

  abbrev at' : Placing
  at' = record { book = took.book; blocks = (n, took.block) ∷ h.keeps.placed.at.blocks }

  pub placed_is : place setting.limits.heap big.log ≡ Some at'
  placed_is = place_taken setting.limits.heap n order st.log h.keeps.placed.at h.keeps.placed.placed took

  abbrev big_placed : IsPlaced setting big.store big.log
  big_placed = placed_as setting big.store big.log tb.placed at' placed_is

  pub blocks : (m : ℕ) → n ≢ m → block_of at'.blocks m ≡ block_of h.keeps.placed.at.blocks m
  blocks m e = ap (λ b. if b then took.block else block_of h.keeps.placed.at.blocks m) (other_number n m e)

  self_live : is_live st.store u.self ≡ true
  self_live = ap is_some h.keeps.own_is

  self_apart : n ≢ u.self
  self_apart e = clash (is_live st.store n) (ap (is_live st.store) e ∙ self_live) dead

  abbrev big_cells : List ℕ
  big_cells = memory setting statics at' big.store (stack_words setting statics at' u st.frame [])

  pub same : h.keeps.placed.at ≡ h.frame.at
  same = same_at setting statics s u [] st cells r

  abbrev big_frame : OpenFrame setting statics s u [] big big_cells
  big_frame = record {
    at = at';
    placed = placed_is;
    cells_are = refl;
    names_are = h.frame.names_are;
    self_is = h.frame.self_is;
    stands = (
      class_at big.store u.self u.class (older u.self self_live ∙ h.keeps.own_is),
      address_same setting statics h.keeps.placed.at at' n blocks u.self self_apart
          ∙ ap (λ (a : Placing). address_of setting statics a u.self) same ∙ h.frame.stands.1,
    );
    callers_stand = callers_stand_on setting statics h.keeps.placed.at at' n blocks st.store big.store
        (λ m e l. older m l) u.callers h.keeps.callers_fit avoids
        (subst (λ (a : Placing). Rattle.object_codegen.specs.refine_form.Frames.CallersStand setting statics a st.store
        u.callers)
        (sym same) h.frame.callers_stand);
    depth_is = h.frame.depth_is;
    in_depth = h.frame.in_depth;
    put_long = h.frame.put_long;
    few = h.frame.few;
    few_vals = h.frame.few_vals;
    above_fits = tt;
  }

  arrays : (m : ℕ) (hd : Head) → head_named big.store m ≡ Some hd → HasElements hd
  arrays m hd q = by (nat_eq n m) refl
    where
      by : (b : Bool) → nat_eq n m ≡ b → HasElements hd
      by true e = subst HasElements (let x : Some head ≡ Some hd = sym
          (ap (option_map head_of) (here n m (new_object head values) st.store e)) ∙ q in cc) elements
      by false e = h.keeps.arrays m hd (sym (ap (option_map head_of) (there n m (new_object head values) st.store e))
          ∙ q)

  abbrev big_keeps : Kept setting statics s u [] big
  big_keeps = record {
    class_inside = h.keeps.class_inside;
    variables = tb.variables;
    objects = tb.objects;
    arrays = arrays;
    lives = tb.lives;
    self_is = ap (named_fits setting.program (kind.Class s.class)) (older u.self self_live) ∙ h.keeps.self_is;
    own_is = older u.self self_live ∙ h.keeps.own_is;
    self_held = h.keeps.self_held;
    main_extra = h.keeps.main_extra;
    main_unheld = (let a = none main_name in let b = h.keeps.main_unheld in omega (arith, a, b));
    fresh = tb.fresh;
    placed = big_placed;
    grounded = record {
      limits = h.keeps.grounded.limits;
      room = h.keeps.grounded.room;
      main = older main_name (ap is_some h.keeps.grounded.main) ∙ h.keeps.grounded.main;
    };
    callers_fit = callers_fit_on setting statics h.keeps.placed.at at' n blocks st.store big.store (λ m e l. older m l)
        u.callers h.keeps.callers_fit avoids;
    callers_held = h.keeps.callers_held;
    moved_fit = tt;
  }

  -- ---- the cells

  abbrev pub x : ℕ
  x = base setting statics + took.block

  abbrev pub taken : List ℕ
  taken = memory setting statics (record { book = took.book; blocks = h.keeps.placed.at.blocks }) st.store
      (stack_words setting statics (record { book = took.book; blocks = h.keeps.placed.at.blocks }) u st.frame [])

  live_new : is_live big.store n ≡ true
  live_new = live_named big.store n (new_object head values)
      (here n n (new_object head values) st.store (same_number n))

  no_main : n ≢ main_name
  no_main e = omega (arith, e)

  unheld_new : held n big ≡ 0
  unheld_new = let a = none n in let b = unheld setting (extra u []) (shape_of setting.program s) s.class st n t dead in
      omega (arith, a, b)

  object_is : object_at big.store n ≡ new_object head values
  object_is = ap (λ b. Rattle.std.specs.Option.unwrap_or
      (if b then Some (new_object head values) else object_named st.store n)
      Rattle.object_codegen.specs.roopl_semantics.Store.no_object) (same_number n)

  abbrev by_test : Bool → List ℕ
  by_test b = memory setting statics (record {
    book = took.book;
    blocks = if b then h.keeps.placed.at.blocks else (n, took.block) ∷ without_name h.keeps.placed.at.blocks n;
  })
      (if b then st.store else (n, new_object head values) ∷ without st.store n)
      (stack_words setting statics (record {
        book = took.book;
        blocks = if b then h.keeps.placed.at.blocks else (n, took.block)
            ∷ without_name h.keeps.placed.at.blocks n;
      }) u st.frame [])

  bare_is : bare setting statics s u big big_cells big_keeps big_frame n live_new no_main unheld_new ≡ taken
  bare_is = ap by_test (same_number n)

  block_is : Rattle.refine_objects.proofs.MadeMemory.block setting statics s u big big_cells big_keeps big_frame n
      live_new
      no_main unheld_new ≡ x
  block_is = ap (λ b. base setting statics + (if b then took.block else block_of h.keeps.placed.at.blocks n))
      (same_number n)

  abbrev first_at : ℕ
  first_at = Rattle.refine_objects.proofs.MadeMemory.block setting statics s u big big_cells big_keeps big_frame n
      live_new
      no_main unheld_new

  pub big_is : big_cells ≡ slice_set (slice_set taken x (head_word setting.program head)) (x + COUNT_WORD) 1
  big_is =
      written_over setting statics s u big big_cells big_keeps big_frame n live_new no_main unheld_new avoids
      (ap (λ (o : Object). o.count) object_is) (ap (λ (o : Object). all_zero o.cells) object_is ∙ zeros)
      ∙ ap (λ z. slice_set (slice_set z first_at (head_word setting.program (object_at big.store n).head))
      (first_at + COUNT_WORD) 1) bare_is
      ∙ ap (λ b. slice_set (slice_set taken b (head_word setting.program (object_at big.store n).head)) (b + COUNT_WORD)
      1)
      block_is
      ∙ ap (λ (o : Object). slice_set (slice_set taken x (head_word setting.program o.head)) (x + COUNT_WORD) 1)
      object_is

  pub taken_zero : (i : ℕ) → i < HEADER_WORDS + length values → slice_index taken (x + i) ≡ 0
  taken_zero i l =
      ap (λ z. slice_index z (x + i)) (sym bare_is) ∙ ap (λ b. slice_index
      (bare setting statics s u big big_cells big_keeps big_frame n live_new no_main unheld_new) (b + i))
      (sym block_is)
      ∙ bare_zero setting statics s u big big_cells big_keeps big_frame n live_new no_main unheld_new avoids i
      (subst (λ (o : Object). i < HEADER_WORDS + length o.cells) (sym object_is) l)

  -- ---- the state after it

  abbrev pub place_at : ℕ
  place_at = place_of setting statics h.keeps.placed.at u st cell

  kept_after : IsKept (record {
    h = setting.limits.heap;
    base = 0;
    free = took.book;
    taken = with_taken took.block order h.keeps.placed.taken;
  })
  kept_after =
      let from = order_from_one (length (cell_kinds setting.program head)) in
      take_kept (record {
        h = setting.limits.heap;
        base = 0;
        free = h.keeps.placed.at.book;
        taken = h.keeps.placed.taken;
      }) order took.block took.book h.keeps.placed.kept from took.is
      ((take_took setting.limits.heap order took.block h.keeps.placed.at.book took.book from
      h.keeps.placed.kept.sound took.is).count ∙ h.keeps.placed.kept.lists)

  -- the memory with the block taken
  pub taken_words : (a : ℕ) → slice_index taken a < 2 ^ 32
  taken_words =
      memory_words setting statics h.keeps.placed.at st.store took.book h.keeps.placed.taken
      (with_taken took.block order h.keeps.placed.taken) h.keeps.placed.kept
      kept_after
      low (stack_words setting statics h.keeps.placed.at u st.frame [])
      (λ a. subst (λ z. slice_index z a < 2 ^ 32) (h.frame.cells_are
      ∙ ap (λ (b : Placing). memory setting statics b st.store (stack_words setting statics b u st.frame []))
      (sym same)) (h.words a))

  pub took_fits : took.block + 2 ^ order ≤ 2 ^ setting.limits.heap
  took_fits = (take_took setting.limits.heap order took.block h.keeps.placed.at.book took.book
      (order_from_one (length (cell_kinds setting.program head))) h.keeps.placed.kept.sound took.is).fits

  x_small : x < 2 ^ 32
  x_small = let f = took_fits in omega (arith, f, low)

  abbrev big_reads : Reads setting statics s u [] big big_cells
  big_reads = record {
    frame = big_frame;
    keeps = big_keeps;
    words = λ a. subst (λ z. slice_index z a < 2 ^ 32) (sym big_is)
        (set_words (slice_set taken x (head_word setting.program head)) (x + COUNT_WORD) 1
        (set_words taken x (head_word setting.program head) taken_words mark_small) (omega arith) a);
  }

  abbrev pub made_state : State
  made_state = written big cell (Name n)

  has_big : cell_kind setting.program (shape_of setting.program s) big.store cell ≡ Some k
  has_big = cell_bigger setting (extra u []) (shape_of setting.program s) s.class st head values cell k t has

  fits_name : is_of_kind setting.program big.store (Name n) k ≡ true
  fits_name = ap (λ o. named_fits setting.program k (option_map head_of o))
      (here n n (new_object head values) st.store (same_number n)) ∙ fit_head

  pub place_same : place_of setting statics at' u big cell ≡ place_at
  place_same = by cell has
    where
      live : (o : Option Head) (i : ℕ) → Rattle.object_codegen.specs.meaning_sound.Sound.part_kind setting.program o i
          ≡ Some k
          → is_some o ≡ true
      live None i q = absurd (cc)
      live (Some hd) i q = refl

      by : (c : Cell) → cell_kind setting.program (shape_of setting.program s) st.store c ≡ Some k
          → place_of setting statics at' u big c ≡ place_of setting statics h.keeps.placed.at u st c
      by (Slot i) q = refl
      by (Part m i) q = ap (λ a. a + (HEADER_WORDS + i)) (address_same setting statics h.keeps.placed.at at' n blocks m
          (λ e. clash (is_live st.store n) (ap (is_live st.store) e ∙ live (head_named st.store m) i q) dead))

  pub name_word : value_word setting statics at' (Name n) ≡ x
  name_word = ap (λ b. base setting statics + (if b then took.block else block_of h.keeps.placed.at.blocks n))
      (same_number n)

  made_reads : Reads setting statics s u [] made_state (slice_set big_cells (place_of setting statics at' u big cell)
      (value_word setting statics at' (Name n)))
  made_reads = reads_after setting statics s u big big_cells big_reads cell k has_big (Name n) fits_name
      (ap (λ b. if b then 1 else 0) (other_number n main_name no_main))
      (subst (λ z. z < 2 ^ 32) (sym name_word) x_small)

  keeps_all : Keeps setting (extra u []) (shape_of setting.program s) s.class st made_state
  keeps_all =
      subst (λ b. Ends (Keeps setting (extra u []) (shape_of setting.program s) s.class st)
      (fault_if HEAP_FULL b >>= λ _. give made_state)) not_full
      (allocated_keeps setting (extra u []) (shape_of setting.program s) s.class st head values
      (length (cell_kinds setting.program head)) cell k refl
      (sound_of setting (extra u []) (shape_of setting.program s) s.class st t
      (record { counts = h.counts; main_unheld = h.keeps.main_unheld })) has (ap (λ v. not (is_nil v)) empty)
      fit_head fit none)

  made_cells_are : slice_set big_cells (place_of setting statics at' u big cell)
      (value_word setting statics at' (Name n)) ≡ filled_words place_at x (head_word setting.program head) taken
  made_cells_are =
      ap (λ a. slice_set big_cells a (value_word setting statics at' (Name n))) place_same
      ∙ ap (λ w. slice_set big_cells place_at w) name_word
      ∙ ap (λ z. slice_set z place_at x) big_is

  -- the frame is open, with the object in the place
  pub made : Stands setting statics s u [] made_state (filled_words place_at x (head_word setting.program head) taken)
  made = subst (Stands setting statics s u [] made_state) made_cells_are
      (record {
        frame = made_reads.frame;
        keeps = made_reads.keeps;
        words = made_reads.words;
        counts = keeps_all.sound.counts;
      })

  -- the lvalue is outside the block
  pub made_outside : (place_at < x) ⊎ (x + (HEADER_WORDS + length values) ≤ place_at)
  made_outside =
      let c = cell_outside setting statics s u big big_cells big_keeps big_frame n live_new no_main unheld_new cell k
      has_big (λ m i e q. clash (is_live st.store n) (live_part m i
      (subst (λ z. cell_kind setting.program (shape_of setting.program s) st.store z ≡ Some k) e has) q) dead)
      in
      subst (λ a. (a < x) ⊎ (x + (HEADER_WORDS + length values) ≤ a)) place_same
      (subst (λ l. (place_of setting statics at' u big cell < x)
      ⊎ (x + (HEADER_WORDS + l) ≤ place_of setting statics at' u big cell))
      (ap (λ (o : Object). length o.cells) object_is)
      (subst (λ y. (place_of setting statics at' u big cell < y)
      ⊎ (y + (HEADER_WORDS + length (object_at big.store n).cells) ≤ place_of setting statics at' u big cell)) block_is
      c))
    where
      live_part : (m i : ℕ) → cell_kind setting.program (shape_of setting.program s) st.store (Part m i) ≡ Some k
          → n ≡ m → is_live st.store n ≡ true
      live_part m i q e = ap (is_live st.store) e ∙ live (head_named st.store m) q
        where
          live : (o : Option Head) → Rattle.object_codegen.specs.meaning_sound.Sound.part_kind setting.program o i
              ≡ Some k
              → is_some o ≡ true
          live None z = absurd (cc)
          live (Some hd) z = refl

  -- ---- the block that is taken

  abbrev pub low_word : ℕ
  low_word = frame_address setting statics u + (FIRST_VARIABLE + length s.vars)

  cells_now : cells ≡ memory setting statics h.keeps.placed.at st.store
      (stack_words setting statics h.keeps.placed.at u st.frame [])
  cells_now = h.frame.cells_are ∙ ap (λ (b : Placing). memory setting statics b st.store
      (stack_words setting statics b u st.frame [])) (sym same)

  pub before_is : length (before_stack setting statics h.keeps.placed.at st.store) ≡ stack_base setting statics
  before_is = subst (λ (a : Placing). length (before_stack setting statics a st.store) ≡ stack_base setting statics)
      (sym same) (before_long setting statics s u [] st cells r)

  pub place_low : place_at < low_word
  place_low = subst (λ (b : Placing). place_of setting statics b u st cell < low_word) (sym same)
      (let c = cell_low setting statics s u [] st cells r cell k has in
      let v = as_many_vars setting statics s u [] st cells r in omega (arith, c, v))

  pub x_inside : x + (HEADER_WORDS + length values) ≤ stack_base setting statics
  x_inside =
      subst (λ y. y + (HEADER_WORDS + length values) ≤ stack_base setting statics) block_is
      (subst (λ l. Rattle.refine_objects.proofs.MadeMemory.block setting statics s u big big_cells big_keeps big_frame n
      live_new no_main unheld_new + (HEADER_WORDS + l) ≤ stack_base setting statics)
      (ap (λ (o : Object). length o.cells) object_is)
      (block_inside setting statics s u big big_cells big_keeps big_frame n live_new no_main unheld_new))

  place_nil : slice_index cells place_at ≡ 0
  place_nil = subst (λ (b : Placing). slice_index cells (place_of setting statics b u st cell) ≡ 0) (sym same)
      (frame_read setting statics s u [] st cells r cell k has ∙ ap (value_word setting statics h.frame.at) empty)

  taken_nil : slice_index taken place_at ≡ 0
  taken_nil =
      let out = made_outside in
      let apart : place_at ≢ x = λ e. ⊎_elim (λ l. omega (arith, e, l)) (λ l. omega (arith, e, l)) out in
      let apart' : place_at ≢ x + COUNT_WORD = λ e. ⊎_elim (λ l. omega (arith, e, l)) (λ l. omega (arith, e, l)) out in
      let m = head_word setting.program head in
      let was : slice_index big_cells place_at ≡ 0 =
      ap (slice_index big_cells) (sym place_same) ∙ frame_read setting statics s u [] big big_cells big_reads cell k
      has_big
      ∙ ap (value_word setting statics at') (read_bigger setting (extra u []) (shape_of setting.program s) s.class st
      head values cell k t has ∙ empty) in
      sym (ap (λ z. slice_index z place_at) big_is ∙ get_or-set_other (slice_set taken x m) (x + COUNT_WORD) place_at 1
      0 apart'
      ∙ get_or-set_other taken x place_at m 0 apart) ∙ was

  pub takes : Takes low_word (length values) place_at x cells taken
  takes =
      let i = x_inside in
      let above_base : FIXED_CELLS + length statics ≤ base setting statics = base_above (setup setting statics) in
      record {
        changes = record {
          count = (memory_small setting statics h.keeps.placed.at st.store took.book h.keeps.placed.taken
              (with_taken took.block order h.keeps.placed.taken) h.keeps.placed.kept kept_after low
              (stack_words setting statics h.keeps.placed.at u st.frame [])).count
              ∙ sym (ap (length {A = ℕ}) cells_now);
          words = taken_words;
          above = λ a l. memory_above setting statics h.keeps.placed.at st.store took.book h.keeps.placed.taken
              (with_taken took.block order h.keeps.placed.taken) h.keeps.placed.kept kept_after low
              (stack_words setting statics h.keeps.placed.at u st.frame []) a (let b = before_is in omega (arith, b, l))
              ∙ sym (ap (λ z. slice_index z a) cells_now);
        };
        p_in = place_low;
        within = omega (arith, i);
        ends = omega (arith, i, low);
        some = λ e. omega (arith, e, above_base);
        nil_before = place_nil;
        nil = taken_nil;
        zero = λ a lo hi. subst (λ z. slice_index taken z ≡ 0) (let e : x + (a - x) ≡ a = omega (arith, lo) in e)
            (taken_zero (a - x) (omega (arith, lo, hi)));
        outside = λ a lo hi e. ⊎_elim (λ l. omega (arith, e, l, lo)) (λ l. omega (arith, e, l, hi)) made_outside;
      }
