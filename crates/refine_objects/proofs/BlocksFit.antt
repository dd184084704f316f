-- A current frame whose place gets a block of the heap, or gives one back: what the code of `new`
-- and `delete` asks of the memory.
use Rattle.std.proofs.Common.{◌≡◌, ◌≢◌, ◌∙◌, sym, ap, subst, refl, ℕ, zero, suc, ◌+◌, ◌*◌, ◌^◌, ◌<◌, ◌≤◌, Bool, true}
use Rattle.std.proofs.Common.{false, List, [], ◌∷◌, length, Option, Some, None, arith, length-set}
use Rattle.std.proofs.lemmas.Bool.{ltb-true}
use Rattle.std.proofs.lemmas.List.{get_or-set_other}
use Rattle.std.specs.Prelude.{nat_eq, nat_lt, nat_le, is_none, ◌||◌, ◌&&◌, slice_get, slice_index, slice_set}
use Rattle.std.specs.Prelude.{if◌then◌else◌}
use Rattle.std.specs.Option.{option_map, unwrap_or}
use Rattle.object_codegen.specs.rpp_words.declared.input.TheConstants.{FRAME_WORDS, FIXED_CELLS}
use Rattle.object_codegen.specs.code_conventions.declared.memory.TheConstants.{FIRST_VARIABLE, HEADER_WORDS, COUNT_WORD}
use Rattle.object_codegen.specs.pisa_isa.Machine.{Memory}
use Rattle.object_codegen.specs.rpp_tree.declared.tree.Ident.{Ident}
use Rattle.object_codegen.specs.rpp_tree.Tree.{Source}
use Rattle.object_codegen.specs.class_rules.declared.kind.Kind.{Kind}
use Rattle.object_codegen.specs.class_rules.Expressions.{is_int}
use Rattle.object_codegen.specs.buddy_book.Book.{take, order_from, order_for}
use Rattle.object_codegen.specs.buddy_book.Place.{Placing, block_of, count_taken, place}
use Rattle.object_codegen.specs.buddy_pisa.Promise.{most_steps}
use Rattle.object_codegen.specs.pisa_isa.Loaded.{statics_at}
use Rattle.object_codegen.specs.roopl_semantics.Store.{Value, Word, Nil, Name, Head, Store, State, main_name, is_zero}
use Rattle.object_codegen.specs.roopl_semantics.Store.{object_named}
use Rattle.object_codegen.specs.roopl_semantics.Store.{object_at}
use Rattle.object_codegen.specs.roopl_semantics.Value.{Cell, Part, read, written}
use Rattle.object_codegen.specs.roopl_semantics.Layout.{no_placing, head_word}
use Rattle.object_codegen.specs.roopl_semantics.Laws.{holders_among}
use Rattle.object_codegen.specs.roopl_semantics.Execution.{order_of_cells, all_zero, freed}
use Rattle.object_codegen.proofs.roopl_semantics_laws.Orders.{order_from_one}
use Rattle.object_codegen.specs.meaning_sound.Sound.{head_of, head_fits, is_live, cell_kinds, cell_kind, part_kind}
use Rattle.object_codegen.specs.meaning_sound.Sound.{AllFit, Typed}
use Rattle.object_codegen.proofs.meaning_sound_laws.Classes.{KnowsClasses}
use Rattle.object_codegen.proofs.meaning_sound_laws.Lists.{all_length}
use Rattle.object_codegen.proofs.meaning_sound_laws.Objects.{bigger, clash}
use Rattle.object_codegen.proofs.meaning_sound_laws.Regions.{region_inside}
use Rattle.object_codegen.proofs.meaning_sound_laws.Removal.{smaller}
use Rattle.object_codegen.proofs.meaning_sound_laws.Stores.{other_number, live_named, live_object}
use Rattle.object_codegen.proofs.meaning_sound_laws.Writes.{written_log}
use Rattle.refine_expressions.proofs.meaning_inverse_laws.Calls.{live_read}
use Rattle.refine_expressions.proofs.meaning_inverse_laws.Drawn.{gone_none}
use Rattle.refine_expressions.proofs.meaning_inverse_laws.Ground.{IsLive}
use Rattle.refine_expressions.proofs.meaning_inverse_laws.Known.{are_live, drawn_of}
use Rattle.object_codegen.proofs.refine_frame_laws.Memory.{base_above}
use Rattle.object_codegen.proofs.refine_frame_laws.Tells.{IsRef, cells_small, reference_cell, read_head}
use Rattle.object_codegen.specs.refine_frame.Open.{IsGrounded}
use Rattle.object_codegen.specs.refine_form.Form.{Scope}
use Rattle.object_codegen.specs.refine_form.Frames.{Under, base, stack_base, before_stack, memory, stack_words}
use Rattle.object_codegen.specs.refine_form.Frames.{address_of}
use Rattle.object_codegen.specs.refine_form.Frames.{value_word}
use Rattle.object_codegen.specs.refine_form.Stands.{shape_of, extra, setup, HasElements, Reads, Stands}
use Rattle.object_codegen.specs.refine_form.Worlds.{Place}
use Rattle.object_codegen.specs.refine_form.declared.spot.Spot.{Spot}
use Rattle.object_codegen.specs.expr_uncompute.Found.{Changes}
use Rattle.object_codegen.specs.expr_uncompute.Means.{shown, cell_address}
use Rattle.object_codegen.specs.expr_uncompute.Promises.{free_at}
use Rattle.refine_expressions.specs.refine_calls.Laws.{IsLinked}
use Rattle.refine_expressions.proofs.refine_calls_laws.Bridge.{same_at, typed, reads_of, before_long, as_many_vars}
use Rattle.refine_expressions.proofs.refine_calls_laws.FramePlaces.{frame_small, object_small}
use Rattle.refine_expressions.proofs.refine_calls_laws.MovesFit.{frame_address, frame_long, place_of, cell_low}
use Rattle.refine_expressions.specs.Typing.{visible_spot, free_in_scope}
use Rattle.refine_expressions.proofs.FrameReads.{memory_is}
use Rattle.refine_expressions.proofs.FramesWritten.{A, L, R, known, address_is, place_is, cell_holds}
use Rattle.refine_expressions.proofs.WordsRead.{shown_read}
use Rattle.object_codegen.specs.declared.shape.Shape.{Shape}
use Rattle.object_codegen.specs.Code.{mark_of, block_size_of}
use Rattle.object_codegen.specs.News.{Allocates, Lacks, Takes, filled_words}
use Rattle.object_codegen.proofs.CopyRows.{Refers}
use Rattle.object_codegen.proofs.MakeFacts.{made, log_with, is_full, length_at, is_empty, KeepsNames, StandsThere}
use Rattle.object_codegen.proofs.MakeFacts.{TakesBlock, GivesBlock}
use Rattle.object_codegen.proofs.OverLayout.{IsLeft}
use Rattle.refine_objects.proofs.Allocating.{allocated, lacking, none_there, none_above}
use Rattle.refine_objects.proofs.Elsewhere.{address_same}
use Rattle.refine_objects.proofs.Placings.{placed_as}
use Rattle.refine_objects.proofs.FreedFrames as gone
use Rattle.refine_objects.proofs.MadeFrames as news
use Rattle.refine_objects.proofs.CountPlaces.{IsRefers, at_block, above_nil, count_word}
use Rattle.refine_objects.proofs.GoodFrames.{sound, context}

-- a list with an element at a place
record Element (ks : List Kind) (i : ℕ) : Type 0 where
  kind : Kind
  is : slice_get ks i ≡ Some kind

element : (ks : List Kind) (i : ℕ) → i < length ks → Element ks i
element [] i h = absurd (omega arith)
element (k ∷ ks) zero h = record { kind = k; is = refl }
element (k ∷ ks) (suc i) h = let e = element ks i (omega arith) in record { kind = e.kind; is = e.is }

-- if not all values are zeros, one is none
record NotZero (vs : List Value) : Type 0 where
  at : ℕ
  inside : at < length vs
  some : is_zero (unwrap_or (slice_get vs at) Nil) ≡ false

not_zero : (vs : List Value) → all_zero vs ≡ false → NotZero vs
not_zero [] h = absurd (cc)
not_zero (v ∷ vs) h = by (λ q. not_zero vs q) (is_zero v) refl
  where
    by : (all_zero vs ≡ false → NotZero vs) → (b : Bool) → is_zero v ≡ b → NotZero (v ∷ vs)
    by rest false e = record { at = 0; inside = omega arith; some = e }
    by rest true e = let r = rest (sym (ap (λ b. b && all_zero vs) e) ∙ h) in let l = r.inside in
        record { at = suc r.at; inside = omega arith; some = r.some }

-- every order is a word
order_most : (tries k words : ℕ) → order_from tries k words ≤ tries + k
order_most zero k words = omega arith
order_most (suc tries) k words = by (order_most tries (suc k) words) (nat_le words (2 ^ k))
  where
    by : order_from tries (suc k) words ≤ tries + suc k → (b : Bool)
        → (if b then k else order_from tries (suc k) words) ≤ suc tries + k
    by rest true = omega arith
    by rest false = omega arith

pub order_word : (words : ℕ) → order_for words < 2 ^ 32
order_word words = let l = order_most 31 1 words in omega arith

module _ (p : Place) (routine : ℕ → Ident → ℕ) (linked : IsLinked p routine) (classes : KnowsClasses p.setting.program)
    (s : Scope) (u : Under) where
  abbrev P : Source
  P = p.setting.program

  abbrev Ad : State → ℕ → ℕ
  Ad = A p classes s u

  abbrev Sl : State → ℕ → ℕ
  Sl = L p classes s u

  abbrev Rel : State → Memory → Type 0
  Rel = R p classes s u

  abbrev spot : List ℕ → Spot
  spot = visible_spot P s

  abbrev free : ℕ
  free = free_in_scope P s

  abbrev F : ℕ
  F = frame_address p.setting p.statics u

  module _ (st : State) (m : Memory) (r : Rel st m) where
    abbrev h : Stands p.setting p.statics s u [] st m.cells
    h = r.open_frame

    abbrev rd : Reads p.setting p.statics s u [] st m.cells
    rd = reads_of r.open_frame

    abbrev t : Typed p.setting (extra u []) (shape_of P s) s.class st
    t = typed p.setting p.statics s u [] st m.cells (reads_of r.open_frame)

    abbrev low : ℕ
    low = F + (FIRST_VARIABLE + length s.vars)

    low_is : free_at free m ≡ low
    low_is = ap (free_at free) (known p classes s u st m r)

    small : base p.setting p.statics + 2 ^ p.setting.limits.heap + FRAME_WORDS * p.setting.limits.deep ≤ 2 ^ 23
    small = cells_small (setup p.setting p.statics) h.keeps.grounded.limits linked.routed.few

    same : h.keeps.placed.at ≡ h.frame.at
    same = same_at p.setting p.statics s u [] st m.cells rd

    address : (n : ℕ) → address_of p.setting p.statics h.keeps.placed.at n ≡ Ad st n
    address n = ap (λ (a : Placing). address_of p.setting p.statics a n) same
        ∙ sym (address_is p classes s u st m.cells rd n)

    cell_at : (c : Cell) → place_of p.setting p.statics h.keeps.placed.at u st c ≡ cell_address (Ad st) (Sl st) c
    cell_at c = ap (λ (a : Placing). place_of p.setting p.statics a u st c) same
        ∙ place_is p classes s u st m.cells rd c

    live_of : (c : Cell) (n : ℕ) → read st c ≡ Name n → IsLive st.store n
    live_of c n e = live_read st c n (are_live p.setting classes
        (context p.setting p.statics linked.routed.few s h.keeps.class_inside u st m.cells h) st t) e

    abbrev words : List ℕ
    words = stack_words p.setting p.statics h.keeps.placed.at u st.frame []

    cells_now : m.cells ≡ memory p.setting p.statics h.keeps.placed.at st.store words
    cells_now = h.frame.cells_are ∙ ap (λ (b : Placing). memory p.setting p.statics b st.store
        (stack_words p.setting p.statics b u st.frame [])) (sym same)

    before_low : length (before_stack p.setting p.statics h.keeps.placed.at st.store) ≤ low
    before_low =
        let e : length (before_stack p.setting p.statics h.keeps.placed.at st.store) ≡ stack_base p.setting p.statics =
        subst (λ (a : Placing). length (before_stack p.setting p.statics a st.store) ≡ stack_base p.setting p.statics)
        (sym same) (before_long p.setting p.statics s u [] st m.cells rd) in
        omega (arith, e)

    low_in : low ≤ length m.cells
    low_in =
        let l = frame_long p.setting p.statics s u [] st m.cells rd in
        let v = as_many_vars p.setting p.statics s u [] st m.cells rd in
        let d = h.frame.depth_is in
        let i = h.frame.in_depth in
        let f = h.frame.few in
        omega (arith, l, v, d, i, f)

    frame_word : F < 2 ^ 32
    frame_word = let f = frame_small p.setting p.statics linked.routed.few s u [] st m.cells h in omega (arith, f)

    object_word : u.object < 2 ^ 32
    object_word = let f = object_small p.setting p.statics linked.routed.few s u [] st m.cells h in omega (arith, f)

    -- ---- cells, and what they name

    module _ (c : Cell) (k : Kind) (has : cell_kind P (shape_of P s) st.store c ≡ Some k) where
      pub refers_by : is_int k ≡ false → Refers (Ad st) (read st c)
      refers_by no_int = by (read st c) refl (reference_cell (setup p.setting p.statics) (extra u []) (shape_of P s)
          s.class st t h.keeps.main_unheld c k has no_int)
        where
          by : (v : Value) → read st c ≡ v → IsRef (setup p.setting p.statics) (extra u []) (shape_of P s) s.class st t
              h.keeps.main_unheld v → Refers (Ad st) v
          by (Word w) e f = absurd f
          by Nil e f = tt
          by (Name n) e f = λ z. above_nil p.setting p.statics s u st m.cells rd n f (address n ∙ z)

      pub word_by : slice_index m.cells (cell_address (Ad st) (Sl st) c) ≡ shown (Ad st) (Sl st) (read st c)
      word_by =
          cell_holds p classes s u st m.cells rd c k has
          ∙ ap (λ (a : Placing). value_word p.setting p.statics a (read st c)) (sym same)
          ∙ shown_read p.setting p.statics classes s u st m.cells rd c k has

    module _ (name : ℕ) (f : IsRefers p.setting p.statics s u st m.cells rd name) where
      abbrev head : Head
      head = (object_at st.store name).head

      abbrev named : object_named st.store name ≡ Some (object_at st.store name)
      named = live_object st.store name f.live

      pub sized : length_at st name ≡ length (cell_kinds P (object_at st.store name).head)
      sized = all_length P st.store (cell_kinds P (object_at st.store name).head) (object_at st.store name).cells
          (h.keeps.objects name (object_at st.store name) (live_object st.store name f.live))

      pub object_inside : Ad st name + HEADER_WORDS + length_at st name ≤ stack_base p.setting p.statics
      object_inside =
          let i = region_inside p.setting st.store st.log h.keeps.placed name (object_at st.store name).head
          (ap (option_map head_of) (live_object st.store name f.live)) f.no_main in
          let b = at_block p.setting p.statics s u st m.cells rd name f in
          let a = address name in
          let l = sized in
          omega (arith, i, b, a, l)

      full : is_empty st name ≡ false → (i : ℕ) × (i < length_at st name)
          × (slice_index m.cells (Ad st name + HEADER_WORDS + i) ≢ 0)
      full some =
          let z = not_zero (object_at st.store name).cells some in
          let l = sized in
          let low_i = z.inside in
          let k = element (cell_kinds P (object_at st.store name).head) z.at (omega (arith, l, low_i)) in
          let has : cell_kind P (shape_of P s) st.store (Part name z.at) ≡ Some k.kind =
          ap (λ o. part_kind P o z.at) (ap (option_map head_of) (live_object st.store name f.live)) ∙ k.is in
          let holds = cell_holds p classes s u st m.cells rd (Part name z.at) k.kind has in
          let e : Ad st name + HEADER_WORDS + z.at ≡ Ad st name + z.at + HEADER_WORDS = omega arith in (
            z.at,
            z.inside,
            λ q. no_zero (read st (Part name z.at)) z.some
                (sym holds ∙ ap (slice_index m.cells) (sym e) ∙ q),
          )
        where
          no_zero : (v : Value) → is_zero v ≡ false → value_word p.setting p.statics h.frame.at v ≡ 0 → ⊥
          no_zero (Word w) e q = clash (nat_eq w 0) (ap (λ x. nat_eq x 0) q) e
          no_zero Nil e q = cc
          no_zero (Name n) e q = let b : FIXED_CELLS + length p.statics ≤ base p.setting p.statics =
              base_above (setup p.setting p.statics) in omega (arith, b, q)

      pub stands_there : StandsThere p.setting Ad Sl Rel spot free u.object F p.im st m name
      stands_there =
          let i = object_inside in
          let l = low_is in
          let w = small in
          record {
            inside = omega (arith, i, l);
            small = omega (arith, i, w);
            count = ap (λ a. slice_index m.cells (a + COUNT_WORD)) (sym (address name))
                ∙ count_word p.setting p.statics s u st m.cells rd name f;
            full = full;
          }

      pub head_word_is : slice_index m.cells (Ad st name) ≡ head_word P (object_at st.store name).head
      head_word_is =
          ap (slice_index m.cells) (sym (address name))
          ∙ ap (λ z. slice_index z (address_of p.setting p.statics h.keeps.placed.at name))
          (memory_is p.setting p.statics s u st m.cells rd)
          ∙ read_head (setup p.setting p.statics) (extra u []) (shape_of P s) s.class st t h.keeps.main_unheld
          h.keeps.grounded (stack_words p.setting p.statics h.keeps.placed.at u st.frame []) name f.live

    -- ---- a block is taken

    module _ (cell : Cell) (k : Kind) (has : cell_kind P (shape_of P s) st.store cell ≡ Some k) where
      abbrev at : ℕ
      at = cell_address (Ad st) (Sl st) cell

      at_low : at < low
      at_low = subst (λ a. a < low) (cell_at cell) (subst (λ (b : Placing). place_of p.setting p.statics b u st cell <
          low) (sym same) (let c = cell_low p.setting p.statics s u [] st m.cells rd cell k has in
          let v = as_many_vars p.setting p.statics s u [] st m.cells rd in omega (arith, c, v)))

      at_word : at < 2 ^ 32
      at_word = let a = at_low in let l = low_in in let c = frame_long p.setting p.statics s u [] st m.cells rd in
          let w = small in omega (arith, a, l, c, w)

      -- no block is there
      pub lacks_block : (size v n : ℕ) (shape : Shape) → v < 2 ^ 32 → order_of_cells size < 2 ^ 32 → IsLeft v shape
          → is_full p.setting size st ≡ true
          → Lacks p.im u.object F (order_of_cells size) at v shape (free_at free m) n
          (most_steps p.setting.limits.heap + 7) m.cells
      lacks_block size v n shape v_small order_small left is =
          subst (λ a. Lacks p.im u.object F (order_of_cells size) at v shape a n (most_steps p.setting.limits.heap + 7)
          m.cells) (sym low_is)
          (subst (λ z. Lacks p.im u.object F (order_of_cells size) at v shape low n
          (most_steps p.setting.limits.heap + 7) z) (sym cells_now)
          (lacking p routine linked (extra u []) (shape_of P s) s.class st t h.keeps.grounded (order_of_cells size)
          (order_from_one size) u.object F at v shape object_word frame_word order_small at_word v_small left low
          n words before_low
          (subst (λ z. low ≤ length z) cells_now low_in) none))
        where
          none : take h.keeps.placed.at.book (order_of_cells size) ≡ None
          none = by (nat_lt p.setting.limits.heap (order_of_cells size)) refl is
            where
              by : (b : Bool) → nat_lt p.setting.limits.heap (order_of_cells size) ≡ b
                  → (b || is_none (place p.setting.limits.heap (log_with size st))) ≡ true
                  → take h.keeps.placed.at.book (order_of_cells size) ≡ None
              by true e q = none_above p routine linked (extra u []) (shape_of P s) s.class st t h.keeps.grounded
                  (order_of_cells size) (ltb-true p.setting.limits.heap (order_of_cells size) e)
              by false e q = none_there p routine linked (extra u []) (shape_of P s) s.class st t h.keeps.grounded
                  (2 + count_taken st.log) (order_of_cells size) q

      module _ (empty : read st cell ≡ Nil) (head : Head) (values : List Value) (fit_head : head_fits P k head ≡ true)
          (fit : (store : Store) → AllFit P store (cell_kinds P head) values)
          (none : (m : ℕ) → holders_among m values ≡ 0) (zeros : all_zero values ≡ true) (elements : HasElements head)
          (not_full : is_full p.setting (length (cell_kinds P head)) st ≡ false)
          (mark_small : head_word P head < 2 ^ 32) where
        abbrev big : State
        big = bigger p.setting (extra u []) (shape_of P s) s.class st head values

        abbrev n0 : ℕ
        n0 = 2 + count_taken st.log

        abbrev later : State
        later = made (length (cell_kinds P head)) head values cell st

        abbrev at2 : Placing
        at2 = record {
          book = (news.took p.setting p.statics s u st m.cells h cell k has empty head values fit_head fit
              none zeros elements not_full mark_small small).book;
          blocks = (
            n0,
            (news.took p.setting p.statics s u st m.cells h cell k has empty head values fit_head fit
                none zeros elements not_full mark_small small).block,
          ) ∷ h.keeps.placed.at.blocks;
        }

        taken_keeps : KeepsNames p.setting Ad Sl Rel spot free u.object F p.im st later
        taken_keeps a a' n ea ea' =
            let live = live_of a n ea in
            let apart : n0 ≢ n = λ e. clash (is_live st.store n0)
            (ap (is_live st.store) e ∙ live_named st.store n live.object live.there)
            (news.dead p.setting p.statics s u st m.cells h cell k has empty head values fit_head fit none zeros
            elements not_full mark_small small) in
            ap (λ o. address_of p.setting p.statics (unwrap_or o no_placing) n)
            (ap (place p.setting.limits.heap) (written_log big cell (Name n0))
            ∙ news.placed_is p.setting p.statics s u st m.cells h cell k has empty head values fit_head fit none
            zeros elements not_full mark_small small)
            ∙ address_same p.setting p.statics h.keeps.placed.at at2 n0
            (news.blocks p.setting p.statics s u st m.cells h cell k has empty head values fit_head fit none zeros
            elements not_full mark_small small) n apart
            ∙ address n

        taken_allocates : (v : ℕ) (shape : Shape) (n : ℕ) → v < 2 ^ 32
            → order_of_cells (length (cell_kinds P head)) < 2 ^ 32 → IsLeft v shape
            → Allocates p.im u.object F (order_of_cells (length (cell_kinds P head)))
            (news.x p.setting p.statics s u st m.cells h cell k has empty head values fit_head fit none zeros
            elements not_full mark_small small) at v shape (free_at free m) n (p.setting.limits.heap + 1)
            (most_steps p.setting.limits.heap + 7) m.cells (news.taken p.setting p.statics s u st m.cells h cell k
            has empty head values fit_head fit none zeros elements not_full mark_small small)
        taken_allocates v shape n v_small order_small left =
            subst (λ a. Allocates p.im u.object F (order_of_cells (length (cell_kinds P head)))
            (news.x p.setting p.statics s u st m.cells h cell k has empty head values fit_head fit none zeros
            elements not_full mark_small small) at v shape a n (p.setting.limits.heap + 1)
            (most_steps p.setting.limits.heap + 7) m.cells
            (news.taken p.setting p.statics s u st m.cells h cell k has empty head values fit_head fit none zeros
            elements not_full mark_small small)) (sym low_is)
            (subst (λ z. Allocates p.im u.object F (order_of_cells (length (cell_kinds P head)))
            (news.x p.setting p.statics s u st m.cells h cell k has empty head values fit_head fit none zeros
            elements not_full mark_small small) at v shape low n (p.setting.limits.heap + 1)
            (most_steps p.setting.limits.heap + 7) z (news.taken p.setting p.statics s u st m.cells h cell k has
            empty head values fit_head fit none zeros elements not_full mark_small small)) (sym cells_now)
            (allocated p routine linked (extra u []) (shape_of P s) s.class st t h.keeps.grounded
            (order_of_cells (length (cell_kinds P head))) (news.took p.setting p.statics s u st m.cells h cell k
            has empty head values fit_head fit none zeros elements not_full mark_small small).block
            (news.took p.setting p.statics s u st m.cells h cell k has empty head values fit_head fit none zeros
            elements not_full mark_small small).book (order_from_one (length (cell_kinds P head)))
            (news.took p.setting p.statics s u st m.cells h cell k has empty head values fit_head fit none zeros
            elements not_full mark_small small).is
            u.object F at v shape object_word frame_word order_small at_word v_small left low n words before_low
            (subst (λ z. low ≤ length z) cells_now low_in)))

        -- the heap has one
        pub takes_block : (size v order n : ℕ) (shape : Shape) → size ≡ length (cell_kinds P head)
            → order ≡ order_of_cells (length (cell_kinds P head)) → block_size_of v shape ≡ length values
            → mark_of v shape ≡ head_word P head → v < 2 ^ 32 → order < 2 ^ 32 → IsLeft v shape
            → TakesBlock p.setting Ad Sl Rel spot free u.object F p.im st (made size head values cell st) m at v order n
            shape
        takes_block size v order n shape size_is order_is sized marked v_small order_small left =
            subst (λ z. TakesBlock p.setting Ad Sl Rel spot free u.object F p.im st (made z head values cell st) m at v
            order n shape) (sym size_is)
            (subst (λ o. TakesBlock p.setting Ad Sl Rel spot free u.object F p.im st later m at v o n shape)
            (sym order_is) (record {
              x = news.x p.setting p.statics s u st m.cells h cell k has empty head values fit_head fit none zeros
                  elements not_full mark_small small;
              taken = news.taken p.setting p.statics s u st m.cells h cell k has empty head values fit_head fit none
                  zeros elements not_full mark_small small;
              takes = subst (λ a. Takes a (block_size_of v shape) at
                  (news.x p.setting p.statics s u st m.cells h cell k has empty head values fit_head fit none zeros
                  elements not_full mark_small small) m.cells (news.taken p.setting p.statics s u st m.cells h cell
                  k has empty head values fit_head fit none zeros elements not_full mark_small small)) (sym low_is)
                  (subst (λ l. Takes low l at (news.x p.setting p.statics s u st m.cells h cell k has empty head values
                  fit_head fit none zeros elements not_full mark_small small) m.cells
                  (news.taken p.setting p.statics s u st m.cells h cell k has empty head values fit_head fit
                  none zeros elements not_full mark_small small)) (sym sized)
                  (subst (λ q. Takes low (length values) q (news.x p.setting p.statics s u st m.cells h cell k has empty
                  head values fit_head fit none zeros elements not_full mark_small small) m.cells
                  (news.taken p.setting p.statics s u st m.cells h cell k has empty head values fit_head fit
                  none zeros elements not_full mark_small small)) (cell_at cell)
                  (news.takes p.setting p.statics s u st m.cells h cell k has empty head values fit_head fit none
                  zeros elements not_full mark_small small)));
              allocates = taken_allocates v shape n v_small (subst (λ o. o < 2 ^ 32) order_is order_small) left;
              after = record {
                regs_are = r.regs_are;
                open_frame = subst (λ w. Stands p.setting p.statics s u [] later
                    (filled_words at (news.x p.setting p.statics s u st m.cells h cell k has empty head values fit_head
                    fit
                    none zeros elements not_full mark_small small) w
                    (news.taken p.setting p.statics s u st m.cells h cell k has empty head values fit_head fit none
                    zeros elements not_full mark_small small))) (sym marked)
                    (subst (λ q. Stands p.setting p.statics s u [] later
                    (filled_words q (news.x p.setting p.statics s u st m.cells h cell k has empty head values fit_head
                    fit none zeros elements not_full mark_small small) (head_word P head)
                    (news.taken p.setting p.statics s u st m.cells h cell k has empty head values fit_head fit
                    none zeros elements not_full mark_small small))) (cell_at cell)
                    (news.made p.setting p.statics s u st m.cells h cell k has empty head values fit_head fit none
                    zeros elements not_full mark_small small));
              };
              keeps = taken_keeps;
            }))

      -- ---- a block is given back

      module _ (no_int : is_int k ≡ false) (n : ℕ) (reads : read st cell ≡ Name n)
          (single : (object_at st.store n).count ≡ 1) (zeros : all_zero (object_at st.store n).cells ≡ true) where
        abbrev left_state : State
        left_state = freed p.setting cell n st

        abbrev after_all : Stands p.setting p.statics s u [] (freed p.setting cell n st)
            (gone.given p.setting p.statics s u st m.cells h cell k has no_int n reads single zeros)
        after_all = gone.gone p.setting p.statics s u st m.cells h cell k has no_int n reads single zeros small

        pub after_given : Rel (freed p.setting cell n st) (record m
            { cells = gone.given p.setting p.statics s u st m.cells h cell k has no_int n reads single zeros })
        after_given = record {
          regs_are = r.regs_are;
          open_frame = gone.gone p.setting p.statics s u st m.cells h cell k
              has no_int n reads single zeros small;
        }

        x_is : gone.x p.setting p.statics s u st m.cells h cell k has no_int n reads single zeros ≡ Ad st n
        x_is =
            ap (λ (a : Placing). base p.setting p.statics + block_of a.blocks n)
            (gone.at_same p.setting p.statics s u st m.cells h cell k has no_int n reads single zeros small)
            ∙ sym (ap (λ q. if q then statics_at else base p.setting p.statics + block_of h.frame.at.blocks n)
            (other_number n main_name (gone.no_main p.setting p.statics s u st m.cells h cell k has no_int n reads
            single zeros)))
            ∙ sym (address_is p classes s u st m.cells rd n)

        was : (w : ℕ) → w ≡ gone.mark p.setting p.statics s u st m.cells h cell k has no_int n reads single zeros
            → m.cells ≡ filled_words at (Ad st n) w (gone.taken p.setting p.statics s u st m.cells h cell k has no_int n
            reads
            single zeros)
        was w marked =
            gone.was p.setting p.statics s u st m.cells h cell k has no_int n reads single zeros
            ∙ ap (λ q. filled_words q (gone.x p.setting p.statics s u st m.cells h cell k has no_int n reads single
            zeros)
            (gone.mark p.setting p.statics s u st m.cells h cell k has no_int n reads single zeros)
            (gone.taken p.setting p.statics s u st m.cells h cell k has no_int n reads single zeros))
            (place_is p classes s u st m.cells rd cell)
            ∙ ap (λ y. filled_words at y (gone.mark p.setting p.statics s u st m.cells h cell k has no_int n reads
            single
            zeros) (gone.taken p.setting p.statics s u st m.cells h cell k has no_int n reads single zeros))
            x_is
            ∙ ap (λ z. filled_words at (Ad st n) z (gone.taken p.setting p.statics s u st m.cells h cell k has no_int n
            reads
            single zeros)) (sym marked)

        given_takes : Takes low (length (object_at st.store n).cells) at (Ad st n)
            (gone.given p.setting p.statics s u st m.cells h cell k has no_int n reads single zeros)
            (gone.taken p.setting p.statics s u st m.cells h cell k has no_int n reads single zeros)
        given_takes =
            subst (λ y. Takes low (length (object_at st.store n).cells) at y
            (gone.given p.setting p.statics s u st m.cells h cell k has no_int n reads single zeros)
            (gone.taken p.setting p.statics s u st m.cells h cell k has no_int n reads single zeros)) x_is
            (subst (λ q. Takes low (length (object_at st.store n).cells) q
            (gone.x p.setting p.statics s u st m.cells h cell k has no_int n reads single zeros)
            (gone.given p.setting p.statics s u st m.cells h cell k has no_int n reads single zeros)
            (gone.taken p.setting p.statics s u st m.cells h cell k has no_int n reads single zeros))
            (place_is p classes s u st m.cells rd cell) (gone.takes p.setting p.statics s u st m.cells h cell k
            has no_int n reads single zeros small))

        filled_long : (a x w : ℕ) (zs : List ℕ) → length (filled_words a x w zs) ≡ length zs
        filled_long a x w zs = length-set (slice_set (slice_set zs x w) (x + COUNT_WORD) 1) a x
            ∙ length-set (slice_set zs x w) (x + COUNT_WORD) 1 ∙ length-set zs x w

        given_long : length (gone.given p.setting p.statics s u st m.cells h cell k has no_int n reads single zeros)
            ≡ length m.cells
        given_long = sym (ap (length {A = ℕ}) (was (gone.mark p.setting p.statics s u st m.cells h cell k has no_int n
            reads single zeros) refl) ∙ filled_long at (Ad st n)
            (gone.mark p.setting p.statics s u st m.cells h cell k has no_int n reads single zeros)
            (gone.taken p.setting p.statics s u st m.cells h cell k has no_int n reads single zeros)
            ∙ given_takes.changes.count)

        given_above : (a : ℕ) → low ≤ a → slice_index (gone.given p.setting p.statics s u st m.cells h cell k has no_int
            n reads single zeros) a ≡ slice_index m.cells a
        given_above a l =
            let ts = given_takes in
            let w = ts.within in
            let i = ts.p_in in
            sym (ap (λ z. slice_index z a) (was (gone.mark p.setting p.statics s u st m.cells h cell k has no_int n
            reads single zeros) refl)
            ∙ get_or-set_other (slice_set (slice_set (gone.taken p.setting p.statics s u st m.cells h cell k has no_int
            n reads single zeros) (Ad st n) (gone.mark p.setting p.statics s u st m.cells h cell k has no_int
            n reads single zeros)) (Ad st n + COUNT_WORD) 1) at a (Ad st n) 0 (λ e. omega (arith, e, i, l))
            ∙ get_or-set_other (slice_set (gone.taken p.setting p.statics s u st m.cells h cell k has no_int n reads
            single zeros) (Ad st n) (gone.mark p.setting p.statics s u st m.cells h cell k has no_int n reads
            single zeros)) (Ad st n + COUNT_WORD) a 1 0 (λ e. omega (arith, e, w, l))
            ∙ get_or-set_other (gone.taken p.setting p.statics s u st m.cells h cell k has no_int n reads single zeros)
            (Ad st n) a (gone.mark p.setting p.statics s u st m.cells h cell k has no_int n reads single zeros) 0
            (λ e. omega (arith, e, w, l))
            ∙ ts.changes.above a l)

        given_keeps : KeepsNames p.setting Ad Sl Rel spot free u.object F p.im st left_state
        given_keeps a a' k' ea ea' =
            let h' = gone.gone p.setting p.statics s u st m.cells h cell k has no_int n reads single zeros small in
            let live = live_read left_state a' k' (are_live p.setting classes
            (context p.setting p.statics linked.routed.few s h.keeps.class_inside u left_state
            (gone.given p.setting p.statics s u st m.cells h cell k has no_int n reads single zeros) h')
            left_state (typed p.setting p.statics s u [] left_state
            (gone.given p.setting p.statics s u st m.cells h cell k has no_int n reads single zeros)
            (reads_of h'))) ea' in
            let none = gone_none st cell n (order_of_cells (length (object_at st.store n).cells))
            (drawn_of p.setting (extra u []) (shape_of P s) s.class st
            (sound p.setting p.statics linked.routed.few s h.keeps.class_inside u st m.cells h)) in
            let apart : n ≢ k' = λ e. no_object none (ap (object_named left_state.store) e ∙ live.there) in
            ap (λ o. address_of p.setting p.statics (unwrap_or o no_placing) k')
            (ap (λ (z : State). place p.setting.limits.heap z.log)
            (sym (gone.freed_small p.setting p.statics s u st m.cells h cell k has no_int n reads single zeros))
            ∙ gone.placed_is p.setting p.statics s u st m.cells h cell k has no_int n reads single zeros)
            ∙ address_same p.setting p.statics (gone.before p.setting p.statics s u st m.cells h cell k has no_int n
            reads single zeros) (gone.after p.setting p.statics s u st m.cells h cell k has no_int n reads single
            zeros) n (gone.blocks p.setting p.statics s u st m.cells h cell k has no_int n reads single zeros) k'
            apart
            ∙ ap (λ (z : Placing). address_of p.setting p.statics z k')
            (gone.at_same p.setting p.statics s u st m.cells h cell k has no_int n reads single zeros small)
            ∙ sym (address_is p classes s u st m.cells rd k')
          where
            no_object : {o : Option Rattle.object_codegen.specs.roopl_semantics.Store.Object}
                {x : Rattle.object_codegen.specs.roopl_semantics.Store.Object} → o ≡ None → o ≡ Some x → ⊥
            no_object e q = cc

        abbrev less : State
        less = smaller p.setting (extra u []) (shape_of P s) s.class (written st cell Nil) n (object_at st.store n).head

        abbrev order0 : ℕ
        order0 = order_of_cells (length (cell_kinds P (object_at st.store n).head))

        less_grounded : IsGrounded (setup p.setting p.statics) less.store
        less_grounded = subst (λ (z : State). IsGrounded (setup p.setting p.statics) z.store)
            (sym (gone.freed_small p.setting p.statics s u st m.cells h cell k has no_int n reads single zeros))
            (gone.gone p.setting p.statics s u st m.cells h cell k has no_int n reads single zeros small).keeps.grounded

        given_allocates : (v : ℕ) (shape : Shape) (nn : ℕ) → v < 2 ^ 32
            → order_of_cells (length (cell_kinds P (object_at st.store n).head)) < 2 ^ 32 → IsLeft v shape
            → Allocates p.im u.object F (order_of_cells (length (cell_kinds P (object_at st.store n).head))) (Ad st n)
            at v shape (free_at free m) nn (p.setting.limits.heap + 1) (most_steps p.setting.limits.heap + 7)
            (gone.given p.setting p.statics s u st m.cells h cell k has no_int n reads single zeros)
            (gone.taken p.setting p.statics s u st m.cells h cell k has no_int n reads single zeros)
        given_allocates v shape nn v_small order_small left =
            let placed' = placed_as p.setting less.store less.log
            (gone.t2 p.setting p.statics s u st m.cells h cell k has no_int n reads single zeros).placed
            (gone.after p.setting p.statics s u st m.cells h cell k has no_int n reads single zeros)
            (gone.placed_is p.setting p.statics s u st m.cells h cell k has no_int n reads single zeros) in
            let t' : Typed p.setting (extra u []) (shape_of P s) s.class less =
            record (gone.t2 p.setting p.statics s u st m.cells h cell k has no_int n reads single zeros) {
              placed = placed_as p.setting less.store less.log
                  (gone.t2 p.setting p.statics s u st m.cells h cell k has no_int n reads single zeros).placed
                  (gone.after p.setting p.statics s u st m.cells h cell k has no_int n reads single zeros)
                  (gone.placed_is p.setting p.statics s u st m.cells h cell k has no_int n reads single zeros);
            } in
            let b = gone.small_before p.setting p.statics s u st m.cells h cell k has no_int n reads single zeros small
            in
            let g = given_long in
            let i = low_in in
            subst (λ a. Allocates p.im u.object F order0 (Ad st n) at v shape a nn (p.setting.limits.heap + 1)
            (most_steps p.setting.limits.heap + 7) (gone.given p.setting p.statics s u st m.cells h cell k has
            no_int n reads single zeros) (gone.taken p.setting p.statics s u st m.cells h cell k has no_int n
            reads single zeros)) (sym low_is)
            (subst (λ y. Allocates p.im u.object F order0 y at v shape low nn (p.setting.limits.heap + 1)
            (most_steps p.setting.limits.heap + 7) (gone.given p.setting p.statics s u st m.cells h cell k has
            no_int n reads single zeros) (gone.taken p.setting p.statics s u st m.cells h cell k has no_int n
            reads single zeros)) x_is
            (allocated p routine linked (extra u []) (shape_of P s) s.class less t' less_grounded order0
            (gone.block p.setting p.statics s u st m.cells h cell k has no_int n reads single zeros)
            (gone.before p.setting p.statics s u st m.cells h cell k has no_int n reads single zeros).book
            (order_from_one (length (cell_kinds P (object_at st.store n).head)))
            (gone.takes_again p.setting p.statics s u st m.cells h cell k has no_int n reads single zeros)
            u.object F at v shape object_word frame_word order_small at_word v_small left low nn
            (stack_words p.setting p.statics (gone.after p.setting p.statics s u st m.cells h cell k has no_int n
            reads single zeros) u (written st cell Nil).frame []) (omega (arith, b)) (omega (arith, g, i))))

        pub gives_block : (v order nn : ℕ) (shape : Shape) → order
            ≡ order_of_cells (length (cell_kinds P (object_at st.store n).head))
            → block_size_of v shape ≡ length (object_at st.store n).cells
            → mark_of v shape ≡ head_word P (object_at st.store n).head → v < 2 ^ 32 → order < 2 ^ 32 → IsLeft v shape
            → GivesBlock p.setting Ad Sl Rel spot free u.object F p.im st (freed p.setting cell n st) m at (Ad st n) v
            order nn shape
        gives_block v order nn shape order_is sized marked v_small order_small left =
            subst (λ o. GivesBlock p.setting Ad Sl Rel spot free u.object F p.im st left_state m at (Ad st n) v o nn
            shape) (sym order_is) (record {
              given = gone.given p.setting p.statics s u st m.cells h cell k has no_int n reads single zeros;
              taken = gone.taken p.setting p.statics s u st m.cells h cell k has no_int n reads single zeros;
              was = was (mark_of v shape) marked;
              takes = subst (λ a. Takes a (block_size_of v shape) at (Ad st n)
                  (gone.given p.setting p.statics s u st m.cells h cell k has no_int n reads single zeros)
                  (gone.taken p.setting p.statics s u st m.cells h cell k has no_int n reads single zeros))
                  (sym low_is)
                  (subst (λ l. Takes low l at (Ad st n) (gone.given p.setting p.statics s u st m.cells h cell k has
                  no_int n reads single zeros) (gone.taken p.setting p.statics s u st m.cells h cell k has
                  no_int n reads single zeros)) (sym sized) given_takes);
              allocates = given_allocates v shape nn v_small (subst (λ o. o < 2 ^ 32) order_is order_small) left;
              changes = subst (λ a. Changes a m.cells (gone.given p.setting p.statics s u st m.cells h cell k has no_int
                  n reads single zeros)) (sym low_is) (record {
                    count = given_long;
                    words = gone.given_words p.setting p.statics s u st m.cells h cell k has no_int n reads single
                        zeros small;
                    above = given_above;
                  });
              after = after_given;
              keeps = given_keeps;
            })
