-- Reads and writes of any cell of a current frame, and values that move up into the frame above,
-- and back.
use Rattle.std.proofs.Common.{◌≡◌, ℕ, ◌+◌, ◌-◌, ◌*◌, ◌<◌, ◌≤◌, List, [], ◌∷◌, ◌++◌, length, map, Some, refl, sym, ap}
use Rattle.std.proofs.Common.{◌∙◌, subst, arith, length-append}
use Rattle.std.proofs.lemmas.List.{length-map, length-replicate}
use Rattle.std.specs.Prelude.{replicate, slice_index, slice_set, is_some}
use Rattle.std.specs.Option.{option_map}
use Rattle.buddy_pisa.specs.rpp_words.declared.input.TheConstants.{FRAME_WORDS}
use Rattle.method_calls.specs.code_conventions.declared.memory.TheConstants.{FIRST_VARIABLE, HEADER_WORDS}
use Rattle.method_calls.specs.code_conventions.declared.memory.TheConstants.{MOST_VARIABLES}
use Rattle.method_calls.specs.class_rules.declared.kind.Kind.{Kind}
use Rattle.buddy_pisa.specs.buddy_book.Place.{Placing}
use Rattle.method_calls.specs.roopl_semantics.Store.{Value, OfClass, Store, Binding, State, object_at, class_of_head}
use Rattle.method_calls.specs.roopl_semantics.Value.{Cell, Slot, Part, read, written}
use Rattle.method_calls.specs.roopl_semantics.Execution.{Setting}
use Rattle.method_calls.specs.meaning_sound.Sound.{head_of, head_named, local_type, bound_value, cell_kind}
use Rattle.method_calls.proofs.meaning_sound_laws.Lists.{all_inside}
use Rattle.method_calls.proofs.meaning_sound_laws.Stores.{live_object}
use Rattle.method_calls.proofs.meaning_sound_laws.Cells.{heads_written}
use Rattle.method_calls.specs.refine_form.Form.{Scope, Moved}
use Rattle.method_calls.specs.refine_form.Frames.{CallerFrame, Under, base, stack_base, address_of, value_word}
use Rattle.method_calls.specs.refine_form.Frames.{values_of}
use Rattle.method_calls.specs.refine_form.Frames.{frame_words}
use Rattle.method_calls.specs.refine_form.Frames.{callers_words, above_words, stack_words, memory, before_stack}
use Rattle.method_calls.specs.refine_form.Frames.{StandsAt}
use Rattle.method_calls.specs.refine_form.Frames.{CallersStand, OpenFrame}
use Rattle.refine_calls.proofs.FramesFit.{frame_at, fits_above}
use Rattle.refine_calls.proofs.SlotMoves.{slot_set, slot_get, above_set, above_get, above_clear, above_zero_word, until}
use Rattle.refine_calls.proofs.SlotMoves.{below, length_with, names_with}
use Rattle.method_calls.specs.refine_form.Stands.{shape_of, extra, moved_values, CallersFit, Reads}
use Rattle.refine_calls.proofs.Bridge.{stack_fits, callers_long, before_long, part_low, part_read, part_write}

pub class_at : (store : Store) (n c : ℕ) → head_named store n ≡ Some (OfClass c)
    → class_of_head (object_at store n).head ≡ c
class_at store n c h =
    let live = live_object store n (ap is_some h) in
    let e : Some (object_at store n).head ≡ Some (OfClass c) = sym (ap (option_map head_of) live) ∙ h in
    ap class_of_head (let q : (object_at store n).head ≡ OfClass c = cc in q)

module _ (setting : Setting) (statics : List ℕ) where
  abbrev pub frame_address : Under → ℕ
  frame_address u = frame_at setting statics u

  -- the objects of active calls keep their addresses
  pub callers_on : (at : Placing) (store other : Store) → ((m : ℕ) → head_named other m ≡ head_named store m)
      → (callers : List CallerFrame) → CallersFit setting statics store callers
      → CallersStand setting statics at store callers → CallersStand setting statics at other callers
  callers_on at store other heads [] f h = tt
  callers_on at store other heads (c ∷ callers) f h = (
    (class_at other c.self c.class (heads c.self ∙ f.2), h.0.1),
    h.1,
    h.2,
    callers_on at store other heads callers f.3 h.3,
  )

  -- the position of a cell
  abbrev pub place_of : Placing → Under → State → Cell → ℕ
  place_of at u st (Slot i) = frame_address u + (FIRST_VARIABLE + (length st.frame - 1 - i))
  place_of at u st (Part n i) = address_of setting statics at n + (HEADER_WORDS + i)

  module _ (s : Scope) (u : Under) (moved : List Moved) (st : State) (cells : List ℕ)
      (h : Reads setting statics s u moved st cells) where
    abbrev vs : List Value
    vs = moved_values setting statics moved

    abbrev at : Placing
    at = h.frame.at

    pub frame_long : length cells ≡ stack_base setting statics + FRAME_WORDS * setting.limits.deep
    frame_long =
        let l = stack_fits setting statics s u moved st cells h in
        let w = stack_words setting statics at u st.frame vs in
        let a = length-append (before_stack setting statics at st.store)
        (w ++ replicate (FRAME_WORDS * setting.limits.deep - length w) 0) in
        let b = length-append w (replicate (FRAME_WORDS * setting.limits.deep - length w) 0) in
        let c = length-replicate {A = ℕ} (FRAME_WORDS * setting.limits.deep - length w) 0 in
        let d = before_long setting statics s u moved st cells h in
        let e : length w + (FRAME_WORDS * setting.limits.deep - length w) ≡ FRAME_WORDS * setting.limits.deep =
        omega (arith, l) in
        ap (length {A = ℕ}) h.frame.cells_are ∙ a ∙ ap (λ j. j + length
        (w ++ replicate (FRAME_WORDS * setting.limits.deep - length w) 0)) d
        ∙ ap (λ j. stack_base setting statics + j) (b ∙ ap (λ j. length w + j) c ∙ e)

    slot_there : (i : ℕ) (k : Kind) → cell_kind setting.program (shape_of setting.program s) st.store (Slot i) ≡ Some k
        → i < length st.frame
    slot_there i k e = let l = all_inside setting.program st.store (map local_type (shape_of setting.program s))
        (map bound_value st.frame) i k h.keeps.variables e in let m = length-map st.frame bound_value in
        omega (arith, l, m)

    slot_is : (i : ℕ) → place_of at u st (Slot i) ≡ length
        (below setting statics at st.store u.callers u.put_by h.frame.put_long
        (callers_long setting statics s u moved st cells h) vs) + (length st.frame - 1 - i)
    slot_is i =
        let a = length-append (before_stack setting statics at st.store ++ callers_words setting statics at u.callers)
        u.put_by in
        let b = length-append (before_stack setting statics at st.store) (callers_words setting statics at u.callers) in
        let c = before_long setting statics s u moved st cells h in
        let d = callers_long setting statics s u moved st cells h in
        let e = h.frame.put_long in
        omega (arith, a, b, c, d, e)

    pub cell_inside : (c : Cell) (k : Kind) → cell_kind setting.program (shape_of setting.program s) st.store c ≡ Some k
        → place_of at u st c < length cells
    cell_inside (Slot i) k e =
        let l = frame_long in
        let t = slot_there i k e in
        let d = h.frame.depth_is in
        let p = h.frame.in_depth in
        let f = h.frame.few in
        omega (arith, l, t, d, p, f)
    cell_inside (Part n i) k e = let l = frame_long in let p = part_low setting statics s u moved st cells h n i k e in
        omega (arith, l, p)

    -- a cell of the frame or of an object is below the words above the frame's variables
    pub cell_low : (c : Cell) (k : Kind) → cell_kind setting.program (shape_of setting.program s) st.store c ≡ Some k
        → place_of at u st c < frame_address u + (FIRST_VARIABLE + length st.frame)
    cell_low (Slot i) k e = let t = slot_there i k e in omega (arith, t)
    cell_low (Part n i) k e = let p = part_low setting statics s u moved st cells h n i k e in omega (arith, p)

    -- what is read
    pub frame_read : (c : Cell) (k : Kind) → cell_kind setting.program (shape_of setting.program s) st.store c ≡ Some k
        → slice_index cells (place_of at u st c) ≡ value_word setting statics at (read st c)
    frame_read (Slot i) k e =
        ap (λ z. slice_index z (place_of at u st (Slot i))) h.frame.cells_are
        ∙ slot_get setting statics at st.store u.callers u.put_by h.frame.put_long
        (callers_long setting statics s u moved st cells h) vs st.frame i (place_of at u st (Slot i)) h.frame.few
        (slot_there i k e) (slot_is i)
    frame_read (Part n i) k e =
        ap (λ z. slice_index z (place_of at u st (Part n i))) h.frame.cells_are
        ∙ part_read setting statics s u moved st cells h n i k e (stack_words setting statics at u st.frame vs)
        (stack_fits setting statics s u moved st cells h)

    -- what is written
    pub cells_written : (c : Cell) (k : Kind) (v : Value)
        → cell_kind setting.program (shape_of setting.program s) st.store c ≡ Some k
        → slice_set cells (place_of at u st c) (value_word setting statics at v)
        ≡ memory setting statics at (written st c v).store (stack_words setting statics at u (written st c v).frame vs)
    cells_written (Slot i) k v e =
        ap (λ z. slice_set z (place_of at u st (Slot i)) (value_word setting statics at v)) h.frame.cells_are
        ∙ slot_set setting statics at st.store u.callers u.put_by h.frame.put_long
        (callers_long setting statics s u moved st cells h) vs st.frame i v (place_of at u st (Slot i)) h.frame.few
        (slot_there i k e) (slot_is i)
    cells_written (Part n i) k v e =
        ap (λ z. slice_set z (place_of at u st (Part n i)) (value_word setting statics at v)) h.frame.cells_are
        ∙ part_write setting statics s u moved st cells h n i k v e (stack_words setting statics at u st.frame vs)
        (stack_fits setting statics s u moved st cells h)

    pub frame_as : (c : Cell) (v : Value) → ((written st c v).self ≡ st.self) × ((written st c v).depth ≡ st.depth)
        × ((written st c v).log ≡ st.log) × (length (written st c v).frame ≡ length st.frame)
        × (map (λ (b : Binding). b.name) (written st c v).frame ≡ map (λ (b : Binding). b.name) st.frame)
    frame_as (Slot i) v = (
      refl,
      refl,
      refl,
      length_with setting statics at st.frame i v,
      names_with setting statics at st.frame i v,
    )
    frame_as (Part n i) v = (refl, refl, refl, refl, refl)

    abbrev pub frame_write : (c : Cell) (k : Kind) (v : Value)
        → cell_kind setting.program (shape_of setting.program s) st.store c ≡ Some k
        → OpenFrame setting statics s u vs (written st c v)
        (slice_set cells (place_of at u st c) (value_word setting statics at v))
    frame_write c k v e =
        let heads : (m : ℕ) → head_named (written st c v).store m ≡ head_named st.store m =
        heads_written setting (extra u moved) (shape_of setting.program s) s.class st c v in
        let same = frame_as c v in
        record {
          at = at;
          placed = ap (λ l. Rattle.buddy_pisa.specs.buddy_book.Place.place setting.limits.heap l) same.2
              ∙ h.frame.placed;
          cells_are = cells_written c k v e;
          names_are = same.4 ∙ h.frame.names_are;
          self_is = same.0 ∙ h.frame.self_is;
          stands = (class_at (written st c v).store u.self u.class (heads u.self ∙ h.keeps.own_is), h.frame.stands.1);
          callers_stand = callers_on at st.store (written st c v).store heads u.callers h.keeps.callers_fit
              h.frame.callers_stand;
          depth_is = same.1 ∙ h.frame.depth_is;
          in_depth = subst (λ d. d ≤ setting.limits.deep) (sym same.1) h.frame.in_depth;
          put_long = h.frame.put_long;
          few = subst (λ n. n ≤ MOST_VARIABLES) (sym same.3) h.frame.few;
          few_vals = h.frame.few_vals;
          above_fits = subst (λ d. Rattle.method_calls.specs.refine_form.Frames.AboveFits setting statics vs d)
              (sym same.1)
              h.frame.above_fits;
        }

  -- ---- the frame above

  module _ (s : Scope) (u : Under) (vs : List Value) (st : State) (cells : List ℕ)
      (f : OpenFrame setting statics s u vs st cells) (long : length (before_stack setting statics f.at st.store)
      ≡ stack_base setting statics) (few : length vs < 32) (room : 1 + st.depth ≤ setting.limits.deep) where
    abbrev pub up : ℕ
    up = frame_address u + (FRAME_WORDS + (FIRST_VARIABLE + length vs))

    abbrev own : List ℕ
    own = frame_words setting statics f.at u.put_by (values_of setting statics st.frame)

    pub cl : length (callers_words setting statics f.at u.callers) ≡ FRAME_WORDS * length u.callers
    cl = Rattle.refine_calls.proofs.FramesFit.length_callers setting statics f.at st.store u.callers f.callers_stand

    pub ol : length own ≡ FRAME_WORDS
    ol = Rattle.refine_calls.proofs.FramesFit.length_frame setting statics f.at u.put_by
        (values_of setting statics st.frame) f.put_long (let e = length-map st.frame (λ (b : Binding). b.value) in
        let k = f.few in omega (arith, e, k))

    pub enough : FRAME_WORDS * length u.callers + 1024 ≤ FRAME_WORDS * setting.limits.deep
    enough = let d = f.depth_is in omega (arith, d, room)

    pub up_is : up ≡ length (until setting statics f.at st.store u.callers own ol cl) + (FIRST_VARIABLE + length vs)
    up_is =
        let a = length-append (before_stack setting statics f.at st.store)
        (callers_words setting statics f.at u.callers ++ own) in
        let b = length-append (callers_words setting statics f.at u.callers) own in
        let c = ol in
        let d = cl in
        omega (arith, a, b, c, d, long)

    pub up_empty : slice_index cells up ≡ 0
    up_empty = ap (λ c. slice_index c up) f.cells_are ∙ above_zero_word setting statics f.at st.store u.callers own ol
        cl vs up few enough up_is

    abbrev pub frame_up : (v : Value) → OpenFrame setting statics s u (v ∷ vs) st
        (slice_set cells up (value_word setting statics f.at v))
    frame_up v = record {
      at = f.at;
      placed = f.placed;
      cells_are = ap (λ c. slice_set c up (value_word setting statics f.at v)) f.cells_are
          ∙ above_set setting statics f.at st.store u.callers own ol cl v vs up few enough up_is;
      names_are = f.names_are;
      self_is = f.self_is;
      stands = f.stands;
      callers_stand = f.callers_stand;
      depth_is = f.depth_is;
      in_depth = f.in_depth;
      put_long = f.put_long;
      few = f.few;
      few_vals = (let n : length (v ∷ vs) ≡ 1 + length vs = omega arith in omega (arith, n, few));
      above_fits = room;
    }

  module _ (s : Scope) (u : Under) (v : Value) (vs : List Value) (st : State) (cells : List ℕ)
      (f : OpenFrame setting statics s u (v ∷ vs) st cells)
      (long : length (before_stack setting statics f.at st.store) ≡ stack_base setting statics) where
    pub few' : length vs < 32
    few' = let k = f.few_vals in let n : length (v ∷ vs) ≡ 1 + length vs = omega arith in omega (arith, n, k)

    pub room' : 1 + st.depth ≤ setting.limits.deep
    room' = f.above_fits

    abbrev own' : List ℕ
    own' = frame_words setting statics f.at u.put_by (values_of setting statics st.frame)

    abbrev up' : ℕ
    up' = frame_address u + (FRAME_WORDS + (FIRST_VARIABLE + length vs))

    pub cl' : length (callers_words setting statics f.at u.callers) ≡ FRAME_WORDS * length u.callers
    cl' = Rattle.refine_calls.proofs.FramesFit.length_callers setting statics f.at st.store u.callers f.callers_stand

    pub ol' : length own' ≡ FRAME_WORDS
    ol' = Rattle.refine_calls.proofs.FramesFit.length_frame setting statics f.at u.put_by
        (values_of setting statics st.frame) f.put_long (let e = length-map st.frame (λ (b : Binding). b.value) in
        let k = f.few in omega (arith, e, k))

    pub enough' : FRAME_WORDS * length u.callers + 1024 ≤ FRAME_WORDS * setting.limits.deep
    enough' = let d = f.depth_is in let r = room' in omega (arith, d, r)

    pub up_is' : up' ≡ length (until setting statics f.at st.store u.callers own' ol' cl') +
        (FIRST_VARIABLE + length vs)
    up_is' =
        let a = length-append (before_stack setting statics f.at st.store)
        (callers_words setting statics f.at u.callers ++ own') in
        let b = length-append (callers_words setting statics f.at u.callers) own' in
        let c = ol' in
        let d = cl' in
        omega (arith, a, b, c, d, long)

    pub up_value : slice_index cells up' ≡ value_word setting statics f.at v
    up_value = ap (λ c. slice_index c up') f.cells_are ∙ above_get setting statics f.at st.store u.callers own' ol' cl'
        v vs up' few' enough' up_is'

    abbrev pub frame_down : OpenFrame setting statics s u vs st (slice_set cells up' 0)
    frame_down = record {
      at = f.at;
      placed = f.placed;
      cells_are = ap (λ c. slice_set c up' 0) f.cells_are ∙ above_clear setting statics f.at st.store u.callers own' ol'
          cl' v vs up' few' enough' up_is';
      names_are = f.names_are;
      self_is = f.self_is;
      stands = f.stands;
      callers_stand = f.callers_stand;
      depth_is = f.depth_is;
      in_depth = f.in_depth;
      put_long = f.put_long;
      few = f.few;
      few_vals = (let k = few' in omega (arith, k));
      above_fits = fits_above setting statics vs st.depth room';
    }
