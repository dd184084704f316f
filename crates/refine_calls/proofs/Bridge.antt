-- The memories of the two laws are one; what a memory that represents a frame determines.
use Rattle.std.proofs.Common.{◌≡◌, ℕ, zero, suc, ◌+◌, ◌-◌, ◌*◌, ◌^◌, ◌<◌, ◌≤◌, true, List, [], ◌∷◌, ◌++◌, length, map}
use Rattle.std.proofs.Common.{Some, refl, sym, ap, ◌∙◌, subst, arith, length-append}
use Rattle.std.proofs.lemmas.List.{length-map}
use Rattle.std.specs.Prelude.{replicate, slice_index, slice_set}
use Rattle.buddy_pisa.specs.rpp_words.declared.input.TheConstants.{FRAME_WORDS}
use Rattle.method_calls.specs.code_conventions.declared.memory.TheConstants.{FIRST_VARIABLE, HEADER_WORDS}
use Rattle.method_calls.specs.class_rules.declared.kind.Kind.TheVariants as kind
use Rattle.method_calls.specs.rpp_tree.declared.tree.Var.{Var}
use Rattle.method_calls.specs.class_rules.declared.kind.Kind.{Kind}
use Rattle.buddy_pisa.specs.buddy_book.Place.{Placing}
use Rattle.method_calls.specs.roopl_semantics.Store.{Value, Object, Store, Binding, State, object_at}
use Rattle.method_calls.specs.roopl_semantics.Value.{Part, read, written}
use Rattle.method_calls.specs.roopl_semantics.Layout.{overlaid}
use Rattle.method_calls.specs.roopl_semantics.Execution.{Setting}
use Rattle.method_calls.specs.meaning_sound.Sound.{binding_name, local_name, local_type, bound_value, named_fits, head_named}
use Rattle.method_calls.specs.meaning_sound.Sound.{cell_kinds}
use Rattle.method_calls.specs.meaning_sound.Sound.{cell_kind, Typed}
use Rattle.method_calls.specs.refine_frame.Open.{Setup, setup_base}
use Rattle.method_calls.proofs.meaning_sound_laws.Lists.{all_inside}
use Rattle.method_calls.proofs.meaning_sound_laws.Stores.{live_named}
use Rattle.method_calls.proofs.meaning_sound_laws.Cells.{part_of}
use Rattle.method_calls.proofs.meaning_sound_laws.Overlays.{laid, overlaid_is}
use Rattle.method_calls.proofs.refine_frame_laws.Memory.{fixed, statics as statics_part, gap, heap, read_part}
use Rattle.method_calls.proofs.refine_frame_laws.Memory.{write_part, length_heap_is}
use Rattle.method_calls.proofs.refine_frame_laws.Memory.{before_heap}
use Rattle.method_calls.proofs.refine_frame_laws.Addresses.{part_place}
use Rattle.method_calls.specs.refine_form.Form.{Scope, Moved}
use Rattle.method_calls.specs.refine_form.Frames.{CallerFrame, Under, base, stack_base, address_of, value_word, values_of}
use Rattle.method_calls.specs.refine_form.Frames.{value_words}
use Rattle.method_calls.specs.refine_form.Frames.{frame_words, callers_words, above_words, stack_words, memory}
use Rattle.method_calls.specs.refine_form.Frames.{before_stack}
use Rattle.method_calls.specs.refine_form.Frames.{OpenFrame}
use Rattle.refine_calls.proofs.FramesFit.{length_values, length_frame, length_callers}
use Rattle.method_calls.specs.refine_form.Stands.{local_of, shape_of, extra, setup, moved_values, Kept, Reads, Stands}

-- ---- words

pub set_words : (cells : List ℕ) (a x : ℕ) → ((i : ℕ) → slice_index cells i < 2 ^ 32) → x < 2 ^ 32 → (i : ℕ)
    → slice_index (slice_set cells a x) i < 2 ^ 32
set_words [] a x h l i = h i
set_words (c ∷ cells) zero x h l zero = l
set_words (c ∷ cells) zero x h l (suc i) = h (suc i)
set_words (c ∷ cells) (suc a) x h l zero = h zero
set_words (c ∷ cells) (suc a) x h l (suc i) = set_words cells a x (λ j. h (suc j)) l i

-- ---- words over zeros

laid_fills : (n : ℕ) (ws : List ℕ) → length ws ≤ n → laid (replicate n 0) 0 ws ≡ ws ++ replicate (n - length ws) 0
laid_fills zero [] h = refl
laid_fills zero (w ∷ ws) h = absurd (omega arith)
laid_fills (suc n) [] h = let e : suc n ≡ suc n - 0 = omega arith in ap (λ k. replicate k 0) e
laid_fills (suc n) (w ∷ ws) h = let e : n - length ws ≡ suc n - suc (length ws) = omega arith in
    ap (λ z. w ∷ z) (laid_fills n ws (omega arith)) ∙ ap (λ k. w ∷ (ws ++ replicate k 0)) e

pub overlaid_fills : (n : ℕ) (ws : List ℕ) → length ws ≤ n
    → overlaid (replicate n 0) 0 ws ≡ ws ++ replicate (n - length ws) 0
overlaid_fills n ws h = overlaid_is (replicate n 0) 0 ws ∙ laid_fills n ws h

pub shape_names : (program : Rattle.method_calls.specs.rpp_tree.Tree.Source) (vars : List Var)
    → map local_name (map (local_of program) vars) ≡ map (λ (var : Var). var.name.text) vars
shape_names program [] = refl
shape_names program (v ∷ vars) = ap (λ z. v.name.text ∷ z) (shape_names program vars)

-- a current frame can be read
abbrev pub reads_of : {setting : Setting} {statics : List ℕ} {s : Scope} {u : Under} {moved : List Moved} {st : State}
    {cells : List ℕ} → Stands setting statics s u moved st cells → Reads setting statics s u moved st cells
reads_of h = record { frame = h.frame; keeps = h.keeps; words = h.words }

module _ (setting : Setting) (statics : List ℕ) where
  pub same_memory : (at : Placing) (store : Store) (stack : List ℕ) → length stack ≤ FRAME_WORDS * setting.limits.deep
      → Rattle.method_calls.specs.refine_frame.Open.memory (setup setting statics) at store stack
      ≡ memory setting statics at store stack
  same_memory at store stack h = ap (λ z. before_stack setting statics at store ++ z)
      (overlaid_fills (FRAME_WORDS * setting.limits.deep) stack h)

  module _ (s : Scope) (u : Under) (moved : List Moved) (st : State) (k : Kept setting statics s u moved st)
      (vals' : List Value) (cells : List ℕ) (f : OpenFrame setting statics s u vals' st cells) where
    abbrev pub typed_by : Typed setting (extra u moved) (shape_of setting.program s) s.class st
    typed_by = record {
      names = f.names_are ∙ sym (shape_names setting.program s.vars);
      variables = k.variables;
      objects = k.objects;
      lives = k.lives;
      self_is = ap (λ n. named_fits setting.program (kind.Class s.class) (head_named st.store n)) f.self_is ∙ k.self_is;
      self_held = subst (λ n. 0 < extra u moved n) (sym f.self_is) (let p = k.self_held in omega arith);
      main_extra = k.main_extra;
      fresh = k.fresh;
      placed = k.placed;
    }

    at_by : k.placed.at ≡ f.at
    at_by = let e : Some k.placed.at ≡ Some f.at = sym k.placed.placed ∙ f.placed in cc

    -- the cells before the stack
    pub long_by : length (before_stack setting statics f.at st.store) ≡ stack_base setting statics
    long_by = subst (λ (a : Placing). length (before_stack setting statics a st.store) ≡ stack_base setting statics)
        at_by one
      where
        x : Setup
        x = setup setting statics

        one : length (before_stack setting statics k.placed.at st.store) ≡ stack_base setting statics
        one =
            let E = extra u moved in
            let sh = shape_of setting.program s in
            let F = fixed x E sh s.class st typed_by k.grounded in
            let S = statics_part x E sh s.class st typed_by k.grounded in
            let G = gap x E sh s.class st typed_by k.grounded in
            let H = heap x E sh s.class st typed_by k.grounded in
            let a = length-append (F ++ S ++ G) H in
            let b = length-append (F ++ S) G in
            let c = length-append F S in
            let d = before_heap x E sh s.class st typed_by k.grounded in
            let e = length_heap_is x E sh s.class st typed_by k.grounded in
            a ∙ ap (λ j. j + length H) (b ∙ ap (λ j. j + length G) c ∙ d) ∙ ap (λ j. base setting statics + j) e

  module _ (s : Scope) (u : Under) (moved : List Moved) (st : State) (cells : List ℕ)
      (h : Reads setting statics s u moved st cells) where
    pub same_at : h.keeps.placed.at ≡ h.frame.at
    same_at = let e : Some h.keeps.placed.at ≡ Some h.frame.at = sym h.keeps.placed.placed ∙ h.frame.placed in cc

    pub frame_names : map binding_name st.frame ≡ map local_name (shape_of setting.program s)
    frame_names = h.frame.names_are ∙ sym (shape_names setting.program s.vars)

    pub as_many_vars : length st.frame ≡ length s.vars
    as_many_vars = sym (length-map st.frame binding_name) ∙ ap (length {A = List ℕ}) h.frame.names_are
        ∙ length-map s.vars (λ (v : Var). v.name.text)

    abbrev pub typed : Typed setting (extra u moved) (shape_of setting.program s) s.class st
    typed = record {
      names = frame_names;
      variables = h.keeps.variables;
      objects = h.keeps.objects;
      lives = h.keeps.lives;
      self_is = ap (λ n. named_fits setting.program (kind.Class s.class) (head_named st.store n)) h.frame.self_is
          ∙ h.keeps.self_is;
      self_held = subst (λ n. 0 < extra u moved n) (sym h.frame.self_is) (let p = h.keeps.self_held in omega arith);
      main_extra = h.keeps.main_extra;
      fresh = h.keeps.fresh;
      placed = h.keeps.placed;
    }

    abbrev pub vals : List Value
    vals = moved_values setting statics moved

    abbrev pub stack : List ℕ
    stack = stack_words setting statics h.frame.at u st.frame vals

    pub callers_long : length (callers_words setting statics h.frame.at u.callers) ≡ FRAME_WORDS * length u.callers
    callers_long = length_callers setting statics h.frame.at st.store u.callers h.frame.callers_stand

    pub own_long : length (frame_words setting statics h.frame.at u.put_by (values_of setting statics st.frame))
        ≡ FRAME_WORDS
    own_long = length_frame setting statics h.frame.at u.put_by (values_of setting statics st.frame) h.frame.put_long
        (let e = length-map st.frame (λ (b : Binding). b.value) in let k = h.frame.few in omega arith)

    pub stack_fits : length stack ≤ FRAME_WORDS * setting.limits.deep
    stack_fits =
        let a = length-append (callers_words setting statics h.frame.at u.callers)
        (frame_words setting statics h.frame.at u.put_by (values_of setting statics st.frame)
        ++ above_words setting statics h.frame.at vals) in
        let b = length-append (frame_words setting statics h.frame.at u.put_by (values_of setting statics st.frame))
        (above_words setting statics h.frame.at vals) in
        let c = callers_long in
        let o = own_long in
        let d = h.frame.depth_is in
        let r = by vals h.frame.few_vals h.frame.above_fits in
        omega (arith, a, b, c, o, d, r)
      where
        by : (vs : List Value) → length vs ≤ 32 → Rattle.method_calls.specs.refine_form.Frames.AboveFits setting statics
            vs
            st.depth → FRAME_WORDS * st.depth + length (above_words setting statics h.frame.at vs) ≤ FRAME_WORDS *
            setting.limits.deep
        by [] few fit = let k = h.frame.in_depth in omega (arith, k)
        by (v ∷ vs) few fit =
            let l = length-append (replicate {A = ℕ} FIRST_VARIABLE 0) (value_words setting statics h.frame.at (v ∷ vs))
            in
            let n = length_values setting statics h.frame.at (v ∷ vs) in
            let q : 1 + st.depth ≤ setting.limits.deep = fit in
            omega (arith, l, n, few, q)

    -- the cells before the stack
    pub before_long : length (before_stack setting statics h.frame.at st.store) ≡ stack_base setting statics
    before_long = long_by s u moved st h.keeps (moved_values setting statics moved) cells h.frame

    -- ---- fields and elements

    record PartThere (n i : ℕ) : Type 0 where
      pub live : Rattle.method_calls.specs.meaning_sound.Sound.is_live st.store n ≡ true
      pub inside : i < length (object_at st.store n).cells
      pub low : address_of setting statics h.frame.at n + (HEADER_WORDS + i) < stack_base setting statics

    part_there : (n i : ℕ) (k : Kind) → cell_kind setting.program (shape_of setting.program s) st.store (Part n i)
        ≡ Some k → PartThere n i
    part_there n i k e =
        let p = part_of setting.program st.store n i k e in
        let inside = all_inside setting.program st.store (cell_kinds setting.program p.object.head) p.object.cells i k
        (h.keeps.objects n p.object p.named) p.kind_is in
        let place = part_place (setup setting statics) (extra u moved) (shape_of setting.program s) s.class st typed
        h.keeps.grounded n i k e in
        record {
          live = live_named st.store n p.object p.named;
          inside = subst (λ (x : Object). i < length x.cells) (sym p.at) inside;
          low = subst (λ (a : Placing). address_of setting statics a n + (HEADER_WORDS + i) < stack_base setting
              statics) same_at
              (let l : address_of setting statics h.keeps.placed.at n + HEADER_WORDS + i < stack_base setting statics
              = place.below
              in omega (arith, l));
        }

    pub part_low : (n i : ℕ) (k : Kind) → cell_kind setting.program (shape_of setting.program s) st.store (Part n i)
        ≡ Some k → address_of setting statics h.frame.at n + (HEADER_WORDS + i) < stack_base setting statics
    part_low n i k e = (part_there n i k e).low

    -- what is read, and what is written, with any words on the stack
    pub part_read : (n i : ℕ) (k : Kind) → cell_kind setting.program (shape_of setting.program s) st.store (Part n i)
        ≡ Some k → (stack : List ℕ) → length stack ≤ FRAME_WORDS * setting.limits.deep
        → slice_index (memory setting statics h.frame.at st.store stack)
        (address_of setting statics h.frame.at n + (HEADER_WORDS + i))
        ≡ value_word setting statics h.frame.at (read st (Part n i))
    part_read n i k e stack room =
        let t = part_there n i k e in
        let z : address_of setting statics h.frame.at n + (HEADER_WORDS + i)
        ≡ address_of setting statics h.frame.at n + HEADER_WORDS + i =
        omega arith in
        ap (λ c. slice_index c (address_of setting statics h.frame.at n + (HEADER_WORDS + i)))
        (sym (same_memory h.frame.at st.store stack room))
        ∙ ap (slice_index (Rattle.method_calls.specs.refine_frame.Open.memory (setup setting statics) h.frame.at
        st.store stack)) z
        ∙ subst (λ (a : Placing). slice_index (Rattle.method_calls.specs.refine_frame.Open.memory
        (setup setting statics) a st.store
        stack) (address_of setting statics a n + HEADER_WORDS + i) ≡ value_word setting statics a (read st (Part n i)))
        same_at
        (read_part (setup setting statics) (extra u moved) (shape_of setting.program s) s.class st typed
        h.keeps.grounded stack n i t.live t.inside)

    pub part_write : (n i : ℕ) (k : Kind) (v : Value) → cell_kind setting.program (shape_of setting.program s) st.store
        (Part n i) ≡ Some k → (stack : List ℕ) → length stack ≤ FRAME_WORDS * setting.limits.deep
        → slice_set (memory setting statics h.frame.at st.store stack)
        (address_of setting statics h.frame.at n + (HEADER_WORDS + i)) (value_word setting statics h.frame.at v)
        ≡ memory setting statics h.frame.at (written st (Part n i) v).store stack
    part_write n i k v e stack room =
        let t = part_there n i k e in
        let z : address_of setting statics h.frame.at n + (HEADER_WORDS + i)
        ≡ address_of setting statics h.frame.at n + HEADER_WORDS + i =
        omega arith in
        ap (λ c. slice_set c (address_of setting statics h.frame.at n + (HEADER_WORDS + i))
        (value_word setting statics h.frame.at v)) (sym (same_memory h.frame.at st.store stack room))
        ∙ ap (λ a. slice_set (Rattle.method_calls.specs.refine_frame.Open.memory (setup setting statics) h.frame.at
        st.store stack) a
        (value_word setting statics h.frame.at v)) z
        ∙ subst (λ (a : Placing). slice_set (Rattle.method_calls.specs.refine_frame.Open.memory (setup setting statics)
        a st.store
        stack) (address_of setting statics a n + HEADER_WORDS + i) (value_word setting statics a v)
        ≡ Rattle.method_calls.specs.refine_frame.Open.memory (setup setting statics) a (written st (Part n i) v).store
        stack)
        same_at
        (write_part (setup setting statics) (extra u moved) (shape_of setting.program s) s.class st typed
        h.keeps.grounded stack n i v t.live t.inside)
        ∙ same_memory h.frame.at (written st (Part n i) v).store stack room
