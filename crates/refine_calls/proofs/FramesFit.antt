-- The relation of specs/Frames has the facts that calls need of entering and leaving frames.
use Rattle.std.proofs.Common.{◌≡◌, ℕ, suc, ◌+◌, ◌-◌, ◌*◌, ◌^◌, ◌<◌, ◌≤◌, true, false, List, [], ◌∷◌, ◌++◌, length, map}
use Rattle.std.proofs.Common.{replicate, Option, Some, None, refl, sym, ap, ◌∙◌, subst, arith, append-nil, append_assoc}
use Rattle.std.proofs.Common.{length-append}
use Rattle.std.specs.Prelude.{position, slice_index, slice_set}
use Rattle.std.specs.Str.{bytes_eq}
use Rattle.std.proofs.lemmas.List.{length-replicate, replicate-append-replicate}
use Rattle.std.specs.Option.{unwrap_or}
use Rattle.method_calls.specs.code_conventions.declared.memory.TheConstants.{FIRST_VARIABLE, MOST_VARIABLES}
use Rattle.method_calls.specs.code_conventions.declared.memory.TheConstants.{OBJECT_WORD, PLACE_WORD}
use Rattle.buddy_pisa.specs.rpp_words.declared.input.TheConstants.{FRAME_WORDS}
use Rattle.method_calls.specs.rpp_tree.declared.tree.Ident.{Ident}
use Rattle.method_calls.specs.rpp_tree.declared.tree.Var.{Var}
use Rattle.buddy_pisa.specs.buddy_book.Place.{Placing}
use Rattle.method_calls.specs.roopl_semantics.Store.{Value, Binding, State, object_at, class_of_head}
use Rattle.method_calls.specs.roopl_semantics.Value.{Part, cell_named, own_class, slot_or_field}
use Rattle.method_calls.specs.class_rules.Members.{field_of}
use Rattle.method_calls.specs.class_rules.Classes.{class_fields}
use Rattle.method_calls.specs.roopl_semantics.Execution.{Setting, bound}
use Rattle.method_calls.specs.refine_form.Form.{Scope}
use Rattle.method_calls.specs.Names.{caller_of, deeper}
use Rattle.method_calls.specs.refine_form.Frames.{CallerFrame, Under, values_of, value_words, filled_to, frame_words}
use Rattle.method_calls.specs.refine_form.Frames.{callers_words}
use Rattle.method_calls.specs.refine_form.Frames.{above_words, stack_words, memory, StandsAt, CallersStand, cell_at}
use Rattle.method_calls.specs.refine_form.Frames.{cell_in}
use Rattle.method_calls.specs.refine_form.Frames.{OpenFrame}
use Rattle.buddy_pisa.specs.pisa_isa.declared.fixed.TheConstants.{STACK_CELL, END_CELL}

-- ---- zeros after it

pub fill_more : (n : ℕ) (x : List ℕ) (k : ℕ) → length x + k ≤ n
    → (x ++ replicate k 0) ++ replicate (n - length (x ++ replicate k 0)) 0 ≡ x ++ replicate (n - length x) 0
fill_more n x k h =
    let l : length (x ++ replicate k 0) ≡ length x + k = length-append x (replicate k 0)
    ∙ ap (λ j. length x + j) (length-replicate k 0) in
    let e : k + (n - length (x ++ replicate k 0)) ≡ n - length x = omega (arith, l, h) in
    append_assoc x (replicate k 0) (replicate (n - length (x ++ replicate k 0)) 0)
    ∙ ap (λ z. x ++ z) (replicate-append-replicate k (n - length (x ++ replicate k 0)) 0 ∙ ap (λ j. replicate j 0) e)

module _ (setting : Setting) (statics : List ℕ) where
  abbrev N : ℕ
  N = FRAME_WORDS * setting.limits.deep

  pub length_values : (at : Placing) (vs : List Value) → length (value_words setting statics at vs) ≡ length vs
  length_values at [] = refl
  length_values at (v ∷ vs) =
      let e : length (value_words setting statics at vs ++ Rattle.method_calls.specs.refine_form.Frames.value_word
      setting statics
      at v ∷ []) ≡ length (value_words setting statics at vs) + 1 =
      length-append (value_words setting statics at vs) _ in
      let i = length_values at vs in
      let q : length (value_words setting statics at vs) + 1 ≡ suc (length vs) = omega (arith, i) in
      e ∙ q

  pub length_frame : (at : Placing) (put : List ℕ) (vs : List Value) → length put ≡ FIRST_VARIABLE
      → length vs ≤ MOST_VARIABLES
      → length (frame_words setting statics at put vs) ≡ FRAME_WORDS
  length_frame at put vs hp hv =
      let ws = put ++ value_words setting statics at vs in
      let l : length ws ≡ FIRST_VARIABLE + length vs = length-append put (value_words setting statics at vs)
      ∙ ap (λ j. j + length (value_words setting statics at vs)) hp
      ∙ ap (λ j. FIRST_VARIABLE + j) (length_values at vs) in
      let e : length ws + (FRAME_WORDS - length ws) ≡ FRAME_WORDS = omega (arith, l, hv) in
      length-append ws (replicate (FRAME_WORDS - length ws) 0)
      ∙ ap (λ j. length ws + j) (length-replicate (FRAME_WORDS - length ws) 0)
      ∙ e

  pub length_map : {A B : Type 0} (f : A → B) (l : List A) → length (map f l) ≡ length l
  length_map f [] = refl
  length_map f (x ∷ l) = ap suc (length_map f l)

  pub length_callers : (at : Placing) (store : Rattle.method_calls.specs.roopl_semantics.Store.Store)
      (callers : List CallerFrame)
      → CallersStand setting statics at store callers → length (callers_words setting statics at callers)
      ≡ FRAME_WORDS * length callers
  length_callers at store [] h = refl
  length_callers at store (c ∷ callers) h =
      let f = length_frame at c.put_by (values_of setting statics c.frame) h.1
      (let e = length_map (λ (b : Binding). b.value) c.frame in let l = h.2 in omega (arith, e, l)) in
      let i = length_callers at store callers h.3 in
      let e : FRAME_WORDS * length callers + FRAME_WORDS ≡ FRAME_WORDS * suc (length callers) = omega arith in
      length-append (callers_words setting statics at callers)
      (frame_words setting statics at c.put_by (values_of setting statics c.frame))
      ∙ ap (λ j. length (callers_words setting statics at callers) + j) f ∙ ap (λ j. j + FRAME_WORDS) i ∙ e

  -- values above a frame are a frame of their own
  above_frame : (at : Placing) (x : List ℕ) (vs : List Value) → length vs ≤ MOST_VARIABLES → length x + FRAME_WORDS ≤ N
      → filled_to setting statics N (x ++ above_words setting statics at vs)
      ≡ filled_to setting statics N (x ++ frame_words setting statics at (replicate FIRST_VARIABLE 0) vs)
  above_frame at x [] h room =
      let whole : x ++ ((replicate FIRST_VARIABLE 0 ++ []) ++ replicate 496 0) ≡ x ++ replicate FRAME_WORDS 0 =
      ap (λ z. x ++ z) (refl) in
      ap (filled_to setting statics N) (append-nil x) ∙ sym (fill_more N x FRAME_WORDS room)
      ∙ ap (filled_to setting statics N) (sym whole)
  above_frame at x (v ∷ vs) h room =
      let ws = replicate FIRST_VARIABLE 0 ++ value_words setting statics at (v ∷ vs) in
      let k = FRAME_WORDS - length ws in
      let l : length ws ≡ FIRST_VARIABLE + length (v ∷ vs) = length-append (replicate {A = ℕ} FIRST_VARIABLE 0)
      (value_words setting statics at (v ∷ vs)) ∙ ap (λ j. FIRST_VARIABLE + j) (length_values at (v ∷ vs)) in
      let lx = length-append x ws in
      sym (fill_more N (x ++ ws) k (omega (arith, l, lx, room, h)))
      ∙ ap (filled_to setting statics N) (append_assoc x ws (replicate k 0))

  -- the same words, seen from the frame below and from the frame above
  pub same_stack : (s : Scope) (u : Under) (st : State) (at : Placing)
      (store : Rattle.method_calls.specs.roopl_semantics.Store.Store) (vs : List Value)
      → CallersStand setting statics at store u.callers → length u.put_by ≡ FIRST_VARIABLE
      → length st.frame ≤ MOST_VARIABLES → length vs ≤ MOST_VARIABLES
      → 2 + length u.callers ≤ setting.limits.deep → filled_to setting statics N
      (stack_words setting statics at u st.frame vs) ≡ filled_to setting statics N
      (callers_words setting statics at (caller_of s u st ∷ u.callers)
      ++ (frame_words setting statics at (replicate FIRST_VARIABLE 0) vs ++ []))
  same_stack s u st at store vs stand long few many room =
      let a = callers_words setting statics at u.callers in
      let o = frame_words setting statics at u.put_by (values_of setting statics st.frame) in
      let la = length_callers at store u.callers stand in
      let lo = length_frame at u.put_by (values_of setting statics st.frame) long
      (let e = length_map (λ (b : Binding). b.value) st.frame in omega (arith, e, few)) in
      let lao = length-append a o in
      let fits : length (a ++ o) + FRAME_WORDS ≤ N = omega (arith, la, lo, lao, room) in
      ap (filled_to setting statics N) (sym (append_assoc a o (above_words setting statics at vs)))
      ∙ above_frame at (a ++ o) vs many fits
      ∙ ap (λ z. filled_to setting statics N ((a ++ o) ++ z))
      (sym (append-nil (frame_words setting statics at (replicate FIRST_VARIABLE 0) vs)))

  pub bound_names : (params : List Var) (vals : List Value) → length vals ≡ length params
      → map (λ binding. binding.name) (bound params vals) ≡ map (λ var. var.name.text) params
  bound_names [] vals e = refl
  bound_names (p ∷ params) [] e = absurd (omega (arith, e))
  bound_names (p ∷ params) (v ∷ vals) e = ap (λ l. p.name.text ∷ l)
      (bound_names params vals (let q : suc (length vals) ≡ suc (length params) = e in omega (arith, q)))

  pub bound_values : (params : List Var) (vals : List Value) → length vals ≡ length params
      → values_of setting statics (bound params vals) ≡ vals
  bound_values [] [] e = refl
  bound_values [] (v ∷ vals) e = absurd (omega (arith, e))
  bound_values (p ∷ params) [] e = absurd (omega (arith, e))
  bound_values (p ∷ params) (v ∷ vals) e = ap (λ l. v ∷ l)
      (bound_values params vals (let q : suc (length vals) ≡ suc (length params) = e in omega (arith, q)))

  abbrev callee_of : List Var → List Value → State → State
  callee_of params vals st = record {
    frame = bound params vals;
    self = st.self;
    depth = 1 + st.depth;
    store = st.store;
    log = st.log;
  }

  -- a frame with all arguments above it is the callee's current frame
  abbrev pub enters : (s s' : Scope) (u : Under) (vals : List Value) (st : State) (cells : List ℕ)
      → OpenFrame setting statics s u vals st cells → length vals ≡ length s'.vars → 1 + st.depth ≤ setting.limits.deep
      → OpenFrame setting statics s' (deeper s u st) [] (callee_of s'.vars vals st) cells
  enters s s' u vals st cells h many room =
      let d = h.depth_is in
      let few = h.few_vals in
      let names = bound_names s'.vars vals many in
      let values = bound_values s'.vars vals many in
      let shown : filled_to setting statics N (stack_words setting statics h.at u st.frame vals)
      ≡ filled_to setting statics N (stack_words setting statics h.at (deeper s u st) (bound s'.vars vals) []) =
      same_stack s u st h.at st.store vals h.callers_stand h.put_long h.few (omega arith) (omega (arith, d, room))
      ∙ ap (λ vs. filled_to setting statics N (callers_words setting statics h.at (caller_of s u st ∷ u.callers)
      ++ (frame_words setting statics h.at (replicate FIRST_VARIABLE 0) vs ++ []))) (sym values) in
      record {
        at = h.at;
        placed = h.placed;
        cells_are = h.cells_are ∙ ap (λ z. Rattle.method_calls.specs.refine_form.Frames.before_stack setting statics
            h.at st.store
            ++ z) shown;
        names_are = names;
        self_is = h.self_is;
        stands = h.stands;
        callers_stand = (h.stands, h.put_long, h.few, h.callers_stand);
        depth_is = ap (λ k. 1 + k) d ∙ (let z : 1 + (1 + length u.callers) ≡ 1 + suc (length u.callers) = omega arith in
            z);
        in_depth = room;
        put_long = refl;
        few = (let l = length_map (λ (b : Binding). b.value) (bound s'.vars vals) in
            let e : length (values_of setting statics (bound s'.vars vals))
            ≡ length vals = ap (length {A = Value}) values in omega (arith, l, e, few));
        few_vals = omega arith;
        above_fits = tt;
      }

  pub fits_above : (vals : List Value) (depth : ℕ) → 1 + depth ≤ setting.limits.deep
      → Rattle.method_calls.specs.refine_form.Frames.AboveFits setting statics vals depth
  fits_above [] depth h = tt
  fits_above (v ∷ vals) depth h = h

  -- and if it ends, so is the frame below again, with the values above it
  abbrev pub leaves : (s s' : Scope) (u : Under) (vals : List Value) (st end : State) (before cells : List ℕ)
      → OpenFrame setting statics s u vals st before → OpenFrame setting statics s' (deeper s u st) [] end cells
      → length s'.vars ≤ 32 → OpenFrame setting statics s u (values_of setting statics end.frame)
      (record st { store = end.store; log = end.log }) cells
  leaves s s' u vals st end before cells h o few =
      let many : length end.frame ≡ length s'.vars = sym (length_map (λ (b : Binding). b.name) end.frame)
      ∙ ap (length {A = List ℕ}) o.names_are ∙ length_map (λ (v : Var). v.name.text) s'.vars in
      let lv = length_map (λ (b : Binding). b.value) end.frame in
      let inner = o.depth_is in
      let room : 2 + length u.callers ≤ setting.limits.deep =
      (let d = o.in_depth in let q : 1 + length (caller_of s u st ∷ u.callers)
      ≡ 2 + length u.callers = omega arith in omega (arith, inner, d, q)) in
      let stand = o.callers_stand in
      record {
        at = o.at;
        placed = o.placed;
        cells_are = o.cells_are ∙ ap (λ z. Rattle.method_calls.specs.refine_form.Frames.before_stack setting statics
            o.at
            end.store ++ z) (sym (same_stack s u st o.at end.store (values_of setting statics end.frame) stand.3
            h.put_long h.few (omega (arith, many, lv, few)) room));
        names_are = h.names_are;
        self_is = h.self_is;
        stands = stand.0;
        callers_stand = stand.3;
        depth_is = h.depth_is;
        in_depth = h.in_depth;
        put_long = h.put_long;
        few = h.few;
        few_vals = omega (arith, many, lv, few);
        above_fits = fits_above (values_of setting statics end.frame) st.depth
            (let d = h.depth_is in omega (arith, d, room));
      }

  -- a name means the same cell all the while
  pub means : (s : Scope) (u : Under) (vals : List Value) (st : State) (cells : List ℕ) (name : Ident)
      → OpenFrame setting statics s u vals st cells → cell_named setting.program st name.text
      ≡ cell_in setting statics s u name
  means s u vals st cells name h =
      let class : own_class st ≡ u.class = ap (λ z. class_of_head (object_at st.store z).head) h.self_is ∙ h.stands.0 in
      ap (λ l. slot_or_field setting.program st name.text (position (bytes_eq name.text) l)) h.names_are
      ∙ by class (position (bytes_eq name.text) (map (λ var. var.name.text) s.vars))
    where
      by : own_class st ≡ u.class → (o : Option ℕ) → slot_or_field setting.program st name.text o
          ≡ cell_at setting statics u name o
      by class (Some i) = refl
      by class None = ap (λ z. Part z (unwrap_or (field_of (class_fields setting.program (own_class st)) name.text) 0))
          h.self_is ∙ ap (λ z. Part u.self (unwrap_or (field_of (class_fields setting.program z) name.text) 0)) class

  -- depth, object and class stay
  pub class_stays : (s : Scope) (u : Under) (vals : List Value) (st : State) (cells : List ℕ)
      → OpenFrame setting statics s u vals st cells → own_class st ≡ u.class
  class_stays s u vals st cells h = ap (λ z. class_of_head (object_at st.store z).head) h.self_is ∙ h.stands.0

  -- ---- the fixed cells

  -- the address of the frame
  abbrev pub frame_at : Under → ℕ
  frame_at u = Rattle.method_calls.specs.refine_form.Frames.stack_base setting statics + FRAME_WORDS * length u.callers

  stack_base_cell : (at : Placing) (store : Rattle.method_calls.specs.roopl_semantics.Store.Store) (stack : List ℕ)
      → slice_index (memory setting statics at store stack) STACK_CELL
      ≡ Rattle.method_calls.specs.refine_form.Frames.stack_base setting statics
  stack_base_cell at store stack = refl

  stack_end_cell : (at : Placing) (store : Rattle.method_calls.specs.roopl_semantics.Store.Store) (stack : List ℕ)
      → slice_index (memory setting statics at store stack) END_CELL
      ≡ Rattle.method_calls.specs.refine_form.Frames.stack_base setting statics + N
  stack_end_cell at store stack = refl

  pub base_is : (s : Scope) (u : Under) (vals : List Value) (st : State) (cells : List ℕ)
      → OpenFrame setting statics s u vals st cells → length u.callers ≡ 0 → slice_index cells STACK_CELL ≡ frame_at u
  base_is s u vals st cells h none =
      ap (λ l. slice_index l STACK_CELL) h.cells_are ∙ stack_base_cell h.at st.store
      (stack_words setting statics h.at u st.frame vals)
      ∙ (let z : Rattle.method_calls.specs.refine_form.Frames.stack_base setting statics
      ≡ Rattle.method_calls.specs.refine_form.Frames.stack_base setting statics + FRAME_WORDS * length u.callers = omega
      (arith, none) in z)

  -- the stack's end determines the depth
  pub has_end : (s : Scope) (u : Under) (st : State) (cells : List ℕ) → OpenFrame setting statics s u [] st cells
      → Rattle.method_calls.specs.refine_form.Frames.stack_base setting statics + N < 2 ^ 31
      → Rattle.method_calls.specs.Facts.HasEnd cells (frame_at u)
      (Rattle.std.specs.Prelude.not (Rattle.std.specs.Prelude.nat_lt (1 + length u.callers) setting.limits.deep))
  has_end s u st cells h small =
      let e = ap (λ l. slice_index l END_CELL) h.cells_are ∙ stack_end_cell h.at st.store
      (stack_words setting statics h.at u st.frame []) in
      let d = h.depth_is in
      let i = h.in_depth in
      record {
        cell_in = subst (λ l. END_CELL < length l) (sym h.cells_are)
            (let p : END_CELL
            < length (memory setting statics h.at st.store (stack_words setting statics h.at u st.frame []))
            = omega arith in p);
        small = omega (arith, e, small);
        at_end = λ full. let q = none_left (1 + length u.callers) setting.limits.deep full in omega (arith, e, d, i, q);
        room = λ not_full. let q = some_left (1 + length u.callers) setting.limits.deep not_full in omega (arith, e, q);
      }
    where
      none_left : (a b : ℕ) → Rattle.std.specs.Prelude.not (Rattle.std.specs.Prelude.nat_lt a b) ≡ true → b ≤ a
      none_left a b e = grind (arith, Rattle.std.proofs.lemmas.Bool.Decides.nat_tests, e)

      some_left : (a b : ℕ) → Rattle.std.specs.Prelude.not (Rattle.std.specs.Prelude.nat_lt a b) ≡ false → a < b
      some_left a b e = grind (arith, Rattle.std.proofs.lemmas.Bool.Decides.nat_tests, e)

  -- only the frame of main, with nothing stored above it: the memory is the layout
  pub ends : (s : Scope) (st : State) (cells : List ℕ) (self class object : ℕ)
      → OpenFrame setting statics s (record {
        callers = [];
        self = self;
        class = class;
        object = object;
        put_by = replicate FIRST_VARIABLE 0;
      }) [] st cells → st.frame ≡ [] → 1 ≤ setting.limits.deep
      → cells ≡ Rattle.method_calls.specs.roopl_semantics.Layout.layout setting.program setting.limits statics st.store
      st.log
  ends s st cells self class object h alone deep =
      let u : Under = record {
        callers = [];
        self = self;
        class = class;
        object = object;
        put_by = replicate FIRST_VARIABLE 0;
      } in
      let L : Placing → List ℕ = λ at. Rattle.method_calls.specs.roopl_semantics.Layout.laid setting.program
      setting.limits statics st.store at (replicate (FRAME_WORDS * setting.limits.deep) 0) in
      let zeros : filled_to setting statics N (stack_words setting statics h.at u [] []) ≡ replicate N 0 =
      (let z : FRAME_WORDS ≤ N = omega (arith, deep) in fill_more N [] FRAME_WORDS z
      ∙ (let y : N - 0 ≡ N = omega arith in ap (λ j. replicate j 0) y)) in
      h.cells_are
      ∙ ap (λ f. Rattle.method_calls.specs.refine_form.Frames.before_stack setting statics h.at st.store
      ++ filled_to setting statics N (stack_words setting statics h.at u f [])) alone
      ∙ ap (λ z. Rattle.method_calls.specs.refine_form.Frames.before_stack setting statics h.at st.store ++ z) zeros
      ∙ ap (λ o. L (unwrap_or o Rattle.method_calls.specs.roopl_semantics.Layout.no_placing)) (sym h.placed)

  -- ---- what is saved

  pub get_in : (xs ys : List ℕ) (y : ℕ) → slice_index (xs ++ (y ∷ ys)) (length xs) ≡ y
  get_in [] ys y = refl
  get_in (x ∷ xs) ys y = get_in xs ys y

  pub set_in : (xs ys : List ℕ) (y z : ℕ) → slice_set (xs ++ (y ∷ ys)) (length xs) z ≡ xs ++ (z ∷ ys)
  set_in [] ys y z = refl
  set_in (x ∷ xs) ys y z = ap (λ l. x ∷ l) (set_in xs ys y z)

  -- the memory, split at the frame
  module _ (at : Placing) (store : Rattle.method_calls.specs.roopl_semantics.Store.Store) (u : Under)
      (frame : List Binding)
      (vals : List Value) (o : ℕ) (more : List ℕ) where
    abbrev low : List ℕ
    low = Rattle.method_calls.specs.refine_form.Frames.before_stack setting statics at store
        ++ callers_words setting statics at u.callers

    abbrev high : List ℕ
    high = (((more ++ value_words setting statics at (values_of setting statics frame))
        ++ replicate (FRAME_WORDS - (3 + length (more ++ value_words setting statics at
        (values_of setting statics frame))))
        0) ++ above_words setting statics at vals)

    abbrev top : List ℕ
    top = high ++ replicate (N - (length (callers_words setting statics at u.callers) + (3 + length high))) 0

    pub split : (l p : ℕ) → u.put_by ≡ l ∷ o ∷ p ∷ more → memory setting statics at store
        (stack_words setting statics at u frame vals) ≡ low ++ (l ∷ o ∷ p ∷ top)
    split l p e =
        let b = Rattle.method_calls.specs.refine_form.Frames.before_stack setting statics at store in
        let a = callers_words setting statics at u.callers in
        let lf : 3 + length (more ++ value_words setting statics at (values_of setting statics frame))
        ≡ suc (suc (suc (length (more ++ value_words setting statics at (values_of setting statics frame))))) =
        omega arith in
        let framed : frame_words setting statics at (l ∷ o ∷ p ∷ more) (values_of setting statics frame)
        ++ above_words setting statics at vals ≡ l ∷ o ∷ p ∷ high =
        ap (λ k. l ∷ o ∷ p ∷ (((more ++ value_words setting statics at (values_of setting statics frame))
        ++ replicate (FRAME_WORDS - k) 0) ++ above_words setting statics at vals)) (sym lf) in
        let la : length (a ++ (l ∷ o ∷ p ∷ high)) ≡ length a + (3 + length high) = length-append a (l ∷ o ∷ p ∷ high)
        ∙ (let z : length a + suc (suc (suc (length high))) ≡ length a + (3 + length high) = omega arith in z) in
        ap (λ w. memory setting statics at store (a ++ (frame_words setting statics at w
        (values_of setting statics frame) ++ above_words setting statics at vals))) e
        ∙ ap (λ w. b ++ filled_to setting statics N (a ++ w)) framed
        ∙ ap (λ k. b ++ ((a ++ (l ∷ o ∷ p ∷ high)) ++ replicate (N - k) 0)) la
        ∙ ap (λ w. b ++ w) (append_assoc a (l ∷ o ∷ p ∷ high) (replicate (N - (length a + (3 + length high))) 0))
        ∙ sym (append_assoc b a (l ∷ o ∷ p ∷ top))

  module _ (s : Scope) (u : Under) (vals : List Value) (st : State) (cells : List ℕ)
      (h : OpenFrame setting statics s u vals st cells) (l o p : ℕ) (more : List ℕ) (e : u.put_by ≡ l ∷ o ∷ p ∷ more)
      (long : length (Rattle.method_calls.specs.refine_form.Frames.before_stack setting statics h.at st.store)
      ≡ Rattle.method_calls.specs.refine_form.Frames.stack_base setting statics) where
    abbrev under_it : List ℕ
    under_it = low h.at st.store u st.frame vals o more

    abbrev over_it : List ℕ
    over_it = top h.at st.store u st.frame vals o more

    pub place_is : length under_it ≡ frame_at u
    place_is = length-append (Rattle.method_calls.specs.refine_form.Frames.before_stack setting statics h.at st.store)
        (callers_words setting statics h.at u.callers) ∙ ap
        (λ k. k + length (callers_words setting statics h.at u.callers)) long
        ∙ ap (λ k. Rattle.method_calls.specs.refine_form.Frames.stack_base setting statics + k)
        (length_callers h.at st.store u.callers h.callers_stand)

    place_two : length (under_it ++ (l ∷ o ∷ [])) ≡ frame_at u + PLACE_WORD
    place_two = length-append under_it (l ∷ o ∷ []) ∙ ap (λ k. k + PLACE_WORD) place_is

    pub shown : cells ≡ under_it ++ (l ∷ o ∷ p ∷ over_it)
    shown = h.cells_are ∙ split h.at st.store u st.frame vals o more l p e

    pub link_word : slice_index cells (frame_at u) ≡ l
    link_word = ap (λ c. slice_index c (frame_at u)) shown
        ∙ ap (slice_index (under_it ++ (l ∷ o ∷ p ∷ over_it))) (sym place_is) ∙ get_in under_it (o ∷ p ∷ over_it) l

    two_in : under_it ++ (l ∷ o ∷ p ∷ over_it) ≡ (under_it ++ (l ∷ o ∷ [])) ++ (p ∷ over_it)
    two_in = sym (append_assoc under_it (l ∷ o ∷ []) (p ∷ over_it))

    pub place_word : slice_index cells (frame_at u + PLACE_WORD) ≡ p
    place_word = ap (λ c. slice_index c (frame_at u + PLACE_WORD)) (shown ∙ two_in)
        ∙ ap (slice_index ((under_it ++ (l ∷ o ∷ [])) ++ (p ∷ over_it))) (sym place_two)
        ∙ get_in (under_it ++ (l ∷ o ∷ [])) over_it p

    pub place_one : length (under_it ++ (l ∷ [])) ≡ frame_at u + OBJECT_WORD
    place_one = length-append under_it (l ∷ []) ∙ ap (λ k. k + OBJECT_WORD) place_is

    pub one_in : under_it ++ (l ∷ o ∷ p ∷ over_it) ≡ (under_it ++ (l ∷ [])) ++ (o ∷ p ∷ over_it)
    one_in = sym (append_assoc under_it (l ∷ []) (o ∷ p ∷ over_it))

    pub object_word : slice_index cells (frame_at u + OBJECT_WORD) ≡ o
    object_word =
        ap (λ c. slice_index c (frame_at u + OBJECT_WORD)) (shown ∙ one_in)
        ∙ ap (slice_index ((under_it ++ (l ∷ [])) ++ (o ∷ p ∷ over_it))) (sym place_one)
        ∙ get_in (under_it ++ (l ∷ [])) (p ∷ over_it) o

    -- another object is saved
    abbrev pub put_object : (o' : ℕ) → OpenFrame setting statics s (record u { put_by = l ∷ o' ∷ p ∷ more }) vals st
        (slice_set cells (frame_at u + OBJECT_WORD) o')
    put_object o' =
        let both : slice_set cells (frame_at u + OBJECT_WORD) o' ≡ under_it ++ (l ∷ o' ∷ p ∷ over_it) =
        ap (λ c. slice_set c (frame_at u + OBJECT_WORD) o') (shown ∙ one_in)
        ∙ ap (λ i. slice_set ((under_it ++ (l ∷ [])) ++ (o ∷ p ∷ over_it)) i o') (sym place_one)
        ∙ set_in (under_it ++ (l ∷ [])) (p ∷ over_it) o o'
        ∙ append_assoc under_it (l ∷ []) (o' ∷ p ∷ over_it) in
        record {
          at = h.at;
          placed = h.placed;
          cells_are = both ∙ sym (split h.at st.store (record u { put_by = l ∷ o' ∷ p ∷ more }) st.frame vals o' more l
              p refl);
          names_are = h.names_are;
          self_is = h.self_is;
          stands = h.stands;
          callers_stand = h.callers_stand;
          depth_is = h.depth_is;
          in_depth = h.in_depth;
          put_long = (let q = h.put_long in let z : length (l ∷ o ∷ p ∷ more)
              ≡ FIRST_VARIABLE = sym (ap (length {A = ℕ}) e)
              ∙ q in z);
          few = h.few;
          few_vals = h.few_vals;
          above_fits = h.above_fits;
        }

    -- another link and another place are saved
    pub put_opens : (l' p' : ℕ) → OpenFrame setting statics s (record u { put_by = l' ∷ o ∷ p' ∷ more }) vals st
        (slice_set (slice_set cells (frame_at u) l') (frame_at u + PLACE_WORD) p')
    put_opens l' p' =
        let first : slice_set cells (frame_at u) l' ≡ under_it ++ (l' ∷ o ∷ p ∷ over_it) =
        ap (λ c. slice_set c (frame_at u) l') shown ∙ ap (λ i. slice_set (under_it ++ (l ∷ o ∷ p ∷ over_it)) i l')
        (sym place_is) ∙ set_in under_it (o ∷ p ∷ over_it) l l' in
        let long2 : length (under_it ++ (l' ∷ o ∷ [])) ≡ frame_at u + PLACE_WORD = length-append under_it (l' ∷ o ∷ [])
        ∙ ap (λ k. k + PLACE_WORD) place_is in
        let both : slice_set (slice_set cells (frame_at u) l') (frame_at u + PLACE_WORD) p'
        ≡ under_it ++ (l' ∷ o ∷ p' ∷ over_it) =
        ap (λ c. slice_set c (frame_at u + PLACE_WORD) p') (first
        ∙ sym (append_assoc under_it (l' ∷ o ∷ []) (p ∷ over_it)))
        ∙ ap (λ i. slice_set ((under_it ++ (l' ∷ o ∷ [])) ++ (p ∷ over_it)) i p') (sym long2)
        ∙ set_in (under_it ++ (l' ∷ o ∷ [])) over_it p p'
        ∙ append_assoc under_it (l' ∷ o ∷ []) (p' ∷ over_it) in
        record {
          at = h.at;
          placed = h.placed;
          cells_are = both ∙ sym (split h.at st.store (record u { put_by = l' ∷ o ∷ p' ∷ more }) st.frame vals o more l'
              p' refl);
          names_are = h.names_are;
          self_is = h.self_is;
          stands = h.stands;
          callers_stand = h.callers_stand;
          depth_is = h.depth_is;
          in_depth = h.in_depth;
          put_long = (let q = h.put_long in let z : length (l ∷ o ∷ p ∷ more)
              ≡ FIRST_VARIABLE = sym (ap (length {A = ℕ}) e)
              ∙ q in z);
          few = h.few;
          few_vals = h.few_vals;
          above_fits = h.above_fits;
        }
