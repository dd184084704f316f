-- A frame with all arguments above it is the callee's current frame, and back: what is kept goes
-- over.
use Rattle.std.proofs.Common.{◌≡◌, ℕ, suc, ◌+◌, ◌<◌, Bool, true, false, List, [], ◌∷◌, length, map, Some, refl, sym, ap}
use Rattle.std.proofs.Common.{◌∙◌, subst, arith}
use Rattle.std.proofs.lemmas.Bool.{ltb-true, ltb-false}
use Rattle.std.specs.Prelude.{nat_lt}
use Rattle.method_calls.specs.class_rules.declared.kind.Kind.TheVariants as kind
use Rattle.method_calls.specs.rpp_tree.declared.tree.Ident.{Ident}
use Rattle.method_calls.specs.rpp_tree.declared.tree.Var.{Var}
use Rattle.method_calls.specs.class_rules.declared.kind.Kind.{Kind}
use Rattle.method_calls.specs.roopl_semantics.Store.{Value, Store, State, main_name}
use Rattle.method_calls.specs.roopl_semantics.Execution.{Setting, bound}
use Rattle.method_calls.specs.roopl_semantics.Laws.{holders_among}
use Rattle.method_calls.specs.meaning_sound.Sound.{named_fits, head_named, is_live, AllFit, local_type, bound_value}
use Rattle.method_calls.specs.meaning_sound.Sound.{held, cell_kind}
use Rattle.method_calls.specs.meaning_sound.Sound.{part_kind}
use Rattle.method_calls.proofs.meaning_sound_laws.Objects.{all_live}
use Rattle.method_calls.proofs.meaning_sound_laws.Invocations.{types_of_params, bound_values}
use Rattle.method_calls.specs.refine_form.Form.{Scope, Moved, pairs}
use Rattle.method_calls.specs.Names.{deeper}
use Rattle.method_calls.specs.refine_form.Frames.{Under, cell_in}
use Rattle.method_calls.specs.refine_form.Stands.{shape_of, extra, moved_value, AllMoved, Kept}
use Rattle.refine_calls.proofs.KeptMoves.{CountsAre}

-- the names and their values
pub pairs_values : (names : List Ident) (vals : List Value) → length vals ≡ length names
    → map moved_value (pairs names vals) ≡ vals
pairs_values [] [] e = refl
pairs_values [] (v ∷ vals) e = absurd (omega (arith, e))
pairs_values (x ∷ names) [] e = absurd (omega (arith, e))
pairs_values (x ∷ names) (v ∷ vals) e = ap (λ l. v ∷ l)
    (pairs_values names vals (let q : suc (length vals) ≡ suc (length names) = e in omega (arith, q)))

module _ (setting : Setting) (statics : List ℕ) where
  -- the names have these types in a scope, on objects of a class
  abbrev pub HaveKinds : Store → Scope → Under → List Ident → List Kind → Type 0
  HaveKinds store s u [] [] = Unit {0}
  HaveKinds store s u [] (k ∷ ks) = ⊥
  HaveKinds store s u (x ∷ names) [] = ⊥
  HaveKinds store s u (x ∷ names) (k ∷ ks) = (cell_kind setting.program (shape_of setting.program s) store
      (cell_in setting statics s u x) ≡ Some k) × HaveKinds store s u names ks

  -- so what has moved up from them has these types
  pub moved_types : (store : Store) (s : Scope) (u : Under) (names : List Ident) (ks : List Kind) (vals : List Value)
      → HaveKinds store s u names ks → AllMoved setting statics store s u (pairs names vals)
      → length vals ≡ length names → AllFit setting.program store ks vals
  moved_types store s u [] [] [] k h e = tt
  moved_types store s u [] [] (v ∷ vals) k h e = absurd (omega (arith, e))
  moved_types store s u [] (x ∷ ks) vals k h e = absurd k
  moved_types store s u (x ∷ names) [] vals k h e = absurd k
  moved_types store s u (x ∷ names) (t ∷ ks) [] k h e = absurd (omega (arith, e))
  moved_types store s u (x ∷ names) (t ∷ ks) (v ∷ vals) k h e =
      let same : h.0.kind ≡ t = (let q : Some h.0.kind ≡ Some t = sym h.0.of_cell ∙ k.0 in cc) in (
        subst (λ z. Rattle.method_calls.specs.meaning_sound.Sound.is_of_kind setting.program store v z ≡ true) same
            h.0.fit,
        moved_types store s u names ks vals k.1 h.1 (let q : suc (length vals) ≡ suc (length names) = e in
            omega (arith, q)),
      )

  -- and back
  pub types_moved : (store : Store) (s : Scope) (u : Under) (names : List Ident) (ks : List Kind) (vals : List Value)
      → HaveKinds store s u names ks → AllFit setting.program store ks vals
      → AllMoved setting statics store s u (pairs names vals)
  types_moved store s u [] [] vals k h = tt
  types_moved store s u [] (x ∷ ks) vals k h = absurd k
  types_moved store s u (x ∷ names) [] vals k h = absurd k
  types_moved store s u (x ∷ names) (t ∷ ks) [] k h = absurd h
  types_moved store s u (x ∷ names) (t ∷ ks) (v ∷ vals) k h =
      (record { kind = t; of_cell = k.0; fit = h.0 }, types_moved store s u names ks vals k.1 h.1)

  abbrev pub callee_state : List Var → List Value → State → State
  callee_state params vals st = record {
    frame = bound params vals;
    self = st.self;
    depth = 1 + st.depth;
    store = st.store;
    log = st.log;
  }

  module _ (s s' : Scope) (u : Under) (vals : List Value) (st : State) (args : List Ident)
      (many : length vals ≡ length args) (k : Kept setting statics s u (pairs args vals) st)
      (kinds : HaveKinds st.store s u args (map local_type (shape_of setting.program s')))
      (inside : s'.class < length setting.program.classes)
      (above : named_fits setting.program (kind.Class s'.class) (head_named st.store u.self) ≡ true) where
    values : List Value
    values = map bound_value (bound s'.vars vals)

    fit : AllFit setting.program st.store (map local_type (shape_of setting.program s')) vals
    fit = moved_types st.store s u args (map local_type (shape_of setting.program s')) vals kinds k.moved_fit many

    bound_are : map bound_value (bound s'.vars vals) ≡ vals
    bound_are = bound_values setting.program st.store s'.vars vals
        (subst (λ ks. AllFit setting.program st.store ks vals) (types_of_params setting.program s'.vars) fit)

    total : (m : ℕ) → held m (callee_state s'.vars vals st) + extra (deeper s u st) [] m
        ≡ held m st + extra u (pairs args vals) m
    total m =
        let a = ap (holders_among m) bound_are in
        let b = ap (holders_among m) (pairs_values args vals many) in
        omega (arith, a, b)

    live : (m : ℕ) → 0 < extra (deeper s u st) [] m → is_live st.store m ≡ true
    live m p = by (nat_lt 0 (holders_among m (map bound_value st.frame))) refl
      where
        by : (b : Bool) → nat_lt 0 (holders_among m (map bound_value st.frame)) ≡ b → is_live st.store m ≡ true
        by true e = all_live setting.program st.store (map local_type (shape_of setting.program s))
            (map bound_value st.frame) m k.variables (ltb-true 0 (holders_among m (map bound_value st.frame)) e)
        by false e = k.lives m (let q = ltb-false 0 (holders_among m (map bound_value st.frame)) e in
            omega (arith, q, p))

    pub counts_enter : CountsAre u (pairs args vals) st → CountsAre (deeper s u st) [] (callee_state s'.vars vals st)
    counts_enter counts m c q = let a = counts m c q in let b = total m in omega (arith, a, b)

    pub kept_enters : Kept setting statics s' (deeper s u st) [] (callee_state s'.vars vals st)
    kept_enters = record {
      class_inside = inside;
      variables = subst (AllFit setting.program st.store (map local_type (shape_of setting.program s'))) (sym bound_are)
          fit;
      objects = k.objects;
      arrays = k.arrays;
      lives = live;
      self_is = above;
      own_is = k.own_is;
      self_held = (let a = k.self_held in omega (arith, a));
      main_extra = (let a = total main_name in let b = k.main_extra in let c = k.main_unheld in omega (arith, a, b, c));
      main_unheld = (let a = total main_name in let b = k.main_extra in let c = k.main_unheld in
          omega (arith, a, b, c));
      fresh = k.fresh;
      placed = k.placed;
      grounded = k.grounded;
      callers_fit = (k.variables, k.self_is, k.own_is, k.callers_fit);
      callers_held = ((let a = k.self_held in omega (arith, a)), k.callers_held);
      moved_fit = tt;
    }

  module _ (s s' : Scope) (u : Under) (st end : State) (args : List Ident) (moved : List Moved)
      (before : Kept setting statics s u moved st) (k : Kept setting statics s' (deeper s u st) [] end)
      (kinds : HaveKinds end.store s u args (map local_type (shape_of setting.program s')))
      (many : length (map bound_value end.frame) ≡ length args) where
    abbrev pub after_call : State
    after_call = record st { store = end.store; log = end.log }

    total' : (m : ℕ) → held m after_call + extra u (pairs args (map bound_value end.frame)) m
        ≡ held m end + extra (deeper s u st) [] m
    total' m =
        let b = ap (holders_among m) (pairs_values args (map bound_value end.frame) many) in
        omega (arith, b)

    live' : (m : ℕ) → 0 < extra u (pairs args (map bound_value end.frame)) m → is_live end.store m ≡ true
    live' m p = by (nat_lt 0 (holders_among m (map bound_value end.frame))) refl
      where
        by : (b : Bool) → nat_lt 0 (holders_among m (map bound_value end.frame)) ≡ b → is_live end.store m ≡ true
        by true e = all_live setting.program end.store (map local_type (shape_of setting.program s'))
            (map bound_value end.frame) m k.variables (ltb-true 0 (holders_among m (map bound_value end.frame)) e)
        by false e = k.lives m (let q = ltb-false 0 (holders_among m (map bound_value end.frame)) e in
            let b = ap (holders_among m) (pairs_values args (map bound_value end.frame) many) in omega (arith, q, p, b))

    pub counts_leave : CountsAre (deeper s u st) [] end → CountsAre u (pairs args (map bound_value end.frame))
        after_call
    counts_leave counts m c q = let a = counts m c q in let b = total' m in omega (arith, a, b)

    pub kept_leaves : Kept setting statics s u (pairs args (map bound_value end.frame)) after_call
    kept_leaves = record {
      class_inside = before.class_inside;
      variables = k.callers_fit.0;
      objects = k.objects;
      arrays = k.arrays;
      lives = live';
      self_is = k.callers_fit.1;
      own_is = k.callers_fit.2;
      self_held = before.self_held;
      main_extra = (let a = total' main_name in let b = k.main_extra in let c = k.main_unheld in
          let d = before.main_extra in omega (arith, a, b, c, d));
      main_unheld = (let a = total' main_name in let b = k.main_extra in let c = k.main_unheld in
          let d = before.main_extra in omega (arith, a, b, c, d));
      fresh = k.fresh;
      placed = k.placed;
      grounded = k.grounded;
      callers_fit = k.callers_fit.3;
      callers_held = k.callers_held.1;
      moved_fit = types_moved end.store s u args (map local_type (shape_of setting.program s'))
          (map bound_value end.frame)
          kinds k.variables;
    }
