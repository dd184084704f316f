-- A frame with its arguments and its receiver taken is the current frame of the receiver's method,
-- and back: what is kept goes over.
use Rattle.std.proofs.Common.{◌≡◌, ◌≢◌, ℕ, ◌+◌, ◌<◌, Bool, true, false, List, [], ◌∷◌, length, map, Some, refl, sym, ap}
use Rattle.std.proofs.Common.{◌∙◌, subst, arith}
use Rattle.std.proofs.lemmas.Bool.{ltb-true, ltb-false}
use Rattle.std.specs.Prelude.{nat_lt, if◌then◌else◌}
use Rattle.method_calls.specs.class_rules.declared.kind.Kind.TheVariants as kind
use Rattle.method_calls.specs.rpp_tree.declared.tree.Ident.{Ident}
use Rattle.method_calls.specs.class_rules.declared.kind.Kind.{Kind}
use Rattle.method_calls.specs.roopl_semantics.Store.{Value, Name, OfClass, State, main_name, object_at, class_of_head}
use Rattle.method_calls.specs.roopl_semantics.Execution.{Setting, bound}
use Rattle.method_calls.specs.roopl_semantics.Laws.{one_if_name, holders_among}
use Rattle.method_calls.specs.meaning_sound.Sound.{named_fits, head_named, is_live, AllFit, local_type, bound_value, held, cell_kind}
use Rattle.method_calls.proofs.meaning_sound_laws.Objects.{all_live}
use Rattle.method_calls.proofs.meaning_sound_laws.Stores.{same_number, other_number}
use Rattle.method_calls.proofs.meaning_sound_laws.Invocations.{types_of_params, bound_values}
use Rattle.method_calls.specs.refine_form.Form.{Scope, Moved, pairs}
use Rattle.method_calls.specs.refine_form.Frames.{Under, cell_in, spare_words}
use Rattle.method_calls.specs.refine_form.Stands.{shape_of, extra, receiver_held, Kept}
use Rattle.method_calls.specs.refine_form.Worlds.{Place}
use Rattle.method_calls.specs.Names.{deeper_on}
use Rattle.refine_calls.proofs.KeptMoves.{CountsAre}
use Rattle.refine_calls.proofs.EntersFit.{pairs_values, HaveKinds, moved_types, types_moved}

module _ (place : Place) where
  abbrev setting : Setting
  setting = place.setting

  abbrev statics : List ℕ
  statics = place.statics

  -- the receiver as a value that has moved
  abbrev pub taken : Ident → ℕ → Moved
  taken x n = record { from = x; value = Name n }

  -- without the last value that has moved
  pub kept_less : (s : Scope) (u : Under) (m : Moved) (moved : List Moved) (st : State)
      → Kept setting statics s u (m ∷ moved) st → Kept setting statics s u moved st
  kept_less s u m moved st k = record {
    class_inside = k.class_inside;
    variables = k.variables;
    objects = k.objects;
    arrays = k.arrays;
    lives = λ n p. k.lives n (omega (arith, p));
    self_is = k.self_is;
    own_is = k.own_is;
    self_held = k.self_held;
    main_extra = (let a = k.main_extra in omega (arith, a));
    main_unheld = k.main_unheld;
    fresh = k.fresh;
    placed = k.placed;
    grounded = k.grounded;
    callers_fit = k.callers_fit;
    callers_held = k.callers_held;
    moved_fit = k.moved_fit.1;
  }

  pub once : (n : ℕ) → one_if_name n (Name n) ≡ 1
  once n = ap (λ b. if b then 1 else 0) (same_number n)

  -- the caller's object in word 1 counts the receiver
  pub receiver_once : (u : Under) (n : ℕ) → 0 < u.object → (m : ℕ)
      → receiver_held m n (0 ∷ u.object ∷ 0 ∷ spare_words) ≡ one_if_name m (Name n)
  receiver_once u n positive m = ap (λ b. if b then 0 else one_if_name m (Name n))
      (other_number u.object 0 (λ e. omega (arith, e, positive)))

  module _ (s s' : Scope) (u : Under) (x : Ident) (n : ℕ) (vals : List Value) (st : State) (args : List Ident)
      (many : length vals ≡ length args) (k : Kept setting statics s u (taken x n ∷ pairs args vals) st)
      (kinds : HaveKinds setting statics st.store s u args (map local_type (shape_of setting.program s')))
      (inside : s'.class < length setting.program.classes)
      (own_is : head_named st.store n ≡ Some (OfClass (class_of_head (object_at st.store n).head)))
      (above : named_fits setting.program (kind.Class s'.class) (head_named st.store n) ≡ true)
      (positive : 0 < u.object) where
    abbrev pub on_state : State
    on_state = record { frame = bound s'.vars vals; self = n; depth = 1 + st.depth; store = st.store; log = st.log }

    fit : AllFit setting.program st.store (map local_type (shape_of setting.program s')) vals
    fit = moved_types setting statics st.store s u args (map local_type (shape_of setting.program s')) vals kinds
        k.moved_fit.1 many

    bound_are : map bound_value (bound s'.vars vals) ≡ vals
    bound_are = bound_values setting.program st.store s'.vars vals
        (subst (λ ks. AllFit setting.program st.store ks vals) (types_of_params setting.program s'.vars) fit)

    total : (m : ℕ) → held m on_state + extra (deeper_on place s u st n) [] m
        ≡ held m st + extra u (taken x n ∷ pairs args vals) m
    total m =
        let a = ap (holders_among m) bound_are in
        let b = ap (holders_among m) (pairs_values args vals many) in
        let r = receiver_once u n positive m in
        omega (arith, a, b, r)

    live : (m : ℕ) → 0 < extra (deeper_on place s u st n) [] m → is_live st.store m ≡ true
    live m p = by (nat_lt 0 (holders_among m (map bound_value st.frame))) refl
      where
        by : (b : Bool) → nat_lt 0 (holders_among m (map bound_value st.frame)) ≡ b → is_live st.store m ≡ true
        by true e = all_live setting.program st.store (map local_type (shape_of setting.program s))
            (map bound_value st.frame) m k.variables (ltb-true 0 (holders_among m (map bound_value st.frame)) e)
        by false e = k.lives m (let q = ltb-false 0 (holders_among m (map bound_value st.frame)) e in
            let r = receiver_once u n positive m in omega (arith, q, p, r))

    pub counts_on : CountsAre u (taken x n ∷ pairs args vals) st → CountsAre (deeper_on place s u st n) [] on_state
    counts_on counts m c q = let a = counts m c q in let b = total m in omega (arith, a, b)

    pub kept_on : Kept setting statics s' (deeper_on place s u st n) [] on_state
    kept_on = record {
      class_inside = inside;
      variables = subst (AllFit setting.program st.store (map local_type (shape_of setting.program s'))) (sym bound_are)
          fit;
      objects = k.objects;
      arrays = k.arrays;
      lives = live;
      self_is = above;
      own_is = own_is;
      self_held = (let r = receiver_once u n positive n in let o = once n in omega (arith, r, o));
      main_extra = (let a = total main_name in let b = k.main_extra in let c = k.main_unheld in omega (arith, a, b, c));
      main_unheld = (let a = total main_name in let b = k.main_extra in let c = k.main_unheld in
          omega (arith, a, b, c));
      fresh = k.fresh;
      placed = k.placed;
      grounded = k.grounded;
      callers_fit = (k.variables, k.self_is, k.own_is, k.callers_fit);
      callers_held = ((let a = k.self_held in omega (arith, a)), k.callers_held);
      moved_fit = tt;
    }

  module _ (s s' : Scope) (u : Under) (x : Ident) (n : ℕ) (st end : State) (args : List Ident) (moved : List Moved)
      (before : Kept setting statics s u moved st) (k : Kept setting statics s' (deeper_on place s u st n) [] end)
      (kinds : HaveKinds setting statics end.store s u args (map local_type (shape_of setting.program s')))
      (many : length (map bound_value end.frame) ≡ length args) (type : Kind)
      (x_has : cell_kind setting.program (shape_of setting.program s) end.store (cell_in setting statics s u x)
      ≡ Some type) (x_fit : named_fits setting.program type (head_named end.store n) ≡ true) (positive : 0 < u.object)
    where
      abbrev pub home : State
      home = record st { store = end.store; log = end.log }

      abbrev pub back : List Moved
      back = taken x n ∷ pairs args (map bound_value end.frame)

      total' : (m : ℕ) → held m home + extra u back m ≡ held m end + extra (deeper_on place s u st n) [] m
      total' m =
          let b = ap (holders_among m) (pairs_values args (map bound_value end.frame) many) in
          let r = receiver_once u n positive m in
          omega (arith, b, r)

      live' : (m : ℕ) → 0 < extra u back m → is_live end.store m ≡ true
      live' m p = by (nat_lt 0 (holders_among m (map bound_value end.frame))) refl
        where
          by : (b : Bool) → nat_lt 0 (holders_among m (map bound_value end.frame)) ≡ b → is_live end.store m ≡ true
          by true e = all_live setting.program end.store (map local_type (shape_of setting.program s'))
              (map bound_value end.frame) m k.variables (ltb-true 0 (holders_among m (map bound_value end.frame)) e)
          by false e = k.lives m (let q = ltb-false 0 (holders_among m (map bound_value end.frame)) e in
              let b = ap (holders_among m) (pairs_values args (map bound_value end.frame) many) in
              let r = receiver_once u n positive m in omega (arith, q, p, b, r))

      pub counts_off : CountsAre (deeper_on place s u st n) [] end → CountsAre u back home
      counts_off counts m c q = let a = counts m c q in let b = total' m in omega (arith, a, b)

      pub kept_off : Kept setting statics s u back home
      kept_off = record {
        class_inside = before.class_inside;
        variables = k.callers_fit.0;
        objects = k.objects;
        arrays = k.arrays;
        lives = live';
        self_is = k.callers_fit.1;
        own_is = k.callers_fit.2;
        self_held = before.self_held;
        main_extra = (let a = total' main_name in let b = k.main_extra in let c = k.main_unheld in
            let d = before.main_extra in omega (arith, a, b, c, d));
        main_unheld = (let a = total' main_name in let b = k.main_extra in let c = k.main_unheld in
            let d = before.main_extra in omega (arith, a, b, c, d));
        fresh = k.fresh;
        placed = k.placed;
        grounded = k.grounded;
        callers_fit = k.callers_fit.3;
        callers_held = k.callers_held.1;
        moved_fit = (
          record { kind = type; of_cell = x_has; fit = x_fit },
          types_moved setting statics end.store s u args (map local_type (shape_of setting.program s'))
              (map bound_value end.frame) kinds k.variables,
        );
      }

      -- the receiver is not the main object
      pub no_main : n ≢ main_name
      no_main e =
          let a = k.main_extra in
          let r = receiver_once u n positive main_name in
          let o : one_if_name main_name (Name n) ≡ 1 = ap (λ z. one_if_name main_name (Name z)) e ∙ once main_name in
          omega (arith, a, r, o)
