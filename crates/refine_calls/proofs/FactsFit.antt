-- All facts of frames and of calls on the current object, of the one relation.
use Rattle.std.proofs.Common.{◌≡◌, ℕ, suc, ◌+◌, ◌^◌, ◌<◌, ◌≤◌, true, false, List, [], ◌∷◌, length, map, Option, Some}
use Rattle.std.proofs.Common.{None, refl, sym, ap, ◌∙◌, subst, arith}
use Rattle.std.proofs.lemmas.Bool.Decides.{nat_tests}
use Rattle.std.proofs.lemmas.List.{length-map}
use Rattle.std.specs.Prelude.{position, not, nat_lt}
use Rattle.std.specs.Option.{unwrap_or}
use Rattle.std.specs.Str.{bytes_eq}
use Rattle.method_calls.specs.class_rules.declared.kind.Kind.TheVariants as kind
use Rattle.method_calls.specs.rpp_tree.declared.tree.Ident.{Ident}
use Rattle.method_calls.specs.rpp_tree.declared.tree.Var.{Var}
use Rattle.method_calls.specs.rpp_tree.Tree.{Source, Procedure}
use Rattle.method_calls.specs.class_rules.declared.kind.Kind.{Kind}
use Rattle.method_calls.specs.class_rules.Classes.{class_fields}
use Rattle.method_calls.specs.class_rules.Table.{table_of, dispatch_in}
use Rattle.method_calls.specs.class_rules.Overrides.{parameters_of}
use Rattle.method_calls.specs.roopl_semantics.Store.{Value, OfClass, Store, Binding, State}
use Rattle.method_calls.specs.class_rules.Members.{field_of}
use Rattle.method_calls.specs.roopl_semantics.Execution.{Setting, bound}
use Rattle.method_calls.specs.class_rules.Inheritance.{is_or_inherits, kind_of_var}
use Rattle.method_calls.specs.meaning_sound.Sound.{named_fits, head_named, local_type, cell_kind, part_kind}
use Rattle.method_calls.proofs.meaning_sound_laws.Classes.{KnowsClasses}
use Rattle.method_calls.proofs.meaning_sound_laws.Invocations.{types_of_params}
use Rattle.method_calls.proofs.meaning_sound_laws.Values.{variable_fits}
use Rattle.method_calls.specs.refine_form.Form.{Scope, Moved, MethodRoutines, pairs}
use Rattle.method_calls.specs.Facts.{IsSteady, ImageFacts, MoveFacts, OwnFacts, PutFacts, FrameFacts}
use Rattle.method_calls.specs.refine_form.Frames.{Under, cell_in, cell_at, OpenFrame}
use Rattle.refine_calls.proofs.FramesFit.{means, class_stays, enters, leaves}
use Rattle.method_calls.specs.refine_form.Stands.{local_of, shape_of, extra, moved_values, Stands}
use Rattle.refine_calls.proofs.Bridge.{typed, as_many_vars}
use Rattle.refine_calls.proofs.FactsMoves.{same_means, cell_is, moves_in, moves_back}
use Rattle.refine_calls.proofs.EntersFit.{pairs_values, HaveKinds, kept_enters, kept_leaves, counts_enter, counts_leave}
use Rattle.refine_calls.proofs.FramePlaces.{frame_small, object_small, frame_end, saves, puts, put_words, puts_back}
use Rattle.refine_calls.proofs.ClassPlaces.{class_above, table_read}
use Rattle.method_calls.specs.class_rules.Program.{IsAccepted}
use Rattle.method_calls.proofs.class_rules_laws.FoundMethods.{dispatched_method, own_range}
use Rattle.method_calls.proofs.meaning_sound_laws.Accepted.{knows_classes}
use Rattle.method_calls.proofs.meaning_sound_laws.Plainness.{program_plain}
use Rattle.method_calls.specs.refine_form.Worlds.{Place, world_of}
use Rattle.method_calls.specs.Facts.{HasPlace}
use Rattle.method_calls.specs.Names.{AllTyped, HasMethod, deeper, known_calls_of, method_slot_of}
use Rattle.refine_calls.specs.Laws.{Route, IsLinked}
use Rattle.refine_calls.proofs.Bridge.{reads_of}

pub known : (program : Source) → IsAccepted program → KnowsClasses program
known program accepted = knows_classes program accepted (program_plain program accepted)

pub not_full : (a b : ℕ) → not (nat_lt a b) ≡ false → a < b
not_full a b e = grind (arith, nat_tests, e)

module _ (place : Place) (routine : ℕ → Ident → ℕ) (linked : IsLinked place routine) where
  abbrev pub setting : Setting
  setting = place.setting

  abbrev pub statics : List ℕ
  statics = place.statics

  abbrev pub routines : MethodRoutines
  routines = place.routines

  pub classes : KnowsClasses place.setting.program
  classes = known place.setting.program linked.accepted

  abbrev pub program : Source
  program = setting.program

  -- arguments have the types of the parameters, whatever has moved
  pub args_have : (s : Scope) (u : Under) (moved : List Moved) (st : State) (cells : List ℕ)
      → Stands setting statics s u moved st cells → (store : Store) → head_named store u.self ≡ Some (OfClass u.class)
      → (args : List Ident) (ks : List Kind) → AllTyped program s args ks → HaveKinds setting statics store s u args ks
  args_have s u moved st cells h store own [] [] t = tt
  args_have s u moved st cells h store own [] (k ∷ ks) t = absurd t
  args_have s u moved st cells h store own (x ∷ args) [] t = absurd t
  args_have s u moved st cells h store own (x ∷ args) (k ∷ ks) t = (
    by (position (bytes_eq x.text) (map (λ (v : Var). v.name.text) s.vars))
        ∙ here,
    args_have s u moved st cells h store own args ks t.1,
  )
    where
      here : cell_kind program (shape_of program s) st.store (cell_in setting statics s u x) ≡ Some k
      here =
          ap (cell_kind program (shape_of program s) st.store)
          (sym (means setting statics s u (moved_values setting statics moved) st cells x h.frame))
          ∙ variable_fits setting classes (extra u moved) (shape_of program s) (shape_of program s) s.class
          h.keeps.class_inside (same_means (shape_of program s)) st x k
          (typed setting statics s u moved st cells (reads_of h)) t.0

      by : (r : Option ℕ) → cell_kind program (shape_of program s) store (cell_at setting statics u x r)
          ≡ cell_kind program (shape_of program s) st.store (cell_at setting statics u x r)
      by (Some i) = refl
      by None = ap (λ z. part_kind program z (unwrap_or (field_of (class_fields program u.class) x.text) 0))
          (own ∙ sym h.keeps.own_is)

  abbrev pub scope_of : Under → Ident → Scope
  scope_of u name = routines.scope (routine u.class name)

  pub above_own : (s : Scope) (u : Under) (moved : List Moved) (st : State) (cells : List ℕ)
      → Stands setting statics s u moved st cells → is_or_inherits program u.class s.class ≡ true
  above_own s u moved st cells h = class_above setting statics linked.routed.few linked.routed.image linked.routed.has
      linked.routed.statics_are s u
      moved st h.keeps

  abbrev pub RouteOf : ℕ → ℕ → Ident → Type 0
  RouteOf own slot name = Route program linked.routed.has.places routines routine own slot name

  pub route_of : (s : Scope) (own class : ℕ) (name : Ident) (args : List Ident)
      → is_or_inherits program own class ≡ true → (m : HasMethod program s class name args) → RouteOf own m.slot name
  route_of s own class name args above m = linked.routed.routes own class m.slot name above m.inside m.is_slot

  -- the types of the callee's variables are those of the arguments
  pub callee_types : (s : Scope) (own class : ℕ) (name : Ident) (args : List Ident)
      → is_or_inherits program own class ≡ true → (m : HasMethod program s class name args) → RouteOf own m.slot name
      → map local_type (shape_of program (routines.scope (routine own name)))
      ≡ map (kind_of_var program) (parameters_of program (dispatch_in (table_of program) class m.slot))
  callee_types s own class name args above m r =
      types_of_params program (routines.scope (routine own name)).vars ∙ ap (map (kind_of_var program)) r.vars_are
      ∙ ap (λ (p : Procedure). map (kind_of_var program) p.params) (sym r.method_is)
      ∙ (classes.found own class m.slot name.text above m.is_slot).same_types

  pub typed_length : (s : Scope) (args : List Ident) (ks : List Kind) → AllTyped program s args ks
      → length args ≡ length ks
  typed_length s [] [] t = refl
  typed_length s [] (k ∷ ks) t = absurd t
  typed_length s (x ∷ args) [] t = absurd t
  typed_length s (x ∷ args) (k ∷ ks) t = ap suc (typed_length s args ks t.1)

  pub many_params : (s : Scope) (own class : ℕ) (name : Ident) (args : List Ident)
      → is_or_inherits program own class ≡ true → (m : HasMethod program s class name args) → RouteOf own m.slot name
      → length args ≡ length (routines.scope (routine own name)).vars
  many_params s own class name args above m r =
      typed_length s args _ m.types ∙ ap (length {A = Kind}) (sym (callee_types s own class name args above m r))
      ∙ length-map (shape_of program (routines.scope (routine own name))) local_type
      ∙ length-map (routines.scope (routine own name)).vars (local_of program)

  pub enters_in : (s : Scope) (u : Under) (vals : List Value) (st : State) (cells : List ℕ) (name : Ident)
      (args : List Ident) → Stands setting statics s u (pairs args vals) st cells
      → (m : HasMethod program s s.class name args) → length vals ≡ length args → 1 + st.depth ≤ setting.limits.deep
      → Stands setting statics (scope_of u name) (deeper s u st) []
      (record {
        frame = bound (routines.method (routine u.class name)).params vals;
        self = st.self;
        depth = 1 + st.depth;
        store = st.store;
        log = st.log;
      }) cells
  enters_in s u vals st cells name args h m many room =
      let own_above = above_own s u (pairs args vals) st cells h in
      let r = route_of s u.class s.class name args own_above m in
      let s' = scope_of u name in
      let types = callee_types s u.class s.class name args own_above m r in
      let kinds = subst (HaveKinds setting statics st.store s u args) (sym types)
      (args_have s u (pairs args vals) st cells h st.store h.keeps.own_is args _ m.types) in
      let inside : s'.class < length program.classes = r.class_inside in
      let above : named_fits program (kind.Class s'.class) (head_named st.store u.self) ≡ true =
      ap (named_fits program (kind.Class s'.class)) h.keeps.own_is ∙ r.class_above in
      let k = kept_enters setting statics s s' u vals st args many h.keeps kinds inside above in
      let values = pairs_values args vals many in
      let f0 : OpenFrame setting statics s u vals st cells =
      subst (λ v. OpenFrame setting statics s u v st cells) values h.frame in
      let as_many : length vals ≡ length s'.vars = many ∙ many_params s u.class s.class name args own_above m r in
      let f = enters setting statics s s' u vals st cells f0 as_many room in
      subst (λ p. Stands setting statics s' (deeper s u st) []
      (record { frame = bound p vals; self = st.self; depth = 1 + st.depth; store = st.store; log = st.log })
      cells) r.vars_are (record {
        frame = f;
        keeps = k;
        words = h.words;
        counts = counts_enter setting statics s s' u vals st args many h.keeps kinds inside above h.counts;
      })

  -- the route of a call that is open
  pub open_above : (s : Scope) (u : Under) (st end : State) (cells : List ℕ) (name : Ident)
      → Stands setting statics (scope_of u name) (deeper s u st) [] end cells
      → is_or_inherits program u.class s.class ≡ true
  open_above s u st end cells name o = sym (ap (named_fits program (kind.Class s.class)) o.keeps.callers_fit.2)
      ∙ o.keeps.callers_fit.1

  pub open_route : (s : Scope) (u : Under) (st end : State) (cells : List ℕ) (name : Ident) (args : List Ident)
      → Stands setting statics (scope_of u name) (deeper s u st) [] end cells
      → (m : HasMethod program s s.class name args) → RouteOf u.class m.slot name
  open_route s u st end cells name args o m = route_of s u.class s.class name args (open_above s u st end cells name o)
      m

  pub as_many : (s : Scope) (u : Under) (st end : State) (cells : List ℕ) (name : Ident) (args : List Ident)
      → Stands setting statics (scope_of u name) (deeper s u st) [] end cells → HasMethod program s s.class name args
      → length (map (λ (b : Binding). b.value) end.frame) ≡ length args
  as_many s u st end cells name args o m =
      length-map end.frame (λ (b : Binding). b.value) ∙ as_many_vars setting statics (scope_of u name) (deeper s u st)
      [] end cells (reads_of o)
      ∙ sym (many_params s u.class s.class name args (open_above s u st end cells name o) m
      (open_route s u st end cells name args o m))

  pub leaves_out : (s : Scope) (u : Under) (st end : State) (cells : List ℕ) (name : Ident) (args : List Ident)
      (moved : List Moved) (before : List ℕ) → Stands setting statics s u moved st before
      → Stands setting statics (scope_of u name) (deeper s u st) [] end cells → HasMethod program s s.class name args
      → Stands setting statics s u (pairs args (map (λ (b : Binding). b.value) end.frame))
      (record st { store = end.store; log = end.log }) cells
  leaves_out s u st end cells name args moved before h o m =
      let r = open_route s u st end cells name args o m in
      let s' = scope_of u name in
      let many = as_many s u st end cells name args o m in
      let own_above = open_above s u st end cells name o in
      let types = callee_types s u.class s.class name args own_above m r in
      let kinds = subst (HaveKinds setting statics end.store s u args) (sym types)
      (args_have s u moved st before h end.store o.keeps.callers_fit.2 args _ m.types) in
      let k = kept_leaves setting statics s s' u st end args moved h.keeps o.keeps kinds many in
      let few_params : length s'.vars ≤ 32 = (let q = many_params s u.class s.class name args own_above m r in
      let f = m.few in omega (arith, q, f)) in
      let f = leaves setting statics s s' u (moved_values setting statics moved) st end before cells h.frame o.frame
      few_params in
      record {
        frame = subst (λ v. OpenFrame setting statics s u v (record st { store = end.store; log = end.log }) cells)
            (sym (pairs_values args (map (λ (b : Binding). b.value) end.frame) many)) f;
        keeps = k;
        words = o.words;
        counts = counts_leave setting statics s s' u st end args moved h.keeps o.keeps kinds many o.counts;
      }

  image_facts : ImageFacts (world_of place)
  image_facts = record {
    placed = linked.routed.placed;
    tidy = linked.routed.tidy;
    counts = omega arith;
    thousand = refl;
  }

  move_facts : MoveFacts (world_of place) (known_calls_of place routine)
  move_facts = record {
    moves_in = λ s u moved st cells name h v l room. moves_in setting statics classes s u moved st cells name h v l
        (let d = h.frame.depth_is in let q = not_full (1 + length u.callers) setting.limits.deep room in
        omega (arith, d, q));
    moves_back = λ s u v moved st cells name h var. moves_back setting statics classes s u v moved st cells name h var;
  }

  -- the table of the object's class has the routine's place
  place_in_table : (s : Scope) (u : Under) (st end : State) (cells : List ℕ) (name : Ident) (args : List Ident)
      → Stands setting statics (scope_of u name) (deeper s u st) [] end cells
      → (m : HasMethod program s s.class name args)
      → HasPlace cells u.object (method_slot_of program s.class name) (routines.top (routine u.class name) + 1)
  place_in_table s u st end cells name args o m =
      let r = open_route s u st end cells name args o m in
      let above = open_above s u st end cells name o in
      let low = (dispatched_method program linked.accepted u.class s.class m.slot name.text
      (own_range program u.class s.class above m.inside) above m.is_slot).low in
      let t = table_read setting statics linked.routed.few linked.routed.image linked.routed.has
      linked.routed.statics_are (scope_of u name)
      (deeper s u st) [] end cells o m.slot low in
      subst (λ z. HasPlace cells u.object z (routines.top (routine u.class name) + 1))
      (sym (ap (λ o. unwrap_or o 0) m.is_slot)) (subst (λ p. HasPlace cells u.object m.slot p) r.place_is t)

  own_facts : OwnFacts (world_of place) (known_calls_of place routine)
  own_facts = record {
    slot_small = λ s name args m. subst (λ z. z < 2 ^ 20) (sym (ap (λ o. unwrap_or o 0) m.is_slot)) m.small;
    dispatches = λ s u moved st cells name args h m.
        let r = route_of s u.class s.class name args (above_own s u moved st cells h) m in
        record { is_routine = r.below; is_method = r.method_is };
    next = λ s u st. record { fresh = record { is = refl }; above = omega arith };
    same_object = λ s u st. refl;
    enters = λ s u vals st cells name args h m many room. enters_in s u vals st cells name args h m many
        (let d = h.frame.depth_is in let q = not_full (1 + length u.callers) setting.limits.deep room in
        omega (arith, d, q));
    tells = λ s u st end cells name args o m. record {
      as_many = as_many s u st end cells name args o m;
      has_place = place_in_table s u st end cells name args o m;
    };
    leaves = λ s u st end cells name args moved before h o m. leaves_out s u st end cells name args moved before h o m;
  }

  put_facts : PutFacts (world_of place) (known_calls_of place routine)
  put_facts = record {
    saves = λ s u st cells h f. saves setting statics linked.routed.few s u st cells h f;
    put_opens = λ s u st cells link place h f lw pw. puts setting statics linked.routed.few s u st cells link place h f
        lw pw;
    put_words = λ s u st cells link place h f. put_words setting statics linked.routed.few s u st cells link place h;
    put_back = λ s u st cells link place h f. puts_back setting statics linked.routed.few s u st cells link place h f;
    put_object = λ u link place. refl;
    put_frame = λ u link place. refl;
  }

  steady : (s : Scope) (u : Under) (moved : List Moved) (st : State) (cells : List ℕ)
      → Stands setting statics s u moved st cells → IsSteady (world_of place) (known_calls_of place routine) s u st
  steady s u moved st cells h = record {
    object_small = object_small setting statics linked.routed.few s u moved st cells h;
    frame_small = frame_small setting statics linked.routed.few s u moved st cells h;
    depth_is = h.frame.depth_is;
    self_is = h.frame.self_is;
    class_is = class_stays setting statics s u (moved_values setting statics moved) st cells h.frame;
    means = λ name v. cell_is setting statics classes s u moved st cells (reads_of h) name v;
  }

  pub frame_facts : FrameFacts (world_of place) (known_calls_of place routine)
  frame_facts = record {
    image = image_facts;
    near = λ s name v. v.near;
    steady = λ s u moved st cells h. steady s u moved st cells h;
    has_end = λ s u st cells h. frame_end setting statics linked.routed.few s u st cells h;
    moves = move_facts;
    calls = own_facts;
    puts = put_facts;
  }
