-- What calls on the object of a variable need of current frames.
use Rattle.std.proofs.Common.{◌≡◌, ◌≢◌, ℕ, zero, suc, ◌+◌, ◌^◌, ◌<◌, ◌≤◌, Bool, true, false, List, [], ◌∷◌, length, map}
use Rattle.std.proofs.Common.{Option, Some, None, refl, sym, ap, ◌∙◌, subst, arith}
use Rattle.std.proofs.lemmas.List.{length-map, length-set, get_or-set_other}
use Rattle.std.specs.Prelude.{slice_index, slice_set, nat_eq, if◌then◌else◌}
use Rattle.std.specs.Option.{unwrap_or, option_map}
use Rattle.method_calls.specs.code_conventions.declared.memory.TheConstants.{OBJECT_WORD}
use Rattle.buddy_pisa.specs.rpp_words.declared.input.TheConstants.{FRAME_WORDS, FIXED_CELLS}
use Rattle.method_calls.specs.class_rules.declared.kind.Kind.TheVariants as kind
use Rattle.method_calls.specs.rpp_tree.declared.tree.Ident.{Ident}
use Rattle.method_calls.specs.rpp_tree.declared.tree.Var.{Var}
use Rattle.method_calls.specs.rpp_tree.Tree.{Source}
use Rattle.method_calls.specs.class_rules.declared.kind.Kind.{Kind}
use Rattle.method_calls.specs.class_rules.Inheritance.{is_or_inherits}
use Rattle.method_calls.proofs.class_rules_laws.FoundMethods.{dispatched_method, own_range}
use Rattle.buddy_pisa.specs.buddy_book.Place.{Placing, block_of, place as placing_of}
use Rattle.buddy_pisa.specs.pisa_isa.Loaded.{statics_at}
use Rattle.method_calls.specs.roopl_semantics.Store.{Value, Word, Nil, Name, Head, OfClass, OfInts, OfObjects, Object}
use Rattle.method_calls.specs.roopl_semantics.Store.{Store}
use Rattle.method_calls.specs.roopl_semantics.Store.{Binding, State, main_name, object_at, class_of_head, no_object}
use Rattle.method_calls.specs.roopl_semantics.Store.{is_zero, is_nil}
use Rattle.method_calls.specs.roopl_semantics.Store.{number_of, cleared}
use Rattle.method_calls.specs.roopl_semantics.Value.{Cell, Slot, Part, read, written, with_value}
use Rattle.method_calls.specs.roopl_semantics.Layout.{no_placing}
use Rattle.method_calls.specs.roopl_semantics.Execution.{Setting, bound}
use Rattle.method_calls.specs.meaning_sound.Sound.{named_fits, head_named, is_of_kind, local_type, bound_value}
use Rattle.method_calls.specs.meaning_sound.Sound.{cell_kind}
use Rattle.method_calls.proofs.meaning_sound_laws.Lists.{all_inside}
use Rattle.method_calls.proofs.meaning_sound_laws.Stores.{other_number, changed_here}
use Rattle.method_calls.proofs.meaning_sound_laws.Cells.{part_of, heads_written, read_fits, kind_stays, value_at_is}
use Rattle.method_calls.proofs.meaning_sound_laws.Cells.{with_value_values}
use Rattle.method_calls.proofs.meaning_sound_laws.Classes.{KnowsClasses}
use Rattle.method_calls.proofs.refine_frame_laws.Memory.{base_above}
use Rattle.method_calls.proofs.refine_frame_laws.Tells.{IsReference, reference_read, name_word as reference_word}
use Rattle.method_calls.specs.refine_form.Form.{Scope, Moved, MethodRoutines, pairs}
use Rattle.method_calls.specs.refine_form.Frames.{Under, base, stack_base, address_of, value_word, before_stack}
use Rattle.method_calls.specs.refine_form.Frames.{cell_in}
use Rattle.method_calls.specs.refine_form.Frames.{OpenFrame, spare_words}
use Rattle.method_calls.specs.refine_form.Stands.{shape_of, extra, moved_values, spot_in, setup, Kept, Reads, Stands}
use Rattle.method_calls.specs.refine_form.Worlds.{Place, world_of}
use Rattle.method_calls.specs.Facts.{ReceiverWords, OnFacts, ReceiverFacts, ReceiverGoesOn, ReturnsReceiver, HasPlace}
use Rattle.method_calls.specs.Facts.{address}
use Rattle.method_calls.specs.Facts.{out_from}
use Rattle.method_calls.specs.Names.{IsReceiver, IsVariable, class_number_named, class_found, method_slot_of, deeper}
use Rattle.method_calls.specs.Names.{deeper_on}
use Rattle.method_calls.specs.Names.{known_calls_of, receivers_of}
use Rattle.refine_calls.specs.Laws.{Route, IsLinked}
use Rattle.refine_calls.proofs.FramesFit.{enters, leaves, object_word, put_object}
use Rattle.refine_calls.proofs.SlotMoves.{zero_word, other_word, cleared_word, length_with}
use Rattle.refine_calls.proofs.Bridge.{reads_of, set_words, typed, typed_by, same_at, before_long, long_by}
use Rattle.refine_calls.proofs.KeptMoves.{CountsAre, kept_up, kept_back, counts_up, counts_back}
use Rattle.refine_calls.proofs.MovesFit.{frame_address, place_of, frame_long, cell_inside, cell_low, frame_read}
use Rattle.refine_calls.proofs.MovesFit.{frame_as, frame_write, class_at}
use Rattle.refine_calls.proofs.FactsMoves.{cell_has, spot_is}
use Rattle.refine_calls.proofs.EntersFit.{pairs_values, HaveKinds}
use Rattle.refine_calls.proofs.FramePlaces.{all_small}
use Rattle.refine_calls.proofs.ClassPlaces.{table_read}
use Rattle.refine_calls.proofs.FactsFit.{classes, not_full, args_have, route_of, callee_types, many_params}
use Rattle.refine_calls.proofs.OnEnters.{taken, kept_less, kept_on, counts_on, kept_off, counts_off, no_main}

-- ---- classes of names

-- what is of a class has an object of a class that is that one or inherits from it
pub record IsOf (program : Source) (h : Option Head) (class : ℕ) : Type 0 where
  pub own : ℕ
  pub is : h ≡ Some (OfClass own)
  pub above : is_or_inherits program own class ≡ true

pub is_of : (program : Source) (h : Option Head) (class : ℕ) → named_fits program (kind.Class class) h ≡ true
    → IsOf program h class
is_of program None class e = absurd (cc)
is_of program (Some (OfClass own)) class e = record { own = own; is = refl; above = e }
is_of program (Some (OfInts n)) class e = absurd (cc)
is_of program (Some (OfObjects own n)) class e = absurd (cc)

-- a value of a class is nil or a name
name_there : (program : Source) (store : Store) (class : ℕ) (v : Value)
    → is_of_kind program store v (kind.Class class) ≡ true
    → is_nil v ≡ false → v ≡ Name (number_of v)
name_there program store class (Word w) f e = absurd (cc)
name_there program store class Nil f e = absurd (cc)
name_there program store class (Name n) f e = refl

nil_there : (v : Value) → is_nil v ≡ true → v ≡ Nil
nil_there (Word w) e = absurd (cc)
nil_there Nil e = refl
nil_there (Name n) e = absurd (cc)

-- ---- what is written is read

set_get : (vs : List Value) (i : ℕ) (v : Value) → i < length vs
    → unwrap_or (Rattle.std.specs.Prelude.slice_get (slice_set vs i v) i) Nil ≡ v
set_get [] i v h = absurd (omega arith)
set_get (x ∷ vs) zero v h = refl
set_get (x ∷ vs) (suc i) v h = set_get vs i v (omega arith)

-- the same object has the same class after the moves out
pub out_heads : (setting : Setting) (shape : Rattle.method_calls.specs.class_rules.Scope.Locals) (cs : List Cell)
    (st : State)
    (m : ℕ) → head_named (out_from cs st).store m ≡ head_named st.store m
out_heads setting shape [] st m = refl
out_heads setting shape (c ∷ cs) st m = heads_written setting (λ n. 0) shape 0 (out_from cs st) c
    (cleared (read (out_from cs st) c)) m ∙ out_heads setting shape cs st m

module _ (place : Place) (routine : ℕ → Ident → ℕ) (linked : IsLinked place routine) where
  abbrev setting : Setting
  setting = place.setting

  abbrev statics : List ℕ
  statics = place.statics

  abbrev program : Source
  program = place.setting.program

  abbrev routines : MethodRoutines
  routines = place.routines

  abbrev known_classes : KnowsClasses place.setting.program
  known_classes = classes place routine linked

  abbrev as_variable : (s : Scope) (x name : Ident) (args : List Ident) → IsReceiver program s x name args
      → IsVariable program s x
  as_variable s x name args r = record { kind = kind.Class r.class; typed = r.typed; near = r.near }

  class_is : (s : Scope) (x name : Ident) (args : List Ident) (r : IsReceiver program s x name args)
      → class_number_named program s x ≡ r.class
  class_is s x name args r = ap class_found r.typed

  slot_is : (s : Scope) (x name : Ident) (args : List Ident) (r : IsReceiver program s x name args)
      → method_slot_of program (class_number_named program s x) name ≡ r.method.slot
  slot_is s x name args r = ap (λ c. method_slot_of program c name) (class_is s x name args r)
      ∙ ap (λ o. unwrap_or o 0) r.method.is_slot

  abbrev own_of : State → ℕ → ℕ
  own_of st n = class_of_head (object_at st.store n).head

  -- the address of the current object is not 0
  pub positive : (s : Scope) (u : Under) (moved : List Moved) (st : State) (cells : List ℕ)
      → Stands setting statics s u moved st cells → 0 < u.object
  positive s u moved st cells h = subst (λ o. 0 < o) h.frame.stands.1 (by (nat_eq u.self main_name))
    where
      by : (b : Bool) → 0 < (if b then statics_at else base setting statics + block_of h.frame.at.blocks u.self)
      by true = omega arith
      by false = let q : FIXED_CELLS + length statics ≤ base setting statics = base_above (setup setting statics) in
          omega (arith, q)

  -- ---- the receiver's cell

  module _ (s : Scope) (u : Under) (moved : List Moved) (st : State) (cells : List ℕ)
      (h : Stands setting statics s u moved st cells) (x name : Ident) (args : List Ident)
      (r : IsReceiver program s x name args) where
    abbrev c : Cell
    c = cell_in setting statics s u x

    abbrev k : Kind
    k = kind.Class r.class

    abbrev E : ℕ → ℕ
    E = extra u moved

    abbrev at : ℕ
    at = address u.object (frame_address setting statics u) (spot_in program s x)

    pub has : cell_kind program (shape_of program s) st.store c ≡ Some k
    has = cell_has setting statics known_classes s u moved st cells (reads_of h) x (as_variable s x name args r)

    pub fit : is_of_kind program st.store (read st c) k ≡ true
    fit = read_fits setting E (shape_of program s) s.class st c k
        (typed setting statics s u moved st cells (reads_of h)) has

    pub where_is : at ≡ place_of setting statics h.frame.at u st c
    where_is = spot_is setting statics known_classes s u moved st cells (reads_of h) x (as_variable s x name args r)

    pub inside : at < length cells
    inside = let l = cell_inside setting statics s u moved st cells (reads_of h) c k has in omega (arith, where_is, l)

    pub got : slice_index cells at ≡ value_word setting statics h.frame.at (read st c)
    got = ap (slice_index cells) where_is ∙ frame_read setting statics s u moved st cells (reads_of h) c k has

    pub refers : (n : ℕ) → read st c ≡ Name n → IsReference (setup setting statics) E (shape_of program s) s.class st
        (typed setting statics s u moved st cells (reads_of h)) h.keeps.main_unheld n
    refers n e = reference_read (setup setting statics) E (shape_of program s) s.class st
        (typed setting statics s u moved st cells (reads_of h)) h.keeps.main_unheld c k n has e

    pub named_word : (n : ℕ) → read st c ≡ Name n → (0 < value_word setting statics h.frame.at (Name n))
        × (value_word setting statics h.frame.at (Name n) < stack_base setting statics)
    named_word n e = subst (λ (a : Placing). (0 < value_word setting statics a (Name n))
        × (value_word setting statics a (Name n) < stack_base setting statics))
        (same_at setting statics s u moved st cells (reads_of h))
        (reference_word (setup setting statics) E (shape_of program s) s.class st
        (typed setting statics s u moved st cells (reads_of h)) h.keeps.main_unheld n (refers n e))

    pub small : slice_index cells at < 2 ^ 31
    small = by (read st c) refl
      where
        by : (v : Value) → read st c ≡ v → slice_index cells at < 2 ^ 31
        by (Word w) e = absurd (let f : is_of_kind program st.store (Word w) k
            ≡ true = subst (λ v. is_of_kind program st.store v k ≡ true) e fit in cc)
        by Nil e = let z : slice_index cells at ≡ 0 = got ∙ ap (value_word setting statics h.frame.at) e in
            omega (arith, z)
        by (Name n) e =
            let z : slice_index cells at ≡ value_word setting statics h.frame.at (Name n) = got
            ∙ ap (value_word setting statics h.frame.at) e in
            let p = named_word n e in
            let l : value_word setting statics h.frame.at (Name n) < stack_base setting statics = p.1 in
            let a = all_small setting statics linked.routed.few h.keeps.grounded.limits in
            omega (arith, z, l, a)

    pub nil_word : is_nil (read st c) ≡ true → slice_index cells at ≡ 0
    nil_word e = got ∙ ap (value_word setting statics h.frame.at) (nil_there (read st c) e)

    pub is_name : is_nil (read st c) ≡ false → read st c ≡ Name (number_of (read st c))
    is_name e = name_there program st.store r.class (read st c) fit e

    pub name_word : is_nil (read st c) ≡ false → 0 < slice_index cells at
    name_word e =
        let n = number_of (read st c) in
        let z : slice_index cells at ≡ value_word setting statics h.frame.at (Name n) = got
        ∙ ap (value_word setting statics h.frame.at) (is_name e) in
        let l : 0 < value_word setting statics h.frame.at (Name n) = (named_word n (is_name e)).0 in
        omega (arith, z, l)

    -- the object that it names
    pub names : (n : ℕ) → read st c ≡ Name n → IsOf program (head_named st.store n) r.class
    names n e = is_of program (head_named st.store n) r.class
        (subst (λ v. is_of_kind program st.store v k ≡ true) e fit)

    module _ (n : ℕ) (there : read st c ≡ Name n) (after : State)
        (same : (m : ℕ) → head_named after.store m ≡ head_named st.store m) where
      pub own_is : head_named after.store n ≡ Some (OfClass (own_of after n))
      own_is =
          let i = names n there in
          let e = same n ∙ i.is in
          e ∙ ap (λ o. Some (OfClass o)) (sym (class_at after.store n i.own e))

      pub own_above : is_or_inherits program (own_of after n) r.class ≡ true
      own_above =
          let i = names n there in
          subst (λ o. is_or_inherits program o r.class ≡ true) (sym (class_at after.store n i.own (same n ∙ i.is)))
          i.above

      pub own_same : own_of st n ≡ own_of after n
      own_same =
          let i = names n there in
          class_at st.store n i.own i.is ∙ sym (class_at after.store n i.own (same n ∙ i.is))

  -- what is written in the receiver's cell is read there
  pub is_there : (s : Scope) (u : Under) (moved : List Moved) (st : State) (v : Value) (cells : List ℕ) (x name : Ident)
      (args : List Ident) → Stands setting statics s u moved (written st (cell_in setting statics s u x) v) cells
      → IsReceiver program s x name args
      → read (written st (cell_in setting statics s u x) v) (cell_in setting statics s u x) ≡ v
  is_there s u moved st v cells x name args h r = by (cell_in setting statics s u x)
      (has s u moved (written st (cell_in setting statics s u x) v) cells h x name args r) h.keeps.variables
      h.keeps.objects
    where
      k : Kind
      k = kind.Class r.class

      by : (c : Cell) → cell_kind program (shape_of program s) (written st c v).store c ≡ Some k
          → Rattle.method_calls.specs.meaning_sound.Sound.AllFit program (written st c v).store
          (map local_type (shape_of program s)) (map bound_value (written st c v).frame)
          → ((m : ℕ) (object : Object) → Rattle.method_calls.specs.roopl_semantics.Store.object_named
          (written st c v).store m
          ≡ Some object → Rattle.method_calls.specs.meaning_sound.Sound.AllFit program (written st c v).store
          (Rattle.method_calls.specs.meaning_sound.Sound.cell_kinds program object.head) object.cells)
          → read (written st c v) c ≡ v
      by (Slot i) e variables objects =
          let l = all_inside program (written st (Slot i) v).store (map local_type (shape_of program s))
          (map bound_value (with_value st.frame i v)) i k variables e in
          let a = length-map (with_value st.frame i v) bound_value in
          let b = length-map st.frame bound_value in
          let d = length_with setting statics no_placing st.frame i v in
          value_at_is (with_value st.frame i v) i ∙ ap (λ vs. unwrap_or (Rattle.std.specs.Prelude.slice_get vs i) Nil)
          (with_value_values st.frame i v)
          ∙ set_get (map bound_value st.frame) i v (omega (arith, l, a, b, d))
      by (Part n i) e variables objects =
          let st1 = written st (Part n i) v in
          let f : Object → Object = λ o. record o { cells = slice_set o.cells i v } in
          let p = part_of program st.store n i k (sym (kind_stays setting (λ m. 0) (shape_of program s) 0 st (Part n i)
          v (Part n i)) ∙ e) in
          let there : Rattle.method_calls.specs.roopl_semantics.Store.object_named st1.store n ≡ Some (f p.object) =
          changed_here st.store n f ∙ ap (option_map f) p.named in
          let l = all_inside program st1.store (Rattle.method_calls.specs.meaning_sound.Sound.cell_kinds program
          p.object.head)
          (slice_set p.object.cells i v) i k (objects n (f p.object) there) p.kind_is in
          let d : length (slice_set p.object.cells i v) ≡ length p.object.cells = length-set p.object.cells i v in
          ap (λ o. unwrap_or (Rattle.std.specs.Prelude.slice_get (unwrap_or o no_object).cells i) Nil) there
          ∙ set_get p.object.cells i v (omega (arith, l, d))

  -- ---- a call on it begins

  abbrev scope_on : State → ℕ → Ident → Scope
  scope_on st n name = routines.scope (routine (own_of st n) name)

  module _ (s : Scope) (u : Under) (vals : List Value) (st : State) (cells : List ℕ) (x name : Ident)
      (args : List Ident) (n : ℕ) (h : Stands setting statics s u (pairs args vals) st cells)
      (r : IsReceiver program s x name args) (many : length vals ≡ length args)
      (room : 1 + st.depth ≤ setting.limits.deep) (there : read st (cell_in setting statics s u x) ≡ Name n) where
    abbrev c1 : Cell
    c1 = cell_in setting statics s u x

    abbrev k1 : Kind
    k1 = kind.Class r.class

    abbrev moved1 : List Moved
    moved1 = pairs args vals

    abbrev st1 : State
    st1 = written st c1 (cleared (read st c1))

    abbrev at1 : ℕ
    at1 = address u.object (frame_address setting statics u) (spot_in program s x)

    abbrev up1 : ℕ
    up1 = frame_address setting statics u + (FRAME_WORDS + OBJECT_WORD)

    has1 : cell_kind program (shape_of program s) st.store c1 ≡ Some k1
    has1 = has s u moved1 st cells h x name args r

    heads1 : (m : ℕ) → head_named st1.store m ≡ head_named st.store m
    heads1 m = heads_written setting (extra u moved1) (shape_of program s) s.class st c1 (cleared (read st c1)) m

    abbrev t1 : Rattle.method_calls.specs.meaning_sound.Sound.Typed setting (extra u moved1) (shape_of program s)
        s.class st
    t1 = typed setting statics s u moved1 st cells (reads_of h)

    kept1 : Kept setting statics s u (taken place x n ∷ moved1) st1
    kept1 = subst (λ v. Kept setting statics s u (record { from = x; value = v } ∷ moved1) st1) there
        (kept_up setting statics s u moved1 st t1 h.keeps c1 k1 has1 x refl)

    counts1 : CountsAre u (taken place x n ∷ moved1) st1
    counts1 = subst (λ v. CountsAre u (record { from = x; value = v } ∷ moved1) st1) there
        (counts_up setting statics s u moved1 st t1 h.keeps c1 k1 has1 x h.counts)

    own_here : head_named st1.store n ≡ Some (OfClass (own_of st1 n))
    own_here = own_is s u moved1 st cells h x name args r n there st1 heads1

    above_here : is_or_inherits program (own_of st1 n) r.class ≡ true
    above_here = own_above s u moved1 st cells h x name args r n there st1 heads1

    abbrev s1 : Scope
    s1 = scope_on st1 n name

    rt : Route program linked.routed.has.places routines routine (own_of st1 n) r.method.slot name
    rt = route_of place routine linked s (own_of st1 n) r.class name args above_here r.method

    kinds1 : HaveKinds setting statics st1.store s u args (map local_type (shape_of program s1))
    kinds1 = subst (HaveKinds setting statics st1.store s u args)
        (sym (callee_types place routine linked s (own_of st1 n) r.class name args above_here r.method rt))
        (args_have place routine linked s u moved1 st cells h st1.store (heads1 u.self ∙ h.keeps.own_is) args _
        r.method.types)

    above1 : named_fits program (kind.Class s1.class) (head_named st1.store n) ≡ true
    above1 = ap (named_fits program (kind.Class s1.class)) own_here ∙ rt.class_above

    params1 : length vals ≡ length s1.vars
    params1 = many ∙ many_params place routine linked s (own_of st1 n) r.class name args above_here r.method rt

    abbrev cells1 : List ℕ
    cells1 = slice_set cells (place_of setting statics h.frame.at u st c1)
        (value_word setting statics h.frame.at (cleared (read st c1)))

    cells1_are : cells1 ≡ slice_set cells at1 0
    cells1_are =
        ap (λ a. slice_set cells a (value_word setting statics h.frame.at (cleared (read st c1))))
        (sym (where_is s u moved1 st cells h x name args r))
        ∙ ap (slice_set cells at1) (cleared_word setting statics h.frame.at (read st c1))

    same1 : (st1.self ≡ st.self) × (st1.depth ≡ st.depth) × (st1.log ≡ st.log) × (length st1.frame ≡ length st.frame)
        × (map (λ (b : Binding). b.name) st1.frame ≡ map (λ (b : Binding). b.name) st.frame)
    same1 = frame_as setting statics s u moved1 st cells (reads_of h) c1 (cleared (read st c1))

    written_frame : OpenFrame setting statics s u vals st1 cells1
    written_frame = subst (λ v. OpenFrame setting statics s u v st1 cells1) (pairs_values args vals many)
        (frame_write setting statics s u moved1 st cells (reads_of h) c1 k1 (cleared (read st c1)) has1)

    long1 : length (before_stack setting statics written_frame.at st1.store) ≡ stack_base setting statics
    long1 = long_by setting statics s u (taken place x n ∷ moved1) st1 kept1 vals cells1 written_frame

    room1 : 1 + st1.depth ≤ setting.limits.deep
    room1 = subst (λ j. 1 + j ≤ setting.limits.deep) (sym same1.1) room

    abbrev called : State
    called = record {
      frame = bound s1.vars vals;
      self = st1.self;
      depth = 1 + st1.depth;
      store = st1.store;
      log = st1.log;
    }

    abbrev entered : OpenFrame setting statics s1 (deeper s u st1) [] called cells1
    entered = enters setting statics s s1 u vals st1 cells1 written_frame params1 room1

    abbrev up_there : ℕ
    up_there = frame_address setting statics (deeper s u st1) + OBJECT_WORD

    up_same : up_there ≡ up1
    up_same = omega arith

    abbrev objected : OpenFrame setting statics s1 (record (deeper s u st1)
        { put_by = 0 ∷ u.object ∷ 0 ∷ spare_words }) [] called (slice_set cells1 up_there u.object)
    objected = put_object setting statics s1 (deeper s u st1) [] called cells1 entered 0 0 0 spare_words refl long1
        u.object

    abbrev on_called : State
    on_called = record { frame = bound s1.vars vals; self = n; depth = 1 + st1.depth; store = st1.store; log = st1.log }

    on_frame : OpenFrame setting statics s1 (deeper_on place s u st1 n) [] on_called
        (slice_set cells1 up_there u.object)
    on_frame = record {
      at = objected.at;
      placed = objected.placed;
      cells_are = objected.cells_are;
      names_are = objected.names_are;
      self_is = refl;
      stands = (refl, ap (λ o. address_of setting statics (unwrap_or o no_placing) n) (sym objected.placed));
      callers_stand = objected.callers_stand;
      depth_is = objected.depth_is;
      in_depth = objected.in_depth;
      put_long = refl;
      few = objected.few;
      few_vals = omega arith;
      above_fits = tt;
    }

    abbrev cells2 : List ℕ
    cells2 = slice_set (slice_set cells at1 0) up1 u.object

    cells2_are : slice_set cells1 up_there u.object ≡ cells2
    cells2_are = ap (λ z. slice_set z up_there u.object) cells1_are
        ∙ ap (λ a. slice_set (slice_set cells at1 0) a u.object) up_same

    pos1 : 0 < u.object
    pos1 = positive s u moved1 st cells h

    object_word_small : u.object < 2 ^ 32
    object_word_small = let o = Rattle.refine_calls.proofs.FramePlaces.object_small setting statics linked.routed.few s
        u
        moved1
        st cells h in omega (arith, o)

    stands_on : Stands setting statics s1 (deeper_on place s u st1 n) [] on_called cells2
    stands_on = record {
      frame = subst (OpenFrame setting statics s1 (deeper_on place s u st1 n) [] on_called) cells2_are on_frame;
      keeps = kept_on place s s1 u x n vals st1 args many kept1 kinds1 rt.class_inside own_here above1 pos1;
      counts = counts_on place s s1 u x n vals st1 args many kept1 kinds1 rt.class_inside own_here above1 pos1 counts1;
      words = set_words (slice_set cells at1 0) up1 u.object (set_words cells at1 0 h.words (omega arith))
          object_word_small;
    }

    abbrev callee_at : List Var → ℕ → Rattle.buddy_pisa.specs.buddy_book.Place.Log → State
    callee_at params depth log = record {
      frame = bound params vals;
      self = n;
      depth = 1 + depth;
      store = st1.store;
      log = log;
    }

    abbrev Opens : List Var → ℕ → Rattle.buddy_pisa.specs.buddy_book.Place.Log → Type 0
    Opens params depth log = Stands setting statics s1 (deeper_on place s u st1 n) [] (callee_at params depth log)
        cells2

    stands_here : Opens (routines.method (routine (own_of st1 n) name)).params st.depth st.log
    stands_here = subst (λ p. Opens p st.depth st.log) rt.vars_are
        (subst (λ d. Opens s1.vars d st.log) same1.1 (subst (λ l. Opens s1.vars st1.depth l) same1.2 stands_on))

    apart1 : at1 ≢ up1
    apart1 e =
        let i = where_is s u moved1 st cells h x name args r in
        let low = cell_low setting statics s u moved1 st cells (reads_of h) c1 k1 has1 in
        let vars = h.frame.few in
        omega (arith, e, i, low, vars)

    empty1 : slice_index cells up1 ≡ 0
    empty1 =
        sym (get_or-set_other cells at1 up1 0 0 (λ q. apart1 (sym q))) ∙ ap (λ z. slice_index z up1) (sym cells1_are)
        ∙ ap (slice_index cells1) (sym up_same)
        ∙ object_word setting statics s1 (deeper s u st1) [] called cells1 entered 0 0 0 spare_words refl long1

    word1 : slice_index cells at1 ≡ address_of setting statics
        (unwrap_or (placing_of setting.limits.heap st1.log) no_placing) n
    word1 =
        let other = (refers s u moved1 st cells h x name args r n there).no_main in
        let p : placing_of setting.limits.heap st1.log ≡ Some h.frame.at = ap (placing_of setting.limits.heap) same1.2
        ∙ h.frame.placed in
        got s u moved1 st cells h x name args r ∙ ap (value_word setting statics h.frame.at) there
        ∙ ap (λ b. if b then statics_at else base setting statics + block_of h.frame.at.blocks n)
        (sym (other_number n main_name other))
        ∙ ap (λ o. address_of setting statics (unwrap_or o no_placing) n) (sym p)

    pub goes_on : ReceiverGoesOn cells at1 up1 u.object (address_of setting statics
        (unwrap_or (placing_of setting.limits.heap st1.log) no_placing) n)
        (Stands setting statics s1 (deeper_on place s u st1 n) []
        (callee_at (routines.method (routine (own_of st1 n) name)).params st.depth st.log))
    goes_on = record {
      words = record {
        at_in = inside s u moved1 st cells h x name args r;
        up_in = (let l = frame_long setting statics s u moved1 st cells (reads_of h) in let d = h.frame.depth_is in
            omega (arith, l, d, room));
        apart = apart1;
      };
      empty = empty1;
      word_is = word1;
      moved = stands_here;
    }

  -- ---- and ends

  module _ (s : Scope) (u : Under) (st0 end : State) (cells : List ℕ) (x name : Ident) (args : List Ident) (n : ℕ)
      (moved : List Moved) (before : List ℕ) (h : Stands setting statics s u moved st0 before)
      (r : IsReceiver program s x name args) where
    abbrev c2 : Cell
    c2 = cell_in setting statics s u x

    abbrev k2 : Kind
    k2 = kind.Class r.class

    abbrev st2 : State
    st2 = written st0 c2 (cleared (read st0 c2))

    abbrev s2 : Scope
    s2 = scope_on st2 n name

    abbrev on2 : Under
    on2 = deeper_on place s u st2 n

    abbrev at2 : ℕ
    at2 = address u.object (frame_address setting statics u) (spot_in program s x)

    abbrev up2 : ℕ
    up2 = frame_address setting statics u + (FRAME_WORDS + OBJECT_WORD)

    module _ (o : Stands setting statics s2 on2 [] end cells)
        (suits : is_or_inherits program (own_of st2 n) (class_number_named program s x) ≡ true) where
      above2 : is_or_inherits program (own_of st2 n) r.class ≡ true
      above2 = subst (λ z. is_or_inherits program (own_of st2 n) z ≡ true) (class_is s x name args r) suits

      rt2 : Route program linked.routed.has.places routines routine (own_of st2 n) r.method.slot name
      rt2 = route_of place routine linked s (own_of st2 n) r.class name args above2 r.method

      params2 : length args ≡ length s2.vars
      params2 = many_params place routine linked s (own_of st2 n) r.class name args above2 r.method rt2

      many2 : length (map (λ (b : Binding). b.value) end.frame) ≡ length args
      many2 = length-map end.frame (λ (b : Binding). b.value)
          ∙ Rattle.refine_calls.proofs.Bridge.as_many_vars setting statics s2 on2 [] end cells (reads_of o)
          ∙ sym params2

      abbrev values2 : List Value
      values2 = map (λ (b : Binding). b.value) end.frame

      abbrev home2 : State
      home2 = record st2 { store = end.store; log = end.log }

      self2 : head_named end.store u.self ≡ Some (OfClass u.class)
      self2 = o.keeps.callers_fit.2

      x_has : cell_kind program (shape_of program s) end.store c2 ≡ Some k2
      x_has = (args_have place routine linked s u moved st0 before h end.store self2 (x ∷ []) (k2 ∷ []) (r.typed, tt)).0

      x_fit : named_fits program k2 (head_named end.store n) ≡ true
      x_fit = ap (named_fits program k2) o.keeps.own_is ∙ above2

      kinds2 : HaveKinds setting statics end.store s u args (map local_type (shape_of program s2))
      kinds2 = subst (HaveKinds setting statics end.store s u args)
          (sym (callee_types place routine linked s (own_of st2 n) r.class name args above2 r.method rt2))
          (args_have place routine linked s u moved st0 before h end.store self2 args _ r.method.types)

      pos2 : 0 < u.object
      pos2 = positive s u moved st0 before h

      has0 : cell_kind program (shape_of program s) st0.store c2 ≡ Some k2
      has0 = has s u moved st0 before h x name args r

      -- the caller's frame as it was, with the receiver taken
      abbrev before2 : List ℕ
      before2 = slice_set before (place_of setting statics h.frame.at u st0 c2)
          (value_word setting statics h.frame.at (cleared (read st0 c2)))

      abbrev caller_frame : OpenFrame setting statics s u (moved_values setting statics moved) st2 before2
      caller_frame = frame_write setting statics s u moved st0 before (reads_of h) c2 k2 (cleared (read st0 c2)) has0

      heads2 : (m : ℕ) → head_named st2.store m ≡ head_named st0.store m
      heads2 m = heads_written setting (extra u moved) (shape_of program s) s.class st0 c2 (cleared (read st0 c2)) m

      kept2 : Kept setting statics s u (moved) st2
      kept2 = Rattle.refine_calls.proofs.OnEnters.kept_less place s u (record { from = x; value = read st0 c2 }) moved
          st2
          (kept_up setting statics s u moved st0 (typed setting statics s u moved st0 before (reads_of h)) h.keeps c2 k2
          has0 x refl)

      abbrev up_end : ℕ
      up_end = frame_address setting statics on2 + OBJECT_WORD

      up_end_is : up_end ≡ up2
      up_end_is = omega arith

      long2 : length (before_stack setting statics o.frame.at end.store) ≡ stack_base setting statics
      long2 = before_long setting statics s2 on2 [] end cells (reads_of o)

      abbrev cells3 : List ℕ
      cells3 = slice_set cells up_end 0

      abbrev emptied : OpenFrame setting statics s2 (record on2 { put_by = 0 ∷ 0 ∷ 0 ∷ spare_words }) [] end cells3
      emptied = put_object setting statics s2 on2 [] end cells o.frame 0 u.object 0 spare_words refl long2 0

      own_end : OpenFrame setting statics s2 (deeper s u st2) [] (record end { self = u.self }) cells3
      own_end = record {
        at = emptied.at;
        placed = emptied.placed;
        cells_are = emptied.cells_are;
        names_are = emptied.names_are;
        self_is = refl;
        stands = emptied.callers_stand.0;
        callers_stand = emptied.callers_stand;
        depth_is = emptied.depth_is;
        in_depth = emptied.in_depth;
        put_long = refl;
        few = emptied.few;
        few_vals = omega arith;
        above_fits = tt;
      }

      few2 : length s2.vars ≤ 32
      few2 = let f = r.method.few in omega (arith, params2, f)

      home_frame : OpenFrame setting statics s u values2 home2 cells3
      home_frame = leaves setting statics s s2 u (moved_values setting statics moved) st2 (record end { self = u.self })
          before2 cells3 caller_frame own_end few2

      abbrev back2 : List Moved
      back2 = taken place x n ∷ pairs args values2

      kept_home : Kept setting statics s u back2 home2
      kept_home = kept_off place s s2 u x n st2 end args moved kept2 o.keeps kinds2 many2 k2 x_has x_fit pos2

      counts_home : CountsAre u back2 home2
      counts_home = counts_off place s s2 u x n st2 end args moved kept2 o.keeps kinds2 many2 k2 x_has x_fit pos2
          o.counts

      abbrev args2 : List Moved
      args2 = pairs args values2

      reads_home : Reads setting statics s u args2 home2 cells3
      reads_home = record {
        frame = subst (λ v. OpenFrame setting statics s u v home2 cells3) (sym (pairs_values args values2 many2))
            home_frame;
        keeps = kept_less place s u (taken place x n) args2 home2 kept_home;
        words = set_words cells up_end 0 o.words (omega arith);
      }

      where2 : at2 ≡ place_of setting statics reads_home.frame.at u home2 c2
      where2 = spot_is setting statics known_classes s u args2 home2 cells3 reads_home x (as_variable s x name args r)

      got2 : slice_index cells3 at2 ≡ value_word setting statics reads_home.frame.at (read home2 c2)
      got2 = ap (slice_index cells3) where2 ∙ frame_read setting statics s u args2 home2 cells3 reads_home c2 k2 x_has

      apart2 : at2 ≢ up2
      apart2 e =
          let low = cell_low setting statics s u args2 home2 cells3 reads_home c2 k2 x_has in
          let vars = reads_home.frame.few in
          omega (arith, e, where2, low, vars)

      unchanged2 : slice_index cells at2 ≡ slice_index cells3 at2
      unchanged2 = sym (ap (λ a. slice_index (slice_set cells a 0) at2) up_end_is
          ∙ get_or-set_other cells up2 at2 0 0 apart2)

      -- the receiver's word
      at_home : reads_home.frame.at ≡ o.frame.at
      at_home = let e : Some reads_home.frame.at ≡ Some o.frame.at = sym reads_home.frame.placed ∙ o.frame.placed in cc

      word2 : value_word setting statics reads_home.frame.at (Name n) ≡ on2.object
      word2 =
          ap (λ (a : Placing). value_word setting statics a (Name n)) at_home
          ∙ ap (λ b. if b then statics_at else base setting statics + block_of o.frame.at.blocks n)
          (sym (other_number n main_name (no_main place s s2 u x n st2 end args moved kept2 o.keeps kinds2 many2 k2
          x_has x_fit pos2)))
          ∙ o.frame.stands.1

      abbrev cells4 : List ℕ
      cells4 = slice_set (slice_set cells up2 0) at2 on2.object

      cells4_are : slice_set cells3 (place_of setting statics reads_home.frame.at u home2 c2)
          (value_word setting statics reads_home.frame.at (Name n)) ≡ cells4
      cells4_are =
          ap (λ a. slice_set cells3 a (value_word setting statics reads_home.frame.at (Name n))) (sym where2)
          ∙ ap (slice_set cells3 at2) word2
          ∙ ap (λ a. slice_set (slice_set cells a 0) at2 on2.object) up_end_is

      word2_small : on2.object < 2 ^ 32
      word2_small = let l = Rattle.refine_calls.proofs.FramePlaces.object_small setting statics linked.routed.few s2 on2
          [] end
          cells o in omega (arith, l)

      abbrev typed_home : Rattle.method_calls.specs.meaning_sound.Sound.Typed setting (extra u back2)
          (shape_of program s) s.class
          home2
      typed_home = typed_by setting statics s u back2 home2 kept_home values2 cells3 home_frame

      came : is_zero (read home2 c2) ≡ true → Stands setting statics s u args2 (written home2 c2 (Name n)) cells4
      came zero_here = record {
        frame = subst (OpenFrame setting statics s u (moved_values setting statics args2) (written home2 c2 (Name n)))
            cells4_are (frame_write setting statics s u args2 home2 cells3 reads_home c2 k2 (Name n) x_has);
        keeps = kept_back setting statics s u (taken place x n) args2 home2 typed_home kept_home zero_here;
        counts = counts_back setting statics s u (taken place x n) args2 home2 typed_home kept_home zero_here
            counts_home;
        words = set_words (slice_set cells up2 0) at2 on2.object (set_words cells up2 0 o.words (omega arith))
            word2_small;
      }

      pub comes_back : ReturnsReceiver cells at2 up2 u.object on2.object (is_zero (read home2 c2))
          (Stands setting statics s u args2 (written home2 c2 (Name n)))
      comes_back = record {
        words = record {
          at_in = (let l = cell_inside setting statics s u args2 home2 cells3 reads_home c2 k2 x_has in
              let d = length-set cells up_end 0 in omega (arith, where2, l, d));
          up_in = (let l = frame_long setting statics s2 on2 [] end cells (reads_of o) in let d = o.frame.depth_is in
              let i = o.frame.in_depth in omega (arith, l, d, i));
          apart = apart2;
        };
        saved = ap (slice_index cells) (sym up_end_is) ∙ object_word setting statics s2 on2 [] end cells o.frame 0
            u.object 0 spare_words refl long2;
        cell = record {
          touched = λ e z. (let b : FIXED_CELLS + length statics ≤ base setting statics = base_above
              (setup setting statics) in
              other_word setting statics reads_home.frame.at (read home2 c2) (omega (arith, b)) e
              (sym got2 ∙ sym unchanged2 ∙ z));
          untouched = λ e. unchanged2 ∙ got2 ∙ zero_word setting statics reads_home.frame.at (read home2 c2) e;
        };
        back = came;
      }

  -- the callee's code address is in the table of the receiver's class
  pub place_on : (s : Scope) (u : Under) (st end : State) (cells : List ℕ) (x name : Ident) (args : List Ident) (n : ℕ)
      → Stands setting statics (scope_on st n name) (deeper_on place s u st n) [] end cells
      → (r : IsReceiver program s x name args) → is_or_inherits program (own_of st n) (class_number_named program s x)
      ≡ true
      → HasPlace cells (deeper_on place s u st n).object (method_slot_of program (class_number_named program s x) name)
      (routines.top (routine (own_of st n) name) + 1)
  place_on s u st end cells x name args n o r suits =
      let own = own_of st n in
      let above : is_or_inherits program own r.class ≡ true =
      subst (λ z. is_or_inherits program own z ≡ true) (class_is s x name args r) suits in
      let rt = route_of place routine linked s own r.class name args above r.method in
      let low = (dispatched_method program linked.accepted own r.class r.method.slot name.text
      (own_range program own r.class above r.method.inside) above r.method.is_slot).low in
      let t = table_read setting statics linked.routed.few linked.routed.image linked.routed.has
      linked.routed.statics_are (scope_on st n name)
      (deeper_on place s u st n) [] end cells o r.method.slot low in
      subst (λ z. HasPlace cells (deeper_on place s u st n).object z (routines.top (routine own name) + 1))
      (sym (slot_is s x name args r)) (subst (λ p. HasPlace cells (deeper_on place s u st n).object r.method.slot p)
      rt.place_is t)

  pub as_many_on : (s : Scope) (u : Under) (st end : State) (cells : List ℕ) (x name : Ident) (args : List Ident)
      (n : ℕ) → Stands setting statics (scope_on st n name) (deeper_on place s u st n) [] end cells
      → (r : IsReceiver program s x name args) → is_or_inherits program (own_of st n) (class_number_named program s x)
      ≡ true
      → length (map (λ (b : Binding). b.value) end.frame) ≡ length args
  as_many_on s u st end cells x name args n o r suits =
      let own = own_of st n in
      let above : is_or_inherits program own r.class ≡ true =
      subst (λ z. is_or_inherits program own z ≡ true) (class_is s x name args r) suits in
      let rt = route_of place routine linked s own r.class name args above r.method in
      length-map end.frame (λ (b : Binding). b.value) ∙ Rattle.refine_calls.proofs.Bridge.as_many_vars setting statics
      (scope_on st n name) (deeper_on place s u st n) [] end cells (reads_of o)
      ∙ sym (many_params place routine linked s own r.class name args above r.method rt)

  -- the class of the object that the receiver names, when the arguments and the receiver have moved out
  module _ (s : Scope) (u : Under) (st caller : State) (cells : List ℕ) (x name : Ident) (args : List Ident)
      (h : Stands setting statics s u [] st cells) (r : IsReceiver program s x name args)
      (there : is_nil (read st (cell_in setting statics s u x)) ≡ false)
      (out : caller ≡ out_from (cell_in setting statics s u x ∷ map (cell_in setting statics s u) args) st) where
    abbrev n5 : ℕ
    n5 = number_of (read st (cell_in setting statics s u x))

    heads5 : (m : ℕ) → head_named caller.store m ≡ head_named st.store m
    heads5 m = ap (λ (z : State). head_named z.store m) out
        ∙ out_heads setting (shape_of program s) (cell_in setting statics s u x
        ∷ map (cell_in setting statics s u) args) st m

    named5 : read st (cell_in setting statics s u x) ≡ Name n5
    named5 = is_name s u [] st cells h x name args r there

    above5 : is_or_inherits program (own_of caller n5) r.class ≡ true
    above5 = own_above s u [] st cells h x name args r n5 named5 caller heads5

    pub is_for5 : is_or_inherits program (own_of caller n5) (class_number_named program s x) ≡ true
    is_for5 = subst (λ z. is_or_inherits program (own_of caller n5) z ≡ true) (sym (class_is s x name args r)) above5

    pub class5 : own_of st n5 ≡ own_of caller n5
    class5 = own_same s u [] st cells h x name args r n5 named5 caller heads5

    pub route5 : Route program linked.routed.has.places routines routine (own_of caller n5) r.method.slot name
    route5 = route_of place routine linked s (own_of caller n5) r.class name args above5 r.method

  abbrev Comes : Scope → Under → State → List ℕ → Ident → List Ident → ℕ → State → Type 0
  Comes s u end cells x args n z =
      ReturnsReceiver cells (address u.object (frame_address setting statics u) (spot_in program s x))
      (frame_address setting statics u + (FRAME_WORDS + OBJECT_WORD)) u.object (deeper_on place s u z n).object
      (is_zero (read (record z { store = end.store; log = end.log }) (cell_in setting statics s u x)))
      (Stands setting statics s u (pairs args (map (λ (b : Binding). b.value) end.frame))
      (written (record z { store = end.store; log = end.log }) (cell_in setting statics s u x) (Name n)))

  -- the caller's state is the one from which the receiver has moved
  leaves_by : (s : Scope) (u : Under) (st0 st end : State) (cells : List ℕ) (x name : Ident) (args : List Ident) (n : ℕ)
      (moved : List Moved) (before : List ℕ) → Stands setting statics s u moved st0 before
      → st ≡ written st0 (cell_in setting statics s u x) (cleared (read st0 (cell_in setting statics s u x)))
      → Stands setting statics (scope_on st n name) (deeper_on place s u st n) [] end cells
      → (r : IsReceiver program s x name args) → is_or_inherits program (own_of st n) (class_number_named program s x)
      ≡ true
      → ReturnsReceiver cells (address u.object (frame_address setting statics u) (spot_in program s x))
      (frame_address setting statics u + (FRAME_WORDS + OBJECT_WORD)) u.object (deeper_on place s u st n).object
      (is_zero (read (record st { store = end.store; log = end.log }) (cell_in setting statics s u x)))
      (Stands setting statics s u (pairs args (map (λ (b : Binding). b.value) end.frame))
      (written (record st { store = end.store; log = end.log }) (cell_in setting statics s u x) (Name n)))
  leaves_by s u st0 st end cells x name args n moved before h out o r suits =
      subst (λ z. Comes s u end cells x args n z) (sym out)
      (comes_back s u st0 end cells x name args n moved before h r
      (subst (λ z. Stands setting statics (scope_on z n name) (deeper_on place s u z n) [] end cells) out o)
      (subst (λ z. is_or_inherits program (own_of z n) (class_number_named program s x) ≡ true) out suits))

  receiver_words : ReceiverWords (world_of place) (known_calls_of place routine) (receivers_of place)
  receiver_words = record {
    is_variable = λ s x name args r. as_variable s x name args r;
    word = λ s u st cells x name args h r. record {
      at_in = inside s u [] st cells h x name args r;
      small = small s u [] st cells h x name args r;
      nil_word = λ e. nil_word s u [] st cells h x name args r e;
      name_word = λ e. name_word s u [] st cells h x name args r e;
      is_name = λ e. is_name s u [] st cells h x name args r e;
    };
    is_there = λ s u vals st v cells x name args h r. is_there s u vals st v cells x name args h r;
  }

  on_facts : OnFacts (world_of place) (known_calls_of place routine) (receivers_of place)
  on_facts = record {
    slot_small = λ s x name args r. subst (λ z. z < 2 ^ 20) (sym (slot_is s x name args r)) r.method.small;
    dispatches = λ s u st caller cells x name args h r e out. record {
      suits = is_for5 s u st caller cells x name args h r e out;
      class_is = class5 s u st caller cells x name args h r e out;
      runs = record {
        is_routine = (route5 s u st caller cells x name args h r e out).below;
        is_method = (route5 s u st caller cells x name args h r e out).method_is;
      };
    };
    next = λ s u st n. record { fresh = record { is = refl }; above = omega arith };
    enters = λ s u vals st cells x name args n h r many room there is.
        goes_on s u vals st cells x name args n h r many
        (let d = h.frame.depth_is in let q = not_full (1 + length u.callers) setting.limits.deep room in
        omega (arith, d, q))
        (is_name s u (pairs args vals) st cells h x name args r there ∙ ap Name is);
    tells = λ s u st end cells x name args n o r suits. record {
      as_many = as_many_on s u st end cells x name args n o r suits;
      has_place = place_on s u st end cells x name args n o r suits;
    };
    leaves = λ s u st0 st end cells x name args n vals before h out o r suits.
        leaves_by s u st0 st end cells x name args n vals before h out o r suits;
  }

  pub receiver_facts : ReceiverFacts (world_of place) (known_calls_of place routine) (receivers_of place)
  receiver_facts = record { words = receiver_words; calls = on_facts }
