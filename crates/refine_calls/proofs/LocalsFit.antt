-- What blocks with a local variable need of a current frame, for a variable of any type.
use Rattle.std.proofs.Common.{inl, inr, ◌≡◌, ℕ, suc, ◌+◌, ◌-◌, ◌^◌, ◌<◌, ◌≤◌, Bool, true, false, List, [], ◌∷◌, length}
use Rattle.std.proofs.Common.{map, Option, Some, None, refl, sym, ap, ◌∙◌, subst, arith}
use Rattle.std.proofs.lemmas.Bool.{eqb-true}
use Rattle.std.specs.Prelude.{nat_eq, nat_lt, not, ◌⊎◌, ◌&&◌, ◌||◌, slice_index, slice_set, position, bit_xor, Result}
use Rattle.std.specs.Prelude.{Ok, Err}
use Rattle.std.specs.Int.Bits.{xor_self}
use Rattle.std.specs.Option.{unwrap_or, option_map}
use Rattle.std.specs.Str.{bytes_eq}
use Rattle.buddy_pisa.specs.rpp_words.declared.input.TheConstants.{FIXED_CELLS}
use Rattle.method_calls.specs.code_conventions.declared.memory.TheConstants.{FIRST_VARIABLE, MOST_VARIABLES}
use Rattle.method_calls.specs.class_rules.declared.kind.Kind.TheVariants as kind
use Rattle.buddy_pisa.proofs.rpp_words_laws.Laws.{xor-twice}
use Rattle.method_calls.specs.rpp_tree.declared.tree.Var.{Var}
use Rattle.method_calls.specs.rpp_tree.Tree.{Expression, Number, Null, Variable, Element, Binary, Source, nodes}
use Rattle.method_calls.specs.class_rules.declared.kind.Kind.{Kind}
use Rattle.method_calls.specs.class_rules.Expressions.{occurs}
use Rattle.buddy_pisa.specs.paired_code.Does.{Fine}
use Rattle.method_calls.specs.roopl_semantics.Run.{after_cost, given}
use Rattle.method_calls.specs.roopl_semantics.Store.{Value, Word, Nil, Name, Binding, State, main_name, number_of}
use Rattle.method_calls.specs.roopl_semantics.Store.{same_value}
use Rattle.method_calls.specs.roopl_semantics.Value.{Slot, Part, variable_value, read, value, evaluated, element_of}
use Rattle.method_calls.specs.roopl_semantics.Value.{element_cell}
use Rattle.method_calls.specs.roopl_semantics.Value.{read_cell, slot_or_field, combined}
use Rattle.method_calls.specs.roopl_semantics.Execution.{Setting, opened, closed}
use Rattle.method_calls.specs.roopl_semantics.Laws.{one_if_name}
use Rattle.method_calls.specs.meaning_sound.Sound.{is_of_kind, bound_value, local_type, AllFit}
use Rattle.method_calls.specs.class_rules.Inheritance.{kind_of_var}
use Rattle.method_calls.proofs.meaning_sound_laws.Classes.{KnowsClasses}
use Rattle.method_calls.proofs.class_rules_laws.FirstPlaces.{position_cons}
use Rattle.method_calls.proofs.meaning_sound_laws.Values.{ValueFits, int_value, value_fits, IsInt}
use Rattle.method_calls.specs.refine_form.Form.{World, Scope, with_var, run_result}
use Rattle.method_calls.specs.Facts.{LocalFacts, new_word}
use Rattle.method_calls.specs.refine_form.Frames.{Under, value_word, OpenFrame}
use Rattle.refine_calls.proofs.SlotMoves.{new_set, new_clear}
use Rattle.method_calls.specs.refine_form.Stands.{shape_of, extra, Stands}
use Rattle.method_calls.specs.Names.{IntInit}
use Rattle.refine_calls.proofs.Bridge.{set_words, typed, callers_long, before_long, as_many_vars}
use Rattle.refine_calls.proofs.MovesFit.{frame_address, frame_long, frame_read}
use Rattle.refine_calls.proofs.FactsMoves.{same_means}
use Rattle.refine_calls.proofs.FramePlaces.{frame_small}
use Rattle.method_calls.specs.class_rules.Program.{IsAccepted}
use Rattle.method_calls.specs.class_rules.Expressions.{is_int}
use Rattle.buddy_pisa.specs.buddy_book.Place.{Placing}
use Rattle.method_calls.specs.roopl_semantics.Store.{Store}
use Rattle.method_calls.specs.roopl_semantics.Layout.{no_placing}
use Rattle.method_calls.proofs.refine_frame_laws.Memory.{base_above}
use Rattle.method_calls.proofs.meaning_sound_laws.Stores.{differs}
use Rattle.method_calls.proofs.meaning_sound_laws.Values.{word_fits}
use Rattle.method_calls.specs.refine_form.Stands.{Reads, setup}
use Rattle.method_calls.specs.refine_form.Frames.{base}
use Rattle.method_calls.specs.refine_form.Worlds.{Place, world_of}
use Rattle.method_calls.specs.Names.{IsNull, NilInit, IsInit}
use Rattle.refine_calls.proofs.FactsFit.{known}
use Rattle.refine_calls.proofs.SlotMoves.{new_free}
use Rattle.refine_calls.proofs.Bridge.{reads_of}
use Rattle.buddy_pisa.specs.pisa_isa.declared.image.TheConstants.{MOST_STATICS}
use Rattle.method_calls.specs.code_conventions.declared.faults.TheConstants.{INDEX}

-- ---- a variable that does not occur is not read

module _ (program : Source) (b : Binding) (frame : List Binding) (self depth : ℕ)
    (store : Rattle.method_calls.specs.roopl_semantics.Store.Store) (log : Rattle.buddy_pisa.specs.buddy_book.Place.Log)
  where
    abbrev with_it : State
    with_it = record { frame = b ∷ frame; self = self; depth = depth; store = store; log = log }

    abbrev without_it : State
    without_it = record { frame = frame; self = self; depth = depth; store = store; log = log }

    name_under : (name : List ℕ) → bytes_eq name b.name ≡ false
        → variable_value program with_it name ≡ variable_value program without_it name
    name_under name apart =
        ap (λ r. read with_it (slot_or_field program with_it name r))
        (position_cons (bytes_eq name) b.name (map (λ (x : Binding). x.name) frame) false apart)
        ∙ by (position (bytes_eq name) (map (λ (x : Binding). x.name) frame))
      where
        by : (r : Option ℕ) → read with_it (slot_or_field program with_it name (option_map suc r))
            ≡ read without_it (slot_or_field program without_it name r)
        by (Some i) = refl
        by None = refl

    element_under : (v : Value) (i : ℕ) → read_cell with_it (element_cell with_it v i)
        ≡ read_cell without_it (element_cell without_it v i)
    element_under (Word w) i = refl
    element_under Nil i = refl
    element_under (Name n) i = by (Rattle.std.specs.Prelude.nat_lt i
        (length (Rattle.method_calls.specs.roopl_semantics.Store.object_at store n).cells))
      where
        by : (t : Bool) → read_cell with_it (Rattle.std.specs.Prelude.if◌then◌else◌ t (Ok (Part n i)) (Err INDEX))
            ≡ read_cell without_it (Rattle.std.specs.Prelude.if◌then◌else◌ t (Ok (Part n i)) (Err INDEX))
        by true = refl
        by false = refl

    neither : (x y : Bool) → (x || y) ≡ false → (x ≡ false) × (y ≡ false)
    neither true y h = absurd (cc)
    neither false y h = (refl, h)

    pub value_under : (e : Expression) → occurs b.name e ≡ false → value program with_it e ≡ value program without_it e
    value_under (Number at word) h = refl
    value_under (Null at) h = refl
    value_under (Variable name) h = ap (λ v. Ok v) (name_under name.text h)
    value_under (Element name index) h =
        let n = neither (bytes_eq name.text b.name) (occurs b.name index) h in
        ap (λ r. read_cell with_it (element_of program with_it name.text r)) (value_under index n.1)
        ∙ by n.0 (value program without_it index)
      where
        by : bytes_eq name.text b.name ≡ false → (r : Result Value ℕ)
            → read_cell with_it (element_of program with_it name.text r)
            ≡ read_cell without_it (element_of program without_it name.text r)
        by a (Ok i) = ap (λ v. read_cell with_it (element_cell with_it v (number_of i))) (name_under name.text a)
            ∙ element_under (variable_value program without_it name.text) (number_of i)
        by a (Err f) = refl
    value_under (Binary at o left right) h =
        let n = neither (occurs b.name left) (occurs b.name right) h in
        ap (λ x. combined o x (value program with_it right)) (value_under left n.0)
        ∙ ap (combined o (value program without_it left)) (value_under right n.1)

-- ---- ints

-- what a run of an evaluation gave
pub told_ok : (n : ℕ) (r : Result Value ℕ) (v : Value) (c : ℕ) → run_result (after_cost n (given r)) ≡ Fine v c
    → r ≡ Ok v
told_ok n (Ok x) v c e = let s : x ≡ v = cc in ap (λ z. Ok z) s
told_ok n (Err f) v c e = absurd (cc)

pub xor_none : (a b : ℕ) → bit_xor a b ≡ 0 → a ≡ b
xor_none a b e = sym (xor-twice a b) ∙ ap (λ z. bit_xor z b) e

-- the value of nil
pub null_value : (program : Source) (st : State) (e : Expression) → IsNull e → value program st e ≡ Ok Nil
null_value program st (Number at word) h = absurd h
null_value program st (Null at) h = refl
null_value program st (Variable name) h = absurd h
null_value program st (Element name index) h = absurd h
null_value program st (Binary at o left right) h = absurd h

-- it reads nothing
pub null_reads : (program : Source) (st other : State) (e : Expression) → IsNull e
    → evaluated program e st ≡ evaluated program e other
null_reads program st other (Number at word) h = absurd h
null_reads program st other (Null at) h = refl
null_reads program st other (Variable name) h = absurd h
null_reads program st other (Element name index) h = absurd h
null_reads program st other (Binary at o left right) h = absurd h

nil_fits : (program : Source) (store : Store) (k : Kind) → is_int k ≡ false → is_of_kind program store Nil k ≡ true
nil_fits program store k h = ap not h

ok_same : (r : Result Value ℕ) (a b : Value) → r ≡ Ok a → r ≡ Ok b → a ≡ b
ok_same r a b h g = let e : Ok a ≡ Ok b = sym h ∙ g in cc

-- a value of a type that is no int is nil or a name
abbrev pub IsReference : Value → Type 0
IsReference (Word w) = ⊥
IsReference Nil = Unit {0}
IsReference (Name n) = Unit {0}

reference : (program : Source) (store : Store) (v : Value) (k : Kind) → is_int k ≡ false
    → is_of_kind program store v k ≡ true
    → IsReference v
reference program store (Word w) k h f = absurd (let e : (is_int k && nat_lt w (2 ^ 32))
    ≡ false = ap (λ b. b && nat_lt w (2 ^ 32)) h in cc)
reference program store Nil k h f = tt
reference program store (Name n) k h f = tt

same_nil : (v : Value) → IsReference v → same_value v Nil ≡ true → v ≡ Nil
same_nil Nil r h = refl
same_nil (Name n) r h = absurd (cc)
same_nil (Word w) r h = absurd r

module _ (place : Place) (accepted : IsAccepted place.setting.program) (few : length place.statics ≤ MOST_STATICS) where
  abbrev setting : Setting
  setting = place.setting

  abbrev statics : List ℕ
  statics = place.statics

  abbrev w : World
  w = world_of place

  abbrev program : Source
  program = place.setting.program

  classes : KnowsClasses place.setting.program
  classes = known place.setting.program accepted

  abbrev word_place : Under → Scope → ℕ
  word_place u s = frame_address setting statics u + new_word s

  placing_is : (s : Scope) (u : Under) (vals : List Value) (st : State) (cells : List ℕ)
      (f : OpenFrame setting statics s u vals st cells) → unwrap_or
      (Rattle.buddy_pisa.specs.buddy_book.Place.place setting.limits.heap st.log) no_placing ≡ f.at
  placing_is s u vals st cells f = ap (λ o. unwrap_or o no_placing) f.placed

  -- the value of a new variable: of its type, no name, a word
  pub record IsNew (st : State) (var : Var) (v : Value) : Type 0 where
    pub fit : is_of_kind program st.store v (kind_of_var program var) ≡ true
    pub none : (m : ℕ) → one_if_name m v ≡ 0
    pub small : (at : Placing) → value_word setting statics at v < 2 ^ 32

  -- the value of an int is a word
  pub int_init : (s : Scope) (u : Under) (st : State) (cells : List ℕ) (var : Var) (e : Expression)
      → Stands setting statics s u [] st cells → IntInit program s var e → (v : Value) → value program st e ≡ Ok v
      → IsInt v
  int_init s u st cells var e h t v q =
      let f = value_fits setting classes (extra u []) (shape_of program s) (shape_of program s) s.class
      h.keeps.class_inside (same_means (shape_of program s)) st e kind.Int
      (typed setting statics s u [] st cells (reads_of h)) t.has_words t.typed in
      int_value program st.store v (subst (ValueFits program st.store kind.Int) q f)

  new_int : (st : State) (var : Var) (v : Value) → kind_of_var program var ≡ kind.Int → IsInt v → IsNew st var v
  new_int st var v k i = record {
    fit = subst (λ z. is_of_kind program st.store z (kind_of_var program var) ≡ true) (sym i.is)
        (subst (λ z. is_of_kind program st.store (Word i.word) z ≡ true) (sym k)
        (word_fits program st.store i.word i.small));
    none = λ m. ap (one_if_name m) i.is;
    small = λ at. subst (λ z. value_word setting statics at z < 2 ^ 32) (sym i.is) i.small;
  }

  new_nil : (st : State) (var : Var) (v : Value) → is_int (kind_of_var program var) ≡ false → v ≡ Nil → IsNew st var v
  new_nil st var v k i = record {
    fit = subst (λ z. is_of_kind program st.store z (kind_of_var program var) ≡ true) (sym i)
        (nil_fits program st.store (kind_of_var program var) k);
    none = λ m. ap (one_if_name m) i;
    small = λ at. subst (λ z. value_word setting statics at z < 2 ^ 32) (sym i) (omega arith);
  }

  pub new_value : (s : Scope) (u : Under) (st : State) (cells : List ℕ) (var : Var) (e : Expression)
      → Stands setting statics s u [] st cells → IsInit program s var e → (v : Value) → value program st e ≡ Ok v
      → IsNew st var v
  new_value s u st cells var e h is v q = by is.value
    where
      by : IntInit program s var e ⊎ NilInit program var e → IsNew st var v
      by (inl i) = new_int st var v i.is_int (int_init s u st cells var e h i v q)
      by (inr n) = new_nil st var v n.no_int (ok_same (value program st e) v Nil q (null_value program st e n.null))

  -- ---- a variable is declared

  pub declared : (s : Scope) (u : Under) (st : State) (cells : List ℕ) (var : Var) (v : Value)
      → Stands setting statics s u [] st cells → length s.vars < MOST_VARIABLES → IsNew st var v
      → Stands setting statics (with_var s var) u [] (opened var.name.text v st)
      (slice_set cells (word_place u s) (w.word_of u st v))
  declared s u st cells var v h few_here new =
      let k = h.keeps in
      let b : Binding = record { name = var.name.text; value = v } in
      let n = as_many_vars setting statics s u [] st cells (reads_of h) in
      let few_vars : length st.frame < MOST_VARIABLES = omega (arith, n, few_here) in
      let x = w.word_of u st v in
      let word_is : x ≡ value_word setting statics h.frame.at v =
      ap (λ a. value_word setting statics a v) (placing_is s u [] st cells h.frame) in
      let at_new : ℕ = frame_address setting statics u + (FIRST_VARIABLE + length st.frame) in
      let place_same : word_place u s ≡ frame_address setting statics u + (FIRST_VARIABLE + length st.frame) =
      ap (λ j. frame_address setting statics u + (FIRST_VARIABLE + j)) (sym n) in
      record {
        frame = record {
          at = h.frame.at;
          placed = h.frame.placed;
          cells_are =
              ap (λ a. slice_set cells a x) place_same ∙ ap (slice_set cells
              (frame_address setting statics u + (FIRST_VARIABLE + length st.frame))) word_is
              ∙ ap (λ c. slice_set c (frame_address setting statics u + (FIRST_VARIABLE + length st.frame))
              (value_word setting statics h.frame.at v)) h.frame.cells_are
              ∙ new_set setting statics h.frame.at st.store u h.frame.put_long
              (callers_long setting statics s u [] st cells (reads_of h))
              (before_long setting statics s u [] st cells (reads_of h)) st.frame few_vars b;
          names_are = ap (λ l. var.name.text ∷ l) h.frame.names_are;
          self_is = h.frame.self_is;
          stands = h.frame.stands;
          callers_stand = h.frame.callers_stand;
          depth_is = h.frame.depth_is;
          in_depth = h.frame.in_depth;
          put_long = h.frame.put_long;
          few = omega (arith, few_vars);
          few_vals = omega arith;
          above_fits = tt;
        };
        keeps = record {
          class_inside = k.class_inside;
          variables = (new.fit, k.variables);
          objects = k.objects;
          arrays = k.arrays;
          lives = k.lives;
          self_is = k.self_is;
          own_is = k.own_is;
          self_held = k.self_held;
          main_extra = k.main_extra;
          main_unheld = (let a = k.main_unheld in let o = new.none main_name in omega (arith, a, o));
          fresh = k.fresh;
          placed = k.placed;
          grounded = k.grounded;
          callers_fit = k.callers_fit;
          callers_held = k.callers_held;
          moved_fit = tt;
        };
        counts = λ m c q. (let a = h.counts m c q in let o = new.none m in omega (arith, a, o));
        words = set_words cells (word_place u s) x h.words (subst (λ z. z < 2 ^ 32) (sym word_is)
            (new.small h.frame.at));
      }

  -- ---- and goes

  -- the frame of a scope with one more variable
  pub record HasVar (st : State) (var : Var) : Type 0 where
    pub rest : List Binding
    pub value : Value
    pub frame_is : st.frame ≡ record { name = var.name.text; value = value } ∷ rest
    pub fit : is_of_kind program st.store value (kind_of_var program var) ≡ true

  pub has_var : (s : Scope) (u : Under) (st : State) (cells : List ℕ) (var : Var)
      → Stands setting statics (with_var s var) u [] st cells → HasVar st var
  has_var s u st cells var h = by st.frame refl h.frame.names_are h.keeps.variables
    where
      by : (frame : List Binding) → st.frame ≡ frame → map (λ (x : Binding). x.name) frame
          ≡ map (λ (v : Var). v.name.text) (var ∷ s.vars) → AllFit program st.store
          (map local_type (shape_of program (with_var s var))) (map bound_value frame) → HasVar st var
      by [] q names all = absurd all
      by (b ∷ rest) q names all =
          let same : b.name ≡ var.name.text = heads names in
          record {
            rest = rest;
            value = b.value;
            frame_is = q
                ∙ ap (λ z. record { name = z; value = b.value } ∷ rest) same;
            fit = all.0;
          }
        where
          heads : {a c : List ℕ} {xs ys : List (List ℕ)} → a ∷ xs ≡ c ∷ ys → a ≡ c
          heads e = cc

  module _ (s : Scope) (u : Under) (st : State) (cells : List ℕ) (var : Var) (rest : List Binding) (v : Value)
      (h : Stands setting statics (with_var s var) u [] (record st
      { frame = record { name = var.name.text; value = v } ∷ rest }) cells) where
    abbrev without : State
    without = record st { frame = rest }

    pub undeclared : Reads setting statics s u [] without (slice_set cells (word_place u s) 0)
    undeclared =
        let k = h.keeps in
        let b : Binding = record { name = var.name.text; value = v } in
        let st1 : State = record st { frame = b ∷ rest } in
        let n : suc (length rest) ≡ suc (length s.vars) = as_many_vars setting statics (with_var s var) u [] st1 cells
        (reads_of h) in
        let n' : length rest ≡ length s.vars = omega (arith, n) in
        let few_vars : length rest < MOST_VARIABLES = (let q : suc (length rest) ≤ MOST_VARIABLES = h.frame.few in
        omega (arith, q)) in
        let place_same : word_place u s ≡ frame_address setting statics u + (FIRST_VARIABLE + length rest) =
        ap (λ j. frame_address setting statics u + (FIRST_VARIABLE + j)) (sym n') in
        record {
          frame = record {
            at = h.frame.at;
            placed = h.frame.placed;
            cells_are =
                ap (λ a. slice_set cells a 0) place_same ∙ ap (λ c. slice_set c
                (frame_address setting statics u + (FIRST_VARIABLE + length rest)) 0) h.frame.cells_are
                ∙ new_clear setting statics h.frame.at st.store u h.frame.put_long
                (callers_long setting statics (with_var s var) u [] st1 cells (reads_of h))
                (before_long setting statics (with_var s var) u [] st1 cells (reads_of h)) rest few_vars b;
            names_are = tails h.frame.names_are;
            self_is = h.frame.self_is;
            stands = h.frame.stands;
            callers_stand = h.frame.callers_stand;
            depth_is = h.frame.depth_is;
            in_depth = h.frame.in_depth;
            put_long = h.frame.put_long;
            few = omega (arith, few_vars);
            few_vals = omega arith;
            above_fits = tt;
          };
          keeps = record {
            class_inside = k.class_inside;
            variables = k.variables.1;
            objects = k.objects;
            arrays = k.arrays;
            lives = k.lives;
            self_is = k.self_is;
            own_is = k.own_is;
            self_held = k.self_held;
            main_extra = k.main_extra;
            main_unheld = (let a = k.main_unheld in omega (arith, a));
            fresh = k.fresh;
            placed = k.placed;
            grounded = k.grounded;
            callers_fit = k.callers_fit;
            callers_held = k.callers_held;
            moved_fit = tt;
          };
          words = set_words cells (word_place u s) 0 h.words (omega arith);
        }
      where
        tails : {a c : List ℕ} {xs ys : List (List ℕ)} → a ∷ xs ≡ c ∷ ys → xs ≡ ys
        tails e = cc

    -- if the variable held no name, the counts are right without it
    pub counted : ((m : ℕ) → one_if_name m v ≡ 0) → Stands setting statics s u [] without
        (slice_set cells (word_place u s) 0)
    counted none = record {
      frame = undeclared.frame;
      keeps = undeclared.keeps;
      words = undeclared.words;
      counts = λ m c q. (let a = h.counts m c q in let o = none m in omega (arith, a, o));
    }

  -- the same state, with its innermost variable written out
  pub opened_out : (st : State) (var : Var) (i : HasVar st var)
      → st ≡ record st { frame = record { name = var.name.text; value = i.value } ∷ i.rest }
  opened_out st var i = ap (λ f. record st { frame = f }) i.frame_is

  pub read_out : (st : State) (var : Var) (i : HasVar st var) → read st (Slot 0) ≡ i.value
  read_out st var i = ap (λ z. read z (Slot 0)) (opened_out st var i)

  module _ (s : Scope) (u : Under) (st : State) (cells : List ℕ) (var : Var)
      (h : Stands setting statics (with_var s var) u [] st cells) where
    abbrev has : HasVar st var
    has = has_var s u st cells var h

    abbrev out : st ≡ record st { frame = record { name = var.name.text; value = has.value } ∷ has.rest }
    out = opened_out st var has

    abbrev standing : Stands setting statics (with_var s var) u []
        (record st { frame = record { name = var.name.text; value = has.value } ∷ has.rest }) cells
    standing = subst (λ z. Stands setting statics (with_var s var) u [] z cells) out h

    pub goes : Reads setting statics s u [] (closed st) (slice_set cells (word_place u s) 0)
    goes = subst (λ z. Reads setting statics s u [] z (slice_set cells (word_place u s) 0)) (sym (ap closed out))
        (undeclared s u st cells var has.rest has.value standing)

    pub goes_counted : ((m : ℕ) → one_if_name m has.value ≡ 0)
        → Stands setting statics s u [] (closed st) (slice_set cells (word_place u s) 0)
    goes_counted none = subst (λ z. Stands setting statics s u [] z (slice_set cells (word_place u s) 0))
        (sym (ap closed out)) (counted s u st cells var has.rest has.value standing none)

    -- an int: its value, and the closing value
    own_int : kind_of_var program var ≡ kind.Int → IsInt has.value
    own_int k = int_value program st.store has.value (subst (λ z. is_of_kind program st.store has.value z ≡ true) k
        has.fit)

    int_none : kind_of_var program var ≡ kind.Int → (m : ℕ) → one_if_name m has.value ≡ 0
    int_none k m = let i = own_int k in ap (one_if_name m) i.is

    last_int : (e : Expression) (i : IntInit program s var e) (v : Value) → value program (closed st) e ≡ Ok v → IsInt v
    last_int e i v q = int_init s u (closed st) (slice_set cells (word_place u s) 0) var e
        (goes_counted (int_none i.is_int)) i v q

    own_reference : is_int (kind_of_var program var) ≡ false → IsReference has.value
    own_reference k = reference program st.store has.value (kind_of_var program var) k has.fit

    pub closes : (e : Expression) → IsInit program s var e → (v : Value) (c : ℕ)
        → run_result (evaluated program e (closed st)) ≡ Fine v c → same_value (read st (Slot 0)) v ≡ true
        → Stands setting statics s u [] (closed st) (slice_set cells (word_place u s) 0)
    closes e is v c t same = goes_counted (by is.value)
      where
        by : IntInit program s var e ⊎ NilInit program var e → (m : ℕ) → one_if_name m has.value ≡ 0
        by (inl i) m = int_none i.is_int m
        by (inr n) m =
            let v_nil : v ≡ Nil = ok_same (value program (closed st) e) v Nil
            (told_ok (nodes e) (value program (closed st) e) v c t) (null_value program (closed st) e n.null) in
            let both : same_value has.value Nil ≡ true = sym (ap (λ z. same_value z v) (read_out st var has)
            ∙ ap (same_value has.value) v_nil) ∙ same in
            ap (one_if_name m) (same_nil has.value (own_reference n.no_int) both)

    abbrev words_xor : Value → ℕ
    words_xor v = bit_xor (w.word_of u st (read st (Slot 0))) (w.word_of u (closed st) v)

    words_out : (v a b : Value) → has.value ≡ a → v ≡ b → words_xor v ≡ bit_xor (w.word_of u st a) (w.word_of u st b)
    words_out v a b p q = ap (λ z. bit_xor (w.word_of u st z) (w.word_of u (closed st) v)) (read_out st var has ∙ p)
        ∙ ap (λ z. bit_xor (w.word_of u st a) (w.word_of u (closed st) z)) q

    abbrev above_zero : 0 < base setting statics
    above_zero = let q : FIXED_CELLS + length statics ≤ base setting statics = base_above (setup setting statics) in
        omega (arith, q)

    pub same_words : (e : Expression) → IsInit program s var e → (v : Value) (c : ℕ)
        → run_result (evaluated program e (closed st)) ≡ Fine v c → same_value (read st (Slot 0)) v ≡ true
        → words_xor v ≡ 0
    same_words e is v c t same = by is.value
      where
        ok : value program (closed st) e ≡ Ok v
        ok = told_ok (nodes e) (value program (closed st) e) v c t

        by : IntInit program s var e ⊎ NilInit program var e → words_xor v ≡ 0
        by (inl i) =
            let a = own_int i.is_int in
            let b = last_int e i v ok in
            let eq : a.word ≡ b.word = eqb-true a.word b.word
            (sym (ap (λ z. same_value z v) (read_out st var has ∙ a.is) ∙ ap (same_value (Word a.word)) b.is)
            ∙ same) in
            words_out v (Word a.word) (Word b.word) a.is b.is ∙ ap (bit_xor a.word) (sym eq) ∙ xor_self a.word
        by (inr n) =
            let v_nil : v ≡ Nil = ok_same (value program (closed st) e) v Nil ok
            (null_value program (closed st) e n.null) in
            let both : same_value has.value Nil ≡ true = sym (ap (λ z. same_value z v) (read_out st var has)
            ∙ ap (same_value has.value) v_nil) ∙ same in
            words_out v Nil Nil (same_nil has.value (own_reference n.no_int) both) v_nil ∙ xor_self 0

    other_reference : (a : Value) → IsReference a → same_value a Nil ≡ false
        → bit_xor (w.word_of u st a) (w.word_of u st Nil) ≡ 0 → ⊥
    other_reference Nil r d z = cc
    other_reference (Word x) r d z = r
    other_reference (Name n) r d z =
        let e : w.word_of u st (Name n) ≡ 0 = xor_none (w.word_of u st (Name n)) 0 z in
        omega (arith, e, above_zero)

    pub other_words : (e : Expression) → IsInit program s var e → (v : Value) (c : ℕ)
        → run_result (evaluated program e (closed st)) ≡ Fine v c → same_value (read st (Slot 0)) v ≡ false
        → words_xor v ≡ 0
        → ⊥
    other_words e is v c t other z = by is.value
      where
        ok : value program (closed st) e ≡ Ok v
        ok = told_ok (nodes e) (value program (closed st) e) v c t

        by : IntInit program s var e ⊎ NilInit program var e → ⊥
        by (inl i) =
            let a = own_int i.is_int in
            let b = last_int e i v ok in
            differs a.word b.word (sym (ap (λ z. same_value z v) (read_out st var has ∙ a.is)
            ∙ ap (same_value (Word a.word)) b.is) ∙ other)
            (xor_none a.word b.word (sym (words_out v (Word a.word) (Word b.word) a.is b.is) ∙ z))
        by (inr n) =
            let v_nil : v ≡ Nil = ok_same (value program (closed st) e) v Nil ok
            (null_value program (closed st) e n.null) in
            let apart : same_value has.value Nil ≡ false = sym
            (ap (λ z. same_value z v) (read_out st var has) ∙ ap (same_value has.value) v_nil) ∙ other in
            other_reference has.value (own_reference n.no_int) apart (sym (words_out v has.value Nil refl v_nil) ∙ z)

    pub not_named : (e : Expression) → IsInit program s var e → evaluated program e st ≡ evaluated program e (closed st)
    not_named e is = by is.value
      where
        by : IntInit program s var e ⊎ NilInit program var e → evaluated program e st ≡ evaluated program e (closed st)
        by (inl i) =
            let b : Binding = record { name = var.name.text; value = has.value } in
            subst (λ z. evaluated program e z ≡ evaluated program e (closed z)) (sym out)
            (ap (λ r. after_cost (nodes e) (given r)) (value_under program b has.rest st.self st.depth st.store
            st.log e i.apart))
        by (inr n) = null_reads program st (closed st) e n.null

  pub local_facts : LocalFacts (world_of place) (IsInit place.setting.program)
  local_facts = record {
    frame_small = λ s u moved st cells h. frame_small setting statics few s u moved st cells h;
    few_vars = λ s var e is. (let q = is.few in omega (arith, q));
    free_in = λ s u st cells var e h is. (let l = frame_long setting statics s u [] st cells (reads_of h) in
        let d = h.frame.depth_is in let i = h.frame.in_depth in let q = is.few in omega (arith, l, d, i, q));
    free_word = λ s u st cells var e h is.
        let n = as_many_vars setting statics s u [] st cells (reads_of h) in
        let few_vars : length st.frame < MOST_VARIABLES = (let q = is.few in omega (arith, n, q)) in
        ap (λ j. slice_index cells (frame_address setting statics u + (FIRST_VARIABLE + j))) (sym n)
        ∙ ap (λ c. slice_index c (frame_address setting statics u + (FIRST_VARIABLE + length st.frame)))
        h.frame.cells_are
        ∙ new_free setting statics h.frame.at st.store u h.frame.put_long
        (callers_long setting statics s u [] st cells (reads_of h))
        (before_long setting statics s u [] st cells (reads_of h)) st.frame few_vars;
    declares = λ s u st cells var e v c h is t.
        declared s u st cells var v h is.few (new_value s u st cells var e h is v
        (told_ok (nodes e) (value program st e) v c t));
    var_in = λ s u st cells var e h is. (let l = frame_long setting statics (with_var s var) u [] st cells (reads_of h)
        in let d = h.frame.depth_is in let i = h.frame.in_depth in let q = is.few in omega (arith, l, d, i, q));
    var_word = λ s u st cells var e h is.
        let n : length st.frame ≡ suc (length s.vars) = as_many_vars setting statics (with_var s var) u [] st cells
        (reads_of h) in
        let p : word_place u s ≡ frame_address setting statics u + (FIRST_VARIABLE + (length st.frame - 1 - 0)) =
        omega (arith, n) in
        ap (slice_index cells) p ∙ frame_read setting statics (with_var s var) u [] st cells (reads_of h) (Slot 0)
        (kind_of_var program var) refl
        ∙ ap (λ a. value_word setting statics a (read st (Slot 0)))
        (sym (placing_is (with_var s var) u [] st cells h.frame));
    undeclares = λ s u st cells var e h is. goes s u st cells var h;
    closes = λ s u st cells var e v c h is t same. closes s u st cells var h e is v c t same;
    not_named = λ s u st cells var e h is. not_named s u st cells var h e is;
    same_words = λ s u st cells var e v c h is t same. same_words s u st cells var h e is v c t same;
    other_words = λ s u st cells var e v c h is t other z. other_words s u st cells var h e is v c t other z;
  }
