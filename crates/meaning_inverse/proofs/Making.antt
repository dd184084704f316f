-- The facts of `new` and `delete`, from the rules of types.
use Rattle.std.proofs.Common.{◌≡◌, ℕ, zero, suc, ◌+◌, refl, sym, ap, subst, ◌∙◌, true, false, Bool, ◌&&◌, List, [], ◌∷◌}
use Rattle.std.proofs.Common.{length, map, replicate, Option, Some, None, unwrap_or, Ok, nat_eq, slice_get}
use Rattle.std.proofs.Common.{if◌then◌else◌, eqb-true}
use Rattle.meaning_reached.specs.rpp_tree.declared.tree.Ident.{Ident}
use Rattle.meaning_reached.specs.rpp_tree.declared.tree.Var.{Var}
use Rattle.meaning_reached.specs.rpp_tree.declared.tree.VarType.{VarType}
use Rattle.meaning_reached.specs.rpp_tree.declared.tree.VarType.TheVariants as type
use Rattle.meaning_reached.specs.rpp_tree.Tree.{Expression, Lvalue, Whole, Item, Creation, Source}
use Rattle.meaning_reached.specs.class_rules.declared.kind.Kind.{Kind}
use Rattle.meaning_reached.specs.class_rules.Table.{table_of, class_of}
use Rattle.meaning_reached.specs.class_rules.Refusal.{type_differs, self_update}
use Rattle.meaning_reached.specs.class_rules.Scope.{Typing, Locals, kind_in, kind_of, array_kind}
use Rattle.meaning_reached.specs.class_rules.Expressions.{is_int, element_kind, type_of, place_type, occurs}
use Rattle.meaning_reached.specs.rpp_tree.Places.{place_name}
use Rattle.meaning_reached.specs.class_rules.Statements.{verdict_passed, required, occurs_in_own_index, occurs_in_length, make_rules}
use Rattle.meaning_reached.specs.class_rules.Statements.{made_known, length_is_int, takes}
use Rattle.meaning_reached.specs.class_rules.Program.{setting_in}
use Rattle.meaning_reached.specs.buddy_book.Place.{count_taken}
use Rattle.meaning_reached.specs.roopl_semantics.Store.{Value, Word, Nil, Name, Head, Store, State, is_zero, zero_value, zero_values}
use Rattle.meaning_reached.specs.roopl_semantics.Store.{object_named, object_at, no_object, class_of_head}
use Rattle.meaning_reached.specs.roopl_semantics.Value.{Cell, Slot, Part, slot_of, slot_or_field, cell_named, variable_value, value_at}
use Rattle.meaning_reached.specs.roopl_semantics.Value.{read, written, value as value_in, cell_of}
use Rattle.meaning_reached.specs.roopl_semantics.Elements.{elements, index_elements, own_element, share_array}
use Rattle.meaning_reached.specs.roopl_semantics.Execution.{Setting, new_object, all_zero}
use Rattle.meaning_reached.specs.class_rules.Inheritance.{kind_of_var}
use Rattle.meaning_reached.specs.meaning_sound.Sound.{AllFit}
use Rattle.meaning_reached.proofs.meaning_sound_laws.Classes.{KnowsClasses}
use Rattle.meaning_reached.proofs.class_rules_laws.PassedRules.{both_passed, held as was_held, handed_on, both_true, neither_true}
use Rattle.meaning_reached.proofs.meaning_sound_laws.Locals.{no_int_class}
use Rattle.meaning_reached.proofs.meaning_sound_laws.AfterWrites.{read_other}
use Rattle.meaning_inverse.proofs.Cells.{IsCell, IsSlot, IsPart}
use Rattle.meaning_inverse.proofs.Later.{frame_names}
use Rattle.meaning_inverse.proofs.Ground.{IsLive, AreLive, made_state, is_word}
use Rattle.meaning_inverse.proofs.Calls.{cells_later, live_read}
use Rattle.meaning_inverse.proofs.Places.{added, not_drawn}
use Rattle.meaning_inverse.proofs.Drawn.{gone, gone_frame, gone_self, gone_none, gone_other}
use Rattle.meaning_inverse.proofs.Steady.{SameArray, SamePlace, AllRead, Avoids, all_unit, avoids_of, share_same}
use Rattle.meaning_inverse.proofs.Steady.{own_read}
use Rattle.meaning_inverse.proofs.Steady.{index_read, VariablesStay, value_same, place_same, reads_stay}
use Rattle.meaning_inverse.proofs.Known.{Context, Good, word_of_kind, typed_in, is_cell, are_live}
use Rattle.meaning_inverse.proofs.Apart.{written_stays, apart_stays, stays_then, named_written, length_written}
use Rattle.meaning_inverse.proofs.Apart.{item_typed}
use Rattle.meaning_inverse.proofs.Apart.{place_apart, cell_kind_of}
use Rattle.meaning_inverse.proofs.Facts.{no_own_element, VariableSame, length_of_array, length_then, place_stays}
use Rattle.meaning_inverse.proofs.Facts.{variable_apart, variable_written, variable_then}
use Rattle.std.proofs.lemmas.Bool.{and_parts}

-- ---- zeros of a type

zero_of : (v : Value) (t : Bool) → is_word v ≡ t → is_zero v ≡ true → v ≡ (if t then Word 0 else Nil)
zero_of (Word w) true e z = ap (λ n. Word n) (eqb-true w 0 z)
zero_of (Word w) false e z = cc
zero_of Nil true e z = cc
zero_of Nil false e z = refl
zero_of (Name n) t e z = cc

int_of_type : (program : Source) (k : VarType) → (if is_int (kind_of (table_of program) k) then Word 0 else Nil)
    ≡ zero_value k
int_of_type program type.Int = refl
int_of_type program (type.Class c) = ap (λ t. if t then Word 0 else Nil)
    (no_int_class (class_of (table_of program) c.text))
int_of_type program type.IntArray = refl
int_of_type program (type.ClassArray c) = by (class_of (table_of program) c.text)
  where
    by : (o : Option ℕ) → (if is_int (array_kind o) then Word 0 else Nil) ≡ Nil
    by None = refl
    by (Some n) = refl

pub zeros_of : (program : Source) (store : Store) (vars : List Var) (cells : List Value)
    → AllFit program store (map (kind_of_var program) vars) cells → all_zero cells ≡ true → cells ≡ zero_values vars
zeros_of program store [] [] h z = refl
zeros_of program store [] (v ∷ cells) h z = absurd h
zeros_of program store (var ∷ vars) [] h z = absurd h
zeros_of program store (var ∷ vars) (v ∷ cells) h z =
    let parts = and_parts (is_zero v) (all_zero cells) z in
    ap (λ x. x ∷ cells) (zero_of v (is_int (kind_of_var program var))
    (word_of_kind program store v (kind_of_var program var) h.0) parts.0 ∙ int_of_type program var.kind)
    ∙ ap (λ l. zero_value var.kind ∷ l) (zeros_of program store vars cells h.1 parts.1)

pub zeros_alike : (program : Source) (store : Store) (n : ℕ) (k : Kind) (cells : List Value)
    → AllFit program store (replicate n k) cells → all_zero cells ≡ true
    → cells ≡ replicate (length cells) (if is_int k then Word 0 else Nil)
zeros_alike program store zero k [] h z = refl
zeros_alike program store zero k (v ∷ cells) h z = absurd h
zeros_alike program store (suc n) k [] h z = absurd h
zeros_alike program store (suc n) k (v ∷ cells) h z =
    let parts = and_parts (is_zero v) (all_zero cells) z in
    ap (λ x. x ∷ cells) (zero_of v (is_int k) (word_of_kind program store v k h.0) parts.0)
    ∙ ap (λ l. (if is_int k then Word 0 else Nil) ∷ l) (zeros_alike program store n k cells h.1 parts.1)

pub length_same : (n : ℕ) (k : Kind) → length (replicate n k) ≡ n
length_same zero k = refl
length_same (suc n) k = ap suc (length_same n k)

-- ---- what the rules say

pub record MakeParts (typing : Typing) (locals : Locals) (made : Creation) (place : Lvalue) : Type 0 where
  pub type : Kind
  pub is : place_type typing locals place ≡ Ok type
  pub takes_it : takes typing.table made type ≡ true
  pub int : length_is_int typing locals made ≡ Ok true
  pub own : occurs_in_own_index place ≡ false
  pub length : occurs_in_length (place_name place).text made ≡ false

pub make_parts : (typing : Typing) (locals : Locals) (at : ℕ) (made : Creation) (place : Lvalue)
    → make_rules typing locals at made place ≡ verdict_passed → MakeParts typing locals made place
make_parts typing locals at made place h =
    let known = both_passed (made_known typing.table made) _ h in
    let p = handed_on (place_type typing locals place) _ tt known.1 in
    let int = handed_on (length_is_int typing locals made) _ tt p.goes in
    let fit = both_passed (required (int.value && takes typing.table made p.value) (type_differs at)) _ int.goes in
    let parts = both_true int.value (takes typing.table made p.value) (was_held _ (type_differs at) fit.0) in
    let apart = neither_true (occurs_in_own_index place) (occurs_in_length (place_name place).text made)
    (was_held _ (self_update at) fit.1) in
    record {
      type = p.value;
      is = p.is;
      takes_it = parts.1;
      int = int.is
          ∙ ap (λ b. Ok b) parts.0;
      own = apart.0;
      length = apart.1;
    }

module _ (setting : Setting) (classes : KnowsClasses setting.program) (C : Context setting) where
  abbrev program : Source
  program = setting.program

  abbrev typing : Typing
  typing = setting_in program (table_of program) C.class

  -- a place whose type is that of no elements is a variable
  pub whole_avoids : (st : State) (t : Lvalue) (k : Kind) (reads : List Ident) → place_type typing C.locals t ≡ Ok k
      → ((x : Kind) → element_kind x ≡ Some k → ⊥) → AllRead (Avoids program st t) reads
  whole_avoids st (Whole name) k reads typed never = all_unit reads
  whole_avoids st (Item name index) k reads typed never = let item = item_typed setting classes C name index k typed in
      absurd (never item.array item.element)

  -- ---- one object more

  module _ (st : State) (g : Good setting C st) (size : ℕ) (head : Head) (cells : List Value) where
    abbrev more : State
    more = added st size head cells

    live : AreLive st
    live = are_live setting classes C st (typed_in setting classes C st g)

    object_added : (n : ℕ) → IsLive st.store n → object_at more.store n ≡ object_at st.store n
    object_added n l = ap (λ t. unwrap_or (if t then Some (new_object head cells) else object_named st.store n)
        no_object) (not_drawn st g.drawn n l.object l.there)

    named_added : (name : List ℕ) → cell_named program more name ≡ cell_named program st name
    named_added name = cells_later setting st more refl refl
        (ap (λ o. class_of_head o.head) (object_added st.self live.self)) name

    read_added : (c : Cell) → IsCell st c → read more c ≡ read st c
    read_added c (IsSlot i h) = refl
    read_added c (IsPart n i o e h) = ap (λ x. unwrap_or (slice_get x.cells i) Nil)
        (object_added n (record { object = o; there = e }))

    variable_added : (other : List ℕ) (k : Kind) → kind_in typing C.locals other ≡ Some k
        → variable_value program more other ≡ variable_value program st other
    variable_added other k known = ap (read more) (named_added other)
        ∙ read_added (cell_named program st other) (is_cell setting classes C st (cell_named program st other) k
        (typed_in setting classes C st g) (cell_kind_of setting classes C st other k (typed_in setting classes C st g)
        known))

    array_added : (other : List ℕ) → SameArray st more (variable_value program st other)
    array_added other = by (variable_value program st other)
        (λ n e. live_read st (cell_named program st other) n live e)
      where
        by : (v : Value) → ((n : ℕ) → v ≡ Name n → IsLive st.store n) → SameArray st more v
        by (Word w) h = tt
        by Nil h = tt
        by (Name b) h = ap (λ o. o.cells) (object_added b (h b refl))

    added_stays : (first second : List ℕ) (R : List ℕ → Type 0) → VariablesStay typing C.locals first second R st more
    added_stays first second R = record {
      value = λ other k known p q. variable_added other k known;
      array = λ other k element known is r p q. array_added other;
    }

    module _ (target : Lvalue) (k : Kind) (cell : Cell) (typed : place_type typing C.locals target ≡ Ok k)
        (is : cell_of program st target ≡ Ok cell) where
      abbrev n : List ℕ
      n = (place_name target).text

      abbrev last : State
      last = made_state st cell size head cells

      abbrev R : List ℕ → Type 0
      R = Avoids program st target

      pub made_stays : VariablesStay typing C.locals n n R st last
      made_stays =
          let cells_apart = place_apart setting classes C st target k cell n n R (typed_in setting classes C st g) typed
          is (λ other p q. p) (λ other r. r) in
          stays_then setting typing refl C.locals n n R st more last (added_stays n n R)
          (written_stays setting typing refl C.locals n n R more cell (Name (2 + count_taken st.log))
          (apart_stays setting typing refl C.locals n n R st more cell (added_stays n n R) named_added
          cells_apart))

      named_made : (name : List ℕ) → cell_named program last name ≡ cell_named program st name
      named_made name = named_written setting more cell (Name (2 + count_taken st.log)) name ∙ named_added name

      variable_made : (t : Lvalue) (kt : Kind) → place_type typing C.locals t ≡ Ok kt → (element_kind k ≡ Some kt → ⊥)
          → VariableSame program st last t
      variable_made (Whole name) kt typed_t never = tt
      variable_made (Item name index) kt typed_t never =
          let item = item_typed setting classes C name index kt typed_t in
          let far = variable_apart setting classes C st target k cell name item.array kt
          (typed_in setting classes C st g) typed is item.known item.element never in (
            ap (read last) (named_made name.text) ∙ read_other more cell (cell_named program st name.text)
                (Name (2 + count_taken st.log)) far ∙ ap (read more) (sym (named_added name.text))
                ∙ variable_added name.text item.array item.known,
            length_then st more last (variable_value program st name.text)
                (length_of_array st more (variable_value program st name.text) (array_added name.text))
                (length_written more cell (Name (2 + count_taken st.log)) (variable_value program st name.text)),
          )

      pub made_place : occurs_in_own_index target ≡ false → AllRead (Avoids program st target) (index_elements target)
          → SamePlace program st last target
      made_place own reads = place_stays setting classes C st last target k n n R typed made_stays reads own own
          named_made (variable_made target k typed (no_own_element k))

      pub made_place_stays : occurs_in_own_index target ≡ false
          → AllRead (Avoids program st target) (index_elements target) → cell_of program last target ≡ Ok cell
      made_place_stays own reads = place_same program st last target (made_place own reads) ∙ is

      pub made_apart : occurs_in_own_index target ≡ false → share_array program st (own_element target)
          (index_elements target) ≡ false → share_array program last (own_element target) (index_elements target)
          ≡ false
      made_apart own h =
          let place = made_place own (avoids_of program st target (index_elements target) h) in
          share_same program st last (own_element target) (index_elements target)
          (own_read program st last target place) (index_read program st last target place) ∙ h

      pub made_value_stays : (e : Expression) (ke : Kind) (v : Value) → type_of typing C.locals e ≡ Ok ke
          → occurs n e ≡ false → AllRead (Avoids program st target) (elements e) → value_in program st e ≡ Ok v
          → value_in program last e ≡ Ok v
      made_value_stays e ke v typed_e none reads value = value_same program st last e
          (reads_stay typing C.locals n n R st last made_stays e ke typed_e reads none none) ∙ value

  -- ---- one object less

  module _ (st : State) (g : Good setting C st) (target : Lvalue) (k : Kind) (cell : Cell)
      (typed : place_type typing C.locals target ≡ Ok k) (is : cell_of program st target ≡ Ok cell) (name : ℕ)
      (order : ℕ) (g' : Good setting C (gone st cell name order)) where
    abbrev end : State
    end = gone st cell name order

    abbrev w : State
    w = written st cell Nil

    abbrev n' : List ℕ
    n' = (place_name target).text

    live' : AreLive end
    live' = are_live setting classes C end (typed_in setting classes C end g')

    live_apart : (m : ℕ) → IsLive end.store m → nat_eq name m ≡ false
    live_apart m l = by (nat_eq name m) refl
      where
        by : (t : Bool) → nat_eq name m ≡ t → nat_eq name m ≡ false
        by false e = e
        by true e = (let P : ℕ → Type 0 = λ x. object_named end.store x ≡ None in
            let none = subst P (eqb-true name m e) (gone_none st cell name order g.drawn) in
            let z : None ≡ Some l.object = sym none ∙ l.there in cc)

    object_gone : (m : ℕ) → nat_eq name m ≡ false → object_at end.store m ≡ object_at w.store m
    object_gone m e = ap (λ o. unwrap_or o no_object) (sym (gone_other st cell name order m e))

    self_apart : nat_eq name w.self ≡ false
    self_apart = let P : ℕ → Type 0 = λ x. nat_eq name x ≡ false in
        subst P (gone_self st cell name order) (live_apart end.self live'.self)

    named_gone : (x : List ℕ) → cell_named program end x ≡ cell_named program w x
    named_gone x = cells_later setting w end (ap frame_names (gone_frame st cell name order))
        (gone_self st cell name order)
        (ap (λ m. class_of_head (object_at end.store m).head) (gone_self st cell name order)
        ∙ ap (λ o. class_of_head o.head) (object_gone w.self self_apart)) x

    -- cells of the frame and the object
    read_gone : (c : Cell) → ((m i : ℕ) → c ≡ Part m i → m ≡ w.self) → read end c ≡ read w c
    read_gone (Slot i) h = ap (λ f. value_at f i) (gone_frame st cell name order)
    read_gone (Part m i) h =
        let P : ℕ → Type 0 = λ x. nat_eq name x ≡ false in
        ap (λ o. unwrap_or (slice_get o.cells i) Nil) (object_gone m (subst P (sym (h m i refl)) self_apart))

    own_part : (x : List ℕ) (m i : ℕ) → cell_named program w x ≡ Part m i → m ≡ w.self
    own_part x m i e = by (slot_of w.frame x) e
      where
        by : (o : Option ℕ) → slot_or_field program w x o ≡ Part m i → m ≡ w.self
        by None q = cc
        by (Some j) q = cc

    variable_gone : (x : List ℕ) → variable_value program end x ≡ variable_value program w x
    variable_gone x = ap (read end) (named_gone x) ∙ read_gone (cell_named program w x) (own_part x)

    array_gone : (x : List ℕ) → SameArray w end (variable_value program w x)
    array_gone x = by (variable_value program w x) (λ b e. live_read end (cell_named program end x) b live'
        (variable_gone x ∙ e))
      where
        by : (v : Value) → ((b : ℕ) → v ≡ Name b → IsLive end.store b) → SameArray w end v
        by (Word z) h = tt
        by Nil h = tt
        by (Name b) h = ap (λ o. o.cells) (object_gone b (live_apart b (h b refl)))

    abbrev R' : List ℕ → Type 0
    R' = Avoids program st target

    pub gone_stays : VariablesStay typing C.locals n' n' R' st end
    gone_stays =
        let cells_apart = place_apart setting classes C st target k cell n' n' R' (typed_in setting classes C st g)
        typed is (λ other p q. p) (λ other r. r) in
        stays_then setting typing refl C.locals n' n' R' st w end
        (written_stays setting typing refl C.locals n' n' R' st cell Nil cells_apart)
        (record {
          value = λ other l known p q. variable_gone other;
          array = λ other l element known e r p q. array_gone other;
        })

    variable_last : (t : Lvalue) → VariableSame program w end t
    variable_last (Whole x) = tt
    variable_last (Item x index) = (
      variable_gone x.text,
      length_of_array w end (variable_value program w x.text) (array_gone x.text),
    )

    pub gone_place : occurs_in_own_index target ≡ false → AllRead (Avoids program st target) (index_elements target)
        → SamePlace program st end target
    gone_place own reads =
        place_stays setting classes C st end target k n' n' R' typed gone_stays reads own own
        (λ x. named_gone x ∙ named_written setting st cell Nil x)
        (variable_then setting classes C st w end target (variable_written setting classes C st target k cell Nil target
        k (typed_in setting classes C st g) typed is typed (no_own_element k)) (variable_last target))

    pub gone_place_stays : occurs_in_own_index target ≡ false
        → AllRead (Avoids program st target) (index_elements target) → cell_of program end target ≡ Ok cell
    gone_place_stays own reads = place_same program st end target (gone_place own reads) ∙ is

    pub gone_apart : occurs_in_own_index target ≡ false → share_array program st (own_element target)
        (index_elements target) ≡ false → share_array program end (own_element target) (index_elements target) ≡ false
    gone_apart own h =
        let place = gone_place own (avoids_of program st target (index_elements target) h) in
        share_same program st end (own_element target) (index_elements target) (own_read program st end target place)
        (index_read program st end target place) ∙ h

    pub gone_value_stays : (e : Expression) (ke : Kind) (v : Value) → type_of typing C.locals e ≡ Ok ke
        → occurs n' e ≡ false → AllRead (Avoids program st target) (elements e) → value_in program st e ≡ Ok v
        → value_in program end e ≡ Ok v
    gone_value_stays e ke v typed_e none reads value = value_same program st end e
        (reads_stay typing C.locals n' n' R' st end gone_stays e ke typed_e reads none none) ∙ value
