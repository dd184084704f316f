-- The records of facts of `new` and `delete`.
use Rattle.std.proofs.Common.{◌≡◌, ◌≢◌, ℕ, refl, sym, ap, subst, ◌∙◌, true, false, List, length, replicate, Option}
use Rattle.std.proofs.Common.{Some, None, option_map, unwrap_or, Ok, if◌then◌else◌, eqb-true}
use Rattle.meaning_reached.specs.rpp_tree.declared.tree.Ident.{Ident}
use Rattle.meaning_reached.specs.rpp_tree.Tree.{Expression, Lvalue, Creation, Object as AnObject, Ints, Objects, New, Delete, End, Then}
use Rattle.meaning_reached.specs.rpp_tree.Tree.{Source}
use Rattle.meaning_reached.specs.class_rules.declared.kind.Kind.{Kind}
use Rattle.meaning_reached.specs.class_rules.declared.kind.Kind.TheVariants as kind
use Rattle.meaning_reached.specs.class_rules.Table.{table_of, class_of}
use Rattle.meaning_reached.specs.class_rules.Classes.{class_fields}
use Rattle.meaning_reached.specs.class_rules.Scope.{Typing}
use Rattle.meaning_reached.specs.class_rules.Expressions.{then_checked, is_int, element_kind as elements_of, type_of, occurs}
use Rattle.meaning_reached.specs.rpp_tree.Places.{place_name}
use Rattle.meaning_reached.specs.class_rules.Statements.{is_int_array, takes_objects_of}
use Rattle.meaning_reached.specs.class_rules.Program.{setting_in}
use Rattle.meaning_reached.specs.roopl_semantics.Store.{Value, Word, Nil, Name, Head, OfClass, OfInts, OfObjects, Object, State}
use Rattle.meaning_reached.specs.roopl_semantics.Store.{main_name, number_of, is_nil, object_named, object_at}
use Rattle.meaning_reached.specs.roopl_semantics.Value.{Cell, read, value as value_in, cell_of}
use Rattle.meaning_reached.specs.roopl_semantics.Elements.{elements, index_elements, own_element, share_array}
use Rattle.meaning_reached.specs.roopl_semantics.Execution.{Setting, order_of_cells, freed}
use Rattle.meaning_reached.specs.meaning_sound.Sound.{is_of_kind, named_fits, head_fits, head_of, head_named, cell_kinds, AllFit, cell_kind}
use Rattle.meaning_reached.specs.meaning_sound.Plain.{HasWords}
use Rattle.meaning_reached.proofs.meaning_sound_laws.Lists.{all_length}
use Rattle.meaning_reached.proofs.meaning_sound_laws.Cells.{read_fits}
use Rattle.meaning_reached.proofs.meaning_sound_laws.Classes.{KnowsClasses}
use Rattle.meaning_reached.proofs.class_rules_laws.PassedRules.{handed_on, int_kind}
use Rattle.meaning_reached.proofs.meaning_sound_laws.Values.{int_value, value_found, value_fits}
use Rattle.meaning_reached.proofs.meaning_sound_laws.Removal.{reference, named_of}
use Rattle.meaning_reached.proofs.meaning_sound_laws.Makes.{no_int_takes, new_class}
use Rattle.meaning_inverse.proofs.Ground.{NewFacts, NewArrayFacts, DeleteFacts, DeleteArrayFacts, number_named}
use Rattle.meaning_inverse.proofs.Ground.{new_cells}
use Rattle.meaning_inverse.specs.ArrayLengths.{is_class_head}
use Rattle.meaning_inverse.proofs.Steady.{avoids_of}
use Rattle.meaning_inverse.proofs.Known.{Context, Good, Checked, typed_in, is_cell}
use Rattle.meaning_inverse.proofs.Facts.{first_rule, cell_typed}
use Rattle.meaning_inverse.proofs.Making.{MakeParts, make_parts, zeros_of, zeros_alike, length_same, whole_avoids}
use Rattle.meaning_inverse.proofs.Making.{made_place_stays, made_apart, made_value_stays, gone_place_stays, gone_apart}
use Rattle.meaning_inverse.proofs.Making.{gone_value_stays}

-- no array has arrays as its elements
no_ints : (x : Kind) → elements_of x ≡ Some kind.IntArray → ⊥
no_ints kind.Int e = cc
no_ints kind.Nil e = cc
no_ints (kind.Class c) e = cc
no_ints kind.IntArray e = cc
no_ints (kind.ClassArray c) e = cc

no_objects : (d : ℕ) (x : Kind) → elements_of x ≡ Some (kind.ClassArray d) → ⊥
no_objects d kind.Int e = cc
no_objects d kind.Nil e = cc
no_objects d (kind.Class c) e = cc
no_objects d kind.IntArray e = cc
no_objects d (kind.ClassArray c) e = cc

pub no_elements_ints : (k : Kind) → is_int_array k ≡ true → (x : Kind) → elements_of x ≡ Some k → ⊥
no_elements_ints kind.Int e x h = cc
no_elements_ints kind.Nil e x h = cc
no_elements_ints (kind.Class c) e x h = cc
no_elements_ints (kind.ClassArray c) e x h = cc
no_elements_ints kind.IntArray e x h = no_ints x h

pub no_elements_objects : (o : Option ℕ) (k : Kind) → takes_objects_of o k ≡ true → (x : Kind) → elements_of x ≡ Some k
    → ⊥
no_elements_objects None k e x h = cc
no_elements_objects (Some c) kind.Int e x h = cc
no_elements_objects (Some c) kind.Nil e x h = cc
no_elements_objects (Some c) (kind.Class d) e x h = cc
no_elements_objects (Some c) kind.IntArray e x h = cc
no_elements_objects (Some c) (kind.ClassArray d) e x h = no_objects d x h

-- the head of an array of a type
record ArrayHead (program : Source) (k : Kind) (h : Head) (head : ℕ → Head) (element : Kind) : Type 0 where
  count : ℕ
  is : h ≡ head count
  kinds : cell_kinds program h ≡ replicate count element
  is_array : is_class_head h ≡ false

ints_head : (program : Source) (k : Kind) (h : Head) → is_int_array k ≡ true → head_fits program k h ≡ true
    → ArrayHead program k h OfInts kind.Int
ints_head program kind.Int h e f = cc
ints_head program kind.Nil h e f = cc
ints_head program (kind.Class c) h e f = cc
ints_head program (kind.ClassArray c) h e f = cc
ints_head program kind.IntArray (OfClass c) e f = cc
ints_head program kind.IntArray (OfInts n) e f = record { count = n; is = refl; kinds = refl; is_array = refl }
ints_head program kind.IntArray (OfObjects c n) e f = cc

objects_head : (program : Source) (class : Ident) (k : Kind) (h : Head)
    → takes_objects_of (class_of (table_of program) class.text) k ≡ true → head_fits program k h ≡ true
    → ArrayHead program k h (OfObjects (number_named program class)) (kind.Class (number_named program class))
objects_head program class k h e f = by (class_of (table_of program) class.text) refl k h e f
  where
    by : (o : Option ℕ) → class_of (table_of program) class.text ≡ o → (k : Kind) (h : Head)
        → takes_objects_of o k ≡ true → head_fits program k h ≡ true
        → ArrayHead program k h (OfObjects (number_named program class)) (kind.Class (number_named program class))
    by None q k h e f = cc
    by (Some c) q kind.Int h e f = cc
    by (Some c) q kind.Nil h e f = cc
    by (Some c) q (kind.Class d) h e f = cc
    by (Some c) q kind.IntArray h e f = cc
    by (Some c) q (kind.ClassArray d) (OfClass x) e f = cc
    by (Some c) q (kind.ClassArray d) (OfInts n) e f = cc
    by (Some c) q (kind.ClassArray d) (OfObjects x n) e f =
        let number : number_named program class ≡ c = ap (λ o. unwrap_or o 0) q in
        let same : x ≡ number_named program class = eqb-true x d f ∙ sym (eqb-true c d e) ∙ sym number in
        record {
          count = n;
          is = ap (λ m. OfObjects m n) same;
          kinds = ap (λ m. replicate n (kind.Class m)) same;
          is_array = refl;
        }

module _ (setting : Setting) (classes : KnowsClasses setting.program) (C : Context setting) where
  abbrev program : Source
  program = setting.program

  abbrev typing : Typing
  typing = setting_in program (table_of program) C.class

  pub new_object_facts : (at : ℕ) (class : Ident) (target : Lvalue) (st : State) (cell : Cell)
      → Checked setting C (Then (New at (AnObject class) target) End) → Good setting C st
      → cell_of program st target ≡ Ok cell → share_array program st (own_element target) (index_elements target)
      ≡ false → NewFacts program st class target cell
  new_object_facts at class target st cell checked g is unshared =
      let p = make_parts typing C.locals at (AnObject class) target
      (first_rule setting C (New at (AnObject class) target) checked) in
      let c = new_class program class p.type p.takes_it in
      record {
        known = c.is ∙ ap (λ n. Some n) (sym (ap (λ o. unwrap_or o 0) c.is));
        there = is_cell setting classes C st cell p.type (typed_in setting classes C st g)
            (cell_typed setting classes C st target p.type cell (typed_in setting classes C st g) p.is is);
        stays = made_place_stays setting classes C st g (length (new_cells program class))
            (OfClass (number_named program class)) (new_cells program class) target p.type cell p.is is p.own
            (avoids_of program st target (index_elements target) unshared);
        apart_stays = made_apart setting classes C st g (length (new_cells program class))
            (OfClass (number_named program class)) (new_cells program class) target p.type cell p.is is p.own unshared;
      }

  -- a length is a word
  record LengthIs (st : State) (size : Expression) (v : Value) : Type 0 where
    typed : type_of typing C.locals size ≡ Ok kind.Int
    count : ℕ
    is_count : v ≡ Word count

  pub length_typed : (size : Expression) → then_checked (type_of typing C.locals size) (λ l. Ok (is_int l)) ≡ Ok true
      → type_of typing C.locals size ≡ Ok kind.Int
  length_typed size h =
      let l = handed_on (type_of typing C.locals size) (λ l. Ok (is_int l)) true h in
      let int : is_int l.value ≡ true = cc in
      l.is ∙ ap (λ k. Ok k) (int_kind l.value int)

  length_is : (st : State) (size : Expression) (v : Value) → Good setting C st → HasWords size
      → then_checked (type_of typing C.locals size) (λ l. Ok (is_int l)) ≡ Ok true → value_in program st size ≡ Ok v
      → LengthIs st size v
  length_is st size v g words h is =
      let typed = length_typed size h in
      let int = int_value program st.store v (value_found program st.store kind.Int (value_in program st size) v
      (value_fits setting classes C.extra C.locals C.shape C.class C.inside C.means st size kind.Int
      (typed_in setting classes C st g) words typed) is) in
      record { typed = typed; count = int.word; is_count = int.is }

  new_array_facts : (made : Creation) (target : Lvalue) (size : Expression) (head : ℕ → Head) (element : Value)
      (st : State) (cell : Cell) (v : Value) → (p : MakeParts typing C.locals made target)
      → ((x : Kind) → elements_of x ≡ Some p.type → ⊥) → HasWords size
      → then_checked (type_of typing C.locals size) (λ l. Ok (is_int l)) ≡ Ok true
      → occurs (place_name target).text size ≡ false → Good setting C st
      → cell_of program st target ≡ Ok cell → value_in program st size ≡ Ok v
      → NewArrayFacts program st target size head element cell v
  new_array_facts made target size head element st cell v p never words int none g is value =
      let l = length_is st size v g words int value in
      record {
        count = l.count;
        is_count = l.is_count;
        there = is_cell setting classes C st cell p.type (typed_in setting classes C st g)
            (cell_typed setting classes C st target p.type cell (typed_in setting classes C st g) p.is is);
        stays = made_place_stays setting classes C st g l.count (head l.count) (replicate l.count element) target p.type
            cell p.is is p.own (whole_avoids setting classes C st target p.type (index_elements target) p.is never);
        size_stays = made_value_stays setting classes C st g l.count (head l.count) (replicate l.count element) target
            p.type cell p.is is size kind.Int v l.typed none (whole_avoids setting classes C st target p.type
            (elements size) p.is never) value;
      }

  pub new_ints_facts : (at : ℕ) (size : Expression) (target : Lvalue) (st : State) (cell : Cell) (v : Value)
      → Checked setting C (Then (New at (Ints size) target) End) → Good setting C st
      → cell_of program st target ≡ Ok cell → value_in program st size ≡ Ok v
      → NewArrayFacts program st target size OfInts (Word 0) cell v
  new_ints_facts at size target st cell v checked g is value =
      let p = make_parts typing C.locals at (Ints size) target
      (first_rule setting C (New at (Ints size) target) checked) in
      new_array_facts (Ints size) target size OfInts (Word 0) st cell v p (no_elements_ints p.type p.takes_it)
      checked.plain.0.0 p.int p.length g is value

  pub new_objects_facts : (at : ℕ) (class : Ident) (size : Expression) (target : Lvalue) (st : State) (cell : Cell)
      (v : Value) → Checked setting C (Then (New at (Objects class size) target) End) → Good setting C st
      → cell_of program st target ≡ Ok cell → value_in program st size ≡ Ok v
      → NewArrayFacts program st target size (OfObjects (number_named program class)) Nil cell v
  new_objects_facts at class size target st cell v checked g is value =
      let p = make_parts typing C.locals at (Objects class size) target
      (first_rule setting C (New at (Objects class size) target) checked) in
      new_array_facts (Objects class size) target size (OfObjects (number_named program class)) Nil st cell v p
      (no_elements_objects (class_of (table_of program) class.text) p.type p.takes_it) checked.plain.0.0 p.int
      p.length g is value

  -- what a cell of a type that is not int names
  record Deleted (st : State) (cell : Cell) (k : Kind) : Type 0 where
    name : ℕ
    is_name : read st cell ≡ Name name
    not_main : name ≢ main_name
    fit : named_fits program k (head_named st.store name) ≡ true

  deleted_name : (st : State) (cell : Cell) (k : Kind) → Good setting C st
      → cell_kind program C.shape st.store cell ≡ Some k → is_int k ≡ false → is_nil (read st cell) ≡ false
      → Deleted st cell k
  deleted_name st cell k g kind_is no_int some =
      let fit = read_fits setting C.extra C.shape C.class st cell k (typed_in setting classes C st g) kind_is in
      let n = reference program st.store (read st cell) k fit no_int some in
      let P : Value → Type 0 = λ v. is_of_kind program st.store v k ≡ true in
      record {
        name = n.name;
        is_name = n.is;
        not_main = (named_of setting C.extra C.shape C.class st cell k n.name
            g.sound kind_is n.is).no_main;
        fit = subst P n.is fit;
      }

  -- an object of the name has a head of the type
  head_of_named : (st : State) (k : Kind) (name : ℕ) (object : Object)
      → named_fits program k (head_named st.store name) ≡ true → object_named st.store name ≡ Some object
      → head_fits program k object.head ≡ true
  head_of_named st k name object fit is = ap (named_fits program k) (sym (ap (option_map head_of) is)) ∙ fit

  pub delete_object_facts : (at : ℕ) (class : Ident) (target : Lvalue) (st : State) (cell : Cell)
      → Checked setting C (Then (Delete at (AnObject class) target) End) → Good setting C st
      → cell_of program st target ≡ Ok cell → share_array program st (own_element target) (index_elements target)
      ≡ false → is_nil (read st cell) ≡ false → Good setting C (freed setting cell (number_of (read st cell)) st)
      → DeleteFacts setting st class target cell
  delete_object_facts at class target st cell checked g is unshared some good_end =
      let p = make_parts typing C.locals at (AnObject class) target
      (first_rule setting C (Delete at (AnObject class) target) checked) in
      let c = new_class program class p.type p.takes_it in
      let kind_is = cell_typed setting classes C st target p.type cell (typed_in setting classes C st g) p.is is in
      let d = deleted_name st cell p.type g kind_is (no_int_takes (table_of program) (AnObject class) p.type p.takes_it)
      some in
      let P : ℕ → Type 0 = λ n. Good setting C (freed setting cell n st) in
      let end = subst P (ap number_of d.is_name) good_end in
      record {
        name = d.name;
        is_name = d.is_name;
        not_main = d.not_main;
        there = is_cell setting classes C st cell p.type (typed_in setting classes C st g) kind_is;
        known = c.is ∙ ap (λ n. Some n) (sym (ap (λ o. unwrap_or o 0) c.is));
        zeros = λ object named head none. (let Q : Head → Type 0 = λ h. AllFit program st.store (cell_kinds program h)
            object.cells in
            zeros_of program st.store (class_fields program (number_named program class)) object.cells
            (subst Q head (g.sound.objects d.name object named)) none);
        stays = gone_place_stays setting classes C st g target p.type cell p.is is d.name
            (order_of_cells (length (object_at st.store d.name).cells)) end p.own
            (avoids_of program st target (index_elements target) unshared);
        apart_stays = gone_apart setting classes C st g target p.type cell p.is is d.name
            (order_of_cells (length (object_at st.store d.name).cells)) end p.own unshared;
      }

  delete_array_facts : (made : Creation) (target : Lvalue) (size : Expression) (head : ℕ → Head) (element : Value)
      (element_kind : Kind) (st : State) (cell : Cell) (v : Value) → (p : MakeParts typing C.locals made target)
      → ((x : Kind) → elements_of x ≡ Some p.type → ⊥) → HasWords size
      → then_checked (type_of typing C.locals size) (λ l. Ok (is_int l)) ≡ Ok true
      → occurs (place_name target).text size ≡ false → ((h : Head) → head_fits program p.type h ≡ true
      → ArrayHead program p.type h head element_kind) → (if is_int element_kind then Word 0 else Nil) ≡ element
      → is_int p.type ≡ false
      → Good setting C st → cell_of program st target ≡ Ok cell → value_in program st size ≡ Ok v
      → is_nil (read st cell) ≡ false → Good setting C (freed setting cell (number_of (read st cell)) st)
      → DeleteArrayFacts setting st target size head element cell v
  delete_array_facts made target size head element element_kind st cell v p never words int none heads empty no_int g is
      value some good_end =
      let l = length_is st size v g words int value in
      let kind_is = cell_typed setting classes C st target p.type cell (typed_in setting classes C st g) p.is is in
      let d = deleted_name st cell p.type g kind_is no_int some in
      let P : ℕ → Type 0 = λ n. Good setting C (freed setting cell n st) in
      let end = subst P (ap number_of d.is_name) good_end in
      let array : (object : Object) → object_named st.store d.name ≡ Some object
      → ArrayHead program p.type object.head head element_kind =
      λ object named. heads object.head (head_of_named st p.type d.name object d.fit named) in
      let many : (object : Object) (named : object_named st.store d.name ≡ Some object)
      → length object.cells ≡ (array object named).count = λ object named.
      all_length program st.store (cell_kinds program object.head) object.cells (g.sound.objects d.name object named)
      ∙ ap length (array object named).kinds ∙ length_same (array object named).count element_kind in
      record {
        name = d.name;
        is_name = d.is_name;
        not_main = d.not_main;
        there = is_cell setting classes C st cell p.type (typed_in setting classes C st g) kind_is;
        count = l.count;
        is_count = l.is_count;
        heads = λ object named. (array object named).is ∙ ap head (sym (many object named));
        zeros = λ object named z. (let Q : List Kind → Type 0 = λ ks. AllFit program st.store ks object.cells in
            zeros_alike program st.store (array object named).count element_kind object.cells
            (subst Q (array object named).kinds (g.sound.objects d.name object named)) z
            ∙ ap (replicate (length object.cells)) empty);
        long = λ object named. g.arrays.long d.name object named (array object named).is_array;
        stays = gone_place_stays setting classes C st g target p.type cell p.is is d.name
            (order_of_cells (length (object_at st.store d.name).cells)) end p.own
            (whole_avoids setting classes C st target p.type (index_elements target) p.is never);
        size_stays = gone_value_stays setting classes C st g target p.type cell p.is is d.name
            (order_of_cells (length (object_at st.store d.name).cells)) end size kind.Int v l.typed none
            (whole_avoids setting classes C st target p.type (elements size) p.is never) value;
      }

  pub delete_ints_facts : (at : ℕ) (size : Expression) (target : Lvalue) (st : State) (cell : Cell) (v : Value)
      → Checked setting C (Then (Delete at (Ints size) target) End) → Good setting C st
      → cell_of program st target ≡ Ok cell → value_in program st size ≡ Ok v → is_nil (read st cell) ≡ false
      → Good setting C (freed setting cell (number_of (read st cell)) st)
      → DeleteArrayFacts setting st target size OfInts (Word 0) cell v
  delete_ints_facts at size target st cell v checked g is value some good_end =
      let p = make_parts typing C.locals at (Ints size) target
      (first_rule setting C (Delete at (Ints size) target) checked) in
      delete_array_facts (Ints size) target size OfInts (Word 0) kind.Int st cell v p
      (no_elements_ints p.type p.takes_it) checked.plain.0.0 p.int p.length
      (λ h f. ints_head program p.type h p.takes_it f) refl
      (no_int_takes (table_of program) (Ints size) p.type p.takes_it) g is value some good_end

  pub delete_objects_facts : (at : ℕ) (class : Ident) (size : Expression) (target : Lvalue) (st : State) (cell : Cell)
      (v : Value) → Checked setting C (Then (Delete at (Objects class size) target) End) → Good setting C st
      → cell_of program st target ≡ Ok cell → value_in program st size ≡ Ok v → is_nil (read st cell) ≡ false
      → Good setting C (freed setting cell (number_of (read st cell)) st)
      → DeleteArrayFacts setting st target size (OfObjects (number_named program class)) Nil cell v
  delete_objects_facts at class size target st cell v checked g is value some good_end =
      let p = make_parts typing C.locals at (Objects class size) target
      (first_rule setting C (Delete at (Objects class size) target) checked) in
      delete_array_facts (Objects class size) target size (OfObjects (number_named program class)) Nil
      (kind.Class (number_named program class)) st cell v p
      (no_elements_objects (class_of (table_of program) class.text) p.type p.takes_it) checked.plain.0.0 p.int
      p.length (λ h f. objects_head program class p.type h p.takes_it f) refl
      (no_int_takes (table_of program) (Objects class size) p.type p.takes_it) g is value some good_end
