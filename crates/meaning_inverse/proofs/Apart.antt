-- A write to a place changes nothing that an expression without the place's variable reads.
use Rattle.std.proofs.Common.{◌≡◌, ℕ, refl, sym, ap, subst, ◌∙◌, true, false, Bool, ◌&&◌, List, [], length, Option}
use Rattle.std.proofs.Common.{Some, None, option_map, unwrap_or, Ok, Err, Result, nat_eq, nat_lt, if◌then◌else◌}
use Rattle.std.proofs.Common.{eqb-true, length-set}
use Rattle.std.specs.Str.{bytes_eq}
use Rattle.meaning_reached.specs.rpp_tree.declared.tree.Ident.{Ident}
use Rattle.meaning_reached.specs.rpp_tree.Tree.{Expression, Element, Lvalue, Whole, Item, Source}
use Rattle.meaning_reached.specs.class_rules.declared.kind.Kind.{Kind}
use Rattle.meaning_reached.specs.class_rules.declared.kind.Kind.TheVariants as kind
use Rattle.meaning_reached.specs.class_rules.Table.{table_of}
use Rattle.meaning_reached.specs.class_rules.Scope.{Typing, Locals, kind_in}
use Rattle.meaning_reached.specs.class_rules.Refusal.{unknown_name, not_an_array}
use Rattle.meaning_reached.specs.class_rules.Expressions.{element_kind, element_kind_of as element_type, index_is_int, variable_type}
use Rattle.meaning_reached.specs.class_rules.Expressions.{type_of, place_type, first_token}
use Rattle.meaning_reached.specs.rpp_tree.Places.{place_name}
use Rattle.meaning_reached.specs.class_rules.Program.{setting_in}
use Rattle.meaning_reached.specs.roopl_semantics.Store.{Value, Word, Nil, Name, Head, OfClass, OfInts, OfObjects, Object, Store, State}
use Rattle.meaning_reached.specs.roopl_semantics.Store.{number_of, same_value, object_named, object_at, no_object, class_of_head}
use Rattle.meaning_reached.specs.roopl_semantics.Value.{Cell, Slot, Part, cell_named, own_class, variable_value, element_cell}
use Rattle.meaning_reached.specs.roopl_semantics.Value.{element_of, read, written, value as value_in, cell_of, INDEX}
use Rattle.meaning_reached.specs.roopl_semantics.Execution.{Setting, same_cell}
use Rattle.meaning_reached.specs.meaning_sound.Sound.{is_of_kind, named_fits, head_fits, head_of, head_named, cell_kind}
use Rattle.meaning_reached.specs.meaning_sound.Sound.{Typed}
use Rattle.meaning_reached.proofs.meaning_sound_laws.Cells.{read_fits, heads_written}
use Rattle.meaning_reached.proofs.meaning_sound_laws.Classes.{KnowsClasses}
use Rattle.meaning_reached.proofs.meaning_sound_laws.Names.{is_object, IsMeant, variable, field, meant, cell_named_kind}
use Rattle.meaning_reached.proofs.class_rules_laws.FirstPlaces.{bytes_turned}
use Rattle.meaning_reached.proofs.class_rules_laws.PassedRules.{handed_on, some_of}
use Rattle.meaning_reached.specs.roopl_semantics.Execution.{exec}
use Rattle.meaning_reached.proofs.meaning_sound_laws.Keeping.{exec_keeps}
use Rattle.meaning_reached.proofs.meaning_sound_laws.Calls.{meant_apart}
use Rattle.meaning_reached.proofs.meaning_sound_laws.AfterWrites.{read_other}
use Rattle.meaning_inverse.proofs.Later.{frame_names}
use Rattle.meaning_inverse.proofs.Cells.{named_changed, names_with, apart_sym}
use Rattle.meaning_inverse.proofs.Calls.{cells_later}
use Rattle.meaning_inverse.proofs.Steady.{SameArray, SameLength, Avoids, VariablesStay}
use Rattle.meaning_inverse.specs.ArrayLengths.{is_class_head}
use Rattle.meaning_inverse.proofs.Known.{Context}
use Rattle.meaning_reached.proofs.roopl_semantics_laws.Changed.{with_cell}

-- ---- heads and names

abbrev pub head_class : Option Head → ℕ
head_class None = 0
head_class (Some h) = class_of_head h

pub class_at_head : (store : Store) (n : ℕ) → class_of_head (object_at store n).head ≡ head_class (head_named store n)
class_at_head store n = by (object_named store n)
  where
    by : (o : Option Object) → class_of_head (unwrap_or o no_object).head ≡ head_class (option_map head_of o)
    by None = refl
    by (Some o) = refl

pub own_class_written : (setting : Setting) (st : State) (c : Cell) (v : Value)
    → own_class (written st c v) ≡ own_class st
own_class_written setting st c v = by c
  where
    by : (c : Cell) → own_class (written st c v) ≡ own_class st
    by (Slot i) = refl
    by (Part m i) = class_at_head (written st (Part m i) v).store st.self
        ∙ ap head_class (heads_written setting (λ n. 0) [] 0 st (Part m i) v st.self)
        ∙ sym (class_at_head st.store st.self)

written_names : (st : State) (c : Cell) (v : Value) → frame_names (written st c v).frame ≡ frame_names st.frame
written_names st (Slot i) v = names_with st.frame i v
written_names st (Part m i) v = refl

written_self : (st : State) (c : Cell) (v : Value) → (written st c v).self ≡ st.self
written_self st (Slot i) v = refl
written_self st (Part m i) v = refl

-- a name means the same cell after a write
pub named_written : (setting : Setting) (st : State) (c : Cell) (v : Value) (name : List ℕ)
    → cell_named setting.program (written st c v) name ≡ cell_named setting.program st name
named_written setting st c v name = cells_later setting st (written st c v) (written_names st c v) (written_self st c v)
    (own_class_written setting st c v) name

pub length_written : (st : State) (c : Cell) (v w : Value) → SameLength st (written st c v) w
length_written st c v (Word w) = tt
length_written st c v Nil = tt
length_written st (Slot i) v (Name b) = refl
length_written st (Part m i) v (Name b) = ap (λ o. length (unwrap_or o no_object).cells)
    (named_changed st.store m (with_cell i v) b) ∙ by (nat_eq m b) (object_named st.store b)
  where
    by : (t : Bool) (o : Option Object) → length (unwrap_or (if t then option_map (with_cell i v) o else o)
        no_object).cells ≡ length (unwrap_or o no_object).cells
    by true None = refl
    by true (Some o) = length-set o.cells i v
    by false o = refl

-- a cell is not of this array
abbrev pub NotOf : Cell → Value → Type 0
NotOf (Slot i) v = Unit {0}
NotOf (Part m i) (Word w) = Unit {0}
NotOf (Part m i) Nil = Unit {0}
NotOf (Part m i) (Name b) = nat_eq m b ≡ false

array_written : (st : State) (c : Cell) (v w : Value) → NotOf c w → SameArray st (written st c v) w
array_written st c v (Word w) h = tt
array_written st c v Nil h = tt
array_written st (Slot i) v (Name b) h = refl
array_written st (Part m i) v (Name b) h = ap (λ o. (unwrap_or o no_object).cells)
    (named_changed st.store m (with_cell i v) b ∙ ap (λ t. if t then option_map (with_cell i v)
    (object_named st.store b) else object_named st.store b) h)

-- a cell is apart from all that the typed variables but two mean, and from some arrays
pub record VariablesApart (typing : Typing) (locals : Locals) (first second : List ℕ) (R : List ℕ → Type 0) (st : State)
    (c : Cell) : Type 0 where
  pub cell : (other : List ℕ) (k : Kind) → kind_in typing locals other ≡ Some k → bytes_eq other first ≡ false
      → bytes_eq other second ≡ false → same_cell c (cell_named typing.program st other) ≡ false
  pub array : (other : List ℕ) (k element : Kind) → kind_in typing locals other ≡ Some k → element_kind k ≡ Some element
      → R other → bytes_eq other first ≡ false → bytes_eq other second ≡ false
      → NotOf c (variable_value typing.program st other)

module _ (setting : Setting) (typing : Typing) (same : typing.program ≡ setting.program) (locals : Locals)
    (first second : List ℕ) (R : List ℕ → Type 0) where
  -- a write to such a cell
  pub written_stays : (st : State) (c : Cell) (v : Value) → VariablesApart typing locals first second R st c
      → VariablesStay typing locals first second R st (written st c v)
  written_stays st c v apart =
      record {
        value = λ other k known p q. ap (read (written st c v)) (named other)
            ∙ read_other st c (cell_named typing.program st other) v (apart.cell other k known p q);
        array = λ other k element known is r p q. array_written st c v (variable_value typing.program st other)
            (apart.array other k element known is r p q);
      }
    where
      named : (other : List ℕ) → cell_named typing.program (written st c v) other ≡ cell_named typing.program st other
      named other = ap (λ p. cell_named p (written st c v) other) same ∙ named_written setting st c v other
          ∙ ap (λ p. cell_named p st other) (sym same)

  -- such a cell stays apart if the variables stay
  pub apart_stays : (st end : State) (c : Cell) → VariablesStay typing locals first second R st end
      → ((other : List ℕ) → cell_named typing.program end other ≡ cell_named typing.program st other)
      → VariablesApart typing locals first second R st c → VariablesApart typing locals first second R end c
  apart_stays st end c stay named apart =
      record {
        cell = λ other k known p q. ap (same_cell c) (named other) ∙ apart.cell other k known p q;
        array = λ other k element known is r p q. (let P : Value
            → Type 0 = λ v. NotOf c v in subst P (sym (stay.value other k known p q))
            (apart.array other k element known is r p q));
      }

  pub stays_then : (st mid end : State) → VariablesStay typing locals first second R st mid
      → VariablesStay typing locals first second R mid end → VariablesStay typing locals first second R st end
  stays_then st mid end a b =
      record {
        value = λ other k known p q. b.value other k known p q ∙ a.value other k known p q;
        array = λ other k element known is r p q. chain (variable_value typing.program st other)
            (a.array other k element known is r p q) (let P : Value
            → Type 0 = λ v. SameArray mid end v in subst P (a.value other k known p q)
            (b.array other k element known is r p q));
      }
    where
      chain : (v : Value) → SameArray st mid v → SameArray mid end v → SameArray st end v
      chain (Word w) x y = tt
      chain Nil x y = tt
      chain (Name b) x y = y ∙ x

-- an array is no object
array_is : (program : Source) (k element : Kind) (head : Head) → element_kind k ≡ Some element
    → head_fits program k head ≡ true → is_class_head head ≡ false
array_is program kind.Int element head e h = cc
array_is program kind.Nil element head e h = cc
array_is program (kind.Class c) element head e h = cc
array_is program kind.IntArray element (OfClass c) e h = cc
array_is program kind.IntArray element (OfInts n) e h = refl
array_is program kind.IntArray element (OfObjects c n) e h = cc
array_is program (kind.ClassArray c) element (OfClass d) e h = cc
array_is program (kind.ClassArray c) element (OfInts n) e h = refl
array_is program (kind.ClassArray c) element (OfObjects d n) e h = refl

-- a value of an array's type that is a name
pub record ArrayNamed (store : Store) (n : ℕ) : Type 0 where
  pub object : Object
  pub named : object_named store n ≡ Some object
  pub is_array : is_class_head object.head ≡ false

array_named : (program : Source) (store : Store) (k element : Kind) (n : ℕ) → element_kind k ≡ Some element
    → is_of_kind program store (Name n) k ≡ true → ArrayNamed store n
array_named program store k element n e h = by (object_named store n) refl h
  where
    by : (o : Option Object) → object_named store n ≡ o → named_fits program k (option_map head_of o) ≡ true
        → ArrayNamed store n
    by None is q = cc
    by (Some o) is q = record { object = o; named = is; is_array = array_is program k element o.head e q }

-- the cell of an element
pub record IsElement (program : Source) (st : State) (name : List ℕ) (c : Cell) : Type 0 where
  pub array : ℕ
  pub index : ℕ
  pub is : c ≡ Part array index
  pub holds : variable_value program st name ≡ Name array

pub element_is : (program : Source) (st : State) (name : Ident) (index : Expression) (c : Cell)
    → cell_of program st (Item name index) ≡ Ok c → IsElement program st name.text c
element_is program st name index c e = by (value_in program st index) e
  where
    at : (v : Value) (i : ℕ) → variable_value program st name.text ≡ v → element_cell st v i ≡ Ok c
        → IsElement program st name.text c
    at (Word w) i h q = cc
    at Nil i h q = cc
    at (Name b) i h q = inside (nat_lt i (length (object_at st.store b).cells)) q
      where
        inside : (t : Bool) → (if t then Ok (Part b i) else Err INDEX) ≡ Ok c → IsElement program st name.text c
        inside true z = record { array = b; index = i; is = (let y : Part b i ≡ c = cc in sym y); holds = h }
        inside false z = cc

    by : (r : Result Value ℕ) → element_of program st name.text r ≡ Ok c → IsElement program st name.text c
    by (Err f) q = cc
    by (Ok v) q = at (variable_value program st name.text) (number_of v) refl q

module _ (setting : Setting) (classes : KnowsClasses setting.program) (C : Context setting) where
  abbrev program : Source
  program = setting.program

  abbrev typing : Typing
  typing = setting_in program (table_of program) C.class

  abbrev pub cell_kind_of : (st : State) (name : List ℕ) (k : Kind) → Typed setting C.extra C.shape C.class st
      → kind_in typing C.locals name ≡ Some k → cell_kind program C.shape st.store (cell_named program st name) ≡ Some k
  cell_kind_of st name k t h = cell_named_kind setting classes C.extra C.locals C.shape C.class C.inside C.means st name
      k t h

  -- the array that a variable holds
  pub array_of : (st : State) (name : List ℕ) (k element : Kind) (n : ℕ) → Typed setting C.extra C.shape C.class st
      → kind_in typing C.locals name ≡ Some k → element_kind k ≡ Some element → variable_value program st name ≡ Name n
      → ArrayNamed st.store n
  array_of st name k element n t known is e =
      let P : Value → Type 0 = λ v. is_of_kind program st.store v k ≡ true in
      array_named program st.store k element n is (subst P e
      (read_fits setting C.extra C.shape C.class st (cell_named program st name) k t
      (cell_kind_of st name k t known)))

  -- the current object is no array
  not_self : (st : State) (n : ℕ) → Typed setting C.extra C.shape C.class st → ArrayNamed st.store n
      → nat_eq n st.self ≡ false
  not_self st n t a = by (nat_eq n st.self) refl
    where
      by : (b : Bool) → nat_eq n st.self ≡ b → nat_eq n st.self ≡ false
      by false e = e
      by true e =
          let o = is_object program C.class st.store st.self t.self_is in
          let P : ℕ → Type 0 = λ x. head_named st.store x ≡ Some (OfClass o.own) in
          let h = subst P (sym (eqb-true n st.self e)) o.head in
          let s : Some a.object.head ≡ Some (OfClass o.own) = sym (ap (option_map head_of) a.named) ∙ h in
          let q = a.is_array in
          cc

  meant_of : (st : State) (name : List ℕ) (k : Kind) → Typed setting C.extra C.shape C.class st
      → kind_in typing C.locals name ≡ Some k → IsMeant setting classes C.extra C.locals C.shape C.class C.inside
      C.means st name (cell_named program st name)
  meant_of st name k t h = meant setting classes C.extra C.locals C.shape C.class C.inside C.means st name k t h

  pub names_apart : (st : State) (a b : List ℕ) (k l : Kind) → Typed setting C.extra C.shape C.class st
      → kind_in typing C.locals a ≡ Some k → kind_in typing C.locals b ≡ Some l → bytes_eq a b ≡ false
      → same_cell (cell_named program st a) (cell_named program st b) ≡ false
  names_apart st a b k l t h g e = meant_apart setting classes (exec setting 0) (exec_keeps setting classes 0) C.extra
      C.locals C.shape C.class C.inside C.means st a b (cell_named program st a) (cell_named program st b)
      (meant_of st a k t h) (meant_of st b l t g) e

  -- an element's cell is no variable's
  pub element_apart : (st : State) (n i : ℕ) (other : List ℕ) (k : Kind) → Typed setting C.extra C.shape C.class st
      → ArrayNamed st.store n → kind_in typing C.locals other ≡ Some k
      → same_cell (Part n i) (cell_named program st other) ≡ false
  element_apart st n i other k t a known = by (cell_named program st other) (meant_of st other k t known)
    where
      by : (c : Cell) → IsMeant setting classes C.extra C.locals C.shape C.class C.inside C.means st other c
          → same_cell (Part n i) c ≡ false
      by c (variable j h) = refl
      by c (field j h) = ap (λ b. b && nat_eq i j) (not_self st n t a)

  -- what the rules say of an element's variable
  pub record ItemTyped (name : Ident) (index : Expression) (k : Kind) : Type 0 where
    pub array : Kind
    pub known : kind_in typing C.locals name.text ≡ Some array
    pub element : element_kind array ≡ Some k
    pub index_kind : Kind
    pub index_typed : type_of typing C.locals index ≡ Ok index_kind

  pub item_typed : (name : Ident) (index : Expression) (k : Kind) → type_of typing C.locals (Element name index) ≡ Ok k
      → ItemTyped name index k
  item_typed name index k h =
      let array = handed_on (variable_type typing C.locals name) _ k h in
      let element = handed_on (element_type name array.value) _ k array.goes in
      let index_type = handed_on (type_of typing C.locals index) _ k element.goes in
      record {
        array = array.value;
        known = some_of (kind_in typing C.locals name.text) (unknown_name name.at) array.value array.is;
        element = some_of (element_kind array.value) (not_an_array name.at) element.value element.is
            ∙ ap (λ z. Some z) (indexed element.value (first_token index) index_type.value index_type.goes);
        index_kind = index_type.value;
        index_typed = index_type.is;
      }
    where
      indexed : (x : Kind) (at : ℕ) (i : Kind) → index_is_int x at i ≡ Ok k → x ≡ k
      indexed x at kind.Int q = cc
      indexed x at kind.Nil q = cc
      indexed x at (kind.Class c) q = cc
      indexed x at kind.IntArray q = cc
      indexed x at (kind.ClassArray c) q = cc

  -- the cell of a place is apart from what other variables mean, and from the arrays that the place
  -- is not of
  pub place_apart : (st : State) (p : Lvalue) (k : Kind) (c : Cell) (first second : List ℕ) (R : List ℕ → Type 0)
      → Typed setting C.extra C.shape C.class st → place_type typing C.locals p ≡ Ok k → cell_of program st p ≡ Ok c
      → ((other : List ℕ) → bytes_eq other first ≡ false → bytes_eq other second ≡ false
      → bytes_eq other (place_name p).text ≡ false) → ((other : List ℕ) → R other → Avoids program st p other)
      → VariablesApart typing C.locals first second R st c
  place_apart st (Whole name) k c first second R g typed is excluded avoids =
      let t = g in
      let known = some_of (kind_in typing C.locals name.text) (unknown_name name.at) k typed in
      let P : Cell → Type 0 = λ c. VariablesApart typing C.locals first second R st c in
      let same : cell_named program st name.text ≡ c = cc in
      subst P same (record {
        cell = λ other l h p q. names_apart st name.text other k l t known h
            (bytes_turned name.text other ∙ excluded other p q);
        array = λ other l element h e r p q. by (cell_named program st name.text) (meant_of st name.text k t known)
            (variable_value program st other) (λ n z. not_self st n t (array_of st other l element n t h e z));
      })
    where
      by : (c : Cell) → IsMeant setting classes C.extra C.locals C.shape C.class C.inside C.means st name.text c
          → (v : Value) → ((n : ℕ) → v ≡ Name n → nat_eq n st.self ≡ false) → NotOf c v
      by c (variable i h) v q = tt
      by c (field i h) (Word w) q = tt
      by c (field i h) Nil q = tt
      by c (field i h) (Name n) q = apart_sym n st.self (q n refl)
  place_apart st (Item name index) k c first second R g typed is excluded avoids =
      let t = g in
      let item = item_typed name index k typed in
      let e = element_is program st name index c is in
      let a = array_of st name.text item.array k e.array t item.known item.element e.holds in
      let P : Cell → Type 0 = λ c. VariablesApart typing C.locals first second R st c in
      subst P (sym e.is) (record {
        cell = λ other l h p q. element_apart st e.array e.index other l t a h;
        array = λ other l element h f r p q. by (variable_value program st other) e.array e.index
            (ap (λ v. same_value v (variable_value program st other)) (sym e.holds) ∙ avoids other r);
      })
    where
      by : (v : Value) (m i : ℕ) → same_value (Name m) v ≡ false → NotOf (Part m i) v
      by (Word w) m i q = tt
      by Nil m i q = tt
      by (Name n) m i q = q
