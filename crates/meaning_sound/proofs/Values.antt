-- Values and places of checked expressions have their types.
use Rattle.std.proofs.Common.{◌≡◌, ◌∙◌, sym, ap, subst, refl, ℕ, zero, suc, ◌+◌, ◌<◌, ◌^◌, Bool, true, false, length}
use Rattle.std.proofs.Common.{Option, Some, None, arith, slice_get}
use Rattle.std.proofs.lemmas.Bool.{lt-ltb, ltb-true, eqb-true}
use Rattle.std.proofs.lemmas.List.{length-replicate}
use Rattle.std.proofs.lemmas.Nat.{or_lt, xor_lt}
use Rattle.std.proofs.Math.Nat.{mod-lt}
use Rattle.roopl_semantics.proofs.rpp_words_laws.Ranges.{bit_and-lt}
use Rattle.std.specs.Prelude.{Result, Ok, Err, nat_lt, is_some, replicate, ◌&&◌, if◌then◌else◌}
use Rattle.std.specs.Option.{option_map}
use Rattle.roopl_semantics.specs.rpp_tree.declared.tree.Ident.{Ident}
use Rattle.roopl_semantics.specs.rpp_tree.declared.tree.BinOp.{BinOp}
use Rattle.roopl_semantics.specs.rpp_tree.declared.tree.BinOp.TheVariants as op
use Rattle.roopl_semantics.specs.rpp_tree.declared.tree.UpdateOp.{UpdateOp}
use Rattle.roopl_semantics.specs.rpp_tree.declared.tree.UpdateOp.TheVariants as update
use Rattle.roopl_semantics.specs.rpp_tree.Tree.{Expression, Number, Null, Variable, Element, Binary, Lvalue, Whole}
use Rattle.roopl_semantics.specs.rpp_tree.Tree.{Item, Source}
use Rattle.roopl_semantics.specs.class_rules.declared.kind.Kind.{Kind}
use Rattle.roopl_semantics.specs.class_rules.declared.kind.Kind.TheVariants as kind
use Rattle.roopl_semantics.specs.class_rules.Table.{table_of}
use Rattle.roopl_semantics.specs.class_rules.Refusal.{type_differs, refused_operator}
use Rattle.roopl_semantics.specs.class_rules.Scope.{Typing, Locals, kind_in}
use Rattle.roopl_semantics.specs.class_rules.Expressions.{then_checked, is_int, element_kind}
use Rattle.roopl_semantics.specs.class_rules.Expressions.{element_kind_of as element_type}
use Rattle.roopl_semantics.specs.class_rules.Expressions.{index_is_int}
use Rattle.roopl_semantics.specs.class_rules.Expressions.{variable_type, type_of, place_type, is_comparison, is_refused}
use Rattle.roopl_semantics.specs.class_rules.Expressions.{operands_fit}
use Rattle.roopl_semantics.specs.class_rules.Expressions.{operator_type, first_token}
use Rattle.roopl_semantics.specs.class_rules.Program.{setting_in}
use Rattle.roopl_semantics.specs.Operators.{operated, updated, truth_word}
use Rattle.roopl_semantics.specs.Store.{Value, Word, Nil, Name, Head, OfClass, OfInts, OfObjects, Object, Store, State}
use Rattle.roopl_semantics.specs.Store.{number_of, object_named, object_at}
use Rattle.roopl_semantics.specs.Value.{Cell, Part, cell_named, variable_value, element_cell, element_of, read_cell}
use Rattle.roopl_semantics.specs.Value.{combined, value, cell_of, INDEX}
use Rattle.roopl_semantics.specs.Execution.{Setting}
use Rattle.meaning_sound.specs.Sound.{head_of, head_named, head_fits, named_fits, is_of_kind, cell_kinds, part_kind}
use Rattle.meaning_sound.specs.Sound.{cell_kind, Typed}
use Rattle.meaning_sound.specs.Plain.{HasWords}
use Rattle.meaning_sound.proofs.Lists.{all_length}
use Rattle.meaning_sound.proofs.Stores.{live_object}
use Rattle.meaning_sound.proofs.Cells.{read_fits}
use Rattle.meaning_sound.proofs.Classes.{KnowsClasses}
use Rattle.meaning_sound.specs.Kept.{MeansSame}
use Rattle.meaning_sound.proofs.Names.{cell_named_kind}
use Rattle.roopl_semantics.proofs.class_rules_laws.PassedRules.{handed_on, some_of, both_true, int_kind}

-- ---- operators give words

-- the truth value of a test is a word
pub truth_is_word : (b : Bool) → truth_word b < 2 ^ 32
truth_is_word true = omega arith
truth_is_word false = omega arith

pub operated_word : (operator : BinOp) (a b : ℕ) → (is_comparison operator ≡ false → (a < 2 ^ 32) × (b < 2 ^ 32))
    → operated operator a b < 2 ^ 32
operated_word op.Add a b h = mod-lt (a + b) (omega arith)
operated_word op.Sub a b h = mod-lt _ (omega arith)
operated_word op.Xor a b h = xor_lt 32 a b (h refl).0 (h refl).1
operated_word op.And a b h = bit_and-lt a b (h refl).0
operated_word op.Or a b h = or_lt 32 a b (h refl).0 (h refl).1
operated_word op.AndAlso a b h = truth_is_word _
operated_word op.OrElse a b h = truth_is_word _
operated_word op.Less a b h = truth_is_word _
operated_word op.Greater a b h = truth_is_word _
operated_word op.AtMost a b h = truth_is_word _
operated_word op.AtLeast a b h = truth_is_word _
operated_word op.Equal a b h = truth_is_word _
operated_word op.NotEqual a b h = truth_is_word _
operated_word op.Mul a b h = omega arith
operated_word op.Div a b h = omega arith
operated_word op.Rem a b h = omega arith

pub updated_word : (operator : UpdateOp) (a b : ℕ) → a < 2 ^ 32 → b < 2 ^ 32 → updated operator a b < 2 ^ 32
updated_word update.Add a b h k = mod-lt (a + b) (omega arith)
updated_word update.Sub a b h k = mod-lt _ (omega arith)
updated_word update.Xor a b h k = xor_lt 32 a b h k

pub word_fits : (program : Source) (store : Store) (w : ℕ) → w < 2 ^ 32
    → is_of_kind program store (Word w) kind.Int ≡ true
word_fits program store w h = lt-ltb w (2 ^ 32) h

-- an int is a word
pub record IsInt (v : Value) : Type 0 where
  pub word : ℕ
  pub is : v ≡ Word word
  pub small : word < 2 ^ 32

pub int_value : (program : Source) (store : Store) (v : Value) → is_of_kind program store v kind.Int ≡ true → IsInt v
int_value program store (Word w) h = record { word = w; is = refl; small = ltb-true w (2 ^ 32) h }
int_value program store Nil h = absurd (cc)
int_value program store (Name n) h = absurd (none (head_named store n) h)
  where
    none : (o : Option Head) → named_fits program kind.Int o ≡ true → ⊥
    none None h = cc
    none (Some head) h = cc

pub int_number : (program : Source) (store : Store) (v : Value) → is_of_kind program store v kind.Int ≡ true
    → number_of v < 2 ^ 32
int_number program store v h = let i = int_value program store v h in let e = ap number_of i.is in let s = i.small in
    omega arith

-- ---- a value or place that is found has its type

abbrev pub ValueFits : Source → Store → Kind → Result Value ℕ → Type 0
ValueFits program store k (Ok v) = is_of_kind program store v k ≡ true
ValueFits program store k (Err fault) = Unit {0}

abbrev pub CellIs : Source → Locals → Store → Kind → Result Cell ℕ → Type 0
CellIs program shape store k (Ok cell) = cell_kind program shape store cell ≡ Some k
CellIs program shape store k (Err fault) = Unit {0}

pub value_found : (program : Source) (store : Store) (k : Kind) (r : Result Value ℕ) (v : Value)
    → ValueFits program store k r → r ≡ Ok v → is_of_kind program store v k ≡ true
value_found program store k r v h e = subst (ValueFits program store k) e h

pub cell_found : (program : Source) (shape : Locals) (store : Store) (k : Kind) (r : Result Cell ℕ) (cell : Cell)
    → CellIs program shape store k r → r ≡ Ok cell → cell_kind program shape store cell ≡ Some k
cell_found program shape store k r cell h e = subst (CellIs program shape store k) e h

pub same_elements : (k : Kind) (n i : ℕ) → i < n → slice_get (replicate n k) i ≡ Some k
same_elements k zero i h = absurd (omega arith)
same_elements k (suc n) zero h = refl
same_elements k (suc n) (suc i) h = same_elements k n i (omega arith)

-- an array's head determines its elements
pub record IsArray (program : Source) (k : Kind) (head : Head) : Type 0 where
  pub count : ℕ
  pub kinds : cell_kinds program head ≡ replicate count k

pub array_head : (program : Source) (array k : Kind) (head : Head) → element_kind array ≡ Some k
    → head_fits program array head ≡ true → IsArray program k head
array_head program kind.Int k head e h = absurd (cc)
array_head program kind.Nil k head e h = absurd (cc)
array_head program (kind.Class c) k head e h = absurd (cc)
array_head program kind.IntArray k (OfClass c) e h = absurd (cc)
array_head program kind.IntArray k (OfInts n) e h = record
    { count = n; kinds = ap (replicate n) (let s : kind.Int ≡ k = cc in s) }
array_head program kind.IntArray k (OfObjects c n) e h = absurd (cc)
array_head program (kind.ClassArray c) k (OfClass d) e h = absurd (cc)
array_head program (kind.ClassArray c) k (OfInts n) e h = absurd (cc)
array_head program (kind.ClassArray c) k (OfObjects d n) e h =
    record {
      count = n;
      kinds = ap (λ z. replicate n (kind.Class z)) (eqb-true d c h)
          ∙ ap (replicate n) (let s : kind.Class c ≡ k = cc in s);
    }

module _ (setting : Setting) (classes : KnowsClasses setting.program) (extra : ℕ → ℕ) (locals shape : Locals)
    (class : ℕ) (inside : class < length setting.program.classes) (means : MeansSame locals shape) where
  abbrev program : Source
  program = setting.program

  abbrev typing : Typing
  typing = setting_in program (table_of program) class

  -- an element of an array
  pub element_kind_is : (st : State) (array k : Kind) (v : Value) (index : ℕ) → Typed setting extra shape class st
      → element_kind array ≡ Some k → is_of_kind program st.store v array ≡ true
      → CellIs program shape st.store k (element_cell st v index)
  element_kind_is st array k (Word w) index t e h = tt
  element_kind_is st array k Nil index t e h = tt
  element_kind_is st array k (Name n) index t e h = by (head_named st.store n) refl h
    where
      object : Object
      object = object_at st.store n

      by : (o : Option Head) → head_named st.store n ≡ o → named_fits program array o ≡ true
          → CellIs program shape st.store k (element_cell st (Name n) index)
      by None q f = absurd (cc)
      by (Some head) q f = inside_or_not (nat_lt index (length object.cells)) refl
        where
          named : object_named st.store n ≡ Some object
          named = live_object st.store n (ap is_some q)

          head_is : object.head ≡ head
          head_is = let x : Some object.head ≡ Some head = sym (ap (option_map head_of) named) ∙ q in cc

          is_array : IsArray program k object.head
          is_array = array_head program array k object.head e (ap (head_fits program array) head_is ∙ f)

          cells : length object.cells ≡ is_array.count
          cells = all_length program st.store (cell_kinds program object.head) object.cells (t.objects n object named)
              ∙ ap length is_array.kinds ∙ length-replicate is_array.count k

          inside_or_not : (b : Bool) → nat_lt index (length object.cells) ≡ b
              → CellIs program shape st.store k (if b then Ok (Part n index) else Err INDEX)
          inside_or_not false z = tt
          inside_or_not true z =
              let small = ltb-true index (length object.cells) z in
              ap (λ o. part_kind program (option_map head_of o) index) named
              ∙ ap (λ ks. slice_get ks index) is_array.kinds
              ∙ same_elements k is_array.count index (omega (arith, cells))

  pub variable_fits : (st : State) (name : Ident) (k : Kind) → Typed setting extra shape class st
      → variable_type typing locals name ≡ Ok k → cell_kind program shape st.store (cell_named program st name.text)
      ≡ Some k
  variable_fits st name k t h = cell_named_kind setting classes extra locals shape class inside means st name.text k t
      (some_of (kind_in typing locals name.text) _ k h)

  -- an element's place, if its index was checked
  pub item_fits : (st : State) (name : Ident) (index : Expression) (k : Kind) → Typed setting extra shape class st
      → type_of typing locals (Element name index) ≡ Ok k → CellIs program shape st.store k
      (element_of program st name.text (value program st index))
  item_fits st name index k t h =
      let array = handed_on (variable_type typing locals name) _ k h in
      let element = handed_on (element_type name array.value) _ k array.goes in
      let index_type = handed_on (type_of typing locals index) _ k element.goes in
      let same = indexed element.value (first_token index) index_type.value index_type.goes in
      let e : element_kind array.value ≡ Some k = some_of (element_kind array.value) _ element.value element.is
      ∙ ap (λ z. Some z) same in
      by e array.value refl (read_fits setting extra shape class st (cell_named program st name.text) array.value t
      (variable_fits st name array.value t array.is)) (value program st index)
    where
      indexed : (x : Kind) (at : ℕ) (i : Kind) → index_is_int x at i ≡ Ok k → x ≡ k
      indexed x at kind.Int q = cc
      indexed x at kind.Nil q = absurd (cc)
      indexed x at (kind.Class c) q = absurd (cc)
      indexed x at kind.IntArray q = absurd (cc)
      indexed x at (kind.ClassArray c) q = absurd (cc)

      by : {array : Kind} → element_kind array ≡ Some k → (a : Kind) → a ≡ array
          → is_of_kind program st.store (variable_value program st name.text) array ≡ true → (r : Result Value ℕ)
          → CellIs program shape st.store k (element_of program st name.text r)
      by {array} e a same f (Ok i) = element_kind_is st array k (variable_value program st name.text) (number_of i) t e
          f
      by e a same f (Err fault) = tt

  pub read_found : (st : State) (k : Kind) (r : Result Cell ℕ) → Typed setting extra shape class st
      → CellIs program shape st.store k r → ValueFits program st.store k (read_cell st r)
  read_found st k (Ok cell) t h = read_fits setting extra shape class st cell k t h
  read_found st k (Err fault) t h = tt

  pub value_fits : (st : State) (e : Expression) (k : Kind) → Typed setting extra shape class st → HasWords e
      → type_of typing locals e ≡ Ok k → ValueFits program st.store k (value program st e)
  value_fits st (Number at word) k t w h = let s : kind.Int ≡ k = cc in
      subst (λ z. is_of_kind program st.store (Word word) z ≡ true) s (word_fits program st.store word w)
  value_fits st (Null at) k t w h = let s : kind.Nil ≡ k = cc in
      subst (λ z. is_of_kind program st.store Nil z ≡ true) s refl
  value_fits st (Variable name) k t w h = read_fits setting extra shape class st (cell_named program st name.text) k t
      (variable_fits st name k t h)
  value_fits st (Element name index) k t w h = read_found st k
      (element_of program st name.text (value program st index)) t (item_fits st name index k t h)
  value_fits st (Binary at operator left right) k t w h =
      let l = handed_on (type_of typing locals left) _ k h in
      let r = handed_on (type_of typing locals right) _ k l.goes in
      both l.value r.value (value program st left) (value program st right) r.goes
      (value_fits st left l.value t w.0 l.is) (value_fits st right r.value t w.1 r.is)
    where
      words : (a b : Kind) (x y : Value) → (is_comparison operator ≡ true → ⊥)
          → operands_fit typing.table operator a b ≡ true → is_of_kind program st.store x a ≡ true
          → is_of_kind program st.store y b ≡ true → (number_of x < 2 ^ 32) × (number_of y < 2 ^ 32)
      words a b x y never q f g = ints (is_comparison operator) refl q
        where
          ints : (c : Bool) → is_comparison operator ≡ c → (if c then
              Rattle.roopl_semantics.specs.class_rules.Expressions.compares
              typing.table a b else is_int a && is_int b) ≡ true → (number_of x < 2 ^ 32) × (number_of y < 2 ^ 32)
          ints true e z = absurd (never e)
          ints false e z =
              let i = both_true (is_int a) (is_int b) z in (
                int_number program st.store x (subst (λ c. is_of_kind program st.store x c ≡ true) (int_kind a i.0) f),
                int_number program st.store y (subst (λ c. is_of_kind program st.store y c ≡ true) (int_kind b i.1) g),
              )

      both : (a b : Kind) (x y : Result Value ℕ) → operator_type typing.table at operator a b ≡ Ok k
          → ValueFits program st.store a x → ValueFits program st.store b y
          → ValueFits program st.store k (combined operator x y)
      both a b (Err fault) y q f g = tt
      both a b (Ok x) (Err fault) q f g = tt
      both a b (Ok x) (Ok y) q f g = by (is_refused operator) (operands_fit typing.table operator a b) refl q
        where
          by : (refused fit : Bool) → operands_fit typing.table operator a b ≡ fit
              → (if refused then Err (refused_operator at) else (if fit then Ok kind.Int else Err (type_differs at)))
              ≡ Ok k → is_of_kind program st.store (Word (operated operator (number_of x) (number_of y))) k ≡ true
          by true fit e z = absurd (cc)
          by false false e z = absurd (cc)
          by false true e z =
              let s : kind.Int ≡ k = cc in
              let apart : is_comparison operator ≡ false → is_comparison operator ≡ true → ⊥ = λ u v. cc in
              subst (λ c. is_of_kind program st.store (Word (operated operator (number_of x) (number_of y))) c ≡ true) s
              (word_fits program st.store (operated operator (number_of x) (number_of y))
              (operated_word operator (number_of x) (number_of y) (λ u. words a b x y (apart u) e f g)))

  pub place_fits : (st : State) (place : Lvalue) (k : Kind) → Typed setting extra shape class st
      → place_type typing locals place ≡ Ok k → CellIs program shape st.store k (cell_of program st place)
  place_fits st (Whole name) k t h = variable_fits st name k t h
  place_fits st (Item name index) k t h = item_fits st name index k t h
