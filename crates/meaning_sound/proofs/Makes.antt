-- `new`, `delete`, `copy` and `uncopy` keep a state sound.
use Rattle.std.proofs.Common.{◌≡◌, ◌≢◌, ◌∙◌, sym, ap, subst, refl, ℕ, zero, suc, ◌+◌, ◌<◌, ◌≤◌, Bool, true, false, List}
use Rattle.std.proofs.Common.{[], ◌∷◌, map, length, Option, Some, None, arith}
use Rattle.std.proofs.lemmas.Bool.{eqb-true}
use Rattle.std.proofs.lemmas.List.{length-map, length-replicate}
use Rattle.std.proofs.lemmas.List.Quantifiers.{position-Some}
use Rattle.std.specs.Prelude.{nat_eq, not, ◌&&◌, ◌||◌, ◌++◌, replicate, Ok}
use Rattle.std.specs.Option.{unwrap_or}
use Rattle.std.specs.Str.{bytes_eq}
use Rattle.roopl_semantics.specs.rpp_words.Words.{is_less}
use Rattle.roopl_semantics.specs.rpp_tree.declared.tree.Ident.{Ident}
use Rattle.roopl_semantics.specs.rpp_tree.declared.tree.Var.{Var}
use Rattle.roopl_semantics.specs.rpp_tree.declared.tree.VarType.{VarType}
use Rattle.roopl_semantics.specs.rpp_tree.declared.tree.VarType.TheVariants as type
use Rattle.roopl_semantics.specs.rpp_tree.Tree.{Expression, Lvalue, Creation, Object as AnObject, Ints, Objects, New}
use Rattle.roopl_semantics.specs.rpp_tree.Tree.{Delete, Copy}
use Rattle.roopl_semantics.specs.rpp_tree.Tree.{Uncopy, Source, nodes, index_nodes}
use Rattle.roopl_semantics.specs.class_rules.declared.kind.Kind.{Kind}
use Rattle.roopl_semantics.specs.class_rules.declared.kind.Kind.TheVariants as kind
use Rattle.roopl_semantics.specs.class_rules.Rules.{all_class_names, class_name as class_name}
use Rattle.roopl_semantics.specs.class_rules.Classes.{class_fields, class_number, inherits}
use Rattle.roopl_semantics.specs.class_rules.Table.{Table, table_of, class_of, inherits_in}
use Rattle.roopl_semantics.specs.class_rules.Refusal.{type_differs}
use Rattle.roopl_semantics.specs.class_rules.Scope.{Typing, Locals, kind_of, class_kind, array_kind}
use Rattle.roopl_semantics.specs.class_rules.Expressions.{is_int, element_kind, place_type}
use Rattle.roopl_semantics.specs.class_rules.Statements.{verdict_passed, required, is_class, is_int_array, takes_object}
use Rattle.roopl_semantics.specs.class_rules.Statements.{takes_object_of}
use Rattle.roopl_semantics.specs.class_rules.Statements.{takes_objects_of, takes, made_known, length_is_int, make_rules}
use Rattle.roopl_semantics.specs.class_rules.Statements.{type_known}
use Rattle.roopl_semantics.specs.class_rules.Statements.{is_class_array, takes_copy, written_kind, copy_rules}
use Rattle.roopl_semantics.specs.class_rules.Program.{setting_in}
use Rattle.roopl_semantics.proofs.class_rules_laws.Tables.{table_reads}
use Rattle.roopl_semantics.specs.Run.{Run, ◌>>=◌, give, spend}
use Rattle.roopl_semantics.specs.Store.{Value, Word, Nil, Name, Head, OfClass, OfInts, OfObjects, Store, State}
use Rattle.roopl_semantics.specs.Store.{number_of, is_nil, zero_value, zero_values, same_value, object_at}
use Rattle.roopl_semantics.specs.Value.{Cell, read, written, value as value_in, cell_of, NIL}
use Rattle.roopl_semantics.specs.Elements.{SHARED_ARRAY, index_elements, own_element, share_array, read_cost}
use Rattle.roopl_semantics.specs.Execution.{Setting, Runner, NOT_NIL, COUNT, NOT_EMPTY}
use Rattle.roopl_semantics.specs.Execution.{CLASS_DIFFERS, LENGTH_DIFFERS, LENGTH, NOT_SAME}
use Rattle.roopl_semantics.specs.Execution.{same_cell, is_of_class, all_zero, allocated, freed, count_changed, one_less}
use Rattle.roopl_semantics.specs.Execution.{new_array, delete_array, statement}
use Rattle.roopl_semantics.specs.Laws.{one_if_name, holders_among}
use Rattle.roopl_semantics.specs.class_rules.Inheritance.{is_or_inherits, kind_of_var}
use Rattle.meaning_sound.specs.Sound.{head_named, head_fits, named_fits, is_of_kind, cell_kinds, AllFit, cell_kind}
use Rattle.meaning_sound.specs.Sound.{Sound}
use Rattle.meaning_sound.specs.Sound.{Keeps}
use Rattle.meaning_sound.proofs.Cells.{typed_of, read_fits}
use Rattle.meaning_sound.proofs.Classes.{KnowsClasses}
use Rattle.meaning_sound.specs.Kept.{MeansSame}
use Rattle.meaning_sound.proofs.Runs.{Ends, ends_after, ends_then, ends_check, ends_checked, ends_given}
use Rattle.roopl_semantics.proofs.class_rules_laws.PassedRules.{handed_on, both_passed, held as was_held, both_true}
use Rattle.meaning_sound.proofs.Values.{cell_found, place_fits}
use Rattle.meaning_sound.proofs.Writes.{nil_is}
use Rattle.meaning_sound.proofs.Locals.{same_value_is}
use Rattle.meaning_sound.proofs.Objects.{allocated_keeps}
use Rattle.meaning_sound.proofs.Removal.{IsName, reference, not_less, freed_keeps, copy_keeps, uncopy_keeps}

-- ---- the zeros of a new object or array

zero_fits : (program : Source) (store : Store) (var : Var)
    → is_of_kind program store (zero_value var.kind) (kind_of_var program var) ≡ true
zero_fits program store var = by var.kind
  where
    by_class : (o : Option ℕ) → is_of_kind program store Nil (class_kind o) ≡ true
    by_class None = refl
    by_class (Some c) = refl

    by_array : (o : Option ℕ) → is_of_kind program store Nil (array_kind o) ≡ true
    by_array None = refl
    by_array (Some c) = refl

    by : (t : VarType) → is_of_kind program store (zero_value t) (kind_of (table_of program) t) ≡ true
    by type.Int = refl
    by (type.Class name) = by_class (class_of (table_of program) name.text)
    by type.IntArray = refl
    by (type.ClassArray name) = by_array (class_of (table_of program) name.text)

pub zeros_fit : (program : Source) (store : Store) (vars : List Var)
    → AllFit program store (map (kind_of_var program) vars) (zero_values vars)
zeros_fit program store [] = tt
zeros_fit program store (var ∷ vars) = (zero_fits program store var, zeros_fit program store vars)

pub zeros_hold_none : (vars : List Var) (m : ℕ) → holders_among m (zero_values vars) ≡ 0
zeros_hold_none [] m = refl
zeros_hold_none (var ∷ vars) m = let a = by var.kind in let b = zeros_hold_none vars m in omega arith
  where
    by : (t : VarType) → one_if_name m (zero_value t) ≡ 0
    by type.Int = refl
    by (type.Class name) = refl
    by type.IntArray = refl
    by (type.ClassArray name) = refl

pub same_fit : (program : Source) (store : Store) (k : Kind) (v : Value) (n : ℕ) → is_of_kind program store v k ≡ true
    → AllFit program store (replicate n k) (replicate n v)
same_fit program store k v zero h = tt
same_fit program store k v (suc n) h = (h, same_fit program store k v n h)

same_hold_none : (v : Value) (n m : ℕ) → one_if_name m v ≡ 0 → holders_among m (replicate n v) ≡ 0
same_hold_none v zero m h = refl
same_hold_none v (suc n) m h = let a = same_hold_none v n m h in omega arith

-- ---- what the rules say

-- the place of `new` and `delete`
pub record MadePlace (typing : Typing) (locals : Locals) (made : Creation) (place : Lvalue) : Type 0 where
  pub type : Kind
  pub is : place_type typing locals place ≡ Ok type
  pub takes_it : takes typing.table made type ≡ true

pub made_place : (typing : Typing) (locals : Locals) (at : ℕ) (made : Creation) (place : Lvalue)
    → make_rules typing locals at made place ≡ verdict_passed → MadePlace typing locals made place
made_place typing locals at made place h =
    let known = both_passed (made_known typing.table made) _ h in
    let p = handed_on (place_type typing locals place) _ tt known.1 in
    let int = handed_on (length_is_int typing locals made) _ tt p.goes in
    let fit = both_passed (required (int.value && takes typing.table made p.value) (type_differs at)) _ int.goes in
    record {
      type = p.value;
      is = p.is;
      takes_it = (both_true int.value (takes typing.table made p.value)
          (was_held _ _ fit.0)).1;
    }

pub no_int_takes : (table : Table) (made : Creation) (k : Kind) → takes table made k ≡ true → is_int k ≡ false
no_int_takes table made kind.Nil h = refl
no_int_takes table made (kind.Class c) h = refl
no_int_takes table made kind.IntArray h = refl
no_int_takes table made (kind.ClassArray c) h = refl
no_int_takes table (AnObject class) kind.Int h = absurd (by (class_of table class.text) h)
  where
    by : (o : Option ℕ) → takes_object_of table o kind.Int ≡ true → ⊥
    by None q = cc
    by (Some c) q = cc
no_int_takes table (Ints length) kind.Int h = absurd (cc)
no_int_takes table (Objects class length) kind.Int h = absurd (by (class_of table class.text) h)
  where
    by : (o : Option ℕ) → takes_objects_of o kind.Int ≡ true → ⊥
    by None q = cc
    by (Some c) q = cc

-- a class that a name denotes is one of the program's
pub class_is_inside : (program : Source) (name : List ℕ) (c : ℕ) → class_of (table_of program) name ≡ Some c
    → c < length program.classes
class_is_inside program name c h =
    let a = (position-Some (bytes_eq name) (all_class_names program) c [] h).0 in
    omega (arith, length-map program.classes class_name)

turned : (a b : ℕ) → nat_eq a b ≡ true → nat_eq b a ≡ true
turned a b h = Rattle.std.proofs.Common.eq-eqb b a (sym (eqb-true a b h))

-- a class that a place takes is or inherits from the place's
pub taken_below : (program : Source) (c own : ℕ) → c < length program.classes
    → (nat_eq own c || inherits_in (table_of program) c own) ≡ true → is_or_inherits program c own ≡ true
taken_below program c own inside h = by (nat_eq own c) refl h
  where
    by : (b : Bool) → nat_eq own c ≡ b → (b || inherits_in (table_of program) c own) ≡ true
        → (nat_eq c own || inherits program c own) ≡ true
    by true e q = ap (λ z. z || inherits program c own) (turned own c e)
    by false e q =
        let i : inherits program c own ≡ true = sym ((table_reads program c inside).inherits own) ∙ q in
        either (nat_eq c own) i
      where
        either : (a : Bool) → inherits program c own ≡ true → (a || inherits program c own) ≡ true
        either true z = refl
        either false z = z

-- the class of `new` and its head
pub record NewClass (program : Source) (class : Ident) (k : Kind) : Type 0 where
  pub number : ℕ
  pub is : class_number program class.text ≡ Some number
  pub fit : head_fits program k (OfClass number) ≡ true

pub new_class : (program : Source) (class : Ident) (k : Kind)
    → takes_object_of (table_of program) (class_of (table_of program) class.text) k ≡ true → NewClass program class k
new_class program class k h = by (class_of (table_of program) class.text) k refl h
  where
    by : (o : Option ℕ) (k : Kind) → class_of (table_of program) class.text ≡ o
        → takes_object_of (table_of program) o k ≡ true → NewClass program class k
    by None k e q = absurd (cc)
    by (Some c) kind.Int e q = absurd (cc)
    by (Some c) kind.Nil e q = absurd (cc)
    by (Some c) (kind.Class own) e q = record {
      number = c;
      is = e;
      fit = taken_below program c own (class_is_inside program class.text c e) q;
    }
    by (Some c) kind.IntArray e q = absurd (cc)
    by (Some c) (kind.ClassArray own) e q = absurd (cc)

pub record NewArray (program : Source) (class : Ident) (k : Kind) : Type 0 where
  pub number : ℕ
  pub is : class_number program class.text ≡ Some number
  pub fit : (n : ℕ) → head_fits program k (OfObjects number n) ≡ true

pub new_objects : (program : Source) (class : Ident) (k : Kind)
    → takes_objects_of (class_of (table_of program) class.text) k ≡ true → NewArray program class k
new_objects program class k h = by (class_of (table_of program) class.text) k refl h
  where
    by : (o : Option ℕ) (k : Kind) → class_of (table_of program) class.text ≡ o → takes_objects_of o k ≡ true
        → NewArray program class k
    by None k e q = absurd (cc)
    by (Some c) kind.Int e q = absurd (cc)
    by (Some c) kind.Nil e q = absurd (cc)
    by (Some c) (kind.Class own) e q = absurd (cc)
    by (Some c) kind.IntArray e q = absurd (cc)
    by (Some c) (kind.ClassArray own) e q = record { number = c; is = e; fit = λ n. q }

pub ints_fit : (program : Source) (k : Kind) (n : ℕ) → is_int_array k ≡ true → head_fits program k (OfInts n) ≡ true
ints_fit program kind.Int n h = absurd (cc)
ints_fit program kind.Nil n h = absurd (cc)
ints_fit program (kind.Class c) n h = absurd (cc)
ints_fit program kind.IntArray n h = refl
ints_fit program (kind.ClassArray c) n h = absurd (cc)

pub name_is : (v : Value) → IsName v → v ≡ Name (number_of v)
name_is v n = n.is ∙ ap Name (sym (ap number_of n.is))

-- whether a type is one of arrays
abbrev pub is_array : Kind → Bool
is_array kind.Int = false
is_array kind.Nil = false
is_array (kind.Class c) = false
is_array kind.IntArray = true
is_array (kind.ClassArray c) = true

module _ (setting : Setting) (classes : KnowsClasses setting.program) (run : Runner) (extra : ℕ → ℕ)
    (locals shape : Locals) (class : ℕ) (inside : class < length setting.program.classes)
    (means : MeansSame locals shape) where
  abbrev program : Source
  program = setting.program

  abbrev typing : Typing
  typing = setting_in program (table_of program) class

  abbrev Kept : State → State → Type 0
  Kept st end = Keeps setting extra shape class st end

  -- the cell of a checked place
  pub cell_is : (st : State) (place : Lvalue) (k : Kind) (cell : Cell) → Sound setting extra shape class st
      → place_type typing locals place ≡ Ok k → cell_of program st place ≡ Ok cell
      → cell_kind program shape st.store cell ≡ Some k
  cell_is st place k cell s h e = cell_found program shape st.store k (cell_of program st place) cell
      (place_fits setting classes extra locals shape class inside means st place k
      (typed_of setting extra shape class st s) h) e

  pub new_object_keeps : (n at : ℕ) (name : Ident) (target : Lvalue) (st : State)
      → make_rules typing locals at (AnObject name) target ≡ verdict_passed → Sound setting extra shape class st
      → Ends (Kept st) (statement setting n run (New at (AnObject name) target) st)
  new_object_keeps n at name target st h s =
      let p = made_place typing locals at (AnObject name) target h in
      let c = new_class program name p.type p.takes_it in
      let number_is : unwrap_or (class_number program name.text) 0 ≡ c.number = ap (λ o. unwrap_or o 0) c.is in
      ends_given (Kept st) (index_nodes target) (cell_of program st target) _ (λ cell e.
      let makes : Unit {0} → Run State = λ x. spend (setting.limits.heap + 1) >>=
      (λ y. allocated setting (length (zero_values (class_fields program
      (unwrap_or (class_number program name.text) 0)))) cell
      (OfClass (unwrap_or (class_number program name.text) 0))
      (zero_values (class_fields program (unwrap_or (class_number program name.text) 0))) st) in
      ends_checked (Kept st) (read_cost (own_element target) (index_elements target)) SHARED_ARRAY
      (share_array program st (own_element target) (index_elements target))
      (λ x. Rattle.roopl_semantics.specs.Run.fault_if NOT_NIL (not (is_nil (read st cell))) >>= makes) (λ z.
      ends_check (Kept st) NOT_NIL (not (is_nil (read st cell))) makes (λ q.
      ends_after (Kept st) (setting.limits.heap + 1) _
      (subst (λ k. Ends (Kept st) (allocated setting (length (zero_values (class_fields program k))) cell (OfClass k)
      (zero_values (class_fields program k)) st)) (sym number_is)
      (allocated_keeps setting extra shape class st (OfClass c.number) (zero_values (class_fields program c.number))
      (length (zero_values (class_fields program c.number))) cell p.type
      (sizes (class_fields program c.number)) s (cell_is st target p.type cell s p.is e) q c.fit
      (λ store. zeros_fit program store (class_fields program c.number))
      (zeros_hold_none (class_fields program c.number)))))))
    where
      sizes : (vars : List Var) → length (zero_values vars) ≡ length (map (kind_of_var program) vars)
      sizes vars = length-map vars (λ var. zero_value var.kind) ∙ sym (length-map vars (kind_of_var program))

  new_array_keeps : (target : Lvalue) (size : Expression) (head : ℕ → Head) (element : Value) (k : Kind)
      (elements : Kind) (st : State) → place_type typing locals target ≡ Ok k
      → ((n : ℕ) → cell_kinds program (head n) ≡ replicate n elements) → ((n : ℕ) → head_fits program k (head n) ≡ true)
      → ((store : Store) → is_of_kind program store element elements ≡ true) → ((m : ℕ) → one_if_name m element ≡ 0)
      → Sound setting extra shape class st → Ends (Kept st) (new_array setting target size head element st)
  new_array_keeps target size head element k elements st h kinds fit element_fits none s =
      ends_given (Kept st) (index_nodes target) (cell_of program st target) _ (λ cell e.
      ends_given (Kept st) (nodes size) (value_in program st size) _ (λ v f.
      let n = number_of v in
      ends_check (Kept st) NOT_NIL (not (is_nil (read st cell))) (λ x. made cell n) (λ q.
      let after : Unit {0} → Run State = λ x. spend (setting.limits.heap + 1) >>=
      (λ y. allocated setting n cell (head n) (replicate n element) st >>= (λ st'. spend n >>= (λ z. give st'))) in
      ends_check (Kept st) LENGTH (is_less n 1) after (λ r.
      ends_after (Kept st) (setting.limits.heap + 1) _
      (ends_then (Kept st) (Kept st) (allocated setting n cell (head n) (replicate n element) st)
      (λ st'. spend n >>= (λ z. give st'))
      (allocated_keeps setting extra shape class st (head n) (replicate n element) n cell k
      (sym (ap length (kinds n) ∙ length-replicate n elements)) s (cell_is st target k cell s h e) q (fit n)
      (λ store. subst (λ ks. AllFit program store ks (replicate n element)) (sym (kinds n))
      (same_fit program store elements element n (element_fits store)))
      (λ m. same_hold_none element n m (none m)))
      (λ st' kept. kept))))))
    where
      made : Cell → ℕ → Run State
      made cell n = Rattle.roopl_semantics.specs.Run.fault_if LENGTH (is_less n 1) >>=
          (λ x. spend (setting.limits.heap + 1) >>= (λ y. allocated setting n cell (head n) (replicate n element) st >>=
          (λ st'. spend n >>= (λ z. give st'))))

  pub new_ints_keeps : (n at : ℕ) (size : Expression) (target : Lvalue) (st : State)
      → make_rules typing locals at (Ints size) target ≡ verdict_passed → Sound setting extra shape class st
      → Ends (Kept st) (statement setting n run (New at (Ints size) target) st)
  new_ints_keeps n at size target st h s =
      let p = made_place typing locals at (Ints size) target h in
      new_array_keeps target size OfInts (Word 0) p.type kind.Int st p.is (λ n. refl)
      (λ n. ints_fit program p.type n p.takes_it) (λ store. refl) (λ m. refl) s

  pub new_objects_keeps : (n at : ℕ) (name : Ident) (size : Expression) (target : Lvalue) (st : State)
      → make_rules typing locals at (Objects name size) target ≡ verdict_passed → Sound setting extra shape class st
      → Ends (Kept st) (statement setting n run (New at (Objects name size) target) st)
  new_objects_keeps n at name size target st h s =
      let p = made_place typing locals at (Objects name size) target h in
      let c = new_objects program name p.type p.takes_it in
      let number_is : unwrap_or (class_number program name.text) 0 ≡ c.number = ap (λ o. unwrap_or o 0) c.is in
      subst (λ k. Ends (Kept st) (new_array setting target size (OfObjects k) Nil st)) (sym number_is)
      (new_array_keeps target size (OfObjects c.number) Nil p.type (kind.Class c.number) st p.is (λ n. refl) c.fit
      (λ store. refl) (λ m. refl) s)

  -- what is deleted
  pub gone : (st : State) (cell : Cell) (k : Kind) → Sound setting extra shape class st
      → cell_kind program shape st.store cell ≡ Some k → is_int k ≡ false → is_nil (read st cell) ≡ false
      → not (nat_eq (object_at st.store (number_of (read st cell))).count 1) ≡ false
      → not (all_zero (object_at st.store (number_of (read st cell))).cells) ≡ false
      → Kept st (freed setting cell (number_of (read st cell)) st)
  gone st cell k s h no_int no_nil one zeros =
      let t = typed_of setting extra shape class st s in
      let n = reference program st.store (read st cell) k (read_fits setting extra shape class st cell k t h) no_int
      no_nil in
      freed_keeps setting extra shape class st cell k (number_of (read st cell)) s h no_int (name_is (read st cell) n)
      one (not_less _ zeros)

  pub delete_object_keeps : (n at : ℕ) (name : Ident) (target : Lvalue) (st : State)
      → make_rules typing locals at (AnObject name) target ≡ verdict_passed → Sound setting extra shape class st
      → Ends (Kept st) (statement setting n run (Delete at (AnObject name) target) st)
  delete_object_keeps n at name target st h s =
      let p = made_place typing locals at (AnObject name) target h in
      ends_given (Kept st) (index_nodes target) (cell_of program st target) _ (λ cell e.
      let object = object_at st.store (number_of (read st cell)) in
      let end : Unit {0} → Run State = λ x. give (freed setting cell (number_of (read st cell)) st) in
      let empty : Unit {0} → Run State = λ x. spend (setting.limits.heap + 1) >>=
      (λ y. Rattle.roopl_semantics.specs.Run.fault_if NOT_EMPTY (not (all_zero object.cells)) >>= end) in
      let one : Unit {0} → Run State = λ x. Rattle.roopl_semantics.specs.Run.fault_if COUNT
      (not (nat_eq object.count 1)) >>= empty in
      let same : Unit {0} → Run State = λ x. Rattle.roopl_semantics.specs.Run.fault_if CLASS_DIFFERS
      (not (is_of_class object.head (class_number program name.text))) >>= one in
      ends_checked (Kept st) (read_cost (own_element target) (index_elements target)) SHARED_ARRAY
      (share_array program st (own_element target) (index_elements target))
      (λ x. Rattle.roopl_semantics.specs.Run.fault_if NIL (is_nil (read st cell)) >>= same) (λ z.
      ends_check (Kept st) NIL (is_nil (read st cell)) same (λ q.
      ends_check (Kept st) CLASS_DIFFERS (not (is_of_class object.head (class_number program name.text))) one
      (λ r.
      ends_check (Kept st) COUNT (not (nat_eq object.count 1)) empty (λ u.
      ends_after (Kept st) (setting.limits.heap + 1) _ (ends_check (Kept st) NOT_EMPTY
      (not (all_zero object.cells)) end (λ v.
      gone st cell p.type s (cell_is st target p.type cell s p.is e)
      (no_int_takes (table_of program) (AnObject name) p.type p.takes_it) q u v)))))))

  delete_array_keeps : (target : Lvalue) (size : Expression) (k : Kind) (st : State)
      → place_type typing locals target ≡ Ok k → is_int k ≡ false → Sound setting extra shape class st
      → Ends (Kept st) (delete_array setting target size st)
  delete_array_keeps target size k st h no_int s =
      ends_given (Kept st) (index_nodes target) (cell_of program st target) _ (λ cell e.
      ends_given (Kept st) (nodes size) (value_in program st size) _ (λ v f.
      let array = object_at st.store (number_of (read st cell)) in
      let end : Unit {0} → Run State = λ x. give (freed setting cell (number_of (read st cell)) st) in
      let empty : Unit {0} → Run State = λ x. spend (setting.limits.heap + 1 + length array.cells) >>=
      (λ y. Rattle.roopl_semantics.specs.Run.fault_if NOT_EMPTY (not (all_zero array.cells)) >>= end) in
      let one : Unit {0} → Run State = λ x. Rattle.roopl_semantics.specs.Run.fault_if COUNT
      (not (nat_eq array.count 1)) >>= empty in
      let same : Unit {0} → Run State = λ x. Rattle.roopl_semantics.specs.Run.fault_if LENGTH_DIFFERS
      (not (nat_eq (length array.cells) (number_of v))) >>= one in
      ends_check (Kept st) NIL (is_nil (read st cell)) same (λ q.
      ends_check (Kept st) LENGTH_DIFFERS (not (nat_eq (length array.cells) (number_of v))) one (λ r.
      ends_check (Kept st) COUNT (not (nat_eq array.count 1)) empty (λ u.
      ends_after (Kept st) (setting.limits.heap + 1 + length array.cells) _
      (ends_check (Kept st) NOT_EMPTY (not (all_zero array.cells)) end (λ w.
      gone st cell k s (cell_is st target k cell s h e) no_int q u w)))))))

  pub delete_ints_keeps : (n at : ℕ) (size : Expression) (target : Lvalue) (st : State)
      → make_rules typing locals at (Ints size) target ≡ verdict_passed → Sound setting extra shape class st
      → Ends (Kept st) (statement setting n run (Delete at (Ints size) target) st)
  delete_ints_keeps n at size target st h s =
      let p = made_place typing locals at (Ints size) target h in
      delete_array_keeps target size p.type st p.is (no_int_takes (table_of program) (Ints size) p.type p.takes_it) s

  pub delete_objects_keeps : (n at : ℕ) (name : Ident) (size : Expression) (target : Lvalue) (st : State)
      → make_rules typing locals at (Objects name size) target ≡ verdict_passed → Sound setting extra shape class st
      → Ends (Kept st) (statement setting n run (Delete at (Objects name size) target) st)
  delete_objects_keeps n at name size target st h s =
      let p = made_place typing locals at (Objects name size) target h in
      delete_array_keeps target size p.type st p.is (no_int_takes (table_of program) (Objects name size) p.type
      p.takes_it) s

  -- ---- copy and uncopy

  -- the types of the two places: what the first takes the second takes, and both are arrays or none is
  pub record CopyParts (source target : Lvalue) : Type 0 where
    pub first : Kind
    pub second : Kind
    pub source_is : place_type typing locals source ≡ Ok first
    pub target_is : place_type typing locals target ≡ Ok second
    pub first_refers : is_int first ≡ false
    pub second_refers : is_int second ≡ false
    pub as_array : is_array first ≡ is_array second
    pub no_element : element_kind second ≡ Some first → ⊥
    pub below : (store : Store) (n : ℕ) → is_of_kind program store (Name n) first ≡ true
        → is_of_kind program store (Name n) second ≡ true

  -- a value of a class is of one above it
  pub above_fits : (store : Store) (n a b : ℕ) → is_or_inherits program a b ≡ true
      → is_of_kind program store (Name n) (kind.Class a) ≡ true
      → is_of_kind program store (Name n) (kind.Class b) ≡ true
  above_fits store n a b h f = by (head_named store n) f
    where
      by : (o : Option Head) → named_fits program (kind.Class a) o ≡ true → named_fits program (kind.Class b) o ≡ true
      by None q = absurd (cc)
      by (Some (OfClass own)) q = classes.through own a b q h
      by (Some (OfInts l)) q = absurd (cc)
      by (Some (OfObjects c l)) q = absurd (cc)

  class_written : (at : ℕ) (written : VarType) (c : ℕ) → written_kind typing.table at written ≡ Ok (kind.Class c)
      → c < length program.classes
  class_written at type.Int c q = absurd (cc)
  class_written at (type.Class name) c q = by (class_of typing.table name.text) refl
      (let k : class_kind (class_of typing.table name.text) ≡ kind.Class c = cc in k)
    where
      by : (o : Option ℕ) → class_of typing.table name.text ≡ o → class_kind o ≡ kind.Class c
          → c < length program.classes
      by None e q = absurd (cc)
      by (Some d) e q = let same : d ≡ c = cc in class_is_inside program name.text c (e ∙ ap (λ z. Some z) same)
  class_written at type.IntArray c q = absurd (cc)
  class_written at (type.ClassArray name) c q = by (class_of typing.table name.text)
      (let k : array_kind (class_of typing.table name.text) ≡ kind.Class c = cc in k)
    where
      by : (o : Option ℕ) → array_kind o ≡ kind.Class c → c < length program.classes
      by None q = absurd (cc)
      by (Some d) q = absurd (cc)

  pub copy_parts : (at : ℕ) (written : VarType) (source target : Lvalue)
      → copy_rules typing locals at written source target ≡ verdict_passed → CopyParts source target
  copy_parts at written source target h =
      let known = both_passed (type_known typing.table written) _ h in
      let a = handed_on (place_type typing locals source) _ tt known.1 in
      let b = handed_on (place_type typing locals target) _ tt a.goes in
      let c = handed_on (written_kind typing.table at written) _ tt b.goes in
      let rules = both_passed (required (takes_copy typing.table c.value a.value b.value) (type_differs at)) _ c.goes in
      by c.value a.value b.value c.is a.is b.is (was_held _ _ rules.0)
    where
      of_class : (x : ℕ) (a b : Kind) → x < length program.classes → place_type typing locals source ≡ Ok a
          → place_type typing locals target ≡ Ok b → is_class x a ≡ true → takes_object typing.table x b ≡ true
          → CopyParts source target
      of_class x kind.Int b i ha hb e f = absurd (cc)
      of_class x kind.Nil b i ha hb e f = absurd (cc)
      of_class x kind.IntArray b i ha hb e f = absurd (cc)
      of_class x (kind.ClassArray y) b i ha hb e f = absurd (cc)
      of_class x (kind.Class y) kind.Int i ha hb e f = absurd (cc)
      of_class x (kind.Class y) kind.Nil i ha hb e f = absurd (cc)
      of_class x (kind.Class y) kind.IntArray i ha hb e f = absurd (cc)
      of_class x (kind.Class y) (kind.ClassArray z) i ha hb e f = absurd (cc)
      of_class x (kind.Class y) (kind.Class z) i ha hb e f =
          let same : x ≡ y = eqb-true x y e in
          let over : is_or_inherits program y z ≡ true = ap (λ w. is_or_inherits program w z) (sym same)
          ∙ taken_below program x z i f in
          record {
            first = kind.Class y;
            second = kind.Class z;
            source_is = ha;
            target_is = hb;
            first_refers = refl;
            second_refers = refl;
            as_array = refl;
            no_element = λ q. cc;
            below = λ store n q. above_fits store n y z over q;
          }

      of_ints : (a b : Kind) → place_type typing locals source ≡ Ok a → place_type typing locals target ≡ Ok b
          → is_int_array a ≡ true → is_int_array b ≡ true → CopyParts source target
      of_ints kind.Int b ha hb e f = absurd (cc)
      of_ints kind.Nil b ha hb e f = absurd (cc)
      of_ints (kind.Class y) b ha hb e f = absurd (cc)
      of_ints (kind.ClassArray y) b ha hb e f = absurd (cc)
      of_ints kind.IntArray kind.Int ha hb e f = absurd (cc)
      of_ints kind.IntArray kind.Nil ha hb e f = absurd (cc)
      of_ints kind.IntArray (kind.Class y) ha hb e f = absurd (cc)
      of_ints kind.IntArray (kind.ClassArray y) ha hb e f = absurd (cc)
      of_ints kind.IntArray kind.IntArray ha hb e f = record {
        first = kind.IntArray;
        second = kind.IntArray;
        source_is = ha;
        target_is = hb;
        first_refers = refl;
        second_refers = refl;
        as_array = refl;
        no_element = λ q. cc;
        below = λ store n q. q;
      }

      of_objects : (x : ℕ) (a b : Kind) → place_type typing locals source ≡ Ok a
          → place_type typing locals target ≡ Ok b → is_class_array x a ≡ true → is_class_array x b ≡ true
          → CopyParts source target
      of_objects x kind.Int b ha hb e f = absurd (cc)
      of_objects x kind.Nil b ha hb e f = absurd (cc)
      of_objects x kind.IntArray b ha hb e f = absurd (cc)
      of_objects x (kind.Class y) b ha hb e f = absurd (cc)
      of_objects x (kind.ClassArray y) kind.Int ha hb e f = absurd (cc)
      of_objects x (kind.ClassArray y) kind.Nil ha hb e f = absurd (cc)
      of_objects x (kind.ClassArray y) kind.IntArray ha hb e f = absurd (cc)
      of_objects x (kind.ClassArray y) (kind.Class z) ha hb e f = absurd (cc)
      of_objects x (kind.ClassArray y) (kind.ClassArray z) ha hb e f =
          let same : y ≡ z = sym (eqb-true x y e) ∙ eqb-true x z f in
          record {
            first = kind.ClassArray y;
            second = kind.ClassArray z;
            source_is = ha;
            target_is = hb;
            first_refers = refl;
            second_refers = refl;
            as_array = refl;
            no_element = λ q. cc;
            below = λ store n q. subst (λ w. is_of_kind program store (Name n) (kind.ClassArray w) ≡ true) same q;
          }

      by : (c a b : Kind) → written_kind typing.table at written ≡ Ok c → place_type typing locals source ≡ Ok a
          → place_type typing locals target ≡ Ok b → takes_copy typing.table c a b ≡ true → CopyParts source target
      by kind.Int a b hc ha hb q = absurd (cc)
      by kind.Nil a b hc ha hb q = absurd (cc)
      by (kind.Class x) a b hc ha hb q = let both = both_true (is_class x a) (takes_object typing.table x b) q in
          of_class x a b (class_written at written x hc) ha hb both.0 both.1
      by kind.IntArray a b hc ha hb q = let both = both_true (is_int_array a) (is_int_array b) q in
          of_ints a b ha hb both.0 both.1
      by (kind.ClassArray x) a b hc ha hb q = let both = both_true (is_class_array x a) (is_class_array x b) q in
          of_objects x a b ha hb both.0 both.1

  pub copy_keeps_all : (n at : ℕ) (written : VarType) (source target : Lvalue) (st : State)
      → copy_rules typing locals at written source target ≡ verdict_passed → Sound setting extra shape class st
      → Ends (Kept st) (statement setting n run (Copy at written source target) st)
  copy_keeps_all n at written source target st h s =
      let p = copy_parts at written source target h in
      let t = typed_of setting extra shape class st s in
      ends_given (Kept st) (index_nodes source) (cell_of program st source) _ (λ a e.
      ends_given (Kept st) (index_nodes target) (cell_of program st target) _ (λ b f.
      let ha = cell_is st source p.first a s p.source_is e in
      let hb = cell_is st target p.second b s p.target_is f in
      let end : Unit {0} → Run State = λ x. give (count_changed suc
      (Rattle.roopl_semantics.specs.Value.written st b (read st a)) (number_of (read st a))) in
      let changed = own_element target in
      let reads = index_elements source ++ index_elements target in
      let rest : Unit {0} → Run State = λ x. Rattle.roopl_semantics.specs.Run.fault_if NOT_NIL
      (not (is_nil (read st b))) >>= end in
      ends_checked (Kept st) (read_cost changed reads) SHARED_ARRAY (share_array program st changed reads)
      (λ x. Rattle.roopl_semantics.specs.Run.fault_if NIL (is_nil (read st a)) >>= rest) (λ z.
      ends_check (Kept st) NIL (is_nil (read st a)) rest (λ q.
      ends_check (Kept st) NOT_NIL (not (is_nil (read st b))) end (λ r.
      let fit = read_fits setting extra shape class st a p.first t ha in
      let nm = reference program st.store (read st a) p.first fit p.first_refers q in
      subst (λ v. Kept st (count_changed suc (Rattle.roopl_semantics.specs.Value.written st b v) (number_of v)))
      (sym nm.is)
      (copy_keeps setting extra shape class st a b p.first p.second nm.name s ha hb nm.is (nil_is (read st b) r)
      (p.below st.store nm.name (subst (λ v. is_of_kind program st.store v p.first ≡ true) nm.is fit))))))))

  pub uncopy_keeps_all : (n at : ℕ) (written : VarType) (source target : Lvalue) (st : State)
      → copy_rules typing locals at written source target ≡ verdict_passed → Sound setting extra shape class st
      → Ends (Kept st) (statement setting n run (Uncopy at written source target) st)
  uncopy_keeps_all n at written source target st h s =
      let p = copy_parts at written source target h in
      let t = typed_of setting extra shape class st s in
      ends_given (Kept st) (index_nodes source) (cell_of program st source) _ (λ a e.
      ends_given (Kept st) (index_nodes target) (cell_of program st target) _ (λ b f.
      let ha = cell_is st source p.first a s p.source_is e in
      let hb = cell_is st target p.second b s p.target_is f in
      let end : Unit {0} → Run State = λ x. give (count_changed one_less
      (Rattle.roopl_semantics.specs.Value.written st b Nil)
      (number_of (read st a))) in
      let changed = own_element target in
      let reads = index_elements source ++ index_elements target in
      let rest : Unit {0} → Run State = λ x. Rattle.roopl_semantics.specs.Run.fault_if NOT_SAME
      (not (same_value (read st a) (read st b)) || same_cell a b) >>= end in
      ends_checked (Kept st) (read_cost changed reads) SHARED_ARRAY (share_array program st changed reads)
      (λ x. Rattle.roopl_semantics.specs.Run.fault_if NIL (is_nil (read st a)) >>= rest) (λ z.
      ends_check (Kept st) NIL (is_nil (read st a)) rest (λ q.
      ends_check (Kept st) NOT_SAME (not (same_value (read st a) (read st b)) || same_cell a b) end (λ r.
      let fit = read_fits setting extra shape class st a p.first t ha in
      let nm = reference program st.store (read st a) p.first fit p.first_refers q in
      let same = same_value_is (read st a) (read st b) (first_false (same_value (read st a) (read st b)) (same_cell a b)
      r) in
      subst (λ v. Kept st (count_changed one_less (Rattle.roopl_semantics.specs.Value.written st b Nil) (number_of v)))
      (sym nm.is)
      (uncopy_keeps setting extra shape class st a b p.first p.second nm.name s ha hb p.second_refers nm.is
      (sym same ∙ nm.is)))))))
    where
      first_false : (x y : Bool) → (not x || y) ≡ false → x ≡ true
      first_false true y z = refl
      first_false false y z = absurd (cc)
