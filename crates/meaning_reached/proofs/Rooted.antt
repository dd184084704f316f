-- Places that a statement names are rooted, and what writes do to closed sets.
use Rattle.std.proofs.Common.{◌≡◌, ◌∙◌, sym, ap, subst, refl, ℕ, ◌<◌, Bool, true, false, List, length, Some, arith}
use Rattle.std.specs.Prelude.{Result, Ok, Err, nat_lt, if◌then◌else◌}
use Rattle.meaning_sound.specs.rpp_tree.declared.tree.Ident.{Ident}
use Rattle.meaning_sound.specs.rpp_tree.Tree.{Lvalue, Whole, Item, Source}
use Rattle.meaning_sound.specs.class_rules.declared.kind.Kind.{Kind}
use Rattle.meaning_sound.specs.class_rules.declared.kind.Kind.TheVariants as kind
use Rattle.meaning_sound.specs.class_rules.Table.{table_of}
use Rattle.meaning_sound.specs.class_rules.Scope.{Typing, Locals, kind_in}
use Rattle.meaning_sound.specs.class_rules.Expressions.{element_kind, element_kind_of as element_type, index_is_int}
use Rattle.meaning_sound.specs.class_rules.Expressions.{variable_type}
use Rattle.meaning_sound.specs.class_rules.Expressions.{type_of, place_type, first_token}
use Rattle.meaning_sound.specs.class_rules.Program.{setting_in}
use Rattle.meaning_sound.specs.roopl_semantics.Store.{Value, Word, Nil, Name, Store, State, number_of, object_at}
use Rattle.meaning_sound.specs.roopl_semantics.Value.{Cell, Slot, Part, read, written, cell_named, variable_value}
use Rattle.meaning_sound.specs.roopl_semantics.Value.{element_cell}
use Rattle.meaning_sound.specs.roopl_semantics.Value.{element_of, value, cell_of, INDEX}
use Rattle.meaning_sound.specs.roopl_semantics.Execution.{Setting, same_cell}
use Rattle.meaning_sound.specs.Sound.{cell_kind, Typed}
use Rattle.meaning_sound.specs.Kept.{MeansSame}
use Rattle.meaning_sound.proofs.Classes.{KnowsClasses}
use Rattle.meaning_sound.proofs.Names.{IsMeant, variable, field, meant}
use Rattle.meaning_sound.proofs.class_rules_laws.PassedRules.{handed_on, some_of}
use Rattle.meaning_sound.proofs.Makes.{is_array}
use Rattle.meaning_sound.proofs.Values.{variable_fits}
use Rattle.meaning_sound.proofs.AfterWrites.{same_cell_is, read_other}
use Rattle.meaning_sound.proofs.Moves.{IsOwn}
use Rattle.meaning_reached.specs.Reached.{is_value_within, is_rooted, IsClosed}

pub array_of_element : (array k : Kind) → element_kind array ≡ Some k → (is_array array ≡ true) × (is_array k ≡ false)
array_of_element kind.Int k h = absurd (cc)
array_of_element kind.Nil k h = absurd (cc)
array_of_element (kind.Class c) k h = absurd (cc)
array_of_element kind.IntArray k h = (refl, let e : kind.Int ≡ k = cc in ap is_array (sym e))
array_of_element (kind.ClassArray c) k h = (refl, let e : kind.Class c ≡ k = cc in ap is_array (sym e))

-- a place that a statement can name: the frame's or the current object's, or an element of an array
-- that such a place holds
pub data IsVisible (program : Source) (shape : Locals) (st : State) (k : Kind) : Cell → Type 0 where
  own : (cell : Cell) → IsOwn st.self cell → IsVisible program shape st k cell
  element : (holder : Cell) (array : Kind) (n i : ℕ) → IsOwn st.self holder
      → cell_kind program shape st.store holder ≡ Some array → element_kind array ≡ Some k → read st holder ≡ Name n
      → IsVisible program shape st k (Part n i)

module _ (setting : Setting) (classes : KnowsClasses setting.program) (extra : ℕ → ℕ) (locals shape : Locals)
    (class : ℕ) (inside : class < length setting.program.classes) (means : MeansSame locals shape) where
  abbrev program : Source
  program = setting.program

  abbrev typing : Typing
  typing = setting_in program (table_of program) class

  meant_own : (st : State) (name : List ℕ) (c : Cell) → IsMeant setting classes extra locals shape class inside means st
      name c → IsOwn st.self c
  meant_own st name c (variable i h) = tt
  meant_own st name c (field i h) = refl

  pub name_own : (st : State) (name : Ident) (k : Kind) → Typed setting extra shape class st
      → variable_type typing locals name ≡ Ok k → IsOwn st.self (cell_named program st name.text)
  name_own st name k t h = meant_own st name.text (cell_named program st name.text)
      (meant setting classes extra locals shape class inside means st name.text k t
      (some_of (kind_in typing locals name.text) _ k h))

  indexed : (x : Kind) (at : ℕ) (i k : Kind) → index_is_int x at i ≡ Ok k → x ≡ k
  indexed x at kind.Int k q = cc
  indexed x at kind.Nil k q = absurd (cc)
  indexed x at (kind.Class c) k q = absurd (cc)
  indexed x at kind.IntArray k q = absurd (cc)
  indexed x at (kind.ClassArray c) k q = absurd (cc)

  pub visible : (st : State) (place : Lvalue) (k : Kind) (cell : Cell) → Typed setting extra shape class st
      → place_type typing locals place ≡ Ok k → cell_of program st place ≡ Ok cell → IsVisible program shape st k cell
  visible st (Whole name) k cell t h e =
      let s : cell_named program st name.text ≡ cell = cc in
      subst (IsVisible program shape st k) s (own (cell_named program st name.text) (name_own st name k t h))
  visible st (Item name index) k cell t h e =
      let array = handed_on (variable_type typing locals name) _ k h in
      let element_is = handed_on (element_type name array.value) _ k array.goes in
      let index_type = handed_on (type_of typing locals index) _ k element_is.goes in
      let same = indexed element_is.value (first_token index) index_type.value k index_type.goes in
      let q : element_kind array.value ≡ Some k = some_of (element_kind array.value) _ element_is.value element_is.is
      ∙ ap (λ z. Some z) same in
      by array.value q (name_own st name array.value t array.is)
      (variable_fits setting classes extra locals shape class inside means st name array.value t array.is)
      (value program st index) e
    where
      found : (array : Kind) → element_kind array ≡ Some k → IsOwn st.self (cell_named program st name.text)
          → cell_kind program shape st.store (cell_named program st name.text) ≡ Some array → (v : Value)
          → variable_value program st name.text ≡ v → (i : ℕ) → element_cell st v i ≡ Ok cell
          → IsVisible program shape st k cell
      found array q o c (Word w) r i e = absurd (cc)
      found array q o c Nil r i e = absurd (cc)
      found array q o c (Name n) r i e = here (nat_lt i (length (object_at st.store n).cells)) e
        where
          here : (b : Bool) → (if b then Ok (Part n i) else Err INDEX) ≡ Ok cell
              → IsVisible program shape st k cell
          here true z = let s : Part n i ≡ cell = cc in subst (IsVisible program shape st k) s
              (element (cell_named program st name.text) array n i o c q r)
          here false z = absurd (cc)

      by : (array : Kind) → element_kind array ≡ Some k → IsOwn st.self (cell_named program st name.text)
          → cell_kind program shape st.store (cell_named program st name.text) ≡ Some array → (r : Result Value ℕ)
          → element_of program st name.text r ≡ Ok cell → IsVisible program shape st k cell
      by array q o c (Err fault) e = absurd (cc)
      by array q o c (Ok v) e = found array q o c (variable_value program st name.text) refl (number_of v) e

-- cells of different types are different
pub kinds_apart : (program : Source) (shape : Locals) (store : Store) (a b : Cell) (ka kb : Kind)
    → cell_kind program shape store a ≡ Some ka → cell_kind program shape store b ≡ Some kb → is_array ka ≡ false
    → is_array kb ≡ true → same_cell a b ≡ false
kinds_apart program shape store a b ka kb ha hb na ab = by (same_cell a b) refl
  where
    by : (s : Bool) → same_cell a b ≡ s → same_cell a b ≡ false
    by false e = e
    by true e =
        let x : Some ka ≡ Some kb = sym ha ∙ ap (cell_kind program shape store) (same_cell_is a b e) ∙ hb in
        let y : ka ≡ kb = cc in
        let z : is_array ka ≡ true = ap is_array y ∙ ab in
        absurd (cc)

pub own_rooted : (names : ℕ → Bool) (extra : ℕ → ℕ) (st : State) (self : ℕ) (cell : Cell) → IsClosed names extra st
    → 0 < extra self → IsOwn self cell → is_rooted names cell ≡ true
own_rooted names extra st self (Slot i) c h o = refl
own_rooted names extra st self (Part n i) c h o = c.extras n (let e = ap extra o in omega arith)

-- an lvalue that was visible is rooted in a state in which the references to arrays are as before
pub visible_rooted : (program : Source) (shape : Locals) (names : ℕ → Bool) (extra : ℕ → ℕ) (st end : State) (k : Kind)
    (cell : Cell) → IsVisible program shape st k cell → 0 < extra st.self
    → ((holder : Cell) (array : Kind) → cell_kind program shape st.store holder ≡ Some array → is_array array ≡ true
    → is_array k ≡ false → read end holder ≡ read st holder)
    → IsClosed names extra end → is_rooted names cell ≡ true
visible_rooted p shape names extra st end k cell (own c o) h stays closed =
    own_rooted names extra end st.self c closed h o
visible_rooted p shape names extra st end k cell (element holder array n i o ha e r) h stays closed =
    let a = array_of_element array k e in
    let there = stays holder array ha a.0 a.1 ∙ r in
    ap (is_value_within names) (sym there) ∙ closed.cells holder (own_rooted names extra end st.self holder closed h o)

-- a set that is closed after a write was so before, if it has what the cell held
pub closed_before : (names : ℕ → Bool) (extra : ℕ → ℕ) (st : State) (cell : Cell) (v : Value)
    → (is_rooted names cell ≡ true → is_value_within names (read st cell) ≡ true)
    → IsClosed names extra (written st cell v)
    → IsClosed names extra st
closed_before names extra st cell v was closed = record
    { extras = closed.extras; cells = λ d r. by d r (same_cell cell d) refl }
  where
    by : (d : Cell) → is_rooted names d ≡ true → (s : Bool) → same_cell cell d ≡ s
        → is_value_within names (read st d) ≡ true
    by d r true e =
        let q = same_cell_is cell d e in
        ap (λ c. is_value_within names (read st c)) (sym q) ∙ was (ap (is_rooted names) q ∙ r)
    by d r false e = ap (is_value_within names) (sym (read_other st cell d v e)) ∙ closed.cells d r
