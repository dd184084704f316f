-- The facts of updates, swaps and copies, from the rules of types.
use Rattle.std.proofs.Common.{◌≡◌, ℕ, suc, refl, sym, ap, subst, ◌∙◌, true, false, Bool, not, ◌&&◌, ◌++◌, List, length}
use Rattle.std.proofs.Common.{Option, Some, None, option_map, unwrap_or, Ok, nat_eq, if◌then◌else◌}
use Rattle.std.specs.Str.{bytes_eq}
use Rattle.meaning_reached.specs.rpp_tree.declared.tree.Ident.{Ident}
use Rattle.meaning_reached.specs.rpp_tree.declared.tree.VarType.{VarType}
use Rattle.meaning_reached.specs.rpp_tree.declared.tree.UpdateOp.{UpdateOp}
use Rattle.meaning_reached.specs.rpp_tree.Tree.{Expression, Lvalue, Whole, Item, Statement, Update, Swap, Copy, Uncopy, End, Then}
use Rattle.meaning_reached.specs.rpp_tree.Tree.{Source}
use Rattle.meaning_reached.specs.class_rules.declared.kind.Kind.{Kind}
use Rattle.meaning_reached.specs.class_rules.declared.kind.Kind.TheVariants as kind
use Rattle.meaning_reached.specs.class_rules.Table.{table_of}
use Rattle.meaning_reached.specs.class_rules.Refusal.{type_differs, self_update, unknown_name, same_argument}
use Rattle.meaning_reached.specs.class_rules.Scope.{Typing, Locals, kind_in}
use Rattle.meaning_reached.specs.class_rules.Expressions.{is_int, element_kind, type_of, place_type, occurs, occurs_in_index}
use Rattle.meaning_reached.specs.rpp_tree.Places.{place_name}
use Rattle.meaning_reached.specs.class_rules.Statements.{verdict_passed, required, same_kind, same_plain, occurs_in_own_index, in_either_index}
use Rattle.meaning_reached.specs.class_rules.Statements.{copy_rules, written_kind, type_known, takes_copy, check_statement}
use Rattle.meaning_reached.specs.class_rules.Program.{setting_in}
use Rattle.meaning_reached.specs.roopl_semantics.Store.{Value, Word, Nil, Name, Object, State, number_of, is_nil, object_named}
use Rattle.meaning_reached.specs.roopl_semantics.Store.{no_object}
use Rattle.meaning_reached.specs.roopl_semantics.Value.{Cell, cell_named, variable_value, read, written, value as value_in, cell_of}
use Rattle.meaning_reached.specs.roopl_semantics.Elements.{elements, index_elements, own_element, share_array}
use Rattle.meaning_reached.specs.roopl_semantics.Execution.{Setting, same_cell, count_changed, one_less}
use Rattle.meaning_reached.specs.meaning_sound.Sound.{cell_kind, Typed}
use Rattle.meaning_reached.proofs.meaning_sound_laws.Cells.{read_fits, changed_told}
use Rattle.meaning_reached.proofs.meaning_sound_laws.Classes.{KnowsClasses}
use Rattle.meaning_reached.proofs.class_rules_laws.FirstPlaces.{same_name}
use Rattle.meaning_reached.proofs.class_rules_laws.PassedRules.{both_passed, held as was_held, handed_on, some_of, both_true, neither_true}
use Rattle.meaning_reached.proofs.class_rules_laws.PassedRules.{int_kind, kinds_same}
use Rattle.meaning_reached.proofs.meaning_sound_laws.Values.{int_value, value_found, cell_found, value_fits, place_fits}
use Rattle.meaning_reached.proofs.meaning_sound_laws.Removal.{reference}
use Rattle.meaning_reached.proofs.meaning_sound_laws.AfterWrites.{read_other}
use Rattle.meaning_reached.proofs.meaning_sound_laws.Makes.{CopyParts, copy_parts}
use Rattle.meaning_reached.specs.roopl_semantics.Execution.{exec}
use Rattle.meaning_inverse.proofs.Cells.{named_changed}
use Rattle.meaning_inverse.proofs.Ground.{UpdateFacts, SwapFacts, CopyFacts, copied, uncopied}
use Rattle.meaning_inverse.proofs.Scopes.{either_false}
use Rattle.meaning_inverse.proofs.Calls.{cells_later}
use Rattle.meaning_inverse.proofs.Copies.{read_counted}
use Rattle.meaning_inverse.proofs.Steady.{SameArray, SameLength, SamePlace, SameReads, AllRead, Avoids, SameVariable}
use Rattle.meaning_inverse.proofs.Steady.{first_read, second_read, both_read, read_as, avoids_of, share_parts}
use Rattle.meaning_inverse.proofs.Steady.{share_same}
use Rattle.meaning_inverse.proofs.Steady.{values_read, index_read, own_read, VariablesStay, value_same, place_same}
use Rattle.meaning_inverse.proofs.Steady.{reads_stay}
use Rattle.meaning_inverse.proofs.Known.{Context, Good, Checked, typed_in, is_cell}
use Rattle.meaning_inverse.proofs.Apart.{written_stays, apart_stays, stays_then, named_written, length_written}
use Rattle.meaning_inverse.proofs.Apart.{element_is}
use Rattle.meaning_inverse.proofs.Apart.{item_typed, array_of, element_apart, names_apart, place_apart, class_at_head}
use Rattle.meaning_inverse.proofs.Apart.{head_class}
use Rattle.meaning_reached.proofs.roopl_semantics_laws.Changed.{with_count}

-- no type is that of its own elements
pub no_own_element : (k : Kind) → element_kind k ≡ Some k → ⊥
no_own_element kind.Int e = cc
no_own_element kind.Nil e = cc
no_own_element (kind.Class c) e = cc
no_own_element kind.IntArray e = cc
no_own_element (kind.ClassArray c) e = cc

pub first_rule : (setting : Setting) (C : Context setting) (s : Statement) → Checked setting C (Then s End)
    → check_statement (setting_in setting.program (table_of setting.program) C.class) C.locals s ≡ verdict_passed
first_rule setting C s h = (both_passed (check_statement (setting_in setting.program (table_of setting.program) C.class)
    C.locals s) verdict_passed h.passes).0

-- the variable of an element, and the length of its array
abbrev pub VariableSame : Source → State → State → Lvalue → Type 0
VariableSame program st end (Whole name) = Unit {0}
VariableSame program st end (Item name index) = (variable_value program end name.text
    ≡ variable_value program st name.text) × SameLength st end (variable_value program st name.text)

-- ---- a change of a count changes no reading

pub named_counted : (setting : Setting) (change : ℕ → ℕ) (st : State) (n : ℕ) (name : List ℕ)
    → cell_named setting.program (count_changed change st n) name ≡ cell_named setting.program st name
named_counted setting change st n name =
    cells_later setting st (count_changed change st n) refl refl
    (class_at_head (count_changed change st n).store st.self ∙ ap head_class
    (changed_told st.store n (with_count change) (λ o. o.head) (λ o. refl) st.self)
    ∙ sym (class_at_head st.store st.self)) name

array_counted : (change : ℕ → ℕ) (st : State) (n : ℕ) (v : Value) → SameArray st (count_changed change st n) v
array_counted change st n (Word w) = tt
array_counted change st n Nil = tt
array_counted change st n (Name b) = ap (λ o. (unwrap_or o no_object).cells)
    (named_changed st.store n (with_count change) b) ∙ by (nat_eq n b) (object_named st.store b)
  where
    by : (t : Bool) (o : Option Object) → (unwrap_or (if t then option_map (with_count change) o else o)
        no_object).cells ≡ (unwrap_or o no_object).cells
    by true None = refl
    by true (Some o) = refl
    by false o = refl

pub length_of_array : (st end : State) (v : Value) → SameArray st end v → SameLength st end v
length_of_array st end (Word w) h = tt
length_of_array st end Nil h = tt
length_of_array st end (Name b) h = ap length h

pub length_then : (a b c : State) (v : Value) → SameLength a b v → SameLength b c v → SameLength a c v
length_then a b c (Word w) h k = tt
length_then a b c Nil h k = tt
length_then a b c (Name n) h k = k ∙ h

pub counted_stays : (setting : Setting) (locals : Locals) (class : ℕ) (first second : List ℕ) (R : List ℕ → Type 0)
    (change : ℕ → ℕ) (st : State) (n : ℕ) → VariablesStay (setting_in setting.program (table_of setting.program) class)
    locals first second R st (count_changed change st n)
counted_stays setting locals class first second R change st n =
    record {
      value = λ other k known p q. ap (read (count_changed change st n)) (named_counted setting change st n other)
          ∙ read_counted change st n (cell_named setting.program st other);
      array = λ other k element known is r p q. array_counted change st n (variable_value setting.program st other);
    }

module _ (setting : Setting) (classes : KnowsClasses setting.program) (C : Context setting) where
  abbrev program : Source
  program = setting.program

  abbrev typing : Typing
  typing = setting_in program (table_of program) C.class

  -- a place after a change that leaves what its index reads
  pub place_stays : (st end : State) (t : Lvalue) (k : Kind) (first second : List ℕ) (R : List ℕ → Type 0)
      → place_type typing C.locals t ≡ Ok k → VariablesStay typing C.locals first second R st end
      → AllRead R (index_elements t) → occurs_in_index first t ≡ false → occurs_in_index second t ≡ false
      → ((name : List ℕ) → cell_named program end name ≡ cell_named program st name) → VariableSame program st end t
      → SamePlace program st end t
  place_stays st end (Whole name) k first second R typed stay r p q named same = named name.text
  place_stays st end (Item name index) k first second R typed stay r p q named same =
      let item = item_typed setting classes C name index k typed in (
        reads_stay typing C.locals first second R st end stay index item.index_kind item.index_typed r p q,
        same.0,
        same.1,
      )

  -- a place's cell is not that of an element's variable
  pub variable_apart : (st : State) (p : Lvalue) (kp : Kind) (c : Cell) (name : Ident) (array element : Kind)
      → Typed setting C.extra C.shape C.class st → place_type typing C.locals p ≡ Ok kp → cell_of program st p ≡ Ok c
      → kind_in typing C.locals name.text ≡ Some array → element_kind array ≡ Some element
      → (element_kind kp ≡ Some element → ⊥) → same_cell c (cell_named program st name.text) ≡ false
  variable_apart st (Item y index) kp c name array element g typed is known e never =
      let t = g in
      let item = item_typed setting classes C y index kp typed in
      let at = element_is program st y index c is in
      let a = array_of setting classes C st y.text item.array kp at.array t item.known item.element at.holds in
      let P : Cell → Type 0 = λ x. same_cell x (cell_named program st name.text) ≡ false in
      subst P (sym at.is) (element_apart setting classes C st at.array at.index name.text array t a known)
  variable_apart st (Whole y) kp c name array element g typed is known e never =
      let P : Cell → Type 0 = λ x. same_cell x (cell_named program st name.text) ≡ false in
      let same : cell_named program st y.text ≡ c = cc in
      subst P same (by (bytes_eq y.text name.text) refl)
    where
      known_y : kind_in typing C.locals y.text ≡ Some kp
      known_y = some_of (kind_in typing C.locals y.text) (unknown_name y.at) kp typed

      by : (b : Bool) → bytes_eq y.text name.text ≡ b → same_cell (cell_named program st y.text)
          (cell_named program st name.text) ≡ false
      by false q = names_apart setting classes C st y.text name.text kp array g known_y known q
      by true q =
          let z : Some kp ≡ Some array = sym known_y ∙ ap (kind_in typing C.locals) (same_name y.text name.text q)
          ∙ known in
          let w : kp ≡ array = cc in
          absurd (never (ap element_kind w ∙ e))

  -- the variable of an element after a write to a place's cell
  pub variable_written : (st : State) (p : Lvalue) (kp : Kind) (c : Cell) (v : Value) (t : Lvalue) (k : Kind)
      → Typed setting C.extra C.shape C.class st → place_type typing C.locals p ≡ Ok kp → cell_of program st p ≡ Ok c
      → place_type typing C.locals t ≡ Ok k → (element_kind kp ≡ Some k → ⊥)
      → VariableSame program st (written st c v) t
  variable_written st p kp c v (Whole name) k g typed is typed_t never = tt
  variable_written st p kp c v (Item name index) k g typed is typed_t never =
      let item = item_typed setting classes C name index k typed_t in (
        ap (read (written st c v)) (named_written setting st c v name.text)
            ∙ read_other st c (cell_named program st name.text) v
            (variable_apart st p kp c name item.array k g typed is item.known item.element never),
        length_written st c v (variable_value program st name.text),
      )

  pub variable_then : (a b c : State) (t : Lvalue) → VariableSame program a b t → VariableSame program b c t
      → VariableSame program a c t
  variable_then a b c (Whole name) h k = tt
  variable_then a b c (Item name index) h k =
      let P : Value → Type 0 = λ v. SameLength b c v in
      (k.0 ∙ h.0, length_then a b c (variable_value program a name.text) h.1 (subst P h.0 k.1))

  -- a place is found again after a write to its own cell
  pub own_place : (st : State) (t : Lvalue) (k : Kind) (c : Cell) (v : Value) → Typed setting C.extra C.shape C.class st
      → place_type typing C.locals t ≡ Ok k → cell_of program st t ≡ Ok c → occurs_in_own_index t ≡ false
      → AllRead (Avoids program st t) (index_elements t) → SamePlace program st (written st c v) t
  own_place st t k c v g typed is apart reads =
      let n = (place_name t).text in
      let cells = place_apart setting classes C st t k c n n (Avoids program st t) g typed is (λ other p q. p)
      (λ other r. r) in
      let stay = written_stays setting typing refl C.locals n n (Avoids program st t) st c v cells in
      place_stays st (written st c v) t k n n (Avoids program st t) typed stay reads apart apart
      (named_written setting st c v) (variable_written st t k c v t k g typed is typed (no_own_element k))

  -- an expression without the place's variable and array after a write to the place's cell
  pub other_value : (st : State) (t : Lvalue) (k : Kind) (c : Cell) (x : Value) (e : Expression) (ke : Kind)
      → Typed setting C.extra C.shape C.class st → place_type typing C.locals t ≡ Ok k → cell_of program st t ≡ Ok c
      → type_of typing C.locals e ≡ Ok ke → occurs (place_name t).text e ≡ false
      → AllRead (Avoids program st t) (elements e) → SameReads program st (written st c x) e
  other_value st t k c x e ke g typed is typed_e none reads =
      let n = (place_name t).text in
      let cells = place_apart setting classes C st t k c n n (Avoids program st t) g typed is (λ other p q. p)
      (λ other r. r) in
      let stay = written_stays setting typing refl C.locals n n (Avoids program st t) st c x cells in
      reads_stay typing C.locals n n (Avoids program st t) st (written st c x) stay e ke typed_e reads none none

  pub cell_typed : (st : State) (t : Lvalue) (k : Kind) (c : Cell) → Typed setting C.extra C.shape C.class st
      → place_type typing C.locals t ≡ Ok k → cell_of program st t ≡ Ok c
      → cell_kind program C.shape st.store c ≡ Some k
  cell_typed st t k c g typed is = cell_found program C.shape st.store k (cell_of program st t) c
      (place_fits setting classes C.extra C.locals C.shape C.class C.inside C.means st t k g typed) is

  -- what the rules of types say of an update
  pub record UpdateTyped (target : Lvalue) (value : Expression) : Type 0 where
    pub target_is : place_type typing C.locals target ≡ Ok kind.Int
    pub value_is : type_of typing C.locals value ≡ Ok kind.Int
    pub own_apart : occurs_in_own_index target ≡ false
    pub value_apart : occurs (place_name target).text value ≡ false

  pub update_typed : (at : ℕ) (op : UpdateOp) (target : Lvalue) (value : Expression)
      → check_statement typing C.locals (Update at op target value) ≡ verdict_passed → UpdateTyped target value
  update_typed at op target value h =
      let p = handed_on (place_type typing C.locals target) _ tt h in
      let w = handed_on (type_of typing C.locals value) _ tt p.goes in
      let rules = both_passed (required (is_int p.value && is_int w.value) (type_differs at)) _ w.goes in
      let ints = both_true (is_int p.value) (is_int w.value) (was_held _ (type_differs at) rules.0) in
      let apart = neither_true (occurs_in_own_index target) (occurs (place_name target).text value)
      (was_held _ (self_update at) rules.1) in
      record {
        target_is = p.is ∙ ap (λ k. Ok k) (int_kind p.value ints.0);
        value_is = w.is ∙ ap (λ k. Ok k) (int_kind w.value ints.1);
        own_apart = apart.0;
        value_apart = apart.1;
      }

  -- a place, and the value that it is updated by, after a write to the place's cell
  pub record PlaceWritten (target : Lvalue) (value : Expression) (st : State) (cell : Cell) (x : Value) : Type 0 where
    pub target_same : SamePlace program st (written st cell x) target
    pub amount_same : SameReads program st (written st cell x) value
    pub apart : share_array program (written st cell x) (own_element target) (index_elements target ++ elements value)
        ≡ false

  pub place_written : (target : Lvalue) (value : Expression) (st : State) (cell : Cell) (x : Value)
      → Typed setting C.extra C.shape C.class st → UpdateTyped target value → cell_of program st target ≡ Ok cell
      → share_array program st (own_element target) (index_elements target ++ elements value) ≡ false
      → PlaceWritten target value st cell x
  place_written target value st cell x t u is_cell_of unshared =
      let end = written st cell x in
      let reads = avoids_of program st target (index_elements target ++ elements value) unshared in
      let place = own_place st target kind.Int cell x t u.target_is is_cell_of u.own_apart
      (first_read (Avoids program st target) (index_elements target) (elements value) reads) in
      let others = other_value st target kind.Int cell x value kind.Int t u.target_is is_cell_of u.value_is
      u.value_apart (second_read (Avoids program st target) (index_elements target) (elements value) reads) in
      record {
        target_same = place;
        amount_same = others;
        apart = share_same program st end (own_element target) (index_elements target ++ elements value)
            (own_read program st end target place)
            (both_read (SameVariable program st end) (index_elements target) (elements value)
            (index_read program st end target place) (values_read program st end value others)) ∙ unshared;
      }

  pub update_facts : (at : ℕ) (op : UpdateOp) (target : Lvalue) (value : Expression) (st : State) (cell : Cell)
      (v : Value) → Checked setting C (Then (Update at op target value) End) → Good setting C st
      → cell_of program st target ≡ Ok cell → value_in program st value ≡ Ok v
      → share_array program st (own_element target) (index_elements target ++ elements value) ≡ false
      → UpdateFacts program st target value cell v
  update_facts at op target value st cell v checked g is_cell_of is_value unshared =
      let t = typed_in setting classes C st g in
      let u = update_typed at op target value (first_rule setting C (Update at op target value) checked) in
      let has = cell_typed st target kind.Int cell t u.target_is is_cell_of in
      let after : (x : ℕ) → PlaceWritten target value st cell (Word x) =
      λ x. place_written target value st cell (Word x) t u is_cell_of unshared in
      let old = int_value program st.store (read st cell) (read_fits setting C.extra C.shape C.class st cell kind.Int t
      has) in
      let new = int_value program st.store v (value_found program st.store kind.Int (value_in program st value) v
      (value_fits setting classes C.extra C.locals C.shape C.class C.inside C.means st value kind.Int t
      checked.plain.0.1 u.value_is) is_value) in
      record {
        there = is_cell setting classes C st cell kind.Int t has;
        old = old.word;
        is_word = old.small;
        reads = old.is;
        by = new.word;
        by_word = new.small;
        adds = new.is;
        place_stays = λ x. place_same program st (written st cell (Word x)) target (after x).target_same ∙ is_cell_of;
        value_stays = λ x. value_same program st (written st cell (Word x)) value (after x).amount_same ∙ is_value;
        apart_stays = λ x. (after x).apart;
      }

  -- two places of one type, where the values of their cells have changed places
  pub record PlacesSwapped (left right : Lvalue) (st : State) (a b : Cell) : Type 0 where
    pub left_same : SamePlace program st (written (written st a (read st b)) b (read st a)) left
    pub right_same : SamePlace program st (written (written st a (read st b)) b (read st a)) right
    pub apart : share_array program (written (written st a (read st b)) b (read st a))
        (own_element left ++ own_element right) (index_elements left ++ index_elements right) ≡ false

  pub places_swapped : (left right : Lvalue) (l : Kind) (st : State) (a b : Cell)
      → Typed setting C.extra C.shape C.class st → place_type typing C.locals left ≡ Ok l
      → place_type typing C.locals right ≡ Ok l
      → in_either_index (place_name left).text left right ≡ false
      → in_either_index (place_name right).text left right ≡ false → cell_of program st left ≡ Ok a
      → cell_of program st right ≡ Ok b
      → share_array program st (own_element left ++ own_element right) (index_elements left ++ index_elements right)
      ≡ false → PlacesSwapped left right st a b
  places_swapped left right l st a b t l_is r_is none_n none_m is_a is_b unshared =
      let n = (place_name left).text in
      let m = (place_name right).text in
      let apart_n = either_false (occurs_in_index n left) (occurs_in_index n right) none_n in
      let apart_m = either_false (occurs_in_index m left) (occurs_in_index m right) none_m in
      let va = read st a in
      let vb = read st b in
      let mid = written st a vb in
      let end = written mid b va in
      let R : List ℕ → Type 0 = λ other. Avoids program st left other × Avoids program st right other in
      let both = share_parts program st left right (index_elements left ++ index_elements right) unshared in
      let reads = read_as (Avoids program st left) (Avoids program st right) R
      (index_elements left ++ index_elements right) (λ other x y. (x, y))
      (avoids_of program st left (index_elements left ++ index_elements right) both.0)
      (avoids_of program st right (index_elements left ++ index_elements right) both.1) in
      let cells_a = place_apart setting classes C st left l a n m R t l_is is_a (λ other p q. p) (λ other z. z.0) in
      let cells_b = place_apart setting classes C st right l b n m R t r_is is_b (λ other p q. q) (λ other z. z.1) in
      let stay1 = written_stays setting typing refl C.locals n m R st a vb cells_a in
      let stay2 = written_stays setting typing refl C.locals n m R mid b va
      (apart_stays setting typing refl C.locals n m R st mid b stay1 (named_written setting st a vb) cells_b) in
      let stay = stays_then setting typing refl C.locals n m R st mid end stay1 stay2 in
      let named : (x : List ℕ) → cell_named program end x ≡ cell_named program st x =
      λ x. named_written setting mid b va x ∙ named_written setting st a vb x in
      let variables : (x : Lvalue) → place_type typing C.locals x ≡ Ok l → VariableSame program st end x = λ x typed.
      second x typed (variable_written st left l a vb x l t l_is is_a typed (no_own_element l))
      (λ name array known el. variable_apart st right l b name array l t r_is is_b known el (no_own_element l)) in
      let lefts = place_stays st end left l n m R l_is stay
      (first_read R (index_elements left) (index_elements right) reads) apart_n.0 apart_m.0 named
      (variables left l_is) in
      let rights = place_stays st end right l n m R r_is stay
      (second_read R (index_elements left) (index_elements right) reads) apart_n.1 apart_m.1 named
      (variables right r_is) in
      record {
        left_same = lefts;
        right_same = rights;
        apart = share_same program st end (own_element left ++ own_element right)
            (index_elements left ++ index_elements right)
            (both_read (SameVariable program st end) (own_element left) (own_element right)
            (own_read program st end left lefts) (own_read program st end right rights))
            (both_read (SameVariable program st end) (index_elements left) (index_elements right)
            (index_read program st end left lefts) (index_read program st end right rights)) ∙ unshared;
      }
    where
      second : (x : Lvalue) → place_type typing C.locals x ≡ Ok l → VariableSame program st (written st a (read st b)) x
          → ((name : Ident) (array : Kind) → kind_in typing C.locals name.text ≡ Some array
          → element_kind array ≡ Some l → same_cell b (cell_named program st name.text) ≡ false)
          → VariableSame program st (written (written st a (read st b)) b (read st a)) x
      second (Whole name) typed first far = tt
      second (Item name index) typed first far =
          let item = item_typed setting classes C name index l typed in
          let mid = written st a (read st b) in
          let same : variable_value program (written mid b (read st a)) name.text
          ≡ variable_value program mid name.text =
          ap (read (written mid b (read st a))) (named_written setting mid b (read st a) name.text)
          ∙ read_other mid b (cell_named program mid name.text) (read st a)
          (ap (same_cell b) (named_written setting st a (read st b) name.text)
          ∙ far name item.array item.known item.element) in (
            same ∙ first.0,
            length_then st mid (written mid b (read st a)) (variable_value program st name.text) first.1
                (length_written mid b (read st a) (variable_value program st name.text)),
          )

  -- what the rules of types say of a swap
  pub record SwapTyped (left right : Lvalue) : Type 0 where
    pub kind : Kind
    pub left_is : place_type typing C.locals left ≡ Ok kind
    pub right_is : place_type typing C.locals right ≡ Ok kind
    pub left_apart : in_either_index (place_name left).text left right ≡ false
    pub right_apart : in_either_index (place_name right).text left right ≡ false

  pub swap_typed : (at : ℕ) (left right : Lvalue) → check_statement typing C.locals (Swap at left right) ≡ verdict_passed
      → SwapTyped left right
  swap_typed at left right h =
      let l = handed_on (place_type typing C.locals left) _ tt h in
      let r = handed_on (place_type typing C.locals right) _ tt l.goes in
      let rules = both_passed (required (same_kind l.value r.value) (type_differs at)) _ r.goes in
      let same = kinds_same l.value r.value (was_held _ (type_differs at) rules.0) in
      let apart = neither_true (in_either_index (place_name left).text left right)
      (in_either_index (place_name right).text left right) (was_held _ (self_update at) rules.1) in
      record {
        kind = l.value;
        left_is = l.is;
        right_is = r.is
            ∙ ap (λ k. Ok k) (sym same);
        left_apart = apart.0;
        right_apart = apart.1;
      }

  pub swap_facts : (at : ℕ) (left right : Lvalue) (st : State) (a b : Cell)
      → Checked setting C (Then (Swap at left right) End) → Good setting C st
      → cell_of program st left ≡ Ok a → cell_of program st right ≡ Ok b
      → share_array program st (own_element left ++ own_element right) (index_elements left ++ index_elements right)
      ≡ false → SwapFacts program st left right a b
  swap_facts at left right st a b checked g is_a is_b unshared =
      let t = typed_in setting classes C st g in
      let s = swap_typed at left right (first_rule setting C (Swap at left right) checked) in
      let p = places_swapped left right s.kind st a b t s.left_is s.right_is s.left_apart s.right_apart is_a is_b
      unshared in
      let end = written (written st a (read st b)) b (read st a) in
      record {
        left_there = is_cell setting classes C st a s.kind t (cell_typed st left s.kind a t s.left_is is_a);
        right_there = is_cell setting classes C st b s.kind t (cell_typed st right s.kind b t s.right_is is_b);
        left_stays = place_same program st end left p.left_same ∙ is_a;
        right_stays = place_same program st end right p.right_same ∙ is_b;
        apart_stays = p.apart;
      }

  -- what the rules of types say of a copy
  pub record CopyTyped (source target : Lvalue) : Type 0 where
    pub parts : CopyParts setting classes (exec setting 0) C.extra C.locals C.shape C.class C.inside C.means source
        target
    pub source_apart : occurs_in_index (place_name target).text source ≡ false
    pub target_apart : occurs_in_index (place_name target).text target ≡ false

  pub copy_typed : (at : ℕ) (kind : VarType) (source target : Lvalue)
      → copy_rules typing C.locals at kind source target ≡ verdict_passed → CopyTyped source target
  copy_typed at kind source target h =
      let known = both_passed (type_known typing.table kind) _ h in
      let s = handed_on (place_type typing C.locals source) _ tt known.1 in
      let d = handed_on (place_type typing C.locals target) _ tt s.goes in
      let c = handed_on (written_kind typing.table at kind) _ tt d.goes in
      let r1 = both_passed (required (takes_copy typing.table c.value s.value d.value) (type_differs at)) _ c.goes in
      let r2 = both_passed (required (not (same_plain source target)) (same_argument at)) _ r1.1 in
      let m = (place_name target).text in
      let apart = either_false (occurs_in_index m source) (occurs_in_index m target)
      (not_held (in_either_index m source target) (was_held _ (self_update at) r2.1)) in
      record {
        parts = copy_parts setting classes (exec setting 0) C.extra C.locals C.shape C.class C.inside C.means at
            kind source target h;
        source_apart = apart.0;
        target_apart = apart.1;
      }
    where
      not_held : (t : Bool) → not t ≡ true → t ≡ false
      not_held true e = cc
      not_held false e = refl

  -- copies: the second place is written, and a count changes
  pub record PlacesCopied (source target : Lvalue) (st end : State) : Type 0 where
    pub source_same : SamePlace program st end source
    pub target_same : SamePlace program st end target
    pub apart : share_array program end (own_element target) (index_elements source ++ index_elements target) ≡ false

  pub places_copied : (source target : Lvalue) (st : State) (b : Cell) (x : Value) (n : ℕ) (change : ℕ → ℕ)
      → Typed setting C.extra C.shape C.class st → CopyTyped source target → cell_of program st target ≡ Ok b
      → share_array program st (own_element target) (index_elements source ++ index_elements target) ≡ false
      → PlacesCopied source target st (count_changed change (written st b x) n)
  places_copied source target st b x n change t rules is_b unshared =
      let parts = rules.parts in
      let m = (place_name target).text in
      let mid = written st b x in
      let end = count_changed change mid n in
      let R : List ℕ → Type 0 = Avoids program st target in
      let reads = avoids_of program st target (index_elements source ++ index_elements target) unshared in
      let cells = place_apart setting classes C st target parts.second b m m R t parts.target_is is_b (λ other p q. p)
      (λ other z. z) in
      let stay1 = written_stays setting typing refl C.locals m m R st b x cells in
      let stay = stays_then setting typing refl C.locals m m R st mid end stay1
      (counted_stays setting C.locals C.class m m R change mid n) in
      let named : (y : List ℕ) → cell_named program end y ≡ cell_named program st y =
      λ y. named_counted setting change mid n y ∙ named_written setting st b x y in
      let sources = place_stays st end source parts.first m m R parts.source_is stay
      (first_read R (index_elements source) (index_elements target) reads) rules.source_apart rules.source_apart
      named
      (variable_then st mid end source (variable_written st target parts.second b x source parts.first t parts.target_is
      is_b parts.source_is parts.no_element) (counted_variable mid source)) in
      let targets = place_stays st end target parts.second m m R parts.target_is stay
      (second_read R (index_elements source) (index_elements target) reads) rules.target_apart rules.target_apart
      named
      (variable_then st mid end target (variable_written st target parts.second b x target parts.second t
      parts.target_is is_b parts.target_is (no_own_element parts.second)) (counted_variable mid target)) in
      record {
        source_same = sources;
        target_same = targets;
        apart = share_same program st end (own_element target) (index_elements source ++ index_elements target)
            (own_read program st end target targets)
            (both_read (SameVariable program st end) (index_elements source) (index_elements target)
            (index_read program st end source sources) (index_read program st end target targets)) ∙ unshared;
      }
    where
      counted_variable : (mid : State) (y : Lvalue) → VariableSame program mid (count_changed change mid n) y
      counted_variable mid (Whole y) = tt
      counted_variable mid (Item y index) = (
        ap (read (count_changed change mid n)) (named_counted setting change mid n y.text)
            ∙ read_counted change mid n (cell_named program mid y.text),
        length_of_array mid (count_changed change mid n) (variable_value program mid y.text)
            (array_counted change mid n (variable_value program mid y.text)),
      )

  copied_facts : (at : ℕ) (written_type : VarType) (source target : Lvalue) (st : State) (a b : Cell) (x : Value)
      (change : ℕ → ℕ) → copy_rules typing C.locals at written_type source target ≡ verdict_passed → Good setting C st
      → cell_of program st source ≡ Ok a → cell_of program st target ≡ Ok b
      → share_array program st (own_element target) (index_elements source ++ index_elements target) ≡ false
      → is_nil (read st a) ≡ false → CopyFacts program st (count_changed change (written st b x) (number_of (read st a)))
      source target a b
  copied_facts at written_type source target st a b x change h g is_a is_b unshared some =
      let t = typed_in setting classes C st g in
      let rules = copy_typed at written_type source target h in
      let parts = rules.parts in
      let kb = cell_typed st target parts.second b t parts.target_is is_b in
      let name = reference program st.store (read st a) parts.first
      (read_fits setting C.extra C.shape C.class st a parts.first t
      (cell_typed st source parts.first a t parts.source_is is_a)) parts.first_refers some in
      let n = number_of (read st a) in
      let end = count_changed change (written st b x) n in
      let p = places_copied source target st b x n change t rules is_b unshared in
      record {
        there = is_cell setting classes C st b parts.second t kb;
        name = name.name;
        is_name = name.is;
        source_stays = place_same program st end source p.source_same ∙ is_a;
        target_stays = place_same program st end target p.target_same ∙ is_b;
        apart_stays = p.apart;
      }

  pub copy_facts : (at : ℕ) (written_type : VarType) (source target : Lvalue) (st : State) (a b : Cell)
      → Checked setting C (Then (Copy at written_type source target) End) → Good setting C st
      → cell_of program st source ≡ Ok a → cell_of program st target ≡ Ok b
      → share_array program st (own_element target) (index_elements source ++ index_elements target) ≡ false
      → is_nil (read st a) ≡ false → CopyFacts program st (copied st a b) source target a b
  copy_facts at written_type source target st a b checked g is_a is_b unshared some =
      copied_facts at written_type source target st a b (read st a) suc
      (first_rule setting C (Copy at written_type source target) checked) g is_a is_b unshared some

  pub uncopy_facts : (at : ℕ) (written_type : VarType) (source target : Lvalue) (st : State) (a b : Cell)
      → Checked setting C (Then (Uncopy at written_type source target) End) → Good setting C st
      → cell_of program st source ≡ Ok a → cell_of program st target ≡ Ok b
      → share_array program st (own_element target) (index_elements source ++ index_elements target) ≡ false
      → is_nil (read st a) ≡ false → CopyFacts program st (uncopied st a b) source target a b
  uncopy_facts at written_type source target st a b checked g is_a is_b unshared some =
      copied_facts at written_type source target st a b Nil one_less
      (first_rule setting C (Uncopy at written_type source target) checked) g is_a is_b unshared some
