-- When an expression has the same value in two states, and a place the same cell.
use Rattle.std.proofs.Common.{◌≡◌, ℕ, refl, ap, ◌∙◌, true, false, Bool, ◌||◌, List, [], ◌∷◌, ◌++◌, length, Some}
use Rattle.std.proofs.Common.{unwrap_or, Ok, Err, Result, nat_lt, slice_get, if◌then◌else◌}
use Rattle.std.specs.Str.{bytes_eq}
use Rattle.meaning_reached.specs.rpp_tree.Tree.{Expression, Number, Null, Variable, Element, Binary, Lvalue, Whole, Item, Source}
use Rattle.meaning_reached.specs.class_rules.declared.kind.Kind.{Kind}
use Rattle.meaning_reached.specs.class_rules.Scope.{Typing, Locals, kind_in}
use Rattle.meaning_reached.specs.class_rules.Refusal.{unknown_name, not_an_array}
use Rattle.meaning_reached.specs.class_rules.Expressions.{element_kind, element_kind_of as element_type, variable_type, type_of, occurs}
use Rattle.meaning_reached.specs.rpp_tree.declared.tree.Ident.{Ident}
use Rattle.meaning_reached.specs.roopl_semantics.Store.{Value, Word, Nil, Name, State, number_of, same_value, object_at}
use Rattle.meaning_reached.specs.roopl_semantics.Elements.{elements, index_elements, own_element, same_array, is_among, share_array}
use Rattle.meaning_reached.specs.roopl_semantics.Value.{Part, cell_named, variable_value, element_cell, element_of, read_cell, combined}
use Rattle.meaning_reached.specs.roopl_semantics.Value.{value as value_in, cell_of, INDEX}
use Rattle.meaning_reached.proofs.class_rules_laws.PassedRules.{handed_on, some_of}
use Rattle.meaning_inverse.proofs.Scopes.{either_false}

-- what holds for the names of all elements
abbrev pub AllRead : (List ℕ → Type 0) → List Ident → Type 0
AllRead R [] = Unit {0}
AllRead R (name ∷ names) = R name.text × AllRead R names

pub first_read : (R : List ℕ → Type 0) (xs ys : List Ident) → AllRead R (xs ++ ys) → AllRead R xs
first_read R [] ys h = tt
first_read R (x ∷ xs) ys h = (h.0, first_read R xs ys h.1)

pub second_read : (R : List ℕ → Type 0) (xs ys : List Ident) → AllRead R (xs ++ ys) → AllRead R ys
second_read R [] ys h = h
second_read R (x ∷ xs) ys h = second_read R xs ys h.1

pub both_read : (R : List ℕ → Type 0) (xs ys : List Ident) → AllRead R xs → AllRead R ys → AllRead R (xs ++ ys)
both_read R [] ys h k = k
both_read R (x ∷ xs) ys h k = (h.0, both_read R xs ys h.1 k)

pub read_as : (P Q R : List ℕ → Type 0) (xs : List Ident) → ((name : List ℕ) → P name → Q name → R name) → AllRead P xs
    → AllRead Q xs → AllRead R xs
read_as P Q R [] f h k = tt
read_as P Q R (x ∷ xs) f h k = (f x.text h.0 k.0, read_as P Q R xs f h.1 k.1)

-- a name is of another array than a place, if that is an element
abbrev pub Avoids : Source → State → Lvalue → List ℕ → Type 0
Avoids program st (Whole name) other = Unit {0}
Avoids program st (Item name index) other = same_value (variable_value program st name.text)
    (variable_value program st other) ≡ false

pub all_unit : (reads : List Ident) → AllRead (λ other. Unit {0}) reads
all_unit [] = tt
all_unit (read ∷ reads) = (tt, all_unit reads)

none_among : (program : Source) (st : State) (name : Ident) (reads : List Ident)
    → is_among program st name reads ≡ false → AllRead (λ other. same_value (variable_value program st name.text)
    (variable_value program st other) ≡ false) reads
none_among program st name [] h = tt
none_among program st name (read ∷ reads) h =
    let both = either_false (same_array program st name read) (is_among program st name reads) h in
    (both.0, none_among program st name reads both.1)

pub avoids_of : (program : Source) (st : State) (t : Lvalue) (reads : List Ident)
    → share_array program st (own_element t) reads ≡ false → AllRead (Avoids program st t) reads
avoids_of program st (Whole name) reads h = all_unit reads
avoids_of program st (Item name index) reads h = none_among program st name reads
    (either_false (is_among program st name reads) false h).0

pub share_parts : (program : Source) (st : State) (left right : Lvalue) (reads : List Ident)
    → share_array program st (own_element left ++ own_element right) reads ≡ false
    → (share_array program st (own_element left) reads ≡ false)
    × (share_array program st (own_element right) reads ≡ false)
share_parts program st (Whole name) right reads h = (refl, h)
share_parts program st (Item name index) right reads h =
    let both = either_false (is_among program st name reads) (share_array program st (own_element right) reads) h in
    (ap (λ t. t || false) both.0, both.1)

-- ---- the check, if names mean the same

abbrev pub SameVariable : Source → State → State → List ℕ → Type 0
SameVariable program st end name = variable_value program end name ≡ variable_value program st name

among_same : (program : Source) (st end : State) (name : Ident) (reads : List Ident)
    → SameVariable program st end name.text → AllRead (SameVariable program st end) reads
    → is_among program end name reads ≡ is_among program st name reads
among_same program st end name [] h k = refl
among_same program st end name (read ∷ reads) h k =
    ap (λ v. same_value v (variable_value program end read.text) || is_among program end name reads) h
    ∙ ap (λ v. same_value (variable_value program st name.text) v || is_among program end name reads) k.0
    ∙ ap (λ t. same_array program st name read || t) (among_same program st end name reads h k.1)

pub share_same : (program : Source) (st end : State) (changed reads : List Ident)
    → AllRead (SameVariable program st end) changed → AllRead (SameVariable program st end) reads
    → share_array program end changed reads ≡ share_array program st changed reads
share_same program st end [] reads h k = refl
share_same program st end (name ∷ changed) reads h k =
    ap (λ t. t || share_array program end changed reads) (among_same program st end name reads h.0 k)
    ∙ ap (λ t. is_among program st name reads || t) (share_same program st end changed reads h.1 k)

-- an array's cells, or their number, are the same
abbrev pub SameArray : State → State → Value → Type 0
SameArray st end (Word w) = Unit {0}
SameArray st end Nil = Unit {0}
SameArray st end (Name b) = (object_at end.store b).cells ≡ (object_at st.store b).cells

abbrev pub SameLength : State → State → Value → Type 0
SameLength st end (Word w) = Unit {0}
SameLength st end Nil = Unit {0}
SameLength st end (Name b) = length (object_at end.store b).cells ≡ length (object_at st.store b).cells

abbrev pub SameReads : Source → State → State → Expression → Type 0
SameReads program st end (Number at word) = Unit {0}
SameReads program st end (Null at) = Unit {0}
SameReads program st end (Variable name) = variable_value program end name.text ≡ variable_value program st name.text
SameReads program st end (Element name index) = SameReads program st end index
    × (variable_value program end name.text ≡ variable_value program st name.text)
    × SameArray st end (variable_value program st name.text)
SameReads program st end (Binary at op left right) = SameReads program st end left × SameReads program st end right

element_same : (st end : State) (v : Value) (i : ℕ) → SameArray st end v
    → read_cell end (element_cell end v i) ≡ read_cell st (element_cell st v i)
element_same st end (Word w) i h = refl
element_same st end Nil i h = refl
element_same st end (Name b) i h =
    ap (λ cells. read_cell end (if nat_lt i (length cells) then Ok (Part b i) else Err INDEX)) h
    ∙ by (nat_lt i (length (object_at st.store b).cells))
  where
    by : (t : Bool) → read_cell end (if t then Ok (Part b i) else Err INDEX)
        ≡ read_cell st (if t then Ok (Part b i) else Err INDEX)
    by true = ap (λ cells. Ok (unwrap_or (slice_get cells i) Nil)) h
    by false = refl

element_of_same : (program : Source) (st end : State) (name : List ℕ) (r : Result Value ℕ)
    → variable_value program end name ≡ variable_value program st name
    → SameArray st end (variable_value program st name) → read_cell end (element_of program end name r)
    ≡ read_cell st (element_of program st name r)
element_of_same program st end name (Err f) e h = refl
element_of_same program st end name (Ok v) e h = ap (λ a. read_cell end (element_cell end a (number_of v))) e
    ∙ element_same st end (variable_value program st name) (number_of v) h

pub value_same : (program : Source) (st end : State) (e : Expression) → SameReads program st end e
    → value_in program end e ≡ value_in program st e
value_same program st end (Number at word) h = refl
value_same program st end (Null at) h = refl
value_same program st end (Variable name) h = ap (λ v. Ok v) h
value_same program st end (Element name index) h =
    ap (λ r. read_cell end (element_of program end name.text r)) (value_same program st end index h.0)
    ∙ element_of_same program st end name.text (value_in program st index) h.1 h.2
value_same program st end (Binary at op left right) h =
    ap (λ r. combined op r (value_in program end right)) (value_same program st end left h.0)
    ∙ ap (combined op (value_in program st left)) (value_same program st end right h.1)

abbrev pub SamePlace : Source → State → State → Lvalue → Type 0
SamePlace program st end (Whole name) = cell_named program end name.text ≡ cell_named program st name.text
SamePlace program st end (Item name index) = SameReads program st end index
    × (variable_value program end name.text ≡ variable_value program st name.text)
    × SameLength st end (variable_value program st name.text)

-- the variables of elements, from what is the same
pub values_read : (program : Source) (st end : State) (e : Expression) → SameReads program st end e
    → AllRead (SameVariable program st end) (elements e)
values_read program st end (Number at word) h = tt
values_read program st end (Null at) h = tt
values_read program st end (Variable name) h = tt
values_read program st end (Element name index) h = (h.1, values_read program st end index h.0)
values_read program st end (Binary at op left right) h =
    both_read (SameVariable program st end) (elements left) (elements right) (values_read program st end left h.0)
    (values_read program st end right h.1)

pub index_read : (program : Source) (st end : State) (t : Lvalue) → SamePlace program st end t
    → AllRead (SameVariable program st end) (index_elements t)
index_read program st end (Whole name) h = tt
index_read program st end (Item name index) h = values_read program st end index h.0

pub own_read : (program : Source) (st end : State) (t : Lvalue) → SamePlace program st end t
    → AllRead (SameVariable program st end) (own_element t)
own_read program st end (Whole name) h = tt
own_read program st end (Item name index) h = (h.1, tt)

cell_same : (st end : State) (v : Value) (i : ℕ) → SameLength st end v → element_cell end v i ≡ element_cell st v i
cell_same st end (Word w) i h = refl
cell_same st end Nil i h = refl
cell_same st end (Name b) i h = ap (λ n. if nat_lt i n then Ok (Part b i) else Err INDEX) h

pub place_same : (program : Source) (st end : State) (t : Lvalue) → SamePlace program st end t
    → cell_of program end t ≡ cell_of program st t
place_same program st end (Whole name) h = ap (λ c. Ok c) h
place_same program st end (Item name index) h = ap (element_of program end name.text)
    (value_same program st end index h.0) ∙ by (value_in program st index)
  where
    by : (r : Result Value ℕ) → element_of program end name.text r ≡ element_of program st name.text r
    by (Err f) = refl
    by (Ok v) = ap (λ a. element_cell end a (number_of v)) h.1
        ∙ cell_same st end (variable_value program st name.text) (number_of v) h.2

-- what the typed variables but two read stays the same, and the cells of some arrays
pub record VariablesStay (typing : Typing) (locals : Locals) (first second : List ℕ) (R : List ℕ → Type 0)
    (st end : State) : Type 0 where
  pub value : (other : List ℕ) (k : Kind) → kind_in typing locals other ≡ Some k → bytes_eq other first ≡ false
      → bytes_eq other second ≡ false → variable_value typing.program end other ≡ variable_value typing.program st other
  pub array : (other : List ℕ) (k element : Kind) → kind_in typing locals other ≡ Some k → element_kind k ≡ Some element
      → R other → bytes_eq other first ≡ false → bytes_eq other second ≡ false
      → SameArray st end (variable_value typing.program st other)

pub reads_stay : (typing : Typing) (locals : Locals) (first second : List ℕ) (R : List ℕ → Type 0) (st end : State)
    → VariablesStay typing locals first second R st end → (e : Expression) (k : Kind) → type_of typing locals e ≡ Ok k
    → AllRead R (elements e) → occurs first e ≡ false → occurs second e ≡ false → SameReads typing.program st end e
reads_stay typing locals first second R st end stay (Number at word) k h r p q = tt
reads_stay typing locals first second R st end stay (Null at) k h r p q = tt
reads_stay typing locals first second R st end stay (Variable name) k h r p q =
    stay.value name.text k (some_of (kind_in typing locals name.text) (unknown_name name.at) k h) p q
reads_stay typing locals first second R st end stay (Element name index) k h r p q =
    let array = handed_on (variable_type typing locals name) _ k h in
    let element = handed_on (element_type name array.value) _ k array.goes in
    let index_type = handed_on (type_of typing locals index) _ k element.goes in
    let known = some_of (kind_in typing locals name.text) (unknown_name name.at) array.value array.is in
    let is_array = some_of (element_kind array.value) (not_an_array name.at) element.value element.is in
    let a = either_false (bytes_eq name.text first) (occurs first index) p in
    let b = either_false (bytes_eq name.text second) (occurs second index) q in (
      reads_stay typing locals first second R st end stay index index_type.value index_type.is r.1 a.1 b.1,
      stay.value name.text array.value known a.0 b.0,
      stay.array name.text array.value element.value known is_array
          r.0 a.0 b.0,
    )
reads_stay typing locals first second R st end stay (Binary at op left right) k h r p q =
    let l = handed_on (type_of typing locals left) _ k h in
    let m = handed_on (type_of typing locals right) _ k l.goes in
    let a = either_false (occurs first left) (occurs first right) p in
    let b = either_false (occurs second left) (occurs second right) q in (
      reads_stay typing locals first second R st end stay left l.value l.is
          (first_read R (elements left) (elements right) r) a.0 b.0,
      reads_stay typing locals first second R st end stay right m.value m.is
          (second_read R (elements left) (elements right) r) a.1 b.1,
    )
