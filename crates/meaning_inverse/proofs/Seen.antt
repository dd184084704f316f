-- States that differ only in object ids, as runs see them.
use Rattle.std.proofs.Common.{◌≡◌, ◌≢◌, ℕ, zero, suc, refl, sym, ap, ◌∙◌, true, false, Bool, not, ◌||◌, List, [], ◌∷◌}
use Rattle.std.proofs.Common.{length, map, Option, Some, None, option_map, unwrap_or, nat_eq, nat_lt, slice_get}
use Rattle.std.proofs.Common.{slice_set, if◌then◌else◌, eqb-true, eq-eqb, ne_eqb, Ok, Err, Result, position}
use Rattle.std.proofs.lemmas.Bool.{eqb-false}
use Rattle.std.specs.Str.{bytes_eq}
use Rattle.meaning_reached.specs.rpp_tree.declared.tree.Ident.{Ident}
use Rattle.meaning_reached.specs.rpp_tree.declared.tree.BinOp.{BinOp}
use Rattle.meaning_reached.specs.rpp_tree.declared.tree.BinOp.TheVariants as op
use Rattle.meaning_reached.specs.rpp_tree.Tree.{Expression, Number, Null, Variable, Element, Binary, Lvalue, Whole, Item, Source, nodes}
use Rattle.meaning_reached.specs.rpp_tree.Tree.{index_nodes}
use Rattle.meaning_reached.specs.class_rules.Classes.{class_fields}
use Rattle.meaning_reached.specs.class_rules.Expressions.{is_comparison}
use Rattle.meaning_reached.specs.buddy_book.Place.{place}
use Rattle.meaning_reached.specs.roopl_semantics.Operators.{truth_word, operated}
use Rattle.meaning_reached.specs.roopl_semantics.Run.{Done}
use Rattle.meaning_reached.specs.roopl_semantics.Store.{Value, Word, Nil, Name, Object, Binding, State, main_name, number_of}
use Rattle.meaning_reached.specs.roopl_semantics.Store.{is_zero, same_value, cleared, object_named, no_object, object_at, changed_at}
use Rattle.meaning_reached.specs.roopl_semantics.Store.{class_of_head}
use Rattle.meaning_reached.specs.class_rules.Members.{field_of}
use Rattle.meaning_reached.specs.roopl_semantics.Value.{Cell, Slot, Part, slot_of, own_class, slot_or_field, cell_named, value_at}
use Rattle.meaning_reached.specs.roopl_semantics.Value.{with_value, read, written, variable_value, element_cell, element_of, read_cell}
use Rattle.meaning_reached.specs.roopl_semantics.Value.{combined, value as value_in, cell_of, INDEX, evaluated, found}
use Rattle.meaning_reached.specs.roopl_semantics.Elements.{same_array, is_among, share_array}
use Rattle.meaning_reached.specs.roopl_semantics.Execution.{holds, opened, closed, rest_of, count_changed}
use Rattle.meaning_reached.specs.roopl_semantics.Agreement.{renamed, renamed_object}
use Rattle.meaning_inverse.specs.StatesAgree.{renamed_binding}
use Rattle.meaning_reached.specs.roopl_semantics.Laws.{book_of, block_in}
use Rattle.meaning_inverse.proofs.Cells.{named_changed}
use Rattle.meaning_inverse.proofs.Later.{IsSound, was_there, later_changed}
use Rattle.meaning_inverse.proofs.Runs.{done_given}
use Rattle.meaning_reached.proofs.roopl_semantics_laws.Changed.{with_cell}

-- a one-to-one map of names that keeps 0 and the main object's
pub record Names : Type 0 where
  pub there : ℕ → ℕ
  pub back : ℕ → ℕ
  pub there_and_back : (name : ℕ) → back (there name) ≡ name
  pub back_and_there : (name : ℕ) → there (back name) ≡ name
  pub zero_stays : there 0 ≡ 0
  pub main_stays : there main_name ≡ main_name

pub one_to_one : (f : Names) (n m : ℕ) → f.there n ≡ f.there m → n ≡ m
one_to_one f n m e = sym (f.there_and_back n) ∙ ap f.back e ∙ f.there_and_back m

pub same_names : (f : Names) (n m : ℕ) → nat_eq (f.there n) (f.there m) ≡ nat_eq n m
same_names f n m = by (nat_eq n m) refl
  where
    by : (t : Bool) → nat_eq n m ≡ t → nat_eq (f.there n) (f.there m) ≡ nat_eq n m
    by true e = eq-eqb (f.there n) (f.there m) (ap f.there (eqb-true n m e)) ∙ sym e
    by false e = ne_eqb (f.there n) (f.there m) (λ h. eqb-false n m e (one_to_one f n m h)) ∙ sym e

pub same_zero : (f : Names) (n : ℕ) → nat_eq (f.there n) 0 ≡ nat_eq n 0
same_zero f n = ap (λ z. nat_eq (f.there n) z) (sym f.zero_stays) ∙ same_names f n 0

pub zero_same : (f : Names) (n : ℕ) → nat_eq 0 (f.there n) ≡ nat_eq 0 n
zero_same f n = ap (λ z. nat_eq z (f.there n)) (sym f.zero_stays) ∙ same_names f 0 n

abbrev pub cell_for : Names → Cell → Cell
cell_for f (Slot i) = Slot i
cell_for f (Part name i) = Part (f.there name) i

-- the second state is the first with other names
pub record Sees (h : ℕ) (f : Names) (first second : State) : Type 0 where
  pub frame : second.frame ≡ map (renamed_binding f.there) first.frame
  pub self : second.self ≡ f.there first.self
  pub depth : second.depth ≡ first.depth
  pub objects : (name : ℕ) → object_named second.store (f.there name)
      ≡ option_map (renamed_object f.there) (object_named first.store name)
  pub book : book_of (place h second.log) ≡ book_of (place h first.log)
  pub blocks : (name : ℕ) (object : Object) → object_named first.store name ≡ Some object → name ≢ main_name
      → block_in (place h second.log) (f.there name) ≡ block_in (place h first.log) name
  pub sound : IsSound second

-- ---- values

pub same_truth : (f : Names) (v : Value) → holds (renamed f.there v) ≡ holds v
same_truth f (Word w) = refl
same_truth f Nil = refl
same_truth f (Name n) = ap not (same_zero f n)

pub same_is_zero : (f : Names) (v : Value) → is_zero (renamed f.there v) ≡ is_zero v
same_is_zero f (Word w) = refl
same_is_zero f Nil = refl
same_is_zero f (Name n) = refl

pub cleared_renamed : (f : ℕ → ℕ) (v : Value) → cleared (renamed f v) ≡ renamed f (cleared v)
cleared_renamed f (Word w) = refl
cleared_renamed f Nil = refl
cleared_renamed f (Name n) = refl

pub same_values : (f : Names) (v w : Value) → same_value (renamed f.there v) (renamed f.there w) ≡ same_value v w
same_values f (Word a) (Word b) = refl
same_values f (Word a) Nil = refl
same_values f (Word a) (Name b) = refl
same_values f Nil (Word b) = refl
same_values f Nil Nil = refl
same_values f Nil (Name b) = refl
same_values f (Name a) (Word b) = refl
same_values f (Name a) Nil = refl
same_values f (Name a) (Name b) = same_names f a b

pub is_same_value : (v w : Value) → same_value v w ≡ true → v ≡ w
is_same_value (Word a) (Word b) e = ap (λ n. Word n) (eqb-true a b e)
is_same_value (Word a) Nil e = cc
is_same_value (Word a) (Name b) e = cc
is_same_value Nil (Word b) e = cc
is_same_value Nil Nil e = refl
is_same_value Nil (Name b) e = cc
is_same_value (Name a) (Word b) e = cc
is_same_value (Name a) Nil e = cc
is_same_value (Name a) (Name b) e = ap (λ n. Name n) (eqb-true a b e)

pub same_value_itself : (v : Value) → same_value v v ≡ true
same_value_itself (Word a) = eq-eqb a a refl
same_value_itself Nil = refl
same_value_itself (Name a) = eq-eqb a a refl

-- ---- what is read

names_renamed : (f : ℕ → ℕ) (frame : List Binding) → map (λ binding. binding.name) (map (renamed_binding f) frame)
    ≡ map (λ binding. binding.name) frame
names_renamed f [] = refl
names_renamed f (b ∷ frame) = ap (λ l. b.name ∷ l) (names_renamed f frame)

value_renamed : (f : ℕ → ℕ) (frame : List Binding) (i : ℕ)
    → value_at (map (renamed_binding f) frame) i ≡ renamed f (value_at frame i)
value_renamed f [] i = refl
value_renamed f (b ∷ frame) zero = refl
value_renamed f (b ∷ frame) (suc i) = value_renamed f frame i

with_renamed : (f : ℕ → ℕ) (frame : List Binding) (i : ℕ) (v : Value)
    → with_value (map (renamed_binding f) frame) i (renamed f v) ≡ map (renamed_binding f) (with_value frame i v)
with_renamed f [] i v = refl
with_renamed f (b ∷ frame) zero v = refl
with_renamed f (b ∷ frame) (suc i) v = ap (λ l. renamed_binding f b ∷ l) (with_renamed f frame i v)

get_renamed : (f : ℕ → ℕ) (cells : List Value) (i : ℕ)
    → unwrap_or (slice_get (map (renamed f) cells) i) Nil ≡ renamed f (unwrap_or (slice_get cells i) Nil)
get_renamed f [] i = refl
get_renamed f (v ∷ cells) zero = refl
get_renamed f (v ∷ cells) (suc i) = get_renamed f cells i

set_renamed : (f : ℕ → ℕ) (cells : List Value) (i : ℕ) (v : Value)
    → slice_set (map (renamed f) cells) i (renamed f v) ≡ map (renamed f) (slice_set cells i v)
set_renamed f [] i v = refl
set_renamed f (x ∷ cells) zero v = refl
set_renamed f (x ∷ cells) (suc i) v = ap (λ l. renamed f x ∷ l) (set_renamed f cells i v)

length_renamed : (f : ℕ → ℕ) (cells : List Value) → length (map (renamed f) cells) ≡ length cells
length_renamed f [] = refl
length_renamed f (v ∷ cells) = ap suc (length_renamed f cells)

some_object : (f : ℕ → ℕ) (o : Option Object) → unwrap_or (option_map (renamed_object f) o) no_object
    ≡ renamed_object f (unwrap_or o no_object)
some_object f None = refl
some_object f (Some o) = refl

-- what two values have to be for an operator
abbrev pub AreFit : Bool → Value → Value → Type 0
AreFit t (Word a) (Word b) = Unit {0}
AreFit t (Word a) Nil = ⊥
AreFit t (Word a) (Name b) = ⊥
AreFit t Nil (Word b) = ⊥
AreFit t (Name a) (Word b) = ⊥
AreFit t Nil Nil = t ≡ true
AreFit t Nil (Name b) = t ≡ true
AreFit t (Name a) Nil = t ≡ true
AreFit t (Name a) (Name b) = t ≡ true

abbrev pub FitResults : BinOp → Result Value ℕ → Result Value ℕ → Type 0
FitResults op (Ok a) (Ok b) = AreFit (is_comparison op) a b
FitResults op (Ok a) (Err f) = Unit {0}
FitResults op (Err e) b = Unit {0}

-- a number, if it is a value
abbrev pub IsNumber : Result Value ℕ → Type 0
IsNumber (Ok (Word w)) = Unit {0}
IsNumber (Ok Nil) = ⊥
IsNumber (Ok (Name n)) = ⊥
IsNumber (Err e) = Unit {0}

-- the operators of an expression meet values of their kinds, and its indices are words
abbrev pub Clean : Source → State → Expression → Type 0
Clean program st (Number at word) = Unit {0}
Clean program st (Null at) = Unit {0}
Clean program st (Variable name) = Unit {0}
Clean program st (Element name index) = Clean program st index × IsNumber (value_in program st index)
Clean program st (Binary at op left right) = Clean program st left × Clean program st right
    × FitResults op (value_in program st left) (value_in program st right)

abbrev pub CleanPlace : Source → State → Lvalue → Type 0
CleanPlace program st (Whole name) = Unit {0}
CleanPlace program st (Item name index) = Clean program st index × IsNumber (value_in program st index)

same_test : (o : BinOp) (a b c d : ℕ) → is_comparison o ≡ true → nat_eq a b ≡ nat_eq c d
    → operated o a b ≡ operated o c d
same_test op.Equal a b c d e h = ap (λ t. truth_word t) h
same_test op.NotEqual a b c d e h = ap (λ t. truth_word (not t)) h
same_test op.Add a b c d e h = cc
same_test op.Sub a b c d e h = cc
same_test op.Xor a b c d e h = cc
same_test op.And a b c d e h = cc
same_test op.Or a b c d e h = cc
same_test op.AndAlso a b c d e h = cc
same_test op.OrElse a b c d e h = cc
same_test op.Less a b c d e h = cc
same_test op.Greater a b c d e h = cc
same_test op.AtMost a b c d e h = cc
same_test op.AtLeast a b c d e h = cc
same_test op.Mul a b c d e h = cc
same_test op.Div a b c d e h = cc
same_test op.Rem a b c d e h = cc

same_operated : (f : Names) (o : BinOp) (a b : Value) → AreFit (is_comparison o) a b
    → operated o (number_of (renamed f.there a)) (number_of (renamed f.there b))
    ≡ operated o (number_of a) (number_of b)
same_operated f o (Word a) (Word b) h = refl
same_operated f o (Word a) Nil h = absurd h
same_operated f o (Word a) (Name b) h = absurd h
same_operated f o Nil (Word b) h = absurd h
same_operated f o (Name a) (Word b) h = absurd h
same_operated f o Nil Nil h = refl
same_operated f o Nil (Name b) h = same_test o 0 (f.there b) 0 b h (zero_same f b)
same_operated f o (Name a) Nil h = same_test o (f.there a) 0 a 0 h (same_zero f a)
same_operated f o (Name a) (Name b) h = same_test o (f.there a) (f.there b) a b h (same_names f a b)

abbrev pub value_for : Names → Result Value ℕ → Result Value ℕ
value_for f (Ok v) = Ok (renamed f.there v)
value_for f (Err e) = Err e

abbrev pub cell_result_for : Names → Result Cell ℕ → Result Cell ℕ
cell_result_for f (Ok c) = Ok (cell_for f c)
cell_result_for f (Err e) = Err e

combined_for : (f : Names) (o : BinOp) (a b : Result Value ℕ) → FitResults o a b
    → combined o (value_for f a) (value_for f b) ≡ value_for f (combined o a b)
combined_for f o (Ok a) (Ok b) h = ap (λ n. Ok (Word n)) (same_operated f o a b h)
combined_for f o (Ok a) (Err e) h = refl
combined_for f o (Err e) b h = refl

module _ (h : ℕ) (f : Names) (first second : State) (s : Sees h f first second) where
  pub object_seen : (name : ℕ) → object_at second.store (f.there name)
      ≡ renamed_object f.there (object_at first.store name)
  object_seen name = ap (λ o. unwrap_or o no_object) (s.objects name)
      ∙ some_object f.there (object_named first.store name)

  pub class_seen : (name : ℕ) → class_of_head (object_at second.store (f.there name)).head
      ≡ class_of_head (object_at first.store name).head
  class_seen name = ap (λ o. class_of_head o.head) (object_seen name)

  pub own_class_seen : own_class second ≡ own_class first
  own_class_seen = ap (λ n. class_of_head (object_at second.store n).head) s.self ∙ class_seen first.self

  pub length_seen : (name : ℕ) → length (object_at second.store (f.there name)).cells
      ≡ length (object_at first.store name).cells
  length_seen name = ap (λ o. length o.cells) (object_seen name)
      ∙ length_renamed f.there (object_at first.store name).cells

  pub read_seen : (c : Cell) → read second (cell_for f c) ≡ renamed f.there (read first c)
  read_seen (Slot i) = ap (λ l. value_at l i) s.frame ∙ value_renamed f.there first.frame i
  read_seen (Part name i) = ap (λ o. unwrap_or (slice_get o.cells i) Nil) (object_seen name)
      ∙ get_renamed f.there (object_at first.store name).cells i

  pub slot_seen : (name : List ℕ) → slot_of second.frame name ≡ slot_of first.frame name
  slot_seen name = ap (λ l. position (bytes_eq name) l) (ap (map (λ binding. binding.name)) s.frame
      ∙ names_renamed f.there first.frame)

  pub named_seen : (program : Source) (name : List ℕ) → cell_named program second name
      ≡ cell_for f (cell_named program first name)
  named_seen program name = ap (slot_or_field program second name) (slot_seen name) ∙ by (slot_of first.frame name)
    where
      by : (o : Option ℕ) → slot_or_field program second name o ≡ cell_for f (slot_or_field program first name o)
      by (Some i) = refl
      by None =
          ap (λ n. Part n (unwrap_or (field_of (class_fields program (own_class second)) name) 0)) s.self
          ∙ ap (λ c. Part (f.there first.self) (unwrap_or (field_of (class_fields program c) name) 0)) own_class_seen

  pub variable_seen : (program : Source) (name : List ℕ)
      → variable_value program second name ≡ renamed f.there (variable_value program first name)
  variable_seen program name = ap (read second) (named_seen program name) ∙ read_seen (cell_named program first name)

  among_seen : (program : Source) (name : Ident) (reads : List Ident)
      → is_among program second name reads ≡ is_among program first name reads
  among_seen program name [] = refl
  among_seen program name (read ∷ reads) =
      ap (λ v. same_value v (variable_value program second read.text) || is_among program second name reads)
      (variable_seen program name.text)
      ∙ ap (λ v. same_value (renamed f.there (variable_value program first name.text)) v || is_among program second name
      reads) (variable_seen program read.text)
      ∙ ap (λ t. t || is_among program second name reads) (same_values f (variable_value program first name.text)
      (variable_value program first read.text))
      ∙ ap (λ t. same_array program first name read || t) (among_seen program name reads)

  -- elements share an array in both states or in neither
  pub share_seen : (program : Source) (changed reads : List Ident)
      → share_array program second changed reads ≡ share_array program first changed reads
  share_seen program [] reads = refl
  share_seen program (name ∷ changed) reads =
      ap (λ t. t || share_array program second changed reads) (among_seen program name reads)
      ∙ ap (λ t. is_among program first name reads || t) (share_seen program changed reads)

  element_cell_seen : (v : Value) (index : ℕ) → element_cell second (renamed f.there v) index
      ≡ cell_result_for f (element_cell first v index)
  element_cell_seen (Word w) index = refl
  element_cell_seen Nil index = refl
  element_cell_seen (Name n) index =
      ap (λ k. if nat_lt index k then Ok (Part (f.there n) index) else Err INDEX) (length_seen n)
      ∙ by (nat_lt index (length (object_at first.store n).cells))
    where
      by : (t : Bool) → (if t then Ok (Part (f.there n) index) else Err INDEX)
          ≡ cell_result_for f (if t then Ok (Part n index) else Err INDEX)
      by true = refl
      by false = refl

  element_seen : (program : Source) (name : List ℕ) (v : Result Value ℕ) → IsNumber v
      → element_of program second name (value_for f v) ≡ cell_result_for f (element_of program first name v)
  element_seen program name (Ok (Word w)) k = ap (λ v. element_cell second v w) (variable_seen program name)
      ∙ element_cell_seen (variable_value program first name) w
  element_seen program name (Ok Nil) k = absurd k
  element_seen program name (Ok (Name n)) k = absurd k
  element_seen program name (Err e) k = refl

  read_result_seen : (c : Result Cell ℕ) → read_cell second (cell_result_for f c) ≡ value_for f (read_cell first c)
  read_result_seen (Ok c) = ap (λ v. Ok v) (read_seen c)
  read_result_seen (Err e) = refl

  pub value_seen : (program : Source) (e : Expression) → Clean program first e
      → value_in program second e ≡ value_for f (value_in program first e)
  value_seen program (Number at word) k = refl
  value_seen program (Null at) k = refl
  value_seen program (Variable name) k = ap (λ v. Ok v) (variable_seen program name.text)
  value_seen program (Element name index) k =
      ap (λ v. read_cell second (element_of program second name.text v)) (value_seen program index k.0)
      ∙ ap (read_cell second) (element_seen program name.text (value_in program first index) k.1)
      ∙ read_result_seen (element_of program first name.text (value_in program first index))
  value_seen program (Binary at o left right) k =
      ap (λ v. combined o v (value_in program second right)) (value_seen program left k.0)
      ∙ ap (λ v. combined o (value_for f (value_in program first left)) v) (value_seen program right k.1)
      ∙ combined_for f o (value_in program first left) (value_in program first right) k.2

  pub place_seen : (program : Source) (t : Lvalue) → CleanPlace program first t
      → cell_of program second t ≡ cell_result_for f (cell_of program first t)
  place_seen program (Whole name) k = ap (λ c. Ok c) (named_seen program name.text)
  place_seen program (Item name index) k = ap (λ v. element_of program second name.text v)
      (value_seen program index k.0) ∙ element_seen program name.text (value_in program first index) k.1

  -- evaluations and places of the second state, by those of the first
  pub evaluated_seen : (program : Source) (e : Expression) (v : Value) → Clean program first e
      → value_in program first e ≡ Ok v → evaluated program e second ≡ Done (renamed f.there v) (nodes e)
  evaluated_seen program e v k is = done_given (nodes e) (value_in program second e) (renamed f.there v)
      (value_seen program e k ∙ ap (value_for f) is)

  pub found_seen : (program : Source) (t : Lvalue) (c : Cell) → CleanPlace program first t
      → cell_of program first t ≡ Ok c → found program t second ≡ Done (cell_for f c) (index_nodes t)
  found_seen program t c k is = done_given (index_nodes t) (cell_of program second t) (cell_for f c)
      (place_seen program t k ∙ ap (cell_result_for f) is)

  -- ---- what is written

  pub changed_seen : (name : ℕ) (g g' : Object → Object) → ((o : Object) → (g o).head ≡ o.head)
      → ((o : Object) → (g' o).head ≡ o.head) → ((o : Object)
      → g' (renamed_object f.there o) ≡ renamed_object f.there (g o))
      → Sees h f (record first { store = changed_at first.store name g })
      (record second { store = changed_at second.store (f.there name) g' })
  changed_seen name g g' keeps keeps' alike =
      record {
        frame = s.frame;
        self = s.self;
        depth = s.depth;
        objects = λ m. named_changed second.store (f.there name) g' (f.there m)
            ∙ ap (λ t. if t then option_map g' (object_named second.store (f.there m)) else object_named second.store
            (f.there m)) (same_names f name m)
            ∙ ap (λ o. if nat_eq name m then option_map g' o else o) (s.objects m)
            ∙ by (nat_eq name m) (object_named first.store m)
            ∙ ap (option_map (renamed_object f.there)) (sym (named_changed first.store name g m));
        book = s.book;
        blocks = λ m object e ne. (let was = was_there first.store name g keeps m object e in
            s.blocks m was.before was.there ne);
        sound = (later_changed second (f.there name) g' keeps' s.sound).sound;
      }
    where
      by : (t : Bool) (o : Option Object) → (if t then option_map g' (option_map (renamed_object f.there) o) else
          option_map (renamed_object f.there) o) ≡ option_map (renamed_object f.there)
          (if t then option_map g o else o)
      by true None = refl
      by true (Some o) = ap (λ x. Some x) (alike o)
      by false o = refl

  pub written_seen : (c : Cell) (v : Value) → Sees h f (written first c v)
      (written second (cell_for f c) (renamed f.there v))
  written_seen (Slot i) v = record {
    frame = ap (λ l. with_value l i (renamed f.there v)) s.frame
        ∙ with_renamed f.there first.frame i v;
    self = s.self;
    depth = s.depth;
    objects = s.objects;
    book = s.book;
    blocks = s.blocks;
    sound = record {
      unique = s.sound.unique;
      drawn = s.sound.drawn;
      positive = s.sound.positive;
    };
  }
  written_seen (Part name i) v = changed_seen name (with_cell i v) (with_cell i (renamed f.there v)) (λ o. refl)
      (λ o. refl) (λ o. ap (λ cells. record o { cells = cells }) (set_renamed f.there o.cells i v))

  pub counted_seen : (change : ℕ → ℕ) (name : ℕ) → Sees h f (count_changed change first name)
      (count_changed change second (f.there name))
  counted_seen change name = changed_seen name (λ o. record o { count = change o.count })
      (λ o. record o { count = change o.count }) (λ o. refl) (λ o. refl) (λ o. refl)

  pub opened_seen : (name : List ℕ) (v : Value) → Sees h f (opened name v first)
      (opened name (renamed f.there v) second)
  opened_seen name v = record {
    frame = ap (λ l. record { name = name; value = renamed f.there v } ∷ l) s.frame;
    self = s.self;
    depth = s.depth;
    objects = s.objects;
    book = s.book;
    blocks = s.blocks;
    sound = record { unique = s.sound.unique; drawn = s.sound.drawn; positive = s.sound.positive };
  }

  pub closed_seen : Sees h f (closed first) (closed second)
  closed_seen = record {
    frame = ap rest_of s.frame ∙ by first.frame;
    self = s.self;
    depth = s.depth;
    objects = s.objects;
    book = s.book;
    blocks = s.blocks;
    sound = record { unique = s.sound.unique; drawn = s.sound.drawn; positive = s.sound.positive };
  }
    where
      by : (frame : List Binding) → rest_of (map (renamed_binding f.there) frame)
          ≡ map (renamed_binding f.there) (rest_of frame)
      by [] = refl
      by (b ∷ frame) = refl
