-- What holds for a sound state of an accepted program, as the inverse law needs it.
use Rattle.std.proofs.Common.{◌≡◌, ℕ, suc, ◌+◌, ◌<◌, ◌≤◌, refl, sym, ap, subst, ◌∙◌, arith, true, false, Bool, not}
use Rattle.std.proofs.Common.{◌&&◌, List, [], ◌∷◌, ◌++◌, length, map, Option, Some, None, option_map, unwrap_or, Ok}
use Rattle.std.proofs.Common.{Err, Result, nat_eq, is_some, slice_get, if◌then◌else◌, eqb-true}
use Rattle.meaning_reached.specs.rpp_tree.Tree.{Expression, Number, Null, Variable, Element, Binary, Lvalue, Whole}
use Rattle.meaning_reached.specs.rpp_tree.Tree.{Item, Statements}
use Rattle.meaning_reached.specs.rpp_tree.Tree.{Source}
use Rattle.meaning_reached.specs.class_rules.declared.kind.Kind.{Kind}
use Rattle.meaning_reached.specs.class_rules.declared.kind.Kind.TheVariants as kind
use Rattle.meaning_reached.specs.class_rules.Table.{Table, table_of}
use Rattle.meaning_reached.specs.class_rules.Scope.{Typing, Locals}
use Rattle.meaning_reached.specs.class_rules.Refusal.{type_differs, refused_operator}
use Rattle.meaning_reached.specs.class_rules.Expressions.{is_int, element_kind_of as element_type, index_is_int}
use Rattle.meaning_reached.specs.class_rules.Expressions.{variable_type, type_of}
use Rattle.meaning_reached.specs.class_rules.Expressions.{place_type, is_comparison, is_refused, compares, operands_fit}
use Rattle.meaning_reached.specs.class_rules.Expressions.{operator_type}
use Rattle.meaning_reached.specs.class_rules.Expressions.{first_token}
use Rattle.meaning_reached.specs.class_rules.Statements.{verdict_passed, check_statements}
use Rattle.meaning_reached.specs.class_rules.Program.{setting_in}
use Rattle.meaning_reached.specs.buddy_book.Place.{block_of, count_taken}
use Rattle.meaning_reached.proofs.buddy_book_laws.Kept.{given_back}
use Rattle.meaning_reached.specs.roopl_semantics.Store.{Value, Word, Nil, Name, Head, Object, Store, Binding, State}
use Rattle.meaning_reached.specs.roopl_semantics.Store.{main_name}
use Rattle.meaning_reached.specs.roopl_semantics.Store.{object_named, object_at, no_object}
use Rattle.meaning_reached.specs.roopl_semantics.Value.{Cell, Slot, Part, read, value as value_in}
use Rattle.meaning_reached.specs.roopl_semantics.Execution.{Setting, order_of_cells}
use Rattle.meaning_reached.specs.roopl_semantics.Laws.{one_if_name}
use Rattle.meaning_reached.specs.meaning_sound.Sound.{Sound, Descending, entry_name, is_of_kind, named_fits, head_of}
use Rattle.meaning_reached.specs.meaning_sound.Sound.{head_named, count_of}
use Rattle.meaning_reached.specs.meaning_sound.Sound.{is_live, cell_kinds, local_type, bound_value, held, cell_kind}
use Rattle.meaning_reached.specs.meaning_sound.Plain.{HasWords, PlaceHasWords, IsPlain}
use Rattle.meaning_reached.proofs.meaning_sound_laws.Lists.{all_inside, all_length, holders_get}
use Rattle.meaning_reached.proofs.meaning_sound_laws.Stores.{live_object, live_named, holders_inside, none_above}
use Rattle.meaning_reached.proofs.meaning_sound_laws.Stores.{below_bound}
use Rattle.meaning_reached.specs.meaning_sound.Sound.{Typed}
use Rattle.meaning_reached.proofs.meaning_sound_laws.Cells.{typed_of, part_of, value_at_is}
use Rattle.meaning_reached.proofs.meaning_sound_laws.Classes.{KnowsClasses}
use Rattle.meaning_reached.specs.meaning_sound.Kept.{MeansSame}
use Rattle.meaning_reached.proofs.meaning_sound_laws.Names.{is_object}
use Rattle.meaning_reached.proofs.class_rules_laws.PassedRules.{handed_on, both_true}
use Rattle.meaning_reached.proofs.meaning_sound_laws.Values.{ValueFits, value_fits}
use Rattle.meaning_reached.proofs.meaning_sound_laws.Objects.{all_live}
use Rattle.meaning_reached.proofs.meaning_sound_laws.Removal.{one_name}
use Rattle.meaning_inverse.specs.ArrayLengths.{ArraysHaveElements}
use Rattle.meaning_reached.specs.roopl_semantics.Laws.{HasNamesOnce as IsUnique}
use Rattle.meaning_inverse.proofs.Later.{IsSound}
use Rattle.meaning_inverse.proofs.Cells.{IsCell, IsSlot, IsPart}
use Rattle.meaning_inverse.proofs.Seen.{Clean, CleanPlace, IsNumber, AreFit, FitResults}
use Rattle.meaning_inverse.proofs.Ground.{IsLive, AreLive, Placed, is_word}

-- the position of a block: who else has object ids, the visible names and the frame with their
-- types, the class
pub record Context (setting : Setting) : Type 0 where
  pub extra : ℕ → ℕ
  pub locals : Locals
  pub shape : Locals
  pub class : ℕ
  pub inside : class < length setting.program.classes
  pub means : MeansSame locals shape

pub record Good (setting : Setting) (C : Context setting) (st : State) : Type 0 where
  pub sound : Sound setting C.extra C.shape C.class st
  pub drawn : IsSound st
  pub arrays : ArraysHaveElements st.store

pub record Checked (setting : Setting) (C : Context setting) (body : Statements) : Type 0 where
  pub passes : check_statements (setting_in setting.program (table_of setting.program) C.class) C.locals body
      ≡ verdict_passed
  pub plain : IsPlain body

-- ---- names

unique_of : (bound : ℕ) (store : Store) → Descending bound store → IsUnique store
unique_of bound [] d = tt
unique_of bound ((n, o) ∷ store) d = (
  none_above n store n d.1 (let l : n ≤ n = omega arith in l),
  unique_of n store d.1,
)

positive_of : (bound : ℕ) (store : Store) (names : List ℕ) (m : ℕ) (o : Object) → Descending bound store
    → map entry_name store ≡ names ++ main_name ∷ [] → object_named store m ≡ Some o → 0 < m
positive_of bound [] names m o d e h = cc
positive_of bound ((n, x) ∷ store) names m o d e h = by names (nat_eq n m) refl e h
    (λ rest q k. positive_of n store rest m o d.1 q k)
  where
    later : (rest : List ℕ) (s : Store) → Descending n s → map entry_name s ≡ rest ++ main_name ∷ [] → 0 < n
    later [] [] d q = cc
    later (y ∷ rest) [] d q = cc
    later rest ((k, z) ∷ s) d q = let a = d.0 in omega arith

    tails : (y : ℕ) (rest : List ℕ) → n ∷ map entry_name store ≡ y ∷ (rest ++ main_name ∷ [])
        → map entry_name store ≡ rest ++ main_name ∷ []
    tails y rest q = cc

    by : (names : List ℕ) (t : Bool) → nat_eq n m ≡ t → n ∷ map entry_name store ≡ names ++ main_name ∷ []
        → (if t then Some x else object_named store m) ≡ Some o
        → ((rest : List ℕ) → map entry_name store ≡ rest ++ main_name ∷ [] → object_named store m ≡ Some o → 0 < m)
        → 0 < m
    by [] true f e h again = let a = eqb-true n m f in let b : n ≡ main_name = cc in omega arith
    by [] false f e h again = none store e h
      where
        none : (s : Store) → n ∷ map entry_name s ≡ main_name ∷ [] → object_named s m ≡ Some o → 0 < m
        none [] e h = cc
        none (y ∷ s) e h = cc
    by (y ∷ rest) true f e h again = let a = eqb-true n m f in let b = later rest store d.1 (tails y rest e) in
        omega arith
    by (y ∷ rest) false f e h again = again rest (tails y rest e) h

-- the names of a sound state are drawn, none twice
pub drawn_of : (setting : Setting) (extra : ℕ → ℕ) (shape : Locals) (class : ℕ) (st : State)
    → Sound setting extra shape class st → IsSound st
drawn_of setting extra shape class st s =
    record {
      unique = unique_of (2 + count_taken st.log) st.store s.fresh;
      drawn = λ name object e. below_bound (2 + count_taken st.log) st.store name s.fresh
          (live_named st.store name object e);
      positive = λ name object e. positive_of (2 + count_taken st.log) st.store (map entry_name s.placed.at.blocks) name
          object s.fresh s.placed.names e;
    }

-- ---- values and their types

pub word_of_kind : (program : Source) (store : Store) (v : Value) (k : Kind) → is_of_kind program store v k ≡ true
    → is_word v ≡ is_int k
word_of_kind program store (Word w) k h = sym (both_true (is_int k) _ h).0
word_of_kind program store Nil k h = by (is_int k) h
  where
    by : (t : Bool) → not t ≡ true → false ≡ t
    by true e = cc
    by false e = refl
word_of_kind program store (Name n) kind.Int h = absurd (none (head_named store n) h)
  where
    none : (o : Option Head) → named_fits program kind.Int o ≡ true → ⊥
    none None h = cc
    none (Some head) h = cc
word_of_kind program store (Name n) kind.Nil h = refl
word_of_kind program store (Name n) (kind.Class c) h = refl
word_of_kind program store (Name n) kind.IntArray h = refl
word_of_kind program store (Name n) (kind.ClassArray c) h = refl

-- kinds that may be compared are both int or neither
compared_kinds : (table : Table) (a b : Kind) → compares table a b ≡ true → is_int a ≡ is_int b
compared_kinds table kind.Int kind.Int h = refl
compared_kinds table kind.Int kind.Nil h = cc
compared_kinds table kind.Int (kind.Class c) h = cc
compared_kinds table kind.Int kind.IntArray h = cc
compared_kinds table kind.Int (kind.ClassArray c) h = cc
compared_kinds table kind.Nil kind.Int h = cc
compared_kinds table (kind.Class d) kind.Int h = cc
compared_kinds table kind.IntArray kind.Int h = cc
compared_kinds table (kind.ClassArray d) kind.Int h = cc
compared_kinds table kind.Nil kind.Nil h = refl
compared_kinds table kind.Nil (kind.Class c) h = refl
compared_kinds table kind.Nil kind.IntArray h = refl
compared_kinds table kind.Nil (kind.ClassArray c) h = refl
compared_kinds table (kind.Class d) kind.Nil h = refl
compared_kinds table (kind.Class d) (kind.Class c) h = refl
compared_kinds table (kind.Class d) kind.IntArray h = refl
compared_kinds table (kind.Class d) (kind.ClassArray c) h = refl
compared_kinds table kind.IntArray kind.Nil h = refl
compared_kinds table kind.IntArray (kind.Class c) h = refl
compared_kinds table kind.IntArray kind.IntArray h = refl
compared_kinds table kind.IntArray (kind.ClassArray c) h = refl
compared_kinds table (kind.ClassArray d) kind.Nil h = refl
compared_kinds table (kind.ClassArray d) (kind.Class c) h = refl
compared_kinds table (kind.ClassArray d) kind.IntArray h = refl
compared_kinds table (kind.ClassArray d) (kind.ClassArray c) h = refl

are_fit : (t : Bool) (a b : Value) → is_word a ≡ is_word b → (t ≡ false → is_word a ≡ true) → AreFit t a b
are_fit t (Word a) (Word b) e h = tt
are_fit t (Word a) Nil e h = cc
are_fit t (Word a) (Name b) e h = cc
are_fit t Nil (Word b) e h = cc
are_fit t (Name a) (Word b) e h = cc
are_fit t Nil Nil e h = by t h
  where
    by : (t : Bool) → (t ≡ false → false ≡ true) → t ≡ true
    by true h = refl
    by false h = let z = h refl in cc
are_fit t Nil (Name b) e h = by t h
  where
    by : (t : Bool) → (t ≡ false → false ≡ true) → t ≡ true
    by true h = refl
    by false h = let z = h refl in cc
are_fit t (Name a) Nil e h = by t h
  where
    by : (t : Bool) → (t ≡ false → false ≡ true) → t ≡ true
    by true h = refl
    by false h = let z = h refl in cc
are_fit t (Name a) (Name b) e h = by t h
  where
    by : (t : Bool) → (t ≡ false → false ≡ true) → t ≡ true
    by true h = refl
    by false h = let z = h refl in cc

number_fits : (program : Source) (store : Store) (r : Result Value ℕ) → ValueFits program store kind.Int r → IsNumber r
number_fits program store (Ok (Word w)) h = tt
number_fits program store (Ok Nil) h = cc
number_fits program store (Ok (Name n)) h = let z = word_of_kind program store (Name n) kind.Int h in cc
number_fits program store (Err e) h = tt

module _ (setting : Setting) (classes : KnowsClasses setting.program) (C : Context setting) where
  abbrev pub program : Source
  program = setting.program

  abbrev pub typing : Typing
  typing = setting_in program (table_of program) C.class

  pub typed_in : (st : State) → Good setting C st → Typed setting C.extra C.shape C.class st
  typed_in st g = typed_of setting C.extra C.shape C.class st g.sound

  index_int : (element : Kind) (at : ℕ) (i k : Kind) → index_is_int element at i ≡ Ok k → i ≡ kind.Int
  index_int element at kind.Int k h = refl
  index_int element at kind.Nil k h = cc
  index_int element at (kind.Class c) k h = cc
  index_int element at kind.IntArray k h = cc
  index_int element at (kind.ClassArray c) k h = cc

  -- a typed expression is clean
  pub clean_of : (st : State) (e : Expression) (k : Kind) → Typed setting C.extra C.shape C.class st → HasWords e
      → type_of typing C.locals e ≡ Ok k → Clean program st e
  clean_of st (Number at word) k t w h = tt
  clean_of st (Null at) k t w h = tt
  clean_of st (Variable name) k t w h = tt
  clean_of st (Element name index) k t w h =
      let array = handed_on (variable_type typing C.locals name) _ k h in
      let element = handed_on (element_type name array.value) _ k array.goes in
      let index_type = handed_on (type_of typing C.locals index) _ k element.goes in
      let int = index_int element.value (first_token index) index_type.value k index_type.goes in
      let P : Kind → Type 0 = λ k. ValueFits program st.store k (value_in program st index) in (
        clean_of st index index_type.value t w index_type.is,
        number_fits program st.store (value_in program st index)
            (subst P int (value_fits setting classes C.extra C.locals C.shape C.class C.inside C.means st index
            index_type.value t w index_type.is)),
      )
  clean_of st (Binary at o left right) k t w h =
      let l = handed_on (type_of typing C.locals left) _ k h in
      let r = handed_on (type_of typing C.locals right) _ k l.goes in (
        clean_of st left l.value t w.0 l.is,
        clean_of st right r.value t w.1 r.is,
        both l.value r.value (value_in program st left) (value_in program st right) r.goes
            (value_fits setting classes C.extra C.locals C.shape C.class C.inside C.means st left l.value t w.0 l.is)
            (value_fits setting classes C.extra C.locals C.shape C.class C.inside C.means st right r.value t w.1 r.is),
      )
    where
      fit : (a b : Kind) → operands_fit typing.table o a b ≡ true → (x y : Value)
          → is_of_kind program st.store x a ≡ true
          → is_of_kind program st.store y b ≡ true → AreFit (is_comparison o) x y
      fit a b h x y f g = by (is_comparison o) h
        where
          wx : is_word x ≡ is_int a
          wx = word_of_kind program st.store x a f

          wy : is_word y ≡ is_int b
          wy = word_of_kind program st.store y b g

          by : (c : Bool) → (if c then compares typing.table a b else is_int a && is_int b) ≡ true → AreFit c x y
          by true q = are_fit true x y (wx ∙ compared_kinds typing.table a b q ∙ sym wy) (λ z. cc)
          by false q = let i = both_true (is_int a) (is_int b) q in
              are_fit false x y (wx ∙ i.0 ∙ sym i.1 ∙ sym wy) (λ z. wx ∙ i.0)

      operands : (a b : Kind) (refused fits_them : Bool) → operands_fit typing.table o a b ≡ fits_them
          → (if refused then Err (refused_operator at) else (if fits_them then Ok kind.Int else Err (type_differs at)))
          ≡ Ok k → operands_fit typing.table o a b ≡ true
      operands a b true f e q = cc
      operands a b false false e q = cc
      operands a b false true e q = e

      both : (a b : Kind) (x y : Result Value ℕ) → operator_type typing.table at o a b ≡ Ok k
          → ValueFits program st.store a x → ValueFits program st.store b y → FitResults o x y
      both a b (Err f) y q g h = tt
      both a b (Ok x) (Err f) q g h = tt
      both a b (Ok x) (Ok y) q g h = fit a b (operands a b (is_refused o) (operands_fit typing.table o a b) refl q) x y
          g h

  pub clean_place_of : (st : State) (t : Lvalue) (k : Kind) → Typed setting C.extra C.shape C.class st → PlaceHasWords t
      → place_type typing C.locals t ≡ Ok k → CleanPlace program st t
  clean_place_of st (Whole name) k t w h = tt
  clean_place_of st (Item name index) k t w h = clean_of st (Element name index) k t w h

  -- ---- cells and names

  pub is_cell : (st : State) (c : Cell) (k : Kind) → Typed setting C.extra C.shape C.class st
      → cell_kind program C.shape st.store c ≡ Some k → IsCell st c
  is_cell st (Slot i) k t h = IsSlot i (let a = all_inside program st.store (map local_type C.shape)
      (map bound_value st.frame) i k t.variables h in let l = length_values st.frame in omega arith)
    where
      length_values : (frame : List Binding) → length (map bound_value frame) ≡ length frame
      length_values [] = refl
      length_values (b ∷ frame) = ap suc (length_values frame)
  is_cell st (Part n i) k t h =
      let p = part_of program st.store n i k h in
      IsPart n i p.object p.named (all_inside program st.store (cell_kinds program p.object.head) p.object.cells i k
      (t.objects n p.object p.named) p.kind_is)

  live_of : (store : Store) (n : ℕ) → is_live store n ≡ true → IsLive store n
  live_of store n h = record { object = object_at store n; there = live_object store n h }

  pub are_live : (st : State) → Typed setting C.extra C.shape C.class st → AreLive st
  are_live st t =
      record {
        self = live_of st.store st.self (let o = is_object program C.class st.store st.self t.self_is in
            ap is_some o.head);
        frame = λ i name e. live_of st.store name (all_live program st.store (map local_type C.shape)
            (map bound_value st.frame) name t.variables
            (let a = holders_get name (map bound_value st.frame) i in
            let b = ap (one_if_name name) (sym (value_at_is st.frame i) ∙ e) ∙ one_name name in omega arith));
        cells = λ n object e i name q. live_of st.store name
            (all_live program st.store (cell_kinds program object.head) object.cells name (t.objects n object e)
            (let a = holders_get name object.cells i in let b = ap (λ o. one_if_name name (unwrap_or o Nil)) q
            ∙ one_name name in omega arith));
      }

  -- how often a cell's name is held
  pub held_once : (st : State) (c : Cell) (n : ℕ) → read st c ≡ Name n → 0 < held n st
  held_once st (Slot i) n e = let a = holders_get n (map bound_value st.frame) i in let b =
      ap (one_if_name n) (sym (value_at_is st.frame i) ∙ e) ∙ one_name n in omega arith
  held_once st (Part k i) n e = by (object_named st.store k) refl e
    where
      by : (o : Option Object) → object_named st.store k ≡ o
          → unwrap_or (slice_get (unwrap_or o no_object).cells i) Nil ≡ Name n → 0 < held n st
      by None is q = cc
      by (Some o) is q = let a = holders_get n o.cells i in let b = ap (one_if_name n) q
          ∙ one_name n in let c = holders_inside n st.store k o is in omega arith

  pub counts_of : (st : State) → Good setting C st → (c : Cell) (name : ℕ) (object : Object) → read st c ≡ Name name
      → object_named st.store name ≡ Some object → 0 < object.count
  counts_of st g c name object e is = let a = held_once st c name e in let b =
      g.sound.counts name object.count (ap (option_map count_of) is) in omega arith

  -- ---- blocks

  pub placed_of : (st : State) → Good setting C st → Placed setting.limits.heap st
  placed_of st g =
      let p = g.sound.placed in
      record {
        at = p.at;
        is = p.placed;
        sound = p.kept.sound;
        lists = p.kept.lists;
        stands = λ name object e ne.
            (let order = p.orders name object.head (ap (option_map head_of) e) ne in
            let many = all_length program st.store (cell_kinds program object.head) object.cells
            (g.sound.objects name object e) in
            let same = order ∙ ap (λ k. Some (order_of_cells k)) (sym many) in
            let back = given_back _ (order_of_cells (length object.cells)) (block_of p.at.blocks name) p.kept same in
            record { to = back.order_to; aligned = back.aligned; fits = back.fits });
      }
