-- Every typed expression reads what is in the memory of a current frame, with its values' words.
use Rattle.std.proofs.Common.{◌≡◌, ℕ, ◌+◌, ◌≤◌, Bool, true, false, List, [], length, Some, refl, sym, ap, ◌∙◌, subst}
use Rattle.std.proofs.Common.{arith}
use Rattle.std.proofs.lemmas.Bool.{eqb-true}
use Rattle.std.proofs.lemmas.Bool.Decides.{nat_tests}
use Rattle.std.specs.Prelude.{nat_eq, ◌&&◌, slice_index, if◌then◌else◌, Result, Ok, Err}
use Rattle.refine_calls.specs.rpp_tree.declared.tree.Ident.{Ident}
use Rattle.refine_calls.specs.rpp_tree.declared.tree.BinOp.{BinOp}
use Rattle.refine_calls.specs.rpp_tree.Tree.{Expression, Number, Null, Variable, Element, Binary, Lvalue, Whole, Item}
use Rattle.refine_calls.specs.class_rules.declared.kind.Kind.{Kind}
use Rattle.refine_calls.specs.class_rules.declared.kind.Kind.TheVariants as kind
use Rattle.refine_calls.specs.class_rules.Refusal.{type_differs, refused_operator}
use Rattle.refine_calls.specs.class_rules.Expressions.{is_int, element_kind, variable_type, type_of}
use Rattle.refine_calls.specs.class_rules.Expressions.{element_kind_of as element_type}
use Rattle.refine_calls.specs.class_rules.Expressions.{index_is_int, first_token, is_comparison, is_refused}
use Rattle.refine_calls.specs.class_rules.Expressions.{operands_fit, compares}
use Rattle.refine_calls.specs.class_rules.Expressions.{place_type}
use Rattle.refine_calls.proofs.class_rules_laws.PassedRules.{handed_on, both_true, int_kind, some_of}
use Rattle.refine_calls.specs.buddy_book.Place.{block_of}
use Rattle.refine_calls.specs.pisa_isa.Loaded.{statics_at}
use Rattle.refine_calls.specs.pisa_isa.declared.image.TheConstants.{MOST_STATICS}
use Rattle.refine_calls.specs.roopl_semantics.Store.{Value, Word, Nil, Name, State, main_name, object_at, number_of}
use Rattle.refine_calls.specs.roopl_semantics.Value.{variable_value, value, cell_named}
use Rattle.refine_calls.specs.roopl_semantics.Execution.{Setting}
use Rattle.refine_calls.specs.meaning_sound.Sound.{is_of_kind}
use Rattle.refine_calls.specs.meaning_sound.Plain.{HasWords, PlaceHasWords}
use Rattle.refine_calls.proofs.meaning_sound_laws.Classes.{KnowsClasses}
use Rattle.refine_calls.proofs.meaning_sound_laws.Stores.{other_number}
use Rattle.refine_calls.proofs.meaning_sound_laws.Cells.{read_fits}
use Rattle.refine_calls.proofs.meaning_sound_laws.Values.{ValueFits, int_value, value_fits}
use Rattle.expr_uncompute.proofs.refine_frame_laws.Tells.{cells_small, IsRef, words_tell}
use Rattle.expr_uncompute.proofs.refine_frame_laws.ExpressionWords.{both_or_none, value_refers}
use Rattle.refine_calls.specs.refine_form.Form.{Scope}
use Rattle.refine_calls.specs.refine_form.Frames.{Under, base, value_word}
use Rattle.refine_calls.specs.refine_form.Stands.{shape_of, extra, setup, Reads}
use Rattle.expr_uncompute.specs.register_expressions.Number.{Bases, word_of, IsArray, Sees, lvalue_read}
use Rattle.expr_uncompute.specs.Means.{is_equation, shown, AreOperands, words as both_words, compared, OperandsOf}
use Rattle.expr_uncompute.specs.Means.{IsInt, StandsArray, Means, MeansPlace}
use Rattle.refine_expressions.specs.Typing.{visible_spot, free_in_scope}
use Rattle.refine_calls.proofs.Bridge.{typed}
use Rattle.refine_calls.proofs.MovesFit.{frame_address}
use Rattle.refine_calls.proofs.FactsMoves.{same_means}
use Rattle.refine_expressions.proofs.WordsRead.{bases, names_at, slots_at, typing, names_are, named_has, name_low}
use Rattle.refine_expressions.proofs.WordsRead.{name_word, name_place, array_stands}

module _ (setting : Setting) (statics : List ℕ) (few : length statics ≤ MOST_STATICS)
    (classes : KnowsClasses setting.program)
    (s : Scope) (u : Under) (st : State) (cells : List ℕ) (h : Reads setting statics s u [] st cells) where
  abbrev pub B : Bases
  B = bases setting statics classes s u st cells h

  abbrev pub A : ℕ → ℕ
  A = names_at setting statics classes s u st cells h

  abbrev pub L : ℕ → ℕ
  L = slots_at setting statics classes s u st cells h

  abbrev pub P : Rattle.refine_calls.specs.rpp_tree.Tree.Source
  P = setting.program

  abbrev pub T : Rattle.refine_calls.specs.class_rules.Scope.Typing
  T = typing setting statics classes s u st cells h

  abbrev pub S : Rattle.refine_calls.specs.class_rules.Scope.Locals
  S = shape_of P s

  abbrev pub low : ℕ
  low = frame_address setting statics u + free_in_scope P s

  abbrev pub t0 : Rattle.refine_calls.specs.meaning_sound.Sound.Typed setting (extra u []) S s.class st
  t0 = typed setting statics s u [] st cells h

  -- the parts of an element
  pub record ElementParts (name : Ident) (index : Expression) (k : Kind) : Type 0 where
    pub array : Kind
    pub array_is : variable_type T S name ≡ Ok array
    pub element_is : element_kind array ≡ Some k
    pub index_is : type_of T S index ≡ Ok kind.Int

  index_int : (x : Kind) (at : ℕ) (i k : Kind) → index_is_int x at i ≡ Ok k → (i ≡ kind.Int) × (x ≡ k)
  index_int x at kind.Int k q = (refl, (let z : x ≡ k = cc in z))
  index_int x at kind.Nil k q = absurd (cc)
  index_int x at (kind.Class c) k q = absurd (cc)
  index_int x at kind.IntArray k q = absurd (cc)
  index_int x at (kind.ClassArray c) k q = absurd (cc)

  pub element_parts : (name : Ident) (index : Expression) (k : Kind) → type_of T S (Element name index) ≡ Ok k
      → ElementParts name index k
  element_parts name index k q =
      let array = handed_on (variable_type T S name) _ k q in
      let element = handed_on (element_type name array.value) _ k array.goes in
      let index_type = handed_on (type_of T S index) _ k element.goes in
      let both = index_int element.value (first_token index) index_type.value k index_type.goes in
      record {
        array = array.value;
        array_is = array.is;
        element_is = some_of (element_kind array.value) _ element.value element.is ∙ ap (λ z. Some z) both.1;
        index_is = index_type.is ∙ ap (λ z. Ok z) both.0;
      }

  no_word : (array k : Kind) (w : ℕ) → element_kind array ≡ Some k → is_of_kind P st.store (Word w) array ≡ true → ⊥
  no_word kind.Int k w e f = cc
  no_word kind.Nil k w e f = cc
  no_word (kind.Class c) k w e f = cc
  no_word kind.IntArray k w e f = cc
  no_word (kind.ClassArray c) k w e f = cc

  pub int_shown : (r : Result Value ℕ) → ValueFits P st.store kind.Int r → IsInt A L r
  int_shown (Err fault) f = tt
  int_shown (Ok v) f = let i = int_value P st.store v f in ap number_of i.is ∙ sym (ap (shown A L) i.is)

  array_word : (name : Ident) (index : Expression) (k : Kind) (p : ElementParts name index k) (v : Value)
      → variable_value P st name.text ≡ v → StandsArray A L P st (visible_spot P s) B cells v
  array_word name index k p (Word w) e = absurd (no_word p.array k w p.element_is
      (subst (λ v. is_of_kind P st.store v p.array ≡ true) e (read_fits setting (extra u []) S s.class st
      (cell_named P st name.text) p.array t0 (named_has setting statics classes s u st cells h name p.array
      p.array_is))))
  array_word name index k p Nil e = tt
  array_word name index k p (Name n) e =
      let a = array_stands setting statics classes s u st cells h (cell_named P st name.text) p.array k n
      (named_has setting statics classes s u st cells h name p.array p.array_is) p.element_is e in
      (a.apart, a.length_word, a.elements)

  array_sees : (name : Ident) (index : Expression) (k : Kind) (p : ElementParts name index k) (v : Value)
      → variable_value P st name.text ≡ v → IsArray (visible_spot P s) B low cells
      (word_of (visible_spot P s) B cells name.text)
  array_sees name index k p (Word w) e = absurd (no_word p.array k w p.element_is
      (subst (λ v. is_of_kind P st.store v p.array ≡ true) e (read_fits setting (extra u []) S s.class st
      (cell_named P st name.text) p.array t0 (named_has setting statics classes s u st cells h name p.array
      p.array_is))))
  array_sees name index k p Nil e =
      let z : word_of (visible_spot P s) B cells name.text ≡ 0 =
      name_word setting statics classes s u st cells h name p.array p.array_is ∙ ap (shown A L) e in
      record { short = λ q. absurd (q z); room = λ q. absurd (q z) }
  array_sees name index k p (Name n) e =
      let a = array_stands setting statics classes s u st cells h (cell_named P st name.text) p.array k n
      (named_has setting statics classes s u st cells h name p.array p.array_is) p.element_is e in
      let z : word_of (visible_spot P s) B cells name.text ≡ A n =
      name_word setting statics classes s u st cells h name p.array p.array_is ∙ ap (shown A L) e in
      let l : slice_index cells (word_of (visible_spot P s) B cells name.text) ≡ length (object_at st.store n).cells =
      ap (slice_index cells) z ∙ a.length_word in
      let small = cells_small (setup setting statics) h.keeps.grounded.limits few in
      let b = a.low in
      record { short = λ q. omega (arith, l, small, b); room = λ q. omega (arith, l, z, b) }

  -- ---- operators

  pub shown_ref : (v : Value) → IsRef (setup setting statics) (extra u []) S s.class st t0 h.keeps.main_unheld v
      → value_word setting statics h.keeps.placed.at v ≡ shown A L v
  shown_ref (Word w) r = refl
  shown_ref Nil r = refl
  shown_ref (Name n) r =
      ap (λ t. if t then statics_at else base setting statics + block_of h.keeps.placed.at.blocks n)
      (sym (other_number n main_name r.no_main)) ∙ sym (names_are setting statics classes s u st cells h n)

  equation : (o : BinOp) → is_comparison o ≡ true → is_equation o ≡ true
  equation o e = e

  operands : (o : BinOp) (a b : Kind) (x y : Value) → operands_fit T.table o a b ≡ true
      → is_of_kind P st.store x a ≡ true
      → is_of_kind P st.store y b ≡ true
      → (is_int a ≡ false → IsRef (setup setting statics) (extra u []) S s.class st t0 h.keeps.main_unheld x)
      → (is_int b ≡ false → IsRef (setup setting statics) (extra u []) S s.class st t0 h.keeps.main_unheld y)
      → AreOperands A L o x y
  operands o a b x y q f g p r = by (is_comparison o) refl q
    where
      ints : is_int a ≡ true → is_int b ≡ true → AreOperands A L o x y
      ints i j = both_words (int_shown (Ok x) (subst (λ c. is_of_kind P st.store x c ≡ true) (int_kind a i) f))
          (int_shown (Ok y) (subst (λ c. is_of_kind P st.store y c ≡ true) (int_kind b j) g))

      test_of : (m n : ℕ) → m ≡ n → nat_eq m n ≡ true
      test_of m n e = grind (arith, nat_tests, e)

      refs : is_comparison o ≡ true → is_int a ≡ false → is_int b ≡ false → AreOperands A L o x y
      refs c i j =
          let told = words_tell (setup setting statics) (extra u []) S s.class st t0 h.keeps.main_unheld x y (p i) (r j)
          in
          let sx = shown_ref x (p i) in
          let sy = shown_ref y (r j) in
          compared (equation o c)
          (λ e. sym sx ∙ eqb-true (value_word setting statics h.keeps.placed.at x)
          (value_word setting statics h.keeps.placed.at y) (told ∙ test_of (number_of x) (number_of y) e) ∙ sy)
          (λ e. eqb-true (number_of x) (number_of y) (sym told
          ∙ test_of (value_word setting statics h.keeps.placed.at x)
          (value_word setting statics h.keeps.placed.at y) (sx ∙ e ∙ sym sy)))

      either : (i j : Bool) → is_int a ≡ i → is_int b ≡ j → i ≡ j → is_comparison o ≡ true → AreOperands A L o x y
      either true true e z w c = ints e z
      either false false e z w c = refs c e z
      either true false e z w c = absurd (cc)
      either false true e z w c = absurd (cc)

      by : (c : Bool) → is_comparison o ≡ c → (if c then compares T.table a b else is_int a && is_int b) ≡ true
          → AreOperands A L o x y
      by true e z = either (is_int a) (is_int b) refl refl (both_or_none T.table a b z) e
      by false e z = let i = both_true (is_int a) (is_int b) z in ints i.0 i.1

  -- the parts of an operator's expression
  pub record BinaryParts (o : BinOp) (left right : Expression) : Type 0 where
    pub first : Kind
    pub second : Kind
    pub first_is : type_of T S left ≡ Ok first
    pub second_is : type_of T S right ≡ Ok second
    pub fit : operands_fit T.table o first second ≡ true

  pub binary_parts : (at : ℕ) (o : BinOp) (left right : Expression) (k : Kind)
      → type_of T S (Binary at o left right) ≡ Ok k → BinaryParts o left right
  binary_parts at o left right k q =
      let l = handed_on (type_of T S left) _ k q in
      let r = handed_on (type_of T S right) _ k l.goes in
      record {
        first = l.value;
        second = r.value;
        first_is = l.is;
        second_is = r.is;
        fit = by (is_refused o) (operands_fit T.table o l.value r.value) refl r.goes;
      }
    where
      by : {x : Bool} (refused f : Bool) → x ≡ f → (if refused then Err (refused_operator at) else
          (if f then Ok kind.Int else Err (type_differs at))) ≡ Ok k → x ≡ true
      by true f e z = absurd (cc)
      by false true e z = e
      by false false e z = absurd (cc)

  -- ---- expressions

  pub value_is : (e : Expression) (k : Kind) → HasWords e → type_of T S e ≡ Ok k → ValueFits P st.store k (value P st e)
  value_is e k w q = value_fits setting classes (extra u []) S S s.class h.keeps.class_inside (same_means S) st e k t0 w
      q

  pub refers : (e : Expression) (k : Kind) (v : Value) → type_of T S e ≡ Ok k → is_int k ≡ false → value P st e ≡ Ok v
      → IsRef (setup setting statics) (extra u []) S s.class st t0 h.keeps.main_unheld v
  refers e k v q none r = value_refers (setup setting statics) classes (extra u []) S S s.class h.keeps.class_inside
      (same_means S) st t0 h.keeps.main_unheld e k v q none r

  pub means : (e : Expression) (k : Kind) → HasWords e → type_of T S e ≡ Ok k
      → Means A L P st (visible_spot P s) B cells e
  means (Number at word) k w q = tt
  means (Null at) k w q = tt
  means (Variable name) k w q = name_word setting statics classes s u st cells h name k q
  means (Element name index) k w q =
      let p = element_parts name index k q in (
        name_word setting statics classes s u st cells h name p.array p.array_is,
        array_word name index k p (variable_value P st name.text) refl,
        int_shown (value P st index) (value_is index kind.Int w p.index_is),
        means index kind.Int w p.index_is,
      )
  means (Binary at o left right) k w q =
      let p = binary_parts at o left right k q in (
        means left p.first w.0 p.first_is,
        means right p.second w.1 p.second_is,
        both p (value P st left) (value P st right) refl refl (value_is left p.first w.0 p.first_is)
            (value_is right p.second w.1 p.second_is),
      )
    where
      both : (p : BinaryParts o left right) (x y : Result Value ℕ) → value P st left ≡ x → value P st right ≡ y
          → ValueFits P st.store p.first x → ValueFits P st.store p.second y → OperandsOf A L o x y
      both p (Err f) y e g a b = tt
      both p (Ok x) (Err f) e g a b = tt
      both p (Ok x) (Ok y) e g a b = operands o p.first p.second x y p.fit a b
          (λ i. refers left p.first x p.first_is i e) (λ j. refers right p.second y p.second_is j g)

  pub sees : (e : Expression) (k : Kind) → HasWords e → type_of T S e ≡ Ok k → Sees (visible_spot P s) B low cells e
  sees (Number at word) k w q = w
  sees (Null at) k w q = tt
  sees (Variable name) k w q = name_low setting statics classes s u st cells h name k q
  sees (Element name index) k w q =
      let p = element_parts name index k q in (
        name_low setting statics classes s u st cells h name p.array p.array_is,
        array_sees name index k p (variable_value P st name.text) refl,
        sees index kind.Int w p.index_is,
      )
  sees (Binary at o left right) k w q =
      let p = binary_parts at o left right k q in
      (sees left p.first w.0 p.first_is, sees right p.second w.1 p.second_is)

  -- a place
  pub means_place : (target : Lvalue) (k : Kind) → PlaceHasWords target → place_type T S target ≡ Ok k
      → MeansPlace A L P st (visible_spot P s) B cells target
  means_place (Whole name) k w q = name_place setting statics classes s u st cells h name k q
  means_place (Item name index) k w q =
      let p = element_parts name index k q in (
        name_word setting statics classes s u st cells h name p.array p.array_is,
        array_word name index k p (variable_value P st name.text) refl,
        int_shown (value P st index) (value_is index kind.Int w p.index_is),
        means index kind.Int w p.index_is,
      )

  pub sees_place : (target : Lvalue) (k : Kind) → PlaceHasWords target → place_type T S target ≡ Ok k
      → Sees (visible_spot P s) B low cells (lvalue_read target)
  sees_place (Whole name) k w q = name_low setting statics classes s u st cells h name k q
  sees_place (Item name index) k w q = sees (Element name index) k w q
