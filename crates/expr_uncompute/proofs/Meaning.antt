-- What an expression is in a memory is what it is in the source.
use Rattle.std.proofs.Common.{◌≡◌, ◌≢◌, ℕ, ◌<◌, ◌≤◌, true, false, List, length, refl, sym, ap, ◌∙◌, arith, ⊎_elim}
use Rattle.std.specs.Prelude.{nat_eq, nat_lt, not, if◌then◌else◌, Result, Ok, Err}
use Rattle.std.proofs.lemmas.Bool.Decides.{nat_tests}
use Rattle.std.proofs.lemmas.Bool.{cases_lt, cases_eq}
use Rattle.register_expressions.specs.rpp_tree.declared.tree.BinOp.{BinOp}
use Rattle.register_expressions.specs.rpp_tree.declared.tree.BinOp.TheVariants as op
use Rattle.register_expressions.specs.rpp_tree.Tree.{Expression, Number, Null, Variable, Element, Binary, Lvalue, Whole, Item, Source}
use Rattle.register_expressions.specs.roopl_semantics.Operators.{operated, truth_word}
use Rattle.register_expressions.specs.roopl_semantics.Store.{Value, Word, Nil, Name, State, number_of, object_at}
use Rattle.register_expressions.specs.roopl_semantics.Value.{Part, variable_value, read_cell, value, cell_of}
use Rattle.register_expressions.specs.roopl_semantics.Value.{element_cell, element_of}
use Rattle.register_expressions.specs.roopl_semantics.Value.{combined as combined_values}
use Rattle.register_expressions.specs.refine_form.declared.spot.Spot.{Spot}
use Rattle.register_expressions.specs.Number.{Bases, word_of, number, place_address, element_address, element_at}
use Rattle.register_expressions.specs.Number.{word_in, combined_words}
use Rattle.expr_uncompute.specs.Means.{is_equation, shown, shown_result, cell_result, AreOperands, words, compared}
use Rattle.expr_uncompute.specs.Means.{OperandsOf, IsInt, StandsArray, Means, MeansPlace}
use Rattle.register_expressions.proofs.Numbers.{element_nil, element_inside, element_past}
use Rattle.register_expressions.specs.code_conventions.declared.faults.TheConstants.{INDEX}

same_test : (x y u v : ℕ) → (x ≡ y → u ≡ v) → (u ≡ v → x ≡ y) → nat_eq x y ≡ nat_eq u v
same_test x y u v f g = ⊎_elim (λ e. let k = f e in grind (arith, nat_tests))
    (λ n. let k : u ≢ v = λ q. n (g q) in grind (arith, nat_tests)) (cases_eq x y)

module _ (address slot : ℕ → ℕ) where
  same_equation : (o : BinOp) (x y u v : ℕ) → is_equation o ≡ true → nat_eq x y ≡ nat_eq u v
      → operated o x y ≡ operated o u v
  same_equation op.Equal x y u v e h = ap truth_word h
  same_equation op.NotEqual x y u v e h = ap (λ t. truth_word (not t)) h
  same_equation op.Add x y u v e h = absurd (cc)
  same_equation op.Sub x y u v e h = absurd (cc)
  same_equation op.Xor x y u v e h = absurd (cc)
  same_equation op.And x y u v e h = absurd (cc)
  same_equation op.Or x y u v e h = absurd (cc)
  same_equation op.AndAlso x y u v e h = absurd (cc)
  same_equation op.OrElse x y u v e h = absurd (cc)
  same_equation op.Less x y u v e h = absurd (cc)
  same_equation op.Greater x y u v e h = absurd (cc)
  same_equation op.AtMost x y u v e h = absurd (cc)
  same_equation op.AtLeast x y u v e h = absurd (cc)
  same_equation op.Mul x y u v e h = absurd (cc)
  same_equation op.Div x y u v e h = absurd (cc)
  same_equation op.Rem x y u v e h = absurd (cc)

  same_operated : (o : BinOp) (l r : Value) → AreOperands address slot o l r
      → operated o (shown address slot l) (shown address slot r) ≡ operated o (number_of l) (number_of r)
  same_operated o l r (words a b) = ap (λ z. operated o z (shown address slot r)) (sym a)
      ∙ ap (operated o (number_of l)) (sym b)
  same_operated o l r (compared e f g) = sym (same_equation o (number_of l) (number_of r) (shown address slot l)
      (shown address slot r) e (same_test _ _ _ _ f g))

  same_combined : (o : BinOp) (x y : Result Value ℕ) → OperandsOf address slot o x y
      → combined_words o (shown_result address slot x) (shown_result address slot y)
      ≡ shown_result address slot (combined_values o x y)
  same_combined o (Err f) y h = refl
  same_combined o (Ok l) (Err f) h = refl
  same_combined o (Ok l) (Ok r) h = ap Ok (same_operated o l r h)

  module _ (program : Source) (st : State) (spot : List ℕ → Spot) (b : Bases) (cells : List ℕ) where
    -- the element of an array
    element_cell_is : (v : Value) (i : ℕ) → StandsArray address slot program st spot b cells v
        → element_address cells (shown address slot v) i ≡ cell_result address slot (element_cell st v i)
    element_cell_is (Word w) i h = absurd h
    element_cell_is Nil i h = element_nil cells 0 i refl
    element_cell_is (Name n) i h = ⊎_elim (λ l. inside l) (λ g. past g)
        (cases_lt i (length (object_at st.store n).cells))
      where
        inside : i < length (object_at st.store n).cells → element_address cells (address n) i
            ≡ cell_result address slot (element_cell st (Name n) i)
        inside l =
            let t : nat_lt i (length (object_at st.store n).cells) ≡ true = grind (arith, nat_tests) in
            element_inside cells (address n) i h.0 (rw h.1 l)
            ∙ sym (ap (λ t. cell_result address slot (if t then Ok (Part n i) else Err INDEX)) t)

        past : length (object_at st.store n).cells ≤ i → element_address cells (address n) i
            ≡ cell_result address slot (element_cell st (Name n) i)
        past g =
            let t : nat_lt i (length (object_at st.store n).cells) ≡ false = grind (arith, nat_tests) in
            element_past cells (address n) i h.0 (rw h.1 g) ∙ sym
            (ap (λ t. cell_result address slot (if t then Ok (Part n i) else Err INDEX)) t)

    element_at_is : (v : Value) (r : Result Value ℕ) (k : ℕ) → shown address slot v ≡ k
        → StandsArray address slot program st spot b cells v → IsInt address slot r → (name : List ℕ)
        → variable_value program st name ≡ v → element_at cells k (shown_result address slot r)
        ≡ cell_result address slot (element_of program st name r)
    element_at_is v (Err f) k e h i name q = refl
    element_at_is v (Ok x) k e h i name q =
        ap (λ k. element_address cells k (shown address slot x)) (sym e)
        ∙ ap (element_address cells (shown address slot v)) (sym i)
        ∙ element_cell_is v (number_of x) h
        ∙ sym (ap (λ v. cell_result address slot (element_cell st v (number_of x))) q)

    -- and its word
    element_word_is : (v : Value) (i : ℕ) → StandsArray address slot program st spot b cells v
        → word_in cells (cell_result address slot (element_cell st v i))
        ≡ shown_result address slot (read_cell st (element_cell st v i))
    element_word_is (Word w) i h = absurd h
    element_word_is Nil i h = refl
    element_word_is (Name n) i h = ⊎_elim (λ l. inside l) (λ g. past g)
        (cases_lt i (length (object_at st.store n).cells))
      where
        inside : i < length (object_at st.store n).cells → word_in cells
            (cell_result address slot (element_cell st (Name n) i))
            ≡ shown_result address slot (read_cell st (element_cell st (Name n) i))
        inside l =
            let t : nat_lt i (length (object_at st.store n).cells) ≡ true = grind (arith, nat_tests) in
            ap (λ t. word_in cells (cell_result address slot (if t then Ok (Part n i) else Err INDEX))) t
            ∙ ap Ok (h.2 i l)
            ∙ sym (ap (λ t. shown_result address slot (read_cell st (if t then Ok (Part n i) else Err INDEX))) t)

        past : length (object_at st.store n).cells ≤ i → word_in cells
            (cell_result address slot (element_cell st (Name n) i))
            ≡ shown_result address slot (read_cell st (element_cell st (Name n) i))
        past g =
            let t : nat_lt i (length (object_at st.store n).cells) ≡ false = grind (arith, nat_tests) in
            ap (λ t. word_in cells (cell_result address slot (if t then Ok (Part n i) else Err INDEX))) t
            ∙ sym (ap (λ t. shown_result address slot (read_cell st (if t then Ok (Part n i) else Err INDEX))) t)

    word_in_is : (r : Result Value ℕ) (name : List ℕ) → StandsArray address slot program st spot b cells
        (variable_value program st name) → word_in cells (cell_result address slot (element_of program st name r))
        ≡ shown_result address slot (read_cell st (element_of program st name r))
    word_in_is (Err f) name h = refl
    word_in_is (Ok x) name h = element_word_is (variable_value program st name) (number_of x) h

    -- the number of an expression is its value's word
    pub number_is : (e : Expression) → Means address slot program st spot b cells e
        → number spot b cells e ≡ shown_result address slot (value program st e)
    number_is (Number at word) h = refl
    number_is (Null at) h = refl
    number_is (Variable name) h = ap Ok h
    number_is (Element name index) h =
        ap (λ r. word_in cells (element_at cells (word_of spot b cells name.text) r)) (number_is index h.3)
        ∙ ap (word_in cells) (element_at_is (variable_value program st name.text) (value program st index) _ (sym h.0)
        h.1 h.2 name.text refl)
        ∙ word_in_is (value program st index) name.text h.1
    number_is (Binary at o left right) h =
        ap (λ z. combined_words o z (number spot b cells right)) (number_is left h.0)
        ∙ ap (combined_words o (shown_result address slot (value program st left))) (number_is right h.1)
        ∙ same_combined o (value program st left) (value program st right) h.2

    -- the address of a place is that of its cell
    pub place_is : (target : Lvalue) → MeansPlace address slot program st spot b cells target
        → place_address spot b cells target ≡ cell_result address slot (cell_of program st target)
    place_is (Whole name) h = ap Ok h
    place_is (Item name index) h =
        ap (element_at cells (word_of spot b cells name.text)) (number_is index h.3)
        ∙ element_at_is (variable_value program st name.text) (value program st index) _ (sym h.0) h.1 h.2 name.text
        refl
