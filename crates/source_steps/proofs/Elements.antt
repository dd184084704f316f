-- The elements that a statement reads, counted and met.
use Rattle.std.proofs.Common.{◌≡◌, ◌+◌, refl, sym, ap, ◌∙◌, arith, List, [], ◌∷◌, ◌++◌, length, Bool, true, false}
use Rattle.std.proofs.lemmas.List.{length-append}
use Rattle.std.specs.Prelude.{◌||◌}
use Rattle.class_table.specs.rpp_tree.declared.tree.Ident.{Ident}
use Rattle.class_table.specs.rpp_tree.declared.tree.BinOp.TheVariants as op
use Rattle.class_table.specs.rpp_tree.Tree.{Expression, Number, Null, Variable, Element, Binary, Source}
use Rattle.source_store.specs.roopl_semantics.Store.{State, same_value}
use Rattle.source_store.specs.roopl_semantics.Value.{variable_value}
use Rattle.source_store.specs.roopl_semantics.Elements.{elements, is_among}
use Rattle.source_steps.specs.Apart.{count_elements, meets_array}

pub count_one : (e : Expression) → length (elements e) ≡ count_elements e
count_one (Number at word) = refl
count_one (Null at) = refl
count_one (Variable name) = refl
count_one (Element name index) = let i = count_one index in omega arith
count_one (Binary at op left right) = let l = count_one left in let r = count_one right in
    length-append (elements left) (elements right) ∙ omega arith

pub count_both : (a b : Expression) → length (elements a ++ elements b) ≡ count_elements a + count_elements b
count_both a b = let l = count_one a in let r = count_one b in length-append (elements a) (elements b) ∙ omega arith

or_assoc : (a b c : Bool) → a || (b || c) ≡ (a || b) || c
or_assoc true b c = refl
or_assoc false b c = refl

among_both : (program : Source) (st : State) (name : Ident) (xs ys : List Ident)
    → is_among program st name (xs ++ ys) ≡ is_among program st name xs || is_among program st name ys
among_both program st name [] ys = refl
among_both program st name (x ∷ xs) ys =
    ap (λ b. same_value (variable_value program st name.text) (variable_value program st x.text) || b)
    (among_both program st name xs ys)
    ∙ or_assoc (same_value (variable_value program st name.text) (variable_value program st x.text))
    (is_among program st name xs) (is_among program st name ys)

pub meets_one : (program : Source) (st : State) (name : Ident) (e : Expression)
    → meets_array program st (variable_value program st name.text) e ≡ is_among program st name (elements e)
meets_one program st name (Number at word) = refl
meets_one program st name (Null at) = refl
meets_one program st name (Variable other) = refl
meets_one program st name (Element other index) = ap (λ b. same_value (variable_value program st name.text)
    (variable_value program st other.text) || b) (meets_one program st name index)
meets_one program st name (Binary at op left right) =
    ap (λ b. b || meets_array program st (variable_value program st name.text) right) (meets_one program st name left)
    ∙ ap (λ b. is_among program st name (elements left) || b) (meets_one program st name right)
    ∙ sym (among_both program st name (elements left) (elements right))

pub meets_both : (program : Source) (st : State) (name : Ident) (a b : Expression)
    → meets_array program st (variable_value program st name.text) a || meets_array program st
    (variable_value program st name.text)
    b ≡ is_among program st name (elements a ++ elements b)
meets_both program st name a b = meets_one program st name (Binary 0 op.Add a b)
