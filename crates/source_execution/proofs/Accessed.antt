-- What an evaluation compares that meets a fault.
use Rattle.std.proofs.Common.{◌≡◌, ◌∙◌, refl, sym, ap, subst, ℕ, Bool, true, false, List, length, if◌then◌else◌}
use Rattle.std.specs.Prelude.{Result, Ok, Err, nat_lt}
use Rattle.source_statements.specs.rpp_tree.declared.tree.BinOp.{BinOp}
use Rattle.source_statements.specs.rpp_tree.Tree.{Source, Expression, Number, Null, Variable, Element, Binary}
use Rattle.source_checks.specs.roopl_semantics.Store.{State, Value, Word, Nil, Name, object_at, number_of}
use Rattle.source_checks.specs.roopl_semantics.Value.{Cell, Part, value, read_cell, element_cell, element_of, combined}
use Rattle.source_checks.specs.roopl_semantics.Value.{variable_value, INDEX}
use Rattle.source_checks.specs.source_compared.Comparisons.{Compared, Truth, Values, Below, Missing, Count, Length}
use Rattle.source_checks.specs.source_compared.Comparisons.{Size, Heads, Nothing, first_of, access_in, access_at}
use Rattle.source_checks.specs.Checks.{failing_access}
use Rattle.source_execution.specs.FailureLaws.{IsNotThere, Accesses}

-- what fails first stays first
stays_first : (code : ℕ) (first second : Compared) → IsNotThere code first
    → IsNotThere code (first_of first second)
stays_first code (Truth found wanted) second n = n
stays_first code (Values found wanted) second n = n
stays_first code (Below found limit) second n = n
stays_first code (Missing array) second n = n
stays_first code (Count found) second n = n
stays_first code (Length found wanted) second n = n
stays_first code (Size found) second n = n
stays_first code (Heads found wanted) second n = n
stays_first code Nothing second n = absurd n

there_or_not : (st : State) (array index : ℕ) (b : Bool) → nat_lt index (length (object_at st.store array).cells) ≡ b
    → Accesses (if b then Nothing else Below (Word index) (length (object_at st.store array).cells))
    (read_cell st (if b then Ok (Part array index) else Err INDEX))
there_or_not st array index true e = refl
there_or_not st array index false e = (refl, e)

own : (st : State) (array : Value) (index : ℕ)
    → Accesses (access_in st.store array index) (read_cell st (element_cell st array index))
own st (Word w) index = (refl, refl)
own st Nil index = (refl, refl)
own st (Name array) index =
    there_or_not st array index (nat_lt index (length (object_at st.store array).cells)) refl

of_index : (program : Source) (st : State) (name : List ℕ) (inner : Compared) (r : Result Value ℕ) → Accesses inner r
    → Accesses (first_of inner (access_at st.store (variable_value program st name) r))
    (read_cell st (element_of program st name r))
of_index program st name inner (Ok index) e =
    subst (λ (c : Compared). Accesses (first_of c (access_in st.store (variable_value program st name)
    (number_of index)))
    (read_cell st (element_cell st (variable_value program st name) (number_of index)))) (sym e)
    (own st (variable_value program st name) (number_of index))
of_index program st name inner (Err code) n = stays_first code inner Nothing n

of_both : (op : BinOp) (first second : Compared) (l r : Result Value ℕ) → Accesses first l → Accesses second r
    → Accesses (first_of first second) (combined op l r)
of_both op first second (Err code) r n m = stays_first code first second n
of_both op first second (Ok v) (Err code) e m =
    subst (λ (c : Compared). IsNotThere code (first_of c second)) (sym e) m
of_both op first second (Ok v) (Ok w) e f = ap (λ (c : Compared). first_of c second) e ∙ f

pub accesses : (program : Source) (st : State) (e : Expression)
    → Accesses (failing_access program st e) (value program st e)
accesses program st (Number at word) = refl
accesses program st (Null at) = refl
accesses program st (Variable name) = refl
accesses program st (Element name index) =
    of_index program st name.text (failing_access program st index) (value program st index)
    (accesses program st index)
accesses program st (Binary at op left right) =
    of_both op (failing_access program st left) (failing_access program st right) (value program st left)
    (value program st right) (accesses program st left) (accesses program st right)
