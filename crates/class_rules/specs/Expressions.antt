-- The types of expressions and places, and their first refusals.
use Rattle.std.specs.Prelude.{ℕ, Bool, true, false, not, ◌&&◌, ◌||◌, nat_eq, List, Option, Some}
use Rattle.std.specs.Prelude.{None, Result, Ok, Err, if◌then◌else◌}
use Rattle.std.specs.Option.{ok_or}
use Rattle.std.specs.Str.{bytes_eq}
use Rattle.rpp_tree.specs.declared.tree.Ident.{Ident}
use Rattle.rpp_tree.specs.declared.tree.BinOp.{BinOp}
use Rattle.rpp_tree.specs.declared.tree.BinOp.TheVariants as op
use Rattle.rpp_tree.specs.Tree.{Expression, Number, Null, Variable, Element, Binary, Lvalue, Whole}
use Rattle.rpp_tree.specs.Tree.{Item}
use Rattle.class_rules.specs.Table.{Table, inherits_in}
use Rattle.class_rules.specs.Refusal.{Refusal, unknown_name, not_an_array, refused_operator}
use Rattle.class_rules.specs.Refusal.{type_differs}
use Rattle.class_rules.specs.declared.kind.Kind.{Kind}
use Rattle.class_rules.specs.declared.kind.Kind.TheVariants as kind
use Rattle.class_rules.specs.Scope.{Typing, Locals, kind_in}

-- what a rule returns, passed on if it refuses nothing
abbrev pub then_checked : {A B : Type 0} → Result A Refusal → (A → Result B Refusal) → Result B Refusal
then_checked (Ok value) next = next value
then_checked (Err error) next = Err error

abbrev pub is_int : Kind → Bool
is_int kind.Int = true
is_int _ = false

-- the type of an array's elements
abbrev pub element_kind : Kind → Option Kind
element_kind kind.IntArray = Some kind.Int
element_kind (kind.ClassArray class) = Some (kind.Class class)
element_kind _ = None

-- one class is the other, or inherits from it, or the other way round
abbrev pub are_related : Table → ℕ → ℕ → Bool
are_related table a b = nat_eq a b || (inherits_in table a b || inherits_in table b a)

-- which types `=` and `!=` take
abbrev pub compares : Table → Kind → Kind → Bool
compares table kind.Int right = is_int right
compares table kind.Nil right = not (is_int right)
compares table (kind.Class a) (kind.Class b) = are_related table a b
compares table kind.IntArray kind.IntArray = true
compares table (kind.ClassArray a) (kind.ClassArray b) = nat_eq a b
compares table left kind.Nil = true
compares table _ _ = false

abbrev pub is_comparison : BinOp → Bool
is_comparison op.Equal = true
is_comparison op.NotEqual = true
is_comparison _ = false

abbrev pub is_refused : BinOp → Bool
is_refused op.Mul = true
is_refused op.Div = true
is_refused op.Rem = true
is_refused _ = false

abbrev pub operands_fit : Table → BinOp → Kind → Kind → Bool
operands_fit table operator left right = if is_comparison operator then compares table left right
    else is_int left && is_int right

-- the first token that is no parenthesis
abbrev pub first_token : Expression → ℕ
first_token (Number at word) = at
first_token (Null at) = at
first_token (Variable name) = name.at
first_token (Element name index) = name.at
first_token (Binary at operator left right) = first_token left

abbrev pub index_is_int : Kind → ℕ → Kind → Result Kind Refusal
index_is_int element at index = if is_int index then Ok element else Err (type_differs at)

-- the name of an element, once it means something
abbrev pub element_kind_of : Ident → Kind → Result Kind Refusal
element_kind_of name array = ok_or (element_kind array) (not_an_array name.at)

abbrev pub variable_type : Typing → Locals → Ident → Result Kind Refusal
variable_type setting locals name = ok_or (kind_in setting locals name.text) (unknown_name name.at)

abbrev pub operator_type : Table → ℕ → BinOp → Kind → Kind → Result Kind Refusal
operator_type table at operator left right =
    if is_refused operator then Err (refused_operator at)
    else (if operands_fit table operator left right then Ok kind.Int else Err (type_differs at))

-- the type of an expression, or its first refusal
abbrev pub type_of : Typing → Locals → Expression → Result Kind Refusal
type_of setting locals (Number at word) = Ok kind.Int
type_of setting locals (Null at) = Ok kind.Nil
type_of setting locals (Variable name) = variable_type setting locals name
type_of setting locals (Element name index) =
    then_checked (variable_type setting locals name)
    (λ array. then_checked (ok_or (element_kind array) (not_an_array name.at))
    (λ element. then_checked (type_of setting locals index)
    (λ i. if is_int i then Ok element else Err (type_differs (first_token index)))))
type_of setting locals (Binary at operator left right) =
    then_checked (type_of setting locals left)
    (λ l. then_checked (type_of setting locals right)
    (λ r. operator_type setting.table at operator l r))

abbrev pub place_type : Typing → Locals → Lvalue → Result Kind Refusal
place_type setting locals (Whole name) = type_of setting locals (Variable name)
place_type setting locals (Item name index) = type_of setting locals (Element name index)

-- whether a variable occurs in an expression
abbrev pub occurs : List ℕ → Expression → Bool
occurs name (Variable other) = bytes_eq other.text name
occurs name (Element other index) = bytes_eq other.text name || occurs name index
occurs name (Binary at operator left right) = occurs name left || occurs name right
occurs name _ = false

abbrev pub occurs_in_index : List ℕ → Lvalue → Bool
occurs_in_index name (Whole other) = false
occurs_in_index name (Item other index) = occurs name index
