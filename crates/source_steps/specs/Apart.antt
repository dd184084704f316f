-- The elements that a statement reads, and whether one is of an array.
use Rattle.std.specs.Prelude.{ℕ, ◌+◌, Bool, false, ◌||◌, List, [], Option, Some, None}
use Rattle.class_table.specs.rpp_tree.declared.tree.Ident.{Ident}
use Rattle.class_table.specs.rpp_tree.Tree.{Expression, Number, Null, Variable, Element, Binary, Source}
use Rattle.source_store.specs.roopl_semantics.Store.{State, Value, same_value}
use Rattle.source_store.specs.roopl_semantics.Value.{variable_value}
use Rattle.source_store.specs.roopl_semantics.Elements.{elements}

-- the number of an expression's elements
abbrev pub count_elements : Expression → ℕ
count_elements (Number at word) = 0
count_elements (Null at) = 0
count_elements (Variable name) = 0
count_elements (Element name index) = 1 + count_elements index
count_elements (Binary at op left right) = count_elements left + count_elements right

-- whether an element of an expression is of this array
abbrev pub meets_array : Source → State → Value → Expression → Bool
meets_array program st array (Number at word) = false
meets_array program st array (Null at) = false
meets_array program st array (Variable name) = false
meets_array program st array (Element name index) =
    same_value array (variable_value program st name.text) || meets_array program st array index
meets_array program st array (Binary at op left right) =
    meets_array program st array left || meets_array program st array right

-- the elements of an expression that may be there
abbrev pub reads_of : Option Expression → List Ident
reads_of None = []
reads_of (Some e) = elements e
