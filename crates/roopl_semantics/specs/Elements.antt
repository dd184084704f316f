-- The elements that a statement changes and those that it reads, which may not be of one array.
use Rattle.std.specs.Prelude.{ℕ, Bool, false, ◌||◌, List, [], ◌∷◌, ◌++◌, length}
use Rattle.inverse_rules.specs.rpp_tree.declared.tree.Ident.{Ident}
use Rattle.inverse_rules.specs.rpp_tree.Tree.{Expression, Number, Null, Variable, Element, Binary, Lvalue, Whole}
use Rattle.inverse_rules.specs.rpp_tree.Tree.{Item, Source}
pub use Rattle.code_conventions.specs.declared.faults.TheConstants.{SHARED_ARRAY}
use Rattle.roopl_semantics.specs.Run.{Run, spend, fault_if, ◌>>=◌}
use Rattle.roopl_semantics.specs.Store.{State, same_value}
use Rattle.roopl_semantics.specs.Value.{variable_value}

-- the elements of an expression, those in indexes too, by the names of their arrays
abbrev pub elements : Expression → List Ident
elements (Element name index) = name ∷ elements index
elements (Binary at op left right) = elements left ++ elements right
elements _ = []

-- the elements in the index of a place
abbrev pub index_elements : Lvalue → List Ident
index_elements (Whole name) = []
index_elements (Item name index) = elements index

-- a place itself, if it is an element
abbrev pub own_element : Lvalue → List Ident
own_element (Whole name) = []
own_element (Item name index) = name ∷ []

-- whether two names mean the same array
abbrev pub same_array : Source → State → Ident → Ident → Bool
same_array program st name other =
    same_value (variable_value program st name.text) (variable_value program st other.text)

-- whether one of the elements is of an array
abbrev pub is_among : Source → State → Ident → List Ident → Bool
is_among program st name [] = false
is_among program st name (other ∷ others) =
    same_array program st name other || is_among program st name others

-- whether a changed element and a read element are of the same array
abbrev pub share_array : Source → State → List Ident → List Ident → Bool
share_array program st [] reads = false
share_array program st (name ∷ changed) reads =
    is_among program st name reads || share_array program st changed reads

-- each read element counts 1 if an element is changed
abbrev pub read_cost : List Ident → List Ident → ℕ
read_cost [] reads = 0
read_cost (name ∷ changed) reads = length reads

-- the check of the elements that a statement changes against those that it reads, once it has its
-- values
abbrev pub kept_apart : Source → List Ident → List Ident → State → Run (Unit {0})
kept_apart program changed reads st = do
  _ ← spend (read_cost changed reads)
  fault_if SHARED_ARRAY (share_array program st changed reads)
