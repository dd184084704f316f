-- Values, objects and the state of a run.
use Rattle.std.specs.Prelude.{ℕ, Bool, true, false, nat_eq, List, [], ◌∷◌, map, Option, Some, None}
use Rattle.std.specs.Prelude.{if◌then◌else◌}
use Rattle.std.specs.Option.{unwrap_or}
use Rattle.inverse_rules.specs.rpp_tree.declared.tree.Var.{Var}
use Rattle.inverse_rules.specs.rpp_tree.declared.tree.VarType.{VarType}
use Rattle.inverse_rules.specs.rpp_tree.declared.tree.VarType.TheVariants as kind
use Rattle.buddy_book.specs.Place.{Log}
pub use Rattle.buddy_book.specs.Place.{without_name as without}

-- what a variable, a field or an element holds: a word, nil, or the name of an object or array
pub data Value : Type 0 where
  Word : (word : ℕ) → Value
  Nil : Value
  Name : (name : ℕ) → Value

-- an object of a class, or an array of a length
pub data Head : Type 0 where
  OfClass : (class : ℕ) → Head
  OfInts : (length : ℕ) → Head
  OfObjects : (class length : ℕ) → Head

pub record Object : Type 0 where
  pub head : Head
  pub count : ℕ
  pub cells : List Value

-- the live objects and arrays by their names, the newest first
abbrev pub Store : Type 0
Store = List (ℕ × Object)

-- the name of the main object
abbrev pub main_name : ℕ
main_name = 1

-- a parameter or local with its value
pub record Binding : Type 0 where
  pub name : List ℕ
  pub value : Value

-- the variables of the open method, innermost first; its object; the number of active calls; the
-- objects; the requests
pub record State : Type 0 where
  pub frame : List Binding
  pub self : ℕ
  pub depth : ℕ
  pub store : Store
  pub log : Log

-- 0 or nil
abbrev pub is_zero : Value → Bool
is_zero (Word w) = nat_eq w 0
is_zero Nil = true
is_zero (Name n) = false

abbrev pub is_nil : Value → Bool
is_nil Nil = true
is_nil _ = false

-- a value as a number: a word, a name, or 0 for nil
abbrev pub number_of : Value → ℕ
number_of (Word w) = w
number_of Nil = 0
number_of (Name n) = n

-- what is left if a value moves away
abbrev pub cleared : Value → Value
cleared (Word w) = Word 0
cleared Nil = Nil
cleared (Name n) = Nil

abbrev pub same_value : Value → Value → Bool
same_value (Word a) (Word b) = nat_eq a b
same_value Nil Nil = true
same_value (Name a) (Name b) = nat_eq a b
same_value _ _ = false

-- 0 for int, nil for the other types
abbrev pub zero_value : VarType → Value
zero_value kind.Int = Word 0
zero_value _ = Nil

abbrev pub zero_values : List Var → List Value
zero_values vars = map (λ var. zero_value var.kind) vars

-- the object of a name, if it is live
abbrev pub object_named : Store → ℕ → Option Object
object_named [] name = None
object_named ((n, object) ∷ store) name = if nat_eq n name then Some object else object_named store
    name

abbrev pub no_object : Object
no_object = record { head = OfInts 0; count = 0; cells = [] }

-- the object of a live name
abbrev pub object_at : Store → ℕ → Object
object_at store name = unwrap_or (object_named store name) no_object

-- the store with the object of this name changed
abbrev pub changed_at : Store → ℕ → (Object → Object) → Store
changed_at [] name change = []
changed_at ((n, object) ∷ store) name change =
    if nat_eq n name then (n, change object) ∷ store else (n, object) ∷ changed_at store name change

-- the class of an object
abbrev pub class_of_head : Head → ℕ
class_of_head (OfClass class) = class
class_of_head _ = 0
