-- What names mean.
use Rattle.std.specs.Prelude.{ℕ, List, [], ◌∷◌, Option, Some, None, if◌then◌else◌, slice_get}
use Rattle.std.specs.Option.{option_or, option_map, unwrap_or}
use Rattle.std.specs.Str.{bytes_eq}
use Rattle.rpp_tree.specs.declared.tree.Var.{Var}
use Rattle.rpp_tree.specs.declared.tree.VarType.{VarType}
use Rattle.rpp_tree.specs.declared.tree.VarType.TheVariants as type
use Rattle.rpp_tree.specs.Tree.{Source}
use Rattle.class_rules.specs.Members.{field_of}
use Rattle.class_rules.specs.Table.{Table, class_of, fields_in}
use Rattle.class_rules.specs.declared.kind.Kind.{Kind}
use Rattle.class_rules.specs.declared.kind.Kind.TheVariants as kind

-- the program and its table, and the class of the method that has the statement
pub record Typing : Type 0 where
  pub program : Source
  pub table : Table
  pub class : ℕ

abbrev pub class_kind : Option ℕ → Kind
class_kind None = kind.Nil
class_kind (Some class) = kind.Class class

abbrev pub array_kind : Option ℕ → Kind
array_kind None = kind.Nil
array_kind (Some class) = kind.ClassArray class

-- a type with its class by number
abbrev pub kind_of : Table → VarType → Kind
kind_of table type.Int = kind.Int
kind_of table (type.Class name) = class_kind (class_of table name.text)
kind_of table type.IntArray = kind.IntArray
kind_of table (type.ClassArray name) = array_kind (class_of table name.text)

-- a parameter or local with its type
pub record Local : Type 0 where
  pub name : List ℕ
  pub kind : Kind

-- the visible parameters and locals, the innermost first
abbrev pub Locals : Type 0
Locals = List Local

abbrev pub local_kind : Locals → List ℕ → Option Kind
local_kind [] name = None
local_kind (local ∷ outer) name = if bytes_eq local.name name then Some local.kind
    else local_kind outer name

abbrev pub no_var : Var
no_var = record { kind = type.Int; name = record { at = 0; text = [] } }

-- the type of a field by its number
abbrev pub kind_at : Table → ℕ → ℕ → Kind
kind_at table class number =
    kind_of table (unwrap_or (slice_get (fields_in table class) number) no_var).kind

-- the type of the field of the name
abbrev pub field_kind : Table → ℕ → List ℕ → Option Kind
field_kind table class name = option_map (kind_at table class)
    (field_of (fields_in table class) name)

-- the innermost parameter or local of the name, else the field
abbrev pub kind_in : Typing → Locals → List ℕ → Option Kind
kind_in setting locals name =
    option_or (local_kind locals name) (field_kind setting.table setting.class name)
