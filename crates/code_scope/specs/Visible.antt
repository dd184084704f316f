-- The storage slots of a method's visible variables: parameters and locals in words of the current
-- frame, fields in the current object.
use Rattle.std.specs.Prelude.{ℕ, suc, ◌+◌, List, [], ◌∷◌, length, reverse, Option, Some, None}
use Rattle.std.specs.Prelude.{slice_get, if◌then◌else◌}
use Rattle.std.specs.Option.{option_or, option_map, unwrap_or}
use Rattle.std.specs.Str.{bytes_eq}
use Rattle.refine_form.specs.rpp_tree.declared.tree.Program.{Program}
use Rattle.refine_form.specs.rpp_tree.declared.tree.Var.{Var}
use Rattle.refine_form.specs.rpp_tree.declared.tree.VarType.{VarType}
use Rattle.refine_form.specs.rpp_tree.Views.{source_of}
use Rattle.refine_form.specs.class_rules.declared.method.MethodId.{MethodId}
use Rattle.refine_form.specs.class_rules.Members.{field_of}
use Rattle.refine_form.specs.class_rules.Scope.{no_var}
use Rattle.refine_form.specs.class_rules.Table.{table_of, fields_in}
use Rattle.refine_form.specs.code_conventions.declared.memory.TheConstants.{FIRST_VARIABLE}
use Rattle.refine_form.specs.declared.spot.Spot.{Spot}
use Rattle.refine_form.specs.declared.spot.Spot.TheVariants.{Field, Frame}
use Rattle.code_scope.specs.declared.known.Names.{Names}
pub use Rattle.refine_form.specs.Cells.{offset_of}

-- parameters and locals, the innermost first, and the fields of the class
pub record Known : Type 0 where
  pub variables : List Var
  pub fields : List Var

-- the frame word of the innermost variable of a name: those outside of it come before it
abbrev pub word_named : List ℕ → List Var → Option ℕ
word_named name [] = None
word_named name (var ∷ outer) =
    if bytes_eq var.name.text name then Some (FIRST_VARIABLE + length outer) else word_named name
    outer

-- its type
abbrev pub type_named : List ℕ → List Var → Option VarType
type_named name [] = None
type_named name (var ∷ outer) =
    if bytes_eq var.name.text name then Some var.kind else type_named name outer

-- the number of the first variable of a name: of fields, the one by which class tables find them
abbrev pub place_named : List ℕ → List Var → Option ℕ
place_named name [] = None
place_named name (var ∷ rest) =
    if bytes_eq name var.name.text then Some 0 else option_map suc (place_named name rest)

-- the type of the field of a name
abbrev pub field_type : List Var → List ℕ → Option VarType
field_type fields name = option_map (λ number. (unwrap_or (slice_get fields number) no_var).kind)
    (field_of fields name)

-- a name means the innermost variable of that name, else the field: its type
abbrev pub kind_named : Known → List ℕ → Option VarType
kind_named known name = option_or (type_named name known.variables) (field_type known.fields name)

-- and its position
abbrev pub spot_named : Known → List ℕ → Option Spot
spot_named known name =
    option_or (option_map Frame (word_named name known.variables))
    (option_map Field (field_of known.fields name))

-- for a name that means nothing the code takes the first field
abbrev pub spot_of : Known → List ℕ → Spot
spot_of known name = unwrap_or (spot_named known name) (Field 0)

-- the first word of the frame after the variables
abbrev pub free_words_of : Known → ℕ
free_words_of known = FIRST_VARIABLE + length known.variables

-- what names denote
abbrev pub known_by : Names → Known
known_by names = record { variables = reverse names.variables.now; fields = names.fields.now }

-- what is visible in a method: the program, and the parameters and locals, the innermost first
pub record Visible : Type 0 where
  pub program : Program
  pub method : MethodId
  pub variables : List Var

-- with the fields of the class that declares the method
abbrev pub known_in : Visible → Known
known_in scope = record {
  variables = scope.variables;
  fields = fields_in (table_of (source_of scope.program)) scope.method.class;
}

-- the variables without the innermost
abbrev pub outer_of : List Var → List Var
outer_of [] = []
outer_of (var ∷ outer) = outer
