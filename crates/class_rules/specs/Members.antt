-- Fields and method slots, by the chain of parents.
use Rattle.std.specs.Prelude.{ℕ, ◌+◌, ◌-◌, Bool, nat_lt, List, [], ◌∷◌, ◌++◌, map, length, take}
use Rattle.std.specs.Prelude.{Option, None, slice_get, position}
use Rattle.std.specs.Option.{option_or, unwrap_or}
use Rattle.std.specs.Str.{bytes_eq}
use Rattle.indexmap.specs.IndexMap.{insert_entry}
use Rattle.rpp_tree.specs.declared.tree.Var.{Var}
use Rattle.rpp_tree.specs.Tree.{End, Procedure, ClassText, Source}
use Rattle.class_rules.specs.declared.method.MethodId.{MethodId}
use Rattle.class_rules.specs.Refusal.{Refusal, refused}
use Rattle.rpp_tree.specs.declared.limits.TheConstants.{MOST_FIELDS, MOST_METHODS}
use Rattle.class_rules.specs.First.{refused_if, first_at, each_below}
use Rattle.class_rules.specs.Names.{has_name, with_names}
use Rattle.class_rules.specs.Chains.{class_line}

abbrev pub no_class : ClassText
no_class = record { name = record { at = 0; text = [] }; parent = None; fields = []; methods = [] }

abbrev pub no_procedure : Procedure
no_procedure = record { name = record { at = 0; text = [] }; params = []; body = End }

abbrev pub class_at : Source → ℕ → ClassText
class_at program number = unwrap_or (slice_get program.classes number) no_class

-- the text of a method
abbrev pub procedure_at : Source → MethodId → Procedure
procedure_at program id = unwrap_or (slice_get (class_at program id.class).methods id.method)
    no_procedure

abbrev pub fields_along : Source → List ℕ → List Var
fields_along program [] = []
fields_along program (class ∷ below) = (class_at program class).fields ++ fields_along program below

-- the fields of the ancestors, the farthest first
abbrev pub inherited : Source → ℕ → List Var
inherited program class =
    fields_along program (take (length (class_line program class) - 1) (class_line program class))

-- a class's fields: the parent's first, then its own
abbrev pub class_fields : Source → ℕ → List Var
class_fields program class = fields_along program (class_line program class)

abbrev pub fields : Source → List (List Var)
fields program = each_below (class_fields program) (length program.classes)

abbrev pub field_name : Var → List ℕ
field_name var = var.name.text

-- the number of the field of this name among these
abbrev pub field_of : List Var → List ℕ → Option ℕ
field_of vars name = position (bytes_eq name) (map field_name vars)

-- whether a variable of the name is among these
abbrev pub has_field : List Var → List ℕ → Bool
has_field vars name = has_name (map field_name vars) name

-- the names of the fields of these classes, each once, after those that are already listed
abbrev pub names_along : Source → List (List ℕ) → List ℕ → List (List ℕ)
names_along program names [] = names
names_along program names (class ∷ below) =
    names_along program (with_names names (map field_name (class_at program class).fields)) below

-- 8: an earlier field of the class or an inherited field has the name
abbrev pub field_taken : List (List ℕ) → Var → Option Refusal
field_taken names var = refused_if (has_name names var.name.text) (refused 8 var.name.at)

-- the first field whose name is among these or those of earlier fields
abbrev pub taken_field : List (List ℕ) → List Var → Option Refusal
taken_field names [] = None
taken_field names (var ∷ vars) =
    option_or (field_taken names var) (taken_field (names ++ var.name.text ∷ []) vars)

abbrev pub duplicate_field_at : Source → ℕ → ClassText → Option Refusal
duplicate_field_at program number class =
    taken_field (map field_name (inherited program number)) class.fields

abbrev pub duplicate_field : Source → Option Refusal
duplicate_field program = first_at (duplicate_field_at program) 0 program.classes

-- 4: the class has more fields than the limit
abbrev pub too_many_fields_at : Source → ℕ → ClassText → Option Refusal
too_many_fields_at program number class =
    refused_if (nat_lt MOST_FIELDS (length (class_fields program number)))
    (refused 4 class.name.at)

abbrev pub too_many_fields : Source → Option Refusal
too_many_fields program = first_at (too_many_fields_at program) 0 program.classes

-- the name of each slot with the method that runs
abbrev pub Slots : Type 0
Slots = List (List ℕ × MethodId)

-- the slots with those of these methods
abbrev pub with_methods : ℕ → ℕ → List Procedure → Slots → Slots
with_methods class number [] slots = slots
with_methods class number (method ∷ methods) slots =
    with_methods class (number + 1) methods
    (insert_entry bytes_eq slots method.name.text (record { class = class; method = number }))

abbrev pub slots_along : Source → Slots → List ℕ → Slots
slots_along program slots [] = slots
slots_along program slots (class ∷ below) =
    slots_along program (with_methods class 0 (class_at program class).methods slots) below

-- a class's method slots: the parent's first; an overriding method keeps its slot, a new one gets
-- the next
abbrev pub class_slots : Source → ℕ → Slots
class_slots program class = slots_along program [] (class_line program class)

abbrev pub slots : Source → List Slots
slots program = each_below (class_slots program) (length program.classes)

-- 4: the class has more method slots than the limit
abbrev pub too_many_slots_at : Source → ℕ → ClassText → Option Refusal
too_many_slots_at program number class =
    refused_if (nat_lt MOST_METHODS (length (class_slots program number)))
    (refused 4 class.name.at)

abbrev pub too_many_slots : Source → Option Refusal
too_many_slots program = first_at (too_many_slots_at program) 0 program.classes
