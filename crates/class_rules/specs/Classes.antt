-- Classes, their fields, method slots, dispatch and inheritance, from the list of classes only.
use Rattle.std.specs.Prelude.{ℕ, ◌-◌, Bool, List, map, length, take, Option, position}
use Rattle.std.specs.Prelude.{nat_eq}
use Rattle.std.specs.List.{list_any}
use Rattle.std.specs.Option.{unwrap_or}
use Rattle.std.specs.Str.{bytes_eq}
use Rattle.rpp_tree.specs.declared.tree.Var.{Var}
use Rattle.rpp_tree.specs.Tree.{Procedure, Source}
use Rattle.class_rules.specs.declared.method.MethodId.{MethodId}
use Rattle.class_rules.specs.Rules.{all_class_names}
use Rattle.class_rules.specs.Chains.{class_named, class_line}
use Rattle.class_rules.specs.Members.{field_of}
pub use Rattle.class_rules.specs.Members.{class_fields, class_slots, procedure_at}
use Rattle.class_rules.specs.Overrides.{run_at}
use Rattle.class_rules.specs.Mains.{mains, first_main}

-- the number of the class of this name
abbrev pub class_number : Source → List ℕ → Option ℕ
class_number program name = class_named (all_class_names program) name

-- the number of the field of this name
abbrev pub field_number : Source → ℕ → List ℕ → Option ℕ
field_number program class name = field_of (class_fields program class) name

-- the slot of this name
abbrev pub method_slot : Source → ℕ → List ℕ → Option ℕ
method_slot program class name =
    position (bytes_eq name) (map (λ slot. slot.0) (class_slots program class))

-- the method in a slot
abbrev pub dispatch : Source → ℕ → ℕ → MethodId
dispatch program class slot = run_at (class_slots program class) slot

-- the method of this name for an object of the class
abbrev pub method_named : Source → ℕ → List ℕ → Procedure
method_named program class name =
    let slots = class_slots program class in
    let slot = position (bytes_eq name) (map (λ slot. slot.0) slots) in
    procedure_at program (run_at slots (unwrap_or slot 0))

-- the one method `main` without parameters
abbrev pub main_of : Source → MethodId
main_of program = first_main (mains program)

-- whether a class has another above itself
abbrev pub inherits : Source → ℕ → ℕ → Bool
inherits program class from =
    list_any (λ above. nat_eq above from)
    (take (length (class_line program class) - 1) (class_line program class))
