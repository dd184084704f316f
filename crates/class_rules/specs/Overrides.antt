-- Methods that a class declares twice, or overrides with other parameters.
use Rattle.std.specs.Prelude.{ℕ, ◌-◌, Bool, true, false, not, ◌&&◌, List, [], ◌∷◌, map, length}
use Rattle.std.specs.Prelude.{take, Option, Some, None, slice_get, position}
use Rattle.std.specs.Option.{unwrap_or, option_map}
use Rattle.std.specs.Str.{bytes_eq}
use Rattle.rpp_tree.specs.declared.tree.Var.{Var}
use Rattle.rpp_tree.specs.declared.tree.VarType.{VarType}
use Rattle.rpp_tree.specs.declared.tree.VarType.TheVariants as type
use Rattle.rpp_tree.specs.Tree.{Procedure, ClassText, Source}
use Rattle.class_rules.specs.declared.method.MethodId.{MethodId}
use Rattle.class_rules.specs.Refusal.{Refusal, refused}
use Rattle.class_rules.specs.First.{refused_if, first_in, first_after, first_at}
use Rattle.class_rules.specs.Names.{has_name}
use Rattle.class_rules.specs.Chains.{class_line}
use Rattle.class_rules.specs.Members.{Slots, slots_along, no_procedure, procedure_at}

abbrev pub method_name : Procedure → List ℕ
method_name method = method.name.text

-- 9: an earlier method of the same class has the name
abbrev pub method_taken : List Procedure → Procedure → Option Refusal
method_taken before method = refused_if (has_name (map method_name before) method.name.text)
    (refused 9 method.name.at)

abbrev pub duplicate_method_in : ClassText → Option Refusal
duplicate_method_in class = first_after method_taken [] class.methods

abbrev pub duplicate_method : Source → Option Refusal
duplicate_method program = first_in duplicate_method_in program.classes

abbrev pub is_type_int : VarType → Bool
is_type_int type.Int = true
is_type_int _ = false

abbrev pub same_type : VarType → VarType → Bool
same_type type.Int type.Int = true
same_type (type.Class name) (type.Class other) = bytes_eq name.text other.text
same_type type.IntArray type.IntArray = true
same_type (type.ClassArray name) (type.ClassArray other) = bytes_eq name.text other.text
same_type _ _ = false

abbrev pub same_types : List Var → List Var → Bool
same_types [] [] = true
same_types (x ∷ xs) (y ∷ ys) = same_type x.kind y.kind && same_types xs ys
same_types _ _ = false

abbrev pub parameters_in : List Procedure → ℕ → List Var
parameters_in methods number = (unwrap_or (slice_get methods number) no_procedure).params

abbrev pub parameters_of : Source → MethodId → List Var
parameters_of program runs = (procedure_at program runs).params

abbrev pub no_method : MethodId
no_method = record { class = 0; method = 0 }

-- the method in a slot
abbrev pub run_at : Slots → ℕ → MethodId
run_at slots slot = unwrap_or (option_map (λ entry. entry.1) (slice_get slots slot)) no_method

-- 10: the inherited method of the name has another list of parameter types
abbrev pub override_in_slot : Source → Slots → Procedure → Option ℕ → Option Refusal
override_in_slot program slots method None = None
override_in_slot program slots method (Some slot) =
    refused_if (not (same_types (parameters_of program (run_at slots slot)) method.params))
    (refused 10 method.name.at)

abbrev pub override_differs : Source → Slots → Procedure → Option Refusal
override_differs program slots method =
    override_in_slot program slots method
    (position (bytes_eq method.name.text) (map (λ slot. slot.0) slots))

-- the slots that a class inherits
abbrev pub inherited_slots : Source → ℕ → Slots
inherited_slots program class =
    slots_along program [] (take (length (class_line program class) - 1) (class_line program class))

abbrev pub override_differs_at : Source → ℕ → ClassText → Option Refusal
override_differs_at program number class =
    first_in (override_differs program (inherited_slots program number)) class.methods

abbrev pub differing_override : Source → Option Refusal
differing_override program = first_at (override_differs_at program) 0 program.classes
