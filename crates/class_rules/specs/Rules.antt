-- The rules of the class table, in their order.
use Rattle.std.specs.Prelude.{◌≡◌, ℕ, not, List, [], map, Option, Some, None}
use Rattle.std.specs.Option.{option_or}
use Rattle.std.specs.List.{list_any}
use Rattle.std.specs.Str.{bytes_eq}
use Rattle.rpp_tree.specs.declared.tree.Ident.{Ident}
use Rattle.rpp_tree.specs.declared.tree.Var.{Var}
use Rattle.rpp_tree.specs.declared.tree.VarType.{VarType}
use Rattle.rpp_tree.specs.declared.tree.VarType.TheVariants as kind
use Rattle.rpp_tree.specs.Tree.{Procedure, ClassText, Source}
use Rattle.class_rules.specs.declared.error.ClassError.{ClassError}
use Rattle.class_rules.specs.declared.error.ClassError.TheVariants.{NoMemory}
use Rattle.class_rules.specs.Refusal.{Refusal, refused, class_refusal}
use Rattle.class_rules.specs.First.{refused_if, first_in, first_after}

abbrev pub class_name : ClassText → List ℕ
class_name class = class.name.text

-- the names of the classes
abbrev pub all_class_names : Source → List (List ℕ)
all_class_names program = map class_name program.classes

-- 5: an earlier class has the name
abbrev pub name_taken : List ClassText → ClassText → Option Refusal
name_taken before class = refused_if (list_any (bytes_eq class.name.text) (map class_name before))
    (refused 5 class.name.at)

abbrev pub duplicate_class : Source → Option Refusal
duplicate_class program = first_after name_taken [] program.classes

-- 6: a name is used as a class, and is none
abbrev pub unknown_name : List (List ℕ) → Ident → Option Refusal
unknown_name names name = refused_if (not (list_any (bytes_eq name.text) names))
    (refused 6 name.at)

abbrev pub unknown_parent : List (List ℕ) → Option Ident → Option Refusal
unknown_parent names None = None
unknown_parent names (Some name) = unknown_name names name

abbrev pub unknown_type : List (List ℕ) → VarType → Option Refusal
unknown_type names (kind.Class name) = unknown_name names name
unknown_type names (kind.ClassArray name) = unknown_name names name
unknown_type names _ = None

abbrev pub unknown_var : List (List ℕ) → Var → Option Refusal
unknown_var names var = unknown_type names var.kind

abbrev pub unknown_params : List (List ℕ) → Procedure → Option Refusal
unknown_params names method = first_in (unknown_var names) method.params

abbrev pub unknown_in_class : List (List ℕ) → ClassText → Option Refusal
unknown_in_class names class =
    option_or (unknown_parent names class.parent)
    (option_or (first_in (unknown_var names) class.fields)
    (first_in (unknown_params names) class.methods))

abbrev pub unknown_class : Source → Option Refusal
unknown_class program = first_in (unknown_in_class (all_class_names program)) program.classes

-- no memory, or just this refusal
abbrev pub IsFirst : Option Refusal → ClassError → Type 0
IsFirst first NoMemory = Unit {0}
IsFirst first error = first ≡ class_refusal error
