-- The methods `main` without parameters.
use Rattle.std.specs.Prelude.{ℕ, ◌+◌, Bool, true, false, ◌&&◌, List, [], ◌∷◌, ◌++◌, codes, Option}
use Rattle.std.specs.Prelude.{Some, None, if◌then◌else◌}
use Rattle.std.specs.Str.{bytes_eq}
use Rattle.rpp_tree.specs.declared.tree.Var.{Var}
use Rattle.rpp_tree.specs.Tree.{Procedure, ClassText, Source}
use Rattle.class_rules.specs.declared.method.MethodId.{MethodId}
use Rattle.class_rules.specs.declared.mains.Main.{Main}
use Rattle.class_rules.specs.Refusal.{Refusal, refused}
use Rattle.class_rules.specs.Overrides.{no_method}

abbrev pub has_none : List Var → Bool
has_none [] = true
has_none (var ∷ vars) = false

abbrev pub is_main : Procedure → Bool
is_main method = bytes_eq method.name.text (codes "main") && has_none method.params

abbrev pub mains_in : ℕ → ℕ → List Procedure → List Main
mains_in class number [] = []
mains_in class number (method ∷ methods) =
    if is_main method then record {
      runs = record { class = class; method = number };
      at = method.name.at;
    } ∷ mains_in class (number + 1) methods
    else mains_in class (number + 1) methods

abbrev pub mains_from : ℕ → List ClassText → List Main
mains_from number [] = []
mains_from number (class ∷ classes) = mains_in number 0 class.methods
    ++ mains_from (number + 1) classes

abbrev pub mains : Source → List Main
mains program = mains_from 0 program.classes

-- 11: there is none; 12: there are two
abbrev pub main_refusal : ℕ → List Main → Option Refusal
main_refusal end [] = Some (refused 11 end)
main_refusal end (main ∷ []) = None
main_refusal end (main ∷ (second ∷ more)) = Some (refused 12 second.at)

abbrev pub first_main : List Main → MethodId
first_main [] = no_method
first_main (main ∷ more) = main.runs
