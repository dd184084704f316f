-- The rules of methods, classes and programs, and what is accepted.
use Rattle.std.specs.Prelude.{◌≡◌, ℕ, ◌+◌, not, List, [], ◌∷◌, map}
use Rattle.rpp_tree.specs.declared.tree.Var.{Var}
use Rattle.rpp_tree.specs.Tree.{Procedure, ClassText, Source}
use Rattle.rpp_tree.specs.Limits.{IsWithinLimits}
use Rattle.class_rules.specs.Names.{has_name}
use Rattle.class_rules.specs.Members.{field_name}
use Rattle.class_rules.specs.Table.{Table, table_of, HasClassTable}
use Rattle.class_rules.specs.Refusal.{redeclared}
use Rattle.class_rules.specs.Scope.{Typing, Locals}
use Rattle.class_rules.specs.Statements.{Verdict, verdict_passed, required, in_turn, each_passes}
use Rattle.class_rules.specs.Statements.{each_passes_after, with_local, check_statements}

-- 14: an earlier parameter has the name
abbrev pub parameter_new : List Var → Var → Verdict
parameter_new before var = required (not (has_name (map field_name before) var.name.text))
    (redeclared var.name.at)

abbrev pub with_parameters : Typing → Locals → List Var → Locals
with_parameters setting locals [] = locals
with_parameters setting locals (var ∷ vars) =
    with_parameters setting (with_local setting locals var) vars

abbrev pub check_method : Typing → Procedure → Verdict
check_method setting method =
    in_turn (each_passes_after parameter_new [] method.params)
    (check_statements setting (with_parameters setting [] method.params) method.body)

abbrev pub setting_in : Source → Table → ℕ → Typing
setting_in program table class = record { program = program; table = table; class = class }

abbrev pub check_class : Source → Table → ℕ → ClassText → Verdict
check_class program table number class =
    each_passes (check_method (setting_in program table number)) class.methods

abbrev pub check_classes : Source → Table → ℕ → List ClassText → Verdict
check_classes program table number [] = verdict_passed
check_classes program table number (class ∷ classes) =
    in_turn (check_class program table number class)
    (check_classes program table (number + 1) classes)

-- the first refusal of a program's types
abbrev pub check_program : Source → Verdict
check_program program = check_classes program (table_of program) 0 program.classes

-- the tree keeps the limits, and no rule of the class table and none of the types refuses the
-- program
pub record IsAccepted (program : Source) : Type 0 where
  pub limits : IsWithinLimits program
  pub classes : HasClassTable program
  pub types : check_program program ≡ verdict_passed
