-- Which fields an input may set, and what it sets.
use Rattle.std.specs.Prelude.{ℕ, ◌+◌, List, [], ◌∷◌, Result, if◌then◌else◌}
use Rattle.roopl_judge.specs.rpp_words.declared.input.FieldWord.{FieldWord}
use Rattle.roopl_judge.specs.rpp_tree.declared.tree.Var.{Var}
use Rattle.roopl_judge.specs.rpp_tree.Tree.{Source}
use Rattle.command_plan.specs.pisa_loader.declared.error.LoadError.{LoadError}
use Rattle.command_plan.specs.pisa_loader.declared.input.InputField.{InputField}
use Rattle.command_plan.specs.pisa_loader.InputLines.{input_of}
use Rattle.roopl_semantics.specs.Source.{main_fields, is_int_type}

-- the int fields of these, the first of which has this number
abbrev pub fields_from : ℕ → List Var → List InputField
fields_from number [] = []
fields_from number (var ∷ vars) =
    if is_int_type var.kind then record { name = var.name.text; field = number }
    ∷ fields_from (number + 1) vars else fields_from (number + 1) vars

-- the int fields of the main class
abbrev pub input_fields : Source → List InputField
input_fields program = fields_from 0 (main_fields program)

-- the words of an input to a program, or the first refusal
abbrev pub given_input : Source → List ℕ → Result (List FieldWord) LoadError
given_input program bytes = input_of (input_fields program) bytes
