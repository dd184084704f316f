-- The laws of what execution keeps.
use Rattle.std.specs.Prelude.{◌≡◌, ◌<◌, ℕ, List, [], length}
use Rattle.roopl_semantics.specs.rpp_words.declared.input.FieldWord.{FieldWord}
use Rattle.roopl_semantics.specs.rpp_words.declared.input.Limits.{Limits}
use Rattle.roopl_semantics.specs.rpp_tree.Tree.{Statements, Source}
use Rattle.roopl_semantics.specs.class_rules.Scope.{Locals, local_kind}
use Rattle.roopl_semantics.specs.class_rules.Table.{table_of}
use Rattle.roopl_semantics.specs.class_rules.Statements.{verdict_passed, check_statements}
use Rattle.roopl_semantics.specs.class_rules.Program.{IsAccepted, setting_in}
use Rattle.roopl_semantics.specs.Run.{Done}
use Rattle.roopl_semantics.specs.Store.{State}
use Rattle.roopl_semantics.specs.Execution.{exec}
use Rattle.roopl_semantics.specs.Source.{IsValid, starting, source}
use Rattle.roopl_semantics.specs.class_rules.Classes.{main_of}
use Rattle.roopl_semantics.specs.rpp_words.Limits.{IsLimits}
use Rattle.meaning_sound.specs.Sound.{Sound, Keeps, main_alone}
use Rattle.meaning_sound.specs.Plain.{IsPlain, ProgramIsPlain}

-- names mean the same in both lists of variables
pub record MeansSame (locals shape : Locals) : Type 0 where
  pub same : (name : List ℕ) → local_kind locals name ≡ local_kind shape name

-- in an accepted program the literals are words, and no name is empty
abbrev pub AcceptedIsPlain : Type 0
AcceptedIsPlain = (program : Source) → IsAccepted program → ProgramIsPlain program

-- the start of a run is sound
abbrev pub StartIsSound : Type 0
StartIsSound =
    (program : Source) (limits : Limits) (input : List FieldWord) → IsLimits limits
    → IsValid program input
    → Sound (record { program = program; limits = limits }) main_alone [] (main_of program).class
    (starting program input)

-- what is done by a checked block of an accepted program keeps a sound state sound, and what is
-- held besides
abbrev pub ExecutionKeeps : Type 0
ExecutionKeeps =
    (program : Source) (limits : Limits) (fuel : ℕ) (extra : ℕ → ℕ) (locals shape : Locals)
    (class : ℕ)
    (body : Statements) (start end : State) (cost : ℕ)
    → IsAccepted program
    → class < length program.classes → MeansSame locals shape
    → check_statements (setting_in program (table_of program) class) locals body ≡ verdict_passed
    → IsPlain body
    → Sound (record { program = program; limits = limits }) extra shape class start
    → exec (record { program = program; limits = limits }) fuel body start ≡ Done end cost
    → Keeps (record { program = program; limits = limits }) extra shape class start end

-- what a run of an accepted program ends with is sound
abbrev pub EndIsSound : Type 0
EndIsSound =
    (program : Source) (limits : Limits) (input : List FieldWord) (fuel : ℕ) (end : State)
    (cost : ℕ)
    → IsAccepted program → IsLimits limits → IsValid program input
    → source program limits input fuel ≡ Done end cost
    → Keeps (record { program = program; limits = limits }) main_alone [] (main_of program).class
    (starting program input) end
