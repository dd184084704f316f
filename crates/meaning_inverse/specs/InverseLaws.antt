-- The law of inverses.
use Rattle.std.specs.Prelude.{◌≡◌, ◌<◌, ℕ, List, length}
use Rattle.meaning_reached.specs.rpp_words.Limits.{IsLimits}
use Rattle.meaning_reached.specs.rpp_words.declared.input.FieldWord.{FieldWord}
use Rattle.meaning_reached.specs.rpp_words.declared.input.Limits.{Limits}
use Rattle.meaning_reached.specs.rpp_tree.Tree.{Statements, Source}
use Rattle.meaning_reached.specs.class_rules.Scope.{Locals}
use Rattle.meaning_reached.specs.class_rules.Table.{table_of}
use Rattle.meaning_reached.specs.class_rules.Statements.{verdict_passed, check_statements}
use Rattle.meaning_reached.specs.class_rules.Program.{IsAccepted, setting_in}
use Rattle.meaning_reached.specs.inverse_rules.Inverse.{inverse}
use Rattle.meaning_reached.specs.roopl_semantics.Run.{Done}
use Rattle.meaning_reached.specs.roopl_semantics.Store.{State}
use Rattle.meaning_reached.specs.roopl_semantics.Execution.{Setting, exec}
use Rattle.meaning_reached.specs.roopl_semantics.Source.{IsValid, source, starting, main_body}
use Rattle.meaning_reached.specs.roopl_semantics.Report.{report}
use Rattle.meaning_reached.specs.meaning_sound.Sound.{Sound}
use Rattle.meaning_reached.specs.meaning_sound.Plain.{IsPlain}
use Rattle.meaning_reached.specs.meaning_sound.Kept.{MeansSame}
use Rattle.meaning_inverse.specs.StatesAgree.{AgreeStates}
use Rattle.meaning_inverse.specs.ArrayLengths.{ArraysHaveElements}

-- the inverse of a block leads back from its end, at the same cost, to a state that agrees with its
-- start
pub record InverseLeadsBack (setting : Setting) (body : Statements) (start end : State) (cost : ℕ) : Type 0
  where
    pub back : State
    pub runs : exec setting cost (inverse body) end ≡ Done back cost
    pub agrees : AgreeStates setting.limits.heap start back

-- what an accepted program did, the inverse of its main method undoes
abbrev pub InverseLaw : Type 0
InverseLaw =
    (program : Source) (limits : Limits) (input : List FieldWord) (fuel : ℕ) (end : State)
    (cost : ℕ)
    → IsAccepted program → IsLimits limits → IsValid program input
    → source program limits input fuel ≡ Done end cost
    → InverseLeadsBack (record { program = program; limits = limits }) (main_body program)
    (starting program input) end cost

-- it leads back to a state with the report of its start
pub record ShowsBack (setting : Setting) (body : Statements) (start end : State) (cost : ℕ) : Type 0
  where
    pub leads : InverseLeadsBack setting body start end cost
    pub shown : report setting.program leads.back.store ≡ report setting.program start.store

-- run back, a program prints what it would have printed at its start
abbrev pub InputComesBack : Type 0
InputComesBack =
    (program : Source) (limits : Limits) (input : List FieldWord) (fuel : ℕ) (end : State)
    (cost : ℕ)
    → IsAccepted program → IsLimits limits → IsValid program input
    → source program limits input fuel ≡ Done end cost
    → ShowsBack (record { program = program; limits = limits }) (main_body program)
    (starting program input) end cost

-- the inverse of a checked block undoes what the block did from a sound state
abbrev pub BlocksUndo : Type 0
BlocksUndo =
    (program : Source) (limits : Limits) (fuel : ℕ) (extra : ℕ → ℕ) (locals shape : Locals)
    (class : ℕ)
    (body : Statements) (start end : State) (cost : ℕ)
    → IsAccepted program
    → class < length program.classes → MeansSame locals shape
    → check_statements (setting_in program (table_of program) class) locals body ≡ verdict_passed
    → IsPlain body
    → Sound (record { program = program; limits = limits }) extra shape class start
    → ArraysHaveElements start.store
    → exec (record { program = program; limits = limits }) fuel body start ≡ Done end cost
    → InverseLeadsBack (record { program = program; limits = limits }) body start end cost

-- what `BlocksUndo` asks of arrays holds at the start of a run
abbrev pub StartHasElements : Type 0
StartHasElements = (program : Source) (input : List FieldWord)
    → ArraysHaveElements (starting program input).store

-- and checked blocks keep it
abbrev pub ArraysKeepElements : Type 0
ArraysKeepElements =
    (program : Source) (limits : Limits) (fuel : ℕ) (extra : ℕ → ℕ) (locals shape : Locals)
    (class : ℕ)
    (body : Statements) (start end : State) (cost : ℕ)
    → IsAccepted program
    → class < length program.classes → MeansSame locals shape
    → check_statements (setting_in program (table_of program) class) locals body ≡ verdict_passed
    → IsPlain body
    → Sound (record { program = program; limits = limits }) extra shape class start
    → ArraysHaveElements start.store
    → exec (record { program = program; limits = limits }) fuel body start ≡ Done end cost
    → ArraysHaveElements end.store
