-- A run before the step that stops with a fault.
use Rattle.std.specs.Prelude.{◌≡◌, ℕ, false, List, Some, None}
use Rattle.std.specs.declared.option.Option.{Option}
use Rattle.source_checks.specs.rpp_words.declared.input.FieldWord.{FieldWord}
use Rattle.source_checks.specs.rpp_words.declared.input.Limits.{Limits}
use Rattle.source_statements.specs.rpp_tree.Tree.{Source}
use Rattle.source_checks.specs.roopl_semantics.Run.{Fault}
use Rattle.source_checks.specs.meaning_machine.Machine.{Config, next}
use Rattle.source_checks.specs.meaning_machine.SourceLaws.{set_for, start_config}
use Rattle.source_execution.specs.declared.falling.Failing.{Failing}
use Rattle.source_checks.specs.Failures.{MOST_STEPS, failing}
use Rattle.source_execution.specs.Standing.{config_at, setting_at}

-- the position from which a step of a program's run stops with a fault, if one does
abbrev pub failing_of : Source → Limits → List FieldWord → Option Config
failing_of program limits input =
    failing (set_for program limits) MOST_STEPS (start_config program input)

-- the run where its next step stops with this fault
pub record IsFailing (program : Source) (limits : Limits) (input : List FieldWord) (it : Failing)
    : Type 0 where
  pub first : failing_of program limits input ≡ Some (config_at it.execution)
  pub spent : ℕ
  pub stops : next (set_for program limits) (config_at it.execution) ≡ Fault it.code spent
  pub same : setting_at it.execution ≡ set_for program limits
  pub whole : it.execution.broken ≡ false

abbrev pub IsFailingOf : Source → Limits → List FieldWord → Option Failing → Type 0
IsFailingOf program limits input (Some it) = IsFailing program limits input it
IsFailingOf program limits input None = failing_of program limits input ≡ None
