-- The plan of `trace`.
use Rattle.std.specs.Prelude.{◌≡◌, ◌⊎◌, ℕ, List, Some, Result, Ok, Err}
use Rattle.std.specs.declared.option.Option.{Option}
use Rattle.run_settings.specs.rpp_words.declared.input.FieldWord.{FieldWord}
use Rattle.run_settings.specs.rpp_words.declared.input.Limits.{Limits}
use Rattle.run_settings.specs.rpp_tree.declared.limits.TheConstants.{MOST_BYTES}
use Rattle.run_settings.specs.rpp_tree.Tree.{Source}
use Rattle.run_settings.specs.rpp_ports.Ports.{Texts}
use Rattle.source_debugger.specs.meaning_points.Trail.{trail}
use Rattle.debugger_scripts.specs.pisa_scripts.declared.command.Command.{Command}
use Rattle.run_settings.specs.pisa_scripts.declared.lines.TheConstants.{MOST_SCRIPT}
use Rattle.debugger_scripts.specs.declared.error.ScriptError.{ScriptError}
use Rattle.debugger_scripts.specs.declared.error.ScriptError.TheVariants.{BadCommand}
use Rattle.debugger_scripts.specs.declared.error.ScriptError.TheVariants as script
use Rattle.debugger_scripts.specs.Scripts.{script_of}
use Rattle.source_debugger.specs.Shown.{told}
use Rattle.run_settings.specs.command_plan.command_ends.declared.verdict.Verdict.TheVariants.{Done, InputRefused}
use Rattle.run_settings.specs.command_plan.Plans.{Planned, prints, WithText, WithInput}
use Rattle.run_settings.specs.command_plan.Texts.{bad_command_line}
use Rattle.run_settings.specs.Runnable.{RefusesRun, RunsTo}
use Rattle.run_settings.specs.command_plan.declared.plan.Room.{Room}

-- the commands print this text along the run from its start on: there is fuel with which the run is
-- known as far as they go
pub record FollowsScript (commands : List Command) (program : Source) (limits : Limits)
    (input : List FieldWord) (text : List ℕ) : Type 0 where
  pub fuel : ℕ
  pub last : ℕ
  pub told : told program (trail program limits input fuel) commands 0
      ≡ Some (record { position = last; text = text })

-- the first line that is no command is reported, or what the commands print
abbrev pub IsTraceScriptPlan : Result (List Command) ScriptError → Source → Limits → List FieldWord
    → Planned → Type 0
IsTraceScriptPlan (Err (BadCommand line)) program limits input p =
    p ≡ prints InputRefused (bad_command_line line)
IsTraceScriptPlan (Err script.NoMemory) program limits input p = ⊥
IsTraceScriptPlan (Ok commands) program limits input p =
    (text : List ℕ) × FollowsScript commands program limits input text × (p ≡ prints Done text)

-- the first refusal of a text that is to be run is reported, or the script is tried
abbrev pub IsTracePlan : (text script given : List ℕ) → (room : Room) → Planned → Type 0
IsTracePlan text script given room p =
    RefusesRun text given room p
    ⊎ RunsTo text given room (λ program limits input. IsTraceScriptPlan (script_of script) program
    limits input p)

-- the plan of `trace` by this script over this file, on an input if there is one
abbrev pub Traces : (file script : List ℕ) → (input : Option (List ℕ)) → (room : Room)
    → Option Texts
    → Planned → Type 0
Traces file script input room told p =
    WithText told file MOST_BYTES
    (λ text. WithText told script MOST_SCRIPT (λ commands. WithInput told input (λ given.
    IsTracePlan text commands given room p)))
