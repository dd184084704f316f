-- What the plan of a run reports, by how the run ended.
use Rattle.std.specs.Prelude.{◌≡◌, ℕ, ◌<◌, List, ◌++◌}
use Rattle.run_settings.specs.rpp_words.declared.input.FieldWord.{FieldWord}
use Rattle.run_settings.specs.rpp_words.declared.input.Limits.{Limits}
use Rattle.run_settings.specs.rpp_tree.Tree.{Source}
use Rattle.run_settings.specs.roopl_semantics.Store.{State}
use Rattle.run_settings.specs.roopl_semantics.Source.{GivesDone, GivesFault}
use Rattle.run_settings.specs.roopl_semantics.Report.{report}
use Rattle.run_settings.specs.roopl_semantics.StandsFor.{EndsAt, enough_steps}
use Rattle.run_settings.specs.command_plan.command_ends.declared.verdict.Verdict.TheVariants.{Done, Trapped, Bound}
use Rattle.run_settings.specs.command_plan.Plans.{Planned, prints}
use Rattle.run_settings.specs.command_plan.Texts.{steps_line, bound_lines}
use Rattle.run_settings.specs.pisa_scripts.Stops.{fault_line}

-- the source gives a store, and the plan reports it
pub record ReportsStore (program : Source) (limits : Limits) (input : List FieldWord) (spent : ℕ)
    (p : Planned) : Type 0 where
  pub end : State
  pub gives : GivesDone program limits input end
  pub reported : p ≡ prints Done (report program end.store ++ steps_line spent)

-- the source gives this fault, and the plan reports it
pub record ReportsFault (program : Source) (limits : Limits) (input : List FieldWord)
    (code spent : ℕ) (p : Planned) : Type 0 where
  pub gives : GivesFault program limits input code
  pub reported : p ≡ prints Trapped (fault_line code ++ steps_line spent)

-- the bound ended the run, and the plan says so: the source ends at no cost for which so many steps
-- are enough
pub record ReportsBound (program : Source) (limits : Limits) (input : List FieldWord) (steps : ℕ)
    (p : Planned) : Type 0 where
  pub early : (cost : ℕ) → EndsAt program limits input cost → steps < enough_steps cost
  pub reported : p ≡ prints Bound (bound_lines steps)
