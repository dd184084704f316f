-- What the parts of the top call say of what they asked.
use Rattle.std.specs.Prelude.{◌≡◌, ◌⊎◌, ℕ, List, string_bytes}
use Rattle.std.specs.declared.option.Option.{Option}
use Rattle.command_line.specs.rpp_probes.Tally.{Watch}
use Rattle.command_line.specs.rpp_ports.Ports.{Texts}
use Rattle.command_line.specs.rpp_ports.Events.{Event}
use Rattle.command_line.specs.command_plan.Plans.{Planned}
use Rattle.command_line.specs.command_plan.Reads.{Gave, StopsAt, ReadsSome}
use Rattle.command_line.specs.command_plan.declared.plan.NoPlan.{NoPlan}
use Rattle.command_line.specs.command_plan.declared.plan.NoPlan.TheVariants.{Unread, NoMemory}
use Rattle.command_line.specs.Lines.{Asked}
use Rattle.rpp_command.specs.Causes.{files_of}
use Rattle.rpp_command.specs.GivenPlans.{IsPlanOf}
use Rattle.plan_serving.specs.Outside.{Shelved}
use Rattle.rpp_command.specs.Answers.{ReadAll}

-- the files of the line gave their texts, and this is a plan of them
pub record PlansRead (line : Asked) (probes kept : List Watch) (count counted : ℕ)
    (told : Option Texts) (old new : List Event) (plan : Planned) : Type 0 where
  pub texts : List (List ℕ)
  pub gave : Gave told (files_of line) texts old new
  pub is_plan : IsPlanOf line probes kept count counted texts plan

-- why there is no plan, and what was read until then
abbrev pub StopsPlan : Asked → (probes kept : List Watch) → (rose : Type 0)
    → (shelf shelf' : Shelved) → NoPlan → Type 0
StopsPlan line probes kept rose shelf shelf' (Unread text) =
    StopsAt shelf.texts (files_of line) rose (string_bytes text) shelf.calls shelf'.calls
    × (kept ≡ probes)
StopsPlan line probes kept rose shelf shelf' NoMemory =
    (ReadsSome (files_of line) shelf.calls shelf'.calls × (kept ≡ probes))
    ⊎ ReadAll line probes kept shelf shelf'
