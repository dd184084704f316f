-- Single moves of a debugger.
use Rattle.std.specs.Prelude.{◌≡◌, ℕ, true, false, nat_eq, List, ◌++◌, Some}
use Rattle.source_debugger.specs.meaning_points.rpp_tree.Views.{source_of}
use Rattle.live_requests.specs.pisa_scripts.declared.command.Command.{Command}
use Rattle.live_requests.specs.pisa_scripts.declared.command.Command.TheVariants as command
use Rattle.source_debugger.specs.Shown.{told_by}
use Rattle.source_debugger.specs.Standing.{Standing, trail_of}
use Rattle.live_searches.specs.declared.moves.Step.{Step}
use Rattle.live_searches.specs.declared.moves.Step.TheVariants.{Gone, Stuck, Lost}

-- a debugger of the same run, at some position
abbrev pub IsSameRun : (before after : Standing) → Type 0
IsSameRun before after = after ≡ record before { position = after.position }

-- a command led from one debugger position to another and printed a line
pub record LeadsBy (before : Standing) (way : Command) (after : Standing) (old new : List ℕ)
    : Type 0 where
  pub line : List ℕ
  pub told : told_by (source_of before.program) (trail_of before) way before.position
      ≡ Some (record { position = after.position; text = line })
  pub added : new ≡ old ++ line
  pub same : IsSameRun before after

-- the same, and whether it led nowhere
abbrev pub Goes : (before : Standing) → Command → (after : Standing) → (old new : List ℕ) → Step
    → Type 0
Goes before way after old new Gone = LeadsBy before way after old new
    × (nat_eq after.position before.position ≡ false)
Goes before way after old new Stuck = LeadsBy before way after old new
    × (nat_eq after.position before.position ≡ true)
Goes before way after old new (Lost lack) = after ≡ before
