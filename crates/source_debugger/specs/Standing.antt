-- A debugger as contracts see it.
use Rattle.std.specs.Prelude.{◌≡◌, ℕ, List, Some, take}
use Rattle.source_courses.specs.rpp_words.declared.input.FieldWord.{FieldWord}
use Rattle.source_courses.specs.rpp_words.declared.input.Limits.{Limits}
use Rattle.source_courses.specs.rpp_tree.declared.tree.Program.{Program}
use Rattle.source_courses.specs.rpp_tree.Views.{source_of}
use Rattle.source_courses.specs.roopl_semantics.Report.{Text}
use Rattle.source_lines.specs.meaning_points.Trail.{Trail, trail}
use Rattle.source_courses.specs.pisa_scripts.declared.command.Command.{Command}
use Rattle.source_courses.specs.declared.running.TheConstants.{MOST_COST}
use Rattle.source_debugger.specs.Shown.{told}
pub use Rattle.source_courses.specs.Valid.{IsValidRun}

-- the run of a program on an input, and the position
pub record Standing : Type 0 where
  pub program : Program
  pub limits : Limits
  pub input : List FieldWord
  pub position : ℕ

-- the run, as far as the debugger looks
abbrev pub trail_of : Standing → Trail
trail_of d = trail (source_of d.program) d.limits d.input MOST_COST

-- commands lead from one debugger position to another, and print this
pub record CommandsLead (before : Standing) (commands : List Command) (after : Standing)
    (text : Text) : Type 0 where
  pub told : told (source_of before.program) (trail_of before) commands before.position
      ≡ Some (record { position = after.position; text = text })
  pub same : after ≡ record before { position = after.position }

-- so many of the commands were carried out, and no others
pub record IsAlongRun (before : Standing) (commands : List Command) (after : Standing) : Type 0 where
  pub made : ℕ
  pub text : Text
  pub leads : CommandsLead before (take made commands) after text
