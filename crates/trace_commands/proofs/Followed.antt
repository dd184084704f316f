-- What a script prints from the start of a run on.
use Rattle.std.proofs.Common.{◌≡◌, ◌∙◌, sym, ap, List, Some}
use Rattle.run_settings.specs.rpp_words.declared.input.FieldWord.{FieldWord}
use Rattle.run_settings.specs.rpp_words.declared.input.Limits.{Limits}
use Rattle.run_settings.specs.rpp_tree.declared.tree.Program.{Program}
use Rattle.run_settings.specs.rpp_tree.Views.{source_of}
use Rattle.run_settings.specs.roopl_semantics.Report.{Text}
use Rattle.debugger_scripts.specs.pisa_scripts.declared.command.Command.{Command}
use Rattle.source_debugger.specs.source_courses.declared.running.TheConstants.{MOST_COST}
use Rattle.source_debugger.specs.Shown.{told}
use Rattle.source_debugger.specs.Standing.{Standing, trail_of, CommandsLead}
use Rattle.trace_commands.specs.TracePlans.{FollowsScript}

pub followed : (program : Program) (limits : Limits) (input : List FieldWord) (commands : List Command)
    (before after : Standing) (text shown : Text)
    → before ≡ record { program = program; limits = limits; input = input; position = 0 }
    → CommandsLead before commands after text → shown ≡ text
    → FollowsScript commands (source_of program) limits input shown
followed program limits input commands before after text shown first leads same = record {
  fuel = MOST_COST;
  last = after.position;
  told = sym (ap (λ (d : Standing). told (source_of d.program) (trail_of d) commands d.position) first) ∙ leads.told
      ∙ ap (λ (t : Text). Some (record { position = after.position; text = t })) (sym same);
}
