use Rattle.std.proofs.Common.{◌∙◌, ap}
use Rattle.std.specs.Prelude.{string_bytes}
use Rattle.command_plan.specs.rpp_tree.Views.{source_of}
use Rattle.command_plan.specs.command_ends.declared.verdict.Verdict.TheVariants.{Done}
use Rattle.command_plan.specs.Plans.{planned, prints}
use Rattle.program_commands.proofs.Reported.{reports_store}
use Rattle.program_commands.proofs.going.report_store.Goals as goal

pub returns : goal.returns
returns c =
    reports_store (source_of c.args.setting.now.checked) c.args.setting.now.limits c.args.setting.now.input.words.items
    c.args.setting.now.bound c.args.machine.now c.args.spent c.requires (string_bytes c.in_ok-lines.lines)
    (planned c.prints.result)
    c.in_ok-lines.ensures.last
    (c.prints.ensures ∙ ap (prints Done) c.in_ok-text.ensures)
