use Rattle.std.proofs.Common.{◌∙◌, ◌++◌, ℕ, List, ap}
use Rattle.std.specs.Prelude.{string_bytes}
use Rattle.command_plan.specs.rpp_tree.Views.{source_of}
use Rattle.command_plan.specs.command_ends.declared.verdict.Verdict.TheVariants.{Done}
use Rattle.command_plan.specs.Plans.{planned, prints}
use Rattle.command_plan.specs.Texts.{steps_line}
use Rattle.program_commands.specs.ProgramPlans.{back_lines}
use Rattle.program_commands.proofs.Turned.{reports_turn}
use Rattle.program_commands.proofs.turning.report_both.Goals as goal

pub returns-clause-turn : goal.returns-clause-turn
returns-clause-turn g c =
    reports_turn (source_of c.args.setting.now.checked) c.args.setting.now.limits c.args.setting.now.input.words.items
    c.args.setting.now.bound c.args.machine c.args.spent c.requires
    (string_bytes c.in_ok-there.there) (string_bytes c.in_ok-here.here) c.in_ok-back.back.machine.state.cells
    c.in_ok-back.back.spent c.cells.result (planned c.prints.result)
    c.in_ok-there.ensures.last c.in_ok-here.ensures.first c.in_ok-back.ensures.cells c.in_ok-back.ensures.spent
    c.cells.ensures
    (c.prints.ensures
    ∙ ap (prints Done) c.in_ok-text-2.ensures
    ∙ ap (λ (text : List ℕ). prints Done (text ++ back_lines c.in_ok-back.back.spent c.as_str.result.now
    c.cells.result)) c.in_ok-text.ensures
    ∙ ap (λ (here : List ℕ). prints Done ((string_bytes c.in_ok-there.there ++ steps_line c.args.spent)
    ++ back_lines c.in_ok-back.back.spent here c.cells.result)) c.as_str.ensures.value)
