use Rattle.command_plan.specs.Plans.{planned}
use Rattle.command_plan.specs.rpp_tree.declared.limits.TheConstants.{MOST_BYTES}
use Rattle.command_plan.proofs.GivenTexts.{with_text}
use Rattle.program_commands.specs.ProgramPlans.{IsCompilePlan}
use Rattle.program_commands.proofs.compiling.compile_file.Goals as goal

pub returns-clause-plan : goal.returns-clause-plan
returns-clause-plan g c =
    with_text (g.S.Shelf.texts c.args.shelf.now) c.args.file.now MOST_BYTES c.in_ok-text.text.items c.deref.result.now
    (λ text. IsCompilePlan text c.args.image.now (planned c.in_ok-compile_text.field-0)) c.in_ok-text.ensures.text
    c.in_ok-text.ensures.within
    c.deref.ensures.value c.in_ok-compile_text.ensures
