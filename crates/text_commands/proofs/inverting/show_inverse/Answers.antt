use Rattle.command_plan.specs.Plans.{planned}
use Rattle.roopl_judge.specs.rpp_tree.declared.limits.TheConstants.{MOST_BYTES}
use Rattle.command_plan.proofs.GivenTexts.{with_text}
use Rattle.text_commands.specs.TextPlans.{IsInversePlan}
use Rattle.text_commands.proofs.inverting.show_inverse.Goals as goal

pub returns-clause-plan : goal.returns-clause-plan
returns-clause-plan g c =
    with_text (g.S.Shelf.texts c.args.shelf.now) c.args.file.now MOST_BYTES c.in_ok-text.text.items c.deref.result.now
    (λ text. IsInversePlan text c.args.out.now (planned c.in_ok-invert_text.field-0)) c.in_ok-text.ensures.text
    c.in_ok-text.ensures.within
    c.deref.ensures.value c.in_ok-invert_text.ensures
