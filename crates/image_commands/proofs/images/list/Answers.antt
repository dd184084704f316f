use Rattle.command_plan.specs.Plans.{planned}
use Rattle.command_plan.specs.declared.reading.TheConstants.{MOST_IMAGE}
use Rattle.command_plan.proofs.GivenTexts.{with_text}
use Rattle.image_commands.specs.ImagePlans.{IsListPlan}
use Rattle.command_plan.specs.pisa_image.Reading.{image_at}
use Rattle.image_commands.proofs.images.list.Goals as goal

pub returns-clause-plan : goal.returns-clause-plan
returns-clause-plan g c =
    with_text (g.S.Shelf.texts c.args.shelf.now) c.args.image.now MOST_IMAGE c.in_ok-bytes.bytes.items
    c.deref.result.now
    (λ text. IsListPlan (image_at text) c.args.text.now (planned c.in_ok-list_bytes.field-0)) c.in_ok-bytes.ensures.text
    c.in_ok-bytes.ensures.within
    c.deref.ensures.value c.in_ok-list_bytes.ensures
