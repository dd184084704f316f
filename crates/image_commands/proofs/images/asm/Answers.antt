use Rattle.command_plan.specs.Plans.{planned}
use Rattle.command_plan.specs.pisa_asm.declared.assembler.TheConstants.{MOST_TEXT}
use Rattle.command_plan.proofs.GivenTexts.{with_text}
use Rattle.image_commands.specs.ImagePlans.{IsAsmPlan}
use Rattle.command_plan.specs.pisa_asm.Passes.{noted_of_text}
use Rattle.image_commands.proofs.images.asm.Goals as goal

pub returns-clause-plan : goal.returns-clause-plan
returns-clause-plan g c =
    with_text (g.S.Shelf.texts c.args.shelf.now) c.args.text.now MOST_TEXT c.in_ok-bytes.bytes.items c.deref.result.now
    (λ text. IsAsmPlan (noted_of_text text) c.args.image.now (planned c.in_ok-asm_text.field-0))
    c.in_ok-bytes.ensures.text c.in_ok-bytes.ensures.within
    c.deref.ensures.value c.in_ok-asm_text.ensures
