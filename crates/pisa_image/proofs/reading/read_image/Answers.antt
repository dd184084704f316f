use Rattle.std.proofs.Common.{ap, subst, ◌∙◌, arith}
use Rattle.pisa_image.specs.Reading.{ImageGives, image_at}
use Rattle.pisa_image.proofs.Whole.{is_found, image_again, old_again}
use Rattle.pisa_image.proofs.reading.read_image.Goals as goal

pub returns-clause-found : goal.returns-clause-found
returns-clause-found c = is_found c.args.bytes.now c.image_of.result (λ i. omega (arith, c.type_inv.bytes i))
    c.image_of.ensures

pub returns-clause-only : goal.returns-clause-only
returns-clause-only c = λ n i fit words e. subst (λ read. ImageGives (λ x. x) c.image_of.result read)
    (ap image_at e ∙ image_again n i fit words) c.image_of.ensures

pub returns-clause-old : goal.returns-clause-old
returns-clause-old c = λ image i words e. subst (λ read. ImageGives (λ x. x) c.image_of.result read)
    (ap image_at e ∙ old_again image i words) c.image_of.ensures
