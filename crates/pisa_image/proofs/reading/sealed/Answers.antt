use Rattle.pisa_image.proofs.Whole.{is_refused}
use Rattle.pisa_image.proofs.reading.sealed.Goals as goal

pub count_refusal-requires : goal.count_refusal-requires
count_refusal-requires c = (is_refused c.args.code.items c.args.statics.items c.in-Err.refusal c.requires.cells
    c.in-Err.ensures.sealed).0
