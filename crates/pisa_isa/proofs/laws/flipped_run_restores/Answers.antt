use Rattle.pisa_isa.proofs.Restored.{flipped_run_restores}
use Rattle.pisa_isa.proofs.laws.flipped_run_restores.Goals as goal

pub returns : goal.returns
returns c = λ image n regs cells bound i s clean within.
    flipped_run_restores image.code n regs cells bound i.is_code i.one_start i.one_finish s clean within
