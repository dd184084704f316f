use Rattle.pisa_isa.proofs.Reached.{reached_first, reached_is_state}
use Rattle.pisa_isa.specs.Machine.{core_state}
use Rattle.pisa_machine.specs.Reached.{words_of}
use Rattle.pisa_machine.proofs.machine.Machine.with_image.Goals as goal

pub invariant_of-result : goal.invariant_of-result
invariant_of-result c =
    let self = c.self.inside in
    let words = words_of self.cells.words.items self.cells.count in
    let here = reached_is_state self.image.code self.made (core_state self.core words) c.self.invariant.is_image.is_code
    c.self.invariant.reached in
    let regs = c.are_registers.ensures in
    record {
      is_image = c.start_core.ensures.image;
      reached = rw c.start_core.ensures.core
          (reached_first c.args.image.code self.core.regs words regs.count regs.words here.cell_words);
    }

pub returns : goal.returns
returns c = rw (← c.self.view_is, c.start_core.ensures.core)
