use Rattle.pisa_isa.specs.Machine.{core_state}
use Rattle.pisa_machine.specs.Reached.{words_of}
use Rattle.pisa_machine.proofs.Legs.{reached_more}
use Rattle.pisa_machine.proofs.machine.Machine.note_leg.Goals as goal

pub invariant_of-self : goal.invariant_of-self
invariant_of-self g c =
    let self = c.self.inside in
    let m = core_state self.core (words_of self.cells.words.items self.cells.count) in
    let machine = c.self.invariant in
    let makes = rw c.code.ensures.code at c.note_leg-made.ensures.makes in
    record {
      is_image = machine.is_image;
      reached = reached_more self.image.code self.made c.note_leg-made.result m _ machine.is_image.is_code
          machine.reached makes;
    }
