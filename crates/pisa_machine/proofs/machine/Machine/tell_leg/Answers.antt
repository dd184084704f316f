use Rattle.std.proofs.Common.{◌≤◌, length, arith}
use Rattle.pisa_machine.specs.Told.{counted_steps}
use Rattle.rpp_probes.proofs.Sure.{no_lines, none_of_sure}
use Rattle.pisa_machine.proofs.Watched.{counted_length}
use Rattle.pisa_machine.proofs.machine.Machine.tell_leg.Goals as goal

pub returns-clause-lines : goal.returns-clause-lines
returns-clause-lines g c =
    let self = c.args.self.now in
    let leg = c.note_leg-made.ensures in
    let told = counted_steps self.image.code c.note_leg-made.result self.state in
    let count = counted_length self.image.code c.note_leg-made.result self.state _ leg.makes in
    let few : length told ≤ length c.args.noted.now = omega (arith, count, leg.within) in
    no_lines told _ (none_of_sure (length c.args.noted.now) told _ c.requires.sure few)
