use Rattle.std.proofs.Common.{subst, ◌+◌}
use Rattle.pisa_isa.specs.Machine.{core_state}
use Rattle.pisa_isa.specs.Runs.{End, IsReached, made_in}
use Rattle.pisa_isa.proofs.Reached.{reached_run}
use Rattle.pisa_machine.specs.Reached.{words_of}
use Rattle.pisa_machine.proofs.machine.Machine.run.Goals as goal

pub invariant_of-self : goal.invariant_of-self
invariant_of-self g c =
    let self = c.self.inside in
    let m = core_state self.core (words_of self.cells.words.items self.cells.count) in
    let machine = c.self.invariant in
    let runs = rw c.code.ensures.code at c.run_from-end.ensures.runs in
    let reached = reached_run self.image.code c.args.bound self.made m machine.is_image.is_code machine.reached in
    record {
      is_image = machine.is_image;
      reached = rw c.steps_of.ensures.value (subst (λ (e : End). IsReached self.image.code (self.made + made_in e)
          e.last) runs reached);
    }
