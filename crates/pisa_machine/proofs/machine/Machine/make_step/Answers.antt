use Rattle.std.proofs.Common.{◌≡◌, sym, subst, suc, ◌+◌, arith, refl, ℕ}
use Rattle.pisa_isa.specs.Machine.{core_state, next}
use Rattle.pisa_isa.specs.Runs.{IsReached}
use Rattle.pisa_isa.proofs.Keeps.{reached_after}
use Rattle.pisa_machine.specs.Reached.{words_of}
use Rattle.pisa_machine.proofs.machine.Machine.make_step.Goals as goal

pub invariant_of-self-in-None : goal.invariant_of-self-in-None
invariant_of-self-in-None g c =
    let self = c.self.inside in
    let m = core_state self.core (words_of self.cells.words.items self.cells.count) in
    let stops = rw c.code.ensures.code at c.in-None.ensures.stops in
    let n : suc self.made ≡ self.made + 1 = omega arith in
    record {
      is_image = c.self.invariant.is_image;
      reached = rw (c.in-None.ensures.goes refl, c.code.ensures.code)
          (subst (λ (k : ℕ). IsReached self.image.code k (next self.image.code m)) n
          (reached_after self.image.code self.made m c.self.invariant.is_image.is_code c.self.invariant.reached
          (sym stops)));
    }
