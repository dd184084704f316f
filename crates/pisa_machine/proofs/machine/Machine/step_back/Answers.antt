use Rattle.std.proofs.Common.{◌≡◌, subst, ◌-◌, suc, arith, ℕ}
use Rattle.pisa_isa.specs.Machine.{core_state}
use Rattle.pisa_isa.specs.Runs.{IsReached}
use Rattle.pisa_isa.proofs.Keeps.{reached_next, reached_before}
use Rattle.pisa_machine.specs.Reached.{words_of}
use Rattle.pisa_machine.proofs.machine.Machine.step_back.Goals as goal

pub unstep-requires-clause-made : goal.unstep-requires-clause-made
unstep-requires-clause-made g c =
    let self = c.self.inside in
    let m = core_state self.core (words_of self.cells.words.items self.cells.count) in
    let n : self.made ≡ suc (self.made - 1) = omega arith in
    let r = subst (λ (k : ℕ). IsReached self.image.code k m) n c.self.invariant.reached in
    rw c.code.ensures.code (reached_next self.image.code (self.made - 1) m c.self.invariant.is_image.is_code r)

pub invariant_of-self : goal.invariant_of-self
invariant_of-self g c =
    let self = c.self.inside in
    let m = core_state self.core (words_of self.cells.words.items self.cells.count) in
    let n : self.made ≡ suc (self.made - 1) = omega arith in
    let r = subst (λ (k : ℕ). IsReached self.image.code k m) n c.self.invariant.reached in
    record {
      is_image = c.self.invariant.is_image;
      reached = rw (c.unstep.ensures.back, c.code.ensures.code)
          (reached_before self.image.code (self.made - 1) m c.self.invariant.is_image.is_code r);
    }

pub returns-clause-undoes : goal.returns-clause-undoes
returns-clause-undoes g c =
    let self = c.self.inside in
    let m = core_state self.core (words_of self.cells.words.items self.cells.count) in
    let n : self.made ≡ suc (self.made - 1) = omega arith in
    let r = subst (λ (k : ℕ). IsReached self.image.code k m) n c.self.invariant.reached in
    rw (← c.self.view_is) (λ _. reached_next self.image.code (self.made - 1) m c.self.invariant.is_image.is_code r)
