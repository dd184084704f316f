use Rattle.std.proofs.Common.{◌≡◌, ◌∙◌, ap, refl, ℕ, suc, ◌+◌, true, arith}
use Rattle.std.specs.Prelude.{nat_lt}
use Rattle.std.proofs.lemmas.Bool.Decides.{nat_tests}
use Rattle.pisa_scripts.specs.pisa_isa.Machine.{next}
use Rattle.two_way_debugger.specs.declared.moves.TheConstants.{LAST_POSITION}
use Rattle.two_way_debugger.proofs.moves.step.Goals as goal

pub returns-in-Some-clause-ending : goal.returns-in-Some-clause-ending
returns-in-Some-clause-ending g c =
    let below : nat_lt c.args.machine.now.made LAST_POSITION ≡ true = grind (arith, nat_tests) in
    rw (below, ← c.in-Some.ensures.stops) refl

pub returns-in-None-clause-ending : goal.returns-in-None-clause-ending
returns-in-None-clause-ending g c =
    let below : nat_lt c.args.machine.now.made LAST_POSITION ≡ true = grind (arith, nat_tests) in
    rw (below, ← c.in-None.ensures.stops) refl

pub returns-in-None-clause-position : goal.returns-in-None-clause-position
returns-in-None-clause-position g c =
    let p = c.args.machine.now in
    let one : p.made + 1 ≡ suc p.made = omega arith in
    c.in-None.ensures.stepped ∙ ap (λ (n : ℕ). record p { state = next p.image.code p.state; made = n }) one
