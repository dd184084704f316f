use Rattle.std.proofs.Common.{◌≡◌, arith}
use Rattle.pisa_isa.specs.Runs.{counted}
use Rattle.pisa_machine.proofs.Watched.{untold, no_lines, told_once, lines_once}
use Rattle.pisa_machine.proofs.telling.tell_stop.Goals as goal

pub returns-then-steps_of-eq0-clause-told : goal.returns-then-steps_of-eq0-clause-told
returns-then-steps_of-eq0-clause-told g c =
    let none : counted c.args.stop ≡ 0 = grind (arith, c.steps_of.ensures.value, c.if-steps_of-eq0.true) in
    untold (counted c.args.stop) c.args.step _ none

pub returns-then-steps_of-eq0-clause-lines : goal.returns-then-steps_of-eq0-clause-lines
returns-then-steps_of-eq0-clause-lines g c =
    let none : counted c.args.stop ≡ 0 = grind (arith, c.steps_of.ensures.value, c.if-steps_of-eq0.true) in
    no_lines (counted c.args.stop) c.args.step _ _ none

pub returns-in-Ok-clause-told : goal.returns-in-Ok-clause-told
returns-in-Ok-clause-told g c =
    let one : counted c.args.stop ≡ 1 = grind (arith, c.steps_of.ensures, c.if-steps_of-eq0.false) in
    told_once (counted c.args.stop) c.args.step _ _ one c.in-Ok.ensures.told

pub returns-in-Ok-clause-lines : goal.returns-in-Ok-clause-lines
returns-in-Ok-clause-lines g c =
    let one : counted c.args.stop ≡ 1 = grind (arith, c.steps_of.ensures, c.if-steps_of-eq0.false) in
    lines_once (counted c.args.stop) c.args.step _ _ _ one c.in-Ok.ensures.lines
