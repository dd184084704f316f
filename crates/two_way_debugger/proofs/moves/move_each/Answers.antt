use Rattle.std.proofs.Common.{◌∙◌, sym, ap, arith}
use Rattle.two_way_debugger.specs.Moves.{MachineWalk}
use Rattle.two_way_debugger.proofs.Walking.{walk_within, walk_ended, walk_arrived, walk_more, walk_over}
use Rattle.two_way_debugger.proofs.moves.move_each.Goals as goal

pub returns-in-Some : goal.returns-in-Some
returns-in-Some g c =
    let l = c.loop-made in
    let whole = l.invariant.rest ∙ walk_ended c.args.backward c.args.place c.args.most l.made l.machine c.in-Some.ending
    c.loop-made-test.true (sym c.in-Some.ensures.ending) in
    let spent = ap (λ (w : MachineWalk). w.spent) whole in
    record {
      ending = sym (ap (λ (w : MachineWalk). w.ending) whole);
      position = c.in-Some.ensures.position ∙ sym (ap (λ (w : MachineWalk). w.position) whole);
      counter = omega (arith, spent, c.in-Some.ensures.counter);
      within = walk_within c.args.backward c.args.place c.args.most c.args.machine.now;
    }

pub returns-then-is_at : goal.returns-then-is_at
returns-then-is_at g c =
    let l = c.loop-made in
    let whole = l.invariant.rest ∙ walk_arrived c.args.backward c.args.place c.args.most l.made l.machine
    c.move_once.new.machine c.loop-made-test.true (sym c.in_default.ensures.ending) c.in_default.ensures.position
    (sym c.if-is_at.ensures) in
    let spent = ap (λ (w : MachineWalk). w.spent) whole in
    record {
      ending = sym (ap (λ (w : MachineWalk). w.ending) whole);
      position = sym (ap (λ (w : MachineWalk). w.position) whole);
      counter = omega (arith, spent, c.in_default.ensures.counter);
      within = walk_within c.args.backward c.args.place c.args.most c.args.machine.now;
    }

pub loop-made-preserved : goal.loop-made-preserved
loop-made-preserved g c =
    let l = c.loop-made in
    record {
      rest = l.invariant.rest ∙ walk_more c.args.backward c.args.place c.args.most l.made l.machine
          c.move_once.new.machine c.loop-made-test.true (sym c.in_default.ensures.ending) c.in_default.ensures.position
          (sym c.if-is_at.ensures);
      counter = omega (arith, c.in_default.ensures.counter);
    }

pub returns : goal.returns
returns g c =
    let l = c.loop-made in
    let whole = l.invariant.rest ∙ walk_over c.args.backward c.args.place c.args.most l.made l.machine
    c.loop-made-test.false in
    let spent = ap (λ (w : MachineWalk). w.spent) whole in
    record {
      ending = sym (ap (λ (w : MachineWalk). w.ending) whole);
      position = sym (ap (λ (w : MachineWalk). w.position) whole);
      counter = omega (arith, spent);
      within = walk_within c.args.backward c.args.place c.args.most c.args.machine.now;
    }
