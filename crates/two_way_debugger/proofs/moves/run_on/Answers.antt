use Rattle.std.proofs.Common.{◌≡◌, ◌+◌, ◌<◌, ◌≤◌, sym, ap, arith}
use Rattle.two_way_debugger.specs.declared.moves.TheConstants.{LAST_POSITION}
use Rattle.two_way_debugger.specs.Moves.{MachineWalk}
use Rattle.two_way_debugger.proofs.RunOn.{stopped, all_made, at_last}
use Rattle.two_way_debugger.proofs.moves.run_on.Goals as goal

pub returns-then-made-before : goal.returns-then-made-before
returns-then-made-before g c =
    let old = c.args.machine.now in
    let new = c.run-end.new.self in
    let end = c.run-end.result in
    let run = c.run-end.ensures in
    let bound = c.min-bound.result in
    let least = c.min-bound.ensures in
    let before = c.made-before.ensures.made in
    let room : old.made + bound ≤ LAST_POSITION = omega (arith, least, before, c.if-before-ge-LAST_POSITION.false) in
    let within : bound ≤ c.args.most = omega (arith, least) in
    let whole = stopped c.args.most bound old new end.stop end.spent within room run.image run.runs run.made
    (λ all. c.if-made-before.true (omega (arith, all, c.made.ensures.made, before))) in
    let spent = ap (λ (w : MachineWalk). w.spent) whole in
    record {
      ending = sym (ap (λ (w : MachineWalk). w.ending) whole);
      position = sym (ap (λ (w : MachineWalk). w.position) whole);
      counter = omega (arith, spent, run.counter);
    }

pub returns-then-bound-most : goal.returns-then-bound-most
returns-then-bound-most g c =
    let old = c.args.machine.now in
    let new = c.run-end.new.self in
    let end = c.run-end.result in
    let run = c.run-end.ensures in
    let bound = c.min-bound.result in
    let least = c.min-bound.ensures in
    let before = c.made-before.ensures.made in
    let room : old.made + bound ≤ LAST_POSITION = omega (arith, least, before, c.if-before-ge-LAST_POSITION.false) in
    let all : new.made ≡ old.made + bound = omega (arith, c.if-made-before.false, c.made.ensures.made, before) in
    let less : bound < c.args.most = omega (arith, least, c.if-bound-most.true) in
    let full : LAST_POSITION ≤ new.made =
    omega (arith, all, least, before, less, c.if-before-ge-LAST_POSITION.false) in
    let whole = at_last c.args.most bound old new end.stop end.spent less room run.image run.runs run.made all full in
    let spent = ap (λ (w : MachineWalk). w.spent) whole in
    record {
      ending = sym (ap (λ (w : MachineWalk). w.ending) whole);
      position = sym (ap (λ (w : MachineWalk). w.position) whole);
      counter = omega (arith, spent, run.counter);
    }

pub returns-else-bound-most : goal.returns-else-bound-most
returns-else-bound-most g c =
    let old = c.args.machine.now in
    let new = c.run-end.new.self in
    let end = c.run-end.result in
    let run = c.run-end.ensures in
    let bound = c.min-bound.result in
    let least = c.min-bound.ensures in
    let before = c.made-before.ensures.made in
    let room : old.made + bound ≤ LAST_POSITION = omega (arith, least, before, c.if-before-ge-LAST_POSITION.false) in
    let all : new.made ≡ old.made + bound = omega (arith, c.if-made-before.false, c.made.ensures.made, before) in
    let same : bound ≡ c.args.most = omega (arith, c.if-bound-most.false) in
    let whole = all_made c.args.most bound old new end.stop end.spent same room run.image run.runs run.made all in
    let spent = ap (λ (w : MachineWalk). w.spent) whole in
    record {
      ending = sym (ap (λ (w : MachineWalk). w.ending) whole);
      position = sym (ap (λ (w : MachineWalk). w.position) whole);
      counter = omega (arith, spent, run.counter);
    }
