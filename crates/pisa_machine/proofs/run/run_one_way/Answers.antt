use Rattle.std.proofs.Common.{rules, ◌≡◌, ◌∙◌, sym, ap, refl, arith, Some, w64, SFits}
use Rattle.std.proofs.lemmas.Int.{to_z-of_z}
use Rattle.pisa_isa.specs.Machine.{core_state, fetch}
use Rattle.pisa_machine.specs.Ways.{state_with}
use Rattle.pisa_machine.proofs.Legs.{one_more_at}
use Rattle.pisa_machine.proofs.run.run_one_way.Goals as goal

pub returns-in-Turns-clause-makes : goal.returns-in-Turns-clause-makes
returns-in-Turns-clause-makes g c =
    let words = g.C.Cells.words c.loop-made.cells in
    let fits : SFits w64 c.loop-made.way.pc = search rules in
    let found : fetch c.args.code.now c.loop-made.way.pc ≡ Some c.cell_at-cell.result.now =
    ap (fetch c.args.code.now) (sym (to_z-of_z w64 c.loop-made.way.pc fits)) ∙ c.cell_at-cell.ensures.found in
    let here = state_with c.loop-made.way.pc c.loop-made.way.br c.args.back c.loop-made.core.regs words in
    one_more_at c.args.code.now c.loop-made.made (core_state c.args.core.now (g.C.Cells.words c.args.cells.now)) here _
    c.cell_at-cell.result.now
    c.loop-made.invariant.reaches found c.in-Turns.ensures.stops
    (ap (λ k. core_state k (g.C.Cells.words c.step_by.new.cells)) c.leave-in-Turns.ensures ∙ c.in-Turns.ensures.goes refl)

pub loop-made-preserved : goal.loop-made-preserved
loop-made-preserved g c =
    let words = g.C.Cells.words c.loop-made.cells in
    let fits : SFits w64 c.loop-made.way.pc = search rules in
    let found : fetch c.args.code.now c.loop-made.way.pc ≡ Some c.cell_at-cell.result.now =
    ap (fetch c.args.code.now) (sym (to_z-of_z w64 c.loop-made.way.pc fits)) ∙ c.cell_at-cell.ensures.found in
    let here = state_with c.loop-made.way.pc c.loop-made.way.br c.args.back c.loop-made.core.regs words in
    record {
      reaches = one_more_at c.args.code.now c.loop-made.made
          (core_state c.args.core.now (g.C.Cells.words c.args.cells.now)) here _ c.cell_at-cell.result.now
          c.loop-made.invariant.reaches found c.in-Goes.ensures.stops (c.in-Goes.ensures.goes refl);
      counter = grind (arith, c.tick.ensures, c.loop-made.invariant.counter);
    }
