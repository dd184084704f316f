use Rattle.std.proofs.Common.{◌≡◌, ◌++◌, ◌∷◌, [], arith}
use Rattle.std.proofs.lemmas.Result.{err_from_is_err_and}
use Rattle.pisa_image.specs.Numbers.{many_at}
use Rattle.pisa_image.specs.Reading.{mark_at}
use Rattle.pisa_image.proofs.Many.{goes_on, stops, is_done}
use Rattle.pisa_image.proofs.NoteBytes.{marks_take}
use Rattle.pisa_image.proofs.Whole.{fails_with}
use Rattle.pisa_image.proofs.note_reading.marks_at.Goals as goal

pub returns-in_err-mark-clause-read : goal.returns-in_err-mark-clause-read
returns-in_err-mark-clause-read c =
    let p = err_from_is_err_and c.from_residual-in_err-mark.result c.from_residual-in_err-mark.ensures.1 in
    rw (p.1, p.2) (fails_with c.in_err-mark.field-0.0 (mark_at c.args.cells c.loop.at c.loop.rest.now)
    (many_at (mark_at c.args.cells) 12 c.args.count c.args.from c.args.bytes.now)
    (λ e h. stops (mark_at c.args.cells) 12 c.loop.marks.items c.args.count c.loop.counter c.loop.at c.loop.rest.now e
    (many_at (mark_at c.args.cells) 12 c.args.count c.args.from c.args.bytes.now) c.loop-test.true h
    c.loop.invariant.reads)
    c.in_err-mark.ensures)

pub loop-preserved : goal.loop-preserved
loop-preserved c =
    let pushed : c.push.new.self.items ≡ c.loop.marks.items ++ c.in_ok-mark.mark ∷ [] = c.in_ok-push.ensures.items in
    record {
      place = omega arith;
      reads = rw pushed (goes_on (mark_at c.args.cells) 12 c.loop.marks.items c.args.count c.loop.counter c.loop.at
          c.loop.rest.now c.in_ok-mark.mark c.in_ok-mark.after.now
          (many_at (mark_at c.args.cells) 12 c.args.count c.args.from c.args.bytes.now) c.loop-test.true
          c.in_ok-mark.ensures c.loop.invariant.reads);
    }

pub returns-clause-read : goal.returns-clause-read
returns-clause-read c = is_done (mark_at c.args.cells) 12 c.loop.marks.items c.args.count c.loop.counter c.loop.at
    c.loop.rest.now (many_at (mark_at c.args.cells) 12 c.args.count c.args.from c.args.bytes.now) c.loop-test.false
    c.loop.invariant.reads

pub returns-clause-fit : goal.returns-clause-fit
returns-clause-fit c =
    (marks_take c.args.cells c.args.count c.args.from c.args.bytes.now (c.loop.marks.items, c.loop.rest.now)
    (λ i. omega (arith, c.type_inv.bytes i)) (returns-clause-read c)).fit

pub returns-clause-len : goal.returns-clause-len
returns-clause-len c =
    (marks_take c.args.cells c.args.count c.args.from c.args.bytes.now (c.loop.marks.items, c.loop.rest.now)
    (λ i. omega (arith, c.type_inv.bytes i)) (returns-clause-read c)).len
