use Rattle.std.proofs.Common.{◌≡◌, ◌≤◌, ap, arith, length}
use Rattle.std.proofs.lemmas.Result.{err_from_is_err_and}
use Rattle.pisa_isa.specs.declared.notes.TheConstants.{MOST_NAME_BYTES}
use Rattle.pisa_image.specs.Reading.{name_at, names_at}
use Rattle.pisa_image.proofs.NoteBytes.{names_next, names_stop, names_done, names_take}
use Rattle.pisa_image.proofs.Whole.{fails_with}
use Rattle.pisa_image.proofs.note_reading.names_at.Goals as goal

pub returns-in_err-name-clause-read : goal.returns-in_err-name-clause-read
returns-in_err-name-clause-read c =
    let p = err_from_is_err_and c.from_residual.result c.from_residual.ensures.1 in
    rw (p.1, p.2) (fails_with c.in_err-name.field-0.0 (name_at c.args.statics c.loop.left c.loop.at c.loop.rest.now)
    (names_at c.args.statics MOST_NAME_BYTES c.args.count c.args.from c.args.bytes.now)
    (λ e h. names_stop c.loop.names.items c.args.statics c.loop.left c.args.count c.loop.counter c.loop.at
    c.loop.rest.now e (names_at c.args.statics MOST_NAME_BYTES c.args.count c.args.from c.args.bytes.now)
    c.loop-test.true h c.loop.invariant.reads)
    c.in_err-name.ensures.read)

pub returns-clause-read : goal.returns-clause-read
returns-clause-read c = names_done c.loop.names.items c.args.statics c.loop.left c.args.count c.loop.counter c.loop.at
    c.loop.rest.now (names_at c.args.statics MOST_NAME_BYTES c.args.count c.args.from c.args.bytes.now)
    c.loop-test.false c.loop.invariant.reads

pub returns-clause-fit : goal.returns-clause-fit
returns-clause-fit c =
    (names_take c.args.statics MOST_NAME_BYTES c.args.count c.args.from c.args.bytes.now
    (c.loop.names.items, c.loop.at, c.loop.rest.now) (λ i. omega (arith, c.type_inv.bytes i))
    (returns-clause-read c)).fit

pub returns-clause-len : goal.returns-clause-len
returns-clause-len c =
    (names_take c.args.statics MOST_NAME_BYTES c.args.count c.args.from c.args.bytes.now
    (c.loop.names.items, c.loop.at, c.loop.rest.now) (λ i. omega (arith, c.type_inv.bytes i))
    (returns-clause-read c)).len

pub loop-preserved : goal.loop-preserved
loop-preserved c =
    let n = c.in_ok-name.name in
    let len : length c.bytes.result.now ≡ length n.text = ap length c.bytes.ensures in
    let short : length n.text ≤ c.loop.left = c.in_ok-name.ensures.len in
    let place = c.loop.invariant.place in
    let left = c.loop.invariant.left in
    record {
      place = omega (arith, len, short, place);
      left = omega (arith, left);
      reads = names_next c.loop.names.items _ c.args.statics c.loop.left c.args.count c.loop.counter c.loop.at
          (length c.bytes.result.now) c.loop.rest.now n c.in_ok-name.after.now
          (names_at c.args.statics MOST_NAME_BYTES c.args.count c.args.from c.args.bytes.now) c.loop-test.true len
          c.in_ok-push.ensures.items c.in_ok-name.ensures.read c.loop.invariant.reads;
    }
