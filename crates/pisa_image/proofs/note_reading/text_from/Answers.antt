use Rattle.std.proofs.Common.{◌≡◌, ◌+◌, ◌∙◌, ap, ◌++◌, ◌∷◌, [], length, length-append, arith}
use Rattle.std.proofs.lemmas.Result.{err_from_is_err_and}
use Rattle.pisa_isa.specs.rpp_words.Names.{is_name_byte}
use Rattle.pisa_image.specs.Reading.{tested_byte, text_from}
use Rattle.pisa_image.proofs.Many.{goes_on, stops, is_done}
use Rattle.pisa_image.proofs.Whole.{fails_with}
use Rattle.pisa_image.proofs.note_reading.text_from.Goals as goal

pub returns-in_err-byte-clause-read : goal.returns-in_err-byte-clause-read
returns-in_err-byte-clause-read c =
    let p = err_from_is_err_and c.from_residual-in_err-byte.result c.from_residual-in_err-byte.ensures.1 in
    rw (p.1, p.2) (fails_with c.in_err-byte.field-0.0 (tested_byte is_name_byte c.loop.at c.loop.rest.now)
    (text_from c.args.first c.args.count c.args.from c.args.bytes.now)
    (λ e h. stops (tested_byte is_name_byte) 1 c.loop.text.items c.args.count c.loop.counter c.loop.at c.loop.rest.now e
    (text_from c.args.first c.args.count c.args.from c.args.bytes.now) c.loop-test.true h c.loop.invariant.reads)
    c.in_err-byte.ensures)

pub returns-clause-read : goal.returns-clause-read
returns-clause-read c = is_done (tested_byte is_name_byte) 1 c.loop.text.items c.args.count c.loop.counter c.loop.at
    c.loop.rest.now (text_from c.args.first c.args.count c.args.from c.args.bytes.now) c.loop-test.false
    c.loop.invariant.reads

pub loop-preserved : goal.loop-preserved
loop-preserved c =
    let pushed : c.push-in-loop.new.self.items ≡ c.loop.text.items ++ c.in_ok-byte.byte ∷ [] =
    c.in_ok-push-2.ensures.items in
    let len : length c.push-in-loop.new.self.items ≡ length c.loop.text.items + 1 = ap length pushed
    ∙ length-append c.loop.text.items (c.in_ok-byte.byte ∷ []) in
    record {
      place = omega arith;
      len = omega (arith, len);
      reads = rw pushed (goes_on (tested_byte is_name_byte) 1 c.loop.text.items c.args.count c.loop.counter c.loop.at
          c.loop.rest.now c.in_ok-byte.byte c.in_ok-byte.after.now
          (text_from c.args.first c.args.count c.args.from c.args.bytes.now) c.loop-test.true c.in_ok-byte.ensures
          c.loop.invariant.reads);
    }
