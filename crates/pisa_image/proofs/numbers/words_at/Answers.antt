use Rattle.std.proofs.Common.{◌≡◌, ◌++◌, ◌∷◌, [], arith}
use Rattle.std.proofs.lemmas.Result.{err_from_is_err_and}
use Rattle.pisa_isa.specs.rpp_words.Words.{IsWord}
use Rattle.pisa_image.specs.Numbers.{word_bytes, read_word_at, many_at}
use Rattle.pisa_image.proofs.Many.{Taken, many_take, goes_on, stops, is_done}
use Rattle.pisa_image.proofs.Words.{word_takes, fails_with}
use Rattle.pisa_image.proofs.numbers.words_at.Goals as goal

pub returns-in_err-word-clause-read : goal.returns-in_err-word-clause-read
returns-in_err-word-clause-read c =
    let p = err_from_is_err_and c.from_residual-in_err-word.result c.from_residual-in_err-word.ensures.1 in
    rw (p.1, p.2) (fails_with c.in_err-word.field-0.0 (read_word_at c.loop.at c.loop.rest.now)
    (many_at read_word_at 4 c.args.count c.args.from c.args.bytes.now)
    (λ e h. stops read_word_at 4 c.loop.words.items c.args.count c.loop.counter c.loop.at c.loop.rest.now e
    (many_at read_word_at 4 c.args.count c.args.from c.args.bytes.now) c.loop-test.true h c.loop.invariant.reads)
    c.in_err-word.ensures)

pub loop-preserved : goal.loop-preserved
loop-preserved c =
    let pushed : c.push.new.self.items ≡ c.loop.words.items ++ c.in_ok-word.word ∷ [] = c.in_ok-push.ensures.items in
    record {
      place = omega arith;
      reads = rw pushed (goes_on read_word_at 4 c.loop.words.items c.args.count c.loop.counter c.loop.at c.loop.rest.now
          c.in_ok-word.word c.in_ok-word.after.now (many_at read_word_at 4 c.args.count c.args.from c.args.bytes.now)
          c.loop-test.true c.in_ok-word.ensures c.loop.invariant.reads);
    }

pub returns-clause-read : goal.returns-clause-read
returns-clause-read c = is_done read_word_at 4 c.loop.words.items c.args.count c.loop.counter c.loop.at c.loop.rest.now
    (many_at read_word_at 4 c.args.count c.args.from c.args.bytes.now) c.loop-test.false c.loop.invariant.reads

pub returns-clause-len : goal.returns-clause-len
returns-clause-len c =
    let t : Taken word_bytes IsWord c.args.count c.args.bytes.now (c.loop.words.items, c.loop.rest.now) =
    many_take read_word_at 4 word_bytes IsWord word_takes c.args.count c.args.from c.args.bytes.now
    (c.loop.words.items, c.loop.rest.now) (λ i. omega (arith, c.type_inv.bytes i)) (returns-clause-read c) in
    omega (arith, t.1)
