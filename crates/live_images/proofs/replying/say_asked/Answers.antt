use Rattle.std.proofs.Common.{◌∙◌, sym, ap, map, refl, Bor, List, ℕ}
use Rattle.live_talks.specs.pisa_scripts.Lines.{pieces}
use Rattle.live_images.specs.Replies.{answered_words}
use Rattle.live_images.specs.Sessions.{held_in}
use Rattle.live_images.proofs.Answering.{answer_is, answer_unsaid}
use Rattle.live_images.proofs.replying.say_asked.Goals as goal

pub returns-in-Ok : goal.returns-in-Ok
returns-in-Ok g c =
    answer_is (answered_words c.args.run.now.limit (pieces 32 c.args.line.now) c.args.run.now.debugger)
    (answered_words c.args.run.now.limit (map (λ word. word.now) c.deref.result.now) c.args.run.now.debugger)
    (held_in c.args.run.now) (held_in c.say_words.new.run)
    (record { bytes = g.K.Sink.written c.args.out.now; puts = g.K.Sink.puts c.args.out.now })
    (record { bytes = g.K.Sink.written c.say_words.new.out; puts = g.K.Sink.puts c.say_words.new.out })
    c.say_words.result
    (ap (λ (words : List (List ℕ)). answered_words c.args.run.now.limit words c.args.run.now.debugger)
    (sym (ap (λ (words : List (Bor (List ℕ))). map (λ word. word.now) words) c.deref.ensures.value
    ∙ c.in-Ok.ensures)))
    c.say_words.ensures

pub returns-in-Err : goal.returns-in-Err
returns-in-Err g c =
    answer_unsaid (answered_words c.args.run.now.limit (pieces 32 c.args.line.now) c.args.run.now.debugger)
    (held_in c.args.run.now) (held_in c.args.run.now)
    (record { bytes = g.K.Sink.written c.args.out.now; puts = g.K.Sink.puts c.args.out.now })
    (record { bytes = g.K.Sink.written c.say_end.new.out; puts = g.K.Sink.puts c.say_end.new.out }) c.say_end.result
    refl c.say_end.ensures
