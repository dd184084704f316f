use Rattle.std.proofs.Common.{◌∙◌, sym, ap, map, Some}
use Rattle.std.specs.Prelude.{Option}
use Rattle.live_talks.specs.live_requests.declared.asks.Ask.{Ask}
use Rattle.live_talks.specs.declared.ends.End.TheVariants as end
use Rattle.live_images.specs.Replies.{answered_by, answered_words}
use Rattle.live_images.specs.Sessions.{held_in}
use Rattle.live_images.proofs.Answering.{answer_alone, answer_is}
use Rattle.live_images.proofs.replying.say_words.Goals as goal

pub returns-in-None : goal.returns-in-None
returns-in-None g c =
    answer_alone (answered_words c.args.run.now.limit (map (λ word. word.now) c.args.words.now)
    c.args.run.now.debugger) end.Bad (held_in c.args.run.now)
    (record { bytes = g.K.Sink.written c.args.out.now; puts = g.K.Sink.puts c.args.out.now })
    (record { bytes = g.K.Sink.written c.say_end.new.out; puts = g.K.Sink.puts c.say_end.new.out }) c.say_end.result
    (ap (λ (ask : Option Ask). answered_by c.args.run.now.limit ask (map (λ word. word.now) c.args.words.now)
    c.args.run.now.debugger) (sym c.read_served.ensures ∙ c.in-None.is))
    c.say_end.ensures

pub returns-in-Some : goal.returns-in-Some
returns-in-Some g c =
    answer_is (answered_words c.args.run.now.limit (map (λ word. word.now) c.args.words.now) c.args.run.now.debugger)
    (answered_by c.args.run.now.limit (Some c.in-Some.ask) (map (λ word. word.now) c.args.words.now)
    c.args.run.now.debugger) (held_in c.args.run.now) (held_in c.say_moves.new.run)
    (record { bytes = g.K.Sink.written c.args.out.now; puts = g.K.Sink.puts c.args.out.now })
    (record { bytes = g.K.Sink.written c.say_moves.new.out; puts = g.K.Sink.puts c.say_moves.new.out })
    c.say_moves.result
    (ap (λ (ask : Option Ask). answered_by c.args.run.now.limit ask (map (λ word. word.now) c.args.words.now)
    c.args.run.now.debugger) (sym c.read_served.ensures ∙ c.in-Some.is))
    c.say_moves.ensures
