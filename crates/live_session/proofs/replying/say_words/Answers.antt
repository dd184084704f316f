use Rattle.std.proofs.Common.{◌∙◌, sym, ap, map}
use Rattle.live_session.specs.Replies.{along, asked_moves}
use Rattle.live_session.proofs.Answering.{no_moves, some_moves}
use Rattle.live_session.proofs.replying.say_words.Goals as goal

pub returns-in-None-clause-puts : goal.returns-in-None-clause-puts
returns-in-None-clause-puts g c =
    no_moves c.args.debugger.now c.args.limit (asked_moves (map (λ word. word.now) c.args.words.now))
    (map (λ word. word.now) c.args.words.now)
    (record { bytes = g.K.Sink.written c.args.out.now; puts = g.K.Sink.puts c.args.out.now })
    (record { bytes = g.K.Sink.written c.say_end.new.out; puts = g.K.Sink.puts c.say_end.new.out }) c.say_end.result
    (ap along (sym c.read_ask.ensures) ∙ sym c.along.ensures ∙ c.in-None.is) c.say_end.ensures

pub returns-in-Some-clause-puts : goal.returns-in-Some-clause-puts
returns-in-Some-clause-puts g c =
    some_moves c.args.debugger.now c.args.limit (asked_moves (map (λ word. word.now) c.args.words.now))
    c.in-Some.ask (map (λ word. word.now) c.args.words.now) c.say_moves.new.debugger
    (record { bytes = g.K.Sink.written c.args.out.now; puts = g.K.Sink.puts c.args.out.now })
    (record { bytes = g.K.Sink.written c.say_moves.new.out; puts = g.K.Sink.puts c.say_moves.new.out })
    c.say_moves.result (ap along (sym c.read_ask.ensures) ∙ sym c.along.ensures ∙ c.in-Some.is)
    c.say_moves.ensures.puts
