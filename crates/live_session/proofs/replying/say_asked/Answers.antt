use Rattle.std.proofs.Common.{◌∙◌, ap, map, refl, Bor, List, ℕ, false}
use Rattle.live_talks.specs.pisa_scripts.Lines.{pieces}
use Rattle.live_searches.specs.rpp_tree.Views.{source_of}
use Rattle.live_searches.specs.source_debugger.Failures.{account_of}
use Rattle.live_talks.proofs.Putting.{text_unsaid}
use Rattle.live_session.specs.Replies.{asked_moves}
use Rattle.live_session.specs.Serving.{RepliesMoves}
use Rattle.live_session.proofs.Answering.{words_said}
use Rattle.live_session.proofs.replying.say_asked.Goals as goal

pub returns-in-Ok-clause-puts : goal.returns-in-Ok-clause-puts
returns-in-Ok-clause-puts g c =
    words_said c.args.debugger.now c.args.limit (map (λ word. word.now) c.deref.result.now)
    (pieces 32 c.args.line.now) c.say_words.new.debugger
    (record { bytes = g.K.Sink.written c.args.out.now; puts = g.K.Sink.puts c.args.out.now })
    (record { bytes = g.K.Sink.written c.say_words.new.out; puts = g.K.Sink.puts c.say_words.new.out })
    c.say_words.result
    (ap (λ (words : List (Bor (List ℕ))). map (λ word. word.now) words) c.deref.ensures.value ∙ c.in-Ok.ensures)
    c.say_words.ensures.puts

pub returns-in-Err-clause-puts : goal.returns-in-Err-clause-puts
returns-in-Err-clause-puts g c =
    text_unsaid (RepliesMoves (source_of c.args.debugger.now.program) (account_of c.args.debugger.now) c.args.limit
    (asked_moves (pieces 32 c.args.line.now)) (pieces 32 c.args.line.now) c.args.debugger.now.position) false
    c.args.debugger.now.position c.args.debugger.now.position
    (record { bytes = g.K.Sink.written c.args.out.now; puts = g.K.Sink.puts c.args.out.now })
    (record { bytes = g.K.Sink.written c.say_end.new.out; puts = g.K.Sink.puts c.say_end.new.out }) c.say_end.result
    refl refl c.say_end.ensures
