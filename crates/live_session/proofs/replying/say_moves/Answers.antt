use Rattle.std.proofs.Common.{refl, ap, map, Err, Some, false}
use Rattle.std.specs.Prelude.{string_bytes}
use Rattle.live_searches.specs.rpp_tree.Views.{source_of}
use Rattle.live_searches.specs.source_debugger.Failures.{account_of}
use Rattle.live_searches.specs.source_debugger.Standing.{Standing}
use Rattle.live_talks.specs.Serving.{OrMemory}
use Rattle.live_talks.proofs.Putting.{text_said, text_unsaid, roomless}
use Rattle.live_session.specs.Serving.{RepliesMoves}
use Rattle.live_session.proofs.replying.say_moves.Goals as goal

pub returns-in-Ok-clause-puts : goal.returns-in-Ok-clause-puts
returns-in-Ok-clause-puts g c =
    text_said (RepliesMoves (source_of c.args.debugger.now.program) (account_of c.args.debugger.now) c.args.limit
    (Some c.args.ask) (map (λ word. word.now) c.args.words.now) c.args.debugger.now.position)
    c.args.debugger.now.position c.carry_moves.new.debugger.position (string_bytes c.in-Ok.text) c.as_str.result.now
    (record { bytes = g.K.Sink.written c.args.out.now; puts = g.K.Sink.puts c.args.out.now })
    (record { bytes = g.K.Sink.written c.say_text.new.out; puts = g.K.Sink.puts c.say_text.new.out }) c.say_text.result
    c.in-Ok.ensures.told.replied c.as_str.ensures.value c.say_text.ensures

pub returns-in-Err-Unmoved-clause-puts : goal.returns-in-Err-Unmoved-clause-puts
returns-in-Err-Unmoved-clause-puts g c =
    text_unsaid (RepliesMoves (source_of c.args.debugger.now.program) (account_of c.args.debugger.now) c.args.limit
    (Some c.args.ask) (map (λ word. word.now) c.args.words.now) c.args.debugger.now.position) false
    c.args.debugger.now.position c.carry_moves.new.debugger.position
    (record { bytes = g.K.Sink.written c.args.out.now; puts = g.K.Sink.puts c.args.out.now })
    (record { bytes = g.K.Sink.written c.say_end.new.out; puts = g.K.Sink.puts c.say_end.new.out }) c.say_end.result
    (ap (λ (d : Standing). d.position) (c.in-Err-Unmoved.ensures.stays (ap Err c.in-Err-Unmoved.field-0-is))) refl
    c.say_end.ensures

pub returns-in-Err-Moved-clause-puts : goal.returns-in-Err-Moved-clause-puts
returns-in-Err-Moved-clause-puts g c =
    roomless (OrMemory (RepliesMoves (source_of c.args.debugger.now.program) (account_of c.args.debugger.now)
    c.args.limit
    (Some c.args.ask) (map (λ word. word.now) c.args.words.now) c.args.debugger.now.position)
    c.args.debugger.now.position) false
    c.args.debugger.now.position c.carry_moves.new.debugger.position
    (record { bytes = g.K.Sink.written c.args.out.now; puts = g.K.Sink.puts c.args.out.now })
