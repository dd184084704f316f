use Rattle.std.proofs.Common.{refl, map, Some}
use Rattle.std.specs.Prelude.{string_bytes}
use Rattle.live_talks.specs.Limits.{held_run}
use Rattle.live_images.specs.Replies.{answered_by}
use Rattle.live_images.specs.Sessions.{held_in}
use Rattle.live_images.proofs.Answering.{answer_said, answer_roomless}
use Rattle.live_images.proofs.replying.say_moves.Goals as goal

pub returns-in-Ok : goal.returns-in-Ok
returns-in-Ok g c =
    answer_said (answered_by c.args.run.now.limit (Some c.args.ask) (map (λ word. word.now) c.args.words.now)
    c.args.run.now.debugger) (held_in c.args.run.now)
    (held_run c.tell_moves.new.debugger c.args.run.now.limit) (string_bytes c.in-Ok.text) c.as_str.result.now
    (record { bytes = g.K.Sink.written c.args.out.now; puts = g.K.Sink.puts c.args.out.now })
    (record { bytes = g.K.Sink.written c.say_text.new.out; puts = g.K.Sink.puts c.say_text.new.out }) c.say_text.result
    c.in-Ok.ensures.reply c.in-Ok.ensures.leads refl c.as_str.ensures.value c.say_text.ensures

pub returns-in-Err : goal.returns-in-Err
returns-in-Err g c =
    answer_roomless (answered_by c.args.run.now.limit (Some c.args.ask) (map (λ word. word.now) c.args.words.now)
    c.args.run.now.debugger) (held_in c.args.run.now)
    (held_run c.tell_moves.new.debugger c.args.run.now.limit)
    (record { bytes = g.K.Sink.written c.args.out.now; puts = g.K.Sink.puts c.args.out.now })
