use Rattle.std.proofs.Common.{refl, ◌∙◌, ap}
use Rattle.std.specs.Prelude.{string_bytes}
use Rattle.image_searches.specs.pisa_machine.Position.{Position}
use Rattle.live_images.specs.Replies.{spent, reply_of}
use Rattle.live_images.specs.Sessions.{held_in}
use Rattle.live_images.proofs.Answering.{answer_said, answer_unsaid}
use Rattle.live_images.proofs.replying.say_spent.Goals as goal

pub returns-in-Ok : goal.returns-in-Ok
returns-in-Ok g c =
    answer_said (spent c.args.run.now.debugger) (held_in c.args.run.now) (held_in c.args.run.now)
    (string_bytes c.in-Ok.text) c.as_str.result.now
    (record { bytes = g.K.Sink.written c.args.out.now; puts = g.K.Sink.puts c.args.out.now })
    (record { bytes = g.K.Sink.written c.say_text.new.out; puts = g.K.Sink.puts c.say_text.new.out }) c.say_text.result
    (c.in-Ok.ensures ∙ ap (λ (p : Position). reply_of (spent p)) c.machine.ensures) refl refl c.as_str.ensures.value
    c.say_text.ensures

pub returns-in-Err : goal.returns-in-Err
returns-in-Err g c =
    answer_unsaid (spent c.args.run.now.debugger) (held_in c.args.run.now) (held_in c.args.run.now)
    (record { bytes = g.K.Sink.written c.args.out.now; puts = g.K.Sink.puts c.args.out.now })
    (record { bytes = g.K.Sink.written c.say_end.new.out; puts = g.K.Sink.puts c.say_end.new.out }) c.say_end.result
    refl c.say_end.ensures
