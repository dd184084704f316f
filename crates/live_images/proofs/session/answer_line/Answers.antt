use Rattle.live_images.specs.Sessions.{held_in}
use Rattle.live_images.proofs.Answering.{line_said, line_unsaid}
use Rattle.live_images.proofs.session.answer_line.Goals as goal

pub returns-in-Ok : goal.returns-in-Ok
returns-in-Ok g c =
    line_said c.args.line.now c.in-Ok.request (held_in c.args.run.now) (held_in c.answer.new.run)
    (record { bytes = g.K.Sink.written c.args.out.now; puts = g.K.Sink.puts c.args.out.now })
    (record { bytes = g.K.Sink.written c.answer.new.out; puts = g.K.Sink.puts c.answer.new.out }) c.answer.result
    c.in-Ok.ensures.request c.answer.ensures

pub returns-in-Err : goal.returns-in-Err
returns-in-Err g c =
    line_unsaid c.args.line.now (held_in c.args.run.now)
    (record { bytes = g.K.Sink.written c.args.out.now; puts = g.K.Sink.puts c.args.out.now })
    (record { bytes = g.K.Sink.written c.say_end.new.out; puts = g.K.Sink.puts c.say_end.new.out }) c.say_end.result
    c.in-Err.ensures.quit c.say_end.ensures
