use Rattle.live_command.proofs.Imaging.{along_greets, along_greets_not}
use Rattle.live_images.specs.Sessions.{held_in}
use Rattle.live_command.proofs.image.greet_image.Goals as goal

pub returns-in-Ok : goal.returns-in-Ok
returns-in-Ok g c =
    along_greets (held_in c.args.run.now) (record {
      lines = g.A.Asker.lines c.args.asker.now;
      heard = g.A.Asker.events c.args.asker.now;
      out = record { bytes = g.K.Sink.written c.args.out.now; puts = g.K.Sink.puts c.args.out.now };
    })
    (record { bytes = g.K.Sink.written c.say.new.out; puts = g.K.Sink.puts c.say.new.out })
    (record {
      lines = g.A.Asker.lines c.serve.new.asker;
      heard = g.A.Asker.events c.serve.new.asker;
      out = record { bytes = g.K.Sink.written c.serve.new.out; puts = g.K.Sink.puts c.serve.new.out };
    })
    c.serve.result c.say.result c.in-Ok.is c.say.ensures c.serve.ensures

pub returns-in-Err : goal.returns-in-Err
returns-in-Err g c =
    along_greets_not (held_in c.args.run.now) (record {
      lines = g.A.Asker.lines c.args.asker.now;
      heard = g.A.Asker.events c.args.asker.now;
      out = record { bytes = g.K.Sink.written c.args.out.now; puts = g.K.Sink.puts c.args.out.now };
    })
    (record { bytes = g.K.Sink.written c.say.new.out; puts = g.K.Sink.puts c.say.new.out }) c.status_by.result
    c.say.result c.in-Err.fault c.in-Err.is c.say.ensures c.status_by.ensures
