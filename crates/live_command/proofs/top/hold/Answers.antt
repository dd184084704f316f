use Rattle.std.proofs.Common.{refl, inl}
use Rattle.live_command.proofs.Living.{held}
use Rattle.live_command.proofs.top.hold.Goals as goal

pub returns-in-Ok : goal.returns-in-Ok
returns-in-Ok g c =
    held c.in-Ok.debugger
    (record { program = c.args.checked; limits = c.args.limits; input = c.args.input.now.words.items; position = 0 })
    (record {
      lines = g.A.Asker.lines c.args.asker.now;
      heard = g.A.Asker.events c.args.asker.now;
      out = record { bytes = g.K.Sink.written c.args.out.now; puts = g.K.Sink.puts c.args.out.now };
    })
    (record {
      lines = g.A.Asker.lines c.greet.new.asker;
      heard = g.A.Asker.events c.greet.new.asker;
      out = record { bytes = g.K.Sink.written c.greet.new.out; puts = g.K.Sink.puts c.greet.new.out };
    }) c.greet.result c.in-Ok.ensures c.greet.ensures

pub returns : goal.returns
returns g c = inl (refl, refl)
