use Rattle.std.proofs.Common.{option_map}
use Rattle.live_command.proofs.Imaging.{sized}
use Rattle.live_command.proofs.image.size_image.Goals as goal

pub returns-in-Ok : goal.returns-in-Ok
returns-in-Ok g c =
    sized _ c.args.image c.in-Ok.limits _ (option_map (λ text. text.now) c.args.state.now)
    (record {
      lines = g.A.Asker.lines c.args.asker.now;
      heard = g.A.Asker.events c.args.asker.now;
      out = record { bytes = g.K.Sink.written c.args.out.now; puts = g.K.Sink.puts c.args.out.now };
    })
    (record {
      lines = g.A.Asker.lines c.load_image.new.asker;
      heard = g.A.Asker.events c.load_image.new.asker;
      out = record { bytes = g.K.Sink.written c.load_image.new.out; puts = g.K.Sink.puts c.load_image.new.out };
    }) c.load_image.result c.in-Ok.ensures.answer
    c.in-Ok.ensures.limits c.load_image.ensures
