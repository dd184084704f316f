use Rattle.std.proofs.Common.{◌∙◌, ap, None, option_map, inr}
use Rattle.image_commands.specs.pisa_machine.Position.{Position}
use Rattle.image_commands.specs.ImagePlans.{position_at_start}
use Rattle.live_images.specs.live_talks.Limits.{held_run}
use Rattle.live_images.specs.Sessions.{held_in}
use Rattle.live_command.proofs.Imaging.{machine_opens}
use Rattle.live_command.proofs.image.load_image.Goals as goal

pub returns-in-Ok : goal.returns-in-Ok
returns-in-Ok g c =
    inr (machine_opens (position_at_start c.args.image c.args.limits (option_map (λ text. text.now) c.args.state.now))
    c.in-Ok.machine (held_in c.new-run.result)
    (record {
      lines = g.A.Asker.lines c.args.asker.now;
      heard = g.A.Asker.events c.args.asker.now;
      out = record { bytes = g.K.Sink.written c.args.out.now; puts = g.K.Sink.puts c.args.out.now };
    })
    (record {
      lines = g.A.Asker.lines c.greet_image.new.asker;
      heard = g.A.Asker.events c.greet_image.new.asker;
      out = record { bytes = g.K.Sink.written c.greet_image.new.out; puts = g.K.Sink.puts c.greet_image.new.out };
    }) c.greet_image.result c.in-Ok.ensures
    (c.new-run.ensures ∙ ap (λ (p : Position). held_run p None) c.new.ensures)
    c.greet_image.ensures)
