use Rattle.std.proofs.Common.{subst, ℕ}
use Rattle.std.specs.Prelude.{Option}
use Rattle.live_talks.specs.Limits.{WithLimits}
use Rattle.live_talks.specs.Serving.{Serves}
use Rattle.live_images.specs.Sessions.{ImageRepliesOf, held_in}
use Rattle.live_talks.proofs.Putting.{one_more, over, enough}
use Rattle.live_images.proofs.session.serve.Goals as goal

pub loop-preserved : goal.loop-preserved
loop-preserved g c =
    one_more (WithLimits ImageRepliesOf) c.loop.counter (held_in c.args.run.now) (held_in c.loop.run)
    (held_in c.exchange.new.run)
    (record {
      lines = g.A.Asker.lines c.args.asker.now;
      heard = g.A.Asker.events c.args.asker.now;
      out = record { bytes = g.K.Sink.written c.args.out.now; puts = g.K.Sink.puts c.args.out.now };
    })
    (record {
      lines = g.A.Asker.lines c.loop.asker;
      heard = g.A.Asker.events c.loop.asker;
      out = record { bytes = g.K.Sink.written c.loop.out; puts = g.K.Sink.puts c.loop.out };
    })
    (record {
      lines = g.A.Asker.lines c.exchange.new.asker;
      heard = g.A.Asker.events c.exchange.new.asker;
      out = record { bytes = g.K.Sink.written c.exchange.new.out; puts = g.K.Sink.puts c.exchange.new.out };
    }) c.loop.invariant
    (subst (λ (r : Option ℕ). Serves (WithLimits ImageRepliesOf) (held_in c.loop.run) (held_in c.exchange.new.run)
    (record {
      lines = g.A.Asker.lines c.loop.asker;
      heard = g.A.Asker.events c.loop.asker;
      out = record { bytes = g.K.Sink.written c.loop.out; puts = g.K.Sink.puts c.loop.out };
    })
    (record {
      lines = g.A.Asker.lines c.exchange.new.asker;
      heard = g.A.Asker.events c.exchange.new.asker;
      out = record { bytes = g.K.Sink.written c.exchange.new.out; puts = g.K.Sink.puts c.exchange.new.out };
    }) r) c.in-None.is c.exchange.ensures)

pub returns-in-Some : goal.returns-in-Some
returns-in-Some g c =
    over (WithLimits ImageRepliesOf) c.loop.counter (held_in c.args.run.now) (held_in c.loop.run)
    (record {
      lines = g.A.Asker.lines c.args.asker.now;
      heard = g.A.Asker.events c.args.asker.now;
      out = record { bytes = g.K.Sink.written c.args.out.now; puts = g.K.Sink.puts c.args.out.now };
    })
    (record {
      lines = g.A.Asker.lines c.loop.asker;
      heard = g.A.Asker.events c.loop.asker;
      out = record { bytes = g.K.Sink.written c.loop.out; puts = g.K.Sink.puts c.loop.out };
    })
    (record {
      lines = g.A.Asker.lines c.exchange.new.asker;
      heard = g.A.Asker.events c.exchange.new.asker;
      out = record { bytes = g.K.Sink.written c.exchange.new.out; puts = g.K.Sink.puts c.exchange.new.out };
    }) c.in-Some.status c.loop.invariant
    (subst (λ (r : Option ℕ). Serves (WithLimits ImageRepliesOf) (held_in c.loop.run) (held_in c.exchange.new.run)
    (record {
      lines = g.A.Asker.lines c.loop.asker;
      heard = g.A.Asker.events c.loop.asker;
      out = record { bytes = g.K.Sink.written c.loop.out; puts = g.K.Sink.puts c.loop.out };
    })
    (record {
      lines = g.A.Asker.lines c.exchange.new.asker;
      heard = g.A.Asker.events c.exchange.new.asker;
      out = record { bytes = g.K.Sink.written c.exchange.new.out; puts = g.K.Sink.puts c.exchange.new.out };
    }) r) c.in-Some.is c.exchange.ensures)

pub returns : goal.returns
returns g c =
    enough (WithLimits ImageRepliesOf) c.loop.counter (held_in c.args.run.now) (held_in c.loop.run)
    (record {
      lines = g.A.Asker.lines c.args.asker.now;
      heard = g.A.Asker.events c.args.asker.now;
      out = record { bytes = g.K.Sink.written c.args.out.now; puts = g.K.Sink.puts c.args.out.now };
    })
    (record {
      lines = g.A.Asker.lines c.loop.asker;
      heard = g.A.Asker.events c.loop.asker;
      out = record { bytes = g.K.Sink.written c.loop.out; puts = g.K.Sink.puts c.loop.out };
    }) c.loop.invariant c.loop-test.false
