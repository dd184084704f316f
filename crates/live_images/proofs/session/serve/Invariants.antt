use Rattle.live_talks.specs.Limits.{WithLimits}
use Rattle.live_talks.specs.Sessions.{Exchanges}
use Rattle.live_images.specs.Sessions.{ImageRepliesOf, held_in}
use Rattle.live_images.proofs.session.serve.Given as goal

-- so many lines were heard and answered
abbrev pub invariant-loop : goal.invariant-loop
invariant-loop g l =
    Exchanges (WithLimits ImageRepliesOf) l.counter (held_in l.fn.run) (held_in l.run)
    (record {
      lines = g.A.Asker.lines l.fn.asker;
      heard = g.A.Asker.events l.fn.asker;
      out = record { bytes = g.K.Sink.written l.fn.out; puts = g.K.Sink.puts l.fn.out };
    })
    (record {
      lines = g.A.Asker.lines l.asker;
      heard = g.A.Asker.events l.asker;
      out = record { bytes = g.K.Sink.written l.out; puts = g.K.Sink.puts l.out };
    })
