use Rattle.std.proofs.Common.{None}
use Rattle.live_searches.specs.rpp_tree.Views.{source_of}
use Rattle.live_searches.specs.source_debugger.Failures.{account_of}
use Rattle.live_searches.specs.Steps.{IsSameRun}
use Rattle.live_talks.specs.Sessions.{Exchanges}
use Rattle.live_talks.specs.Limits.{held_run}
use Rattle.live_session.specs.Sessions.{RepliesOf}
use Rattle.live_session.proofs.session.serve.Given as goal

-- so many lines were heard and answered
abbrev pub invariant-loop : goal.invariant-loop
invariant-loop g l = record {
  exchanges : Exchanges (RepliesOf (source_of l.fn.debugger.program) (account_of l.fn.debugger)) l.counter
      (held_run l.fn.debugger.position None)
      (held_run l.debugger.position l.limit)
      (record {
        lines = g.A.Asker.lines l.fn.asker;
        heard = g.A.Asker.events l.fn.asker;
        out = record { bytes = g.K.Sink.written l.fn.out; puts = g.K.Sink.puts l.fn.out };
      })
      (record {
        lines = g.A.Asker.lines l.asker;
        heard = g.A.Asker.events l.asker;
        out = record { bytes = g.K.Sink.written l.out; puts = g.K.Sink.puts l.out };
      });
  same : IsSameRun l.fn.debugger l.debugger;
}
