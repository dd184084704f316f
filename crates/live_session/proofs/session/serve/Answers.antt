use Rattle.std.proofs.Common.{None, Some}
use Rattle.live_searches.specs.rpp_tree.Views.{source_of}
use Rattle.live_searches.specs.source_debugger.Failures.{account_of}
use Rattle.live_talks.specs.Limits.{held_run}
use Rattle.live_talks.proofs.Putting.{one_more, over, enough}
use Rattle.live_session.specs.Sessions.{RepliesOf}
use Rattle.live_session.proofs.Along.{goes_along}
use Rattle.live_session.proofs.Answering.{same_runs}
use Rattle.live_session.proofs.session.serve.Goals as goal

pub loop-preserved : goal.loop-preserved
loop-preserved g c = record {
  exchanges = one_more (RepliesOf (source_of c.args.debugger.now.program) (account_of c.args.debugger.now))
      c.loop.counter
      (held_run c.args.debugger.now.position None) (held_run c.loop.debugger.position c.loop.limit)
      (held_run c.exchange.new.debugger.position c.exchange.new.limit)
      (record {
        lines = g.A.Asker.lines c.args.asker.now;
        heard = g.A.Asker.events c.args.asker.now;
        out = record { bytes = g.K.Sink.written c.args.out.now; puts = g.K.Sink.puts c.args.out.now };
      })
      (record {
        lines = g.A.Asker.lines c.loop.asker;
        heard = g.A.Asker.events c.loop.asker;
        out = record { bytes = g.K.Sink.written c.loop.out; puts = g.K.Sink.puts c.loop.out };
      })
      (record {
        lines = g.A.Asker.lines c.exchange.new.asker;
        heard = g.A.Asker.events c.exchange.new.asker;
        out = record { bytes = g.K.Sink.written c.exchange.new.out; puts = g.K.Sink.puts c.exchange.new.out };
      })
      c.loop.invariant.exchanges
      (goes_along c.args.debugger.now c.loop.debugger (held_run c.loop.debugger.position c.loop.limit)
      (held_run c.exchange.new.debugger.position c.exchange.new.limit) (record {
        lines = g.A.Asker.lines c.loop.asker;
        heard = g.A.Asker.events c.loop.asker;
        out = record { bytes = g.K.Sink.written c.loop.out; puts = g.K.Sink.puts c.loop.out };
      })
      (record {
        lines = g.A.Asker.lines c.exchange.new.asker;
        heard = g.A.Asker.events c.exchange.new.asker;
        out = record { bytes = g.K.Sink.written c.exchange.new.out; puts = g.K.Sink.puts c.exchange.new.out };
      }) c.exchange.result None c.loop.invariant.same c.in-None.is
      c.exchange.ensures.goes);
  same = same_runs c.args.debugger.now c.loop.debugger c.exchange.new.debugger c.loop.invariant.same
      c.exchange.ensures.same;
}

pub returns-in-Some : goal.returns-in-Some
returns-in-Some g c =
    over (RepliesOf (source_of c.args.debugger.now.program) (account_of c.args.debugger.now)) c.loop.counter
    (held_run c.args.debugger.now.position None) (held_run c.loop.debugger.position c.loop.limit)
    (record {
      lines = g.A.Asker.lines c.args.asker.now;
      heard = g.A.Asker.events c.args.asker.now;
      out = record { bytes = g.K.Sink.written c.args.out.now; puts = g.K.Sink.puts c.args.out.now };
    })
    (record {
      lines = g.A.Asker.lines c.loop.asker;
      heard = g.A.Asker.events c.loop.asker;
      out = record { bytes = g.K.Sink.written c.loop.out; puts = g.K.Sink.puts c.loop.out };
    })
    (record {
      lines = g.A.Asker.lines c.exchange.new.asker;
      heard = g.A.Asker.events c.exchange.new.asker;
      out = record { bytes = g.K.Sink.written c.exchange.new.out; puts = g.K.Sink.puts c.exchange.new.out };
    })
    c.in-Some.status c.loop.invariant.exchanges
    (goes_along c.args.debugger.now c.loop.debugger (held_run c.loop.debugger.position c.loop.limit)
    (held_run c.exchange.new.debugger.position c.exchange.new.limit) (record {
      lines = g.A.Asker.lines c.loop.asker;
      heard = g.A.Asker.events c.loop.asker;
      out = record { bytes = g.K.Sink.written c.loop.out; puts = g.K.Sink.puts c.loop.out };
    })
    (record {
      lines = g.A.Asker.lines c.exchange.new.asker;
      heard = g.A.Asker.events c.exchange.new.asker;
      out = record { bytes = g.K.Sink.written c.exchange.new.out; puts = g.K.Sink.puts c.exchange.new.out };
    }) c.exchange.result (Some c.in-Some.status) c.loop.invariant.same c.in-Some.is
    c.exchange.ensures.goes)

pub returns : goal.returns
returns g c =
    enough (RepliesOf (source_of c.args.debugger.now.program) (account_of c.args.debugger.now)) c.loop.counter
    (held_run c.args.debugger.now.position None) (held_run c.loop.debugger.position c.loop.limit)
    (record {
      lines = g.A.Asker.lines c.args.asker.now;
      heard = g.A.Asker.events c.args.asker.now;
      out = record { bytes = g.K.Sink.written c.args.out.now; puts = g.K.Sink.puts c.args.out.now };
    })
    (record {
      lines = g.A.Asker.lines c.loop.asker;
      heard = g.A.Asker.events c.loop.asker;
      out = record { bytes = g.K.Sink.written c.loop.out; puts = g.K.Sink.puts c.loop.out };
    })
    c.loop.invariant.exchanges c.loop-test.false
