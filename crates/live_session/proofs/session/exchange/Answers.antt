use Rattle.std.proofs.Common.{ap, subst, List, ℕ}
use Rattle.std.specs.Prelude.{⊤}
use Rattle.live_searches.specs.rpp_tree.Views.{source_of}
use Rattle.live_searches.specs.source_debugger.Failures.{account_of}
use Rattle.live_talks.specs.live_port.Heard.{Line, Long, Lost, heard}
use Rattle.live_talks.specs.Sessions.{IsReply, quits}
use Rattle.live_talks.specs.Serving.{PutsBy}
use Rattle.live_talks.specs.Limits.{held_run}
use Rattle.live_talks.proofs.Putting.{long_said, lost_said, heard_goes, over_goes, failed_goes}
use Rattle.live_session.specs.Sessions.{RepliesOf}
use Rattle.live_session.proofs.session.exchange.Goals as goal

pub returns-in-Line-clause-goes : goal.returns-in-Line-clause-goes
returns-in-Line-clause-goes g c =
    heard_goes (RepliesOf (source_of c.args.debugger.now.program) (account_of c.args.debugger.now))
    (held_run c.args.debugger.now.position c.args.limit.now)
    (held_run c.answer_line.new.debugger.position c.answer_line.new.limit) (record {
      lines = g.A.Asker.lines c.args.asker.now;
      heard = g.A.Asker.events c.args.asker.now;
      out = record { bytes = g.K.Sink.written c.args.out.now; puts = g.K.Sink.puts c.args.out.now };
    }) (g.A.Asker.lines c.next.new.self) (g.A.Asker.events c.next.new.self)
    (record { bytes = g.K.Sink.written c.answer_line.new.out; puts = g.K.Sink.puts c.answer_line.new.out })
    c.answer_line.result (heard c.next.result)
    (Line c.in-Line.line.items) ⊤ (ap heard c.in-Line.is) c.next.ensures.told c.next.ensures.noted (λ n. n)
    (subst (λ (l : List ℕ). PutsBy (IsReply (RepliesOf (source_of c.args.debugger.now.program)
    (account_of c.args.debugger.now)) (Line l)
    (held_run c.args.debugger.now.position c.args.limit.now)) (quits (Line l)) ⊤
    (held_run c.args.debugger.now.position c.args.limit.now)
    (held_run c.answer_line.new.debugger.position c.answer_line.new.limit)
    (record { bytes = g.K.Sink.written c.args.out.now; puts = g.K.Sink.puts c.args.out.now })
    (record { bytes = g.K.Sink.written c.answer_line.new.out; puts = g.K.Sink.puts c.answer_line.new.out })
    c.answer_line.result)
    c.deref.ensures.value c.answer_line.ensures.puts)

pub returns-in-Long-clause-goes : goal.returns-in-Long-clause-goes
returns-in-Long-clause-goes g c =
    heard_goes (RepliesOf (source_of c.args.debugger.now.program) (account_of c.args.debugger.now))
    (held_run c.args.debugger.now.position c.args.limit.now)
    (held_run c.args.debugger.now.position c.args.limit.now) (record {
      lines = g.A.Asker.lines c.args.asker.now;
      heard = g.A.Asker.events c.args.asker.now;
      out = record { bytes = g.K.Sink.written c.args.out.now; puts = g.K.Sink.puts c.args.out.now };
    }) (g.A.Asker.lines c.next.new.self) (g.A.Asker.events c.next.new.self)
    (record { bytes = g.K.Sink.written c.say_end.new.out; puts = g.K.Sink.puts c.say_end.new.out }) c.say_end.result
    (heard c.next.result) Long ⊥
    (ap heard c.in-Long.is) c.next.ensures.told c.next.ensures.noted (λ no. absurd no)
    (long_said (RepliesOf (source_of c.args.debugger.now.program) (account_of c.args.debugger.now))
    (held_run c.args.debugger.now.position c.args.limit.now)
    (record { bytes = g.K.Sink.written c.args.out.now; puts = g.K.Sink.puts c.args.out.now })
    (record { bytes = g.K.Sink.written c.say_end.new.out; puts = g.K.Sink.puts c.say_end.new.out }) c.say_end.result
    c.say_end.ensures)

pub returns-in-Lost-clause-goes : goal.returns-in-Lost-clause-goes
returns-in-Lost-clause-goes g c =
    heard_goes (RepliesOf (source_of c.args.debugger.now.program) (account_of c.args.debugger.now))
    (held_run c.args.debugger.now.position c.args.limit.now)
    (held_run c.args.debugger.now.position c.args.limit.now) (record {
      lines = g.A.Asker.lines c.args.asker.now;
      heard = g.A.Asker.events c.args.asker.now;
      out = record { bytes = g.K.Sink.written c.args.out.now; puts = g.K.Sink.puts c.args.out.now };
    }) (g.A.Asker.lines c.next.new.self) (g.A.Asker.events c.next.new.self)
    (record { bytes = g.K.Sink.written c.say_end-in-Lost.new.out; puts = g.K.Sink.puts c.say_end-in-Lost.new.out })
    c.say_end-in-Lost.result
    (heard c.next.result) Lost ⊥
    (ap heard c.in-Lost.is) c.next.ensures.told c.next.ensures.noted (λ no. absurd no)
    (lost_said (RepliesOf (source_of c.args.debugger.now.program) (account_of c.args.debugger.now))
    (held_run c.args.debugger.now.position c.args.limit.now)
    (record { bytes = g.K.Sink.written c.args.out.now; puts = g.K.Sink.puts c.args.out.now })
    (record { bytes = g.K.Sink.written c.say_end-in-Lost.new.out; puts = g.K.Sink.puts c.say_end-in-Lost.new.out })
    c.say_end-in-Lost.result
    c.say_end-in-Lost.ensures)

pub returns-in-Over-clause-goes : goal.returns-in-Over-clause-goes
returns-in-Over-clause-goes g c =
    over_goes (RepliesOf (source_of c.args.debugger.now.program) (account_of c.args.debugger.now))
    (held_run c.args.debugger.now.position c.args.limit.now) (record {
      lines = g.A.Asker.lines c.args.asker.now;
      heard = g.A.Asker.events c.args.asker.now;
      out = record { bytes = g.K.Sink.written c.args.out.now; puts = g.K.Sink.puts c.args.out.now };
    }) (g.A.Asker.lines c.next.new.self) (g.A.Asker.events c.next.new.self)
    (heard c.next.result) (ap heard c.in-Over.is) c.next.ensures.told c.next.ensures.noted

pub returns-in-Failed-clause-goes : goal.returns-in-Failed-clause-goes
returns-in-Failed-clause-goes g c =
    failed_goes (RepliesOf (source_of c.args.debugger.now.program) (account_of c.args.debugger.now))
    (held_run c.args.debugger.now.position c.args.limit.now) (record {
      lines = g.A.Asker.lines c.args.asker.now;
      heard = g.A.Asker.events c.args.asker.now;
      out = record { bytes = g.K.Sink.written c.args.out.now; puts = g.K.Sink.puts c.args.out.now };
    }) (g.A.Asker.lines c.next.new.self) (g.A.Asker.events c.next.new.self)
    (heard c.next.result) (ap heard c.in-Failed.is) c.next.ensures.told c.next.ensures.noted
