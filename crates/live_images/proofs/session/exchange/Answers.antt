use Rattle.std.proofs.Common.{ap, subst, List, ℕ}
use Rattle.std.specs.Prelude.{⊤}
use Rattle.live_talks.specs.live_port.Heard.{Line, Long, Lost, heard}
use Rattle.live_talks.specs.Limits.{WithLimits}
use Rattle.live_talks.proofs.Putting.{long_said, lost_said, heard_goes, over_goes, failed_goes}
use Rattle.live_images.proofs.Answering.{PutsToHeard}
use Rattle.live_images.specs.Sessions.{ImageRepliesOf, held_in}
use Rattle.live_images.proofs.session.exchange.Goals as goal

pub returns-in-Line : goal.returns-in-Line
returns-in-Line g c =
    heard_goes (WithLimits ImageRepliesOf) (held_in c.args.run.now) (held_in c.answer_line.new.run) (record {
      lines = g.A.Asker.lines c.args.asker.now;
      heard = g.A.Asker.events c.args.asker.now;
      out = record { bytes = g.K.Sink.written c.args.out.now; puts = g.K.Sink.puts c.args.out.now };
    }) (g.A.Asker.lines c.next.new.self) (g.A.Asker.events c.next.new.self)
    (record { bytes = g.K.Sink.written c.answer_line.new.out; puts = g.K.Sink.puts c.answer_line.new.out })
    c.answer_line.result (heard c.next.result)
    (Line c.in-Line.line.items) ⊤ (ap heard c.in-Line.is) c.next.ensures.told c.next.ensures.noted (λ n. n)
    (subst (λ (l : List ℕ). PutsToHeard (Line l) ⊤ (held_in c.args.run.now) (held_in c.answer_line.new.run)
    (record { bytes = g.K.Sink.written c.args.out.now; puts = g.K.Sink.puts c.args.out.now })
    (record { bytes = g.K.Sink.written c.answer_line.new.out; puts = g.K.Sink.puts c.answer_line.new.out })
    c.answer_line.result)
    c.deref.ensures.value c.answer_line.ensures)

pub returns-in-Long : goal.returns-in-Long
returns-in-Long g c =
    heard_goes (WithLimits ImageRepliesOf) (held_in c.args.run.now) (held_in c.args.run.now) (record {
      lines = g.A.Asker.lines c.args.asker.now;
      heard = g.A.Asker.events c.args.asker.now;
      out = record { bytes = g.K.Sink.written c.args.out.now; puts = g.K.Sink.puts c.args.out.now };
    }) (g.A.Asker.lines c.next.new.self) (g.A.Asker.events c.next.new.self)
    (record { bytes = g.K.Sink.written c.say_end.new.out; puts = g.K.Sink.puts c.say_end.new.out }) c.say_end.result
    (heard c.next.result) Long ⊥
    (ap heard c.in-Long.is) c.next.ensures.told c.next.ensures.noted (λ no. absurd no)
    (long_said (WithLimits ImageRepliesOf) (held_in c.args.run.now) (record {
      bytes = g.K.Sink.written c.args.out.now;
      puts = g.K.Sink.puts c.args.out.now;
    })
    (record { bytes = g.K.Sink.written c.say_end.new.out; puts = g.K.Sink.puts c.say_end.new.out }) c.say_end.result
    c.say_end.ensures)

pub returns-in-Lost : goal.returns-in-Lost
returns-in-Lost g c =
    heard_goes (WithLimits ImageRepliesOf) (held_in c.args.run.now) (held_in c.args.run.now) (record {
      lines = g.A.Asker.lines c.args.asker.now;
      heard = g.A.Asker.events c.args.asker.now;
      out = record { bytes = g.K.Sink.written c.args.out.now; puts = g.K.Sink.puts c.args.out.now };
    }) (g.A.Asker.lines c.next.new.self) (g.A.Asker.events c.next.new.self)
    (record { bytes = g.K.Sink.written c.say_end-in-Lost.new.out; puts = g.K.Sink.puts c.say_end-in-Lost.new.out })
    c.say_end-in-Lost.result (heard c.next.result) Lost ⊥
    (ap heard c.in-Lost.is) c.next.ensures.told c.next.ensures.noted (λ no. absurd no)
    (lost_said (WithLimits ImageRepliesOf) (held_in c.args.run.now) (record {
      bytes = g.K.Sink.written c.args.out.now;
      puts = g.K.Sink.puts c.args.out.now;
    })
    (record { bytes = g.K.Sink.written c.say_end-in-Lost.new.out; puts = g.K.Sink.puts c.say_end-in-Lost.new.out })
    c.say_end-in-Lost.result c.say_end-in-Lost.ensures)

pub returns-in-Over : goal.returns-in-Over
returns-in-Over g c =
    over_goes (WithLimits ImageRepliesOf) (held_in c.args.run.now) (record {
      lines = g.A.Asker.lines c.args.asker.now;
      heard = g.A.Asker.events c.args.asker.now;
      out = record { bytes = g.K.Sink.written c.args.out.now; puts = g.K.Sink.puts c.args.out.now };
    }) (g.A.Asker.lines c.next.new.self) (g.A.Asker.events c.next.new.self)
    (heard c.next.result) (ap heard c.in-Over.is) c.next.ensures.told c.next.ensures.noted

pub returns-in-Failed : goal.returns-in-Failed
returns-in-Failed g c =
    failed_goes (WithLimits ImageRepliesOf) (held_in c.args.run.now) (record {
      lines = g.A.Asker.lines c.args.asker.now;
      heard = g.A.Asker.events c.args.asker.now;
      out = record { bytes = g.K.Sink.written c.args.out.now; puts = g.K.Sink.puts c.args.out.now };
    }) (g.A.Asker.lines c.next.new.self) (g.A.Asker.events c.next.new.self)
    (heard c.next.result) (ap heard c.in-Failed.is) c.next.ensures.told c.next.ensures.noted
