use Rattle.std.proofs.Common.{refl, inl}
use Rattle.live_command.proofs.Living.{refused_starts, runs_start}
use Rattle.live_command.proofs.top.start.Goals as goal

pub returns-in-Err : goal.returns-in-Err
returns-in-Err g c = inl (refl, refl)

pub returns-in-Ok-Refused : goal.returns-in-Ok-Refused
returns-in-Ok-Refused g c =
    refused_starts c.args.text.now c.args.given.now c.args.text.now c.args.given.now
    c.args.room (record {
      lines = g.A.Asker.lines c.args.asker.now;
      heard = g.A.Asker.events c.args.asker.now;
      out = record { bytes = g.K.Sink.written c.args.out.now; puts = g.K.Sink.puts c.args.out.now };
    })
    (record { bytes = g.K.Sink.written c.report.new.out; puts = g.K.Sink.puts c.report.new.out }) c.report.result
    c.in-Ok-Refused.field-0 c.in-Ok-Refused.plan
    c.as_str.result.now c.code.result refl refl c.in-Ok-Refused.ensures
    c.in-Ok-Refused.field-0-is c.as_str.ensures.value c.code.ensures c.report.ensures

pub returns-in-Ok-Runs : goal.returns-in-Ok-Runs
returns-in-Ok-Runs g c =
    runs_start c.args.text.now c.args.given.now c.args.text.now c.args.given.now
    c.args.room (record {
      lines = g.A.Asker.lines c.args.asker.now;
      heard = g.A.Asker.events c.args.asker.now;
      out = record { bytes = g.K.Sink.written c.args.out.now; puts = g.K.Sink.puts c.args.out.now };
    })
    (record {
      lines = g.A.Asker.lines c.hold.new.asker;
      heard = g.A.Asker.events c.hold.new.asker;
      out = record { bytes = g.K.Sink.written c.hold.new.out; puts = g.K.Sink.puts c.hold.new.out };
    }) c.hold.result c.in-Ok-Runs.field-0 c.in-Ok-Runs.setting
    refl refl c.in-Ok-Runs.ensures c.in-Ok-Runs.field-0-is c.hold.ensures
