use Rattle.std.proofs.Common.{◌∙◌, ap, map}
use Rattle.plan_serving.specs.Wanted.{file_of}
use Rattle.live_command.specs.Beginnings.{session_begun, OfSource}
use Rattle.live_command.proofs.Living.{unread_lives}
use Rattle.live_command.proofs.top.begin.Goals as goal

pub returns-in-Err-Unread-clause-session : goal.returns-in-Err-Unread-clause-session
returns-in-Err-Unread-clause-session g c =
    unread_lives (OfSource (session_begun c.args.beginning.now)) (map file_of c.deref.result.now) _
    (record { texts = g.S.Shelf.texts c.args.shelf.now; calls = g.S.Shelf.events c.args.shelf.now })
    (record { texts = g.S.Shelf.texts c.fetch.new.shelf; calls = g.S.Shelf.events c.fetch.new.shelf })
    (record {
      lines = g.A.Asker.lines c.args.asker.now;
      heard = g.A.Asker.events c.args.asker.now;
      out = record { bytes = g.K.Sink.written c.args.out.now; puts = g.K.Sink.puts c.args.out.now };
    })
    (record { bytes = g.K.Sink.written c.report.new.out; puts = g.K.Sink.puts c.report.new.out }) c.report.result
    c.in-Err-Unread.field-0 c.in-Err-Unread.text c.as_str.result.now
    (ap (map file_of) c.deref.ensures.value ∙ c.in-Ok.ensures) c.in-Err-Unread.ensures.asks.stops
    c.in-Err-Unread.field-0-is (rw c.in-Err-Unread.field-0-is at c.as_str.ensures.value) c.report.ensures
