use Rattle.live_talks.proofs.Byes.{bye_put}
use Rattle.live_talks.proofs.saying.say_bye.Goals as goal

pub returns : goal.returns
returns g c = bye_put c.end_line.result.now c.say-answer.result
    (record { bytes = g.K.Sink.written c.args.out.now; puts = g.K.Sink.puts c.args.out.now })
    (record { bytes = g.K.Sink.written c.say-answer.new.out; puts = g.K.Sink.puts c.say-answer.new.out })
    c.status_by.result c.end_line.ensures c.say-answer.ensures
    c.status_by.ensures
