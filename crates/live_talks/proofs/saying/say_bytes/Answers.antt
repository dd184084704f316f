use Rattle.live_talks.proofs.saying.say_bytes.Goals as goal

pub returns : goal.returns
returns g c = record { answer = c.put-answer.result; puts = c.put-answer.ensures; over_is = c.over_by.ensures }
