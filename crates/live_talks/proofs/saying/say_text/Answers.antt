use Rattle.live_talks.proofs.saying.say_text.Goals as goal

pub returns : goal.returns
returns g c = record { answer = c.say-answer.result; puts = c.say-answer.ensures; over_is = c.over_by.ensures }
