use Rattle.live_command.proofs.reporting.report.Goals as goal

pub returns : goal.returns
returns g c = record { answer = c.say-answer.result; puts = c.say-answer.ensures; status_is = c.status_by.ensures }
