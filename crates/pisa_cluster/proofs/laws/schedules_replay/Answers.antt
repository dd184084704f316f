use Rattle.pisa_cluster.proofs.Undoing.{schedules_keep, schedules_start}
use Rattle.pisa_cluster.proofs.laws.schedules_replay.Goals as goal

pub returns-clause-keeps : goal.returns-clause-keeps
returns-clause-keeps c = schedules_keep

pub returns-clause-start : goal.returns-clause-start
returns-clause-start c = schedules_start
