use Rattle.source_blocks.specs.Tasks.{task_of, statement_line}
use Rattle.source_blocks.specs.Runs.{config_of, here_in, rest_in}
use Rattle.source_blocks.specs.source_steps.StateView.{setting_of}
use Rattle.source_blocks.proofs.Blocks.{rest_here, rest_end}
use Rattle.source_checks.proofs.AtEnds.{ends_here, begins_here}
use Rattle.source_checks.proofs.testing.test_next.Goals as goal

pub returns-in-None : goal.returns-in-None
returns-in-None c =
    ends_here (setting_of c.args.run.now.setting) c.args.code (config_of c.args.run.now) c.test_end.result
    (rest_end c.args.run.now.at (task_of c.args.run.now.task) c.in-None.ensures.past) c.test_end.ensures

pub returns-in-Some : goal.returns-in-Some
returns-in-Some c =
    begins_here (setting_of c.args.run.now.setting) c.args.code (config_of c.args.run.now) c.test_begin.result
    (here_in c.args.run.now) (statement_line c.in-Some.line) (rest_in c.args.run.now)
    (rest_here c.args.run.now.at (task_of c.args.run.now.task) c.in-Some.ensures.within) c.in-Some.ensures.statement
    c.test_begin.ensures
