use Rattle.std.proofs.Common.{ap, List, ℕ}
use Rattle.source_blocks.specs.rpp_tree.Tree.{Null}
use Rattle.source_blocks.specs.meaning_machine.Machine.{held_local}
use Rattle.source_blocks.specs.source_steps.StateView.{setting_of}
use Rattle.source_blocks.specs.Tasks.{task_of}
use Rattle.source_blocks.specs.declared.task.Task.TheVariants as task
use Rattle.source_blocks.specs.Runs.{config_of, here_in, rest_in}
use Rattle.source_statements.proofs.Begun.{same_gives}
use Rattle.source_statements.proofs.begins.construct.Goals as goal

pub returns-clause-gives : goal.returns-clause-gives
returns-clause-gives c =
    same_gives (λ u. config_of c.open_local.new.run) c.open_local.result c.open_local.new.fuel c.args.fuel.now _ _
    (ap (λ (n : List ℕ). held_local (setting_of c.args.run.now.setting) (config_of c.args.run.now)
    (here_in c.args.run.now) (rest_in c.args.run.now) n (Null c.args.made.now.at)
    (task_of (task.Made c.args.made.now)) (Null c.args.made.now.at)) c.bytes.ensures) c.open_local.ensures.gives
