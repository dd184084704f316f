use Rattle.std.proofs.Common.{ap, sym, Bool}
use Rattle.source_blocks.specs.source_steps.StateView.{setting_of}
use Rattle.source_statements.specs.Steps.{begun_in}
use Rattle.source_blocks.specs.Runs.{config_of, here_in, rest_in}
use Rattle.source_statements.proofs.Begun.{same_gives}
use Rattle.source_statements.proofs.steps.begin_written.Goals as goal

pub returns-clause-gives : goal.returns-clause-gives
returns-clause-gives c =
    same_gives (λ u. config_of c.begin_text.new.run) c.begin_text.result c.begin_text.new.fuel c.args.fuel.now _ _
    (ap (λ (b : Bool). begun_in b (setting_of c.args.run.now.setting) (config_of c.args.run.now)
    (here_in c.args.run.now) (rest_in c.args.run.now)) (sym c.if-back.false))
    c.begin_text.ensures.gives
