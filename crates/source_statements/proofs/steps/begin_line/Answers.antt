use Rattle.std.proofs.Common.{◌∙◌, sym, ap, Bool}
use Rattle.source_blocks.specs.source_steps.StateView.{setting_of}
use Rattle.source_statements.specs.Steps.{begun_in}
use Rattle.source_blocks.specs.Runs.{config_of, here_in, rest_in}
use Rattle.source_statements.proofs.Begun.{same_gives}
use Rattle.source_statements.proofs.Asking.{begun_other}
use Rattle.source_blocks.specs.Requests.{is_request}
use Rattle.source_statements.proofs.steps.begin_line.Goals as goal

pub returns-clause-gives : goal.returns-clause-gives
returns-clause-gives c =
    same_gives (λ u. config_of c.begin-2.new.run) c.begin-2.result c.begin-2.new.fuel c.args.fuel.now _ _
    (begun_other (setting_of c.args.run.now.setting) (config_of c.args.run.now) (here_in c.args.run.now)
    (rest_in c.args.run.now)
    (ap is_request c.requires.here ∙ sym c.is_request.ensures ∙ c.if-is_request.false)
    ∙ ap (λ (b : Bool). begun_in b (setting_of c.args.run.now.setting) (config_of c.args.run.now)
    (here_in c.args.run.now) (rest_in c.args.run.now)) (sym c.if-not-back.false))
    c.begin-2.ensures.gives
