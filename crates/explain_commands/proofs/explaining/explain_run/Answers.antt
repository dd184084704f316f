use Rattle.run_settings.specs.rpp_tree.Views.{source_of}
use Rattle.store_report.specs.roopl_semantics.Source.{source}
use Rattle.explain_commands.proofs.Telling.{explains_run}
use Rattle.explain_commands.proofs.explaining.explain_run.Goals as goal

pub returns : goal.returns
returns c =
    explains_run c.explain_outcome.result (source_of c.args.checked.now) c.in_ok-outcome.outcome
    (source (source_of c.args.checked.now) c.args.limits c.args.input.now.words.items c.args.fuel)
    c.in_ok-outcome.ensures.outcome c.explain_outcome.ensures
