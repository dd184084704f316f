use Rattle.std.proofs.Common.{◌∙◌, sym, subst, ap, Some}
use Rattle.source_blocks.specs.rpp_tree.declared.tree.Ident.{Ident}
use Rattle.source_blocks.specs.rpp_tree.Tree.{Statement, Whole}
use Rattle.source_blocks.specs.roopl_semantics.Execution.{element_name}
use Rattle.source_blocks.specs.meaning_machine.Machine.{called}
use Rattle.source_blocks.specs.source_steps.StateView.{setting_of}
use Rattle.source_blocks.specs.Tasks.{statement_line}
use Rattle.source_blocks.specs.Runs.{config_of, here_in, rest_in}
use Rattle.source_blocks.specs.Stops.{MayStop}
use Rattle.source_statements.proofs.Begun.{call_begun, same_gives}
use Rattle.source_blocks.proofs.Stopping.{anyhow}
use Rattle.source_statements.proofs.begins.begin.Goals as goal

pub returns-in-Ok-clause-gives : goal.returns-in-Ok-clause-gives
returns-in-Ok-clause-gives c =
    same_gives (λ u. config_of c.call_on.new.run) c.call_on.result c.call_on.new.fuel c.args.fuel.now _ _
    (ap (λ (name : Ident). called (setting_of c.args.run.now.setting) (config_of c.args.run.now)
    (here_in c.args.run.now) (rest_in c.args.run.now) c.in-Call.calls.at c.in-Call.calls.back (Some (Whole name))
    c.in-Call.calls.method.now c.in-Call.calls.args.now) c.in-Ok.ensures.0
    ∙ call_begun (setting_of c.args.run.now.setting) (config_of c.args.run.now) (here_in c.args.run.now)
    (rest_in c.args.run.now) c.in-Call.calls.at c.in-Call.calls.back
    (Some (Whole (element_name c.in-Call.calls.at))) c.in-Call.calls.method.now c.in-Call.calls.args.now
    (c.requires.here ∙ ap statement_line c.in-Call.is)) c.call_on.ensures.gives

pub returns-in-Ok-clause-stops : goal.returns-in-Ok-clause-stops
returns-in-Ok-clause-stops c =
    anyhow c.call_on.result (statement_line c.args.line.now) _ (ap statement_line c.in-Call.is) (λ why. tt)

pub returns-in-Err-clause-stops : goal.returns-in-Err-clause-stops
returns-in-Err-clause-stops c =
    subst (λ (s : Statement). MayStop s c.in-Err.why) (sym (ap statement_line c.in-Call.is)) tt
