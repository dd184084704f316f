use Rattle.std.proofs.Common.{◌∙◌, ap, List, ℕ, false}
use Rattle.source_blocks.specs.rpp_tree.declared.tree.Ident.{Ident}
use Rattle.source_blocks.specs.rpp_tree.Views.{expression_of, optional_lvalue_of, statement_of, block_of}
use Rattle.source_blocks.proofs.rpp_tree_laws.Statements.{statement_if, statement_from, statement_construct, statement_local}
use Rattle.source_blocks.proofs.rpp_tree_laws.Statements.{statement_call}
use Rattle.source_blocks.specs.roopl_semantics.Execution.{in_direction}
use Rattle.source_blocks.specs.meaning_machine.Machine.{held_local, called}
use Rattle.source_blocks.specs.source_steps.StateView.{setting_of}
use Rattle.source_blocks.specs.Runs.{config_of, here_in, rest_in}
use Rattle.source_statements.proofs.Begun.{local_begun, construct_begun, call_begun, same_gives}
use Rattle.source_blocks.proofs.Stopping.{anyhow}
use Rattle.source_statements.proofs.begins.begin_forward.Goals as goal

pub choose-requires-clause-here : goal.choose-requires-clause-here
choose-requires-clause-here c = c.requires.here ∙ ap statement_of c.in-If.is ∙ statement_if _ _ _ _ _

pub repeat-requires-clause-here : goal.repeat-requires-clause-here
repeat-requires-clause-here c = c.requires.here ∙ ap statement_of c.in-From.is ∙ statement_from _ _ _ _ _

pub returns-in-Local-clause-gives : goal.returns-in-Local-clause-gives
returns-in-Local-clause-gives c =
    same_gives (λ u. config_of c.open_local.new.run) c.open_local.result c.open_local.new.fuel c.args.fuel.now _ _
    (ap (λ (n : List ℕ). held_local (setting_of c.args.run.now.setting) (config_of c.args.run.now)
    (here_in c.args.run.now)
    (rest_in c.args.run.now) n
    (expression_of c.in-Local.value) (in_direction false (block_of c.in-Local.body))
    (expression_of c.in-Local.end_value))
    c.bytes.ensures
    ∙ local_begun (setting_of c.args.run.now.setting) (config_of c.args.run.now) (here_in c.args.run.now)
    (rest_in c.args.run.now) _ _ _ _ _ _
    (c.requires.here ∙ ap statement_of c.in-Local.is ∙ statement_local _ _ _ _ _ _)) c.open_local.ensures.gives

pub returns-in-Construct-clause-gives : goal.returns-in-Construct-clause-gives
returns-in-Construct-clause-gives c =
    same_gives (λ u. config_of c.construct.new.run) c.construct.result c.construct.new.fuel c.args.fuel.now _ _
    (construct_begun (setting_of c.args.run.now.setting) (config_of c.args.run.now) (here_in c.args.run.now)
    (rest_in c.args.run.now) _ _ _ _ _
    (c.requires.here ∙ ap statement_of c.in-Construct.is ∙ statement_construct _ _ _ _ _)) c.construct.ensures.gives

pub returns-in-Call-clause-gives : goal.returns-in-Call-clause-gives
returns-in-Call-clause-gives c =
    same_gives (λ u. config_of c.call.new.run) c.call.result c.call.new.fuel c.args.fuel.now _ _
    (ap (λ (ids : List Ident). called (setting_of c.args.run.now.setting) (config_of c.args.run.now)
    (here_in c.args.run.now)
    (rest_in c.args.run.now) c.in-Call.at c.in-Call.back
    (optional_lvalue_of c.in-Call.receiver) c.in-Call.method ids) c.deref.ensures.value
    ∙ call_begun (setting_of c.args.run.now.setting) (config_of c.args.run.now) (here_in c.args.run.now)
    (rest_in c.args.run.now) _ _ _ _ _
    (c.requires.here ∙ ap statement_of c.in-Call.is ∙ statement_call _ _ _ _ _)) c.call.ensures.gives

pub returns-in-If-clause-stops : goal.returns-in-If-clause-stops
returns-in-If-clause-stops c =
    anyhow c.choose.result (statement_of c.args.s.now) _ (ap statement_of c.in-If.is ∙ statement_if _ _ _ _ _)
    (λ why. tt)

pub returns-in-From-clause-stops : goal.returns-in-From-clause-stops
returns-in-From-clause-stops c =
    anyhow c.repeat.result (statement_of c.args.s.now) _ (ap statement_of c.in-From.is ∙ statement_from _ _ _ _ _)
    (λ why. tt)

pub returns-in-Local-clause-stops : goal.returns-in-Local-clause-stops
returns-in-Local-clause-stops c =
    anyhow c.open_local.result (statement_of c.args.s.now) _
    (ap statement_of c.in-Local.is ∙ statement_local _ _ _ _ _ _) (λ why. tt)

pub returns-in-Construct-clause-stops : goal.returns-in-Construct-clause-stops
returns-in-Construct-clause-stops c =
    anyhow c.construct.result (statement_of c.args.s.now) _
    (ap statement_of c.in-Construct.is ∙ statement_construct _ _ _ _ _) (λ why. tt)

pub returns-in-Call-clause-stops : goal.returns-in-Call-clause-stops
returns-in-Call-clause-stops c =
    anyhow c.call.result (statement_of c.args.s.now) _ (ap statement_of c.in-Call.is ∙ statement_call _ _ _ _ _)
    (λ why. tt)
