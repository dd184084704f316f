use Rattle.source_steps.specs.roopl_semantics.Value.{evaluated}
use Rattle.source_steps.specs.rpp_tree.Views.{expression_of}
use Rattle.source_steps.specs.source_store.ValueView.{value_of}
use Rattle.source_steps.specs.Metered.{MeteredGives, metered}
use Rattle.source_steps.specs.StateView.{setting_of}
use Rattle.source_blocks.proofs.Scoped.{framed_in, at_state}
use Rattle.source_blocks.proofs.values.value_in.Goals as goal

pub evaluate-requires : goal.evaluate-requires
evaluate-requires c = framed_in c.args.run.now c.scope_of-scope.result c.scope_of-scope.ensures c.requires.sound

pub returns-clause-gives : goal.returns-clause-gives
returns-clause-gives c =
    at_state c.args.run.now c.scope_of-scope.result c.scope_of-scope.ensures
    (λ st. MeteredGives value_of c.evaluate.result c.evaluate.new.fuel (metered c.args.fuel.now
    (evaluated (setting_of c.args.run.now.setting).program (expression_of c.args.e.now) st)))
    c.evaluate.ensures.gives
