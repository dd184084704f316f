use Rattle.std.proofs.Common.{ap₂, subst}
use Rattle.source_steps.specs.rpp_tree.Views.{lvalue_with}
use Rattle.source_steps.specs.meaning_machine.Reversed.{unmade}
use Rattle.source_steps.specs.Metered.{MeteredGives, metered}
use Rattle.source_steps.specs.StateView.{setting_of}
use Rattle.source_blocks.specs.Runs.{state_in}
use Rattle.source_blocks.proofs.requests.unmake_named.Goals as goal

pub returns-in-Ok-clause-gives : goal.returns-in-Ok-clause-gives
returns-in-Ok-clause-gives c =
    subst (λ l. MeteredGives (λ u. state_in c.unmake.new.run) c.unmake.result c.unmake.new.fuel
    (metered c.args.fuel.now (unmade (setting_of c.args.run.now.setting) l (state_in c.args.run.now))))
    (ap₂ lvalue_with c.in-Ok.ensures.0 c.in-Ok.ensures.1) c.unmake.ensures.gives
