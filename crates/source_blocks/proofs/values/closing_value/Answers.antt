use Rattle.std.proofs.Common.{◌≡◌, sym, subst, ◌∙◌}
use Rattle.source_steps.specs.roopl_semantics.Run.{spend, give}
use Rattle.source_steps.specs.roopl_semantics.Store.{Nil}
use Rattle.source_steps.specs.roopl_semantics.Value.{evaluated}
use Rattle.source_steps.specs.Metered.{Went, Failed, metered}
use Rattle.source_steps.specs.StateView.{setting_of}
use Rattle.source_steps.proofs.Fuelled.{goes, fails, gives}
use Rattle.source_blocks.specs.declared.frames.Closing.{Closing}
use Rattle.source_blocks.specs.Opens.{closing_of}
use Rattle.source_blocks.specs.Runs.{state_in}
use Rattle.source_blocks.proofs.values.closing_value.Goals as goal

pub returns-in-Err-clause-gives : goal.returns-in-Err-clause-gives
returns-in-Err-clause-gives c =
    subst (λ (k : Closing). Failed c.in-Err.why c.spend.new.fuel (metered c.args.fuel.now
    (evaluated (setting_of c.args.run.now.setting).program (closing_of k) (state_in c.args.run.now))))
    (sym c.in-Nil.is)
    (fails c.args.fuel.now c.spend.new.fuel (spend 1) (λ u. give Nil) c.in-Err.why c.in-Err.ensures.gives)

pub returns-in-Ok-clause-gives : goal.returns-in-Ok-clause-gives
returns-in-Ok-clause-gives c =
    subst (λ (k : Closing). metered c.args.fuel.now
    (evaluated (setting_of c.args.run.now.setting).program (closing_of k) (state_in c.args.run.now))
    ≡ Went Nil c.spend.new.fuel) (sym c.in-Nil.is)
    (goes c.args.fuel.now c.spend.new.fuel (spend 1) tt (λ u. give Nil) c.in-Ok.ensures.gives
    ∙ gives c.spend.new.fuel Nil)
