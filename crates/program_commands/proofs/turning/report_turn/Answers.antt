use Rattle.std.proofs.Common.{ap, inl, inr, ⊎_elim}
use Rattle.image_inverter.specs.pisa_isa.declared.machine.Stop.{Stop}
use Rattle.program_commands.specs.RunPlans.{back_steps, steps_back}
use Rattle.program_commands.proofs.Turned.{none_back}
use Rattle.program_commands.proofs.Watched.{none_told, err_weaken}
use Rattle.program_commands.proofs.turning.report_turn.Goals as goal

pub returns-in-Trap-clause-told : goal.returns-in-Trap-clause-told
returns-in-Trap-clause-told g c =
    none_told c.report_run.result (back_steps c.args.end.stop c.args.machine.image.code c.args.machine.state
    c.args.setting.now.bound) (g.P.Probes.watches c.args.probes.now)
    (ap (λ (why : Stop). back_steps why c.args.machine.image.code c.args.machine.state c.args.setting.now.bound)
    c.in-Trap.is)

pub returns-in-Bound-clause-told : goal.returns-in-Bound-clause-told
returns-in-Bound-clause-told g c =
    none_told c.report_run-in-Bound.result (back_steps c.args.end.stop c.args.machine.image.code c.args.machine.state
    c.args.setting.now.bound) (g.P.Probes.watches c.args.probes.now)
    (ap (λ (why : Stop). back_steps why c.args.machine.image.code c.args.machine.state c.args.setting.now.bound)
    c.in-Bound.is)

pub returns-in-Finished-clause-short : goal.returns-in-Finished-clause-short
returns-in-Finished-clause-short g c =
    err_weaken c.report_both.result _ _ (⊎_elim (λ e. inl e) (λ told. inr (c.in-Finished.is, told)))
    c.report_both.ensures.short

pub returns-in-Trap-clause-counter : goal.returns-in-Trap-clause-counter
returns-in-Trap-clause-counter g c =
    none_back c.report_run.result c.args.steps.now c.args.end.spent c.args.end.stop
    (ap (λ (why : Stop). steps_back why c.args.end.spent) c.in-Trap.is)

pub returns-in-Bound-clause-counter : goal.returns-in-Bound-clause-counter
returns-in-Bound-clause-counter g c =
    none_back c.report_run-in-Bound.result c.args.steps.now c.args.end.spent c.args.end.stop
    (ap (λ (why : Stop). steps_back why c.args.end.spent) c.in-Bound.is)
