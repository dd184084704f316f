use Rattle.command_plan.specs.rpp_tree.Views.{source_of}
use Rattle.command_plan.specs.Plans.{planned}
use Rattle.program_commands.proofs.Turned.{has_run, both}
use Rattle.program_runs.proofs.Weaker.{weaken_with}
use Rattle.std.proofs.Common.{◌≡◌, inl, inr, ⊎_elim}
use Rattle.program_commands.proofs.Watched.{turns_image, turns_short, err_weaken}
use Rattle.program_commands.proofs.turning.turn_program.Goals as goal

pub report_turn-requires : goal.report_turn-requires
report_turn-requires g c =
    has_run (source_of c.args.setting.now.checked) c.args.setting.now.limits c.args.setting.now.input.words.items
    c.args.setting.now.bound c.run-end.new.self c.run-end.result.spent
    c.in_ok-machine.machine c.run-end.result.stop c.in_ok-machine.ensures c.run-end.ensures.machine
    c.run-end.ensures.image c.run-end.ensures.within c.run-end.ensures.runs

pub returns-clause-plan : goal.returns-clause-plan
returns-clause-plan g c =
    let program = source_of c.args.setting.now.checked in
    let limits = c.args.setting.now.limits in
    let input = c.args.setting.now.input.words.items in
    let bound = c.args.setting.now.bound in
    let end = c.run-end.new.self in
    let has =
    has_run program limits input bound end c.run-end.result.spent
    c.in_ok-machine.machine c.run-end.result.stop c.in_ok-machine.ensures c.run-end.ensures.machine
    c.run-end.ensures.image c.run-end.ensures.within c.run-end.ensures.runs in
    weaken_with c.report_turn.result _ _ _
    (λ left plan stop.
    turns_image program limits input bound end c.run-end.result.spent c.run-end.result.stop has
    (g.P.Probes.watches c.args.probes.now) (g.P.Probes.watches c.report_turn.new.probes) left.0 (planned plan) stop
    c.args.steps.now c.run-end.new.steps c.report_turn.new.steps c.run-end.ensures.counter left.1)
    (both c.report_turn.result _ _ c.report_turn.ensures.told c.report_turn.ensures.counter)
    c.report_turn.ensures.stop

pub returns-clause-short : goal.returns-clause-short
returns-clause-short g c =
    let program = source_of c.args.setting.now.checked in
    let limits = c.args.setting.now.limits in
    let input = c.args.setting.now.input.words.items in
    let bound = c.args.setting.now.bound in
    let end = c.run-end.new.self in
    let has =
    has_run program limits input bound end c.run-end.result.spent
    c.in_ok-machine.machine c.run-end.result.stop c.in_ok-machine.ensures c.run-end.ensures.machine
    c.run-end.ensures.image c.run-end.ensures.within c.run-end.ensures.runs in
    err_weaken c.report_turn.result _ _
    (⊎_elim (λ e. inl e)
    (λ told. inr (turns_short program limits input bound end c.run-end.result.spent c.run-end.result.stop has
    (g.P.Probes.watches c.args.probes.now) (g.P.Probes.watches c.report_turn.new.probes) told)))
    c.report_turn.ensures.short
