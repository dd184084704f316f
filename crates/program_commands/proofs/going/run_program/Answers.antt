use Rattle.command_plan.specs.rpp_tree.Views.{source_of}
use Rattle.command_plan.specs.Plans.{planned}
use Rattle.program_commands.proofs.Turned.{has_run, runs_image}
use Rattle.program_runs.proofs.Weaker.{weaken}
use Rattle.program_commands.proofs.going.run_program.Goals as goal

pub report_run-requires : goal.report_run-requires
report_run-requires g c =
    has_run (source_of c.args.setting.now.checked) c.args.setting.now.limits c.args.setting.now.input.words.items
    c.args.setting.now.bound c.run-end.new.self c.run-end.result.spent
    c.in_ok-machine.machine c.run-end.result.stop c.in_ok-machine.ensures c.run-end.ensures.machine
    c.run-end.ensures.image c.run-end.ensures.within c.run-end.ensures.runs

pub returns-clause-plan : goal.returns-clause-plan
returns-clause-plan g c =
    let program = source_of c.args.setting.now.checked in
    let limits = c.args.setting.now.limits in
    let input = c.args.setting.now.input.words.items in
    let bound = c.args.setting.now.bound in
    let end = c.run-end.new.self in
    let has =
    has_run program limits input bound end c.run-end.result.spent
    c.in_ok-machine.machine c.run-end.result.stop c.in_ok-machine.ensures c.run-end.ensures.machine
    c.run-end.ensures.image c.run-end.ensures.within c.run-end.ensures.runs in
    weaken c.report_run.result _ _
    (λ plan stop. runs_image program limits input bound end c.run-end.result.spent c.run-end.result.stop has
    (planned plan) stop c.args.steps.now c.run-end.new.steps c.run-end.ensures.counter)
    c.report_run.ensures
