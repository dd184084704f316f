use Rattle.std.proofs.Common.{◌≡◌, ◌∙◌, ◌++◌, ap, map, string_bytes, inl, inr}
use Rattle.std.specs.Prelude.{◌⊎◌}
use Rattle.program_commands.specs.ToldShort.{ProfilesShort}
use Rattle.command_plan.specs.rpp_tree.Views.{source_of}
use Rattle.command_plan.specs.rpp_probes.Tally.{lines_after}
use Rattle.store_report.specs.pisa_machine.Told.{counted_steps}
use Rattle.command_plan.specs.Plans.{planned}
use Rattle.program_commands.proofs.Turned.{has_run, broken_within}
use Rattle.program_runs.proofs.Weaker.{weaken}
use Rattle.program_commands.proofs.Watched.{profiles_image, told_short, loaded_short}
use Rattle.program_commands.proofs.profiling.profile_program.Goals as goal
use Rattle.command_plan.proofs.pisa_scripts_laws.Errors.{on_err_always}

pub report_run-requires : goal.report_run-requires
report_run-requires g c =
    has_run (source_of c.args.setting.now.checked) c.args.setting.now.limits c.args.setting.now.input.words.items
    c.args.setting.now.bound c.run_told.new.self c.in_ok-end.end.spent
    c.in_ok-machine.machine c.in_ok-end.end.stop c.in_ok-machine.ensures c.run_told.ensures.machine
    c.run_told.ensures.image c.in_ok-end.ensures.within c.in_ok-end.ensures.runs

pub returns-clause-plan : goal.returns-clause-plan
returns-clause-plan g c =
    let program = source_of c.args.setting.now.checked in
    let limits = c.args.setting.now.limits in
    let input = c.args.setting.now.input.words.items in
    let bound = c.args.setting.now.bound in
    let start = c.in_ok-machine.machine in
    let end = c.run_told.new.self in
    let before = g.P.Probes.watches c.args.probes.now in
    let has =
    has_run program limits input bound end c.in_ok-end.end.spent
    start c.in_ok-end.end.stop c.in_ok-machine.ensures c.run_told.ensures.machine c.run_told.ensures.image
    c.in_ok-end.ensures.within c.in_ok-end.ensures.runs in
    weaken c.with_probes.result _ _
    (λ plan is.
    profiles_image program limits input bound end c.in_ok-end.end.spent c.in_ok-end.end.stop has start
    c.in_ok-machine.ensures c.run_told.ensures.image
    before (g.P.Probes.watches c.run_told.new.probes) (map string_bytes c.deref.result.now) c.in_ok-end.ensures.told
    (ap (map string_bytes) c.deref.ensures.value ∙ c.in_ok-end.ensures.lines
    ∙ ap (λ l. map string_bytes l ++ lines_after (counted_steps start.image.code bound start.state) before)
    c.new-lines.ensures.items)
    (planned c.in_ok-said.said) (planned plan) c.in_ok-said.ensures is c.args.steps.now c.run_told.new.steps
    c.in_ok-end.ensures.counter)
    c.with_probes.ensures

pub returns-in_err-end-clause-within : goal.returns-in_err-end-clause-within
returns-in_err-end-clause-within g c =
    let b = c.in_err-end.ensures.broken_off in
    broken_within c.args.steps.now c.run_told.new.steps b.whole c.args.setting.now.bound b.counter b.within

pub returns-in_err-end-clause-short : goal.returns-in_err-end-clause-short
returns-in_err-end-clause-short g c =
    let program = source_of c.args.setting.now.checked in
    let limits = c.args.setting.now.limits in
    let input = c.args.setting.now.input.words.items in
    let bound = c.args.setting.now.bound in
    let before = g.P.Probes.watches c.args.probes.now in
    let after = g.P.Probes.watches c.run_told.new.probes in
    on_err_always c.from_residual-in_err-end.result ((after ≡ before)
    ⊎ ProfilesShort before after program limits input bound)
    (inr (loaded_short program limits input bound c.in_ok-machine.machine c.in_ok-machine.ensures
    c.run_told.ensures.machine.is_image before after (told_short _ _ _ _ _ _ _ _ _ c.in_err-end.ensures.broken_off)))

pub returns-in_err-said-clause-short : goal.returns-in_err-said-clause-short
returns-in_err-said-clause-short g c =
    let program = source_of c.args.setting.now.checked in
    let limits = c.args.setting.now.limits in
    let input = c.args.setting.now.input.words.items in
    let bound = c.args.setting.now.bound in
    let before = g.P.Probes.watches c.args.probes.now in
    let after = g.P.Probes.watches c.run_told.new.probes in
    on_err_always c.from_residual-in_err-said.result ((after ≡ before)
    ⊎ ProfilesShort before after program limits input bound)
    (inr (loaded_short program limits input bound c.in_ok-machine.machine c.in_ok-machine.ensures
    c.run_told.ensures.machine.is_image before after (inl c.in_ok-end.ensures.told)))

pub returns-clause-short : goal.returns-clause-short
returns-clause-short g c =
    let program = source_of c.args.setting.now.checked in
    let limits = c.args.setting.now.limits in
    let input = c.args.setting.now.input.words.items in
    let bound = c.args.setting.now.bound in
    let before = g.P.Probes.watches c.args.probes.now in
    let after = g.P.Probes.watches c.run_told.new.probes in
    on_err_always c.with_probes.result ((after ≡ before) ⊎ ProfilesShort before after program limits input bound)
    (inr (loaded_short program limits input bound c.in_ok-machine.machine c.in_ok-machine.ensures
    c.run_told.ensures.machine.is_image before after (inl c.in_ok-end.ensures.told)))
