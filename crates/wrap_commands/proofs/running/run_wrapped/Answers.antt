use Rattle.std.proofs.Common.{◌≡◌, ◌∙◌, sym, ap, subst, ℕ, List, length, arith}
use Rattle.std.specs.List.{All}
use Rattle.command_plan.specs.rpp_tree.Views.{source_of}
use Rattle.store_report.specs.pisa_isa.Image.{Segments, IsImage}
use Rattle.store_report.specs.pisa_machine.Position.{Position}
use Rattle.command_plan.specs.pisa_loader.Limiting.{IsInputOf}
use Rattle.refine_wrap.specs.bennett_wrap.Wrapped.{Wrapped}
use Rattle.command_plan.specs.Plans.{planned}
use Rattle.program_runs.proofs.Weaker.{weaken}
use Rattle.program_runs.proofs.run_settings_laws.ValidInput.{input_fits}
use Rattle.wrap_commands.specs.WrapNames.{HasLowNumber, result_cells}
use Rattle.wrap_commands.proofs.Wrapping.{low_numbers, has_wrapped, wraps_image}
use Rattle.wrap_commands.proofs.running.run_wrapped.Goals as goal

pub cells_of-requires : goal.cells_of-requires
cells_of-requires g c =
    subst (All HasLowNumber) (sym c.deref.ensures.value)
    (low_numbers (source_of c.args.checked.now) c.in_ok-image.image c.args.setting.now.results.items
    c.in_ok-image.ensures.image c.in_ok-image.ensures.stands c.requires.results)

pub load_more-requires-clause-input : goal.load_more-requires-clause-input
load_more-requires-clause-input g c =
    subst (λ statics. IsInputOf statics c.args.setting.now.input.words.items) (sym c.in_ok-wrapped.ensures.statics)
    (input_fits (source_of c.args.checked.now) c.in_ok-image.image c.args.setting.now.input.words.items
    c.in_ok-image.ensures.stands.statics c.requires.valid)

pub report_run-requires : goal.report_run-requires
report_run-requires g c =
    let program = source_of c.args.checked.now in
    let s = c.args.setting.now in
    let image = c.in_ok-image.image in
    let wrapped = c.in_ok-wrapped.wrapped in
    let cells = c.in_ok-cells.cells.items in
    let cells_are : cells ≡ result_cells s.results.items = c.in_ok-cells.ensures
    ∙ ap result_cells c.deref.ensures.value in
    let counted = c.len-count.ensures in
    let many : c.len-count.result ≡ length cells = omega (arith, counted) in
    let wraps : Wrapped image.code cells wrapped.code = subst (λ (xs : List ℕ). Wrapped image.code xs wrapped.code)
    c.deref-2.ensures.value c.in_ok-wrapped.ensures.runs in
    has_wrapped program s.results.items s.limits s.input.words.items s.bound image wrapped cells c.len-count.result
    c.in_ok-machine.machine c.run-end.new.self c.run-end.result.stop c.run-end.result.spent
    c.is_accepted.ensures c.requires.limits c.requires.valid c.in_ok-image.ensures.image c.in_ok-image.ensures.stands
    c.requires.results
    cells_are many wraps c.in_ok-wrapped.ensures.statics c.in_ok-machine.ensures.machine c.run-end.ensures.machine
    c.run-end.ensures.image c.run-end.ensures.runs

pub returns-clause-plan : goal.returns-clause-plan
returns-clause-plan g c =
    let program = source_of c.args.checked.now in
    let s = c.args.setting.now in
    let image = c.in_ok-image.image in
    let wrapped = c.in_ok-wrapped.wrapped in
    let cells = c.in_ok-cells.cells.items in
    let cells_are : cells ≡ result_cells s.results.items = c.in_ok-cells.ensures
    ∙ ap result_cells c.deref.ensures.value in
    let counted = c.len-count.ensures in
    let many : c.len-count.result ≡ length cells = omega (arith, counted) in
    let wraps : Wrapped image.code cells wrapped.code = subst (λ (xs : List ℕ). Wrapped image.code xs wrapped.code)
    c.deref-2.ensures.value c.in_ok-wrapped.ensures.runs in
    let has = has_wrapped program s.results.items s.limits s.input.words.items s.bound image wrapped cells
    c.len-count.result c.in_ok-machine.machine c.run-end.new.self c.run-end.result.stop c.run-end.result.spent
    c.is_accepted.ensures c.requires.limits c.requires.valid c.in_ok-image.ensures.image c.in_ok-image.ensures.stands
    c.requires.results
    cells_are many wraps c.in_ok-wrapped.ensures.statics c.in_ok-machine.ensures.machine c.run-end.ensures.machine
    c.run-end.ensures.image c.run-end.ensures.runs in
    let end = c.run-end.new.self in
    let own : end.image ≡ wrapped = c.run-end.ensures.image
    ∙ ap (λ (p : Position). p.image) c.in_ok-machine.ensures.machine in
    let wraps_end : Wrapped image.code (result_cells s.results.items) end.image.code =
    subst (λ (i : Segments). Wrapped image.code (result_cells s.results.items) i.code) (sym own)
    (subst (λ (xs : List ℕ). Wrapped image.code xs wrapped.code) cells_are wraps) in
    let is_image : IsImage end.image = subst IsImage (sym c.run-end.ensures.image) c.run-end.ensures.machine.is_image in
    weaken c.report_run.result _ _
    (λ plan tells. wraps_image program s.results.items s.limits s.input.words.items s.bound image end
    c.run-end.result.spent c.run-end.result.stop has c.in_ok-image.ensures.stands is_image wraps_end
    (planned plan) tells c.args.steps.now c.run-end.new.steps c.run-end.ensures.counter)
    c.report_run.ensures
