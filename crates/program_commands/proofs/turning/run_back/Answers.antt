use Rattle.std.proofs.Common.{◌≡◌, ◌∙◌, sym, ap, inr, ◌+◌}
use Rattle.std.specs.Prelude.{◌⊎◌}
use Rattle.image_inverter.specs.pisa_isa.Flipped.{flipped}
use Rattle.image_inverter.specs.pisa_isa.Runs.{started}
use Rattle.program_commands.specs.ToldShort.{IsToldSoFar}
use Rattle.program_commands.proofs.Watched.{told_short, so_far_from}
use Rattle.command_plan.specs.rpp_tree.Views.{source_of}
use Rattle.image_inverter.specs.pisa_isa.Flipped.{flipped_image}
use Rattle.image_inverter.specs.pisa_isa.Image.{Segments}
use Rattle.image_inverter.specs.pisa_isa.Runs.{run}
use Rattle.store_report.specs.pisa_machine.Position.{Position, first_position}
use Rattle.program_commands.proofs.Turned.{back_cells, back_spent, broken_within}
use Rattle.program_commands.proofs.turning.run_back.Goals as goal
use Rattle.command_plan.proofs.pisa_scripts_laws.Errors.{on_err_always}

pub returns-clause-cells : goal.returns-clause-cells
returns-clause-cells g c =
    let m = c.args.machine in
    let same : c.in_ok-flipped.flipped ≡ flipped_image m.image = c.in_ok-flipped.ensures.flipped
    ∙ ap flipped_image c.image.ensures.image in
    let first : c.with_image-machine.result ≡ first_position (flipped_image m.image) m.state.regs m.state.cells =
    c.with_image-machine.ensures ∙ ap (λ (i : Segments). first_position i m.state.regs m.state.cells) same in
    back_cells (source_of c.args.setting.now.checked) c.args.setting.now.limits c.args.setting.now.input.words.items
    c.args.setting.now.bound m c.args._spent c.requires
    (record { why = c.in_ok-back.back.stop; spent = c.in_ok-back.back.spent; last = c.run_told.new.self.state })
    (sym (ap (λ (p : Position). run p.image.code c.args.setting.now.bound p.state) first) ∙ c.in_ok-back.ensures.runs)

pub returns-clause-spent : goal.returns-clause-spent
returns-clause-spent g c =
    let m = c.args.machine in
    let same : c.in_ok-flipped.flipped ≡ flipped_image m.image = c.in_ok-flipped.ensures.flipped
    ∙ ap flipped_image c.image.ensures.image in
    let first : c.with_image-machine.result ≡ first_position (flipped_image m.image) m.state.regs m.state.cells =
    c.with_image-machine.ensures ∙ ap (λ (i : Segments). first_position i m.state.regs m.state.cells) same in
    back_spent (source_of c.args.setting.now.checked) c.args.setting.now.limits c.args.setting.now.input.words.items
    c.args.setting.now.bound m c.args._spent c.requires
    (record { why = c.in_ok-back.back.stop; spent = c.in_ok-back.back.spent; last = c.run_told.new.self.state })
    (sym (ap (λ (p : Position). run p.image.code c.args.setting.now.bound p.state) first) ∙ c.in_ok-back.ensures.runs)

pub returns-clause-counter : goal.returns-clause-counter
returns-clause-counter g c =
    c.in_ok-back.ensures.counter ∙ ap (λ n. c.args.steps.now + n) (returns-clause-spent g c)

pub returns-in_err-back-clause-within : goal.returns-in_err-back-clause-within
returns-in_err-back-clause-within g c =
    let b = c.in_err-back.ensures.broken_off in
    broken_within c.args.steps.now c.run_told.new.steps b.whole c.args.setting.now.bound b.counter b.within

pub returns-in_err-back-clause-short : goal.returns-in_err-back-clause-short
returns-in_err-back-clause-short g c =
    let m = c.args.machine in
    let bound = c.args.setting.now.bound in
    let before = g.P.Probes.watches c.args.probes.now in
    let after = g.P.Probes.watches c.run_told.new.probes in
    let code = flipped m.image.code in
    let same : c.in_ok-flipped.flipped ≡ flipped_image m.image = c.in_ok-flipped.ensures.flipped
    ∙ ap flipped_image c.image.ensures.image in
    let first : c.with_image-machine.result ≡ first_position (flipped_image m.image) m.state.regs m.state.cells =
    c.with_image-machine.ensures ∙ ap (λ (i : Segments). first_position i m.state.regs m.state.cells) same in
    on_err_always c.from_residual-in_err-back.result
    ((after ≡ before) ⊎ IsToldSoFar code bound (started code m.state.regs m.state.cells) before after)
    (inr (so_far_from code (started code m.state.regs m.state.cells) c.with_image-machine.result bound before after
    (ap (λ (p : Position). p.image.code) first) (ap (λ (p : Position). p.state) first)
    (told_short _ _ _ _ _ _ _ _ _ c.in_err-back.ensures.broken_off)))
