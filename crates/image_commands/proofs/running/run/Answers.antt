use Rattle.std.proofs.Common.{option_map, List, ℕ}
use Rattle.std.specs.declared.option.Option.{Option}
use Rattle.command_plan.specs.pisa_image.Reading.{image_at}
use Rattle.command_plan.specs.declared.reading.TheConstants.{MOST_IMAGE}
use Rattle.command_plan.specs.Files.{state_of_names, save_of_names}
use Rattle.command_plan.specs.Plans.{planned, WithState}
use Rattle.command_plan.proofs.GivenTexts.{with_text, with_state}
use Rattle.image_commands.specs.ImagePlans.{IsRunPlan}
use Rattle.image_commands.proofs.running.run.Goals as goal

pub returns-clause-plan : goal.returns-clause-plan
returns-clause-plan g c =
    let told = g.S.Shelf.texts c.args.shelf.now in
    let named = state_of_names c.args.states.now in
    let state = option_map (λ v. v.items) c.in_ok-read.read.state in
    let P : List ℕ → Option (List ℕ) → Type 0 = λ bytes given. IsRunPlan (image_at bytes) c.args.sizes given
    (save_of_names c.args.states.now) c.args.steps.now
    c.run_over.new.steps
    (planned c.in_ok-run_over.field-0) in
    with_text told c.args.image.now MOST_IMAGE c.in_ok-read.read.image.items c.deref.result.now
    (λ bytes. WithState told named (P bytes)) c.in_ok-read.ensures.text c.in_ok-read.ensures.within
    c.deref.ensures.value
    (record { text = state; is_text = c.in_ok-read.ensures.state; holds = c.in_ok-run_over.ensures.plan })
