use Rattle.std.proofs.Common.{List, ℕ, inl, inr, ⊎_elim}
use Rattle.command_plan.specs.pisa_image.Reading.{image_at}
use Rattle.command_plan.specs.pisa_scripts.declared.lines.TheConstants.{MOST_SCRIPT}
use Rattle.command_plan.specs.declared.reading.TheConstants.{MOST_IMAGE}
use Rattle.command_plan.specs.Plans.{planned, WithText}
use Rattle.command_plan.proofs.GivenTexts.{with_text}
use Rattle.image_commands.specs.DebugPlans.{IsDebugPlan, IsDebugShort, DebugsFileShort}
use Rattle.image_commands.proofs.debugging.debug.Goals as goal
use Rattle.command_plan.proofs.pisa_scripts_laws.Errors.{on_err_always}

pub returns-clause-plan : goal.returns-clause-plan
returns-clause-plan g c =
    let told = g.S.Shelf.texts c.args.shelf.now in
    let read = c.in_ok-read.read in
    let P : List ℕ → List ℕ → Type 0 = λ bytes text. IsDebugPlan (image_at bytes) c.args.room
    text c.args.steps.now c.debug_over.new.steps (planned c.in_ok-debug_over.field-0) in
    with_text told c.args.image.now MOST_IMAGE read.first.items c.deref.result.now
    (λ bytes. WithText told c.args.script.now MOST_SCRIPT (P bytes)) c.in_ok-read.ensures.text
    c.in_ok-read.ensures.within c.deref.ensures.value
    (with_text told c.args.script.now MOST_SCRIPT read.second.items c.deref-2.result.now (P c.deref.result.now)
    c.in_ok-read.ensures.other c.in_ok-read.ensures.within_second c.deref-2.ensures.value
    c.in_ok-debug_over.ensures.plan)

pub returns-in_err-debug_over-clause-short : goal.returns-in_err-debug_over-clause-short
returns-in_err-debug_over-clause-short g c =
    let told = g.S.Shelf.texts c.args.shelf.now in
    let read = c.in_ok-read.read in
    let P : List ℕ → List ℕ → Type 0 = λ bytes text. IsDebugShort (image_at bytes) c.args.room
    text c.args.steps.now c.debug_over.new.steps in
    on_err_always c.from_residual-in_err-debug_over.result
    (DebugsFileShort c.args.image.now c.args.room c.args.script.now c.args.steps.now
    c.debug_over.new.steps told)
    (⊎_elim (λ e. inl e)
    (λ short. inr (with_text told c.args.image.now MOST_IMAGE read.first.items c.deref.result.now
    (λ bytes. WithText told c.args.script.now MOST_SCRIPT (P bytes)) c.in_ok-read.ensures.text
    c.in_ok-read.ensures.within c.deref.ensures.value
    (with_text told c.args.script.now MOST_SCRIPT read.second.items c.deref-2.result.now (P c.deref.result.now)
    c.in_ok-read.ensures.other c.in_ok-read.ensures.within_second c.deref-2.ensures.value short)))
    c.in_err-debug_over.ensures.short)
