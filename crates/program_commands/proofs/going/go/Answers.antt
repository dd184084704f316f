use Rattle.std.proofs.Common.{option_map, string_bytes, List, ℕ}
use Rattle.command_plan.specs.rpp_tree.declared.limits.TheConstants.{MOST_BYTES}
use Rattle.command_plan.specs.Plans.{planned, WithInput}
use Rattle.command_plan.proofs.GivenTexts.{with_text, with_input}
use Rattle.program_commands.specs.RunPlans.{IsGoPlan}
use Rattle.program_commands.proofs.going.go.Goals as goal

pub returns-clause-plan : goal.returns-clause-plan
returns-clause-plan g c =
    let told = g.S.Shelf.texts c.args.shelf.now in
    let input = option_map string_bytes c.args.input.now in
    let given = c.in_ok-given.given in
    let P : List ℕ → List ℕ → Type 0 = λ text entered. IsGoPlan c.args.steps.now c.go_over.new.steps text
    entered c.args.sizes (planned c.in_ok-go_over.field-0) in
    with_text told c.args.file.now MOST_BYTES given.text.items c.deref.result.now
    (λ text. WithInput told input (P text)) c.in_ok-given.ensures.text c.in_ok-given.ensures.within
    c.deref.ensures.value
    (with_input told input given.input.items c.deref-2.result.now (P c.deref.result.now) c.in_ok-given.ensures.input
    c.in_ok-given.ensures.within_input c.deref-2.ensures.value c.in_ok-go_over.ensures.plan)
