use Rattle.std.proofs.Common.{option_map, string_bytes, List, ℕ}
use Rattle.run_settings.specs.rpp_tree.declared.limits.TheConstants.{MOST_BYTES}
use Rattle.run_settings.specs.command_plan.Plans.{planned, WithInput}
use Rattle.run_settings.proofs.command_plan_laws.GivenTexts.{with_text, with_input}
use Rattle.explain_commands.specs.Explained.{IsExplainPlan}
use Rattle.explain_commands.proofs.explaining.explain.Goals as goal

pub returns-clause-plan : goal.returns-clause-plan
returns-clause-plan g c =
    let told = g.S.Shelf.texts c.args.shelf.now in
    let input = option_map string_bytes c.args.input.now in
    let given = c.in_ok-given.given in
    let P : List ℕ → List ℕ → Type 0 = λ text entered. IsExplainPlan text entered c.args.sizes
    (planned c.in_ok-explain_text.field-0) in
    with_text told c.args.file.now MOST_BYTES given.text.items c.deref.result.now
    (λ text. WithInput told input (P text)) c.in_ok-given.ensures.text c.in_ok-given.ensures.within
    c.deref.ensures.value
    (with_input told input given.input.items c.deref-2.result.now (P c.deref.result.now) c.in_ok-given.ensures.input
    c.in_ok-given.ensures.within_input c.deref-2.ensures.value c.in_ok-explain_text.ensures)
