use Rattle.std.proofs.Common.{◌∙◌, option_map, string_bytes, subst, List, ℕ}
use Rattle.command_plan.specs.rpp_tree.declared.limits.TheConstants.{MOST_BYTES}
use Rattle.command_plan.specs.Plans.{planned, WithInput}
use Rattle.command_plan.proofs.GivenTexts.{with_text}
use Rattle.wrap_commands.specs.WrapPlans.{IsWrapPlan}
use Rattle.wrap_commands.proofs.planning.wrap.Goals as goal

pub returns-clause-plan : goal.returns-clause-plan
returns-clause-plan g c =
    let told = g.S.Shelf.texts c.args.shelf.now in
    let input = option_map string_bytes c.args.input.now in
    let given = c.in_ok-given.given in
    let P : List ℕ → List ℕ → Type 0 = λ text entered. IsWrapPlan c.args.steps.now c.wrap_text.new.steps text
    c.args.names.now entered c.args.sizes
    (planned c.in_ok-wrap_text.field-0) in
    with_text told c.args.file.now MOST_BYTES given.text.items c.deref.result.now
    (λ text. WithInput told input (P text)) c.in_ok-given.ensures.text c.in_ok-given.ensures.within
    c.deref.ensures.value
    (record {
      text = given.input.items;
      is_text = c.in_ok-given.ensures.input;
      within = c.in_ok-given.ensures.within_input;
      holds = subst (λ (names : List ℕ). IsWrapPlan c.args.steps.now c.wrap_text.new.steps
          c.deref.result.now names given.input.items c.args.sizes (planned c.in_ok-wrap_text.field-0))
          (c.in_ok-wanted.ensures.items_if_clones_equal (λ x y e. e) ∙ c.as_bytes.ensures.value)
          c.in_ok-wrap_text.ensures.plan;
    })
