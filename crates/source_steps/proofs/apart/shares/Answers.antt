use Rattle.std.proofs.Common.{◌∙◌, ap}
use Rattle.std.specs.Prelude.{◌||◌}
use Rattle.class_table.specs.rpp_tree.Views.{expression_of}
use Rattle.source_store.specs.roopl_semantics.Value.{variable_value}
use Rattle.source_steps.specs.Apart.{meets_array}
use Rattle.source_steps.specs.StateView.{state_of, setting_of}
use Rattle.source_steps.proofs.Elements.{meets_one, meets_both}
use Rattle.source_steps.proofs.apart.shares.Goals as goal

pub returns-in-None : goal.returns-in-None
returns-in-None c =
    let program = (setting_of c.args.setting.now).program in
    let st = state_of c.args.setting.now c.args.scope.now c.args.heap.now c.args.values.now in
    rw c.in-None.is (c.meets-later.ensures ∙ ap (λ v. meets_array program st v (expression_of c.args.second.now))
    c.variable-array.ensures ∙ meets_one program st c.args.name.now (expression_of c.args.second.now))

pub returns-in-Some : goal.returns-in-Some
returns-in-Some c =
    let program = (setting_of c.args.setting.now).program in
    let st = state_of c.args.setting.now c.args.scope.now c.args.heap.now c.args.values.now in
    rw c.in-Some.is (c.either.ensures
    ∙ ap (λ b. b || c.meets-later.result) (c.meets-sooner.ensures
    ∙ ap (λ v. meets_array program st v (expression_of c.in-Some.first.now)) c.variable-array.ensures)
    ∙ ap (λ b. meets_array program st (variable_value program st c.args.name.now.text)
    (expression_of c.in-Some.first.now) ||
    b) (c.meets-later.ensures ∙ ap (λ v. meets_array program st v (expression_of c.args.second.now))
    c.variable-array.ensures)
    ∙ meets_both program st c.args.name.now (expression_of c.in-Some.first.now) (expression_of c.args.second.now))
