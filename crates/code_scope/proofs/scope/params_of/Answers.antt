use Rattle.std.proofs.Common.{sym, subst, rules, ◌≤◌, length, List}
use Rattle.refine_form.specs.rpp_tree.declared.tree.Var.{Var}
use Rattle.refine_form.specs.rpp_tree.Views.{source_of}
use Rattle.code_scope.proofs.Parameters.{parameters_few}
use Rattle.code_scope.proofs.scope.params_of.Goals as goal

pub returns-clause-value : goal.returns-clause-value
returns-clause-value c = search rules

pub returns-clause-few : goal.returns-clause-few
returns-clause-few c =
    subst (λ (l : List Var). length l ≤ 16) (sym (returns-clause-value c))
    (parameters_few (source_of c.args.checked.now) c.args.id c.program-program.ensures.accepted.limits)
