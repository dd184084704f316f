use Rattle.std.proofs.Common.{◌∙◌}
use Rattle.class_table.specs.rpp_tree.declared.tree.Var.{Var}
use Rattle.std.specs.Str.{bytes_eq}
use Rattle.source_steps.proofs.Scopes.{position_in_map, position_within}
use Rattle.source_steps.proofs.scope.var_slot.Goals as goal

pub returns-clause-place : goal.returns-clause-place
returns-clause-place c = c.first_var.ensures
    ∙ position_in_map (bytes_eq c.args.name.now) (λ (var : Var). var.name.text) c.args.vars.now

pub returns-clause-within : goal.returns-clause-within
returns-clause-within c = position_within (λ (var : Var). bytes_eq c.args.name.now var.name.text) c.args.vars.now
    c.first_var.result c.first_var.ensures
