use Rattle.std.proofs.Common.{◌+◌, ◌∙◌, sym, ap, map, Some}
use Rattle.std.proofs.lemmas.List.{length-map}
use Rattle.std.specs.Str.{bytes_eq}
use Rattle.source_steps.proofs.Scopes.{position_behind}
use Rattle.source_steps.proofs.scope.searched_slot.Goals as goal

pub returns-in-Some-var_slot-clause-place : goal.returns-in-Some-var_slot-clause-place
returns-in-Some-var_slot-clause-place c =
    ap (λ n. Some (n + c.in-Some-var_slot.at)) (sym (length-map c.args.scope.now.locals.now (λ own. own.now)))
    ∙ position_behind (bytes_eq c.args.name.now) (map (λ own. own.now) c.args.scope.now.locals.now)
    (map (λ var. var.name.text) c.args.scope.now.params.now) c.in-Some-var_slot.at c.in-None.ensures.place
    c.in-Some-var_slot.ensures.place
