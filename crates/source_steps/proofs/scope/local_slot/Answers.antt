use Rattle.std.proofs.Common.{◌∙◌, Bor, List, ℕ}
use Rattle.std.specs.Str.{bytes_eq}
use Rattle.source_steps.proofs.Scopes.{position_in_map, position_within}
use Rattle.source_steps.proofs.scope.local_slot.Goals as goal

pub returns-clause-place : goal.returns-clause-place
returns-clause-place c = c.first_local.ensures
    ∙ position_in_map (bytes_eq c.args.name.now) (λ (own : Bor (List ℕ)). own.now) c.args.locals.now

pub returns-clause-within : goal.returns-clause-within
returns-clause-within c = position_within (λ (own : Bor (List ℕ)). bytes_eq c.args.name.now own.now) c.args.locals.now
    c.first_local.result c.first_local.ensures
