use Rattle.std.proofs.Common.{◌∙◌}
use Rattle.code_scope.proofs.Fields.{place_is}
use Rattle.code_scope.proofs.names.field.Goals as goal

pub returns-clause-number : goal.returns-clause-number
returns-clause-number c = c.first_place.ensures.place ∙ place_is c.args.name.now c.args.fields.now
