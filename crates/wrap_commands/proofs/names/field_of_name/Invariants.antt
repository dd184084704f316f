use Rattle.std.proofs.Common.{◌≡◌, drop}
use Rattle.wrap_commands.specs.WrapNames.{field_of_name}
use Rattle.wrap_commands.proofs.names.field_of_name.Given as goal

abbrev pub invariant-loop-field : goal.invariant-loop-field
invariant-loop-field l = field_of_name (drop l.field-index l.fields) l.name ≡ field_of_name l.fields l.name
