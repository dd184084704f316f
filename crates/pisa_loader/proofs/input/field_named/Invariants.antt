use Rattle.std.proofs.Common.{◌≡◌, drop}
use Rattle.pisa_loader.specs.InputLines.{field_named}
use Rattle.pisa_loader.proofs.input.field_named.Given as goal

abbrev pub invariant-loop-known : goal.invariant-loop-known
invariant-loop-known l = field_named (drop l.known-index l.fields) l.name ≡ field_named l.fields l.name
