use Rattle.std.proofs.Common.{◌≡◌, drop}
use Rattle.class_table.specs.class_rules.Members.{has_field}
use Rattle.reversible_types.proofs.program.is_among.Given as goal

abbrev pub invariant-loop-var : goal.invariant-loop-var
invariant-loop-var l = has_field l.vars l.name ≡ has_field (drop l.var-index l.vars) l.name
