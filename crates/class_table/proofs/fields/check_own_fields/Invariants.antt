use Rattle.std.proofs.Common.{◌≡◌, drop}
use Rattle.class_rules.specs.Members.{taken_field}
use Rattle.class_table.proofs.fields.check_own_fields.Given as goal

abbrev pub invariant-loop-var : goal.invariant-loop-var
invariant-loop-var l = taken_field l.initial.names.keys l.own ≡ taken_field l.names.keys (drop l.var-index l.own)
