use Rattle.std.proofs.Common.{◌≡◌, None, take, drop, map}
use Rattle.class_rules.specs.Members.{field_name, taken_field}
use Rattle.class_table.proofs.fields.names_of.Given as goal

abbrev pub invariant-loop-var : goal.invariant-loop-var
invariant-loop-var l = record {
  names : l.names.keys ≡ map field_name (take l.var-index l.vars);
  fresh : taken_field l.names.keys (drop l.var-index l.vars) ≡ None;
}
