use Rattle.std.proofs.Common.{◌≡◌, drop, map}
use Rattle.class_rules.specs.Names.{with_names}
use Rattle.class_rules.specs.Members.{field_name}
use Rattle.class_table.proofs.fields.add_field_names.Given as goal

abbrev pub invariant-loop-var : goal.invariant-loop-var
invariant-loop-var l = with_names l.names.keys (map field_name (drop l.var-index l.vars))
    ≡ with_names l.initial.names.keys (map field_name l.vars)
