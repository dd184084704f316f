use Rattle.std.proofs.Common.{◌≡◌, ◌++◌, take}
use Rattle.class_table.proofs.fields.add_vars.Given as goal

abbrev pub invariant-loop-var : goal.invariant-loop-var
invariant-loop-var l = l.list.items ≡ l.initial.list.items ++ take l.var-index l.vars
