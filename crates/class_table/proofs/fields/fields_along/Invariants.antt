use Rattle.std.proofs.Common.{◌≡◌, ◌++◌, drop}
use Rattle.class_rules.specs.rpp_tree.Views.{source_of}
use Rattle.class_rules.specs.Members.{fields_along}
use Rattle.class_table.proofs.fields.fields_along.Given as goal

abbrev pub invariant-loop-number : goal.invariant-loop-number
invariant-loop-number l = l.list.items ++ fields_along (source_of l.program) (drop l.number-index l.line)
    ≡ fields_along (source_of l.program) l.line
