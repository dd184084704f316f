use Rattle.std.proofs.Common.{◌≡◌, [], drop}
use Rattle.class_rules.specs.rpp_tree.Views.{source_of}
use Rattle.class_rules.specs.Members.{slots_along}
use Rattle.class_table.proofs.slots.slots_along.Given as goal

abbrev pub invariant-loop-number : goal.invariant-loop-number
invariant-loop-number l = slots_along (source_of l.program) l.slots.entries (drop l.number-index l.line)
    ≡ slots_along (source_of l.program) [] l.line
