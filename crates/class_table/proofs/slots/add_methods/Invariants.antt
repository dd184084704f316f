use Rattle.std.proofs.Common.{◌≡◌, drop, map}
use Rattle.class_rules.specs.rpp_tree.Views.{procedure_of}
use Rattle.class_rules.specs.Members.{with_methods}
use Rattle.class_table.proofs.slots.add_methods.Given as goal

abbrev pub invariant-loop-number : goal.invariant-loop-number
invariant-loop-number l = with_methods l.class l.number (map procedure_of (drop l.number l.methods)) l.slots.entries
    ≡ with_methods l.class 0 (map procedure_of l.methods) l.initial.slots.entries
