use Rattle.std.proofs.Common.{◌≡◌, take, map}
use Rattle.class_rules.specs.rpp_tree.Views.{class_text_of}
use Rattle.class_rules.specs.Chains.{parent_named}
use Rattle.class_table.proofs.chains.parents.Given as goal

abbrev pub invariant-loop-class : goal.invariant-loop-class
invariant-loop-class l = l.list.items ≡ map (λ class. parent_named l.names.keys class.parent)
    (map class_text_of (take l.class-index l.class-items))
