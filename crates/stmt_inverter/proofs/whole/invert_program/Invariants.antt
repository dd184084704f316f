use Rattle.std.proofs.Common.{◌≡◌, take, map}
use Rattle.tree_walks.specs.rpp_tree.Views.{class_text_of}
use Rattle.inverse_rules.specs.Inverse.{inverse_class}
use Rattle.stmt_inverter.proofs.whole.invert_program.Given as goal

abbrev pub invariant-loop-class : goal.invariant-loop-class
invariant-loop-class l = map class_text_of l.classes.items
    ≡ map inverse_class (map class_text_of (take l.class-index l.class-items))
