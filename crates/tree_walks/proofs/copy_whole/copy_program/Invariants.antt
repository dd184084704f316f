use Rattle.std.proofs.Common.{◌≡◌, take, map}
use Rattle.rpp_tree.specs.Views.{class_text_of}
use Rattle.tree_walks.proofs.copy_whole.copy_program.Given as goal

abbrev pub invariant-loop-class : goal.invariant-loop-class
invariant-loop-class l = map class_text_of l.classes.items ≡ map class_text_of (take l.class-index l.class-items)
