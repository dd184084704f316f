use Rattle.std.proofs.Common.{◌≡◌, List, length, map}
use Rattle.rpp_tree.specs.Bare.{bare_class}
use Rattle.rpp_tree.specs.Views.{class_text_of}
use Rattle.rpp_tree.specs.Tree.{ClassText}
use Rattle.rpp_tree.specs.declared.tree.Class.{Class}
use Rattle.tree_walks.proofs.PartByPart.{RestDecides}
use Rattle.tree_walks.proofs.alike_code.alike.Given as goal

abbrev pub invariant-loop-i : goal.invariant-loop-i
invariant-loop-i l = record {
  long : length l.a.classes.items ≡ length l.b.classes.items;
  rest : RestDecides Class (List ClassText) (λ xs. map bare_class (map class_text_of xs)) l.a.classes.items
      l.b.classes.items l.i;
}
