use Rattle.std.proofs.Common.{◌≡◌, List, length, map}
use Rattle.rpp_tree.specs.Bare.{bare_name}
use Rattle.rpp_tree.specs.declared.tree.Ident.{Ident}
use Rattle.tree_walks.proofs.PartByPart.{RestDecides}
use Rattle.tree_walks.proofs.alike_code.alike_name_lists.Given as goal

abbrev pub invariant-loop-i : goal.invariant-loop-i
invariant-loop-i l = record {
  long : length l.a ≡ length l.b;
  rest : RestDecides Ident (List Ident) (map bare_name) l.a l.b l.i;
}
