use Rattle.std.proofs.Common.{◌≡◌, List, length, map}
use Rattle.rpp_tree.specs.Bare.{bare_var}
use Rattle.rpp_tree.specs.declared.tree.Var.{Var}
use Rattle.tree_walks.proofs.PartByPart.{RestDecides}
use Rattle.tree_walks.proofs.alike_code.alike_var_lists.Given as goal

abbrev pub invariant-loop-i : goal.invariant-loop-i
invariant-loop-i l = record {
  long : length l.a ≡ length l.b;
  rest : RestDecides Var (List Var) (map bare_var) l.a l.b l.i;
}
