use Rattle.std.proofs.Common.{◌≡◌, List, length, map}
use Rattle.rpp_tree.specs.Bare.{bare_procedure}
use Rattle.rpp_tree.specs.Views.{procedure_of}
use Rattle.rpp_tree.specs.Tree.{Procedure}
use Rattle.rpp_tree.specs.declared.tree.Method.{Method}
use Rattle.tree_walks.proofs.PartByPart.{RestDecides}
use Rattle.tree_walks.proofs.alike_code.alike_method_lists.Given as goal

abbrev pub invariant-loop-i : goal.invariant-loop-i
invariant-loop-i l = record {
  long : length l.a ≡ length l.b;
  rest : RestDecides Method (List Procedure) (λ xs. map bare_procedure (map procedure_of xs)) l.a l.b l.i;
}
