use Rattle.std.proofs.Common.{◌≡◌, length}
use Rattle.rpp_tree.specs.Tree.{Statements}
use Rattle.rpp_tree.specs.declared.tree.Stmt.{Stmt}
use Rattle.tree_walks.proofs.PartByPart.{RestDecides, bare_block}
use Rattle.tree_walks.proofs.alike_code.+alike_code.Given as goal

abbrev pub decreases-alike_blocks : goal.decreases-alike_blocks
decreases-alike_blocks l = goal.size-alike_blocks l

abbrev pub decreases-alike_stmts : goal.decreases-alike_stmts
decreases-alike_stmts l = goal.size-alike_stmts l

abbrev pub invariant-alike_blocks-loop-i : goal.invariant-alike_blocks-loop-i
invariant-alike_blocks-loop-i l = record {
  long : length l.a.list.items ≡ length l.b.list.items;
  rest : RestDecides Stmt Statements bare_block l.a.list.items l.b.list.items l.i;
}
