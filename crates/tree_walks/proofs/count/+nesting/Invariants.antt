use Rattle.std.proofs.Common.{◌≡◌, ◌<◌, ◌^◌, max, drop, map}
use Rattle.rpp_tree.specs.Tree.{depth as nesting}
use Rattle.rpp_tree.specs.Views.{statement_of, statements_of, block_of}
use Rattle.tree_walks.proofs.count.+nesting.Given as goal

abbrev pub decreases-depth : goal.decreases-depth
decreases-depth l = goal.size-depth l

abbrev pub decreases-stmt_depth : goal.decreases-stmt_depth
decreases-stmt_depth l = goal.size-stmt_depth l

abbrev pub invariant-depth-loop-stmt : goal.invariant-depth-loop-stmt
invariant-depth-loop-stmt l =
    (max l.deepest (nesting (statements_of (map statement_of (drop l.stmt-index l.stmt-items))))
    ≡ nesting (block_of l.fn.b)) × (nesting (block_of l.fn.b) < 2 ^ 64)
