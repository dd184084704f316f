use Rattle.std.proofs.Common.{◌≡◌, ◌++◌, drop, map}
use Rattle.roopl_parser.specs.rpp_tree.Views.{statement_of, statements_of, block_of}
use Rattle.roopl_printer.specs.Printed.{with_gaps}
use Rattle.roopl_printer.specs.Spelled.{spelled_block}
use Rattle.roopl_printer.proofs.code.+put_code.Given as goal

abbrev pub decreases-put_block : goal.decreases-put_block
decreases-put_block l = goal.size-put_block l

abbrev pub decreases-put_stmt : goal.decreases-put_stmt
decreases-put_stmt l = goal.size-put_stmt l

abbrev pub invariant-put_block-loop-stmt : goal.invariant-put_block-loop-stmt
invariant-put_block-loop-stmt l =
    l.out.items ++ with_gaps (spelled_block (statements_of (map statement_of (drop l.stmt-index l.stmt-items))))
    ≡ l.initial.out.items ++ with_gaps (spelled_block (block_of l.fn.block))
