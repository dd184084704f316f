use Rattle.std.proofs.Common.{◌+◌, ◌*◌, drop, map}
use Rattle.refine_objects.specs.rpp_tree.Parts.{statement_tokens, block_tokens}
use Rattle.refine_objects.specs.rpp_tree.Views.{statement_of, statements_of, block_of}
use Rattle.statement_codegen.proofs.Pieces.{IsMaking}
use Rattle.statement_codegen.proofs.blocks.+blocks.Given as goal

abbrev pub decreases-block_piece : goal.decreases-block_piece
decreases-block_piece l = 2 * block_tokens (block_of l.body.now) + 1

abbrev pub decreases-inner_piece : goal.decreases-inner_piece
decreases-inner_piece l = 2 * statement_tokens (statement_of l.s.now)

abbrev pub invariant-block_piece-loop-stmt : goal.invariant-block_piece-loop-stmt
invariant-block_piece-loop-stmt l =
    IsMaking l.fn.scope (block_of l.body) (statements_of (map statement_of (drop l.stmt-index l.stmt-items))) l.scope
    l.piece
