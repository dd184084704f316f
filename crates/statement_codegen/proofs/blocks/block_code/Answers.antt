use Rattle.refine_objects.specs.rpp_tree.Views.{block_of}
use Rattle.statement_codegen.proofs.Pieces.{marks_few}
use Rattle.statement_codegen.proofs.Arms.{if_ok}
use Rattle.statement_codegen.proofs.blocks.block_code.Goals as goal

pub returns-clause-law : goal.returns-clause-law
returns-clause-law c = if_ok c.block_piece.result (λ p h. h.law) c.block_piece.ensures.piece

pub returns-clause-marks : goal.returns-clause-marks
returns-clause-marks c = if_ok c.block_piece.result (λ p h. h.marks) c.block_piece.ensures.piece

pub returns-clause-covered : goal.returns-clause-covered
returns-clause-covered c = if_ok c.block_piece.result (λ p h. h.covered) c.block_piece.ensures.piece

pub returns-clause-size : goal.returns-clause-size
returns-clause-size c = if_ok c.block_piece.result (λ p h. h.size) c.block_piece.ensures.piece

pub returns-clause-few : goal.returns-clause-few
returns-clause-few c = if_ok c.block_piece.result (λ p h. marks_few c.args.scope.now (block_of c.args.body.now) p
    h.marks) c.block_piece.ensures.piece
