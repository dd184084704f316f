use Rattle.std.proofs.Common.{arith, ◌∙◌, sym}
use Rattle.std.proofs.lemmas.List.{map-append}
use Rattle.roopl_parser.proofs.Moves.{run_build, run_stmts}
use Rattle.roopl_parser.proofs.statement.+statement.Goals as goal

pub block-statements-preserved : goal.block-statements-preserved
block-statements-preserved t c = record {
  read = λ n s vs.
      c.statements.invariant.read n s vs ∙ run_stmts _ _ _ _ _ _ _ _
      (sym c.starts_here.ensures ∙ c.statements-test.true) ∙ c.in_ok-stmt.ensures.gives _ _ _
      ∙ run_build _ _ _ _ _ _ _
      ∙ rw (c.in_ok-push-2.ensures.items, map-append);
  shorter = omega (arith, c.in_ok-stmt.ensures.shorter);
}
