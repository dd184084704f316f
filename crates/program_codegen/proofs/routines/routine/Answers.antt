use Rattle.std.proofs.Common.{sym, subst}
use Rattle.refine_program.specs.rpp_tree.Views.{procedure_of, block_of}
use Rattle.statement_codegen.specs.Pieces.{StandsIn}
use Rattle.program_codegen.proofs.Bodies.{stands_in}
use Rattle.program_codegen.proofs.RoutineMade.{routine_made}
use Rattle.program_codegen.proofs.routines.routine.Goals as goal

pub block_code-requires : goal.block_code-requires
block_code-requires c = record {
  stands =
      subst (λ v. StandsIn v (block_of c.args.method.now.body)) (sym c.in_ok-scope.ensures)
      (stands_in c.args.checked.now c.program-program.ensures.accepted c.args.id (procedure_of c.args.method.now)
      c.requires.inside c.requires.there);
}

pub returns : goal.returns
returns c =
    routine_made c.args.checked.now c.program-program.ensures.accepted c.args.id (procedure_of c.args.method.now)
    c.requires.inside c.requires.there
    c.in_ok-scope.scope _ c.in_ok-body.body c.in_ok-method_code.field-0 c.in_ok-scope.ensures c.in_ok-body.ensures.scope
    c.in_ok-body.ensures.law c.in_ok-body.ensures.marks c.in_ok-body.ensures.size c.in_ok-body.ensures.few
    c.in_ok-body.ensures.covered
    c.in_ok-method_code.ensures.law c.in_ok-method_code.ensures.held c.in_ok-method_code.ensures.size
