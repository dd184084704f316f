use Rattle.statement_codegen.proofs.CallLaws.{method_returns}
use Rattle.statement_codegen.proofs.calls.method_code.Goals as goal

pub returns-clause-law : goal.returns-clause-law
returns-clause-law c = method_returns c.args._scope.now c.args.body.cells c.method_code.result c.method_code.ensures.law
