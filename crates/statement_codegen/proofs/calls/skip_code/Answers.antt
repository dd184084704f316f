use Rattle.statement_codegen.proofs.Skips.{skip_returns}
use Rattle.statement_codegen.proofs.calls.skip_code.Goals as goal

pub returns-clause-law : goal.returns-clause-law
returns-clause-law c = skip_returns c.plain.result c.plain.ensures.law
