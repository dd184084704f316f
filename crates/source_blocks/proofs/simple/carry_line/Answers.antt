use Rattle.std.proofs.Common.{ap}
use Rattle.source_blocks.specs.Tasks.{statement_line}
use Rattle.source_blocks.proofs.Stopping.{anyhow}
use Rattle.source_blocks.proofs.simple.carry_line.Goals as goal

pub returns-in-Make-clause-stops : goal.returns-in-Make-clause-stops
returns-in-Make-clause-stops c =
    anyhow c.make.result (statement_line c.args.line.now) _ (ap statement_line c.in-Make.is) (λ why. tt)

pub returns-in-Delete-clause-stops : goal.returns-in-Delete-clause-stops
returns-in-Delete-clause-stops c =
    anyhow c.unmake.result (statement_line c.args.line.now) _ (ap statement_line c.in-Delete.is) (λ why. tt)
