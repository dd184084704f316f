use Rattle.statement_codegen.proofs.Constructs.{construct_returns, construct_held, construct_size}
use Rattle.statement_codegen.proofs.locals.construct_code.Goals as goal

pub returns-clause-law : goal.returns-clause-law
returns-clause-law c = construct_returns c.args.scope.now c.args.at c.args._var.now c.args.making.cells
    c.args.body.cells c.in_ok-inside.inside.cells c.local_code.result c.in_ok-inside.ensures.cells
    c.local_code.ensures.law

pub returns-clause-held : goal.returns-clause-held
returns-clause-held c = construct_held c.args.body c.in_ok-inside.inside c.local_code.result c.in_ok-inside.ensures.held
    c.local_code.ensures.held

pub returns-clause-size : goal.returns-clause-size
returns-clause-size c = construct_size c.args.making.cells c.args.body.cells c.in_ok-inside.inside.cells
    c.local_code.result c.in_ok-inside.ensures.cells c.local_code.ensures.size
