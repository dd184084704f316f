use Rattle.roopl_parser.proofs.Answered.{tree, limits, only, syntax, wrong, limit, passed}
use Rattle.roopl_parser.proofs.parser.parse.Goals as goal

pub returns-clause-tree : goal.returns-clause-tree
returns-clause-tree c = tree c.args.end c.args.tokens.now c.whole.result c.whole.ensures.reads

pub returns-clause-limits : goal.returns-clause-limits
returns-clause-limits c = limits c.args.end c.args.tokens.now c.whole.result c.requires c.whole.ensures.reads

pub returns-clause-only : goal.returns-clause-only
returns-clause-only c = only c.args.end c.args.tokens.now c.whole.result c.whole.ensures.reads

pub returns-clause-syntax : goal.returns-clause-syntax
returns-clause-syntax c = syntax c.args.end c.args.tokens.now c.whole.result c.whole.ensures.reads

pub returns-clause-limit : goal.returns-clause-limit
returns-clause-limit c = limit c.args.end c.args.tokens.now c.whole.result c.whole.ensures.reads

pub returns-clause-wrong : goal.returns-clause-wrong
returns-clause-wrong c = wrong c.args.end c.args.tokens.now c.whole.result c.whole.ensures.reads

pub returns-clause-passed : goal.returns-clause-passed
returns-clause-passed c = passed c.args.end c.args.tokens.now c.whole.result c.whole.ensures.reads
