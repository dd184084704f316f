use Rattle.roopl_parser.proofs.Answered.{many_tokens}
use Rattle.roopl_parser.proofs.parser.whole.Goals as goal

-- src/parser.rt:27:9
pub returns-then-tokens : goal.returns-then-tokens
returns-then-tokens c = record {
  reads = λ never. many_tokens c.args.end c.args.tokens.now c.index-tokens.result
      c.if-tokens.true;
}
