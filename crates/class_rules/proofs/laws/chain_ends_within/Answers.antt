use Rattle.class_rules.proofs.ChainEnds.{chain_ends}
use Rattle.class_rules.proofs.laws.chain_ends_within.Goals as goal

pub returns : goal.returns
returns c = λ program class steps line inside ends. chain_ends program class steps line inside ends
