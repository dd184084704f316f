use Rattle.roopl_parser.proofs.Exact.{one_tree}
use Rattle.roopl_parser.proofs.laws.one_tree.Goals as goal

pub returns : goal.returns
returns c tokens x y first second = one_tree tokens x y first second
