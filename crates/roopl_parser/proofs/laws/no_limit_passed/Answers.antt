use Rattle.roopl_parser.proofs.Exact.{within, kept}
use Rattle.roopl_parser.proofs.laws.no_limit_passed.Goals as goal

pub returns : goal.returns
returns c tokens x derived = (kept tokens x derived, λ keeps. within tokens x derived keeps.0 keeps.1 keeps.2)
