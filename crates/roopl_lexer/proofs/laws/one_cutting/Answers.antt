use Rattle.roopl_lexer.proofs.Unique.{one_cut}
use Rattle.roopl_lexer.proofs.laws.one_cutting.Goals as goal

pub returns : goal.returns
returns c text a b x y first second = one_cut 0 text a x b y first second
