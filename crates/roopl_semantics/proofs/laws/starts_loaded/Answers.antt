use Rattle.roopl_semantics.proofs.Starting.{starts_loaded}
use Rattle.roopl_semantics.proofs.laws.starts_loaded.Goals as goal

pub returns : goal.returns
returns c = starts_loaded
