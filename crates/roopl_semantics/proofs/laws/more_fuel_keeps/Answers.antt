use Rattle.roopl_semantics.proofs.MoreFuel.{source_done, source_fault}
use Rattle.roopl_semantics.proofs.laws.more_fuel_keeps.Goals as goal

pub returns : goal.returns
returns c = record { done = source_done; fault = source_fault }
