use Rattle.class_rules.proofs.FoundMethods.{calls_find_methods}
use Rattle.class_rules.proofs.laws.calls_find_methods.Goals as goal

pub returns : goal.returns
returns c = calls_find_methods
