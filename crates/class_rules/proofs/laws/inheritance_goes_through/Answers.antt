use Rattle.class_rules.proofs.ClassLines.{is_through}
use Rattle.class_rules.proofs.laws.inheritance_goes_through.Goals as goal

pub returns : goal.returns
returns c = is_through
