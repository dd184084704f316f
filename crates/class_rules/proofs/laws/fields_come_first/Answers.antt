use Rattle.class_rules.proofs.ClassLines.{front_fields}
use Rattle.class_rules.proofs.laws.fields_come_first.Goals as goal

pub returns : goal.returns
returns c = front_fields
