use Rattle.class_rules.proofs.FirstLaws.{first_in-first}
use Rattle.class_rules.proofs.laws.first_is_first.Goals as goal

pub returns : goal.returns
returns c = λ rule classes error h. first_in-first rule classes error h
