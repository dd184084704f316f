use Rattle.std.proofs.Common.{true}
use Rattle.inverse_rules.proofs.Inverses.{inverse_statement-twice, inverse-twice, inverse_program-twice}
use Rattle.inverse_rules.proofs.laws.inverts_twice.Goals as goal

pub returns : goal.returns
returns c = record {
  statement = inverse_statement-twice true;
  block = inverse-twice true;
  program = inverse_program-twice;
}
