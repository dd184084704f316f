use Rattle.std.proofs.Common.{◌∙◌}
use Rattle.row_parts.proofs.ParsedNumbers.{signed_gives}
use Rattle.row_parts.proofs.digits.signed.Goals as goal

pub returns : goal.returns
returns c = c.ok.ensures.value ∙ signed_gives c.args.text.now c.parse.result c.parse.ensures.value.0
