use Rattle.std.proofs.Common.{◌∙◌}
use Rattle.row_parts.proofs.ParsedNumbers.{unsigned_gives}
use Rattle.row_parts.proofs.digits.status.Goals as goal

pub returns : goal.returns
returns c = c.ok.ensures.value ∙ unsigned_gives 8 10 c.args.text.now c.parse.result c.parse.ensures.value.0
