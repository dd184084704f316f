use Rattle.row_parts.proofs.ParsedNumbers.{not_text}
use Rattle.row_parts.proofs.printed.value_of.Goals as goal

pub returns-in-Err : goal.returns-in-Err
returns-in-Err c = not_text c.args.digits.now c.in-Err.ensures.cases.0
