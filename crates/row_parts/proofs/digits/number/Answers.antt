use Rattle.std.proofs.Common.{ap, ◌∙◌}
use Rattle.std.specs.Option.{option_map_or}
use Rattle.row_parts.specs.Digits.{unsigned}
use Rattle.row_parts.proofs.ParsedNumbers.{unsigned_gives}
use Rattle.row_parts.proofs.digits.number.Goals as goal

pub returns-in-Some : goal.returns-in-Some
returns-in-Some c = c.ok.ensures.value
    ∙ unsigned_gives 64 16 c.in-Some.digits.now c.from_str_radix.result c.from_str_radix.ensures.value
    ∙ ap (λ digits. option_map_or (unsigned 64 16) digits (unsigned 64 10 c.args.text.now)) c.in-Some.ensures

pub returns-in-None : goal.returns-in-None
returns-in-None c = c.ok-in-None.ensures.value
    ∙ unsigned_gives 64 10 c.args.text.now c.parse.result c.parse.ensures.value.0
    ∙ ap (λ digits. option_map_or (unsigned 64 16) digits (unsigned 64 10 c.args.text.now)) c.in-None.ensures
