use Rattle.std.proofs.Common.{take, map, sym, ap, ◌∙◌}
use Rattle.std.proofs.lemmas.List.{take-map}
use Rattle.row_parts.specs.Shown.{number_shown}
use Rattle.row_parts.proofs.printed.Numbers.keep.Goals as goal

pub returns : goal.returns
returns c = ap (map number_shown) c.truncate.ensures.items
    ∙ sym (take-map number_shown c.args.count c.self.inside.list.items)
    ∙ ap (take c.args.count) c.self.view_is
