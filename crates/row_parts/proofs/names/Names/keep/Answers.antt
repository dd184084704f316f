use Rattle.std.proofs.Common.{take, map, sym, ap, ◌∙◌}
use Rattle.std.proofs.lemmas.List.{take-map}
use Rattle.row_parts.specs.Named.{named_text}
use Rattle.row_parts.proofs.names.Names.keep.Goals as goal

pub returns : goal.returns
returns c = ap (map named_text) c.truncate.ensures.items
    ∙ sym (take-map named_text c.args.count c.self.inside.list.items)
    ∙ ap (take c.args.count) c.self.view_is
