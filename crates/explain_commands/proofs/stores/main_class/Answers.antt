use Rattle.std.proofs.Common.{◌∙◌, ap}
use Rattle.explain_commands.proofs.stores.main_class.Goals as goal

pub returns : goal.returns
returns c = ap (λ m. m.class) (c.main-main.ensures ∙ ap (λ t. t.main) c.table-table.ensures.table)
