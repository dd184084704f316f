use Rattle.std.proofs.Common.{◌∙◌, ap}
use Rattle.class_table.specs.rpp_tree.Views.{source_of}
use Rattle.source_store.specs.class_rules.Table.{fields_in}
use Rattle.source_steps.proofs.Tables.{fields_read}
use Rattle.source_steps.proofs.objects.fields_of.Goals as goal

pub returns-clause-fields : goal.returns-clause-fields
returns-clause-fields c = c.fields.ensures.fields ∙ ap (λ t. fields_in t c.args.class) c.table.ensures.table
    ∙ fields_read (source_of c.args.setting.now.checked.now) c.args.class
