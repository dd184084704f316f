use Rattle.std.proofs.Common.{◌≡◌, ◌∙◌, ◌++◌, ap, subst, OnOk, List}
use Rattle.std.specs.Prelude.{string_bytes}
use Rattle.source_steps.specs.rpp_tree.Views.{source_of}
use Rattle.source_steps.specs.rpp_tree.declared.tree.Var.{Var}
use Rattle.source_steps.specs.class_rules.Table.{fields_in}
use Rattle.source_steps.specs.source_store.ValueView.{values_of}
use Rattle.source_steps.proofs.Tables.{fields_read}
use Rattle.source_lines.specs.Named.{fields_named}
use Rattle.source_lines.proofs.values.add_class_fields.Goals as goal

pub returns : goal.returns
returns c =
    subst (λ (fs : List Var). OnOk c.add_fields.result (string_bytes c.add_fields.new.out
    ≡ string_bytes c.args.out.now ++ fields_named c.args.indent.now fs (values_of c.args.values.now)))
    (c.fields-fields.ensures.fields ∙ ap (λ t. fields_in t c.args.class) c.table-table.ensures.table
    ∙ fields_read (source_of c.args.checked.now) c.args.class)
    c.add_fields.ensures
