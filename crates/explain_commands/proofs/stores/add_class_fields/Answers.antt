use Rattle.std.proofs.Common.{◌∙◌, sym, ap, subst}
use Rattle.std.specs.Prelude.{All}
use Rattle.run_settings.specs.rpp_tree.Views.{source_of}
use Rattle.run_settings.specs.class_rules.Table.{fields_in}
use Rattle.store_report.specs.Ascii.{HasAsciiName}
use Rattle.store_report.proofs.Names.{ascii_class_fields}
use Rattle.explain_commands.proofs.Lining.{lines_of}
use Rattle.source_meaning.proofs.source_steps_laws.Tables.{fields_read}
use Rattle.explain_commands.proofs.stores.add_class_fields.Goals as goal

pub add_fields-requires : goal.add_fields-requires
add_fields-requires c =
    let program = source_of c.args.checked.now in
    subst (All HasAsciiName) (sym (c.fields-fields.ensures.fields
    ∙ ap (λ t. fields_in t c.args.class) c.table-table.ensures.table ∙ fields_read program c.args.class))
    (ascii_class_fields program c.args.class c.table-table.ensures.accepted)

pub returns : goal.returns
returns c =
    let program = source_of c.args.checked.now in
    lines_of c.add_fields.result _ _ _ _ _ _ _ (c.fields-fields.ensures.fields
    ∙ ap (λ t. fields_in t c.args.class) c.table-table.ensures.table ∙ fields_read program c.args.class)
    c.add_fields.ensures
