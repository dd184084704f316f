use Rattle.std.proofs.Common.{◌∙◌, ap, List, length}
use Rattle.refine_heap.specs.rpp_tree.declared.tree.Var.{Var}
use Rattle.refine_heap.specs.rpp_tree.Views.{source_of}
use Rattle.refine_heap.specs.class_rules.Table.{Table, fields_in}
use Rattle.refine_heap.proofs.class_rules_laws.Tables.{table_reads}
use Rattle.object_codegen.proofs.tables.field_count.Goals as goal

pub returns-clause-count : goal.returns-clause-count
returns-clause-count c =
    ap (λ (vars : List Var). length vars) (c.fields.ensures.fields
    ∙ ap (λ (t : Table). fields_in t c.args.class) c.table.ensures.table
    ∙ (table_reads (source_of c.args.checked.now) c.args.class c.requires.inside).fields)
