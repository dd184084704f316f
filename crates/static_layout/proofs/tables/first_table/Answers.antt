use Rattle.std.proofs.Common.{◌≡◌, ap, ◌+◌, List, length}
use Rattle.roopl_semantics.specs.rpp_tree.declared.tree.Var.{Var}
use Rattle.roopl_semantics.specs.rpp_tree.Views.{source_of}
use Rattle.roopl_semantics.specs.code_conventions.declared.memory.TheConstants.{FIRST_FIELD}
use Rattle.roopl_semantics.proofs.MainPlace.{fields_read}
use Rattle.static_layout.proofs.tables.first_table.Goals as goal

pub returns-clause-first : goal.returns-clause-first
returns-clause-first c =
    ap (λ (vars : List Var). FIRST_FIELD + length vars)
    (fields_read (source_of c.args.checked.now) c.table-table.result.now c.main.result c.fields.result.now
    c.table-table.ensures.accepted c.table-table.ensures.table c.main.ensures c.fields.ensures.fields)

pub returns-clause-few : goal.returns-clause-few
returns-clause-few c = c.table-table.ensures.accepted.limits.classes_few
