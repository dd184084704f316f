use Rattle.std.proofs.Common.{◌≡◌, List, subst}
use Rattle.std.specs.Prelude.{IfOk}
use Rattle.roopl_judge.specs.rpp_tree.declared.tree.Var.{Var}
use Rattle.roopl_judge.specs.rpp_tree.Views.{source_of}
use Rattle.roopl_semantics.proofs.MainPlace.{fields_read}
use Rattle.run_settings.specs.Inputs.{fields_from}
use Rattle.run_settings.proofs.settable.input_fields.Goals as goal

pub returns-clause-fields : goal.returns-clause-fields
returns-clause-fields c =
    subst (λ (vars : List Var). IfOk c.int_fields.result (λ fields. fields.items ≡ fields_from 0 vars))
    (fields_read (source_of c.args.checked.now) c.table-table.result.now c.main.result c.fields.result.now
    c.table-table.ensures.accepted c.table-table.ensures.table c.main.ensures c.fields.ensures.fields)
    c.int_fields.ensures.fields
