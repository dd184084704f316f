-- Variables that are copied with their names.
use Rattle.source_checks.specs.roopl_semantics.Store.{Binding}
use Rattle.source_checks.specs.source_store.ValueView.{value_of}
use Rattle.source_execution.specs.declared.variables.Variable.{Variable}

abbrev pub binding_of : Variable → Binding
binding_of variable = record { name = variable.name; value = value_of variable.value }
