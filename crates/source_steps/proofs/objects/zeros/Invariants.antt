use Rattle.std.proofs.Common.{◌≡◌, take, map}
use Rattle.source_store.specs.roopl_semantics.Store.{zero_values}
use Rattle.source_store.specs.ValueView.{value_of}
use Rattle.source_steps.proofs.objects.zeros.Given as goal

abbrev pub invariant-loop-var : goal.invariant-loop-var
invariant-loop-var l = map value_of l.cells.items ≡ zero_values (take l.var-index l.vars)
