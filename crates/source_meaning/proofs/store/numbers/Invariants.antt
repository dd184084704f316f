use Rattle.std.proofs.Common.{◌≡◌, take, map}
use Rattle.source_execution.specs.roopl_semantics.Store.{number_of}
use Rattle.source_execution.specs.source_store.ValueView.{values_of}
use Rattle.source_meaning.proofs.store.numbers.Given as goal

abbrev pub invariant-loop-value : goal.invariant-loop-value
invariant-loop-value l = l.numbers.items ≡ map number_of (values_of (take l.value-index l.values))
