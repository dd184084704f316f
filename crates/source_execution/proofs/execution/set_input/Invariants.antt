use Rattle.std.proofs.Common.{◌≡◌, drop, map}
use Rattle.source_checks.specs.roopl_semantics.Source.{with_input}
use Rattle.source_checks.specs.source_store.ValueView.{value_of}
use Rattle.source_execution.proofs.execution.set_input.Given as goal

abbrev pub invariant-loop-word : goal.invariant-loop-word
invariant-loop-word l = with_input l.words (map value_of l.fn.cells.items)
    ≡ with_input (drop l.word-index l.words) (map value_of l.cells.items)
