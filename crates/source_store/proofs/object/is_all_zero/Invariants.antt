use Rattle.std.proofs.Common.{◌≡◌, drop}
use Rattle.meaning_machine.specs.roopl_semantics.Execution.{all_zero}
use Rattle.source_store.specs.ValueView.{values_of}
use Rattle.source_store.proofs.object.is_all_zero.Given as goal

abbrev pub invariant-loop-cell : goal.invariant-loop-cell
invariant-loop-cell l = all_zero (values_of l.cells) ≡ all_zero (values_of (drop l.cell-index l.cells))
