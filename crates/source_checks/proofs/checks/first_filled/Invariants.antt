use Rattle.std.proofs.Common.{◌≡◌, drop}
use Rattle.source_blocks.specs.source_store.ValueView.{values_of}
use Rattle.source_checks.specs.Checks.{first_filled}
use Rattle.source_checks.proofs.checks.first_filled.Given as goal

abbrev pub invariant-loop-cell : goal.invariant-loop-cell
invariant-loop-cell l = first_filled (values_of l.cells) ≡ first_filled (values_of (drop l.cell-index l.cells))
