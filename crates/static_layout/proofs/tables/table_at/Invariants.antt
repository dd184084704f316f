use Rattle.std.proofs.Common.{◌≡◌, ◌≤◌}
use Rattle.roopl_semantics.specs.rpp_tree.Views.{source_of}
use Rattle.roopl_semantics.specs.Layout.{table_at}
use Rattle.static_layout.proofs.Counted.{farthest}
use Rattle.static_layout.proofs.tables.table_at.Given as goal

-- the address of the next table
abbrev pub invariant-loop-before : goal.invariant-loop-before
invariant-loop-before l = record {
  here : l.at ≡ table_at (source_of l.checked) l.before;
  low : l.at ≤ farthest l.before;
}
