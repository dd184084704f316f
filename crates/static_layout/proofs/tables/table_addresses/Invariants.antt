use Rattle.std.proofs.Common.{◌≡◌, ◌≤◌}
use Rattle.roopl_semantics.specs.rpp_tree.Views.{source_of}
use Rattle.roopl_semantics.specs.class_rules.First.{each_below}
use Rattle.roopl_semantics.specs.Layout.{table_at}
use Rattle.static_layout.proofs.Counted.{farthest}
use Rattle.static_layout.proofs.tables.table_addresses.Given as goal

-- the addresses so far, and the next
abbrev pub invariant-loop-class : goal.invariant-loop-class
invariant-loop-class l = record {
  places : l.tables.items ≡ each_below (table_at (source_of l.checked)) l.class;
  here : l.at ≡ table_at (source_of l.checked) l.class;
  low : l.at ≤ farthest l.class;
}
