use Rattle.std.proofs.Common.{◌≡◌, ◌++◌, map, drop, false}
use Rattle.source_checks.specs.source_blocks.Opens.{open_of}
use Rattle.source_checks.specs.source_blocks.Runs.{config_of}
use Rattle.source_execution.specs.Calls.{calls_along, innermost_call}
use Rattle.source_execution.specs.CallsView.{active_of}
use Rattle.source_execution.proofs.calls.calls_in.Given as goal

-- the calls so far and those of the open statements that are left are all
abbrev pub invariant-loop-frame : goal.invariant-loop-frame
invariant-loop-frame l = record {
  along : map active_of l.calls.items
      ++ calls_along l.back (map open_of (drop l.frame-index l.frame-items)) (innermost_call (config_of l.fn.run))
      ≡ calls_along false (map open_of l.frame-items) (innermost_call (config_of l.fn.run));
  same : l.frame-items ≡ l.fn.run.frames.items;
}
