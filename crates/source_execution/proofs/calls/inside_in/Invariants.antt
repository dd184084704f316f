use Rattle.std.proofs.Common.{◌≡◌, map, drop}
use Rattle.source_checks.specs.source_blocks.Opens.{open_of}
use Rattle.source_checks.specs.source_blocks.Runs.{config_of}
use Rattle.source_execution.specs.Calls.{inside_along, inside_last}
use Rattle.source_execution.proofs.calls.inside_in.Given as goal

-- none of the calls so far is the one
abbrev pub invariant-loop-frame : goal.invariant-loop-frame
invariant-loop-frame l = record {
  along : inside_along l.depth (map open_of (drop l.frame-index l.frame-items))
      (inside_last l.depth (config_of l.fn.run))
      ≡ inside_along l.depth (map open_of l.frame-items) (inside_last l.depth (config_of l.fn.run));
  same : l.frame-items ≡ l.fn.run.frames.items;
}
