use Rattle.std.proofs.Common.{◌≡◌, ◌++◌, map, drop}
use Rattle.std.specs.Prelude.{string_bytes}
use Rattle.source_courses.specs.source_execution.CallsView.{active_of}
use Rattle.source_debugger.specs.Stacks.{call_lines}
use Rattle.source_debugger.proofs.stacks.calls_text.Given as goal

-- the lines so far and those of the calls that are left are all
abbrev pub invariant-loop-call : goal.invariant-loop-call
invariant-loop-call l =
    string_bytes l.text ++ call_lines (map active_of (drop l.call-index l.calls)) ≡ call_lines (map active_of l.calls)
