use Rattle.std.proofs.Common.{◌≡◌, ◌++◌, map, take, string_bytes}
use Rattle.command_plan.specs.rpp_probes.Tally.{lines_shown}
use Rattle.program_commands.proofs.profiling.add_lines.Given as goal

-- the lines so far
abbrev pub invariant-loop-line : goal.invariant-loop-line
invariant-loop-line l = string_bytes l.out ≡ string_bytes l.initial.out
    ++ lines_shown (map string_bytes (take l.line-index l.lines))
