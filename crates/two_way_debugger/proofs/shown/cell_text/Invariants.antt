use Rattle.std.proofs.Common.{◌≡◌, ◌++◌, ◌+◌, take, drop}
use Rattle.std.specs.Prelude.{string_bytes}
use Rattle.two_way_debugger.specs.Shown.{memory_cell_lines, cells_shown}
use Rattle.two_way_debugger.proofs.shown.cell_text.Given as goal

-- the lines so far and those of the cells that are left are the whole
abbrev pub invariant-loop-number : goal.invariant-loop-number
invariant-loop-number l =
    string_bytes l.text ++ memory_cell_lines l.number (drop l.number (take (l.from + l.count) l.machine.state.cells))
    ≡ cells_shown l.from l.count l.machine.state.cells
