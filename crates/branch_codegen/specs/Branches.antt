-- The code of conditionals and of loops, from the codes of their conditions and parts.
use Rattle.std.specs.Prelude.{ℕ, List, [], ◌∷◌, ◌++◌}
use Rattle.refine_expressions.specs.pisa_isa.declared.cell.Cell.{Cell}
use Rattle.refine_expressions.specs.paired_code.declared.part.Symbol.{Symbol}
use Rattle.refine_expressions.specs.paired_code.Layout.{check_equal_cells, branch_cells, loop_cells}
use Rattle.refine_expressions.specs.paired_code.Rows.{within_symbols}
use Rattle.refine_expressions.specs.code_conventions.Cells.{xori}
use Rattle.refine_expressions.specs.code_conventions.declared.faults.TheConstants.{FI, LOOP}
use Rattle.refine_expressions.specs.code_conventions.declared.registers.TheConstants.{FLAG, NOUGHT}

-- the flag becomes 1 if it was 0, and 0 if it was 1
abbrev pub flips : Cell
flips = xori FLAG 1

-- the flag, 1 outside, is 0 in a part
abbrev pub part_code : List Symbol → List Symbol
part_code p = within_symbols (flips ∷ []) p

-- the flag, which is to be 0
abbrev pub check : (code : ℕ) → List Symbol
check code = check_equal_cells FLAG NOUGHT code

-- A conditional: the flag is to be 0, the condition before sets it, it chooses the part, the
-- condition after is to take it away.
abbrev pub if_code : (test taken other after : List Symbol) → List Symbol
if_code test taken other after =
    check FI ++ (test ++ (branch_cells FLAG (part_code taken) other ++ (after ++ check FI)))

-- An iteration of a loop, without its second block. The flag is 1 at the first entry and 0 at each
-- later one, so the entry's assertion makes it 0 if it is as it must be. Backward, the exit's
-- condition does this. The exit's condition leaves 1 if the loop is left.
abbrev pub turn_code : (entry first exit : List Symbol) → List Symbol
turn_code entry first exit = entry ++ (check LOOP ++ (first ++ (check LOOP ++ exit)))

-- A loop: each condition occurs once in the code.
abbrev pub from_code : (entry first again exit : List Symbol) → List Symbol
from_code entry first again exit =
    within_symbols (flips ∷ []) (loop_cells FLAG (turn_code entry first exit) again)
