-- What commands print, and where they lead.
use Rattle.std.specs.Prelude.{ℕ, suc, ◌+◌, true, false, nat_eq, if◌then◌else◌, List, [], ◌∷◌, ◌++◌}
use Rattle.std.specs.Prelude.{take, drop, Some, None, codes}
use Rattle.std.specs.List.{list_all}
use Rattle.std.specs.Fmt.{decimal, signed_decimal}
use Rattle.pisa_machine.specs.Position.{Position}
use Rattle.two_way_debugger.specs.declared.moves.Ending.{Ending}
use Rattle.two_way_debugger.specs.declared.moves.Ending.TheVariants.{Made, Last, Start, Stopped}
use Rattle.pisa_scripts.specs.declared.command.Command.{Command}
use Rattle.pisa_scripts.specs.declared.command.Command.TheVariants.{Step, Back, To, BackTo}
use Rattle.pisa_scripts.specs.declared.command.Command.TheVariants.{Regs, Cells}
use Rattle.two_way_debugger.specs.Moves.{MachineWalk, machine_walk_ends, machine_walk}
use Rattle.pisa_scripts.specs.rpp_words.Texts.{line_end}
use Rattle.pisa_scripts.specs.Words.{word_shown, direction, register_lines, cell_line}
use Rattle.pisa_scripts.specs.Stops.{stop_line}

-- what the line on a move says of how it ended, with the line's end
abbrev pub ending_shown : Ending → List ℕ
ending_shown Made = line_end
ending_shown Last = line_end
ending_shown Start = codes " start" ++ line_end
ending_shown (Stopped e) = codes " end " ++ stop_line e

-- the position, the code address, the branch register, the direction, and how moves ended there
abbrev pub at_shown : Position → Ending → List ℕ
at_shown p ending =
    (codes "at " ++ (decimal p.made
    ++ (codes " pc " ++ (signed_decimal p.state.pc
    ++ (codes " br " ++ (word_shown p.state.br
    ++ (codes " dir " ++ direction p.state.back)))))))
    ++ ending_shown ending

abbrev pub walk_shown : MachineWalk → List ℕ
walk_shown w = at_shown w.position w.ending

abbrev pub registers_shown : List ℕ → List ℕ
registers_shown words = if list_all (nat_eq 0) words then codes "all zero" ++ line_end
    else register_lines 0 words

-- cells from this number on
abbrev pub memory_cell_lines : (number : ℕ) → List ℕ → List ℕ
memory_cell_lines number [] = []
memory_cell_lines number (word ∷ words) = cell_line number word ++ memory_cell_lines (suc number) words

-- those of so many cells from this number on that there are
abbrev pub cells_shown : (from count : ℕ) → List ℕ → List ℕ
cells_shown from count words = memory_cell_lines from (drop from (take (from + count) words))

-- the moves of a command; two commands make none
abbrev pub walk_of : Command → Position → MachineWalk
walk_of (Step n) p = machine_walk false None n p
walk_of (Back n) p = machine_walk true None n p
walk_of (To place n) p = machine_walk false (Some place) n p
walk_of (BackTo place n) p = machine_walk true (Some place) n p
walk_of Regs p = machine_walk_ends p Made
walk_of (Cells from count) p = machine_walk_ends p Made

-- how many moves a command may make
abbrev pub most_moves : Command → ℕ
most_moves (Step n) = n
most_moves (Back n) = n
most_moves (To place n) = n
most_moves (BackTo place n) = n
most_moves Regs = 0
most_moves (Cells from count) = 0

-- what a command prints that is given at a position
abbrev pub text_of : Command → Position → List ℕ
text_of (Step n) p = walk_shown (walk_of (Step n) p)
text_of (Back n) p = walk_shown (walk_of (Back n) p)
text_of (To place n) p = walk_shown (walk_of (To place n) p)
text_of (BackTo place n) p = walk_shown (walk_of (BackTo place n) p)
text_of Regs p = registers_shown p.state.regs
text_of (Cells from count) p = cells_shown from count p.state.cells

-- where commands lead, one after the other
abbrev pub position_after : List Command → Position → Position
position_after [] p = p
position_after (command ∷ commands) p = position_after commands (walk_of command p).position

-- what they print
abbrev pub shown : List Command → Position → List ℕ
shown [] p = []
shown (command ∷ commands) p = text_of command p ++ shown commands (walk_of command p).position

-- the steps of the machine that they make
abbrev pub spent_in : List Command → Position → ℕ
spent_in [] p = 0
spent_in (command ∷ commands) p =
    (walk_of command p).spent + spent_in commands (walk_of command p).position
