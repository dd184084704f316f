-- What a script says, and the first line that is refused.
use Rattle.std.specs.Prelude.{◌≡◌, ℕ, ◌+◌, ◌-◌, ◌^◌, pos, nat_eq, if◌then◌else◌, List, [], ◌∷◌}
use Rattle.std.specs.Prelude.{◌++◌, Option, Some, None, Result, Ok, Err, option_map, codes}
use Rattle.std.specs.Str.{bytes_eq}
use Rattle.pisa_scripts.specs.Lines.{number_up_to, short_number, is_blank, pieces, without_returns}
use Rattle.pisa_scripts.specs.declared.command.Command.{Command}
use Rattle.pisa_scripts.specs.declared.command.Command.TheVariants.{Step, Back, To, BackTo}
use Rattle.pisa_scripts.specs.declared.command.Command.TheVariants.{Regs, Cells}
use Rattle.debugger_scripts.specs.declared.script.TheConstants.{MOST_SHOWN}
use Rattle.debugger_scripts.specs.declared.error.ScriptError.{ScriptError}
use Rattle.debugger_scripts.specs.declared.error.ScriptError.TheVariants.{BadCommand, NoMemory}

abbrev pub counted_command : (ℕ → Command) → List (List ℕ) → Option Command
counted_command make (count ∷ []) = option_map make (short_number count)
counted_command make _ = None

abbrev pub both : (ℕ → ℕ → Option Command) → Option ℕ → Option ℕ → Option Command
both make (Some m) (Some n) = make m n
both make _ _ = None

abbrev pub placed_command : (ℕ → ℕ → Option Command) → List (List ℕ) → Option Command
placed_command make (place ∷ count ∷ []) = both make (short_number place) (short_number count)
placed_command make _ = None

abbrev pub one_cell_or_more : ℕ → ℕ → Option Command
one_cell_or_more from count = if nat_eq count 0 then None else Some (Cells from count)

-- a cell below 2 ^ 32, and from 1 on the most that are shown
abbrev pub cells_command : List (List ℕ) → Option Command
cells_command (from ∷ count ∷ []) =
    both one_cell_or_more (number_up_to (2 ^ 32 - 1) from) (number_up_to MOST_SHOWN count)
cells_command _ = None

abbrev pub regs_command : List (List ℕ) → Option Command
regs_command [] = Some Regs
regs_command _ = None

-- the command that words are, if they are one
unfoldable pub command_of : List (List ℕ) → Option Command
command_of [] = None
command_of (name ∷ args) =
    if bytes_eq name (codes "step") then counted_command Step args
    else if bytes_eq name (codes "back") then counted_command Back args
    else if bytes_eq name (codes "to")
    then placed_command (λ place count. Some (To (pos place) count)) args
    else if bytes_eq name (codes "backto")
    then placed_command (λ place count. Some (BackTo (pos place) count)) args
    else if bytes_eq name (codes "regs") then regs_command args
    else if bytes_eq name (codes "cells") then cells_command args
    else None

-- the commands so far, and that of a line with this number; one space parts its words
abbrev pub with_command : (line : ℕ) → List Command → Option Command
    → Result (List Command) ScriptError
with_command line commands None = Err (BadCommand line)
with_command line commands (Some command) = Ok (commands ++ command ∷ [])

abbrev pub with_line : (line : ℕ) → List Command → List ℕ → Result (List Command) ScriptError
with_line line commands text = if is_blank text then Ok commands
    else with_command line commands (command_of (pieces 32 text))

-- goes on unless it is refused
abbrev pub and_then : Result (List Command) ScriptError
    → (List Command → Result (List Command) ScriptError) → Result (List Command) ScriptError
and_then (Ok commands) f = f commands
and_then (Err e) f = Err e

-- line by line, the first of which has this number
unfoldable pub commands_from : (line : ℕ) → List Command → List (List ℕ)
    → Result (List Command) ScriptError
commands_from line commands [] = Ok commands
commands_from line commands (text ∷ texts) =
    and_then (with_line line commands text) (λ more. commands_from (line + 1) more texts)

-- line feeds part the lines
abbrev pub script_of : List ℕ → Result (List Command) ScriptError
script_of bytes = commands_from 1 [] (pieces 10 (without_returns bytes))

-- what a function returned is this reading, unless memory ran out
abbrev pub Fails : ScriptError → Result (List Command) ScriptError → Type 0
Fails NoMemory read = Unit {0}
Fails refusal read = read ≡ Err refusal

abbrev pub Gives : {X : Type 0} → (X → List Command) → Result X ScriptError
    → Result (List Command) ScriptError → Type 0
Gives view (Ok x) read = read ≡ Ok (view x)
Gives view (Err e) read = Fails e read
