-- What a line of a session asks.
use Rattle.std.specs.Prelude.{ℕ, Bool, true, false, List, [], ◌∷◌, Result, Ok, Err, codes}
use Rattle.std.specs.Prelude.{if◌then◌else◌, take, drop}
use Rattle.std.specs.Prelude.{length, nat_lt, Option, Some, None}
use Rattle.debugger_scripts.specs.pisa_scripts.Lines.{short_number}
use Rattle.std.specs.Str.{bytes_eq}
use Rattle.debugger_scripts.specs.pisa_scripts.declared.command.Command.{Command}
use Rattle.debugger_scripts.specs.pisa_scripts.declared.command.Command.TheVariants.{Cells}
use Rattle.debugger_scripts.specs.declared.error.ScriptError.{ScriptError}
use Rattle.debugger_scripts.specs.Scripts.{script_of}
use Rattle.live_requests.specs.declared.request.Request.{Request}
use Rattle.live_requests.specs.declared.request.Request.TheVariants.{Nothing, Carry, Stack}
use Rattle.live_requests.specs.declared.request.Request.TheVariants.{RegsOf, Fault, FaultCells}
use Rattle.live_requests.specs.declared.request.Request.TheVariants.{Value, Heap, Spend, Limit}
use Rattle.live_requests.specs.declared.request.Request.TheVariants.{Quit}
use Rattle.live_requests.specs.declared.request.Request.TheVariants.{Bad}

-- one command, or none where the line is blank
abbrev pub request_asked : List Command → Request
request_asked [] = Nothing
request_asked (command ∷ []) = Carry command
request_asked (command ∷ other ∷ commands) = Bad

abbrev pub read_as : Result (List Command) ScriptError → Request
read_as (Ok commands) = request_asked commands
read_as (Err e) = Bad

-- of the commands of a script, only `cells` is asked of the step that fails
abbrev pub of_the_fault : Request → Request
of_the_fault (Carry (Cells from count)) = FaultCells from count
of_the_fault it = Bad

-- `regs E`, if E is a number
abbrev pub of_a_call : Option ℕ → Request
of_a_call None = Bad
of_a_call (Some depth) = RegsOf depth

-- `limit N`, if N is a number
abbrev pub of_a_limit : Option ℕ → Request
of_a_limit None = Bad
of_a_limit (Some most) = Limit most

-- a line of six bytes or more: `fault` with a script, `value NAME`, `limit N`, or `regs E`
abbrev pub long_of : List ℕ → Request
long_of line = if bytes_eq (take 6 line) (codes "fault ")
    then of_the_fault (read_as (script_of (drop 6 line)))
    else if bytes_eq (take 6 line) (codes "value ") then Value
    else if bytes_eq (take 6 line) (codes "limit ") then of_a_limit (short_number (drop 6 line))
    else if bytes_eq (take 5 line) (codes "regs ") then of_a_call (short_number (drop 5 line))
    else Bad

-- a line that is no script: `heap`, `spend`, or another one
abbrev pub other_of : List ℕ → Request
other_of line = if bytes_eq line (codes "heap") then Heap
    else if bytes_eq line (codes "spend") then Spend
    else if nat_lt (length line) 6 then Bad else long_of line

-- the name of `value NAME`
abbrev pub request_name : (line : List ℕ) → List ℕ
request_name line = drop 6 line

-- what a script of this one line does, or else another line
abbrev pub or_other : (line : List ℕ) → Result (List Command) ScriptError → Request
or_other line (Ok commands) = request_asked commands
or_other line (Err e) = other_of line

-- `quit`, `stack`, `fault`, or another line
abbrev pub request_of : List ℕ → Request
request_of line = if bytes_eq line (codes "quit") then Quit
    else if bytes_eq line (codes "stack") then Stack
    else if bytes_eq line (codes "fault") then Fault else or_other line (script_of line)

abbrev pub is_quit : Request → Bool
is_quit Quit = true
is_quit it = false
