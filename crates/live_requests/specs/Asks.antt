-- The words that ask for moves.
use Rattle.std.specs.Prelude.{ℕ, Bool, true, false, if◌then◌else◌, List, [], ◌∷◌, Option, Some}
use Rattle.std.specs.Prelude.{None}
use Rattle.std.specs.Prelude.{codes}
use Rattle.std.specs.Str.{bytes_eq}
use Rattle.debugger_scripts.specs.pisa_scripts.Lines.{number_up_to, short_number}
use Rattle.debugger_scripts.specs.pisa_scripts.declared.command.Command.{Command}
use Rattle.debugger_scripts.specs.pisa_scripts.declared.command.Command.TheVariants as command
use Rattle.live_requests.specs.declared.asks.TheConstants.{MOST_POINTS}
use Rattle.live_requests.specs.declared.asks.Goal.{Goal}
use Rattle.live_requests.specs.declared.asks.Goal.TheVariants.{Points, Any, Depth, Change}
use Rattle.live_requests.specs.declared.asks.Goal.TheVariants.{Cell}
use Rattle.live_requests.specs.declared.asks.Ask.{Ask}

-- at most so many moves, if that is a number
abbrev pub ask_at_most : Bool → Goal → Option ℕ → Option Ask
ask_at_most back goal None = None
ask_at_most back goal (Some most) = Some (record { back = back; goal = goal; most = most })

-- `points N`
abbrev pub points_ask : Bool → List (List ℕ) → Option Ask
points_ask back (count ∷ []) = ask_at_most back Points (number_up_to MOST_POINTS count)
points_ask back _ = None

abbrev pub and_number : Option ℕ → Bool → Bool
and_number None b = false
and_number (Some number) b = b

abbrev pub are_numbers : List (List ℕ) → Bool
are_numbers [] = true
are_numbers (word ∷ words) = and_number (short_number word) (are_numbers words)

-- `any N P1 P2 ..`
abbrev pub any_ask : Bool → List (List ℕ) → Option Ask
any_ask back (count ∷ places) = if are_numbers places then ask_at_most back Any (short_number count)
    else None
any_ask back [] = None

abbrev pub depth_by : Bool → Option ℕ → Option ℕ → Option Ask
depth_by back None count = None
depth_by back (Some depth) count = ask_at_most back (Depth depth) count

-- `depth E N`
abbrev pub depth_ask : Bool → List (List ℕ) → Option Ask
depth_ask back (depth ∷ count ∷ []) = depth_by back (short_number depth) (short_number count)
depth_ask back _ = None

-- `until change NAME N`
abbrev pub change_ask : Bool → (count : List ℕ) → Option Ask
change_ask back count = ask_at_most back Change (short_number count)

abbrev pub cell_by : Bool → Option ℕ → Option ℕ → Option Ask
cell_by back None count = None
cell_by back (Some address) count = ask_at_most back (Cell address) count

-- `until change cell A N`
abbrev pub cell_ask : Bool → (cell address count : List ℕ) → Option Ask
cell_ask back cell address count =
    if bytes_eq cell (codes "cell") then cell_by back (short_number address) (short_number count)
    else None

-- a change of what a name or a cell holds
abbrev pub change_of : Bool → List (List ℕ) → Option Ask
change_of back (name ∷ count ∷ []) = change_ask back count
change_of back (cell ∷ address ∷ count ∷ []) = cell_ask back cell address count
change_of back _ = None

-- `until change` and what follows it
unfoldable pub until_ask : Bool → List (List ℕ) → Option Ask
until_ask back [] = None
until_ask back (change ∷ args) =
    if bytes_eq change (codes "change") then change_of back args else None

unfoldable pub ask_by : Bool → List (List ℕ) → Option Ask
ask_by back [] = None
ask_by back (name ∷ args) =
    if bytes_eq name (codes "points") then points_ask back args
    else if bytes_eq name (codes "any") then any_ask back args
    else if bytes_eq name (codes "depth") then depth_ask back args
    else if bytes_eq name (codes "until") then until_ask back args
    else None

-- the moves that words ask for; `back` before them turns them round
unfoldable pub ask_of : List (List ℕ) → Option Ask
ask_of [] = None
ask_of (name ∷ args) = if bytes_eq name (codes "back") then ask_by true args
    else ask_by false (name ∷ args)

abbrev pub behind_two : List (List ℕ) → List (List ℕ)
behind_two (one ∷ two ∷ rest) = rest
behind_two _ = []

abbrev pub behind_three : List (List ℕ) → List (List ℕ)
behind_three (one ∷ two ∷ three ∷ rest) = rest
behind_three _ = []

-- the offsets after `any N`, or the name after `until change` and what follows it
abbrev pub arguments : (back : Bool) → List (List ℕ) → List (List ℕ)
arguments back words = if back then behind_three words else behind_two words

-- one move back or forward
abbrev pub way_of : (back : Bool) → Command
way_of back = if back then command.Back 1 else command.Step 1

-- the first of the arguments
abbrev pub first_argument : List (List ℕ) → List ℕ
first_argument [] = []
first_argument (word ∷ words) = word
