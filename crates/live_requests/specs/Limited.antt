-- The limit on the moves of a request. There may be none.
use Rattle.std.specs.Prelude.{ℕ, Bool, false, nat_lt, if◌then◌else◌, Option, Some, None}
use Rattle.debugger_scripts.specs.pisa_scripts.declared.command.Command.{Command}
use Rattle.debugger_scripts.specs.pisa_scripts.declared.command.Command.TheVariants.{Step, Back, To, BackTo}
use Rattle.debugger_scripts.specs.pisa_scripts.declared.command.Command.TheVariants.{Regs, Cells}
use Rattle.live_requests.specs.declared.asks.Ask.{Ask}
use Rattle.live_requests.specs.declared.request.Request.{Request}
use Rattle.live_requests.specs.declared.request.Request.TheVariants.{Limit}
use Rattle.two_way_debugger.specs.Shown.{most_moves}

-- how many of so many moves a limit allows
abbrev pub allowed : (limit : Option ℕ) → (moves : ℕ) → ℕ
allowed None moves = moves
allowed (Some most) moves = if nat_lt most moves then most else moves

-- whether these are more moves than a limit allows
abbrev pub is_over_limit : (limit : Option ℕ) → (moves : ℕ) → Bool
is_over_limit None moves = false
is_over_limit (Some most) moves = nat_lt most moves

-- the command with no more moves than a limit allows
abbrev pub limited : (limit : Option ℕ) → Command → Command
limited limit (Step n) = Step (allowed limit n)
limited limit (Back n) = Back (allowed limit n)
limited limit (To place n) = To place (allowed limit n)
limited limit (BackTo place n) = BackTo place (allowed limit n)
limited limit Regs = Regs
limited limit (Cells from count) = Cells from count

-- whether a command asks for more moves than a limit allows
abbrev pub is_cut : (limit : Option ℕ) → Command → Bool
is_cut limit command = is_over_limit limit (most_moves command)

-- moves that are asked for, with no more than a limit allows
abbrev pub limited_ask : (limit : Option ℕ) → Ask → Ask
limited_ask limit ask = record ask { most = allowed limit ask.most }

-- whether more moves are asked for than a limit allows
abbrev pub is_cut_ask : (limit : Option ℕ) → Ask → Bool
is_cut_ask limit ask = is_over_limit limit ask.most

-- the limit that a request sets, if it sets one
abbrev pub limit_of : Request → Option ℕ
limit_of (Limit most) = Some most
limit_of it = None

-- the limit after a request
abbrev pub limit_after : (sets limit : Option ℕ) → Option ℕ
limit_after None limit = limit
limit_after (Some most) limit = Some most
