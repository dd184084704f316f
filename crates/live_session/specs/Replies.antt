-- The replies to requests, and where they lead. A limit bounds the moves of a request.
use Rattle.std.specs.Prelude.{◌≡◌, ℕ, Bool, true, false, if◌then◌else◌, List, [], ◌∷◌, ◌++◌}
use Rattle.std.specs.Prelude.{Option, Some, None}
use Rattle.live_talks.specs.pisa_scripts.Lines.{pieces}
use Rattle.live_searches.specs.rpp_tree.Tree.{Source}
use Rattle.live_searches.specs.source_debugger.declared.failing.Detail.TheVariants.{Test, Cells}
use Rattle.live_searches.specs.source_debugger.Failures.{Account, shown_of, fails_at}
use Rattle.live_searches.specs.source_debugger.Shown.{Told, told_by, and_told}
use Rattle.live_searches.specs.source_debugger.Stacks.{TellsStack, TellsCall}
use Rattle.live_accounts.specs.Accounts.{TellsCost, TellsHeap}
use Rattle.live_talks.specs.live_requests.declared.asks.Ask.{Ask}
use Rattle.live_talks.specs.live_requests.declared.asks.Goal.{Goal}
use Rattle.live_talks.specs.live_requests.declared.asks.Goal.TheVariants as goal
use Rattle.live_talks.specs.live_requests.declared.request.Request.{Request}
use Rattle.live_talks.specs.live_requests.declared.request.Request.TheVariants.{Nothing, Carry, Stack}
use Rattle.live_talks.specs.live_requests.declared.request.Request.TheVariants.{RegsOf, Fault, FaultCells}
use Rattle.live_talks.specs.live_requests.declared.request.Request.TheVariants.{Value, Heap, Spend, Limit}
use Rattle.live_talks.specs.live_requests.declared.request.Request.TheVariants.{Quit, Bad}
use Rattle.live_talks.specs.live_requests.Requests.{request_of, request_name}
use Rattle.live_talks.specs.live_requests.Asks.{ask_of, arguments}
use Rattle.live_talks.specs.live_requests.Limited.{limited, limited_ask, limit_of, limit_after}
use Rattle.live_searches.specs.Searches.{Found}
use Rattle.live_searches.specs.Makings.{made}
use Rattle.live_searches.specs.Values.{variable_value_at}
use Rattle.live_talks.specs.declared.ends.End.{End}
use Rattle.live_talks.specs.declared.ends.End.TheVariants as end
use Rattle.live_talks.specs.Ends.{end_line}
use Rattle.live_session.specs.Ends.{end_carried, end_asked}

-- lines, if there are any
abbrev pub or_nothing : Option (List ℕ) → List ℕ
or_nothing None = []
or_nothing (Some text) = text

-- What a reply says before its last line, and where it leads. For a command it is what `trace`
-- prints, with as many moves as the limit allows. For `fault` it is what fails. For other requests
-- it is nothing: their replies are defined below.
abbrev pub said : Source → Account → (limit : Option ℕ) → Request → ℕ → Option Told
said program account limit (Carry command) j =
    told_by program account.trail (limited limit command) j
said program account limit Fault j = Some (record {
  position = j;
  text = or_nothing (fails_at account (shown_of program Test) j);
})
said program account limit (FaultCells from count) j = Some (record {
  position = j;
  text = or_nothing (fails_at account (shown_of program (Cells from count)) j);
})
said program account limit _ j = Some (record { position = j; text = [] })

-- how the reply to a request ends that was given at a position
abbrev pub reply_end : (limit : Option ℕ) → Request → (from : ℕ) → Told → End
reply_end limit Nothing from told = end.Done
reply_end limit (Carry command) from told = end_carried limit command from told.position told.text
reply_end limit Stack from told = end.Done
reply_end limit (RegsOf depth) from told = end.Done
reply_end limit Fault from told = end.Done
reply_end limit (FaultCells number count) from told = end.Done
reply_end limit Value from told = end.Done
reply_end limit Heap from told = end.Done
reply_end limit Spend from told = end.Done
reply_end limit (Limit most) from told = end.Done
reply_end limit Quit from told = end.Bye
reply_end limit Bad from told = end.Bad

abbrev pub with_end : (limit : Option ℕ) → Request → (from : ℕ) → Option Told → Option Told
with_end limit request from None = None
with_end limit request from (Some told) =
    Some (record {
      position = told.position;
      text = told.text ++ end_line (reply_end limit request from told);
    })

-- lines with their last line; there may be nothing to say
abbrev pub or_none : Option (List ℕ) → List ℕ
or_none None = end_line end.None
or_none (Some text) = text ++ end_line end.Done

-- the reply on what may not be there
abbrev pub look_reply : ℕ → Option (List ℕ) → Option Told
look_reply j text = Some (record { position = j; text = or_none text })

-- the reply to a request at a position, and where it leads; none if the run is not known so far
abbrev pub replied : Source → Account → (limit : Option ℕ) → Request → ℕ → Option Told
replied program account limit Fault j =
    look_reply j (fails_at account (shown_of program Test) j)
replied program account limit (FaultCells from count) j =
    look_reply j (fails_at account (shown_of program (Cells from count)) j)
replied program account limit request j =
    with_end limit request j (said program account limit request j)

-- ---- lines that are no command of a script

abbrev pub is_cell : Goal → Bool
is_cell (goal.Cell address) = true
is_cell it = false

-- moves along the points of a run: it has no memory cells
abbrev pub along : Option Ask → Option Ask
along None = None
along (Some ask) = if is_cell ask.goal then None else Some ask

-- the moves that words ask for along the points of a run
abbrev pub asked_moves : (words : List (List ℕ)) → Option Ask
asked_moves words = along (ask_of words)

-- what a reply says before its last line: what moves print that the words ask for, or nothing
abbrev pub told_of : Option Found → Option Told
told_of None = None
told_of (Some found) = Some (record { position = found.position; text = found.text })

abbrev pub said_by : Source → Account → (limit : Option ℕ) → Option Ask
    → (words : List (List ℕ)) → ℕ → Option Told
said_by program account limit None words j = Some (record { position = j; text = [] })
said_by program account limit (Some ask) words j =
    told_of (made program account.trail (limited_ask limit ask) (arguments ask.back words) j)

-- the same with the last line
abbrev pub with_end_moved : (limit : Option ℕ) → Ask → Option Found → Option Told
with_end_moved limit ask None = None
with_end_moved limit ask (Some found) =
    Some (record {
      position = found.position;
      text = found.text ++ end_line (end_asked limit ask found.how found.text);
    })

abbrev pub replied_by : Source → Account → (limit : Option ℕ) → Option Ask
    → (words : List (List ℕ)) → ℕ → Option Told
replied_by program account limit None words j =
    Some (record { position = j; text = end_line end.Bad })
replied_by program account limit (Some ask) words j =
    with_end_moved limit ask
    (made program account.trail (limited_ask limit ask) (arguments ask.back words) j)

-- ---- the value of a name

abbrev pub value_reply : ℕ → Option (Option (List ℕ)) → Option Told
value_reply j None = None
value_reply j (Some line) = look_reply j line

-- ---- all lines

abbrev pub said_to : Source → Account → (limit : Option ℕ) → Request → (line : List ℕ) → ℕ
    → Option Told
said_to program account limit Bad line j =
    said_by program account limit (asked_moves (pieces 32 line)) (pieces 32 line) j
said_to program account limit request line j = said program account limit request j

-- the reply to a line, by the request that it is read as
abbrev pub replied_to : Source → Account → (limit : Option ℕ) → Request → (line : List ℕ) → ℕ
    → Option Told
replied_to program account limit Bad line j =
    replied_by program account limit (asked_moves (pieces 32 line)) (pieces 32 line) j
replied_to program account limit Value line j =
    value_reply j (variable_value_at program account.trail (request_name line) j)
replied_to program account limit request line j = replied program account limit request j

-- a reply with such a text, which leads nowhere
pub record RepliesText (Tells : (text : List ℕ) → Type 0) (from : ℕ) (reply : List ℕ) (to : ℕ)
    : Type 0 where
  pub text : List ℕ
  pub tells : Tells text
  pub ends : reply ≡ text ++ end_line end.Done
  pub stays : to ≡ from

-- the reply to `stack`: the active calls at the position
abbrev pub RepliesStack : Source → Account → (from : ℕ) → (reply : List ℕ) → (to : ℕ) → Type 0
RepliesStack program account from reply to =
    RepliesText (TellsStack program account.limits account.input from) from reply to

-- the reply to `heap`: how much of the heap is in use at the position, and the free blocks
abbrev pub RepliesHeap : Source → Account → (from : ℕ) → (reply : List ℕ) → (to : ℕ) → Type 0
RepliesHeap program account from reply to =
    RepliesText (TellsHeap program account.limits account.input from) from reply to

-- the reply to `spend`: what the run has cost up to the position
abbrev pub RepliesCost : Source → Account → (from : ℕ) → (reply : List ℕ) → (to : ℕ) → Type 0
RepliesCost program account from reply to =
    RepliesText (TellsCost program account.limits account.input from) from reply to

-- the reply to `regs E`: the fields and variables of the call with so many active calls
pub record RepliesCall (program : Source) (account : Account) (depth from : ℕ) (reply : List ℕ)
    (to : ℕ) : Type 0 where
  pub text : Option (List ℕ)
  pub tells : TellsCall program account.limits account.input from depth text
  pub ends : reply ≡ or_none text
  pub stays : to ≡ from

-- this is the reply to a line, which leads there
abbrev pub IsReplyOf : Source → Account → (limit : Option ℕ) → Request → (line : List ℕ)
    → (from : ℕ) → (reply : List ℕ) → (to : ℕ) → Type 0
IsReplyOf program account limit Stack line from reply to =
    RepliesStack program account from reply to
IsReplyOf program account limit (RegsOf depth) line from reply to =
    RepliesCall program account depth from reply to
IsReplyOf program account limit Heap line from reply to =
    RepliesHeap program account from reply to
IsReplyOf program account limit Spend line from reply to =
    RepliesCost program account from reply to
IsReplyOf program account limit request line from reply to =
    replied_to program account limit request line from
    ≡ Some (record { position = to; text = reply })

-- what the replies to lines say before their last lines, one after the other, except for those that
-- look at one position: `stack`, `regs E`, `value NAME`, `heap` and `spend`
abbrev pub said_of : Source → Account → (limit : Option ℕ) → List (List ℕ) → ℕ → Option Told
said_of program account limit [] j = Some (record { position = j; text = [] })
said_of program account limit (line ∷ lines) j =
    and_told (said_to program account limit (request_of line) line j)
    (said_of program account (limit_after (limit_of (request_of line)) limit) lines)
