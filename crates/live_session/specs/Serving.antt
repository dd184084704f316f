-- What the parts of a session say of a debugger.
use Rattle.std.specs.Prelude.{◌≡◌, ℕ, List, Some}
use Rattle.std.specs.declared.option.Option.{Option}
use Rattle.std.specs.Prelude.{Result, Ok, Err}
use Rattle.live_searches.specs.rpp_tree.Tree.{Source}
use Rattle.live_searches.specs.rpp_tree.Views.{source_of}
use Rattle.live_searches.specs.source_debugger.declared.failing.Detail.{Detail}
use Rattle.live_searches.specs.source_debugger.declared.failing.Detail.TheVariants.{Test, Cells}
use Rattle.live_searches.specs.source_debugger.Failures.{Account, account_of}
use Rattle.live_searches.specs.source_debugger.Standing.{Standing}
use Rattle.live_talks.specs.live_requests.declared.request.Request.{Request}
use Rattle.live_talks.specs.live_requests.declared.request.Request.TheVariants.{Fault, FaultCells}
use Rattle.live_talks.specs.live_requests.declared.asks.Ask.{Ask}
use Rattle.live_searches.specs.Steps.{IsSameRun}
use Rattle.live_talks.specs.declared.ends.End.TheVariants.{Memory}
use Rattle.live_talks.specs.Ends.{end_line}
use Rattle.live_talks.specs.Serving.{Reply}
use Rattle.live_session.specs.Replies.{replied, replied_by}

-- the request for something of the step that fails
abbrev pub request_for : Detail → Request
request_for Test = Fault
request_for (Cells from count) = FaultCells from count

-- this is the reply to a request, which leads there
abbrev pub RepliesTo : Source → Account → (limit : Option ℕ) → Request → (from : ℕ) → Reply ℕ
RepliesTo program account limit request from reply to =
    replied program account limit request from ≡ Some (record { position = to; text = reply })

-- this is the reply to moves that words ask for
abbrev pub RepliesMoves : Source → Account → (limit : Option ℕ) → Option Ask
    → (words : List (List ℕ)) → (from : ℕ) → Reply ℕ
RepliesMoves program account limit ask words from reply to =
    replied_by program account limit ask words from
    ≡ Some (record { position = to; text = reply })

-- a debugger gave the reply to a request
pub record AnswersRequest (before : Standing) (limit : Option ℕ) (request : Request) (after : Standing)
    (reply : List ℕ) : Type 0 where
  pub replied : RepliesTo (source_of before.program) (account_of before) limit request
      before.position reply after.position
  pub same : IsSameRun before after

-- moves that are asked for led there, and this is the reply to them
pub record Moves (before : Standing) (limit : Option ℕ) (ask : Ask) (words : List (List ℕ))
    (after : Standing) (reply : List ℕ) : Type 0 where
  pub replied : RepliesMoves (source_of before.program) (account_of before) limit (Some ask) words
      before.position reply after.position
  pub same : IsSameRun before after

-- a text that was made, or that there was no memory for it
abbrev pub made_or_memory : {X E : Type 0} → (view : X → List ℕ) → Result X E → List ℕ
made_or_memory view (Ok x) = view x
made_or_memory view (Err e) = end_line Memory
