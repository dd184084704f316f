-- Sessions along the points of a run.
use Rattle.std.specs.Prelude.{ℕ, Option}
use Rattle.live_searches.specs.rpp_tree.Tree.{Source}
use Rattle.live_searches.specs.source_debugger.Failures.{Account}
use Rattle.live_talks.specs.live_requests.Requests.{request_of}
use Rattle.live_talks.specs.Sessions.{Replier}
use Rattle.live_talks.specs.Limits.{Held, WithLimits}
use Rattle.live_session.specs.Replies.{IsReplyOf}

-- the reply to a line where a limit is held, and where it leads
abbrev pub RepliesBy : Source → Account → (limit : Option ℕ) → Replier ℕ
RepliesBy program account limit line from reply to =
    IsReplyOf program account limit (request_of line) line from reply to

-- the reply to a line of a session, and what the session holds then
abbrev pub RepliesOf : Source → Account → Replier (Held ℕ)
RepliesOf program account = WithLimits (RepliesBy program account)
