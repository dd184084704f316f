-- Debuggers of one run: their replies are the same.
use Rattle.std.proofs.Common.{◌≡◌, subst, ℕ}
use Rattle.std.specs.Prelude.{Option}
use Rattle.live_searches.specs.rpp_tree.Views.{source_of}
use Rattle.live_searches.specs.source_debugger.Standing.{Standing}
use Rattle.live_searches.specs.source_debugger.Failures.{account_of}
use Rattle.live_searches.specs.Steps.{IsSameRun}
use Rattle.live_talks.specs.Talks.{Talk}
use Rattle.live_talks.specs.Serving.{Serves}
use Rattle.live_talks.specs.Limits.{Held}
use Rattle.live_session.specs.Sessions.{RepliesOf}

pub goes_along : (start before : Standing) (from to : Held ℕ) (talk talk' : Talk) (result it : Option ℕ)
    → IsSameRun start before → result ≡ it
    → Serves (RepliesOf (source_of before.program) (account_of before)) from to talk talk' result
    → Serves (RepliesOf (source_of start.program) (account_of start)) from to talk talk' it
goes_along start before from to talk talk' result it same is goes =
    subst (λ (r : Option ℕ). Serves (RepliesOf (source_of start.program) (account_of start)) from to talk talk' r) is
    (subst (λ (d : Standing). Serves (RepliesOf (source_of d.program) (account_of d)) from to talk talk' result) same
    goes)
