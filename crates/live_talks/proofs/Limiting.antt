-- What is put of the reply to a line, in a session that holds a limit.
use Rattle.std.proofs.Common.{◌≡◌, refl, sym, ap, subst, ℕ, List, Bool, false, Some, None, inl, inr}
use Rattle.std.specs.Prelude.{Option, ⊤}
use Rattle.live_port.specs.Heard.{Line}
use Rattle.live_requests.specs.declared.request.Request.{Request}
use Rattle.live_requests.specs.declared.request.Request.TheVariants as request
use Rattle.live_requests.specs.Requests.{request_of, is_quit}
use Rattle.live_requests.specs.Limited.{limit_of}
use Rattle.live_talks.specs.declared.ends.End.TheVariants as end
use Rattle.live_talks.specs.Ends.{end_line}
use Rattle.live_talks.specs.Talks.{TalkPrinted, PutsText}
use Rattle.live_talks.specs.Sessions.{Replier, IsReply, quits}
use Rattle.live_talks.specs.Serving.{Reply, OrMemory, PutsBy}
use Rattle.live_talks.specs.Limits.{Held, held_run, LimitedBy, WithLimits}
use Rattle.live_talks.proofs.Putting.{by_text}

-- what is put of the reply to a line by what it is at positions with a limit
at_held : {P : Type 0} (R : Reply P) (S : Reply (Held P)) (quit : Bool) (N : Type 0) (from to : P)
    (limit : Option ℕ) (old new : TalkPrinted) (result : Option ℕ)
    → ((reply : List ℕ) (place : P) → R reply place → S reply (held_run place limit))
    → PutsBy R quit N from to old new result → PutsBy S quit N (held_run from limit) (held_run to limit) old new result
at_held R S quit N from to limit old new None so p = record {
  reply = p.reply;
  is_reply = so p.reply to p.is_reply;
  goes_on = p.goes_on;
  puts = p.puts;
}
at_held R S quit N from to limit old new (Some status) so (inl p) = inl (record {
  reply = p.reply;
  is_reply = so p.reply from p.is_reply;
  ends = p.ends;
  puts = p.puts;
  status_is = p.status_is;
})
at_held R S quit N from to limit old new (Some status) so (inr (inl p)) = inr (inl (record {
  reply = p.reply;
  to = held_run p.to limit;
  fault = p.fault;
  is_reply = so p.reply p.to p.is_reply;
  puts = p.puts;
  status_is = p.status_is;
}))
at_held R S quit N from to limit old new (Some status) so (inr (inr p)) = inr (inr p)

-- the reply to a line that sets no limit
with_limit : {P : Type 0} (R : (limit : Option ℕ) → Replier P) (line : List ℕ) (from : P) (limit sets : Option ℕ)
    → sets ≡ None → (reply : List ℕ) (to : P) → OrMemory (R limit line from) from reply to
    → OrMemory (LimitedBy sets R line (held_run from limit)) (held_run from limit) reply (held_run to limit)
with_limit R line from limit sets is reply to (inl replies) =
    inl (subst (λ (o : Option ℕ). LimitedBy o R line (held_run from limit) reply (held_run to limit)) (sym is)
    (replies, refl))
with_limit {P} R line from limit sets is reply to (inr (alone, stays)) =
    inr (alone, ap (λ (p : P). held_run p limit) stays)

-- a line that sets no limit
pub line_held : {P : Type 0} (R : (limit : Option ℕ) → Replier P) (from to : P) (limit : Option ℕ) (line : List ℕ)
    (request : Request) (old new : TalkPrinted) (result : Option ℕ) → request ≡ request_of line
    → limit_of request ≡ None
    → PutsBy (OrMemory (R limit line from) from) (is_quit request) ⊤ from to old new result
    → PutsBy (IsReply (WithLimits R) (Line line) (held_run from limit)) (quits (Line line)) ⊤ (held_run from limit)
    (held_run to limit) old new result
line_held R from to limit line request old new result is sets puts =
    at_held (OrMemory (R limit line from) from) (IsReply (WithLimits R) (Line line) (held_run from limit))
    (quits (Line line)) ⊤ from to limit old new result
    (with_limit R line from limit (limit_of (request_of line))
    (subst (λ (r : Request). limit_of r ≡ None) is sets))
    (subst (λ (r : Request). PutsBy (OrMemory (R limit line from) from) (is_quit r) ⊤ from to old new result) is puts)

-- a request that sets a limit is no end of the session
no_quit : (request : Request) (most : ℕ) → limit_of request ≡ Some most → is_quit request ≡ false
no_quit (request.Limit n) most is = refl
no_quit request.Nothing most is = refl
no_quit (request.Carry command) most is = refl
no_quit request.Stack most is = refl
no_quit (request.RegsOf depth) most is = refl
no_quit request.Fault most is = refl
no_quit (request.FaultCells from count) most is = refl
no_quit request.Value most is = refl
no_quit request.Heap most is = refl
no_quit request.Spend most is = refl
no_quit request.Quit most is = cc
no_quit request.Bad most is = refl

-- a line that sets a limit
pub limit_set : {P : Type 0} (R : (limit : Option ℕ) → Replier P) (p : P) (limit : Option ℕ) (most : ℕ)
    (line : List ℕ) (request : Request) (old new : TalkPrinted) (result : Option ℕ) → request ≡ request_of line
    → limit_of request ≡ Some most → PutsText (end_line end.Done) old new result
    → PutsBy (IsReply (WithLimits R) (Line line) (held_run p limit)) (quits (Line line)) ⊤ (held_run p limit)
    (held_run p (Some most)) old new result
limit_set R p limit most line request old new result is sets puts =
    let it : limit_of (request_of line) ≡ Some most = subst (λ (r : Request). limit_of r ≡ Some most) is sets in
    by_text (IsReply (WithLimits R) (Line line) (held_run p limit)) (quits (Line line)) ⊤ (held_run p limit)
    (held_run p (Some most)) old new result (end_line end.Done) puts
    (inl (subst (λ (o : Option ℕ). LimitedBy o R line (held_run p limit) (end_line end.Done) (held_run p (Some most)))
    (sym it) ((refl, refl), refl)))
    (no_quit (request_of line) most it)

-- there was no memory to read a line
pub line_unread : {P : Type 0} (R : (limit : Option ℕ) → Replier P) (p : P) (limit : Option ℕ) (line : List ℕ)
    (old new : TalkPrinted) (result : Option ℕ) → is_quit (request_of line) ≡ false
    → PutsText (end_line end.Memory) old new result
    → PutsBy (IsReply (WithLimits R) (Line line) (held_run p limit)) (quits (Line line)) ⊤ (held_run p limit)
    (held_run p limit)
    old new result
line_unread R p limit line old new result on puts =
    by_text (IsReply (WithLimits R) (Line line) (held_run p limit)) (quits (Line line)) ⊤ (held_run p limit)
    (held_run p limit)
    old new result (end_line end.Memory) puts (inr (refl, refl)) on
