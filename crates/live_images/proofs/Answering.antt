-- What is put of the reply to a request.
use Rattle.std.proofs.Common.{◌≡◌, refl, sym, subst, ℕ, List, Bool, false, Some, None, inl}
use Rattle.std.proofs.Common.{inr}
use Rattle.std.specs.Prelude.{Option, ⊤}
use Rattle.image_searches.specs.pisa_machine.Position.{Position}
use Rattle.live_talks.specs.live_port.Heard.{Heard, Line}
use Rattle.live_talks.specs.live_requests.declared.request.Request.{Request}
use Rattle.live_talks.specs.live_requests.declared.request.Request.TheVariants.{Limit, Quit}
use Rattle.live_talks.specs.live_requests.Limited.{limit_of}
use Rattle.live_talks.specs.live_requests.Requests.{request_of, is_quit}
use Rattle.live_talks.specs.declared.ends.End.{End}
use Rattle.live_talks.specs.declared.ends.End.TheVariants as end
use Rattle.live_talks.specs.Ends.{end_line}
use Rattle.live_talks.specs.Limits.{Held, LimitedBy, WithLimits}
use Rattle.live_talks.specs.Talks.{TalkPrinted, PutsText, PutsBye}
use Rattle.live_talks.specs.Serving.{Reply, OrMemory, PutsBy}
use Rattle.live_talks.specs.Sessions.{IsReply, quits}
use Rattle.live_images.specs.Replies.{Answer, end_alone, reply_of, answered}
use Rattle.live_images.specs.Sessions.{ImageRepliesBy, ImageRepliesOf, GivesAnswer, ImageReplies}
use Rattle.live_talks.proofs.Putting.{by_text, bye_said}

-- ---- an answer

-- what is put of an answer
abbrev pub PutsAnswer : Answer → (from to : Held Position) → (old new : TalkPrinted) → Option ℕ → Type 0
PutsAnswer a from to old new result = PutsBy (GivesAnswer a from) false ⊤ from to old new result

pub answer_said : (a : Answer) (from to : Held Position) (text shown : List ℕ) (old new : TalkPrinted)
    (result : Option ℕ) → text ≡ reply_of a → to.place ≡ a.position → to.limit ≡ from.limit → shown ≡ text
    → PutsText shown old new result → PutsAnswer a from to old new result
answer_said a from to text shown old new result is leads keeps shows puts =
    by_text (GivesAnswer a from) false ⊤ from to old new result text
    (subst (λ (t : List ℕ). PutsText t old new result) shows puts) (inl ((is, leads), keeps)) refl

pub answer_unsaid : (a : Answer) (from to : Held Position) (old new : TalkPrinted) (result : Option ℕ) → to ≡ from
    → PutsText (end_line end.Memory) old new result → PutsAnswer a from to old new result
answer_unsaid a from to old new result stays puts =
    by_text (GivesAnswer a from) false ⊤ from to old new result (end_line end.Memory) puts (inr (refl, stays)) refl

pub answer_roomless : (a : Answer) (from to : Held Position) (old : TalkPrinted) → PutsAnswer a from to old old (Some 7)
answer_roomless a from to old = inr (inr (tt, refl, refl))

-- an answer that is one last line
pub answer_alone : (a : Answer) (e : End) (from : Held Position) (old new : TalkPrinted) (result : Option ℕ)
    → a ≡ end_alone e from.place → PutsText (end_line e) old new result → PutsAnswer a from from old new result
answer_alone a e from old new result is puts =
    subst (λ (a : Answer). PutsAnswer a from from old new result) (sym is)
    (answer_said (end_alone e from.place) from from (end_line e) (end_line e) old new result refl refl refl refl puts)

pub answer_is : (a it : Answer) (from to : Held Position) (old new : TalkPrinted) (result : Option ℕ) → a ≡ it
    → PutsAnswer it from to old new result → PutsAnswer a from to old new result
answer_is a it from to old new result is puts =
    subst (λ (a : Answer). PutsAnswer a from to old new result) (sym is) puts

-- ---- a request

-- what is put of the reply to a request
abbrev pub PutsTo : Request → (line : List ℕ) → (from to : Held Position) → (old new : TalkPrinted) → Option ℕ → Type 0
PutsTo request line from to old new result =
    PutsBy (ImageReplies request line from) (is_quit request) ⊤ from to old new result

-- the reply to a request is an answer
pub request_said : (request it : Request) (line : List ℕ) (from to : Held Position) (old new : TalkPrinted)
    (result : Option ℕ) → request ≡ it → is_quit it ≡ false → limit_of it ≡ None
    → PutsAnswer (answered from.limit it line from.place) from to old new result
    → PutsTo request line from to old new result
request_said request it line from to old new result is on unlimited puts =
    subst (λ (r : Request). PutsTo r line from to old new result) (sym is)
    (subst (λ (b : Bool). PutsBy (ImageReplies it line from) b ⊤ from to old new result) (sym on)
    (subst (λ (o : Option ℕ). PutsBy (OrMemory (LimitedBy o (ImageRepliesBy it) line from) from) false ⊤ from to old new
    result) (sym unlimited) puts))

pub limit_said : (request : Request) (most : ℕ) (line : List ℕ) (from : Held Position) (old new : TalkPrinted)
    (result : Option ℕ) → request ≡ Limit most → PutsText (end_line end.Done) old new result
    → PutsTo request line from (record { place = from.place; limit = Some most }) old new result
limit_said request most line from old new result is puts =
    subst (λ (r : Request). PutsTo r line from (record { place = from.place; limit = Some most }) old new result)
    (sym is)
    (by_text (ImageReplies (Limit most) line from) false ⊤ from (record { place = from.place; limit = Some most }) old new
    result (end_line end.Done) puts (inl ((refl, refl), refl)) refl)

pub quit_said : (request : Request) (line : List ℕ) (from : Held Position) (old new : TalkPrinted) (status : ℕ)
    → request ≡ Quit → PutsBye old new status → PutsTo request line from from old new (Some status)
quit_said request line from old new status is puts =
    subst (λ (r : Request). PutsTo r line from from old new (Some status)) (sym is)
    (bye_said (ImageReplies Quit line from) ⊤ from old new status (inl ((refl, refl), refl)) puts)

-- ---- what is heard

-- what is put of the reply to what is heard
abbrev pub PutsToHeard : Heard → (N : Type 0) → (from to : Held Position) → (old new : TalkPrinted) → Option ℕ → Type 0
PutsToHeard it N from to old new result =
    PutsBy (IsReply (WithLimits ImageRepliesOf) it from) (quits it) N from to old new result

by_replies : (R S : Reply (Held Position)) (quit : Bool) (N : Type 0) (from to : Held Position) (old new : TalkPrinted)
    (result : Option ℕ) → ((reply : List ℕ) (place : Held Position) → R reply place → S reply place)
    → PutsBy R quit N from to old new result → PutsBy S quit N from to old new result
by_replies R S quit N from to old new None so p = record {
  reply = p.reply;
  is_reply = so p.reply to p.is_reply;
  goes_on = p.goes_on;
  puts = p.puts;
}
by_replies R S quit N from to old new (Some status) so (inl p) = inl (record {
  reply = p.reply;
  is_reply = so p.reply from p.is_reply;
  ends = p.ends;
  puts = p.puts;
  status_is = p.status_is;
})
by_replies R S quit N from to old new (Some status) so (inr (inl p)) = inr (inl (record {
  reply = p.reply;
  to = p.to;
  fault = p.fault;
  is_reply = so p.reply p.to p.is_reply;
  puts = p.puts;
  status_is = p.status_is;
}))
by_replies R S quit N from to old new (Some status) so (inr (inr p)) = inr (inr p)

-- the reply to a line is that to the request that it is read as
same_reply : (sets : Option ℕ) (line : List ℕ) (from : Held Position) (reply : List ℕ) (place : Held Position)
    → OrMemory (LimitedBy sets (ImageRepliesBy (request_of line)) line from) from reply place
    → OrMemory (LimitedBy sets ImageRepliesOf line from) from reply place
same_reply None line from reply place r = r
same_reply (Some most) line from reply place r = r

pub line_said : (line : List ℕ) (request : Request) (from to : Held Position) (old new : TalkPrinted) (result : Option ℕ)
    → request ≡ request_of line → PutsTo request line from to old new result
    → PutsToHeard (Line line) ⊤ from to old new result
line_said line request from to old new result is puts =
    by_replies (ImageReplies (request_of line) line from) (IsReply (WithLimits ImageRepliesOf) (Line line) from)
    (is_quit (request_of line)) ⊤ from to old new result (same_reply (limit_of (request_of line)) line from)
    (subst (λ (r : Request). PutsTo r line from to old new result) is puts)

pub line_unsaid : (line : List ℕ) (from : Held Position) (old new : TalkPrinted) (result : Option ℕ)
    → is_quit (request_of line) ≡ false → PutsText (end_line end.Memory) old new result
    → PutsToHeard (Line line) ⊤ from from old new result
line_unsaid line from old new result on puts =
    by_text (IsReply (WithLimits ImageRepliesOf) (Line line) from) (is_quit (request_of line)) ⊤ from from old new result
    (end_line end.Memory) puts (inr (refl, refl)) on
