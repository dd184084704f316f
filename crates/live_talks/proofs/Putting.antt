-- What is put of a reply, and what comes of a line.
use Rattle.std.proofs.Common.{◌≡◌, ◌∙◌, refl, sym, ap, subst, add-one, ℕ, ◌+◌, ◌≤◌, List, ◌∷◌, Bool, false, true}
use Rattle.std.proofs.Common.{Some, None, Ok, Err, inl, inr}
use Rattle.std.specs.Prelude.{Option, Result, ⊤}
use Rattle.live_port.specs.rpp_ports.declared.sink.SinkFault.{SinkFault}
use Rattle.live_port.specs.Heard.{Heard, Long, Lost, Over, Failed, TellsHeard}
use Rattle.live_talks.specs.declared.ends.End.TheVariants as end
use Rattle.live_talks.specs.Ends.{end_line}
use Rattle.live_talks.specs.Talks.{Talk, TalkPrinted, Hears, TalkPuts, PutsText, PutsBye, over_by, status_by}
use Rattle.live_talks.specs.Sessions.{Replier, IsReply, IsLine, quits, Exchanges, Closes, MOST_LINES, IsSession}
use Rattle.live_talks.specs.Serving.{Reply, OrMemory, PutsBy, Serves}

by_answer : {P : Type 0} (R : Reply P) (quit : Bool) (N : Type 0) (from to : P) (old new : TalkPrinted)
    (reply : List ℕ) (answer : Result (Unit {0}) SinkFault) → TalkPuts reply answer old new → R reply to → quit ≡ false
    → PutsBy R quit N from to old new (over_by answer)
by_answer R quit N from to old new reply (Ok _) puts is goes =
    record { reply = reply; is_reply = is; goes_on = goes; puts = puts }
by_answer R quit N from to old new reply (Err fault) puts is goes =
    inr (inl (record { reply = reply; to = to; fault = fault; is_reply = is; puts = puts; status_is = refl }))

pub by_text : {P : Type 0} (R : Reply P) (quit : Bool) (N : Type 0) (from to : P) (old new : TalkPrinted)
    (result : Option ℕ) (reply : List ℕ) → PutsText reply old new result → R reply to → quit ≡ false
    → PutsBy R quit N from to old new result
by_text R quit N from to old new result reply puts is goes =
    subst (λ (o : Option ℕ). PutsBy R quit N from to old new o) (sym puts.over_is)
    (by_answer R quit N from to old new reply puts.answer puts.puts is goes)

-- a text was made and put
pub text_said : {P : Type 0} (R : Reply P) (from to : P) (text shown : List ℕ) (old new : TalkPrinted)
    (result : Option ℕ) → R text to → shown ≡ text → PutsText shown old new result
    → PutsBy (OrMemory R from) false ⊤ from to old new result
text_said R from to text shown old new result replies is puts =
    by_text (OrMemory R from) false ⊤ from to old new result text
    (subst (λ (t : List ℕ). PutsText t old new result) is puts) (inl replies) refl

-- there was no memory for a reply
pub text_unsaid : {P : Type 0} (R : Reply P) (quit : Bool) (from to : P) (old new : TalkPrinted) (result : Option ℕ)
    → to ≡ from → quit ≡ false → PutsText (end_line end.Memory) old new result
    → PutsBy (OrMemory R from) quit ⊤ from to old new result
text_unsaid R quit from to old new result stays on puts =
    by_text (OrMemory R from) quit ⊤ from to old new result (end_line end.Memory) puts (inr (refl, stays)) on

-- nor for the last line
pub roomless : {P : Type 0} (R : Reply P) (quit : Bool) (from to : P) (old : TalkPrinted)
    → PutsBy R quit ⊤ from to old old (Some 7)
roomless R quit from to old = inr (inr (tt, refl, refl))

bye_by : {P : Type 0} (R : Reply P) (N : Type 0) (p : P) (old new : TalkPrinted) (status : ℕ)
    (answer : Result (Unit {0}) SinkFault) → R (end_line end.Bye) p → TalkPuts (end_line end.Bye) answer old new
    → status ≡ status_by 0 answer → PutsBy R true N p p old new (Some status)
bye_by R N p old new status (Ok _) replies puts is =
    inl (record { reply = end_line end.Bye; is_reply = replies; ends = refl; puts = puts; status_is = is })
bye_by R N p old new status (Err fault) replies puts is = inr (inl (record {
  reply = end_line end.Bye;
  to = p;
  fault = fault;
  is_reply = replies;
  puts = puts;
  status_is = is;
}))

-- the last reply was put
pub bye_said : {P : Type 0} (R : Reply P) (N : Type 0) (p : P) (old new : TalkPrinted) (status : ℕ)
    → R (end_line end.Bye) p → PutsBye old new status → PutsBy R true N p p old new (Some status)
bye_said R N p old new status replies puts =
    bye_by R N p old new status puts.answer replies puts.puts puts.status_is

-- ---- what comes of what is heard

pub long_said : {P : Type 0} (R : Replier P) (p : P) (old new : TalkPrinted) (result : Option ℕ)
    → PutsText (end_line end.Long) old new result → PutsBy (IsReply R Long p) (quits Long) ⊥ p p old new result
long_said R p old new result puts =
    by_text (IsReply R Long p) false ⊥ p p old new result (end_line end.Long) puts (refl, refl) refl

pub lost_said : {P : Type 0} (R : Replier P) (p : P) (old new : TalkPrinted) (result : Option ℕ)
    → PutsText (end_line end.Memory) old new result → PutsBy (IsReply R Lost p) (quits Lost) ⊥ p p old new result
lost_said R p old new result puts =
    by_text (IsReply R Lost p) false ⊥ p p old new result (end_line end.Memory) puts (refl, refl) refl

goes : {P : Type 0} (R : Replier P) (it : Heard) (N : Type 0) (from to : P) (talk between talk' : Talk)
    (result : Option ℕ) → Hears it talk between → (N → IsLine it)
    → PutsBy (IsReply R it from) (quits it) N from to between.out talk'.out result
    → talk'.lines ≡ between.lines → talk'.heard ≡ between.heard → Serves R from to talk talk' result
goes R it N from to talk between talk' None h line p lines heard = record {
  it = it;
  between = between;
  reply = p.reply;
  hears = h;
  quit_is = p.goes_on;
  is_reply = p.is_reply;
  says = record { puts = p.puts; lines = lines; heard = heard };
}
goes R it N from to talk between talk' (Some status) h line (inl p) lines heard = inl (
  inr (record {
    it = it;
    between = between;
    reply = p.reply;
    hears = h;
    quit_is = p.ends;
    is_reply = p.is_reply;
    says = record { puts = p.puts; lines = lines; heard = heard };
  }),
  p.status_is,
)
goes R it N from to talk between talk' (Some status) h line (inr (inl p)) lines heard = inr (inr (inl (record {
  quit = quits it;
  fault = p.fault;
  to = p.to;
  replies = record {
    it = it;
    between = between;
    reply = p.reply;
    hears = h;
    quit_is = refl;
    is_reply = p.is_reply;
    says = record { puts = p.puts; lines = lines; heard = heard };
  };
  status_is = p.status_is;
})))
goes R it N from to talk between talk' (Some status) h line (inr (inr p)) lines heard = inr (inr (inr (record {
  it = it;
  is_line = line p.0;
  hears = record {
    told = subst (TellsHeard talk.lines it) (sym lines) h.told;
    noted = heard ∙ h.noted;
    silent = p.1 ∙ h.silent;
  };
  status_is = p.2;
})))

pub heard_goes : {P : Type 0} (R : Replier P) (from to : P) (talk : Talk) (lines : Option (List (List ℕ)))
    (heard : List Heard) (new : TalkPrinted) (result : Option ℕ) (it₀ it : Heard) (N : Type 0) → it₀ ≡ it
    → TellsHeard talk.lines it₀ lines → heard ≡ it₀ ∷ talk.heard → (N → IsLine it)
    → PutsBy (IsReply R it from) (quits it) N from to talk.out new result
    → Serves R from to talk (record { lines = lines; heard = heard; out = new }) result
heard_goes R from to talk lines heard new result it₀ it N is told noted line puts =
    let between : Talk = record { lines = lines; heard = heard; out = talk.out } in
    let talk' : Talk = record { lines = lines; heard = heard; out = new } in
    goes R it N from to talk between talk' result (record {
      told = subst (λ (i : Heard). TellsHeard talk.lines i lines) is told;
      noted = noted ∙ ap (λ (i : Heard). i ∷ talk.heard) is;
      silent = refl;
    }) line puts refl refl

pub over_goes : {P : Type 0} (R : Replier P) (p : P) (talk : Talk) (lines : Option (List (List ℕ)))
    (heard : List Heard) (it : Heard) → it ≡ Over → TellsHeard talk.lines it lines → heard ≡ it ∷ talk.heard
    → Serves R p p talk (record { lines = lines; heard = heard; out = talk.out }) (Some 0)
over_goes R p talk lines heard it is told noted = inl (
  inl (record {
    told = subst (λ (i : Heard). TellsHeard talk.lines i lines) is told;
    noted = noted ∙ ap (λ (i : Heard). i ∷ talk.heard) is;
    silent = refl;
  }),
  refl,
)

pub failed_goes : {P : Type 0} (R : Replier P) (p : P) (talk : Talk) (lines : Option (List (List ℕ)))
    (heard : List Heard) (it : Heard) → it ≡ Failed → TellsHeard talk.lines it lines → heard ≡ it ∷ talk.heard
    → Serves R p p talk (record { lines = lines; heard = heard; out = talk.out }) (Some 2)
failed_goes R p talk lines heard it is told noted = inr (inl (
  record {
    told = subst (λ (i : Heard). TellsHeard talk.lines i lines) is told;
    noted = noted ∙ ap (λ (i : Heard). i ∷ talk.heard) is;
    silent = refl;
  },
  refl,
))

-- ---- the lines of a session

-- one more line
pub one_more : {P : Type 0} (R : Replier P) (n : ℕ) (from place to : P) (talk₀ talk talk' : Talk)
    → Exchanges R n from place talk₀ talk → Serves R place to talk talk' None
    → Exchanges R (n + 1) from to talk₀ talk'
one_more R n from place to talk₀ talk talk' so_far replies = rw add-one (place, talk, so_far, replies)

pub over : {P : Type 0} (R : Replier P) (n : ℕ) (from place : P) (talk₀ talk talk' : Talk) (status : ℕ)
    → Exchanges R n from place talk₀ talk → Closes R place talk talk' status → IsSession R from talk₀ talk' status
over R n from place talk₀ talk talk' status so_far closes =
    record { count = n; to = place; talk = talk; exchanges = so_far; closes = inl closes }

-- so many lines end a session
pub enough : {P : Type 0} (R : Replier P) (n : ℕ) (from place : P) (talk₀ talk : Talk)
    → Exchanges R n from place talk₀ talk → MOST_LINES ≤ n → IsSession R from talk₀ talk 0
enough R n from place talk₀ talk so_far many =
    record { count = n; to = place; talk = talk; exchanges = so_far; closes = inr (many, refl, refl) }
