-- What the parts of a session say of what they put. P are the positions of a run of any kind.
use Rattle.std.specs.Prelude.{◌≡◌, ◌⊎◌, ℕ, Bool, true, false, List, None, Some, Ok, Err}
use Rattle.std.specs.declared.option.Option.{Option}
use Rattle.live_port.specs.rpp_ports.declared.sink.SinkFault.{SinkFault}
use Rattle.live_talks.specs.declared.ends.End.TheVariants.{Memory}
use Rattle.live_talks.specs.Talks.{Talk, TalkPrinted, TalkPuts, status_by}
use Rattle.live_talks.specs.Sessions.{Replier, IsAlone, Replies, Closes}

-- what a reply is, and where it leads
abbrev pub Reply : Type 0 → Type 1
Reply P = (reply : List ℕ) → (to : P) → Type 0

-- a reply, or that there is no memory for it
abbrev pub OrMemory : {P : Type 0} → Reply P → (from : P) → Reply P
OrMemory R from reply to = R reply to ⊎ IsAlone Memory from reply to

-- a reply was put, and the session goes on
pub record PutsReply {P : Type 0} (R : Reply P) (quit : Bool) (to : P) (old new : TalkPrinted)
    : Type 0 where
  pub reply : List ℕ
  pub is_reply : R reply to
  pub goes_on : quit ≡ false
  pub puts : TalkPuts reply (Ok tt) old new

-- or it ends: by `quit`, since a reply was not taken, or since there is no memory for a reply
pub record PutsLast {P : Type 0} (R : Reply P) (quit : Bool) (from : P) (old new : TalkPrinted)
    (status : ℕ) : Type 0 where
  pub reply : List ℕ
  pub is_reply : R reply from
  pub ends : quit ≡ true
  pub puts : TalkPuts reply (Ok tt) old new
  pub status_is : status ≡ 0

pub record FailsToPut {P : Type 0} (R : Reply P) (old new : TalkPrinted) (status : ℕ)
    : Type 0 where
  pub reply : List ℕ
  pub to : P
  pub fault : SinkFault
  pub is_reply : R reply to
  pub puts : TalkPuts reply (Err fault) old new
  pub status_is : status ≡ status_by 0 (Err fault)

abbrev pub PutsNothing : (N : Type 0) → (old new : TalkPrinted) → (status : ℕ) → Type 0
PutsNothing N old new status = N × (new ≡ old) × (status ≡ 7)

-- what was put of a reply as R says, which leads somewhere; N says that it may need memory
abbrev pub PutsBy : {P : Type 0} → (R : Reply P) → (quit : Bool) → (N : Type 0) → (from to : P)
    → (old new : TalkPrinted) → Option ℕ → Type 0
PutsBy R quit N from to old new None = PutsReply R quit to old new
PutsBy R quit N from to old new (Some status) = PutsLast R quit from old new status
    ⊎ (FailsToPut R old new status ⊎ PutsNothing N old new status)

-- what comes of a line: its reply, and the session goes on, or it ends with a status
abbrev pub Serves : {P : Type 0} → Replier P → (from to : P) → (talk talk' : Talk) → Option ℕ
    → Type 0
Serves R from to talk talk' None = Replies R false (Ok tt) from to talk talk'
Serves R from to talk talk' (Some status) = Closes R from talk talk' status
