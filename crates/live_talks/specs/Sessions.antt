-- A session: lines and their replies, in turn, and how it ends. P are the positions of a run of any
-- kind.
use Rattle.std.specs.Prelude.{◌≡◌, ◌⊎◌, ◌≤◌, ℕ, zero, suc, ◌-◌, ◌^◌, Bool, true, false, List}
use Rattle.std.specs.Prelude.{Result, Ok, Err, ⊤}
use Rattle.live_port.specs.rpp_ports.declared.sink.SinkFault.{SinkFault}
use Rattle.live_port.specs.Heard.{Heard, Line, Long, Lost, Over, Failed}
use Rattle.live_requests.specs.Requests.{request_of, is_quit}
use Rattle.live_talks.specs.declared.ends.End.{End}
use Rattle.live_talks.specs.declared.ends.End.TheVariants as end
use Rattle.live_talks.specs.Ends.{end_line}
use Rattle.live_talks.specs.Talks.{Talk, Hears, TalkSays, status_by}

-- what the reply to a line is at a position, and where it leads
abbrev pub Replier : Type 0 → Type 1
Replier P = (line : List ℕ) → (from : P) → (reply : List ℕ) → (to : P) → Type 0

-- a reply that is one last line, and leads nowhere
abbrev pub IsAlone : {P : Type 0} → End → (from : P) → (reply : List ℕ) → (to : P) → Type 0
IsAlone it from reply to = (reply ≡ end_line it) × (to ≡ from)

-- The reply to what is heard at a position, and where it leads. Where there is no memory for the
-- reply to a line, it says so and leads nowhere.
abbrev pub IsReply : {P : Type 0} → Replier P → Heard → (from : P)
    → (reply : List ℕ) → (to : P) → Type 0
IsReply R (Line bytes) from reply to =
    R bytes from reply to ⊎ IsAlone end.Memory from reply to
IsReply R Long from reply to = IsAlone end.Long from reply to
IsReply R Lost from reply to = IsAlone end.Memory from reply to
IsReply R Over from reply to = ⊥
IsReply R Failed from reply to = ⊥

-- whether the end of the session is heard
abbrev pub quits : Heard → Bool
quits (Line bytes) = is_quit (request_of bytes)
quits _ = false

-- a line was heard, and then the reply to it was put, once, with this answer
pub record Replies {P : Type 0} (R : Replier P) (quit : Bool)
    (answer : Result (Unit {0}) SinkFault) (from to : P) (before after : Talk) : Type 0 where
  pub it : Heard
  pub between : Talk
  pub reply : List ℕ
  pub hears : Hears it before between
  pub quit_is : quits it ≡ quit
  pub is_reply : IsReply R it from reply to
  pub says : TalkSays reply answer between after

-- so many lines and their replies, one after the other
abbrev pub Exchanges : {P : Type 0} → Replier P → ℕ → (from to : P)
    → (before after : Talk) → Type 0
Exchanges R zero from to before after = (to ≡ from) × (after ≡ before)
Exchanges {P} R (suc n) from to before after =
    (place : P) × (talk : Talk) × Exchanges R n from place before talk
    × Replies R false (Ok tt) place to talk after

-- input ended, or `quit` was heard and answered
abbrev pub EndsWell : {P : Type 0} → Replier P → (from : P)
    → (before after : Talk) → (status : ℕ) → Type 0
EndsWell R from before after status =
    (Hears Over before after ⊎ Replies R true (Ok tt) from from before after)
    × (status ≡ 0)

-- input failed
abbrev pub HearsNothing : (before after : Talk) → (status : ℕ) → Type 0
HearsNothing before after status = Hears Failed before after × (status ≡ 2)

-- a reply was not taken
pub record SaysNothing {P : Type 0} (R : Replier P) (from : P)
    (before after : Talk) (status : ℕ) : Type 0 where
  pub quit : Bool
  pub fault : SinkFault
  pub to : P
  pub replies : Replies R quit (Err fault) from to before after
  pub status_is : status ≡ status_by 0 (Err fault)

abbrev pub IsLine : Heard → Type 0
IsLine (Line bytes) = ⊤
IsLine it = ⊥

-- a line was heard, and there was no memory even for the last line of its reply
pub record FindsNoRoom (before after : Talk) (status : ℕ) : Type 0 where
  pub it : Heard
  pub is_line : IsLine it
  pub hears : Hears it before after
  pub status_is : status ≡ 7

-- how a session ends, at a position
abbrev pub Closes : {P : Type 0} → Replier P → (from : P)
    → (before after : Talk) → (status : ℕ) → Type 0
Closes R from before after status =
    EndsWell R from before after status
    ⊎ (HearsNothing before after status
    ⊎ (SaysNothing R from before after status ⊎ FindsNoRoom before after status))

-- so many lines end a session
abbrev pub MOST_LINES : ℕ
MOST_LINES = 2 ^ 64 - 1

-- a session from a position on: lines and their replies, and how it ended
pub record IsSession {P : Type 0} (R : Replier P) (from : P)
    (before after : Talk) (status : ℕ) : Type 0 where
  pub count : ℕ
  pub to : P
  pub talk : Talk
  pub exchanges : Exchanges R count from to before talk
  pub closes : Closes R to talk after status
      ⊎ ((MOST_LINES ≤ count) × (after ≡ talk) × (status ≡ 0))
