-- The limit on the moves of a request. A session holds it with its position.
use Rattle.std.specs.Prelude.{◌≡◌, ℕ, Bool, ◌&&◌, if◌then◌else◌}
use Rattle.std.specs.declared.option.Option.{Option}
use Rattle.std.specs.Prelude.{None, Some}
use Rattle.live_requests.specs.Requests.{request_of}
use Rattle.live_requests.specs.Limited.{limit_of}
use Rattle.live_talks.specs.declared.ends.End.{End}
use Rattle.live_talks.specs.declared.ends.End.TheVariants.{Done, More}
use Rattle.live_talks.specs.declared.ends.End.TheVariants as end
use Rattle.live_talks.specs.Sessions.{Replier, IsAlone}

-- what a session holds: a position, and the limit, if there is one
pub record Held (P : Type 0) : Type 0 where
  pub place : P
  pub limit : Option ℕ

abbrev pub held_run : {P : Type 0} → (place : P) → (limit : Option ℕ) → Held P
held_run place limit = record { place = place; limit = limit }

-- the reply to a line that sets a limit, or to another one
abbrev pub LimitedBy : {P : Type 0} → (sets : Option ℕ) → ((limit : Option ℕ) → Replier P)
    → Replier (Held P)
LimitedBy None R line from reply to =
    R from.limit line from.place reply to.place × (to.limit ≡ from.limit)
LimitedBy (Some most) R line from reply to =
    IsAlone end.Done from.place reply to.place × (to.limit ≡ Some most)

-- the replies of a session that holds a limit; R says what they are where the limit is this one
abbrev pub WithLimits : {P : Type 0} → ((limit : Option ℕ) → Replier P) → Replier (Held P)
WithLimits R line from reply to = LimitedBy (limit_of (request_of line)) R line from reply to

abbrev pub more_for_done : End → End
more_for_done Done = More
more_for_done it = it

-- How a request ends that would end so without the limit. `cut` says that it asks for more moves
-- than the limit allows, and `all_made` that all that it allows were made.
abbrev pub end_cut : (cut all_made : Bool) → End → End
end_cut cut all_made it = if cut && all_made then more_for_done it else it
