-- How a run under a watch ended.
use Rattle.std.specs.Prelude.{◌≡◌, ◌<◌, ℕ, ◌-◌, max, nat_eq, nat_lt, if◌then◌else◌, [], Option}
use Rattle.std.specs.Prelude.{Some, None}
use Rattle.source_execution.specs.roopl_semantics.Run.{Done, Fault}
use Rattle.source_execution.specs.roopl_semantics.Store.{State, main_name}
use Rattle.source_execution.specs.source_store.HeapView.{Kept}
use Rattle.source_execution.specs.meaning_points.Trail.{Trail}
use Rattle.meaning_reversed.specs.meaning_machine.Machine.{Config}
use Rattle.source_execution.specs.source_steps.declared.stop.Stop.{Stop}
use Rattle.source_execution.specs.source_steps.declared.stop.Stop.TheVariants as stop
use Rattle.source_execution.specs.Standing.{next_place}
use Rattle.source_courses.specs.declared.watching.Watching.{Watching}
use Rattle.source_courses.specs.declared.watching.Watching.TheVariants as watch
use Rattle.source_courses.specs.declared.running.Arrival.{Arrival}
use Rattle.source_courses.specs.Watched.{Passed, Met, watched, point_of}
use Rattle.source_courses.specs.declared.moves.Walk.{Walk}
use Rattle.source_courses.specs.declared.moves.Ending.TheVariants.{Made, Start, Faulted}
use Rattle.source_courses.specs.declared.running.Ended.{Ended}
use Rattle.source_courses.specs.declared.running.Ended.TheVariants as ended

-- the state at the end of a run with this heap: no variable is left, and no call is open
abbrev pub last_state : Kept → State
last_state heap = record {
  frame = [];
  self = main_name;
  depth = 1;
  store = heap.store;
  log = heap.log;
}

-- all trace points are passed, and the run is done
pub record IsOver (heap : Kept) (first last : Watching) (trail : Trail) : Type 0 where
  pub seen : watched first trail.points ≡ Passed last
  pub cost : ℕ
  pub done : trail.end ≡ Done (last_state heap) cost

-- all trace points are passed, and the run stops with a fault
pub record IsFaulted (code : ℕ) (first last : Watching) (trail : Trail) : Type 0 where
  pub seen : watched first trail.points ≡ Passed last
  pub cost : ℕ
  pub fault : trail.end ≡ Fault code cost

-- a run ended so with this heap
abbrev pub IsEnded : Ended → Kept → Watching → Trail → Type 0
IsEnded (ended.At arrival last) heap first trail =
    watched first trail.points ≡ Met last (point_of arrival heap)
IsEnded (ended.Over last) heap first trail = IsOver heap first last trail
IsEnded (ended.Fault code last) heap first trail = IsFaulted code first last trail

-- a run ended at its trace point, with some fuel left
pub record HasStopped (x : Config) (heap : Kept) (last : Watching) (fuel : ℕ) (e : Ended)
    : Type 0 where
  pub arrival : Arrival
  pub is : e ≡ ended.At arrival last
  pub begins : next_place x.rest ≡ Some arrival.place
  pub point : point_of arrival heap
      ≡ record { place = arrival.place; params = x.params; state = x.state }
  pub some : 0 < fuel

-- a run ended that stopped so
abbrev pub IsStopped : Stop → Watching → Ended → Type 0
IsStopped (stop.Fault code) last e = e ≡ ended.Fault code last
IsStopped stop.More last e = ⊥
IsStopped (stop.Lacks lack) last e = ⊥

-- the watch as the run left it
abbrev pub watching_of : Ended → Watching
watching_of (ended.At arrival last) = last
watching_of (ended.Over last) = last
watching_of (ended.Fault code last) = last

-- how many trace points it had left to pass, and how many at the last one at its offset
abbrev pub left_of : Watching → ℕ
left_of (watch.First place skip left) = left
left_of (watch.Latest place skip left latest) = left

abbrev pub latest_of : Watching → Option ℕ
latest_of (watch.First place skip left) = None
latest_of (watch.Latest place skip left latest) = latest

-- where moves from a position towards a goal lead, by how the run to it ended
abbrev pub reached_by : Ended → (from goal : ℕ) → Walk
reached_by (ended.At arrival last) from goal =
    record { position = goal - left_of last; ending = Made }
reached_by (ended.Over last) from goal =
    record { position = max from (goal - left_of last); ending = Made }
reached_by (ended.Fault code last) from goal =
    if nat_eq goal from then record { position = from; ending = Made }
    else record { position = max from (goal - left_of last - 1); ending = Faulted code }

-- where at most so many moves back lead
abbrev pub back_by : (most from : ℕ) → Walk
back_by most from = record {
  position = from - most;
  ending = if nat_lt from most then Start else Made;
}

-- the same up to a position that is so far back
abbrev pub back_to : Option ℕ → (most from : ℕ) → Walk
back_to None most from = back_by most from
back_to (Some left) most from = record { position = from - left; ending = Made }
