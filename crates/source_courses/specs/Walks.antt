-- Moves along the positions of a run.
use Rattle.std.specs.Prelude.{ℕ, zero, suc, ◌+◌, ℤ, pos, Bool, false, nat_eq, nat_lt, if◌then◌else◌}
use Rattle.std.specs.Prelude.{length, Option, Some, None, slice_get}
use Rattle.std.specs.Ordering.{int_eq}
use Rattle.source_execution.specs.roopl_semantics.Run.{Run, Done, Fault, More}
use Rattle.source_execution.specs.roopl_semantics.Store.{State}
use Rattle.source_execution.specs.meaning_points.Points.{Point}
use Rattle.source_execution.specs.meaning_points.Trail.{Trail}
use Rattle.source_courses.specs.declared.moves.TheConstants.{LAST_POSITION}
use Rattle.source_courses.specs.declared.moves.Walk.{Walk}
use Rattle.source_courses.specs.declared.moves.Ending.{Ending}
use Rattle.source_courses.specs.declared.moves.Ending.TheVariants.{Made, Start, Faulted}

-- where a position is: at a trace point of the run, at its end, or not known
pub data Stand : Type 0 where
  AtPoint : (point : Point) → Stand
  AtEnd : (end : State) → Stand
  Unknown : Stand

abbrev pub end_stand : Run State → Stand
end_stand (Done end cost) = AtEnd end
end_stand _ = Unknown

abbrev pub point_stand : Option Point → Stand → Stand
point_stand (Some point) other = AtPoint point
point_stand None other = other

-- position j is the j-th trace point from 0, and after the last one the end of a run that is done
abbrev pub stand_at : Trail → ℕ → Stand
stand_at trail j = point_stand (slice_get trail.points j) (if nat_eq j (length trail.points)
    then end_stand trail.end else Unknown)

-- what one more move forward meets
pub data Onward : Type 0 where
  Moves : Onward
  Stays : (ending : Ending) → Onward
  Hidden : Onward

-- the same at the last trace point, or after it: a run that is done has its end there, and a fault
-- has nothing
abbrev pub beyond : (at_point : Bool) → Run State → Onward
beyond at_point (Done end cost) = if at_point then Moves else Stays Made
beyond at_point (Fault code cost) = Stays (Faulted code)
beyond at_point More = Hidden

abbrev pub onward : Trail → ℕ → Onward
onward trail j =
    if nat_lt j LAST_POSITION then (if nat_lt (j + 1) (length trail.points) then Moves
    else beyond (nat_lt j (length trail.points)) trail.end)
    else Stays Made

-- how moves end: where, and why
abbrev pub ends : ℕ → Ending → Walk
ends j ending = record { position = j; ending = ending }

abbrev pub has_place : ℤ → Stand → Bool
has_place place (AtPoint point) = int_eq (pos point.place) place
has_place place _ = false

-- whether a position is at an offset, if there is one to go to
abbrev pub is_at : Trail → Option ℤ → ℕ → Bool
is_at trail None j = false
is_at trail (Some place) j = has_place place (stand_at trail j)

abbrev pub move_on : Onward → ℕ → Option Walk → Option Walk
move_on Moves j next = next
move_on (Stays ending) j next = Some (ends j ending)
move_on Hidden j next = None

-- at most n moves forward, up to the first position at the offset; none if the run is not known so
-- far
abbrev pub forward : Trail → Option ℤ → ℕ → ℕ → Option Walk
forward trail place zero j = Some (ends j Made)
forward trail place (suc n) j =
    move_on (onward trail j) j (if is_at trail place (j + 1) then Some (ends (j + 1) Made)
    else forward trail place n (j + 1))

-- at most n moves back, up to the first position at the offset
abbrev pub backward : Trail → Option ℤ → ℕ → ℕ → Walk
backward trail place zero j = ends j Made
backward trail place (suc n) zero = ends 0 Start
backward trail place (suc n) (suc j) =
    if is_at trail place j then ends j Made else backward trail place n j
