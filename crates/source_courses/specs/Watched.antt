-- What a watch sees of the trace points of a run.
use Rattle.std.specs.Prelude.{ℕ, ◌+◌, ◌-◌, min, ℤ, pos, Bool, false, ◌&&◌, ◌||◌, nat_eq}
use Rattle.std.specs.Prelude.{if◌then◌else◌}
use Rattle.std.specs.Prelude.{List, [], ◌∷◌, map, Option, Some, None}
use Rattle.std.specs.Ordering.{int_eq}
use Rattle.source_execution.specs.source_store.HeapView.{Kept}
use Rattle.source_execution.specs.meaning_points.Points.{Point}
use Rattle.source_execution.specs.Variables.{binding_of}
use Rattle.source_courses.specs.declared.watching.Watching.{Watching}
use Rattle.source_courses.specs.declared.watching.Watching.TheVariants as watch
use Rattle.source_courses.specs.declared.running.Arrival.{Arrival}

-- whether an offset is the given one
abbrev pub is_given : Option ℤ → ℕ → Bool
is_given None place = false
is_given (Some given) place = int_eq (pos place) given

-- whether the watch looks for a trace point at this offset
abbrev pub wants : Watching → ℕ → Bool
wants (watch.First wanted skip left) place = nat_eq left 0 ||
    (nat_eq skip 0 && is_given wanted place)
wants (watch.Latest wanted skip left latest) place = nat_eq left 0

-- a watch after a trace point at this offset
abbrev pub passed : Watching → ℕ → Watching
passed (watch.First wanted skip left) place = watch.First wanted (skip - 1) (left - 1)
passed (watch.Latest wanted skip left latest) place =
    watch.Latest wanted (skip - 1) (left - 1) (if nat_eq skip 0 && int_eq (pos place) wanted
    then Some left else latest)

-- the same of the statement that begins, if one does
abbrev pub wanted : Watching → Option ℕ → Bool
wanted w None = false
wanted w (Some place) = wants w place

abbrev pub behind : Watching → Option ℕ → Watching
behind w None = w
behind w (Some place) = passed w place

-- how many trace points are passed after it
abbrev pub counted : ℕ → Option ℕ → ℕ
counted passed None = passed
counted passed (Some place) = passed + 1

-- how many trace points a watch passes, whatever they are
abbrev pub surely : Watching → ℕ
surely (watch.First None skip left) = left
surely (watch.First (Some place) skip left) = min skip left
surely (watch.Latest wanted skip left latest) = min skip left

-- a watch after so many of these
abbrev pub ahead : Watching → ℕ → Watching
ahead (watch.First wanted skip left) n = watch.First wanted (skip - n) (left - n)
ahead (watch.Latest wanted skip left latest) n = watch.Latest wanted (skip - n) (left - n) latest

-- a watch has passed trace points, or it has met the one that it looks for
pub data Watched : Type 0 where
  Passed : (after : Watching) → Watched
  Met : (before : Watching) (point : Point) → Watched

-- what a watch comes to along trace points
abbrev pub watched : Watching → List Point → Watched
watched w [] = Passed w
watched w (p ∷ ps) = if wants w p.place then Met w p else watched (passed w p.place) ps

-- the trace point that was met, with the heap as it is there
abbrev pub point_of : Arrival → Kept → Point
point_of a heap = record {
  place = a.place;
  params = a.params;
  state = record {
    frame = map binding_of a.variables.items;
    self = a.object;
    depth = a.depth;
    store = heap.store;
    log = heap.log;
  };
}
