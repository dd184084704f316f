-- How a run under a watch ended, and its position.
use Rattle.std.proofs.Common.{◌≡◌, ℕ, suc, ◌+◌, ◌-◌, ◌<◌, ◌≤◌, refl, sym, ap, subst, ◌∙◌, arith, Bool, true, false}
use Rattle.std.proofs.Common.{List, [], ◌∷◌, ◌++◌, length, length-append, map, append-nil, Some, None, if◌then◌else◌}
use Rattle.std.specs.Prelude.{slice_get, nat_eq, pos, ◌&&◌, ◌||◌, Result, Ok, Err, IfOk}
use Rattle.std.specs.Ordering.{int_eq}
use Rattle.std.proofs.lemmas.Bool.{eqb-true, eqb-false}
use Rattle.source_execution.specs.rpp_words.declared.input.FieldWord.{FieldWord}
use Rattle.source_execution.specs.rpp_words.declared.input.Limits.{Limits}
use Rattle.source_execution.specs.rpp_words.Limits.{IsLimits}
use Rattle.source_execution.specs.rpp_tree.Tree.{Source, Statements, End, Then}
use Rattle.source_execution.specs.rpp_tree.Places.{statement_place}
use Rattle.source_execution.specs.class_rules.Program.{IsAccepted}
use Rattle.source_execution.specs.roopl_semantics.Run.{Run, Done, Fault, More}
use Rattle.source_execution.specs.roopl_semantics.Store.{State, Store, Binding, main_name}
use Rattle.source_execution.specs.roopl_semantics.Source.{source, IsValid}
use Rattle.source_execution.specs.roopl_semantics.Execution.{Setting}
use Rattle.source_execution.proofs.roopl_semantics_laws.MoreFuel.{within_done, within_fault, IsDoneWithin, IsFaultWithin}
use Rattle.source_execution.specs.meaning_points.Points.{Point, points_behind as behind_run}
use Rattle.source_execution.specs.meaning_points.Trail.{Trail, trail}
use Rattle.meaning_reversed.specs.meaning_machine.Machine.{Config, next, walk, seen, point_of as point_in}
use Rattle.meaning_reversed.specs.meaning_machine.SourceLaws.{set_for, start_config}
use Rattle.meaning_reversed.specs.meaning_machine.TrailLaws.{BeginsWith}
use Rattle.meaning_reversed.proofs.meaning_machine_laws.Steps.{plus, seen_plus}
use Rattle.meaning_reversed.proofs.meaning_machine_laws.Sources.{joined}
use Rattle.meaning_reversed.proofs.meaning_machine_laws.Trails.{walked}
use Rattle.meaning_reversed.specs.meaning_sound.Sound.{binding_name}
use Rattle.meaning_reversed.proofs.meaning_sound_laws.Stated.{end_is_sound}
use Rattle.source_execution.specs.source_store.HeapView.{Kept}
use Rattle.source_execution.specs.source_steps.Metered.{Went, Stopped, metered, Failed, IsFault}
use Rattle.source_execution.specs.source_steps.declared.stop.Stop.{Stop}
use Rattle.source_execution.specs.source_steps.declared.stop.Stop.TheVariants as stop
use Rattle.source_execution.proofs.source_steps_laws.Fuelled.{left_at_most}
use Rattle.source_execution.specs.Variables.{binding_of}
use Rattle.source_execution.specs.Standing.{IsOver as IsPast, config_at, setting_at, next_place}
use Rattle.source_execution.proofs.Within.{ends_done, ends_fault}
use Rattle.source_courses.specs.declared.watching.Watching.{Watching}
use Rattle.source_courses.specs.declared.watching.Watching.TheVariants as watch
use Rattle.source_courses.specs.declared.running.Arrival.{Arrival}
use Rattle.source_courses.specs.declared.running.Ended.{Ended}
use Rattle.source_courses.specs.declared.places.Place.{Place}
use Rattle.source_courses.specs.declared.places.Place.TheVariants as place
use Rattle.source_courses.specs.Placed.{stand_of}
use Rattle.source_courses.specs.declared.running.TheConstants.{MOST_COST}
use Rattle.source_courses.specs.declared.running.Course.{Course}
use Rattle.source_courses.specs.Watched.{Passed, Met, is_given, wants, passed, wanted, behind, counted, surely}
use Rattle.source_courses.specs.Watched.{ahead, watched, point_of}
use Rattle.source_courses.specs.Courses.{IsUnderWay, IsThere, Holds, heap_of}
use Rattle.source_courses.specs.Ended.{IsOver, IsEnded, HasStopped, IsStopped, last_state}
use Rattle.source_courses.specs.Ended.{left_of as left_in}
use Rattle.source_courses.specs.Walks.{AtPoint, AtEnd, Unknown, end_stand, point_stand, stand_at}
use Rattle.source_courses.proofs.Left.{FindsPosition, all_left, finds}
use Rattle.source_courses.proofs.Rewound.{one_more, one_fault, counts, none_behind}

-- ---- a watch along trace points

watched_on : (w v : Watching) (xs ys : List Point) → watched w xs ≡ Passed v → watched w (xs ++ ys) ≡ watched v ys
watched_on w v [] ys e = let same : w ≡ v = cc in ap (λ (k : Watching). watched k ys) same
watched_on w v (x ∷ xs) ys e = by (wants w x.place) e (watched_on (passed w x.place) v xs ys)
  where
    by : (t : Bool) → (if t then Met w x else watched (passed w x.place) xs) ≡ Passed v
        → (watched (passed w x.place) xs ≡ Passed v → watched (passed w x.place) (xs ++ ys) ≡ watched v ys)
        → (if t then Met w x else watched (passed w x.place) (xs ++ ys)) ≡ watched v ys
    by true e on = cc
    by false e on = on e

-- the watch does not look for the statement that begins
passes_by : (setting : Setting) (w : Watching) (params : ℕ) (st : State) (body : Statements)
    → wanted w (next_place body) ≡ false
    → watched w (point_in setting params st body) ≡ Passed (behind w (next_place body))
passes_by setting w params st End e = refl
passes_by setting w params st (Then s rest) e =
    ap (λ (t : Bool). if t then Met w (record { place = statement_place s; params = params; state = st })
    else Passed (passed w (statement_place s))) e

-- the watch looks for it
meets : (setting : Setting) (w : Watching) (params place : ℕ) (st : State) (body : Statements) (more : List Point)
    → wanted w (next_place body) ≡ true → next_place body ≡ Some place
    → watched w (point_in setting params st body ++ more)
    ≡ Met w (record { place = place; params = params; state = st })
meets setting w params place st End more e f = cc
meets setting w params place st (Then s rest) more e f =
    let same : statement_place s ≡ place = cc in
    ap (λ (t : Bool). if t then Met w (record { place = statement_place s; params = params; state = st })
    else watched (passed w (statement_place s)) more) e
    ∙ ap (λ (at : ℕ). Met w (record { place = at; params = params; state = st })) same

-- ---- the trace points that a watch surely passes

no_zero : (n : ℕ) → 0 < n → nat_eq n 0 ≡ false
no_zero n h = by (nat_eq n 0) refl
  where
    by : (b : Bool) → nat_eq n 0 ≡ b → nat_eq n 0 ≡ false
    by true e = let none = eqb-true n 0 e in absurd (omega arith)
    by false e = e

never : (t : Bool) → (t && false) ≡ false
never true = refl
never false = refl

not_wanted : (w : Watching) (place : ℕ) → 0 < surely w → wants w place ≡ false
not_wanted (watch.First None skip left) place h =
    ap (λ (t : Bool). t || (nat_eq skip 0 && false)) (no_zero left h) ∙ never (nat_eq skip 0)
not_wanted (watch.First (Some given) skip left) place h =
    ap (λ (t : Bool). t || (nat_eq skip 0 && is_given (Some given) place)) (no_zero left (omega arith))
    ∙ ap (λ (t : Bool). t && is_given (Some given) place) (no_zero skip (omega arith))
not_wanted (watch.Latest given skip left latest) place h = no_zero left (omega arith)

surely_less : (w : Watching) (place n : ℕ) → suc n ≤ surely w → n ≤ surely (passed w place)
surely_less (watch.First None skip left) place n h = omega arith
surely_less (watch.First (Some given) skip left) place n h = omega arith
surely_less (watch.Latest given skip left latest) place n h = omega arith

ahead_none : (w : Watching) → w ≡ ahead w 0
ahead_none (watch.First wanted skip left) =
    let one : skip - 0 ≡ skip = omega arith in
    let two : left - 0 ≡ left = omega arith in
    sym (ap (λ (k : ℕ). watch.First wanted k (left - 0)) one ∙ ap (λ (k : ℕ). watch.First wanted skip k) two)
ahead_none (watch.Latest given skip left latest) =
    let one : skip - 0 ≡ skip = omega arith in
    let two : left - 0 ≡ left = omega arith in
    sym (ap (λ (k : ℕ). watch.Latest given k (left - 0) latest) one
    ∙ ap (λ (k : ℕ). watch.Latest given skip k latest) two)

ahead_more : (w : Watching) (place n : ℕ) → 0 < surely w → ahead (passed w place) n ≡ ahead w (suc n)
ahead_more (watch.First wanted skip left) place n h =
    let one : skip - 1 - n ≡ skip - suc n = omega arith in
    let two : left - 1 - n ≡ left - suc n = omega arith in
    ap (λ (k : ℕ). watch.First wanted k (left - 1 - n)) one
    ∙ ap (λ (k : ℕ). watch.First wanted (skip - suc n) k) two
ahead_more (watch.Latest given skip left latest) place n h =
    let one : skip - 1 - n ≡ skip - suc n = omega arith in
    let two : left - 1 - n ≡ left - suc n = omega arith in
    ap (λ (t : Bool). watch.Latest given (skip - 1 - n) (left - 1 - n)
    (if t && int_eq (pos place) given then Some left else latest)) (no_zero skip (omega arith))
    ∙ ap (λ (k : ℕ). watch.Latest given k (left - 1 - n) latest) one
    ∙ ap (λ (k : ℕ). watch.Latest given (skip - suc n) k latest) two

surely_passes : (w : Watching) (xs : List Point) → length xs ≤ surely w
    → watched w xs ≡ Passed (ahead w (length xs))
surely_passes w [] h = ap Passed (ahead_none w)
surely_passes w (x ∷ xs) h =
    ap (λ (t : Bool). if t then Met w x else watched (passed w x.place) xs) (not_wanted w x.place (omega arith))
    ∙ surely_passes (passed w x.place) xs (surely_less w x.place (length xs) h)
    ∙ ap Passed (ahead_more w x.place (length xs) (omega arith))

-- ---- a run under a watch, step by step

-- it has come here, along trace points that the watch has passed
pub record HasCome (program : Source) (limits : Limits) (input : List FieldWord) (most : ℕ) (c : Course)
    (from at : Watching) : Type 0 where
  pub way : IsUnderWay program limits input most c
  pub seen : watched from (seen (set_for program limits) way.steps (start_config program input)) ≡ Passed at

pub come_here : (program : Source) (limits : Limits) (input : List FieldWord) (most : ℕ) (c : Course)
    (from at : Watching) → IsUnderWay program limits input most c → c.passed ≤ surely from
    → at ≡ ahead from c.passed → HasCome program limits input most c from at
come_here program limits input most c from at way sure same =
    let count = way.count in
    record {
      way = way;
      seen = surely_passes from (seen (set_for program limits) way.steps (start_config program input)) (omega arith)
          ∙ ap (λ (k : ℕ). Passed (ahead from k)) count ∙ ap Passed (sym same);
    }

pub begins_here : (program : Source) (limits : Limits) (input : List FieldWord) (most : ℕ) (c : Course)
    → c.fuel ≡ most → c.passed ≡ 0 → setting_at c.execution ≡ set_for program limits
    → config_at c.execution ≡ start_config program input → c.execution.broken ≡ false
    → IsUnderWay program limits input most c
begins_here program limits input most c fuel none setting start whole = record {
  steps = 0;
  cost = 0;
  came = ap (λ (x : Config). Done x 0) (sym start);
  spent = omega arith;
  count = sym none;
  same = setting;
  whole = whole;
}

module _ (program : Source) (limits : Limits) (input : List FieldWord) (n : ℕ) (c : Course) (from at : Watching)
    (come : HasCome program limits input n c from at) where
  abbrev here : Setting
  here = set_for program limits

  abbrev first : Config
  first = start_config program input

  abbrev x : Config
  x = config_at c.execution

  abbrev steps : ℕ
  steps = come.way.steps

  came_done : IsDoneWithin n (walk here steps first) x come.way.cost
  came_done = record { is = come.way.came; in_fuel = let s = come.way.spent in omega arith }

  one_seen : seen here (plus steps 1) first ≡ seen here steps first ++ point_in here x.params x.state x.rest
  one_seen = seen_plus here steps 1 first
      ∙ ap (λ (r : Run Config). seen here steps first ++ behind_run r (seen here 1)) came_done.is
      ∙ ap (λ (l : List Point). seen here steps first ++ (point_in here x.params x.state x.rest ++ l))
      (none_behind here (next here x))
      ∙ ap (λ (l : List Point). seen here steps first ++ l)
      (append-nil (point_in here x.params x.state x.rest))

  -- the watch does not look for the trace point of the run
  module _ (not : wanted at (next_place x.rest) ≡ false) where
    passes : watched from (seen here (plus steps 1) first) ≡ Passed (behind at (next_place x.rest))
    passes = ap (watched from) one_seen
        ∙ watched_on from at (seen here steps first) (point_in here x.params x.state x.rest) come.seen
        ∙ passes_by here at x.params x.state x.rest not

    next_here : next (setting_at c.execution) x ≡ next here x
    next_here = ap (λ (k : Setting). next k x) come.way.same

    pub come_further : (later : Course) → metered c.fuel (next (setting_at c.execution) x)
        ≡ Went (config_at later.execution) later.fuel
        → setting_at later.execution ≡ setting_at c.execution → later.execution.broken ≡ false
        → later.passed ≡ counted c.passed (next_place x.rest)
        → HasCome program limits input n later from (behind at (next_place x.rest))
    come_further later e s w count =
        let gone : IsDoneWithin c.fuel (next here x) (config_at later.execution) (c.fuel - later.fuel) =
        within_done c.fuel (next here x) (config_at later.execution) (c.fuel - later.fuel)
        (ends_done c.fuel (next here x) (config_at later.execution) later.fuel
        (ap (metered c.fuel) (sym next_here) ∙ e)) in
        let left = left_at_most c.fuel (next (setting_at c.execution) x) (config_at later.execution) later.fuel e in
        let spent = come.way.spent in
        record {
          way = record {
            steps = plus steps 1;
            cost = come.way.cost + (c.fuel - later.fuel);
            came = one_more here steps first x (config_at later.execution) come.way.cost (c.fuel - later.fuel)
                come.way.came gone.is;
            spent = omega arith;
            count = ap (λ (l : List Point). length l) one_seen
                ∙ length-append (seen here steps first) (point_in here x.params x.state x.rest)
                ∙ ap (λ (k : ℕ). k + length (point_in here x.params x.state x.rest)) come.way.count
                ∙ counts here x.params c.passed x.state x.rest ∙ sym count;
            same = s ∙ come.way.same;
            whole = w;
          };
          seen = passes;
        }

    stops : (left code : ℕ) → metered c.fuel (next (setting_at c.execution) x) ≡ Stopped code left
        → IsFaultWithin n (walk here (plus steps 1) first) code (come.way.cost + (c.fuel - left))
    stops left code e =
        let stopped : IsFaultWithin c.fuel (next here x) code (c.fuel - left) =
        within_fault c.fuel (next here x) code (c.fuel - left)
        (ends_fault c.fuel (next here x) code left (ap (metered c.fuel) (sym next_here) ∙ e)) in
        let spent = come.way.spent in
        let within = stopped.in_fuel in
        record {
          is = one_fault here steps first x code come.way.cost (c.fuel - left) come.way.came stopped.is;
          in_fuel = omega arith;
        }

-- ---- how it ended

-- what is kept of a trace point is that trace point
pub stands : (x : Config) (a : Arrival) (heap : Kept) → a.params ≡ x.params
    → map binding_of a.variables.items ≡ x.state.frame → a.object ≡ x.state.self → a.depth ≡ x.state.depth
    → heap.store ≡ x.state.store → heap.log ≡ x.state.log
    → point_of a heap ≡ record { place = a.place; params = x.params; state = x.state }
stands x a heap p f i d s l =
    let at_state : State → Point = λ (st : State). record { place = a.place; params = x.params; state = st } in
    let state : (point_of a heap).state ≡ x.state =
    ap (λ k. record (point_of a heap).state { frame = k }) f
    ∙ ap (λ k. record (point_of a heap).state { frame = x.state.frame; self = k }) i
    ∙ ap (λ k. record (point_of a heap).state { frame = x.state.frame; self = x.state.self; depth = k }) d
    ∙ ap (λ k. record x.state { store = k; log = heap.log }) s
    ∙ ap (λ k. record x.state { log = k }) l in
    ap (λ (k : ℕ). record (point_of a heap) { params = k }) p ∙ ap at_state state

no_names : (frame : List Binding) → map binding_name frame ≡ [] → frame ≡ []
no_names [] e = refl
no_names (b ∷ frame) e = cc

module _ (program : Source) (limits : Limits) (input : List FieldWord) (n : ℕ) (c : Course) (from at : Watching)
    (come : HasCome program limits input n c from at) where
  abbrev now : Config
  now = config_at c.execution

  done : IsDoneWithin n (walk (set_for program limits) come.way.steps (start_config program input)) now come.way.cost
  done = came_done program limits input n c from at come

  -- at the end
  module _ (over : IsPast (config_at c.execution)) where
    is_source : source program limits input n ≡ Done now.state come.way.cost
    is_source = (joined program limits input n).over come.way.steps now come.way.cost done.is over.rest over.around
        done.in_fuel

    end_state : IsAccepted program → IsLimits limits → IsValid program input → now.state ≡ last_state (heap_of c)
    end_state accepted inside valid =
        let kept = end_is_sound program limits input n now.state come.way.cost accepted inside valid is_source
        in
        let frame : now.state.frame ≡ [] = no_names now.state.frame kept.sound.names in
        let self : now.state.self ≡ main_name = kept.stays.self_same in
        let depth : now.state.depth ≡ 1 = kept.stays.depth_same in
        let build : List Binding → ℕ → ℕ → State = λ (f : List Binding) (i d : ℕ). record {
          frame = f;
          self = i;
          depth = d;
          store = now.state.store;
          log = now.state.log;
        } in
        ap (λ (f : List Binding). build f now.state.self now.state.depth) frame
        ∙ ap (λ (i : ℕ). build [] i now.state.depth) self
        ∙ ap (λ (d : ℕ). build [] main_name d) depth

    pub is_over : IsAccepted program → IsLimits limits → IsValid program input
        → IsOver (heap_of c) from at (trail program limits input n)
    is_over accepted inside valid =
        let end = (walked program limits input n).over come.way.steps now come.way.cost done.is over.rest
        over.around
        done.in_fuel in
        record {
          seen = ap (watched from) end.1 ∙ come.seen;
          cost = come.way.cost;
          done = end.0 ∙ ap (λ (st : State). Done st come.way.cost) (end_state accepted inside valid);
        }

  -- at a trace point
  pub is_at : {E : Type 0} (r : Result Ended E) → wanted at (next_place (config_at c.execution).rest) ≡ true
      → IfOk r (λ e. HasStopped (config_at c.execution) (heap_of c) at c.fuel e)
      → IfOk r (λ e. IsEnded e (heap_of c) from (trail program limits input n))
  is_at (Err why) want is = tt
  is_at (Ok e) want is =
      let some = is.some in
      let spent = come.way.spent in
      let along : BeginsWith (trail program limits input n).points
      (seen (set_for program limits) come.way.steps (start_config program input))
      (point_in (set_for program limits) now.params now.state now.rest) =
      (walked program limits input n).along come.way.steps now come.way.cost done.is (omega arith) in
      subst (λ (e : Ended). IsEnded e (heap_of c) from (trail program limits input n)) (sym is.is)
      (ap (watched from) along.are
      ∙ watched_on from at (seen (set_for program limits) come.way.steps (start_config program input)) _ come.seen
      ∙ meets (set_for program limits) at now.params is.arrival.place now.state now.rest along.more
      want is.begins
      ∙ ap (Met at) (sym is.point))

  -- with a fault
  pub is_stopped : {E : Type 0} (r : Result Ended E) (heap : Kept) (why : Stop) (left : ℕ)
      → wanted at (next_place (config_at c.execution).rest) ≡ false
      → Failed why left (metered c.fuel (next (setting_at c.execution) (config_at c.execution)))
      → IfOk r (λ e. IsStopped why (behind at (next_place (config_at c.execution).rest)) e)
      → IfOk r (λ e. IsEnded e heap from (trail program limits input n))
  is_stopped (Err none) heap why left not e is = tt
  is_stopped (Ok e) heap (stop.Fault code) left not failed is =
      let cost : ℕ = come.way.cost + (c.fuel - left) in
      let w : IsFaultWithin n (walk (set_for program limits) (plus come.way.steps 1) (start_config program input)) code
      cost = stops program limits input n c from at come not left code failed in
      let end = (walked program limits input n).fault (plus come.way.steps 1) code cost w.is w.in_fuel in
      subst (λ (e : Ended). IsEnded e heap from (trail program limits input n)) (sym is) (record {
        seen = ap (watched from) end.1 ∙ passes program limits input n c from at come not;
        cost = come.way.cost + (c.fuel - left);
        fault = end.0;
      })
  is_stopped (Ok e) heap stop.More left not failed is = absurd is
  is_stopped (Ok e) heap (stop.Lacks lack) left not failed is = absurd is

-- what is kept of an offset is the same if the store and the log are
pub stand_as : (place : Place) (h k : Kept) → h.store ≡ k.store → h.log ≡ k.log → stand_of place h ≡ stand_of place k
stand_as (place.Point arrival) h k s l =
    ap (λ (x : Store). AtPoint (point_of arrival (record h { store = x }))) s
    ∙ ap (λ y. AtPoint (point_of arrival (record k { log = y }))) l
stand_as place.End h k s l =
    ap (λ (x : Store). AtEnd (last_state (record h { store = x }))) s
    ∙ ap (λ y. AtEnd (last_state (record k { log = y }))) l

-- a run that stopped holds: a fault leaves it under way, and anything else aborts it
pub stopped_holds : (program : Source) (limits : Limits) (input : List FieldWord) (c later : Course) (why : Stop)
    → IsUnderWay program limits input MOST_COST c → (later.broken ≡ false → IsFault why)
    → (IsFault why → IsThere c later) → setting_at later.execution ≡ setting_at c.execution
    → Holds program limits input later
stopped_holds program limits input c later why way breaks there setting whole =
    let at = there (breaks whole) in
    let spent = way.spent in
    let less = at.less in
    record {
      steps = way.steps;
      cost = way.cost;
      came = way.came ∙ ap (λ (x : Config). Done x way.cost) (sym at.place);
      spent = omega arith;
      count = way.count ∙ sym at.passed;
      same = setting ∙ way.same;
      whole = at.whole;
    }

-- ---- the position of a run

pub placed_at : (trail : Trail) (j : ℕ) (arrival : Arrival) (heap : Kept) (last : Watching)
    → watched (watch.First None 0 j) trail.points ≡ Met last (point_of arrival heap)
    → AtPoint (point_of arrival heap) ≡ stand_at trail j
placed_at trail j arrival heap last e =
    let all : j - 0 ≡ j = omega arith in
    sym (subst (FindsPosition trail j) (ap (λ k. watched (watch.First None 0 k) trail.points) all ∙ e)
    (finds trail j trail.points 0 (all_left trail) (omega arith)))

none_past : (xs : List Point) → slice_get xs (length xs) ≡ None
none_past [] = refl
none_past (x ∷ xs) = none_past xs

eq_itself : (n : ℕ) → nat_eq n n ≡ true
eq_itself n = by (nat_eq n n) refl
  where
    by : (b : Bool) → nat_eq n n ≡ b → nat_eq n n ≡ true
    by true e = e
    by false e = absurd (eqb-false n n e refl)

pub placed_end : (trail : Trail) (j : ℕ) (heap : Kept) (last : Watching) → IsOver heap (watch.First None 0 j) last trail
    → left_in last ≡ 0 → AtEnd (last_state heap) ≡ stand_at trail j
placed_end trail j heap last over none =
    let all : j - 0 ≡ j = omega arith in
    let found = subst (FindsPosition trail j) (ap (λ k. watched (watch.First None 0 k) trail.points) all ∙ over.seen)
    (finds trail j trail.points 0 (all_left trail) (omega arith)) in
    let past = found.1 in
    let count = found.0 in
    let same : j ≡ length trail.points = omega arith in
    sym (ap (stand_at trail) same
    ∙ ap (λ o. point_stand o (if nat_eq (length trail.points) (length trail.points) then end_stand trail.end else
    Unknown)) (none_past trail.points)
    ∙ ap (λ b. if b then end_stand trail.end else Unknown) (eq_itself (length trail.points))
    ∙ ap end_stand over.done)
