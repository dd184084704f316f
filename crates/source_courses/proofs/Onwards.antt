-- Moves forward by one run to a goal.
use Rattle.std.proofs.Common.{◌≡◌, ◌≢◌, ℕ, zero, suc, ◌+◌, ◌-◌, ◌<◌, ◌≤◌, min, max, refl, sym, ap, subst, ◌∙◌, arith}
use Rattle.std.proofs.Common.{Bool, true, false, List, [], ◌∷◌, length, Option, Some, if◌then◌else◌}
use Rattle.std.specs.Prelude.{ℤ, nat_eq, nat_lt, ◌||◌, ◌&&◌}
use Rattle.std.proofs.lemmas.Bool.{eqb-true, eqb-false, lt-ltb, le-ltb, ltb-true, ltb-false}
use Rattle.source_execution.specs.roopl_semantics.Run.{Run, Done, Fault, More}
use Rattle.source_execution.specs.roopl_semantics.Store.{State}
use Rattle.source_execution.specs.meaning_points.Points.{Point}
use Rattle.source_execution.specs.meaning_points.Trail.{Trail}
use Rattle.source_execution.specs.source_store.HeapView.{Kept}
use Rattle.source_courses.specs.declared.watching.Watching.TheVariants as watch
use Rattle.source_courses.specs.Watched.{Watched, Passed, Met, is_given, watched}
use Rattle.source_courses.specs.declared.moves.TheConstants.{LAST_POSITION}
use Rattle.source_courses.specs.declared.moves.Walk.{Walk}
use Rattle.source_courses.specs.declared.moves.Ending.TheVariants.{Made, Faulted}
use Rattle.source_courses.specs.declared.running.Ended.{Ended}
use Rattle.source_courses.specs.declared.running.Ended.TheVariants as ended
use Rattle.source_courses.specs.Ended.{IsEnded, left_of, reached_by}
use Rattle.source_courses.specs.Walks.{Onward, Moves, Stays, beyond, onward, ends, move_on, is_at, forward}
use Rattle.source_courses.proofs.Left.{IsLeft, all_left, next_left, is_there, is_nowhere}

-- ---- one move

abbrev onward_by : Bool → Bool → Bool → Run State → Onward
onward_by below more here end = if below then (if more then Moves else beyond here end) else Stays Made

-- at the last position no move is left
at_last : (trail : Trail) (j : ℕ) → LAST_POSITION ≤ j → onward trail j ≡ Stays Made
at_last trail j h = ap (λ b. onward_by b (nat_lt (j + 1) (length trail.points)) (nat_lt j (length trail.points))
    trail.end) (le-ltb j LAST_POSITION h)

at_inner : (trail : Trail) (j : ℕ) → j < LAST_POSITION → j + 1 < length trail.points → onward trail j ≡ Moves
at_inner trail j h l =
    ap (λ b. onward_by b (nat_lt (j + 1) (length trail.points)) (nat_lt j (length trail.points)) trail.end)
    (lt-ltb j LAST_POSITION h)
    ∙ ap (λ b. onward_by true b (nat_lt j (length trail.points)) trail.end) (lt-ltb (j + 1) (length trail.points) l)

at_outer : (trail : Trail) (j : ℕ) (here : Bool) → j < LAST_POSITION → length trail.points ≤ j + 1
    → nat_lt j (length trail.points) ≡ here → onward trail j ≡ beyond here trail.end
at_outer trail j here h l e =
    ap (λ b. onward_by b (nat_lt (j + 1) (length trail.points)) (nat_lt j (length trail.points)) trail.end)
    (lt-ltb j LAST_POSITION h)
    ∙ ap (λ b. onward_by true b (nat_lt j (length trail.points)) trail.end) (le-ltb (j + 1) (length trail.points) l)
    ∙ ap (λ b. beyond b trail.end) e

abbrev stepped : Trail → Option ℤ → ℕ → ℕ → Option Walk
stepped trail place m j = if is_at trail place (j + 1) then Some (ends (j + 1) Made) else forward trail place m (j + 1)

-- if the goal is reached, no more moves are made
pub stays_there : (trail : Trail) (place : Option ℤ) (n j : ℕ) → j ≡ min (j + n) LAST_POSITION
    → forward trail place n j ≡ Some (ends j Made)
stays_there trail place zero j h = refl
stays_there trail place (suc m) j h = ap (λ o. move_on o j (stepped trail place m j)) (at_last trail j (omega arith))

-- after the trace points of a run that is done nothing moves
stays_behind : (trail : Trail) (place : Option ℤ) (n j : ℕ) (st : State) (cost : ℕ) → trail.end ≡ Done st cost
    → length trail.points ≤ j → forward trail place n j ≡ Some (ends j Made)
stays_behind trail place zero j st cost e h = refl
stays_behind trail place (suc m) j st cost e h = by (nat_lt j LAST_POSITION) refl
  where
    by : (b : Bool) → nat_lt j LAST_POSITION ≡ b → forward trail place (suc m) j ≡ Some (ends j Made)
    by true l = ap (λ o. move_on o j (stepped trail place m j))
        (at_outer trail j false (ltb-true j LAST_POSITION l) (omega arith) (le-ltb j (length trail.points) h)
        ∙ ap (beyond false) e)
    by false l = ap (λ o. move_on o j (stepped trail place m j)) (at_last trail j (ltb-false j LAST_POSITION l))

-- ---- a run to a goal

-- what such a run says of moves
abbrev pub Says : Watched → Run State → (from goal : ℕ) → Option Walk → Type 0
Says (Met last p) end from goal walk = walk ≡ Some (ends (goal - left_of last) Made)
Says (Passed last) (Done st cost) from goal walk = walk ≡ Some (ends (max from (goal - left_of last)) Made)
Says (Passed last) (Fault code cost) from goal walk =
    walk ≡ Some (if nat_eq goal from then ends from Made else ends (max from (goal - left_of last - 1)) (Faulted code))
Says (Passed last) More from goal walk = Unit {0}

not_equal : (a b : ℕ) → a ≢ b → nat_eq a b ≡ false
not_equal a b h = by (nat_eq a b) refl
  where
    by : (t : Bool) → nat_eq a b ≡ t → nat_eq a b ≡ false
    by true e = absurd (h (eqb-true a b e))
    by false e = e

some_at : (a b : ℕ) → a ≡ b → Some (ends a Made) ≡ Some (ends b Made)
some_at a b e = ap (λ x. Some (ends x Made)) e

module _ (points : List Point) (place : Option ℤ) (from goal : ℕ) where
  abbrev run_with : Run State → Trail
  run_with end = record { points = points; end = end }

  -- after the start, if the last trace point is met
  last_moves : (end : Run State) (i m : ℕ) → IsLeft (run_with end) (i + 1) [] → from ≤ i → i < goal
      → goal ≡ min (i + suc m) LAST_POSITION
      → Says (Passed (watch.First place 0 (goal - (i + 1)))) end from goal (forward (run_with end) place (suc m) i)
  last_moves (Done st cost) i m h low l g =
      let s = h.size in
      ap (λ o. move_on o i (stepped (run_with (Done st cost)) place m i))
      (at_outer (run_with (Done st cost)) i true (omega arith) (omega arith)
      (lt-ltb i (length points) (omega arith)))
      ∙ ap (λ b. if b then Some (ends (i + 1) Made) else forward (run_with (Done st cost)) place m (i + 1))
      (nowhere (Done st cost) h)
      ∙ stays_behind (run_with (Done st cost)) place m (i + 1) st cost refl (omega arith)
      ∙ some_at (i + 1) (max from (goal - (goal - (i + 1)))) (omega arith)
    where
      nowhere : (end : Run State) → IsLeft (run_with end) (i + 1) [] → is_at (run_with end) place (i + 1) ≡ false
      nowhere end h = let same : i + 1 ≡ i + 1 + 0 = omega arith in ap (is_at (run_with end) place) same
          ∙ is_nowhere (run_with end) (i + 1) 0 place h
  last_moves (Fault code cost) i m h low l g =
      let s = h.size in
      ap (λ o. move_on o i (stepped (run_with (Fault code cost)) place m i))
      (at_outer (run_with (Fault code cost)) i true (omega arith) (omega arith)
      (lt-ltb i (length points) (omega arith)))
      ∙ ap (λ x. Some (ends x (Faulted code))) (omega arith)
      ∙ ap (λ b. Some (if b then ends from Made else ends (max from (goal - (goal - (i + 1)) - 1)) (Faulted code)))
      (sym (not_equal goal from (omega arith)))
  last_moves More i m h low l g = tt

  abbrev FurtherOn : Run State → List Point → ℕ → ℕ → Type 0
  FurtherOn end qs i m =
      IsLeft (run_with end) (i + 1 + 1) qs → from ≤ i + 1 → i + 1 < goal → goal ≡ min (i + 1 + m) LAST_POSITION
      → Says (watched (watch.First place 0 (goal - (i + 1 + 1))) qs) end from goal
      (forward (run_with end) place m (i + 1))

  abbrev FurtherUp : Run State → ℕ → List Point → ℕ → Type 0
  FurtherUp end n qs i =
      IsLeft (run_with end) (i + 1) qs → i + 1 ≤ from → Says
      (watched (watch.First place (from + 1 - (i + 1)) (goal - (i + 1))) qs) end from goal
      (forward (run_with end) place n from)

  -- after the start: each trace point that is passed is one move
  on_from : (end : Run State) (ps : List Point) (i n : ℕ) → IsLeft (run_with end) (i + 1) ps → from ≤ i → i < goal
      → goal ≡ min (i + n) LAST_POSITION
      → Says (watched (watch.First place 0 (goal - (i + 1))) ps) end from goal (forward (run_with end) place n i)
  on_from end ps i zero h low l g = absurd (omega arith)
  on_from end [] i (suc m) h low l g = last_moves end i m h low l g
  on_from end (q ∷ qs) i (suc m) h low l g = by_place (λ left there less same. on_from end qs (i + 1) m left there less
      same) (is_given place q.place) refl
    where
      moves : (b : Bool) → is_given place q.place ≡ b → forward (run_with end) place (suc m) i
          ≡ (if b then Some (ends (i + 1) Made) else forward (run_with end) place m (i + 1))
      moves b e =
          let s = h.size in
          ap (λ o. move_on o i (stepped (run_with end) place m i))
          (at_inner (run_with end) i (omega arith) (omega arith))
          ∙ ap (λ t. if t then Some (ends (i + 1) Made) else forward (run_with end) place m (i + 1))
          (is_there (run_with end) (i + 1) place q qs h ∙ e)

      passes : FurtherOn end qs i m → is_given place q.place ≡ false → nat_eq (goal - (i + 1)) 0 ≡ false
          → Says (watched (watch.First place 0 (goal - (i + 1) - 1)) qs) end from goal
          (forward (run_with end) place (suc m) i)
      passes below e f =
          let some : goal - (i + 1) ≢ 0 = eqb-false (goal - (i + 1)) 0 f in
          let same : goal - (i + 1) - 1 ≡ goal - (i + 1 + 1) = omega arith in
          rw (moves false e, same) (below (next_left (run_with end) (i + 1) q qs h) (omega arith) (omega arith)
          (omega arith))

      by_left : FurtherOn end qs i m → is_given place q.place ≡ false → (b : Bool) → nat_eq (goal - (i + 1)) 0 ≡ b
          → Says (if b || (true && false) then Met (watch.First place 0 (goal - (i + 1))) q else watched
          (watch.First place 0 (goal - (i + 1) - 1)) qs) end from goal (forward (run_with end) place (suc m) i)
      by_left below e true f =
          let none = eqb-true (goal - (i + 1)) 0 f in
          moves false e ∙ stays_there (run_with end) place m (i + 1) (omega arith)
          ∙ some_at (i + 1) (goal - (goal - (i + 1))) (omega arith)
      by_left below e false f = passes below e f

      met : (b : Bool) → is_given place q.place ≡ true
          → Says (if b || (true && true) then Met (watch.First place 0 (goal - (i + 1))) q else watched
          (watch.First place 0 (goal - (i + 1) - 1)) qs) end from goal (forward (run_with end) place (suc m) i)
      met true e = moves true e ∙ some_at (i + 1) (goal - (goal - (i + 1))) (omega arith)
      met false e = moves true e ∙ some_at (i + 1) (goal - (goal - (i + 1))) (omega arith)

      by_place : FurtherOn end qs i m → (b : Bool) → is_given place q.place ≡ b
          → Says (if nat_eq (goal - (i + 1)) 0 || (true && b) then Met (watch.First place 0 (goal - (i + 1))) q else
          watched (watch.First place 0 (goal - (i + 1) - 1)) qs) end from goal
          (forward (run_with end) place (suc m) i)
      by_place below true e = met (nat_eq (goal - (i + 1)) 0) e
      by_place below false e = by_left below e (nat_eq (goal - (i + 1)) 0) refl

  -- the start is after all trace points
  none_from : (end : Run State) (i n : ℕ) → IsLeft (run_with end) i [] → i ≤ from → from ≤ LAST_POSITION
      → goal ≡ min (from + n) LAST_POSITION
      → Says (Passed (watch.First place (from + 1 - i) (goal - i))) end from goal (forward (run_with end) place n from)
  none_from (Done st cost) i n h l last g =
      let s = h.size in
      stays_behind (run_with (Done st cost)) place n from st cost refl (omega arith)
      ∙ some_at from (max from (goal - (goal - i))) (omega arith)
  none_from (Fault code cost) i n h l last g = by (nat_eq goal from) refl n g
    where
      by : (b : Bool) → nat_eq goal from ≡ b → (n : ℕ) → goal ≡ min (from + n) LAST_POSITION
          → forward (run_with (Fault code cost)) place n from
          ≡ Some (if b then ends from Made else ends (max from (goal - (goal - i) - 1)) (Faulted code))
      by true e n g = let same = eqb-true goal from e in stays_there (run_with (Fault code cost)) place n from
          (omega arith)
      by false e zero g = let other : goal ≢ from = eqb-false goal from e in absurd (omega arith)
      by false e (suc m) g =
          let other : goal ≢ from = eqb-false goal from e in
          let s = h.size in
          ap (λ o. move_on o from (stepped (run_with (Fault code cost)) place m from))
          (at_outer (run_with (Fault code cost)) from false (omega arith) (omega arith)
          (le-ltb from (length points) (omega arith)))
          ∙ ap (λ x. Some (ends x (Faulted code))) (omega arith)
  none_from More i n h l last g = tt

  -- up to the start the watch looks for no trace point, unless it is the goal
  up_to : (end : Run State) (n : ℕ) (ps : List Point) (i : ℕ) → IsLeft (run_with end) i ps → i ≤ from
      → from ≤ LAST_POSITION → goal ≡ min (from + n) LAST_POSITION
      → Says (watched (watch.First place (from + 1 - i) (goal - i)) ps) end from goal
      (forward (run_with end) place n from)
  up_to end n [] i h l last g = none_from end i n h l last g
  up_to end n (p ∷ qs) i h l last g = by (λ left less. up_to end n qs (i + 1) left less last g) (nat_eq (goal - i) 0)
      refl
    where
      further : FurtherUp end n qs i → i < from → Says (watched (watch.First place (from + 1 - i - 1) (goal - i - 1))
          qs) end from goal (forward (run_with end) place n from)
      further below less =
          let one : from + 1 - i - 1 ≡ from + 1 - (i + 1) = omega arith in
          let two : goal - i - 1 ≡ goal - (i + 1) = omega arith in
          rw (one, two) (below (next_left (run_with end) i p qs h) (omega arith))

      here : i ≡ from → i < goal → Says (watched (watch.First place (from + 1 - i - 1) (goal - i - 1)) qs) end from goal
          (forward (run_with end) place n from)
      here same some =
          let one : from + 1 - i - 1 ≡ 0 = omega arith in
          let two : goal - i - 1 ≡ goal - (i + 1) = omega arith in
          rw (one, two) (subst (λ k. Says (watched (watch.First place 0 (goal - (i + 1))) qs) end from goal
          (forward (run_with end) place n k)) same (on_from end qs i n (next_left (run_with end) i p qs h)
          (omega arith) some (omega arith)))

      passes : FurtherUp end n qs i → goal - i ≢ 0 → Says (watched (watch.First place (from + 1 - i - 1) (goal - i - 1))
          qs) end from goal (forward (run_with end) place n from)
      passes below some = by_start (nat_eq i from) refl
        where
          by_start : (b : Bool) → nat_eq i from ≡ b → Says (watched
              (watch.First place (from + 1 - i - 1) (goal - i - 1)) qs) end from goal
              (forward (run_with end) place n from)
          by_start true e = here (eqb-true i from e) (omega arith)
          by_start false e = let other : i ≢ from = eqb-false i from e in further below (omega arith)

      skipped : FurtherUp end n qs i → (b : Bool) → nat_eq (from + 1 - i) 0 ≡ b → goal - i ≢ 0
          → Says (if b && is_given place p.place then Met (watch.First place (from + 1 - i) (goal - i)) p else watched
          (watch.First place (from + 1 - i - 1) (goal - i - 1)) qs) end from goal
          (forward (run_with end) place n from)
      skipped below true e some = let none = eqb-true (from + 1 - i) 0 e in absurd (omega arith)
      skipped below false e some = passes below some

      by : FurtherUp end n qs i → (b : Bool) → nat_eq (goal - i) 0 ≡ b
          → Says (if b || (nat_eq (from + 1 - i) 0 && is_given place p.place) then Met
          (watch.First place (from + 1 - i) (goal - i)) p else watched
          (watch.First place (from + 1 - i - 1) (goal - i - 1)) qs) end from goal
          (forward (run_with end) place n from)
      by below true e =
          let none = eqb-true (goal - i) 0 e in
          stays_there (run_with end) place n from (omega arith) ∙ some_at from (goal - (goal - i)) (omega arith)
      by below false e = skipped below (nat_eq (from + 1 - i) 0) refl (eqb-false (goal - i) 0 e)

-- ---- what the run to a goal returns

pub goes_to : (trail : Trail) (place : Option ℤ) (from goal n : ℕ) → from ≤ LAST_POSITION
    → goal ≡ min (from + n) LAST_POSITION
    → Says (watched (watch.First place (from + 1) goal) trail.points) trail.end from goal (forward trail place n from)
goes_to trail place from goal n last g =
    let one : from + 1 ≡ from + 1 - 0 = omega arith in
    let two : goal ≡ goal - 0 = omega arith in
    subst (λ k. Says (watched (watch.First place k goal) trail.points) trail.end from goal (forward trail place n from))
    (sym one)
    (subst (λ k. Says (watched (watch.First place (from + 1 - 0) k) trail.points) trail.end from goal
    (forward trail place n from)) (sym two)
    (up_to trail.points place from goal trail.end n trail.points 0 (all_left trail) (omega arith) last g))

pub forward_is : (e : Ended) (heap : Kept) (trail : Trail) (place : Option ℤ) (from goal n : ℕ)
    → IsEnded e heap (watch.First place (from + 1) goal) trail → from ≤ LAST_POSITION
    → goal ≡ min (from + n) LAST_POSITION
    → forward trail place n from ≡ Some (reached_by e from goal)
forward_is (ended.At arrival last) heap trail place from goal n is l g =
    subst (λ seen. Says seen trail.end from goal (forward trail place n from)) is (goes_to trail place from goal n l g)
forward_is (ended.Over last) heap trail place from goal n is l g =
    subst (λ end. Says (Passed last) end from goal (forward trail place n from)) is.done
    (subst (λ seen. Says seen trail.end from goal (forward trail place n from)) is.seen
    (goes_to trail place from goal n l g))
forward_is (ended.Fault code last) heap trail place from goal n is l g =
    subst (λ end. Says (Passed last) end from goal (forward trail place n from)) is.fault
    (subst (λ seen. Says seen trail.end from goal (forward trail place n from)) is.seen
    (goes_to trail place from goal n l g))
