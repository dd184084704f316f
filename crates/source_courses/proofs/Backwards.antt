-- Moves back by one run to the start.
use Rattle.std.proofs.Common.{◌≡◌, ◌≢◌, ℕ, zero, suc, ◌+◌, ◌-◌, ◌≤◌, refl, sym, ap, subst, ◌∙◌, arith, Bool, true}
use Rattle.std.proofs.Common.{false, List, [], ◌∷◌, Option, Some, None, if◌then◌else◌}
use Rattle.std.specs.Prelude.{ℤ, pos, nat_eq, nat_lt, nat_le, ◌&&◌, option_map}
use Rattle.std.specs.Ordering.{int_eq}
use Rattle.std.proofs.lemmas.Bool.{eqb-true, eqb-false, lt-ltb, le-ltb, ltb-true, ltb-false, le-leb, lt-leb}
use Rattle.source_execution.specs.meaning_points.Points.{Point}
use Rattle.source_execution.specs.meaning_points.Trail.{Trail}
use Rattle.source_execution.specs.source_store.HeapView.{Kept}
use Rattle.source_courses.specs.declared.watching.Watching.TheVariants as watch
use Rattle.source_courses.specs.Watched.{Watched, Passed, Met, watched}
use Rattle.source_courses.specs.declared.moves.Walk.{Walk}
use Rattle.source_courses.specs.declared.moves.Ending.TheVariants.{Made, Start}
use Rattle.source_courses.specs.declared.running.Ended.{Ended}
use Rattle.source_courses.specs.declared.running.Ended.TheVariants as ended
use Rattle.source_courses.specs.Ended.{IsEnded, watching_of, latest_of, back_by, back_to}
use Rattle.source_courses.specs.Walks.{ends, is_at, backward}
use Rattle.source_courses.proofs.Left.{IsLeft, all_left, next_left, is_there, is_nowhere}

-- ---- the last position at an offset

module _ (trail : Trail) (place : ℤ) (low : ℕ) where
  -- the last position below one and not below `low`
  abbrev pub latest_before : ℕ → Option ℕ
  latest_before zero = None
  latest_before (suc k) = if nat_le low k && is_at trail (Some place) k then Some k else latest_before k

  none_below : (j : ℕ) → j ≤ low → latest_before j ≡ None
  none_below zero h = refl
  none_below (suc k) h = ap (λ b. if b && is_at trail (Some place) k then Some k else latest_before k)
      (lt-leb low k (omega arith)) ∙ none_below k (omega arith)

  none_behind : (i d : ℕ) → IsLeft trail i [] → latest_before (i + d) ≡ latest_before i
  none_behind i zero h = ap latest_before (omega arith)
  none_behind i (suc d) h =
      let same : i + suc d ≡ suc (i + d) = omega arith in
      ap latest_before same
      ∙ ap (λ b. if nat_le low (i + d) && b then Some (i + d) else latest_before (i + d))
      (is_nowhere trail i d (Some place) h)
      ∙ by (nat_le low (i + d)) ∙ none_behind i d h
    where
      by : (b : Bool) → (if b && false then Some (i + d) else latest_before (i + d)) ≡ latest_before (i + d)
      by true = refl
      by false = refl

abbrev by_latest : Option ℕ → (most from : ℕ) → Walk
by_latest (Some i) most from = ends i Made
by_latest None most from = back_by most from

abbrev back_with : ℕ → Bool → Walk
back_with position start = record { position = position; ending = if start then Start else Made }

back_suc : (n k : ℕ) → back_by n k ≡ back_by (suc n) (suc k)
back_suc n k =
    let same : k - n ≡ suc k - suc n = omega arith in
    ap (λ x. back_with x (nat_lt k n)) same ∙ ap (λ b. back_with (suc k - suc n) b) (by (nat_lt k n) refl)
  where
    by : (b : Bool) → nat_lt k n ≡ b → b ≡ nat_lt (suc k) (suc n)
    by true e = sym (lt-ltb (suc k) (suc n) (let l = ltb-true k n e in omega arith))
    by false e = sym (le-ltb (suc k) (suc n) (let l = ltb-false k n e in omega arith))

latest_suc : (o : Option ℕ) (n k : ℕ) → by_latest o n k ≡ by_latest o (suc n) (suc k)
latest_suc (Some i) n k = refl
latest_suc None n k = back_suc n k

none_wanted : (j : ℕ) → ends j Made ≡ back_by 0 j
none_wanted j =
    let same : j ≡ j - 0 = omega arith in
    ap (λ x. ends x Made) same ∙ ap (λ b. back_with (j - 0) b) (sym (le-ltb j 0 (omega arith)))

none_left : (n : ℕ) → ends 0 Start ≡ back_by (suc n) 0
none_left n =
    let same : 0 ≡ 0 - suc n = omega arith in
    ap (λ x. ends x Start) same ∙ ap (λ b. back_with (0 - suc n) b) (sym (lt-ltb 0 (suc n) (omega arith)))

pub back_freely : (trail : Trail) (n j : ℕ) → backward trail None n j ≡ back_by n j
back_freely trail zero j = none_wanted j
back_freely trail (suc n) zero = none_left n
back_freely trail (suc n) (suc k) = back_freely trail n k ∙ back_suc n k

back_up : (trail : Trail) (place : ℤ) (n j : ℕ) → backward trail (Some place) n j
    ≡ by_latest (latest_before trail place (j - n) j) n j
back_up trail place zero j = none_wanted j ∙ ap (λ o. by_latest o 0 j)
    (sym (none_below trail place (j - 0) j (omega arith)))
back_up trail place (suc n) zero = none_left n
back_up trail place (suc n) (suc k) = by (is_at trail (Some place) k) (back_up trail place n k)
  where
    low_is : suc k - suc n ≡ k - n
    low_is = omega arith

    by : (b : Bool) → backward trail (Some place) n k ≡ by_latest (latest_before trail place (k - n) k) n k
        → (if b then ends k Made else backward trail (Some place) n k)
        ≡ by_latest (if nat_le (suc k - suc n) k && b then Some k else latest_before trail place (suc k - suc n) k)
        (suc n) (suc k)
    by true below = ap (λ t. by_latest (if t && true then Some k else latest_before trail place (suc k - suc n) k)
        (suc n) (suc k)) (sym (le-leb (suc k - suc n) k (omega arith)))
    by false below =
        below ∙ latest_suc (latest_before trail place (k - n) k) n k
        ∙ ap (λ l. by_latest (latest_before trail place l k) (suc n) (suc k)) (sym low_is)
        ∙ ap (λ t. by_latest (if t && false then Some k else latest_before trail place (suc k - suc n) k) (suc n)
        (suc k)) (sym (le-leb (suc k - suc n) k (omega arith)))

-- ---- a watch for the last trace point at an offset

abbrev counted_back : ℕ → Option ℕ → Option ℕ
counted_back j latest = option_map (λ left. j - left) latest

module _ (trail : Trail) (place : ℤ) (low j : ℕ) where
  abbrev HasLatest : Watched → Type 0
  HasLatest (Met last p) = counted_back j (latest_of last) ≡ latest_before trail place low j
  HasLatest (Passed last) = counted_back j (latest_of last) ≡ latest_before trail place low j

  abbrev BelowLatest : List Point → ℕ → Type 0
  BelowLatest ps i =
      (more : Option ℕ) → IsLeft trail (i + 1) ps → i + 1 ≤ j
      → counted_back j more ≡ latest_before trail place low (i + 1)
      → HasLatest (watched (watch.Latest place (low - (i + 1)) (j - (i + 1)) more) ps)

  keeps_latest : (ps : List Point) (i : ℕ) (latest : Option ℕ) → IsLeft trail i ps → i ≤ j
      → counted_back j latest ≡ latest_before trail place low i
      → HasLatest (watched (watch.Latest place (low - i) (j - i) latest) ps)
  keeps_latest [] i latest h le is =
      let s = h.size in
      let same : i + (j - i) ≡ j = omega arith in
      is ∙ sym (none_behind trail place low i (j - i) h) ∙ ap (latest_before trail place low) same
  keeps_latest (p ∷ ps) i latest h le is = by (nat_eq (j - i) 0) refl
      (λ more left some same. keeps_latest ps (i + 1) more left some same)
    where
      after : Option ℕ
      after = if nat_eq (low - i) 0 && int_eq (pos p.place) place then Some (j - i) else latest

      low_test : nat_eq (low - i) 0 ≡ nat_le low i
      low_test = test (nat_eq (low - i) 0) refl
        where
          test : (b : Bool) → nat_eq (low - i) 0 ≡ b → b ≡ nat_le low i
          test true e = sym (le-leb low i (let none = eqb-true (low - i) 0 e in omega arith))
          test false e = sym (lt-leb low i (let some : low - i ≢ 0 = eqb-false (low - i) 0 e in omega arith))

      picked : (b : Bool) → counted_back j (if b then Some (j - i) else latest)
          ≡ (if b then Some i else latest_before trail place low i)
      picked true = ap Some (omega arith)
      picked false = is

      one_more : counted_back j (if nat_eq (low - i) 0 && int_eq (pos p.place) place then Some (j - i) else latest)
          ≡ latest_before trail place low (i + 1)
      one_more =
          let next : suc i ≡ i + 1 = omega arith in
          picked (nat_eq (low - i) 0 && int_eq (pos p.place) place)
          ∙ ap (λ b. if b && int_eq (pos p.place) place then Some i else latest_before trail place low i) low_test
          ∙ ap (λ b. if nat_le low i && b then Some i else latest_before trail place low i)
          (sym (is_there trail i (Some place) p ps h))
          ∙ ap (latest_before trail place low) next

      passes : BelowLatest ps i → j - i ≢ 0 → HasLatest (watched
          (watch.Latest place (low - i - 1) (j - i - 1) (if nat_eq (low - i) 0 && int_eq (pos p.place) place then Some
          (j - i) else latest)) ps)
      passes below some =
          let one : low - i - 1 ≡ low - (i + 1) = omega arith in
          let two : j - i - 1 ≡ j - (i + 1) = omega arith in
          rw (one, two) (below (if nat_eq (low - i) 0 && int_eq (pos p.place) place then Some (j - i) else latest)
          (next_left trail i p ps h) (omega arith) one_more)

      by : (b : Bool) → nat_eq (j - i) 0 ≡ b → BelowLatest ps i
          → HasLatest (if b then Met (watch.Latest place (low - i) (j - i) latest) p else watched
          (watch.Latest place (low - i - 1) (j - i - 1) (if nat_eq (low - i) 0 && int_eq (pos p.place) place then
          Some (j - i) else latest)) ps)
      by true e below =
          let none = eqb-true (j - i) 0 e in
          let same : i ≡ j = omega arith in
          is ∙ ap (latest_before trail place low) same
      by false e below = passes below (eqb-false (j - i) 0 e)

  all_latest : HasLatest (watched (watch.Latest place low j None) trail.points)
  all_latest =
      let one : low - 0 ≡ low = omega arith in
      let two : j - 0 ≡ j = omega arith in
      subst (λ k. HasLatest (watched (watch.Latest place k j None) trail.points)) one
      (subst (λ k. HasLatest (watched (watch.Latest place (low - 0) k None) trail.points)) two
      (keeps_latest trail.points 0 None (all_left trail) (omega arith) refl))

  pub latest_is : (e : Ended) (heap : Kept) → IsEnded e heap (watch.Latest place low j None) trail
      → counted_back j (latest_of (watching_of e)) ≡ latest_before trail place low j
  latest_is (ended.At arrival last) heap is = subst HasLatest is all_latest
  latest_is (ended.Over last) heap is = subst HasLatest is.seen all_latest
  latest_is (ended.Fault code last) heap is = subst HasLatest is.seen all_latest

back_to_is : (o : Option ℕ) (n j : ℕ) → back_to o n j ≡ by_latest (counted_back j o) n j
back_to_is None n j = refl
back_to_is (Some left) n j = refl

pub backward_is : (e : Ended) (heap : Kept) (trail : Trail) (place : ℤ) (n j low : ℕ) → low ≡ j - n
    → IsEnded e heap (watch.Latest place low j None) trail → backward trail (Some place) n j
    ≡ back_to (latest_of (watching_of e)) n j
backward_is e heap trail place n j low same is =
    back_up trail place n j ∙ ap (λ l. by_latest (latest_before trail place l j) n j) (sym same)
    ∙ ap (λ o. by_latest o n j) (sym (latest_is trail place low j e heap is))
    ∙ sym (back_to_is (latest_of (watching_of e)) n j)
