-- What is left of a run's trace points after so many.
use Rattle.std.proofs.Common.{◌≡◌, ◌≢◌, ℕ, suc, ◌+◌, ◌-◌, ◌≤◌, refl, ap, ◌∙◌, arith, Bool, true, false, List, [], ◌∷◌}
use Rattle.std.proofs.Common.{length, Option, Some, None, if◌then◌else◌}
use Rattle.std.specs.Prelude.{ℤ, slice_get, nat_eq, ◌||◌, ◌&&◌}
use Rattle.std.proofs.lemmas.Bool.{eqb-true, eqb-false}
use Rattle.source_execution.specs.roopl_semantics.Run.{Run, Done, Fault, More}
use Rattle.source_execution.specs.meaning_points.Points.{Point}
use Rattle.source_execution.specs.meaning_points.Trail.{Trail}
use Rattle.source_courses.specs.declared.watching.Watching.TheVariants as watch
use Rattle.source_courses.specs.Watched.{Watched, Passed, Met, is_given, watched}
use Rattle.source_courses.specs.Ended.{left_of}
use Rattle.source_courses.specs.Walks.{AtPoint, Unknown, end_stand, point_stand, stand_at, has_place, is_at}

pub record IsLeft (trail : Trail) (i : ℕ) (ps : List Point) : Type 0 where
  pub each : (k : ℕ) → slice_get trail.points (i + k) ≡ slice_get ps k
  pub size : length trail.points ≡ i + length ps

pub all_left : (trail : Trail) → IsLeft trail 0 trail.points
all_left trail = record { each = λ k. ap (slice_get trail.points) (omega arith); size = omega arith }

pub next_left : (trail : Trail) (i : ℕ) (p : Point) (ps : List Point) → IsLeft trail i (p ∷ ps)
    → IsLeft trail (i + 1) ps
next_left trail i p ps h = record {
  each = λ k. let same : i + 1 + k ≡ i + suc k = omega arith in ap (slice_get trail.points) same ∙ h.each (suc k);
  size = let s = h.size in omega arith;
}

module _ (trail : Trail) (i : ℕ) where
  pub stands_there : (p : Point) (ps : List Point) → IsLeft trail i (p ∷ ps) → stand_at trail i ≡ AtPoint p
  stands_there p ps h =
      let same : i ≡ i + 0 = omega arith in
      ap (λ o. point_stand o (if nat_eq i (length trail.points) then end_stand trail.end else Unknown))
      (ap (slice_get trail.points) same ∙ h.each 0)

  pub is_there : (place : Option ℤ) (p : Point) (ps : List Point) → IsLeft trail i (p ∷ ps)
      → is_at trail place i ≡ is_given place p.place
  is_there None p ps h = refl
  is_there (Some place) p ps h = ap (has_place place) (stands_there p ps h)

no_place : (place : ℤ) (b : Bool) (end : Run _) → has_place place (if b then end_stand end else Unknown) ≡ false
no_place place false end = refl
no_place place true (Done st cost) = refl
no_place place true (Fault code cost) = refl
no_place place true More = refl

-- no position after the trace points has an offset
pub is_nowhere : (trail : Trail) (i d : ℕ) (place : Option ℤ) → IsLeft trail i [] → is_at trail place (i + d) ≡ false
is_nowhere trail i d None h = refl
is_nowhere trail i d (Some place) h =
    ap (λ o. has_place place (point_stand o (if nat_eq (i + d) (length trail.points) then end_stand trail.end else
    Unknown))) (h.each d)
    ∙ no_place place (nat_eq (i + d) (length trail.points)) trail.end

-- ---- a watch for one position

-- what it says of that position
abbrev pub FindsPosition : Trail → ℕ → Watched → Type 0
FindsPosition trail j (Met last p) = stand_at trail j ≡ AtPoint p
FindsPosition trail j (Passed last) = left_of last ≡ j - length trail.points × (length trail.points ≤ j)

pub finds : (trail : Trail) (j : ℕ) (ps : List Point) (i : ℕ) → IsLeft trail i ps → i ≤ j
    → FindsPosition trail j (watched (watch.First None 0 (j - i)) ps)
finds trail j [] i h le =
    let s = h.size in
    (omega arith, omega arith)
finds trail j (p ∷ ps) i h le = by (nat_eq (j - i) 0) refl (λ left some. finds trail j ps (i + 1) left some)
  where
    rest : (IsLeft trail (i + 1) ps → i + 1 ≤ j → FindsPosition trail j (watched (watch.First None 0 (j - (i + 1))) ps))
        → nat_eq (j - i) 0 ≡ false → FindsPosition trail j (watched (watch.First None 0 (j - i - 1)) ps)
    rest below e =
        let some : j - i ≢ 0 = eqb-false (j - i) 0 e in
        let same : j - i - 1 ≡ j - (i + 1) = omega arith in
        rw same (below (next_left trail i p ps h) (omega arith))

    by : (b : Bool) → nat_eq (j - i) 0 ≡ b → (IsLeft trail (i + 1) ps → i + 1 ≤ j
        → FindsPosition trail j (watched (watch.First None 0 (j - (i + 1))) ps))
        → FindsPosition trail j (if b || (true && false) then Met (watch.First None 0 (j - i)) p else watched
        (watch.First None 0 (j - i - 1)) ps)
    by true e below =
        let none = eqb-true (j - i) 0 e in
        let same : j ≡ i = omega arith in
        ap (stand_at trail) same ∙ stands_there trail i p ps h
    by false e below = rest below e
