-- Steps that surely end no probe.
use Rattle.std.proofs.Common.{◌≡◌, ◌∙◌, sym, ap, subst, refl, ℕ, suc, inl, inr, append_assoc, length-append, take, drop}
use Rattle.std.proofs.Common.{◌+◌, ◌-◌, ◌<◌, ◌≤◌, ◌^◌, Bool, true, false, List, [], ◌∷◌, ◌++◌, length, map, arith}
use Rattle.std.specs.Prelude.{◌||◌, ◌==◌, min}
use Rattle.std.specs.List.{slice_set, slice_index_or}
use Rattle.std.proofs.lemmas.List.{map-append, append-nil, length-map}
use Rattle.std.proofs.Math.Nat.{min-eq_left, min-eq_right}
use Rattle.std.proofs.lemmas.Bool.{cases_lt}
use Rattle.std.proofs.lemmas.Bool.Decides.{nat_tests}
use Rattle.rpp_probes.specs.declared.probe.StepAt.{StepAt}
use Rattle.std.proofs.lemmas.List.Elements.{All-head, All-tail, All-cons, All-nil, All-weaker}
use Rattle.rpp_probes.specs.Tally.{Watch, step_observed, told_all, has_ended, is_ended_in, going, lines_at, left_after}
use Rattle.rpp_probes.specs.Tally.{lines_after}
use Rattle.rpp_probes.specs.Tally.{IsSureFor, AreSureFor, EndNone}
use Rattle.rpp_probes.proofs.Told.{same_parts, tail_same, parted, set_parted, count_front, none_left}
use Rattle.rpp_probes.specs.Rules.{coverage, risen, marked, marked_all}

-- a probe that never ends
pub never_ends : (steps : List StepAt) (w : Watch) → ((tally : List ℕ) → w.is_end tally ≡ false)
    → is_ended_in steps w ≡ false
never_ends [] w h = refl
never_ends (step ∷ steps) w h = rw (h (w.rule w.tally step)) (never_ends steps (step_observed step w) h)

-- a count that is below the limit, and one that is past it
pub not_yet : (steps : List StepAt) (limit count : ℕ) (marks : List ℕ) → count + length steps < limit → limit < 2 ^ 64
    → is_ended_in steps (coverage limit count marks) ≡ false
not_yet [] limit count marks h k = refl
not_yet (step ∷ steps) limit count marks h k =
    let few : count + 1 ≤ 2 ^ 64 - 1 = omega (h, k, arith) in
    let up : risen count ≡ count + 1 = min-eq_left few in
    let apart : (risen count == limit) ≡ false = grind (arith, nat_tests, up, h) in
    let rest : risen count + length steps < limit = omega (arith, up, h) in
    rw apart (not_yet steps limit (risen count) _ rest k)

pub no_more : (steps : List StepAt) (limit count : ℕ) (marks : List ℕ) → limit ≤ count → limit + 1 < 2 ^ 64
    → count < 2 ^ 64 → is_ended_in steps (coverage limit count marks) ≡ false
no_more [] limit count marks h k l = refl
no_more (step ∷ steps) limit count marks h k l =
    let up : risen count ≡ min (count + 1) (2 ^ 64 - 1) = refl in
    let past : limit < risen count = grind (arith, h, k, l, up) in
    let high : risen count < 2 ^ 64 = grind (arith, up) in
    let apart : (risen count == limit) ≡ false = grind (arith, nat_tests, past) in
    rw apart (no_more steps limit (risen count) _ (omega (past, arith)) k high)

not_either : (a b : Bool) → a || b ≡ false → a ≡ false
not_either true b h = h
not_either false b h = refl

nor_other : (a b : Bool) → a || b ≡ false → b ≡ false
nor_other true b h = absurd_of h
  where
    absurd_of : true ≡ false → b ≡ false
    absurd_of e = cc
nor_other false b h = h

-- so many steps, of which the probes are sure
pub none_of_sure : (n : ℕ) (steps : List StepAt) (ws : List Watch) → AreSureFor n ws → length steps ≤ n
    → EndNone steps ws
none_of_sure n steps ws are few = All-weaker (IsSureFor n) (λ w. is_ended_in steps w ≡ false) (λ w sure. sure steps few)
    ws
    are

-- what a step leaves of probes if it ends none of them, and neither do those after it
pub none_next : (step : StepAt) (steps : List StepAt) (ws : List Watch) → EndNone (step ∷ steps) ws
    → EndNone steps (map (step_observed step) ws)
none_next step steps [] none = All-nil (λ w. is_ended_in steps w ≡ false)
none_next step steps (w ∷ ws) none =
    All-cons (λ w. is_ended_in steps w ≡ false) (step_observed step w) (map (step_observed step) ws)
    (nor_other (has_ended (step_observed step w)) (is_ended_in steps (step_observed step w))
    (All-head (λ w. is_ended_in (step ∷ steps) w ≡ false) w ws none))
    (none_next step steps ws (All-tail (λ w. is_ended_in (step ∷ steps) w ≡ false) w ws none))

-- probes that no step ends all stay, and none gives a line
pub all_stay : (steps : List StepAt) (ws : List Watch) → EndNone steps ws
    → left_after steps ws ≡ map (told_all steps) ws
all_stay steps [] none = refl
all_stay steps (w ∷ ws) none =
    rw (All-head (λ w. is_ended_in steps w ≡ false) w ws none)
    (ap (λ l. told_all steps w ∷ l) (all_stay steps ws (All-tail (λ w. is_ended_in steps w ≡ false) w ws none)))

stays : (step : StepAt) (steps : List StepAt) (w : Watch) (ws : List Watch) → EndNone (step ∷ steps) (w ∷ ws)
    → has_ended (step_observed step w) ≡ false
stays step steps w ws none = not_either (has_ended (step_observed step w)) (is_ended_in steps (step_observed step w))
    (All-head (λ w. is_ended_in (step ∷ steps) w ≡ false) w ws none)

going_all : (step : StepAt) (steps : List StepAt) (ws : List Watch) → EndNone (step ∷ steps) ws
    → going step ws ≡ map (step_observed step) ws
going_all step steps [] none = refl
going_all step steps (w ∷ ws) none =
    rw (stays step steps w ws none) (ap (λ l. step_observed step w ∷ l)
    (going_all step steps ws (All-tail (λ w. is_ended_in (step ∷ steps) w ≡ false) w ws none)))

no_line : (step : StepAt) (steps : List StepAt) (ws : List Watch) → EndNone (step ∷ steps) ws → lines_at step ws ≡ []
no_line step steps [] none = refl
no_line step steps (w ∷ ws) none =
    rw (stays step steps w ws none) (no_line step steps ws
    (All-tail (λ w. is_ended_in (step ∷ steps) w ≡ false) w ws none))

pub no_lines : (steps : List StepAt) (ws : List Watch) → EndNone steps ws → lines_after steps ws ≡ []
no_lines [] ws none = refl
no_lines (step ∷ steps) ws none =
    ap (λ l. l ++ lines_after steps (going step ws)) (no_line step steps ws none)
    ∙ ap (lines_after steps) (going_all step steps ws none)
    ∙ no_lines steps (map (step_observed step) ws) (none_next step steps ws none)

-- ---- each probe of a list observes it

-- the probes before observed it
pub record AreTold (steps : List StepAt) (at : ℕ) (ws now : List Watch) : Type 0 where
  pub front : List Watch
  pub behind : List Watch
  pub parts : ws ≡ front ++ behind
  pub stands : now ≡ map (told_all steps) front ++ behind
  pub count : length front ≡ at

-- the index of the next
pub record HasNext (steps : List StepAt) (at : ℕ) (ws now : List Watch) (one : Watch) : Type 0 where
  pub front : List Watch
  pub behind : List Watch
  pub parts : ws ≡ front ++ one ∷ behind
  pub stands : now ≡ map (told_all steps) front ++ one ∷ behind
  pub count : length front ≡ at

pub next_one : {A : Type 0} (f : A → Watch) (steps : List StepAt) (xs : List A) (at : ℕ) (d : A) (ws : List Watch)
    → AreTold steps at ws (map f xs) → at < length xs
    → HasNext steps at ws (map f xs) (f (slice_index_or xs at d))
next_one f steps xs at d ws h less =
    let split = ap (map f) (parted xs at d less) ∙ map-append f (take at xs) (slice_index_or xs at d ∷ drop (suc at) xs)
    in
    let counts : length (map f (take at xs)) ≡ length (map (told_all steps) h.front) = count_front f xs at less
    ∙ sym (length-map h.front (told_all steps) ∙ h.count) in
    let same = same_parts (map f (take at xs)) (map (told_all steps) h.front)
    (f (slice_index_or xs at d) ∷ map f (drop (suc at) xs)) h.behind counts (sym split ∙ h.stands) in
    record {
      front = h.front;
      behind = map f (drop (suc at) xs);
      parts = h.parts ∙ ap (λ l. h.front ++ l) (sym same.behinds);
      stands = split ∙ ap (λ l. l ++ f (slice_index_or xs at d) ∷ map f (drop (suc at) xs)) same.fronts;
      count = h.count;
    }

pub ends_not_next : (steps : List StepAt) (front behind ws : List Watch) (one : Watch) → EndNone steps ws
    → ws ≡ front ++ one ∷ behind → is_ended_in steps one ≡ false
ends_not_next steps front behind ws one none parts = first front (subst (EndNone steps) parts none)
  where
    first : (front : List Watch) → EndNone steps (front ++ one ∷ behind) → is_ended_in steps one ≡ false
    first [] are = All-head (λ w. is_ended_in steps w ≡ false) one behind are
    first (w ∷ ws) are = first ws (All-tail (λ w. is_ended_in steps w ≡ false) w (ws ++ one ∷ behind) are)

-- one more has observed it
pub one_told : {A : Type 0} (f : A → Watch) (steps : List StepAt) (xs : List A) (at : ℕ) (d y : A) (ws : List Watch)
    → AreTold steps at ws (map f xs) → at < length xs
    → f y ≡ told_all steps (f (slice_index_or xs at d)) → AreTold steps (at + 1) ws (map f (slice_set xs at y))
one_told f steps xs at d y ws h less is =
    let next = next_one f steps xs at d ws h less in
    let one = f (slice_index_or xs at d) in
    let split = ap (map f) (parted xs at d less) ∙ map-append f (take at xs) (slice_index_or xs at d ∷ drop (suc at) xs)
    in
    let counts : length (map f (take at xs)) ≡ length (map (told_all steps) next.front) = count_front f xs at less
    ∙ sym (length-map next.front (told_all steps) ∙ next.count) in
    let same = same_parts (map f (take at xs)) (map (told_all steps) next.front) (one ∷ map f (drop (suc at) xs))
    (one ∷ next.behind) counts (sym split ∙ next.stands) in
    let behind = tail_same one one (map f (drop (suc at) xs)) next.behind same.behinds in
    record {
      front = next.front ++ one ∷ [];
      behind = next.behind;
      parts = next.parts ∙ sym (append_assoc next.front (one ∷ []) next.behind);
      stands = ap (map f) (set_parted xs at y less) ∙ map-append f (take at xs) (y ∷ drop (suc at) xs)
          ∙ ap (λ l. l ++ f y ∷ map f (drop (suc at) xs)) same.fronts
          ∙ ap (λ l. map (told_all steps) next.front ++ f y ∷ l) behind
          ∙ ap (λ w. map (told_all steps) next.front ++ w ∷ next.behind) is
          ∙ sym (append_assoc (map (told_all steps) next.front) (told_all steps one ∷ []) next.behind)
          ∙ ap (λ l. l ++ next.behind) (sym (map-append (told_all steps) next.front (one ∷ [])));
      count = length-append next.front (one ∷ []) ∙ ap (λ n. n + 1) next.count;
    }

-- all have observed it
pub all_told : {A : Type 0} (f : A → Watch) (steps : List StepAt) (xs : List A) (at : ℕ) (ws : List Watch)
    → AreTold steps at ws (map f xs) → length xs ≤ at → EndNone steps ws
    → map f xs ≡ left_after steps ws
all_told f steps xs at ws h few none =
    let fronts : length (map (told_all steps) h.front) ≡ at = length-map h.front (told_all steps) ∙ h.count in
    let none_behind : h.behind ≡ [] = none_left h.behind (omega (
      few,
      fronts,
      arith,
      length-map xs f,
      ap (λ (l : List Watch). length l) h.stands,
      length-append (map (told_all steps) h.front) h.behind,
    )) in
    let whole : ws ≡ h.front = h.parts ∙ ap (λ l. h.front ++ l) none_behind ∙ append-nil h.front in
    h.stands ∙ ap (λ l. map (told_all steps) h.front ++ l) none_behind ∙ append-nil (map (told_all steps) h.front)
    ∙ ap (map (told_all steps)) (sym whole) ∙ sym (all_stay steps ws none)

-- ---- a table that observes many steps

risen_more : (count rest : ℕ) → count < 2 ^ 64 → min (risen count + rest) (2 ^ 64 - 1)
    ≡ min (count + suc rest) (2 ^ 64 - 1)
risen_more count rest h = elim (cases_lt (count + 1) (2 ^ 64)) [
  | inl low ↦
      let up : risen count ≡ count + 1 = min-eq_left (omega (low, arith)) in
      let same : risen count + rest ≡ count + suc rest = omega (up, arith) in
      ap (λ n. min n (2 ^ 64 - 1)) same
  | inr high ↦
      let top : risen count ≡ 2 ^ 64 - 1 = min-eq_right (omega (high, arith)) in
      let left : min (risen count + rest) (2 ^ 64 - 1) ≡ 2 ^ 64 - 1 = min-eq_right (omega (top, arith)) in
      let right : min (count + suc rest) (2 ^ 64 - 1) ≡ 2 ^ 64 - 1 = min-eq_right (omega (high, arith)) in
      left ∙ sym right
]

pub marks_told : (steps : List StepAt) (limit count : ℕ) (marks : List ℕ) → count < 2 ^ 64
    → is_ended_in steps (coverage limit count marks) ≡ false
    → told_all steps (coverage limit count marks) ≡ coverage limit (min (count + length steps) (2 ^ 64 - 1))
    (marked_all steps marks)
marks_told [] limit count marks h none =
    let z : count + 0 ≡ count = omega arith in
    let few : count + 0 ≤ 2 ^ 64 - 1 = omega (h, arith) in
    ap (λ n. coverage limit n marks) (sym (min-eq_left few ∙ z))
marks_told (step ∷ steps) limit count marks h none =
    let w = step_observed step (coverage limit count marks) in
    let up : risen count < 2 ^ 64 = grind (arith) in
    rw (not_either (has_ended w) (is_ended_in steps w) none)
    (marks_told steps limit (risen count) (marked step.place marks) up
    (nor_other (has_ended w) (is_ended_in steps w) none)
    ∙ ap (λ n. coverage limit n (marked_all steps (marked step.place marks))) (risen_more count (length steps) h))
