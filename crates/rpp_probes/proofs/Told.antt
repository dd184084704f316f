-- A list of probes, one of which observes a step or is dropped.
use Rattle.std.proofs.Common.{◌≡◌, ◌∙◌, sym, ap, refl, ℕ, zero, suc, ◌+◌, ◌<◌, ◌≤◌, Bool, true, false, not, List, []}
use Rattle.std.proofs.Common.{◌∷◌, ◌++◌, length, map, take, drop, arith, append_assoc, length-append}
use Rattle.std.specs.Prelude.{if◌then◌else◌}
use Rattle.std.specs.List.{filter, remove, slice_set, slice_index_or}
use Rattle.std.proofs.lemmas.List.{map-append, append-nil, length-map}
use Rattle.std.proofs.lemmas.List.Elements.{filter-append}
use Rattle.rpp_probes.specs.declared.probe.StepAt.{StepAt}
use Rattle.rpp_probes.specs.Tally.{Watch, step_observed, has_ended, watch_line, going, lines_at, IsCutShort, TellsAt}
use Rattle.rpp_probes.specs.Tally.{DropsAt}

-- ---- parts of a list

pub record SameParts {A : Type 0} (front front' behind behind' : List A) : Type 0 where
  pub fronts : front ≡ front'
  pub behinds : behind ≡ behind'

pub tail_same : {A : Type 0} (x y : A) (xs ys : List A) → x ∷ xs ≡ y ∷ ys → xs ≡ ys
tail_same x y xs ys e = cc

head_same : {A : Type 0} (x y : A) (xs ys : List A) → x ∷ xs ≡ y ∷ ys → x ≡ y
head_same x y xs ys e = cc

pub same_parts : {A : Type 0} (front front' behind behind' : List A) → length front ≡ length front'
    → front ++ behind ≡ front' ++ behind' → SameParts front front' behind behind'
same_parts [] [] behind behind' count e = record { fronts = refl; behinds = e }
same_parts [] (y ∷ ys) behind behind' count e = absurd (omega (count, arith))
same_parts (x ∷ xs) [] behind behind' count e = absurd (omega (count, arith))
same_parts (x ∷ xs) (y ∷ ys) behind behind' count e =
    let rest = same_parts xs ys behind behind' (omega (count, arith)) (tail_same x y (xs ++ behind) (ys ++ behind') e)
    in
    let same = head_same x y (xs ++ behind) (ys ++ behind') e in
    record { fronts = ap (λ a. a ∷ xs) same ∙ ap (λ l. y ∷ l) rest.fronts; behinds = rest.behinds }

-- the element at an index, between those before it and those after it
pub parted : {A : Type 0} (xs : List A) (i : ℕ) (d : A) → i < length xs
    → xs ≡ take i xs ++ slice_index_or xs i d ∷ drop (suc i) xs
parted [] i d h = absurd (omega (h, arith))
parted (x ∷ xs) zero d h = refl
parted (x ∷ xs) (suc i) d h = ap (λ l. x ∷ l) (parted xs i d (omega (h, arith)))

pub set_parted : {A : Type 0} (xs : List A) (i : ℕ) (y : A) → i < length xs
    → slice_set xs i y ≡ take i xs ++ y ∷ drop (suc i) xs
set_parted [] i y h = absurd (omega (h, arith))
set_parted (x ∷ xs) zero y h = refl
set_parted (x ∷ xs) (suc i) y h = ap (λ l. x ∷ l) (set_parted xs i y (omega (h, arith)))

pub count_front : {A B : Type 0} (f : A → B) (xs : List A) (i : ℕ) → i < length xs → length (map f (take i xs)) ≡ i
count_front f [] i h = absurd (omega (h, arith))
count_front f (x ∷ xs) zero h = refl
count_front f (x ∷ xs) (suc i) h = ap (λ n. suc n) (count_front f xs i (omega (h, arith)))

-- ---- one of a list

pub tells_at : {A : Type 0} (f : A → Watch) (step : StepAt) (xs now : List A) (i : ℕ) (x y : A) (goes : Bool)
    → i < length xs → x ≡ slice_index_or xs i x
    → now ≡ slice_set xs i y → f y ≡ step_observed step (f x) → goes ≡ not (has_ended (f y))
    → TellsAt step i (map f xs) (map f now) goes
tells_at f step xs now i x y goes h at is one goes_on = record {
  front = map f (take i xs);
  one = f x;
  behind = map f (drop (suc i) xs);
  parts = ap (map f) (parted xs i x h) ∙ map-append f (take i xs) (slice_index_or xs i x ∷ drop (suc i) xs)
      ∙ ap (λ a. map f (take i xs) ++ f a ∷ map f (drop (suc i) xs)) (sym at);
  count = count_front f xs i h;
  left = ap (map f) (is ∙ set_parted xs i y h) ∙ map-append f (take i xs) (y ∷ drop (suc i) xs)
      ∙ ap (λ w. map f (take i xs) ++ w ∷ map f (drop (suc i) xs)) one;
  goes_on = goes_on ∙ ap (λ w. not (has_ended w)) one;
}

pub drops_at : {A : Type 0} (f : A → Watch) (xs now : List A) (i : ℕ) (x : A) (before after : List (List ℕ))
    → i < length xs → x ≡ slice_index_or xs i x
    → now ≡ remove xs i → after ≡ before ++ watch_line (f x) ∷ [] → DropsAt i (map f xs) (map f now) before after
drops_at f xs now i x before after h at is line = record {
  front = map f (take i xs);
  one = f x;
  behind = map f (drop (suc i) xs);
  parts = ap (map f) (parted xs i x h) ∙ map-append f (take i xs) (slice_index_or xs i x ∷ drop (suc i) xs)
      ∙ ap (λ a. map f (take i xs) ++ f a ∷ map f (drop (suc i) xs)) (sym at);
  count = count_front f xs i h;
  left = ap (map f) is ∙ map-append f (take i xs) (drop (suc i) xs);
  line = line;
}

-- ---- a list that has observed up to an index

pub record IsToldTo (step : StepAt) (at : ℕ) (ws now : List Watch) (before after : List (List ℕ)) : Type 0 where
  pub front : List Watch
  pub behind : List Watch
  pub parts : ws ≡ front ++ behind
  pub stands : now ≡ going step front ++ behind
  pub count : length (going step front) ≡ at
  pub lines : after ≡ before ++ lines_at step front

going_more : (step : StepAt) (front : List Watch) (one : Watch)
    → going step (front ++ one ∷ []) ≡ going step front ++
    (if not (has_ended (step_observed step one)) then step_observed step one ∷ [] else [])
going_more step front one = ap (filter (λ w. not (has_ended w))) (map-append (step_observed step) front (one ∷ []))
    ∙ filter-append (λ w. not (has_ended w)) (map (step_observed step) front) (step_observed step one ∷ [])

lines_more : (step : StepAt) (front : List Watch) (one : Watch)
    → lines_at step (front ++ one ∷ []) ≡ lines_at step front
    ++ map watch_line (if has_ended (step_observed step one) then step_observed step one ∷ [] else [])
lines_more step front one =
    ap (λ ws. map watch_line (filter has_ended ws)) (map-append (step_observed step) front (one ∷ []))
    ∙ ap (map watch_line) (filter-append has_ended (map (step_observed step) front) (step_observed step one ∷ []))
    ∙ map-append watch_line (filter has_ended (map (step_observed step) front))
    (if has_ended (step_observed step one) then step_observed step one ∷ [] else [])

-- the next one goes on
pub one_goes : (step : StepAt) (at : ℕ) (ws now next : List Watch) (before after : List (List ℕ)) (goes : Bool)
    → IsToldTo step at ws now before after
    → TellsAt step at now next goes → goes ≡ true → IsToldTo step (at + 1) ws next before after
one_goes step at ws now next before after goes h t on =
    let same = same_parts (going step h.front) t.front h.behind (t.one ∷ t.behind) (h.count ∙ sym t.count)
    (sym h.stands ∙ t.parts) in
    let not_ended : not (has_ended (step_observed step t.one)) ≡ true = sym t.goes_on ∙ on in
    let ended : has_ended (step_observed step t.one) ≡ false =
    not_true (has_ended (step_observed step t.one)) not_ended in
    let more : going step (h.front ++ t.one ∷ []) ≡ going step h.front ++ step_observed step t.one ∷ [] =
    going_more step h.front t.one ∙ ap (λ (b : Bool). going step h.front
    ++ (if b then step_observed step t.one ∷ [] else []))
    not_ended in
    record {
      front = h.front ++ t.one ∷ [];
      behind = t.behind;
      parts = h.parts ∙ ap (λ l. h.front ++ l) same.behinds ∙ sym (append_assoc h.front (t.one ∷ []) t.behind);
      stands = t.left ∙ ap (λ l. l ++ step_observed step t.one ∷ t.behind) (sym same.fronts)
          ∙ sym (append_assoc (going step h.front) (step_observed step t.one ∷ []) t.behind)
          ∙ ap (λ l. l ++ t.behind) (sym more);
      count = ap (λ (l : List Watch). length l) more ∙ length-append (going step h.front)
          (step_observed step t.one ∷ [])
          ∙ ap (λ n. n + 1) h.count;
      lines = h.lines ∙ ap (λ l. before ++ l)
          (sym (lines_more step h.front t.one ∙ ap (λ (b : Bool). lines_at step h.front
          ++ map watch_line (if b then step_observed step t.one ∷ [] else [])) ended
          ∙ append-nil (lines_at step h.front)));
    }
  where
    not_true : (b : Bool) → not b ≡ true → b ≡ false
    not_true true e = absurd (cc)
    not_true false e = refl

-- the next one ends, and is dropped
pub one_ends : (step : StepAt) (at : ℕ) (ws now next last : List Watch) (before after later : List (List ℕ))
    (goes : Bool) → IsToldTo step at ws now before after
    → TellsAt step at now next goes → goes ≡ false → DropsAt at next last after later
    → IsToldTo step at ws last before later
one_ends step at ws now next last before after later goes h t off d =
    let same = same_parts (going step h.front) t.front h.behind (t.one ∷ t.behind) (h.count ∙ sym t.count)
    (sym h.stands ∙ t.parts) in
    let dropped = same_parts t.front d.front (step_observed step t.one ∷ t.behind) (d.one ∷ d.behind)
    (t.count ∙ sym d.count)
    (sym t.left ∙ d.parts) in
    let one : step_observed step t.one ≡ d.one = head_same (step_observed step t.one) d.one t.behind d.behind
    dropped.behinds in
    let behind : t.behind ≡ d.behind = tail_same (step_observed step t.one) d.one t.behind d.behind dropped.behinds in
    let not_ended : not (has_ended (step_observed step t.one)) ≡ false = sym t.goes_on ∙ off in
    let ended : has_ended (step_observed step t.one) ≡ true =
    not_false (has_ended (step_observed step t.one)) not_ended in
    let more : going step (h.front ++ t.one ∷ []) ≡ going step h.front =
    going_more step h.front t.one ∙ ap (λ (b : Bool). going step h.front
    ++ (if b then step_observed step t.one ∷ [] else []))
    not_ended ∙ append-nil (going step h.front) in
    record {
      front = h.front ++ t.one ∷ [];
      behind = t.behind;
      parts = h.parts ∙ ap (λ l. h.front ++ l) same.behinds ∙ sym (append_assoc h.front (t.one ∷ []) t.behind);
      stands = d.left ∙ ap (λ l. l ++ d.behind) (sym (more ∙ same.fronts ∙ dropped.fronts))
          ∙ ap (λ l. going step (h.front ++ t.one ∷ []) ++ l) (sym behind);
      count = ap (λ (l : List Watch). length l) more ∙ h.count;
      lines = d.line ∙ ap (λ l. l ++ watch_line d.one ∷ []) h.lines
          ∙ append_assoc before (lines_at step h.front) (watch_line d.one ∷ [])
          ∙ ap (λ w. before ++ (lines_at step h.front ++ watch_line w ∷ [])) (sym one)
          ∙ ap (λ l. before ++ l) (sym (lines_more step h.front t.one
          ∙ ap (λ (b : Bool). lines_at step h.front ++ map watch_line (if b then step_observed step t.one ∷ [] else []))
          ended));
    }
  where
    not_false : (b : Bool) → not b ≡ false → b ≡ true
    not_false true e = refl
    not_false false e = absurd (cc)

-- the next one ends, and no memory is found for its line
pub cut_short : (step : StepAt) (at : ℕ) (ws now next last : List Watch) (before after later : List (List ℕ))
    (goes : Bool) → IsToldTo step at ws now before after
    → TellsAt step at now next goes → goes ≡ false → last ≡ next → later ≡ after → IsCutShort step ws last before later
cut_short step at ws now next last before after later goes h t off kept kept_lines =
    let same = same_parts (going step h.front) t.front h.behind (t.one ∷ t.behind) (h.count ∙ sym t.count)
    (sym h.stands ∙ t.parts) in
    record {
      front = h.front;
      ended = t.one;
      behind = t.behind;
      parts = h.parts ∙ ap (λ l. h.front ++ l) same.behinds;
      ends = not_false (has_ended (step_observed step t.one)) (sym t.goes_on ∙ off);
      left = kept ∙ t.left ∙ ap (λ l. l ++ step_observed step t.one ∷ t.behind) (sym same.fronts);
      lines = kept_lines ∙ h.lines;
    }
  where
    not_false : (b : Bool) → not b ≡ false → b ≡ true
    not_false true e = refl
    not_false false e = absurd (cc)

pub none_left : {A : Type 0} (xs : List A) → length xs ≡ 0 → xs ≡ []
none_left [] e = refl
none_left (x ∷ xs) e = absurd (omega (e, arith))

-- all have observed it
pub record ToldWhole (step : StepAt) (ws now : List Watch) (before after : List (List ℕ)) : Type 0 where
  pub told : now ≡ going step ws
  pub lines : after ≡ before ++ lines_at step ws

pub told_whole : {A : Type 0} (f : A → Watch) (xs : List A) (step : StepAt) (at : ℕ) (ws : List Watch)
    (before after : List (List ℕ)) → IsToldTo step at ws (map f xs) before after → length xs ≤ at
    → ToldWhole step ws (map f xs) before after
told_whole f xs step at ws before after h few =
    let none : h.behind ≡ [] = none_left h.behind (omega (
      few,
      h.count,
      arith,
      length-map xs f,
      ap (λ (l : List Watch). length l) h.stands,
      length-append (going step h.front) h.behind,
    )) in
    let whole : ws ≡ h.front = h.parts ∙ ap (λ l. h.front ++ l) none ∙ append-nil h.front in
    record {
      told = h.stands ∙ ap (λ l. going step h.front ++ l) none ∙ append-nil (going step h.front)
          ∙ ap (going step) (sym whole);
      lines = h.lines ∙ ap (λ l. before ++ lines_at step l) (sym whole);
    }
