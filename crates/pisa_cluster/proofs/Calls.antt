-- What the calls read and write, as the lemmas on clusters say it.
use Rattle.std.proofs.Common.{◌≡◌, ◌≢◌, ◌∙◌, sym, ap, ap₂, subst, refl, ℕ, zero, suc, ◌+◌, ◌-◌, ◌<◌, ◌≤◌, arith, List}
use Rattle.std.proofs.Common.{[], ◌∷◌, ◌++◌, length, get_or, drop, take, remove, slice_get, slice_set, Option, Some}
use Rattle.std.proofs.Common.{None, All, take-append-drop, drop-cons, length-take-le, le_of_lt, not-suc-le-zero}
use Rattle.std.proofs.Common.{le_of_suc-le-suc, drop_of_length-le, length-append, take_at}
use Rattle.std.proofs.lemmas.List.Elements.{All-nil}
use Rattle.std.proofs.lemmas.Option.{same_Some, slice_get_read, slice_get_within}
use Rattle.pisa_isa.specs.declared.machine.Stop.{Stop}
use Rattle.pisa_isa.specs.Machine.{IsNext, stop, next}
use Rattle.pisa_isa.proofs.Keeps.{IsNext-next}
use Rattle.pisa_cluster.specs.declared.processor.Processor.{Processor}
use Rattle.pisa_cluster.specs.declared.processor.Kept.{Kept}
use Rattle.pisa_cluster.specs.Replay.{Joint, processor_at, processor_state, in_state, touches, step_of, cstep, replay}
use Rattle.pisa_cluster.specs.Replay.{makers}
use Rattle.pisa_cluster.specs.Replay.{start_of_joint}
use Rattle.pisa_cluster.specs.Schedules.{Schedule, IsCluster, IsStepMade, IsAtStop, LastOf, next_touch, IsFree}
use Rattle.pisa_cluster.specs.Schedules.{IsTakenBack}
use Rattle.pisa_cluster.specs.Schedules.{IsBlocked, rewound}
use Rattle.pisa_cluster.proofs.Commuting.{slice_get-set_same, set_there}
use Rattle.pisa_cluster.proofs.Undoing.{made, Back, free_step, drop_next, removed, found_at, replayed-start}
use lib.Seq.{set-set, set-get_or}
use lib.ListN.{length-replicate}
use Rattle.std.proofs.lemmas.List.Edits.{length-remove}

pub get_or-same : {X : Type 0} (xs : List X) (i : ℕ) (d e : X) → i < length xs → get_or xs i d ≡ get_or xs i e
get_or-same [] i d e h = absurd (not-suc-le-zero h)
get_or-same (x ∷ xs) zero d e h = refl
get_or-same (x ∷ xs) (suc i) d e h = get_or-same xs i d e (le_of_suc-le-suc h)

-- a processor that is read at its place
pub read_at : (s : Joint) (who : ℕ) (p : Processor) → 1 ≤ who → who ≤ length s.processors
    → p ≡ get_or s.processors (who - 1) p → slice_get s.processors (who - 1) ≡ Some p
read_at s who p low high read = slice_get_read s.processors (length s.processors) (who - 1) p refl
    (omega (arith, low, high)) read

number_next : (who : ℕ) → 1 ≤ who → who ≡ suc (who - 1)
number_next who low = omega (arith, low)

pub at_number : (s : Joint) (who : ℕ) (p : Processor) → 1 ≤ who → slice_get s.processors (who - 1) ≡ Some p
    → processor_at s who ≡ Some p
at_number s who p low there = subst (λ n. processor_at s n ≡ Some p) (sym (number_next who low)) there

-- a step of a processor that is no stop
pub record MadeBy (c d : Schedule) (who : ℕ) : Type 0 where
  pub cluster : IsCluster d
  pub is_made : IsStepMade who c.next_serial c d

pub made_by : (c : Schedule) (who : ℕ) (first p after : Processor) (cells : List ℕ) (touched : Option ℕ)
    (kept : List Kept)
    → 1 ≤ who → who ≤ length c.joint.processors
    → first ≡ get_or c.joint.processors (who - 1) first → p ≡ get_or c.joint.processors (who - 1) p
    → touched ≡ touches first → kept ≡ c.kept ++ record { serial = c.next_serial; who = who; touched = touched } ∷ []
    → None ≡ stop p.image.code (processor_state p c.joint.cells)
    → after ≡ in_state p (next p.image.code (processor_state p c.joint.cells))
    → cells ≡ (next p.image.code (processor_state p c.joint.cells)).cells
    → IsCluster c
    → MadeBy c (record {
      joint = record { processors = slice_set c.joint.processors (who - 1) after; cells = cells };
      kept = kept;
      next_serial = c.next_serial + 1;
    }) who
made_by c who first p after cells touched kept low high read_first read touched_is kept_is goes after_is cells_is h =
    let there = read_at c.joint who p low high read in
    let same : first ≡ p = same_Some first p (sym (read_at c.joint who first low high read_first) ∙ there) in
    let numbered = at_number c.joint who p low there in
    let d : Schedule = record {
      joint = record {
        processors = slice_set c.joint.processors (who - 1) after;
        cells = cells;
      };
      kept = kept;
      next_serial = c.next_serial + 1;
    } in
    let led : cstep c.joint who ≡ d.joint =
    ap (cstep c.joint) (number_next who low) ∙ ap (step_of c.joint (who - 1)) there
    ∙ sym (ap₂ (λ q k. record { processors = slice_set c.joint.processors (who - 1) q; cells = k }) after_is cells_is)
    in
    let keeps : c.kept ++ record { serial = c.next_serial; who = who; touched = touches p } ∷ [] ≡ kept =
    ap (λ t. c.kept ++ record { serial = c.next_serial; who = who; touched = t } ∷ [])
    (sym (touched_is ∙ ap touches same)) ∙ sym kept_is in
    let whole : record {
      joint = cstep c.joint who;
      kept = c.kept
          ++ record { serial = c.next_serial; who = who; touched = touches p } ∷ [];
      next_serial = c.next_serial + 1;
    }
    ≡ d =
    ap₂ (λ j k. record { joint = j; kept = k; next_serial = c.next_serial + 1 }) led keeps in
    record {
      cluster = subst IsCluster whole (made c who p numbered (sym goes) h);
      is_made = record { processor = p; there = numbered; goes = sym goes; numbered = refl; leads = sym whole };
    }

pub put_back : (ps : List Processor) (i : ℕ) (p : Processor) → p ≡ get_or ps i p → slice_set ps i p ≡ ps
put_back ps i p read = ap (slice_set ps i) read ∙ set-get_or ps i p

pub popped : (kept more rest : List Kept) (step : Kept) → more ≡ kept ++ step ∷ [] → rest ≡ take (length more - 1) more
    → rest ≡ kept
popped kept more rest step more_is rest_is =
    let long = length-append kept (step ∷ []) in
    let count : length (kept ++ step ∷ []) - 1 ≡ length kept = omega (arith, long) in
    rest_is ∙ ap (λ k. take (length k - 1) k) more_is ∙ ap (λ k. take k (kept ++ step ∷ [])) count
    ∙ take_at kept (step ∷ []) (length kept) refl

-- a processor at a stop
pub stopped_by : (c d : Schedule) (who : ℕ) (p : Processor) (why : Stop) → 1 ≤ who → who ≤ length c.joint.processors
    → p ≡ get_or c.joint.processors (who - 1) p
    → Some why ≡ stop p.image.code (processor_state p c.joint.cells) → d ≡ c → IsAtStop who why c d
stopped_by c d who p why low high read stops stays = record {
  processor = p;
  there = at_number c.joint who p low (read_at c.joint who p low high read);
  stops = sym stops;
  stays = stays;
}

-- the step that is undone
pub back_at : (c : Schedule) (at : ℕ) (step : Kept) → IsCluster c → IsFree at c.kept → step ≡ get_or c.kept at step
    → Back c (replay (start_of_joint c.joint) (makers (remove c.kept at))) step
back_at c at step h f read =
    let free = free_step c at h f in
    subst (Back c (replay (start_of_joint c.joint) (makers (remove c.kept at)))) (sym (read ∙ free.there step))
    free.back

-- the processor of a step, as it is after the step
abbrev pub behind_step : {c : Schedule} {s : Joint} {step : Kept} → Back c s step → Processor
behind_step {c} {s} {step} b = in_state b.processor (next b.processor.image.code (processor_state b.processor s.cells))

pub who_low : (c : Schedule) (s : Joint) (step : Kept) → Back c s step → 1 ≤ step.who
who_low c s step b = let n = b.numbered in omega (arith, n)

place_is : (c : Schedule) (s : Joint) (step : Kept) (b : Back c s step) → step.who - 1 ≡ b.place
place_is c s step b = let n = b.numbered in omega (arith, n)

in_cluster : (c : Schedule) (s : Joint) (step : Kept) (b : Back c s step)
    → slice_get c.joint.processors (step.who - 1) ≡ Some (behind_step b)
in_cluster c s step b =
    subst (λ i. slice_get c.joint.processors i ≡ Some (behind_step b)) (sym (place_is c s step b))
    (subst (λ (j : Joint). slice_get j.processors b.place ≡ Some (behind_step b)) (sym b.led)
    (slice_get-set_same s.processors b.place b.processor (behind_step b) b.there))

pub who_high : (c : Schedule) (s : Joint) (step : Kept) → Back c s step → step.who - 1 < length c.joint.processors
who_high c s step b = slice_get_within c.joint.processors (step.who - 1) (behind_step b) (in_cluster c s step b)

-- what is read of the processor
read_is : (c : Schedule) (s : Joint) (step : Kept) (b : Back c s step) (q : Processor)
    → q ≡ get_or c.joint.processors (step.who - 1) q → q ≡ behind_step b
read_is c s step b q read =
    same_Some q (behind_step b) (sym (slice_get_read c.joint.processors (length c.joint.processors) (step.who - 1) q
    refl (who_high c s step b) read) ∙ in_cluster c s step b)

cells_are : (c : Schedule) (s : Joint) (step : Kept) (b : Back c s step)
    → c.joint.cells ≡ (next b.processor.image.code (processor_state b.processor s.cells)).cells
cells_are c s step b = ap (λ (j : Joint). j.cells) b.led

pub seen_next : (c : Schedule) (s : Joint) (step : Kept) (b : Back c s step) (q : Processor)
    → q ≡ get_or c.joint.processors (step.who - 1) q
    → processor_state q c.joint.cells ≡ next q.image.code (processor_state b.processor s.cells)
seen_next c s step b q read =
    ap₂ processor_state (read_is c s step b q read) (cells_are c s step b)
    ∙ ap (λ (x : Processor). next x.image.code (processor_state b.processor s.cells)) (sym (read_is c s step b q read))

pub is_next : (c : Schedule) (s : Joint) (step : Kept) (b : Back c s step) (q : Processor)
    → q ≡ get_or c.joint.processors (step.who - 1) q → IsNext q.image.code (processor_state q c.joint.cells)
is_next c s step b q read =
    let same : q.image ≡ b.processor.image = ap (λ (x : Processor). x.image) (read_is c s step b q read) in
    subst (λ image. IsNext image.code (processor_state q c.joint.cells)) (sym same)
    (IsNext-next b.processor.image.code (processor_state b.processor s.cells) (processor_state q c.joint.cells) b.code
    b.state b.goes
    (seen_next c s step b q read ∙ ap (λ image. next image.code (processor_state b.processor s.cells)) same))

pub goes_there : (c : Schedule) (s : Joint) (step : Kept) (b : Back c s step) (q : Processor)
    → q ≡ get_or c.joint.processors (step.who - 1) q → stop q.image.code (processor_state b.processor s.cells) ≡ None
goes_there c s step b q read = ap (λ (x : Processor). stop x.image.code (processor_state b.processor s.cells))
    (read_is c s step b q read) ∙ b.goes

pub back_to : (c : Schedule) (s : Joint) (step : Kept) (b : Back c s step) (q after : Processor) (cells : List ℕ)
    → q ≡ get_or c.joint.processors (step.who - 1) q
    → after ≡ in_state q (processor_state b.processor s.cells) → cells ≡ s.cells
    → record { processors = slice_set c.joint.processors (step.who - 1) after; cells = cells } ≡ s
back_to c s step b q after cells read after_is cells_is =
    let own : after ≡ b.processor = after_is ∙ ap (λ x. in_state x (processor_state b.processor s.cells))
    (read_is c s step b q read) in
    let list : slice_set c.joint.processors (step.who - 1) after ≡ s.processors =
    ap₂ (λ i x. slice_set c.joint.processors i x) (place_is c s step b) own
    ∙ ap (λ (j : Joint). slice_set j.processors b.place b.processor) b.led
    ∙ set-set s.processors b.place (behind_step b) b.processor
    ∙ set_there s.processors b.place b.processor b.there in
    ap₂ (λ ps k. record { processors = ps; cells = k }) list cells_is

suc_is : (at : ℕ) → suc at ≡ at + 1
suc_is at = omega arith

-- the last step of a processor, found from the end
pub last_found : (kept : List Kept) (who at : ℕ) (step : Kept) → at < length kept → step ≡ get_or kept at step
    → step.who ≡ who → All (λ (k : Kept). k.who ≢ who) (drop (at + 1) kept)
    → (last : LastOf who kept) × (length last.earlier ≡ at)
last_found kept who at step lt read own all = (
  record {
    earlier = take at kept;
    step = step;
    later = drop (at + 1) kept;
    whole = sym (take-append-drop at kept) ∙ ap (λ r. take at kept ++ r)
        (drop-cons kept at step lt ∙ ap (λ x. x ∷ drop (suc at) kept) (sym read)
        ∙ ap (λ n. step ∷ drop n kept) (suc_is at));
    own = own;
    last = all;
  },
  length-take-le at kept (le_of_lt lt),
)

-- what the search from the end finds
pub record Found (who at : ℕ) (kept : List Kept) (step : Kept) : Type 0 where
  pub last : LastOf who kept
  pub place : length last.earlier ≡ at
  pub own : last.step ≡ step
  pub rest : last.later ≡ drop (at + 1) kept

pub found : (who at : ℕ) (kept : List Kept) (step : Kept) → ((last : LastOf who kept) × (length last.earlier ≡ at))
    → step ≡ get_or kept at step → Found who at kept step
found who at kept step f read =
    let last = f.0 in
    record {
      last = last;
      place = f.1;
      own = sym (read ∙ ap (λ k. get_or k at step) last.whole ∙ found_at last.earlier last.later last.step step at f.1);
      rest = sym (ap₂ (λ n k. drop n k) (sym (suc_is at)) last.whole
          ∙ drop_next last.earlier last.later last.step at f.1);
    }

touch_is : (who at : ℕ) (kept : List Kept) (step : Kept) (f : Found who at kept step)
    → next_touch f.last.step f.last.later ≡ next_touch step (drop (at + 1) kept)
touch_is who at kept step f = ap₂ next_touch f.own f.rest

pub is_free : (who at : ℕ) (kept : List Kept) (step : Kept) → Found who at kept step
    → next_touch step (drop (at + 1) kept) ≡ None → IsFree at kept
is_free who at kept step f none = record {
  who = who;
  last = f.last;
  place = f.place;
  free = touch_is who at kept step f
      ∙ none;
}

pub is_blocked : (who at : ℕ) (c : Schedule) (step other : Kept) → Found who at c.kept step
    → next_touch step (drop (at + 1) c.kept) ≡ Some other → IsBlocked who other.who other.serial c c
is_blocked who at c step other f some = record {
  last = f.last;
  step = other;
  touches = touch_is who at c.kept step f
      ∙ some;
  maker = refl;
  numbered = refl;
  stays = refl;
}

pub is_taken : (who at : ℕ) (c d : Schedule) (step : Kept) → Found who at c.kept step
    → next_touch step (drop (at + 1) c.kept) ≡ None
    → d ≡ record c { joint = replay (start_of_joint c.joint) (makers (remove c.kept at)); kept = remove c.kept at }
    → IsTakenBack who step.serial c d
is_taken who at c d step f none leads =
    let same : remove c.kept at ≡ f.last.earlier ++ f.last.later = ap (λ k. remove k at) f.last.whole
    ∙ removed f.last.earlier f.last.later f.last.step at f.place in
    record {
      last = f.last;
      free = touch_is who at c.kept step f ∙ none;
      numbered = ap (λ (k : Kept). k.serial) (sym f.own);
      leads = leads ∙ ap (λ k. record c { joint = replay (start_of_joint c.joint) (makers k); kept = k }) same;
    }

-- the last of all kept steps
pub free_last : (kept : List Kept) (at : ℕ) → length kept ≡ at + 1 → IsFree at kept
free_last kept at long =
    let d : Kept = record { serial = 0; who = 0; touched = None } in
    let below : at < length kept = omega (arith, long) in
    let none : drop (at + 1) kept ≡ [] = drop_of_length-le kept (omega (arith, long)) in
    let step = get_or kept at d in
    let last = last_found kept step.who at step below (get_or-same kept at d step below) refl
    (subst (All (λ (k : Kept). k.who ≢ step.who)) (sym none) (All-nil (λ (k : Kept). k.who ≢ step.who))) in
    let f = found step.who at kept step last (get_or-same kept at d step below) in
    is_free step.who at kept step f (ap (next_touch step) none)

-- taking back the last kept step, and all of them
pub record RewindsOn (c d start : Schedule) (left : ℕ) : Type 0 where
  pub long : length d.kept ≡ left
  pub same_start : start_of_joint d.joint ≡ start_of_joint start.joint
  pub same_next : d.next_serial ≡ start.next_serial

pub rewinds_on : (c d start : Schedule) (left : ℕ) → 0 < left → length c.kept ≡ left
    → start_of_joint c.joint ≡ start_of_joint start.joint → c.next_serial ≡ start.next_serial
    → d ≡ record c {
      joint = replay (start_of_joint c.joint) (makers (remove c.kept (left - 1)));
      kept = remove c.kept (left - 1);
    } → RewindsOn c d start (left - 1)
rewinds_on c d start left some long same later leads =
    let shorter = length-remove c.kept (left - 1) (omega (arith, some, long)) in
    record {
      long = ap (λ (x : Schedule). length x.kept) leads ∙ omega (arith, shorter, long, some);
      same_start = ap (λ (x : Schedule). start_of_joint x.joint) leads
          ∙ replayed-start c.joint (makers (remove c.kept (left - 1))) ∙ same;
      same_next = ap (λ (x : Schedule). x.next_serial) leads ∙ later;
    }

nil_of : (kept : List Kept) → length kept ≤ 0 → kept ≡ []
nil_of [] h = refl
nil_of (x ∷ kept) h = absurd (not-suc-le-zero h)

pub all_rewound : (c start : Schedule) (left : ℕ) → left ≤ 0 → IsCluster c → length c.kept ≡ left
    → start_of_joint c.joint ≡ start_of_joint start.joint → c.next_serial ≡ start.next_serial → c ≡ rewound start
all_rewound c start left done h long same later =
    let none = nil_of c.kept (omega (arith, done, long)) in
    let joint : c.joint ≡ start_of_joint start.joint = sym h.leads
    ∙ ap (λ k. replay (start_of_joint c.joint) (makers k)) none ∙ same in
    ap₂ (λ j k. record { joint = j; kept = k; next_serial = c.next_serial }) joint none
    ∙ ap (λ n. record { joint = start_of_joint start.joint; kept = []; next_serial = n }) later

abbrev zero_word : ℕ
zero_word = 0

-- the same start has as many cells
pub same_cells : (s t : Joint) → start_of_joint s ≡ start_of_joint t → length s.cells ≡ length t.cells
same_cells s t same =
    sym (length-replicate (length s.cells) zero_word) ∙ ap (λ (x : Joint). length x.cells) same
    ∙ length-replicate (length t.cells) zero_word

pub replayed_cells : (c d : Schedule) (kept : List Kept) → d.joint ≡ replay (start_of_joint c.joint) (makers kept)
    → length d.joint.cells ≡ length c.joint.cells
replayed_cells c d kept leads = same_cells d.joint c.joint
    (ap start_of_joint leads ∙ replayed-start c.joint (makers kept))
