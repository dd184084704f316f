-- The run of the flipped code leads back along a run that finished cleanly.
use Rattle.std.proofs.Common.{◌≡◌, ◌∙◌, sym, ap, subst, refl, ℕ, zero, suc, ◌+◌, ◌-◌, ◌<◌, ◌≤◌, Bool, true, false, not}
use Rattle.std.proofs.Common.{◌&&◌, zero-add, arith, List, [], ◌∷◌, length, drop, ℤ, pos, ◌-ℤ◌, Option, Some, None}
use Rattle.std.specs.Prelude.{count_by}
use Rattle.std.specs.List.{All}
use Rattle.std.proofs.lemmas.List.Elements.{All-head, All-tail, All-cons}
use Rattle.std.proofs.lemmas.Int.{ints}
use Rattle.pisa_isa.specs.declared.cell.Cell.{Cell}
use Rattle.pisa_isa.specs.declared.machine.Stop.{Stop}
use Rattle.pisa_isa.specs.declared.machine.Stop.TheVariants.{Finished}
use Rattle.pisa_isa.specs.Table.{inverse_of, inverse_op}
use Rattle.pisa_isa.specs.Machine.{State, IsCode, IsState, turned_state, moved, effect_at, fetch, stop, stop_at, next}
use Rattle.pisa_isa.specs.Image.{is_start, is_finish, start_of}
use Rattle.pisa_isa.specs.Runs.{End, run, started, visited, counted, stop_at_bound, after_step, before_step, later}
use Rattle.pisa_isa.specs.Runs.{made_in}
use Rattle.pisa_isa.specs.Ends.{IsCleanFinish, begins, begins_backward}
use Rattle.pisa_isa.specs.Flipped.{flipped, Restores}
use Rattle.pisa_isa.proofs.Effect.{state}
use Rattle.pisa_isa.proofs.Back.{moved-twice}
use Rattle.pisa_isa.proofs.Keeps.{next-IsState}
use Rattle.pisa_isa.proofs.Reached.{counted_le_spent}
use Rattle.pisa_isa.proofs.Mirror.{mirrored, moved-mirror, fetch-flipped}
use Rattle.pisa_isa.proofs.Meeting.{met, IsInside, IsInside-met, stop-met, next-met}
use Rattle.pisa_isa.proofs.Ends.{Stands, FinishedAt, start_stands, start_of-flipped, row_at_start, goes_at_start}
use Rattle.pisa_isa.proofs.Ends.{stops_at_finish, finished_at, is_start-inverse_op, is_finish-inverse_op}

-- k steps from one state to another: none is a stop, and a run is inside all along
record Leads (code : List Cell) (k : ℕ) (from to : State) : Type 0 where
  runs : (j : ℕ) → run code (k + j) from ≡ later k (run code j to)
  inside : (j : ℕ) → All (IsInside code) (visited code j to) → All (IsInside code) (visited code (k + j) from)

leads_zero : (code : List Cell) (m : State) → Leads code 0 m m
leads_zero code m = record {
  runs = λ j. ap (λ k. run code k m) (zero-add j) ∙ sym (ap (λ s. record (run code j m) { spent = s })
      (zero-add (run code j m).spent));
  inside = λ j h. subst (λ (k : ℕ). All (IsInside code) (visited code k m)) (sym (zero-add j)) h;
}

later_step : (k : ℕ) (o : Option Stop) (m : State) (rest : End) → o ≡ None
    → later k (after_step o m rest) ≡ later (suc k) rest
later_step k None m rest e = let s : k + suc rest.spent ≡ suc k + rest.spent = omega arith in
    ap (λ n. record rest { spent = n }) s
later_step k (Some why) m rest e = absurd (cc)

inside_step : (code : List Cell) (o : Option Stop) (m : State) (rest : List State) → o ≡ None → IsInside code m
    → All (IsInside code) rest → All (IsInside code) (before_step o m rest)
inside_step code None m rest e i h = All-cons (IsInside code) m rest i h
inside_step code (Some why) m rest e i h = absurd (cc)

leads_on : (code : List Cell) (k : ℕ) (from to : State) → Leads code k from to → stop code to ≡ None → IsInside code to
    → Leads code (suc k) from (next code to)
leads_on code k from to l none inside =
    let e : (j : ℕ) → suc k + j ≡ k + suc j = λ j. omega arith in
    record {
      runs = λ j. ap (λ n. run code n from) (e j) ∙ l.runs (suc j)
          ∙ later_step k (stop code to) to (run code j (next code to)) none;
      inside = λ j h. subst (λ (n : ℕ). All (IsInside code) (visited code n from)) (sym (e j))
          (l.inside (suc j) (inside_step code (stop code to) to (visited code j (next code to)) none inside h));
    }

-- back along a run that finished

back_by_step : (code : List Cell) (m : State) (o : Option Stop) (rest : End) (list : List State) → stop code m ≡ o
    → IsCode code → IsState m → counted rest.why ≤ rest.spent
    → (after_step o m rest).why ≡ Finished → All (IsInside code) (before_step o m list)
    → (o ≡ None → rest.why ≡ Finished → All (IsInside code) list
    → Leads (flipped code) (made_in rest) (met (length code) rest.last) (met (length code) (next code m)))
    → Leads (flipped code) (made_in (after_step o m rest)) (met (length code) (after_step o m rest).last)
    (met (length code) m)
back_by_step code m None rest list e k s h fin inside go =
    let l = go refl fin (All-tail (IsInside code) m list inside) in
    let on = leads_on (flipped code) (made_in rest) (met (length code) rest.last) (met (length code) (next code m)) l
    (stop-met code m k e (All-head (IsInside code) m list inside)) (IsInside-met code m k e) in
    let n : suc rest.spent - counted rest.why ≡ suc (rest.spent - counted rest.why) = omega arith in
    rw n (subst (λ (x : State). Leads (flipped code) (suc (made_in rest)) (met (length code) rest.last) x)
    (next-met code m k s e) on)
back_by_step code m (Some why) rest list e k s h fin inside go =
    let n : counted why - counted why ≡ 0 = omega arith in
    rw n (leads_zero (flipped code) (met (length code) m))

bound_is_not : (o : Option Cell) (pc : ℤ) → stop_at_bound o pc ≡ Finished → ⊥
bound_is_not None pc e = cc
bound_is_not (Some c) pc e = cc

back_along : (code : List Cell) (n : ℕ) (m : State) → IsCode code → IsState m → (run code n m).why ≡ Finished
    → All (IsInside code) (visited code n m)
    → Leads (flipped code) (made_in (run code n m)) (met (length code) (run code n m).last) (met (length code) m)
back_along code zero m k s fin inside = absurd (bound_is_not (fetch code m.pc) m.pc fin)
back_along code (suc n) m k s fin inside =
    back_by_step code m (stop code m) (run code n (next code m)) (visited code n (next code m)) refl k s
    (counted_le_spent code n (next code m)) fin inside
    (λ none fin inside. back_along code n (next code m) k (next-IsState code m k s none) fin inside)

-- where a finished run stopped
last_by_step : (code : List Cell) (m : State) (o : Option Stop) (rest : End) → stop code m ≡ o
    → (after_step o m rest).why ≡ Finished
    → (rest.why ≡ Finished → stop code rest.last ≡ Some Finished) → stop code (after_step o m rest).last ≡ Some Finished
last_by_step code m None rest e fin go = go fin
last_by_step code m (Some why) rest e fin go = e ∙ ap (λ x. Some x) fin

last_stops : (code : List Cell) (n : ℕ) (m : State) → (run code n m).why ≡ Finished
    → stop code (run code n m).last ≡ Some Finished
last_stops code zero m fin = absurd (bound_is_not (fetch code m.pc) m.pc fin)
last_stops code (suc n) m fin = last_by_step code m (stop code m) (run code n (next code m)) refl fin
    (last_stops code n (next code m))

-- the first step of a run from START

pub record Begun (code : List Cell) (regs cells : List ℕ) : Type 0 where
  pub goes : stop code (started code regs cells) ≡ None
  pub first : next code (started code regs cells) ≡ moved (started code regs cells)

begun_at : (code : List Cell) (regs cells : List ℕ) (c : Cell) → fetch code (pos (start_of code)) ≡ Some c
    → is_start c ≡ true → Begun code regs cells
begun_at code regs cells c there is = record {
  goes = ap (λ o. stop_at o (started code regs cells)) there ∙ goes_at_start c.op c (started code regs cells) is refl;
  first = ap (λ o. moved (effect_at o (started code regs cells))) there
      ∙ ap moved (row_at_start c.op c.a c.b c.c c.imm (started code regs cells) is);
}

-- the flipped code's START, from where the run of the code finished

same_start : (pc pc' : ℤ) (br : ℕ) (back : Bool) (regs cells : List ℕ) → pc ≡ pc' → br ≡ 0 → back ≡ false
    → state pc 0 false regs cells ≡ state pc' br (not (not back)) regs cells
same_start pc pc' br back regs cells p b d = rw (p, b, d)

turned_around : (code : List Cell) (m : State) (f : ℕ) → count_by is_finish code ≡ 1 → FinishedAt code m f
    → started (flipped code) m.regs m.cells ≡ mirrored (length code) (turned_state m)
turned_around code m f one a =
    let within = a.stands.within in
    let p : pos (start_of (flipped code)) ≡ (pos (length code) -ℤ pos 1) -ℤ m.pc =
    ap (λ k. pos k) (start_of-flipped code f one a.stands) ∙ place_of (length code) f within
    ∙ ap (λ q. (pos (length code) -ℤ pos 1) -ℤ q) (sym a.place) in
    same_start (pos (start_of (flipped code))) ((pos (length code) -ℤ pos 1) -ℤ m.pc) m.br m.back m.regs m.cells p
    a.no_branch a.forward
  where
    place_of : (n f : ℕ) → f < n → pos (n - 1 - f) ≡ (pos n -ℤ pos 1) -ℤ pos f
    place_of n f h = omega (arith, ints)

flipped_begins : (code : List Cell) (m : State) (f : ℕ) → count_by is_finish code ≡ 1 → FinishedAt code m f
    → Begun (flipped code) m.regs m.cells
flipped_begins code m f one a =
    let c = a.stands.cell in
    let there : fetch (flipped code) (started (flipped code) m.regs m.cells).pc ≡ Some (inverse_of c) =
    ap (λ s. fetch (flipped code) s.pc) (turned_around code m f one a)
    ∙ fetch-flipped code m.pc c (ap (fetch code) a.place ∙ a.stands.there) in
    begun_at (flipped code) m.regs m.cells (inverse_of c) there (is_start-inverse_op c.op ∙ a.stands.is)

flipped_first : (code : List Cell) (m : State) (f : ℕ) → count_by is_finish code ≡ 1 → FinishedAt code m f
    → next (flipped code) (started (flipped code) m.regs m.cells) ≡ met (length code) m
flipped_first code m f one a =
    (flipped_begins code m f one a).first ∙ ap moved (turned_around code m f one a)
    ∙ moved-mirror (length code) (turned_state m)

-- the flipped code's FINISH, from where the run of the code began

met_start : (code : List Cell) (regs cells : List ℕ) → Begun code regs cells
    → met (length code) (next code (started code regs cells))
    ≡ mirrored (length code) (turned_state (started code regs cells))
met_start code regs cells b = ap (met (length code)) b.first
    ∙ ap (mirrored (length code)) (moved-twice (started code regs cells))

flipped_finishes : (code : List Cell) (regs cells : List ℕ) → Stands is_start code (start_of code)
    → Begun code regs cells
    → stop (flipped code) (met (length code) (next code (started code regs cells))) ≡ Some Finished
flipped_finishes code regs cells s b =
    let c = s.cell in
    let m = mirrored (length code) (turned_state (started code regs cells)) in
    ap (stop (flipped code)) (met_start code regs cells b)
    ∙ ap (λ o. stop_at o m) (fetch-flipped code (pos (start_of code)) c s.there)
    ∙ stops_at_finish (inverse_op c.op) (inverse_of c) m (is_finish-inverse_op c.op ∙ s.is) refl refl

-- the whole run

ends_here : (code : List Cell) (j : ℕ) (m : State) → stop code m ≡ Some Finished
    → run code (suc j) m ≡ record { why = Finished; spent = 1; last = m }
ends_here code j m e = ap (λ o. after_step o m (run code j (next code m))) e

visits_here : (code : List Cell) (j : ℕ) (m : State) → stop code m ≡ Some Finished → visited code (suc j) m ≡ m ∷ []
visits_here code j m e = ap (λ o. before_step o m (visited code j (next code m))) e

all_none : (code : List Cell) → All (IsInside code) []
all_none code k d h = absurd (omega arith)

not_backward : (t z : Bool) → ((t && false) && z) ≡ false
not_backward true z = refl
not_backward false z = refl

restored : (code : List Cell) (rest : End) (regs cells : List ℕ) (f bound : ℕ) → IsCode code
    → count_by is_finish code ≡ 1
    → Stands is_start code (start_of code) → Begun code regs cells → FinishedAt code rest.last f
    → rest.why ≡ Finished → counted rest.why ≤ rest.spent → suc rest.spent ≤ bound
    → Leads (flipped code) (made_in rest) (met (length code) rest.last)
    (met (length code) (next code (started code regs cells)))
    → Restores code (record rest { spent = suc rest.spent }) bound regs cells
restored code rest regs cells f bound k one stands begun at_end fin le within l =
    let back : List Cell = flipped code in
    let m : State = started code regs cells in
    let from : State = started back rest.last.regs rest.last.cells in
    let to : State = met (length code) (next code m) in
    let begins_back = flipped_begins code rest.last f one at_end in
    let first = flipped_first code rest.last f one at_end in
    let stops = flipped_finishes code regs cells stands begun in
    let single : counted rest.why ≡ 1 = ap counted fin in
    let j : ℕ = bound - suc rest.spent in
    let n : bound ≡ suc (made_in rest + suc j) = omega arith in
    let last_count : suc (made_in rest + 1) ≡ suc rest.spent = omega arith in
    let tail : run back (made_in rest + suc j) (next back from)
    ≡ later (made_in rest) (record { why = Finished; spent = 1; last = to }) =
    ap (run back (made_in rest + suc j)) first ∙ l.runs (suc j)
    ∙ ap (later (made_in rest)) (ends_here back j to stops) in
    let whole : run back bound from ≡ record { why = Finished; spent = suc rest.spent; last = to } =
    ap (λ i. run back i from) n
    ∙ ap (λ o. after_step o from (run back (made_in rest + suc j) (next back from))) begins_back.goes
    ∙ ap (after_step None from) tail
    ∙ ap (λ i. record { why = Finished; spent = i; last = to }) last_count in
    let seen : visited back bound from ≡ from ∷ visited back (made_in rest + suc j) (met (length code) rest.last) =
    ap (λ i. visited back i from) n
    ∙ ap (λ o. before_step o from (visited back (made_in rest + suc j) (next back from))) begins_back.goes
    ∙ ap (λ s. from ∷ visited back (made_in rest + suc j) s) first in
    let inside : All (IsInside back) (visited back (made_in rest + suc j) (met (length code) rest.last)) =
    l.inside (suc j) (subst (λ (xs : List State). All (IsInside back) xs) (sym (visits_here back j to stops))
    (All-cons (IsInside back) to [] (IsInside-met code m k begun.goes) (all_none back))) in
    record {
      clean = record {
        finished = ap (λ e. e.why) whole;
        begins_once = subst (λ (xs : List State). All (λ s. begins back s ≡ false) (drop 1 xs)) (sym seen)
            (λ i d h. (inside i d h).0);
        never_backward = subst (λ (xs : List State). All (λ s. begins_backward back s ≡ false) xs) (sym seen)
            (All-cons (λ s. begins_backward back s ≡ false) from
            (visited back (made_in rest + suc j) (met (length code) rest.last)) (not_backward _ _)
            (λ i d h. (inside i d h).1));
      };
      in_as_many = ap (λ e. e.spent) whole;
      registers = ap (λ e. e.last.regs) whole ∙ ap (λ s. s.regs) (met_start code regs cells begun);
      memory = ap (λ e. e.last.cells) whole ∙ ap (λ s. s.cells) (met_start code regs cells begun);
    }

pub flipped_run_restores : (code : List Cell) (n : ℕ) (regs cells : List ℕ) (bound : ℕ) → IsCode code
    → count_by is_start code ≡ 1 → count_by is_finish code ≡ 1
    → IsState (started code regs cells) → IsCleanFinish code n (started code regs cells)
    → (run code n (started code regs cells)).spent ≤ bound
    → Restores code (run code n (started code regs cells)) bound regs cells
flipped_run_restores code zero regs cells bound k starts finishes s clean within =
    absurd (bound_is_not (fetch code (pos (start_of code))) (pos (start_of code)) clean.finished)
flipped_run_restores code (suc n) regs cells bound k starts finishes s clean within =
    let m : State = started code regs cells in
    let stands = start_stands code starts in
    let begun = begun_at code regs cells stands.cell stands.there stands.is in
    let rest : End = run code n (next code m) in
    let ran : run code (suc n) m ≡ record rest { spent = suc rest.spent } = ap (λ o. after_step o m rest) begun.goes in
    let seen : visited code (suc n) m ≡ m ∷ visited code n (next code m) =
    ap (λ o. before_step o m (visited code n (next code m))) begun.goes in
    let fin : rest.why ≡ Finished = sym (ap (λ e. e.why) ran) ∙ clean.finished in
    let once = subst (λ (xs : List State). All (λ s. begins code s ≡ false) (drop 1 xs)) seen clean.begins_once in
    let never = All-tail (λ s. begins_backward code s ≡ false) m (visited code n (next code m))
    (subst (λ (xs : List State). All (λ s. begins_backward code s ≡ false) xs) seen clean.never_backward) in
    let at_end = finished_at code rest.last (last_stops code n (next code m) fin) in
    let l = back_along code n (next code m) k (next-IsState code m k s begun.goes) fin
    (λ i d h. (once i d h, never i d h)) in
    let spent : suc rest.spent ≤ bound = subst (λ (e : End). e.spent ≤ bound) ran within in
    subst (λ (e : End). Restores code e bound regs cells) (sym ran)
    (restored code rest regs cells at_end.0 bound k finishes stands begun at_end.1 fin
    (counted_le_spent code n (next code m)) spent l)
