-- The runs of the wrapped code.
use Rattle.std.proofs.Common.{◌≡◌, ◌∙◌, sym, ap, subst, refl, ℕ, zero, suc, ◌+◌, ◌-◌, ◌*◌, ◌^◌, ◌<◌, ◌≤◌, Bool, true}
use Rattle.std.proofs.Common.{false, cond, arith, List, [], ◌∷◌, ◌++◌, length, replicate, drop, ℤ, pos, ◌+ℤ◌, ◌-ℤ◌}
use Rattle.std.proofs.Common.{Option, Some, None}
use Rattle.std.specs.Prelude.{slice_get}
use Rattle.std.specs.List.{All}
use Rattle.std.proofs.Math.Seq.{drop-append_seam}
use Rattle.std.proofs.lemmas.Int.{ints}
use Rattle.std.proofs.lemmas.List.Elements.{All-head, All-tail, All-cons, All-nil}
use Rattle.std.proofs.lemmas.Option.{slice_get_within}
use Rattle.paired_code.specs.rpp_words.Words.{IsWord}
use Rattle.image_inverter.specs.pisa_isa.declared.cell.Op.{Op}
use Rattle.image_inverter.specs.pisa_isa.declared.cell.Op.TheVariants.{Start, Finish}
use Rattle.image_inverter.specs.pisa_isa.declared.cell.Cell.{Cell}
use Rattle.image_inverter.specs.pisa_isa.declared.machine.Stop.{Stop}
use Rattle.image_inverter.specs.pisa_isa.declared.machine.Stop.TheVariants.{Finished, Trap, Bound}
use Rattle.image_inverter.specs.pisa_isa.Table.{inverse_of}
use Rattle.image_inverter.specs.pisa_isa.Machine.{State, IsState, fetch, stop, stop_at, stop_in, next, turned_state}
use Rattle.image_inverter.specs.pisa_isa.Image.{Segments, IsImage, is_start, is_finish, is_start_op, is_finish_op, start_of}
use Rattle.image_inverter.specs.pisa_isa.Runs.{End, run, steps, visited, zero_registers, counted, made_in, after_step, before_step}
use Rattle.image_inverter.specs.pisa_isa.Runs.{later, stop_at_bound}
use Rattle.image_inverter.specs.pisa_isa.Ends.{MeetsEndsOnce, is_at_start}
use Rattle.image_inverter.specs.pisa_isa.Flipped.{flipped}
use Rattle.image_inverter.specs.pisa_isa.declared.fixed.TheConstants.{END_CELL}
use Rattle.image_inverter.proofs.pisa_isa_laws.Effect.{state}
use Rattle.image_inverter.proofs.pisa_isa_laws.Back.{moved-twice}
use Rattle.image_inverter.proofs.pisa_isa_laws.Mirror.{mirrored, fetch-flipped}
use Rattle.image_inverter.proofs.pisa_isa_laws.Keeps.{next-IsState}
use Rattle.image_inverter.proofs.pisa_isa_laws.Reached.{counted_le_spent}
use Rattle.image_inverter.proofs.pisa_isa_laws.Runs.{run-stop}
use Rattle.image_inverter.proofs.pisa_isa_laws.Longer.{run-steps}
use Rattle.image_inverter.proofs.pisa_isa_laws.Flips.{length-flipped}
use Rattle.image_inverter.proofs.pisa_isa_laws.Meeting.{met}
use Rattle.image_inverter.proofs.pisa_isa_laws.Ends.{Stands, start_stands, finished_at, is_start-inverse_op, is_finish-inverse_op}
use Rattle.image_inverter.proofs.pisa_isa_laws.Ends.{stops_at_finish}
use Rattle.paired_code.specs.code_conventions.Cells.{bra}
use Rattle.paired_code.specs.Layout.{between}
use Rattle.bennett_wrap.specs.Wrapped.{copied_at, entered_at, finish_of, wrapped_code, begun_on, HasWrapSpace, with_zeros}
use Rattle.bennett_wrap.specs.Wrapped.{values_at, WrapFinishesWith, WrapTrapsWith, Computes, steps_wrapped, Wrapped}
use Rattle.bennett_wrap.proofs.Carried.{carried, IsNoAddressAt, stops_carried}
use Rattle.bennett_wrap.proofs.Walks.{Finishing, walk, walk_back}
use Rattle.bennett_wrap.proofs.Rows.{on, AllBelow, then_steps, copy_runs}
use Rattle.bennett_wrap.proofs.Places.{carries_ahead, carries_behind, some_ahead, ahead_get, from_copy, out_there}
use Rattle.bennett_wrap.proofs.Places.{out_end_there, back_in_there, back_end_there}
use Rattle.bennett_wrap.proofs.Counts.{one_start}
use Rattle.bennett_wrap.proofs.Jumps.{jumps}
use Rattle.bennett_wrap.proofs.Finds.{first_is, begun, last_stops, bounded, length-run}

all_below : (n : ℕ) (cs : List ℕ) → All (λ c. c < n) cs → AllBelow n cs
all_below n [] h = tt
all_below n (c ∷ cs) h = (All-head (λ c. c < n) c cs h, all_below n cs (All-tail (λ c. c < n) c cs h))

start_no_finish : (op : Op) → is_start_op op ≡ true → is_finish_op op ≡ false
start_no_finish Start h = refl
start_no_finish _ h = absurd (cc)

is_state : (m : State) (pc : ℤ) (br : ℕ) (back : Bool) (regs : List ℕ) → m.pc ≡ pc → m.br ≡ br → m.back ≡ back
    → m.regs ≡ regs → m ≡ state pc br back regs m.cells
is_state m pc br back regs p b d r = same m.pc m.br m.back m.regs m.cells pc br back regs p b d r
  where
    same : (pc br back regs cells pc' br' back' regs' : _) → pc ≡ pc' → br ≡ br' → back ≡ back' → regs ≡ regs'
        → state pc br back regs cells ≡ state pc' br' back' regs' cells
    same pc br back regs cells pc' br' back' regs' p b d r = cc

nowhere : (p : ℕ) → pos p +ℤ pos 0 ≡ pos p
nowhere p = omega (arith, ints)

place_back : (n f b : ℕ) → f < n → pos (b + (n - 1 - f) + 1) ≡ ((pos n -ℤ pos 1) -ℤ (pos f -ℤ pos 1)) +ℤ pos b
place_back n f b h = omega (arith, ints)

-- the run stops where steps lead
pub stops_after : (code : List Cell) (k enough : ℕ) (s t : State) (w : Stop) → steps code k s ≡ Some t
    → stop code t ≡ Some w → counted w ≡ 1 → k + 1 ≤ enough
    → run code enough s ≡ record { why = w; spent = k + 1; last = t }
stops_after code k enough s t w h is one le =
    let j : ℕ = enough - (k + 1) in
    let n : enough ≡ k + suc j = omega arith in
    let c : k + counted w ≡ k + 1 = ap (λ x. k + x) one in
    ap (λ i. run code i s) n ∙ run-steps code k (suc j) s t h
    ∙ ap (later k) (run-stop code (suc j) t w (omega arith) is) ∙ ap (λ i. the_end w i t) c
  where
    the_end : Stop → ℕ → State → End
    the_end w i t = record { why = w; spent = i; last = t }

-- the cell at which a run traps
record TrapsAt (code : List Cell) (m : State) (w : ℕ) : Type 0 where
  cell : Cell
  there : fetch code m.pc ≡ Some cell
  stops : stop_in cell.op cell m ≡ Some (Trap w)
  no_finish : is_finish cell ≡ false

finish_not : (t : Bool) (w : ℕ) → cond t (Some Finished) None ≡ Some (Trap w) → ⊥
finish_not true w e = cc
finish_not false w e = cc

trap_no_finish : (op : Op) (c : Cell) (m : State) (w : ℕ) → stop_in op c m ≡ Some (Trap w) → is_finish_op op ≡ false
trap_no_finish Finish c m w h = absurd (finish_not _ w h)
trap_no_finish _ c m w h = refl

traps_at : (code : List Cell) (m : State) (w : ℕ) (o : Option Cell) → fetch code m.pc ≡ o → stop_at o m ≡ Some (Trap w)
    → TrapsAt code m w
traps_at code m w None e h = absurd (cc)
traps_at code m w (Some c) e h = record { cell = c; there = e; stops = h; no_finish = trap_no_finish c.op c m w h }

no_address : {o : Option Stop} {w : ℕ} → o ≡ Some (Trap w) → IsNoAddressAt o
no_address e k g = cc

bound_at : (o : Option Cell) (c : Cell) (pc : ℤ) → o ≡ Some c → stop_at_bound o pc ≡ Bound
bound_at o c pc e = ap (λ o. stop_at_bound o pc) e

drop_all : (xs ys : List ℕ) (k : ℕ) → length xs ≡ k → drop k (xs ++ ys) ≡ ys
drop_all xs ys k e = ap (λ j. drop j (xs ++ ys)) (sym e) ∙ drop-append_seam xs ys

module _ (image : Segments) (i : IsImage image) (cs : List ℕ) (small : length image.code + length cs < 2 ^ 26) where
  abbrev code : List Cell
  code = image.code

  abbrev n : ℕ
  n = length code

  abbrev f : ℕ
  f = finish_of code

  abbrev all : List Cell
  all = wrapped_code code cs

  abbrev zeros : List ℕ
  zeros = replicate (length cs) 0

  start_place : start_of all ≡ start_of code
  start_place =
      let s = start_stands code i.one_start in
      let no : is_finish s.cell ≡ false = start_no_finish s.cell.op s.is in
      let there : slice_get all (start_of code) ≡ Some s.cell =
      ahead_get code n f cs refl (length-flipped code) (start_of code) s.cell s.there
      ∙ ap (λ b. Some (cond b (bra (between f n)) s.cell)) no in
      first_is is_start all (start_of code) (one_start image f cs i)
      (record {
        cell = s.cell;
        within = slice_get_within all (start_of code) s.cell there;
        there = there;
        is = s.is;
      })

  begins : (a : List ℕ) → begun_on all (with_zeros a cs) ≡ carried (pos 0) zeros (begun_on code a)
  begins a = ap (λ p. state (pos p) 0 false zero_registers (a ++ zeros)) start_place
      ∙ ap (λ z. state z 0 false zero_registers (a ++ zeros)) (sym (nowhere (start_of code)))

  -- the first half

  ahead_steps : (a : List ℕ) (bound : ℕ) → MeetsEndsOnce code bound (begun_on code a)
      → steps all (made_in (run code bound (begun_on code a))) (begun_on all (with_zeros a cs))
      ≡ Some (carried (pos 0) zeros (run code bound (begun_on code a)).last)
  ahead_steps a bound narrow =
      ap (steps all (made_in (run code bound (begun_on code a)))) (begins a)
      ∙ walk code all (pos 0) zeros (carries_ahead code n f cs refl (length-flipped code)) bound (begun_on code a)
      narrow.finish_is_last

  ahead_begins : (a : List ℕ) (bound : ℕ) → MeetsEndsOnce code bound (begun_on code a) → (k : ℕ)
      → made_in (run code bound (begun_on code a)) ≡ k
      → steps all k (begun_on all (with_zeros a cs)) ≡ Some
      (carried (pos 0) zeros (run code bound (begun_on code a)).last)
  ahead_begins a bound narrow k e = ap (λ j. steps all j (begun_on all (with_zeros a cs))) (sym e)
      ∙ ahead_steps a bound narrow

  pub traps : (a : List ℕ) (bound enough w : ℕ) → HasWrapSpace a cs → MeetsEndsOnce code bound (begun_on code a)
      → (run code bound (begun_on code a)).why ≡ Trap w → (run code bound (begun_on code a)).spent ≤ enough
      → WrapTrapsWith (run all enough (begun_on all (with_zeros a cs))) w (run code bound (begun_on code a)).spent
      (length a) (length cs)
  traps a bound enough w room narrow why le =
      let m = begun_on code a in
      let e : End = run code bound m in
      let one : counted e.why ≡ 1 = ap counted why in
      let few = counted_le_spent code bound m in
      let t = traps_at code e.last w (fetch code e.last.pc) refl (last_stops code bound m (Trap w) refl why) in
      let there : fetch all (e.last.pc +ℤ pos 0) ≡ Some t.cell =
      (carries_ahead code n f cs refl (length-flipped code)).there e.last.pc t.cell t.there t.no_finish in
      let stops : stop all (carried (pos 0) zeros e.last) ≡ Some (Trap w) =
      stops_carried all e.last t.cell (pos 0) zeros there (no_address t.stops) ∙ t.stops in
      let count : made_in e + 1 ≡ e.spent = omega arith in
      let ran = stops_after all (made_in e) enough (begun_on all (with_zeros a cs)) (carried (pos 0) zeros e.last)
      (Trap w) (ahead_steps a bound narrow) stops refl (omega arith) in
      let spent : (run all enough (begun_on all (with_zeros a cs))).spent ≡ made_in e + 1 = ap (λ x. x.spent) ran in
      record {
        why = ap (λ x. x.why) ran;
        spent = spent ∙ count;
        results = ap (λ x. drop (length a) x.last.cells) ran
            ∙ drop_all e.last.cells zeros (length a) (length-run code bound m);
      }

  pub goes_on : (a : List ℕ) (bound : ℕ) → HasWrapSpace a cs → MeetsEndsOnce code bound (begun_on code a)
      → (run code bound (begun_on code a)).why ≡ Bound
      → (run all bound (begun_on all (with_zeros a cs))).why ≡ Bound
  goes_on a bound room narrow why =
      let m = begun_on code a in
      let e : End = run code bound m in
      let b = bounded code bound m why in
      let z : bound ≡ bound + 0 = omega arith in
      let there = some_ahead code n f cs refl (length-flipped code) e.last.pc b.cell b.there in
      ap (λ k. (run all k (begun_on all (with_zeros a cs))).why) z
      ∙ ap (λ x. x.why) (run-steps all bound 0 (begun_on all (with_zeros a cs)) (carried (pos 0) zeros e.last)
      (ahead_begins a bound narrow bound b.count))
      ∙ bound_at _ _ (e.last.pc +ℤ pos 0) there

  -- the way back

  -- from START of the flipped code, where the branch back leads
  turns : (b vals : List ℕ) → f < n → on (entered_at n f cs + 1) 0 0 0 0 (b ++ vals)
      ≡ carried (pos (copied_at n cs + 1)) vals (met n (state (pos f) 0 false zero_registers b))
  turns b vals h = ap (λ z. state z 0 false zero_registers (b ++ vals)) (place_back n f (copied_at n cs + 1) h)

  -- the state at FINISH of the flipped code
  back_end : (a vals : List ℕ) → stop all (carried (pos (copied_at n cs + 1)) vals
      (met n (next code (begun_on code a)))) ≡ Some Finished
  back_end a vals =
      let m = begun_on code a in
      let s = start_stands code i.one_start in
      let c = s.cell in
      let u : State = mirrored n (turned_state m) in
      let first = (begun code zero_registers a s).first in
      let is : met n (next code m) ≡ u = ap (met n) first ∙ ap (mirrored n) (moved-twice m) in
      let no : is_start (inverse_of c) ≡ false = is_start-inverse_op c.op ∙ start_no_finish c.op s.is in
      let there : fetch all (u.pc +ℤ pos (copied_at n cs + 1)) ≡ Some (inverse_of c) =
      (carries_behind code n f cs refl (length-flipped code)).there u.pc (inverse_of c)
      (fetch-flipped code (pos (start_of code)) c s.there) no in
      ap (λ x. stop all (carried (pos (copied_at n cs + 1)) vals x)) is
      ∙ ap (λ o. stop_at o (carried (pos (copied_at n cs + 1)) vals u)) there
      ∙ stops_at_finish (inverse_of c).op (inverse_of c) (carried (pos (copied_at n cs + 1)) vals u)
      (is_finish-inverse_op c.op ∙ s.is) refl refl

  -- from FINISH of the code to START of the flipped code
  across : (b : List ℕ) → Stands is_finish code f → slice_get b END_CELL ≡ Some (length b) → AllBelow (length b) cs
      → length b + length cs < 2 ^ 32
      → steps all (2 + (11 + 8 * length cs + 2)) (on f 0 0 0 0 (b ++ zeros))
      ≡ Some (on (entered_at n f cs + 1) 0 0 0 0 (b ++ values_at b cs))
  across b s counted below room =
      let within : f < n = s.within in
      let back : length (flipped code) ≡ n = length-flipped code in
      let vals : List ℕ = values_at b cs in
      let there_back : slice_get (flipped code) (n - 1 - f) ≡ Some (inverse_of s.cell) =
      ap (fetch (flipped code)) (place_flipped n f within) ∙ fetch-flipped code (pos f) s.cell s.there in
      let one = jumps all f n zero_registers (b ++ zeros) (out_there code n f cs refl back s.cell s.there s.is)
      (out_end_there code n f cs refl back) (λ e. omega arith) (omega arith) (omega arith) in
      let two = copy_runs all (n + 1) cs _ b (from_copy code n f cs refl back) counted below room in
      let three = jumps all (copied_at n cs) (entered_at n f cs) zero_registers (b ++ vals)
      (back_in_there code n f cs refl back) (back_end_there code n f cs refl back (inverse_of s.cell) there_back
      (is_start-inverse_op s.cell.op ∙ s.is)) (λ e. omega arith) (omega arith) (omega arith) in
      then_steps all 2 (11 + 8 * length cs + 2) (on f 0 0 0 0 (b ++ zeros)) (on (n + 1) 0 0 0 0 (b ++ zeros)) _ one
      (then_steps all (11 + 8 * length cs) 2 (on (n + 1) 0 0 0 0 (b ++ zeros)) (on (copied_at n cs) 0 0 0 0 (b ++ vals))
      _ two three)
    where
      place_flipped : (n f : ℕ) → f < n → pos (n - 1 - f) ≡ (pos n -ℤ pos 1) -ℤ pos f
      place_flipped n f h = omega (arith, ints)

  pub finishes : (a : List ℕ) (bound enough : ℕ) → HasWrapSpace a cs → Computes code bound a
      → steps_wrapped (run code bound (begun_on code a)).spent cs ≤ enough
      → WrapFinishesWith (run all enough (begun_on all (with_zeros a cs)))
      (steps_wrapped (run code bound (begun_on code a)).spent cs)
      (a ++ values_at (run code bound (begun_on code a)).last.cells cs)
  finishes a zero enough room h le = absurd (bound_is_not (fetch code (begun_on code a).pc) (begun_on code a).pc
      h.finished)
    where
      bound_is_not : (o : Option Cell) (pc : ℤ) → stop_at_bound o pc ≡ Finished → ⊥
      bound_is_not None pc e = cc
      bound_is_not (Some c) pc e = cc
  finishes a (suc k) enough room h le =
      let m : State = begun_on code a in
      let first : State = next code m in
      let e : End = run code (suc k) m in
      let rest : End = run code k first in
      let b : List ℕ = e.last.cells in
      let vals : List ℕ = values_at b cs in
      let g : ℤ = pos (copied_at n cs + 1) in
      let s = start_stands code i.one_start in
      let begin = begun code zero_registers a s in
      let ran : e ≡ the_end rest = ap (λ o. after_step o m rest) begin.goes in
      let seen : visited code (suc k) m ≡ m ∷ visited code k first =
      ap (λ o. before_step o m (visited code k first)) begin.goes in
      let same : rest.last ≡ e.last = sym (ap (λ x. x.last) ran) in
      let more : e.spent ≡ suc rest.spent = ap (λ x. x.spent) ran in
      let one : counted e.why ≡ 1 = ap counted h.finished in
      let one_too : counted rest.why ≡ 1 = sym (ap (λ x. counted x.why) ran) ∙ one in
      let some = counted_le_spent code k first in
      let no_start : All (λ x. is_at_start code x ≡ false) (visited code k first) =
      subst (λ (xs : List State). All (λ x. is_at_start code x ≡ false) (drop 1 xs)) seen h.narrow.start_is_first in
      let fin : All (Finishing code) (visited code k first) =
      All-tail (Finishing code) m (visited code k first)
      (subst (λ (xs : List State). All (Finishing code) xs) seen h.narrow.finish_is_last) in
      let words : IsState m = record {
        br_word = omega arith;
        count = refl;
        words = zero_words;
        cell_words = room.words;
      } in
      let words_first : IsState first = next-IsState code m i.is_code words begin.goes in
      let at = finished_at code e.last (last_stops code (suc k) m Finished refl h.finished) in
      let place : f ≡ at.0 = first_is is_finish code at.0 i.one_finish at.1.stands in
      let stands : Stands is_finish code f = subst (λ x. Stands is_finish code x) (sym place) at.1.stands in
      let here : e.last ≡ state (pos f) 0 false zero_registers b =
      is_state e.last (pos f) 0 false zero_registers (at.1.place ∙ ap (λ x. pos x) (sym place)) at.1.no_branch
      at.1.forward h.registers in
      let many : length b ≡ length a = length-run code (suc k) m in
      let counted_b : slice_get b END_CELL ≡ Some (length b) = h.kept ∙ ap (λ x. Some x) (sym many) in
      let below : AllBelow (length b) cs = subst (λ x. AllBelow x cs) (sym many) (all_below (length a) cs room.among) in
      let free = room.room in
      let half = ahead_steps a (suc k) h.narrow in
      let at_f : carried (pos 0) zeros e.last ≡ on f 0 0 0 0 (b ++ zeros) = ap (carried (pos 0) zeros) here
      ∙ ap (λ z. state z 0 false zero_registers (b ++ zeros)) (nowhere f) in
      let over = across b stands counted_b below (omega arith) in
      let turned_there : on (entered_at n f cs + 1) 0 0 0 0 (b ++ vals) ≡ carried g vals (met n rest.last) =
      turns b vals stands.within ∙ ap (λ x. carried g vals (met n x)) (sym here ∙ sym same) in
      let back = walk_back code all g vals (carries_behind code n f cs refl (length-flipped code)) i.is_code k first
      words_first (λ j d l. record { no_start = no_start j d l; finishing = fin j d l }) in
      let way : steps all (made_in e + (2 + (11 + 8 * length cs + 2) + made_in rest)) (begun_on all (with_zeros a cs))
      ≡ Some (carried g vals (met n first)) =
      then_steps all (made_in e) (2 + (11 + 8 * length cs + 2) + made_in rest) _ _ _ half
      (ap (steps all (2 + (11 + 8 * length cs + 2) + made_in rest)) at_f
      ∙ then_steps all (2 + (11 + 8 * length cs + 2)) (made_in rest) _ _ _ over
      (ap (steps all (made_in rest)) turned_there ∙ back)) in
      let total : made_in e + (2 + (11 + 8 * length cs + 2) + made_in rest) + 1 ≡ steps_wrapped e.spent cs =
      omega arith in
      let whole = stops_after all (made_in e + (2 + (11 + 8 * length cs + 2) + made_in rest)) enough _
      (carried g vals (met n first)) Finished way (back_end a vals) refl (omega arith) in
      record {
        why = ap (λ x. x.why) whole;
        spent = ap (λ x. x.spent) whole ∙ total;
        registers = ap (λ x. x.last.regs) whole ∙ ap (λ x. x.regs) begin.first;
        memory = ap (λ x. x.last.cells) whole ∙ ap (λ x. x.cells ++ vals) begin.first;
      }
    where
      the_end : End → End
      the_end rest = record rest { spent = suc rest.spent }

      zero_words : All IsWord zero_registers
      zero_words = All-replicate 32
        where
          All-replicate : (k : ℕ) → All IsWord (replicate k 0)
          All-replicate zero = All-nil IsWord
          All-replicate (suc k) = All-cons IsWord 0 (replicate k 0) (omega arith) (All-replicate k)

  pub wraps : Wrapped code cs all
  wraps = record { finishes = finishes; traps = traps; goes_on = goes_on }
