-- Runs and their bounds: more steps allowed, the states that are visited, and clean finishes.
use Rattle.std.proofs.Common.{◌≡◌, ◌≢◌, ◌∙◌, sym, ap, refl, ℕ, zero, suc, ◌+◌, Bool, true, false, ◌&&◌, zero-add, arith}
use Rattle.std.proofs.Common.{List, Option, Some, None}
use Rattle.pisa_isa.specs.declared.cell.Cell.{Cell}
use Rattle.pisa_isa.specs.declared.machine.Stop.{Stop}
use Rattle.pisa_isa.specs.declared.machine.Stop.TheVariants.{Finished, Bound}
use Rattle.pisa_isa.specs.Machine.{State, stop, stop_at, next, fetch}
use Rattle.pisa_isa.specs.Runs.{End, run, steps, at_bound, after_step, later}
use Rattle.pisa_isa.specs.Ends.{IsCleanFinish, MeetsEndsOnce}
use Rattle.pisa_isa.proofs.Keeps.{first_step}
use Rattle.pisa_isa.proofs.Ends.{finished_at}
use Rattle.std.proofs.lemmas.Option.{same_Some}
use Rattle.std.proofs.lemmas.Bool.{and_left}

-- a run that did not use up its steps is the same with more

off_code : (code : List Cell) (k : ℕ) (m : State) (o : Option Cell) → fetch code m.pc ≡ o → (at_bound o m).why ≢ Bound
    → run code k m ≡ at_bound o m
off_code code k m (Some c) e h = absurd (h refl)
off_code code zero m None e h = ap (λ o. at_bound o m) e
off_code code (suc k) m None e h = ap (λ o. after_step (stop_at o m) m (run code k (next code m))) e

longer_by_step : (o : Option Stop) (m : State) (rest more : End) → ((o ≡ None) → rest.why ≢ Bound → more ≡ rest)
    → (after_step o m rest).why ≢ Bound → after_step o m more ≡ after_step o m rest
longer_by_step None m rest more go h = ap (after_step None m) (go refl h)
longer_by_step (Some why) m rest more go h = refl

pub run-longer : (code : List Cell) (n k : ℕ) (m : State) → (run code n m).why ≢ Bound
    → run code (n + k) m ≡ run code n m
run-longer code zero k m h = ap (λ j. run code j m) (zero-add k) ∙ off_code code k m (fetch code m.pc) refl h
run-longer code (suc n) k m h =
    let e : suc n + k ≡ suc (n + k) = omega arith in
    ap (λ j. run code j m) e
    ∙ longer_by_step (stop code m) m (run code n (next code m)) (run code (n + k) (next code m))
    (λ none b. run-longer code n k (next code m) b) h

-- a run goes on from where steps lead

pub run-steps : (code : List Cell) (k n : ℕ) (m e : State) → steps code k m ≡ Some e
    → run code (k + n) m ≡ later k (run code n e)
run-steps code zero n m e h =
    ap (λ j. run code j m) (zero-add n) ∙ ap (run code n) (same_Some m e h)
    ∙ sym (ap (λ s. record (run code n e) { spent = s }) (zero-add (run code n e).spent))
run-steps code (suc k) n m e h =
    let f = first_step (stop code m) (steps code k (next code m)) e h in
    let j : suc k + n ≡ suc (k + n) = omega arith in
    let s : suc (k + (run code n e).spent) ≡ suc k + (run code n e).spent = omega arith in
    ap (λ i. run code i m) j
    ∙ ap (λ o. after_step o m (run code (k + n) (next code m))) f.0
    ∙ ap (after_step None m) (run-steps code k n (next code m) e f.1)
    ∙ ap (λ i. record (run code n e) { spent = i }) s

not_back : (a b c : Bool) → (a ≡ true → b ≡ false) → ((a && b) && c) ≡ false
not_back true true c h = absurd (let e = h refl in cc)
not_back true false c h = refl
not_back false b c h = refl

forward_there : (code : List Cell) (m : State) → stop code m ≡ Some Finished → m.back ≡ false
forward_there code m h = (finished_at code m h).1.forward

-- a run that meets START only first and FINISH only last finishes cleanly
pub clean_of_ends : (code : List Cell) (n : ℕ) (m : State) → (run code n m).why ≡ Finished → MeetsEndsOnce code n m
    → IsCleanFinish code n m
clean_of_ends code n m fin ends = record {
  finished = fin;
  begins_once = λ k d h. and_left _ _ (and_left _ _ (ends.start_is_first k d h));
  never_backward = λ k d h. not_back _ _ _ (λ t. forward_there code _ (ends.finish_is_last k d h t));
}
