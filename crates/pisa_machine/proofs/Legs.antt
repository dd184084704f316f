-- Runs in parts, each of which goes one way.
use Rattle.std.proofs.Common.{◌≡◌, ◌∙◌, sym, ap, subst, ℕ, zero, suc, ◌+◌, ◌-◌, ◌<◌, List, Some, None, arith}
use Rattle.pisa_isa.specs.declared.cell.Cell.{Cell}
use Rattle.pisa_isa.specs.declared.machine.Stop.{Stop}
use Rattle.pisa_isa.specs.Machine.{State, IsCode, stop, stop_at, stop_in, next, fetch, effect, effect_at, moved}
use Rattle.pisa_isa.specs.Runs.{End, run, steps, later, then_state, unless_stop, counted, stop_at_bound, IsReached}
use Rattle.pisa_isa.proofs.Keeps.{first_step, reached_after}
use Rattle.pisa_isa.proofs.Runs.{steps-add, run-stop}
use Rattle.pisa_isa.proofs.Longer.{run-steps}

-- one step more
pub one_more : (code : List Cell) (n : ℕ) (m here there : State) → steps code n m ≡ Some here → stop code here ≡ None
    → there ≡ next code here
    → steps code (n + 1) m ≡ Some there
one_more code n m here there reaches goes moved =
    steps-add code n 1 m ∙ ap (λ o. then_state o (steps code 1)) reaches
    ∙ ap (λ o. unless_stop o (Some (next code here))) goes ∙ ap Some (sym moved)

-- one step more, at a cell that is found
pub one_more_at : (code : List Cell) (n : ℕ) (m here there : State) (cell : Cell) → steps code n m ≡ Some here
    → fetch code here.pc ≡ Some cell → None ≡ stop_in cell.op cell here
    → there ≡ moved (effect cell here) → steps code (n + 1) m ≡ Some there
one_more_at code n m here there cell reaches found goes is =
    one_more code n m here there reaches (ap (λ o. stop_at o here) found ∙ sym goes)
    (is ∙ ap (λ o. moved (effect_at o here)) (sym found))

-- so many steps more
pub more : (code : List Cell) (n k : ℕ) (m here there : State) → steps code n m ≡ Some here
    → steps code k here ≡ Some there → steps code (n + k) m ≡ Some there
more code n k m here there reaches goes = steps-add code n k m ∙ ap (λ o. then_state o (steps code k)) reaches ∙ goes

-- a position so many steps after a reachable one
pub reached_more : (code : List Cell) (n k : ℕ) (m there : State) → IsCode code → IsReached code n m
    → steps code k m ≡ Some there → IsReached code (n + k) there
reached_more code n zero m there c r is =
    let same : m ≡ there = cc in
    let none : n ≡ n + 0 = omega arith in
    subst (λ (i : ℕ). IsReached code i there) none (subst (λ (s : State). IsReached code n s) same r)
reached_more code n (suc k) m there c r is =
    let first = first_step (stop code m) (steps code k (next code m)) there is in
    let count : suc n + k ≡ n + suc k = omega arith in
    subst (λ (i : ℕ). IsReached code i there) count (reached_more code (suc n) k (next code m) there c
    (reached_after code n m c r first.0) first.1)

abbrev pub end_of : Stop → ℕ → State → End
end_of why spent last = record { why = why; spent = spent; last = last }

-- the run of a loop that has made all steps that it may
pub ran : (code : List Cell) (b n : ℕ) (m here : State) (why : Stop) → steps code n m ≡ Some here → n ≡ b
    → why ≡ stop_at_bound (fetch code here.pc) here.pc
    → run code b m ≡ end_of why b here
ran code b n m here why reaches all is =
    let whole : n + 0 ≡ b = omega (arith, all) in
    sym (ap (λ k. run code k m) whole) ∙ run-steps code n 0 m here reaches
    ∙ ap (λ k. end_of (stop_at_bound (fetch code here.pc) here.pc) k here) whole ∙ ap (λ w. end_of w b here) (sym is)

-- the run of a loop that stops after n steps
pub ran_to_stop : (code : List Cell) (b n : ℕ) (m here : State) (why : Stop) → steps code n m ≡ Some here → n < b
    → stop code here ≡ Some why
    → run code b m ≡ end_of why (n + counted why) here
ran_to_stop code b n m here why reaches h is =
    let parts : n + (b - n) ≡ b = omega (arith, h) in
    sym (ap (λ k. run code k m) parts) ∙ run-steps code n (b - n) m here reaches
    ∙ ap (later n) (run-stop code (b - n) here why (omega (arith, h)) is)
