-- A walk move by move, as a loop makes it.
use Rattle.std.proofs.Common.{◌≡◌, ◌∙◌, ℕ, zero, suc, ◌+◌, ◌-◌, ◌<◌, ◌≤◌, ℤ, Bool, true, false, cond, sym, ap, Option}
use Rattle.std.proofs.Common.{Some, None, arith}
use Rattle.pisa_machine.specs.Position.{Position}
use Rattle.pisa_scripts.specs.pisa_isa.declared.machine.Stop.{Stop}
use Rattle.pisa_scripts.specs.pisa_isa.declared.machine.Stop.TheVariants.{Finished, Returned, Trap, BadAddress, OffCode}
use Rattle.pisa_scripts.specs.pisa_isa.declared.machine.Stop.TheVariants.{Bound}
use Rattle.pisa_scripts.specs.pisa_isa.Runs.{counted}
use Rattle.two_way_debugger.specs.declared.moves.Ending.{Ending}
use Rattle.two_way_debugger.specs.declared.moves.Ending.TheVariants.{Made, Last, Start, Stopped}
use Rattle.two_way_debugger.specs.Moves.{MachineWalk, moved_position, barrier, is_at, spent_on, machine_walk_ends}
use Rattle.two_way_debugger.specs.Moves.{later_walk, unless_ended, machine_walk}

stop_counts : (e : Stop) → counted e ≤ 1
stop_counts Finished = omega arith
stop_counts Returned = omega arith
stop_counts (Trap code) = omega arith
stop_counts (BadAddress address) = omega arith
stop_counts (OffCode place) = omega arith
stop_counts Bound = omega arith

end_counts : (e : Ending) → spent_on e ≤ 1
end_counts Made = omega arith
end_counts Last = omega arith
end_counts Start = omega arith
end_counts (Stopped e) = stop_counts e

-- a walk takes no more steps than moves are requested
pub walk_within : (backward : Bool) (place : Option ℤ) (n : ℕ) (p : Position)
    → (machine_walk backward place n p).spent ≤ n
walk_within backward place zero p = omega arith
walk_within backward place (suc n) p =
    let q = moved_position backward p in
    by_barrier (machine_walk backward place n q) (walk_within backward place n q) (is_at place q) (barrier backward p)
  where
    by_place : (rest : MachineWalk) → rest.spent ≤ n → (b : Bool)
        → (cond b (machine_walk_ends (moved_position backward p) Made) rest).spent ≤ n
    by_place rest h true = omega arith
    by_place rest h false = h

    by_barrier : (rest : MachineWalk) → rest.spent ≤ n → (b : Bool) (o : Option Ending)
        → (unless_ended o p (cond b (machine_walk_ends (moved_position backward p) Made) rest)).spent ≤ suc n
    by_barrier rest h b (Some e) = let one = end_counts e in omega arith
    by_barrier rest h b None = let some = by_place rest h b in omega arith

less_one : (n i : ℕ) → i < n → n - i ≡ suc (n - (i + 1))
less_one n i h = omega arith

abbrev one_later : ℕ → MachineWalk → MachineWalk
one_later i w = later_walk i (record w { spent = suc w.spent })

again : (i : ℕ) (w : MachineWalk) → one_later i w ≡ later_walk (i + 1) w
again i w = let e : i + suc w.spent ≡ i + 1 + w.spent = omega arith in ap (λ (s : ℕ). record w { spent = s }) e

-- no move is made any more
pub walk_ended : (backward : Bool) (place : Option ℤ) (n i : ℕ) (p : Position) (e : Ending) → i < n
    → barrier backward p ≡ Some e
    → later_walk i (machine_walk backward place (n - i) p) ≡ later_walk i (machine_walk_ends p e)
walk_ended backward place n i p e more is =
    ap (λ (k : ℕ). later_walk i (machine_walk backward place k p)) (less_one n i more)
    ∙ ap (λ (o : Option Ending). later_walk i (unless_ended o p
    (cond (is_at place (moved_position backward p)) (machine_walk_ends (moved_position backward p) Made)
    (machine_walk backward place (n - (i + 1)) (moved_position backward p))))) is

-- the last that was requested
pub walk_arrived : (backward : Bool) (place : Option ℤ) (n i : ℕ) (p q : Position) → i < n → barrier backward p ≡ None
    → q ≡ moved_position backward p → is_at place q ≡ true
    → later_walk i (machine_walk backward place (n - i) p) ≡ later_walk (i + 1) (machine_walk_ends q Made)
walk_arrived backward place n i p q more is next there =
    ap (λ (k : ℕ). later_walk i (machine_walk backward place k p)) (less_one n i more)
    ∙ ap (λ (o : Option Ending). later_walk i (unless_ended o p
    (cond (is_at place (moved_position backward p)) (machine_walk_ends (moved_position backward p) Made)
    (machine_walk backward place (n - (i + 1)) (moved_position backward p))))) is
    ∙ ap (λ (x : Position). one_later i (cond (is_at place x) (machine_walk_ends x Made)
    (machine_walk backward place (n - (i + 1)) x)))
    (sym next)
    ∙ ap (λ (b : Bool). one_later i (cond b (machine_walk_ends q Made) (machine_walk backward place (n - (i + 1)) q)))
    there
    ∙ again i (machine_walk_ends q Made)

-- one move more
pub walk_more : (backward : Bool) (place : Option ℤ) (n i : ℕ) (p q : Position) → i < n → barrier backward p ≡ None
    → q ≡ moved_position backward p → is_at place q ≡ false
    → later_walk i (machine_walk backward place (n - i) p)
    ≡ later_walk (i + 1) (machine_walk backward place (n - (i + 1)) q)
walk_more backward place n i p q more is next there =
    ap (λ (k : ℕ). later_walk i (machine_walk backward place k p)) (less_one n i more)
    ∙ ap (λ (o : Option Ending). later_walk i (unless_ended o p
    (cond (is_at place (moved_position backward p)) (machine_walk_ends (moved_position backward p) Made)
    (machine_walk backward place (n - (i + 1)) (moved_position backward p))))) is
    ∙ ap (λ (x : Position). one_later i (cond (is_at place x) (machine_walk_ends x Made)
    (machine_walk backward place (n - (i + 1)) x)))
    (sym next)
    ∙ ap (λ (b : Bool). one_later i (cond b (machine_walk_ends q Made) (machine_walk backward place (n - (i + 1)) q)))
    there
    ∙ again i (machine_walk backward place (n - (i + 1)) q)

-- no more are requested
pub walk_over : (backward : Bool) (place : Option ℤ) (n i : ℕ) (p : Position) → n ≤ i
    → later_walk i (machine_walk backward place (n - i) p) ≡ later_walk i (machine_walk_ends p Made)
walk_over backward place n i p over =
    let none : n - i ≡ 0 = omega arith in
    ap (λ (k : ℕ). later_walk i (machine_walk backward place k p)) none
