-- What a run leads to is a position, and what it counts.
use Rattle.std.proofs.Common.{◌≡◌, refl, ℕ, zero, suc, ◌+◌, ◌-◌, ◌≤◌, arith, List, length, Option, Some, None}
use Rattle.std.specs.List.{All}
use Rattle.rpp_words.specs.Words.{IsWord}
use Rattle.pisa_isa.specs.declared.cell.Cell.{Cell}
use Rattle.pisa_isa.specs.declared.machine.Stop.{Stop}
use Rattle.pisa_isa.specs.declared.machine.Stop.TheVariants.{Finished}
use Rattle.pisa_isa.specs.Machine.{State, IsCode, IsState, stop, next, fetch}
use Rattle.pisa_isa.specs.Runs.{End, IsReached, counted, stop_at_bound, after_step, run, made_in, started, back_by}
use Rattle.pisa_isa.proofs.Keeps.{reached_after, steps-IsState}

pub counted-le : (e : Stop) → counted e ≤ 1
counted-le Finished = omega arith
counted-le _ = omega arith

pub counted-stop_at_bound : (o : Option Cell) (pc : _) → counted (stop_at_bound o pc) ≡ 0
counted-stop_at_bound None pc = refl
counted-stop_at_bound (Some c) pc = refl

-- a stop is one of the steps that are spent
counted_le_after : (o : Option Stop) (m : State) (rest : End) → counted rest.why ≤ rest.spent
    → counted (after_step o m rest).why ≤ (after_step o m rest).spent
counted_le_after None m rest h = omega arith
counted_le_after (Some e) m rest h = omega arith

pub counted_le_spent : (code : List Cell) (n : ℕ) (m : State) → counted (run code n m).why ≤ (run code n m).spent
counted_le_spent code zero m = omega (arith, counted-stop_at_bound (fetch code m.pc) m.pc)
counted_le_spent code (suc n) m = counted_le_after (stop code m) m (run code n (next code m))
    (counted_le_spent code n (next code m))

-- no more steps are spent than are allowed
spent_le_after : (n : ℕ) (o : Option Stop) (m : State) (rest : End) → rest.spent ≤ n
    → (after_step o m rest).spent ≤ suc n
spent_le_after n None m rest h = omega arith
spent_le_after n (Some e) m rest h = omega (arith, counted-le e)

pub spent-le : (code : List Cell) (n : ℕ) (m : State) → (run code n m).spent ≤ n
spent-le code zero m = omega arith
spent-le code (suc n) m = spent_le_after n (stop code m) m (run code n (next code m)) (spent-le code n (next code m))

-- the position after a run from a position
reached_by_step : (code : List Cell) (k : ℕ) (m : State) (o : Option Stop) (rest : End) → IsReached code k m
    → counted rest.why ≤ rest.spent
    → (o ≡ None → IsReached code (suc k + made_in rest) rest.last)
    → IsReached code (k + made_in (after_step o m rest)) (after_step o m rest).last
reached_by_step code k m None rest r h later =
    let e : k + (suc rest.spent - counted rest.why) ≡ suc k + (rest.spent - counted rest.why) = omega arith in
    rw e (later refl)
reached_by_step code k m (Some why) rest r h later =
    let e : k + (counted why - counted why) ≡ k = omega arith in rw e r

pub reached_run : (code : List Cell) (n k : ℕ) (m : State) → IsCode code → IsReached code k m
    → IsReached code (k + made_in (run code n m)) (run code n m).last
reached_run code zero k m c r =
    let e : k + (0 - counted (stop_at_bound (fetch code m.pc) m.pc)) ≡ k = omega arith in rw e r
reached_run code (suc n) k m c r =
    reached_by_step code k m (stop code m) (run code n (next code m)) r (counted_le_spent code n (next code m))
    (λ none. reached_run code n (suc k) (next code m) c (reached_after code k m c r none))

-- the start of a run is a position
pub reached_first : (code : List Cell) (regs cells : List ℕ) → length regs ≡ 32 → All IsWord regs → All IsWord cells
    → IsReached code 0 (started code regs cells)
reached_first code regs cells count words cell_words = record {
  is_state = record { br_word = omega arith; count = count; words = words; cell_words = cell_words };
  reaches = refl;
}

-- a position is a state of words
pub reached_is_state : (code : List Cell) (n : ℕ) (m : State) → IsCode code → IsReached code n m → IsState m
reached_is_state code n m k r = steps-IsState code n (back_by code n m) m k r.is_state r.reaches
