-- How a run passes the START and the FINISH cell.
use Rattle.std.specs.Prelude.{◌≡◌, ℕ, Bool, false, not, ◌&&◌, IsTrue, IsFalse, List, All, drop}
use Rattle.std.specs.Prelude.{Option, Some, None}
use Rattle.pisa_isa.specs.declared.cell.Cell.{Cell}
use Rattle.pisa_isa.specs.declared.machine.Stop.TheVariants.{Finished}
use Rattle.pisa_isa.specs.Machine.{State, fetch, stop, is_zero_word}
use Rattle.pisa_isa.specs.Image.{is_start, is_finish}
use Rattle.pisa_isa.specs.Runs.{run, visited}

abbrev pub cell_is : (Cell → Bool) → Option Cell → Bool
cell_is p None = false
cell_is p (Some c) = p c

-- whether the state's place is a START cell
abbrev pub is_at_start : List Cell → State → Bool
is_at_start code m = cell_is is_start (fetch code m.pc)

-- whether the state's place is a FINISH cell
abbrev pub is_at_finish : List Cell → State → Bool
is_at_finish code m = cell_is is_finish (fetch code m.pc)

-- whether a run begins as it stands: at START with direction 1 and `br` 0
abbrev pub begins : List Cell → State → Bool
begins code m = is_at_start code m && not m.back && is_zero_word m.br

-- whether a run backward begins as it stands: at FINISH with direction -1 and `br` 0
abbrev pub begins_backward : List Cell → State → Bool
begins_backward code m = is_at_finish code m && m.back && is_zero_word m.br

-- the run of at most n steps finishes, it begins only with its first step, and nowhere does it
-- begin backward
pub record IsCleanFinish (code : List Cell) (n : ℕ) (m : State) : Type 0 where
  pub finished : (run code n m).why ≡ Finished
  pub begins_once : All (λ s. IsFalse (begins code s)) (drop 1 (visited code n m))
  pub never_backward : All (λ s. IsFalse (begins_backward code s)) (visited code n m)

-- a step at START is only the first one, and a step at FINISH only the one that stops the run as
-- Finished
pub record MeetsEndsOnce (code : List Cell) (n : ℕ) (m : State) : Type 0 where
  pub start_is_first : All (λ s. IsFalse (is_at_start code s)) (drop 1 (visited code n m))
  pub finish_is_last : All (λ s. IsTrue (is_at_finish code s) → stop code s ≡ Some Finished)
      (visited code n m)
