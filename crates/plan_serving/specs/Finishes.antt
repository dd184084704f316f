-- How a plan is carried out, as far as the answers let it. `shelf` and `out` are the file store and
-- the sink as they are passed, and `shelf'` and `out'` as they are left.
use Rattle.std.specs.Prelude.{◌≡◌, ◌⊎◌, ℕ, List, [], ◌∷◌, ◌++◌, None, Some, Result, Ok, Err, codes}
use Rattle.std.specs.declared.option.Option.{Option}
use Rattle.command_plan.specs.rpp_ports.declared.shelf.ShelfFault.TheVariants as fault
use Rattle.command_plan.specs.rpp_ports.declared.sink.SinkFault.{SinkFault}
use Rattle.command_plan.specs.rpp_ports.declared.sink.SinkFault.TheVariants as sink
use Rattle.command_plan.specs.Plans.{Written}
use Rattle.command_plan.specs.command_ends.Statuses.{broken_code}
use Rattle.command_plan.specs.command_ends.declared.status.Broken.{Broken}
use Rattle.command_plan.specs.command_ends.declared.status.Broken.TheVariants as broken
use Rattle.plan_serving.specs.Outside.{Shelved, Printed, HasWritten, HasPut}

-- the line on a file that could not be written
abbrev pub unwritten : List ℕ → List ℕ
unwritten name = codes "cannot write " ++ (name ++ (codes ": failed" ++ 10 ∷ []))

-- what the sink answered, by what became of a text
abbrev pub put_answer : Result (Unit {0}) Broken → Result (Unit {0}) SinkFault
put_answer (Ok _) = Ok tt
put_answer (Err broken.Outside) = Err sink.Failed
put_answer (Err broken.NoMemory) = Err sink.NoMemory

-- the status, by what became of a text: this one, if it was put
abbrev pub ended_status : (taken : ℕ) → Result (Unit {0}) Broken → ℕ
ended_status taken (Ok _) = taken
ended_status taken (Err it) = broken_code it

-- the status after a put: this one, if the sink took the text
abbrev pub after_put : (status : ℕ) → Result (Unit {0}) SinkFault → ℕ
after_put status (Ok _) = status
after_put status (Err sink.Failed) = 2
after_put status (Err sink.NoMemory) = 7

-- the text was put, once, and the status is this one, if the sink took it
pub record Puts (text : List ℕ) (taken : ℕ) (out out' : Printed) (status : ℕ) : Type 0 where
  pub answer : Result (Unit {0}) SinkFault
  pub put : HasPut text answer out out'
  pub status_is : status ≡ after_put taken answer

-- the write of the file failed, and the line on it was put, once, whatever the sink answered
pub record FailsToWrite (w : Written) (shelf shelf' : Shelved) (out out' : Printed) (status : ℕ)
    : Type 0 where
  pub tried : HasWritten w (Err fault.Failed) shelf shelf'
  pub answer : Result (Unit {0}) SinkFault
  pub put : HasPut (unwritten w.name) answer out out'
  pub status_is : status ≡ 2

-- no memory was found for the write of the file, or before it, and nothing was put
pub record CannotWrite (w : Written) (shelf shelf' : Shelved) (out out' : Printed) (status : ℕ)
    : Type 0 where
  pub tried : (shelf' ≡ shelf) ⊎ HasWritten w (Err fault.NoMemory) shelf shelf'
  pub silent : out' ≡ out
  pub status_is : status ≡ 7

-- the file is written, once, if there is one, and then the text is put, once
abbrev pub Finishes : Option Written → (text : List ℕ) → (taken : ℕ) → (shelf shelf' : Shelved)
    → (out out' : Printed) → (status : ℕ) → Type 0
Finishes None text taken shelf shelf' out out' status =
    (shelf' ≡ shelf) × Puts text taken out out' status
Finishes (Some w) text taken shelf shelf' out out' status =
    (HasWritten w (Ok tt) shelf shelf' × Puts text taken out out' status)
    ⊎ (FailsToWrite w shelf shelf' out out' status ⊎ CannotWrite w shelf shelf' out out' status)
