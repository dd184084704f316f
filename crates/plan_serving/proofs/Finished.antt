-- What is asked where a plan is carried out, as far as the answers let it.
use Rattle.std.proofs.Common.{◌≡◌, refl, sym, subst, ℕ, List, ◌∷◌, string_bytes, Some, None, Ok, Err, inl, inr}
use Rattle.std.specs.Prelude.{Result, ◌⊎◌, option_map}
use Rattle.std.specs.declared.option.Option.{Option}
use Rattle.command_plan.specs.rpp_ports.Events.{Write}
use Rattle.command_plan.specs.rpp_ports.declared.shelf.ShelfFault.{ShelfFault}
use Rattle.command_plan.specs.rpp_ports.declared.sink.SinkFault.TheVariants as sink
use Rattle.command_plan.specs.Plans.{written_file}
use Rattle.command_plan.specs.command_ends.Statuses.{broken_code}
use Rattle.command_plan.specs.declared.plan.Writing.{Writing}
use Rattle.command_plan.specs.command_ends.declared.status.Broken.{Broken}
use Rattle.command_plan.specs.command_ends.declared.status.Broken.TheVariants.{Outside, NoMemory}
use Rattle.plan_serving.specs.Outside.{Shelved, Printed, WriteLeaves, HasWritten, HasPut}
use Rattle.plan_serving.specs.Finishes.{Puts, FailsToWrite, CannotWrite, Finishes, put_answer, ended_status}

-- a text was put, and the status is by the sink's answer
pub puts_by : (text : List ℕ) (taken : ℕ) (out out' : Printed) (r : Result (Unit {0}) Broken)
    → HasPut text (put_answer r) out out' → Puts text taken out out' (ended_status taken r)
puts_by text taken out out' (Ok _) h = record { answer = Ok tt; put = h; status_is = refl }
puts_by text taken out out' (Err Outside) h = record { answer = Err sink.Failed; put = h; status_is = refl }
puts_by text taken out out' (Err NoMemory) h = record { answer = Err sink.NoMemory; put = h; status_is = refl }

-- a write is noted with its name and bytes
pub write_noted : (w : Writing) (name bytes : List ℕ) (answer : Result (Unit {0}) ShelfFault)
    (shelf shelf' : Shelved) → name ≡ string_bytes w.name → bytes ≡ w.bytes.items
    → shelf'.calls ≡ Write name bytes answer ∷ shelf.calls
    → WriteLeaves answer (record { name = name; bytes = bytes }) shelf.texts shelf'.texts
    → HasWritten (written_file w) answer shelf shelf'
write_noted w name bytes answer shelf shelf' same copied noted left =
    subst (λ (it : List ℕ). HasWritten (record { name = it; bytes = w.bytes.items }) answer shelf shelf') same
    (subst (λ (it : List ℕ). HasWritten (record { name = name; bytes = it }) answer shelf shelf') copied
    (record { noted = noted; left = left }))

-- there is no file
pub finishes_none : (writing : Option Writing) (text said : List ℕ) (taken : ℕ) (shelf : Shelved)
    (out out' : Printed) (r : Result (Unit {0}) Broken) → writing ≡ None → said ≡ text
    → HasPut said (put_answer r) out out'
    → Finishes (option_map written_file writing) text taken shelf shelf out out' (ended_status taken r)
finishes_none writing text said taken shelf out out' r none same h =
    subst (λ w. Finishes (option_map written_file w) text taken shelf shelf out out' (ended_status taken r)) (sym none)
    (refl, puts_by text taken out out' r (subst (λ t. HasPut t (put_answer r) out out') same h))

-- the file was written, and then the text was put
pub finishes_some : (writing : Option Writing) (w : Writing) (text said : List ℕ) (taken : ℕ)
    (shelf shelf' : Shelved) (out out' : Printed) (r : Result (Unit {0}) Broken) → writing ≡ Some w
    → said ≡ text → HasWritten (written_file w) (Ok tt) shelf shelf' → HasPut said (put_answer r) out out'
    → Finishes (option_map written_file writing) text taken shelf shelf' out out' (ended_status taken r)
finishes_some writing w text said taken shelf shelf' out out' r is same has h =
    subst (λ w. Finishes (option_map written_file w) text taken shelf shelf' out out' (ended_status taken r)) (sym is)
    (inl (has, puts_by text taken out out' r (subst (λ t. HasPut t (put_answer r) out out') same h)))

-- the file was not written
pub finishes_not : (writing : Option Writing) (w : Writing) (text : List ℕ) (taken : ℕ)
    (shelf shelf' : Shelved) (out out' : Printed) (broken : Broken) → writing ≡ Some w
    → FailsToWrite (written_file w) shelf shelf' out out' (broken_code broken)
    ⊎ CannotWrite (written_file w) shelf shelf' out out' (broken_code broken)
    → Finishes (option_map written_file writing) text taken shelf shelf' out out' (ended_status taken (Err broken))
finishes_not writing w text taken shelf shelf' out out' broken is h =
    subst (λ w. Finishes (option_map written_file w) text taken shelf shelf' out out' (broken_code broken)) (sym is)
    (inr h)
