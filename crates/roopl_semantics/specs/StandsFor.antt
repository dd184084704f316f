-- What it means that an image does what a program does.
use Rattle.std.specs.Prelude.{◌≡◌, ◌≢◌, ◌≤◌, ◌+◌, ◌*◌, ℕ, ℤ, List, Option, Some, None}
use Rattle.buddy_book.specs.rpp_words.declared.input.FieldWord.{FieldWord}
use Rattle.buddy_book.specs.rpp_words.declared.input.Limits.{Limits}
use Rattle.inverse_rules.specs.rpp_tree.Tree.{Source}
use Rattle.code_conventions.specs.pisa_isa.declared.machine.Stop.TheVariants.{Finished, Returned, Trap, BadAddress}
use Rattle.code_conventions.specs.pisa_isa.declared.machine.Stop.TheVariants.{OffCode, Bound}
use Rattle.code_conventions.specs.pisa_isa.Image.{Segments}
use Rattle.code_conventions.specs.pisa_isa.Loaded.{loaded_state}
use Rattle.code_conventions.specs.pisa_isa.Machine.{State as MachineState}
use Rattle.code_conventions.specs.pisa_isa.Runs.{End, run, zero_registers}
use Rattle.code_conventions.specs.pisa_isa.Ends.{IsCleanFinish, MeetsEndsOnce}
use Rattle.roopl_semantics.specs.Run.{Run, Done, Fault, More}
use Rattle.roopl_semantics.specs.Store.{State}
use Rattle.roopl_semantics.specs.Source.{IsValid, GivesDone, GivesFault, source}
use Rattle.buddy_book.specs.rpp_words.Limits.{IsLimits}
use Rattle.roopl_semantics.specs.Layout.{HasStatics, layout}

-- the run of an image from START, of at most m steps
abbrev pub run_of : Segments → Limits → List FieldWord → ℕ → End
run_of image limits input m = run image.code m (loaded_state image limits input)

-- the machine's last state is the source's final one: its memory is the layout, all registers are 0
pub record IsFinalState (program : Source) (image : Segments) (limits : Limits)
    (input : List FieldWord) (last : MachineState) : Type 0 where
  pub end : State
  pub gives : GivesDone program limits input end
  pub cells : last.cells ≡ layout program limits image.statics end.store end.log
  pub registers : last.regs ≡ zero_registers
  pub branch : last.br ≡ 0

-- the cost of a run that is over
abbrev pub cost_of : {A : Type 0} → Run A → Option ℕ
cost_of (Done result cost) = Some cost
cost_of (Fault code cost) = Some cost
cost_of More = None

-- the source gives a store or a fault, at this cost
pub record EndsAt (program : Source) (limits : Limits) (input : List FieldWord) (cost : ℕ) : Type 0
  where
    pub fuel : ℕ
    pub over : cost_of (source program limits input fuel) ≡ Some cost

-- so many steps, and more, are not too few for the run
pub record IsEnough (image : Segments) (limits : Limits) (input : List FieldWord)
    (enough : ℕ) : Type 0 where
  pub ends : (m : ℕ) → enough ≤ m → (run_of image limits input m).why ≢ Bound

-- the steps that are enough if the source ends at this cost
abbrev pub enough_steps : ℕ → ℕ
enough_steps cost = 1000 * cost + 1000

-- the runs of an image on an input do what the source does on it
pub record Follows (program : Source) (image : Segments) (limits : Limits)
    (input : List FieldWord) : Type 0 where
  pub finished : (m : ℕ) → (run_of image limits input m).why ≡ Finished
      → IsFinalState program image limits input (run_of image limits input m).last
  pub clean : (m : ℕ) → (run_of image limits input m).why ≡ Finished
      → IsCleanFinish image.code m (loaded_state image limits input)
  pub trapped : (m code : ℕ) → (run_of image limits input m).why ≡ Trap code
      → GivesFault program limits input code
  pub not_returned : (m : ℕ) → (run_of image limits input m).why ≢ Returned
  pub in_code : (m : ℕ) (at : ℤ) → (run_of image limits input m).why ≢ OffCode at
  pub in_memory : (m address : ℕ) → (run_of image limits input m).why ≢ BadAddress address
  pub in_time : (cost : ℕ) → EndsAt program limits input cost
      → IsEnough image limits input (enough_steps cost)
  pub meets_ends_once : (m : ℕ) → MeetsEndsOnce image.code m (loaded_state image limits input)

-- an image implements a program: its static cells are the program's, and it follows it on every
-- input, heap and depth
pub record StandsFor (program : Source) (image : Segments) : Type 0 where
  pub statics : HasStatics program image
  pub follows : (limits : Limits) (input : List FieldWord) → IsLimits limits → IsValid program input
      → Follows program image limits input
