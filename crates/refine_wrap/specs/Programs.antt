-- What the wrapped run of a program does.
use Rattle.std.specs.Prelude.{◌≡◌, ◌≢◌, ◌≤◌, ◌<◌, ◌+◌, ◌*◌, ℕ, ℤ, List, ◌++◌, length}
use Rattle.bennett_wrap.specs.rpp_words.declared.input.FieldWord.{FieldWord}
use Rattle.bennett_wrap.specs.rpp_words.declared.input.Limits.{Limits}
use Rattle.meaning_sound.specs.rpp_tree.Tree.{Source}
use Rattle.bennett_wrap.specs.pisa_isa.declared.cell.Cell.{Cell}
use Rattle.bennett_wrap.specs.pisa_isa.declared.machine.Stop.TheVariants.{Finished, Returned, Trap, BadAddress}
use Rattle.bennett_wrap.specs.pisa_isa.declared.machine.Stop.TheVariants.{OffCode, Bound}
use Rattle.bennett_wrap.specs.pisa_isa.Image.{Segments}
use Rattle.bennett_wrap.specs.pisa_isa.Loaded.{loaded, statics_at}
use Rattle.bennett_wrap.specs.pisa_isa.Machine.{State as MachineState}
use Rattle.bennett_wrap.specs.pisa_isa.Runs.{End, zero_registers}
use Rattle.bennett_wrap.specs.code_conventions.declared.memory.TheConstants.{FIRST_FIELD}
use Rattle.meaning_sound.specs.roopl_semantics.Store.{State}
use Rattle.meaning_sound.specs.roopl_semantics.Source.{GivesDone, GivesFault}
use Rattle.meaning_sound.specs.roopl_semantics.Layout.{layout}
use Rattle.meaning_sound.specs.roopl_semantics.StandsFor.{EndsAt}
use Rattle.bennett_wrap.specs.Wrapped.{run_on, with_zeros, values_at}

-- the static cell of a field of the main object
abbrev pub field_cell : (field : ℕ) → ℕ
field_cell field = FIRST_FIELD + field

-- a static cell of the image
abbrev pub IsStatic : Segments → ℕ → Type 0
IsStatic image c = (statics_at ≤ c) × (c < statics_at + length image.statics)

-- the run of at most so many steps of the wrapped code, on the loaded memory followed by zeros
abbrev pub wrapped_run : Segments → List ℕ → List Cell → Limits → List FieldWord → (bound : ℕ) → End
wrapped_run image cells wrapped limits input bound =
    run_on wrapped bound (with_zeros (loaded image.statics limits input) cells)

-- The semantics gives a store. The machine ended with the first memory, followed by what the
-- store's layout has in the cells: only the results are added.
pub record EndsDone (program : Source) (image : Segments) (cells : List ℕ) (limits : Limits)
    (input : List FieldWord) (last : MachineState) : Type 0 where
  pub end : State
  pub gives : GivesDone program limits input end
  pub registers : last.regs ≡ zero_registers
  pub memory : last.cells
      ≡ loaded image.statics limits input
      ++ values_at (layout program limits image.statics end.store end.log) cells

-- the run finished as the source is done, or trapped as it has a fault, or was not over
pub record EndsAsSource (program : Source) (image : Segments) (cells : List ℕ) (limits : Limits)
    (input : List FieldWord) (e : End) : Type 0 where
  pub done : e.why ≡ Finished → EndsDone program image cells limits input e.last
  pub fault : (code : ℕ) → e.why ≡ Trap code → GivesFault program limits input code
  pub not_returned : e.why ≢ Returned
  pub in_code : (at : ℤ) → e.why ≢ OffCode at
  pub in_memory : (address : ℕ) → e.why ≢ BadAddress address

-- the steps that are enough for the wrapped run if the source ends at this cost
abbrev pub enough_wrapped : (cost : ℕ) → ℕ
enough_wrapped cost = 2000 * cost + 5000

-- what holds for the wrapped runs on an input: each ends as the source does, and in time
pub record FollowsWrapped (program : Source) (image : Segments) (cells : List ℕ)
    (wrapped : List Cell) (limits : Limits) (input : List FieldWord) : Type 0 where
  pub ends : (bound : ℕ) → EndsAsSource program image cells limits input
      (wrapped_run image cells wrapped limits input bound)
  pub in_time : (cost bound : ℕ) → EndsAt program limits input cost → enough_wrapped cost ≤ bound
      → (wrapped_run image cells wrapped limits input bound).why ≢ Bound
