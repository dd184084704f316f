-- The wrapped run of a program, with two bounds: one for the image's run, and one for its own.
use Rattle.std.proofs.Common.{◌≡◌, ◌≤◌, ℕ, List, ◌++◌, length}
use Rattle.bennett_wrap.specs.rpp_words.declared.input.FieldWord.{FieldWord}
use Rattle.bennett_wrap.specs.rpp_words.declared.input.Limits.{Limits}
use Rattle.meaning_sound.specs.rpp_tree.Tree.{Source}
use Rattle.bennett_wrap.specs.pisa_isa.declared.cell.Cell.{Cell}
use Rattle.bennett_wrap.specs.pisa_isa.declared.machine.Stop.TheVariants.{Finished, Trap, Bound}
use Rattle.bennett_wrap.specs.pisa_isa.Image.{Segments}
use Rattle.bennett_wrap.specs.pisa_isa.Loaded.{loaded}
use Rattle.meaning_sound.specs.roopl_semantics.Store.{State}
use Rattle.meaning_sound.specs.roopl_semantics.Source.{GivesDone, GivesFault}
use Rattle.meaning_sound.specs.roopl_semantics.Layout.{layout}
use Rattle.meaning_sound.specs.roopl_semantics.StandsFor.{run_of}
use Rattle.bennett_wrap.specs.Wrapped.{WrapFinishesWith, WrapTrapsWith, values_at, steps_wrapped}
use Rattle.refine_wrap.specs.Programs.{wrapped_run}

-- the source gives a store, and the wrapped run adds to the first memory what its layout has at the cells
pub record Adds (program : Source) (image : Segments) (cells : List ℕ) (wrapped : List Cell) (limits : Limits)
    (input : List FieldWord) (m enough : ℕ) : Type 0 where
  pub end : State
  pub gives : GivesDone program limits input end
  pub finishes : WrapFinishesWith (wrapped_run image cells wrapped limits input enough)
      (steps_wrapped (run_of image limits input m).spent cells)
      (loaded image.statics limits input ++ values_at (layout program limits image.statics end.store end.log) cells)

-- the source gives the fault, and the wrapped run traps with no result
pub record Faults (program : Source) (image : Segments) (cells : List ℕ) (wrapped : List Cell) (limits : Limits)
    (input : List FieldWord) (m enough w : ℕ) : Type 0 where
  pub gives : GivesFault program limits input w
  pub traps : WrapTrapsWith (wrapped_run image cells wrapped limits input enough) w (run_of image limits input m).spent
      (length (loaded image.statics limits input)) (length cells)

pub record WrapsProgram (program : Source) (image : Segments) (cells : List ℕ) (wrapped : List Cell) (limits : Limits)
    (input : List FieldWord) : Type 0 where
  pub adds : (m enough : ℕ) → (run_of image limits input m).why ≡ Finished
      → steps_wrapped (run_of image limits input m).spent cells ≤ enough
      → Adds program image cells wrapped limits input m enough
  pub faults : (m enough w : ℕ) → (run_of image limits input m).why ≡ Trap w
      → (run_of image limits input m).spent ≤ enough
      → Faults program image cells wrapped limits input m enough w
  pub goes_on : (m : ℕ) → (run_of image limits input m).why ≡ Bound
      → (wrapped_run image cells wrapped limits input m).why ≡ Bound
