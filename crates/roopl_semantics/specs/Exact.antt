-- An image that implements a program ends exactly as the source does.
use Rattle.std.specs.Prelude.{◌≡◌, ℕ, List}
use Rattle.buddy_book.specs.rpp_words.declared.input.FieldWord.{FieldWord}
use Rattle.buddy_book.specs.rpp_words.declared.input.Limits.{Limits}
use Rattle.inverse_rules.specs.rpp_tree.Tree.{Source}
use Rattle.code_conventions.specs.pisa_isa.declared.machine.Stop.TheVariants.{Finished, Trap}
use Rattle.code_conventions.specs.pisa_isa.Image.{Segments}
use Rattle.roopl_semantics.specs.Store.{State}
use Rattle.roopl_semantics.specs.Source.{IsValid, GivesDone, GivesFault}
use Rattle.buddy_book.specs.rpp_words.Limits.{IsLimits}
use Rattle.roopl_semantics.specs.Layout.{layout}
use Rattle.roopl_semantics.specs.StandsFor.{run_of, StandsFor, IsFinalState}

-- in some number of steps the image finishes with the memory of this state
pub record FinishesWith (program : Source) (image : Segments) (limits : Limits)
    (input : List FieldWord) (end : State) : Type 0 where
  pub steps : ℕ
  pub finishes : (run_of image limits input steps).why ≡ Finished
  pub cells : (run_of image limits input steps).last.cells
      ≡ layout program limits image.statics end.store end.log

-- in some number of steps the image stops with this fault
pub record TrapsWith (image : Segments) (limits : Limits) (input : List FieldWord)
    (code : ℕ) : Type 0 where
  pub steps : ℕ
  pub traps : (run_of image limits input steps).why ≡ Trap code

-- it finishes with a store exactly if the source gives that store, and stops with a fault exactly
-- if the source does
pub record EndsExactly (program : Source) (image : Segments) (limits : Limits)
    (input : List FieldWord) : Type 0 where
  pub finishes : (end : State) → GivesDone program limits input end
      → FinishesWith program image limits input end
  pub finished : (m : ℕ) → (run_of image limits input m).why ≡ Finished
      → IsFinalState program image limits input (run_of image limits input m).last
  pub traps : (code : ℕ) → GivesFault program limits input code → TrapsWith image limits input code
  pub trapped : (m code : ℕ) → (run_of image limits input m).why ≡ Trap code
      → GivesFault program limits input code

abbrev pub ImagesAreExact : Type 0
ImagesAreExact =
    (program : Source) (image : Segments) → StandsFor program image
    → (limits : Limits) (input : List FieldWord) → IsLimits limits → IsValid program input
    → EndsExactly program image limits input
