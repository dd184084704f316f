-- The memories that are reported: where a run of the program ended, and where it began.
use Rattle.std.specs.Prelude.{◌≡◌, ℕ, List}
use Rattle.refine_frame.specs.rpp_words.declared.input.FieldWord.{FieldWord}
use Rattle.refine_frame.specs.rpp_words.declared.input.Limits.{Limits}
use Rattle.meaning_reached.specs.rpp_tree.Tree.{Source}
use Rattle.pisa_machine.specs.pisa_isa.Image.{Segments}
use Rattle.pisa_machine.specs.pisa_isa.Loaded.{loaded}
use Rattle.static_layout.specs.roopl_semantics.Store.{State}
use Rattle.static_layout.specs.roopl_semantics.Source.{IsValid, GivesDone}
use Rattle.refine_frame.specs.rpp_words.Limits.{IsLimits}
use Rattle.static_layout.specs.roopl_semantics.Layout.{HasStatics, layout}

-- these cells are the memory of a final state of the program
pub record IsMemoryOf (program : Source) (cells : List ℕ) (end : State) : Type 0 where
  pub image : Segments
  pub limits : Limits
  pub input : List FieldWord
  pub statics : HasStatics program image
  pub in_range : IsLimits limits
  pub valid : IsValid program input
  pub gives : GivesDone program limits input end
  pub laid : cells ≡ layout program limits image.statics end.store end.log

-- these cells are the memory in which a run of the program on this input begins
pub record IsFirstMemoryOf (program : Source) (cells : List ℕ) (input : List FieldWord) : Type 0
  where
    pub image : Segments
    pub limits : Limits
    pub statics : HasStatics program image
    pub in_range : IsLimits limits
    pub valid : IsValid program input
    pub loads : cells ≡ loaded image.statics limits input
