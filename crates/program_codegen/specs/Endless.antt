-- Where the source never ends.
use Rattle.std.specs.Prelude.{◌≡◌, ℕ, List}
use Rattle.refine_program.specs.rpp_words.declared.input.FieldWord.{FieldWord}
use Rattle.refine_program.specs.rpp_words.declared.input.Limits.{Limits}
use Rattle.refine_program.specs.rpp_words.Limits.{IsLimits}
use Rattle.refine_program.specs.rpp_tree.Tree.{Source}
use Rattle.refine_program.specs.pisa_isa.declared.machine.Stop.TheVariants.{Bound}
use Rattle.refine_program.specs.pisa_isa.Image.{Segments}
use Rattle.refine_program.specs.roopl_semantics.Run.{More}
use Rattle.refine_program.specs.roopl_semantics.Source.{IsValid, source}
use Rattle.refine_program.specs.roopl_semantics.StandsFor.{StandsFor, run_of}

-- the image of a program never stops on an input on which the source never ends: only the bound
-- ends its runs
abbrev pub EndlessImagesRunOn : Type 0
EndlessImagesRunOn =
    (program : Source) (image : Segments) (limits : Limits) (input : List FieldWord)
    → StandsFor program image → IsLimits limits → IsValid program input
    → ((fuel : ℕ) → source program limits input fuel ≡ More)
    → (steps : ℕ) → (run_of image limits input steps).why ≡ Bound
