-- A line whose files have the names of their places: the first has the empty name, and each further
-- one is a byte longer. So what makes a plan sees the texts by their places, and nothing else.
use Rattle.std.specs.Prelude.{[], ◌∷◌}
use Rattle.plan_serving.specs.Places.{names_from, at_place}
use Rattle.command_line.specs.Lines.{Asked, Check, Compile, Asm, ListImage, Flip, ShowInverse}
use Rattle.command_line.specs.Lines.{Generate, Cluster, RunImage, Debug, Trace, Go, Turn, Profile}
use Rattle.command_line.specs.Lines.{Wrap, Explain}

unfoldable pub placed : Asked → Asked
placed (Check file) = Check []
placed (Compile file image) = Compile [] image
placed (Asm text image) = Asm [] image
placed (ListImage image text) = ListImage [] text
placed (Flip image flipped) = Flip [] flipped
placed (ShowInverse file out) = ShowInverse [] out
placed (Generate seed size out) = Generate seed size out
placed (Cluster script cells images) = Cluster [] cells (names_from (97 ∷ []) images)
placed (RunImage image sizes state save) =
    RunImage [] sizes (at_place (97 ∷ []) state) save
placed (Debug image room script) = Debug [] room (97 ∷ [])
placed (Trace file room script input) =
    Trace [] room (97 ∷ []) (at_place (97 ∷ 97 ∷ []) input)
placed (Go file sizes input) = Go [] sizes (at_place (97 ∷ []) input)
placed (Turn file sizes input) = Turn [] sizes (at_place (97 ∷ []) input)
placed (Profile file sizes) = Profile [] sizes
placed (Wrap file sizes names input) =
    Wrap [] sizes names (at_place (97 ∷ []) input)
placed (Explain file sizes input) = Explain [] sizes (at_place (97 ∷ []) input)
