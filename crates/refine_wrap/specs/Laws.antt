-- The laws of wrapped programs.
use Rattle.std.specs.Prelude.{◌≡◌, ◌≤◌, ℕ, List, All, length, slice_get, slice_index, Some, IsTrue}
use Rattle.bennett_wrap.specs.rpp_words.Words.{IsWord}
use Rattle.bennett_wrap.specs.rpp_words.Limits.{IsLimits}
use Rattle.bennett_wrap.specs.rpp_words.declared.input.FieldWord.{FieldWord}
use Rattle.bennett_wrap.specs.rpp_words.declared.input.Limits.{Limits}
use Rattle.meaning_sound.specs.rpp_tree.Tree.{Source}
use Rattle.meaning_sound.specs.class_rules.Program.{IsAccepted}
use Rattle.bennett_wrap.specs.pisa_isa.declared.cell.Cell.{Cell}
use Rattle.bennett_wrap.specs.pisa_isa.Image.{Segments, IsImage}
use Rattle.bennett_wrap.specs.pisa_isa.Loaded.{loaded}
use Rattle.meaning_sound.specs.roopl_semantics.Store.{Word, State, main_name, object_at}
use Rattle.meaning_sound.specs.roopl_semantics.Source.{GivesDone, IsValid, main_fields, is_int_field}
use Rattle.meaning_sound.specs.roopl_semantics.Layout.{layout}
use Rattle.meaning_sound.specs.roopl_semantics.StandsFor.{StandsFor}
use Rattle.bennett_wrap.specs.Wrapped.{Wrapped}
use Rattle.refine_wrap.specs.Programs.{IsStatic, FollowsWrapped, field_cell}

-- the wrapped code of an image that implements a program, for at most 64 static cells, does what
-- the program does
abbrev pub WrappedProgramsFollow : Type 0
WrappedProgramsFollow =
    (program : Source) (image : Segments) (cells : List ℕ) (wrapped : List Cell) (limits : Limits)
    (input : List FieldWord)
    → IsImage image → StandsFor program image → Wrapped image.code cells wrapped
    → length cells ≤ 64 → All (IsStatic image) cells
    → IsLimits limits → IsValid program input → All IsWord (loaded image.statics limits input)
    → FollowsWrapped program image cells wrapped limits input

-- at the end of a run an int field holds the word in its static cell
abbrev pub IntFieldsStandInStaticCells : Type 0
IntFieldsStandInStaticCells =
    (program : Source) (limits : Limits) (input : List FieldWord) (end : State) (statics : List ℕ)
    (field : ℕ)
    → IsAccepted program → IsLimits limits → IsValid program input
    → GivesDone program limits input end
    → IsTrue (is_int_field (slice_get (main_fields program) field))
    → slice_get (object_at end.store main_name).cells field
    ≡ Some (Word (slice_index (layout program limits statics end.store end.log) (field_cell field)))
