-- What `wrap` prints.
use Rattle.std.specs.Prelude.{ℕ, suc, List, [], ◌∷◌, ◌++◌, codes, slice_get}
use Rattle.std.specs.Fmt.{decimal}
use Rattle.std.specs.Option.{unwrap_or}
use Rattle.std.specs.Str.{IsAscii}
use Rattle.command_plan.specs.rpp_words.Texts.{line_end}
use Rattle.command_plan.specs.pisa_loader.declared.input.InputField.{InputField}
use Rattle.program_runs.specs.run_settings.roopl_semantics.Store.{Value, Nil}
use Rattle.program_runs.specs.run_settings.roopl_semantics.Report.{signed_decimal, value_shown}
use Rattle.store_report.specs.pisa_isa.Machine.{word_at}

-- a name that can be printed byte by byte
abbrev pub HasAsciiFieldName : InputField → Type 0
HasAsciiFieldName field = IsAscii field.name

-- NAME = V
abbrev pub result_line : (name value : List ℕ) → List ℕ
result_line name value = name ++ (codes " = " ++ (value ++ line_end))

-- the lines of fields, by the values of an object's cells
abbrev pub result_lines : List InputField → List Value → List ℕ
result_lines [] cells = []
result_lines (field ∷ fields) cells =
    result_line field.name (value_shown [] (unwrap_or (slice_get cells field.field) Nil))
    ++ result_lines fields cells

-- the same, by the words of a memory from an address on
abbrev pub word_lines : List InputField → (cells : List ℕ) → (at : ℕ) → List ℕ
word_lines [] cells at = []
word_lines (field ∷ fields) cells at =
    result_line field.name (signed_decimal (word_at cells at)) ++ word_lines fields cells (suc at)

-- how many cells the memory has before the results
abbrev pub initial_line : ℕ → List ℕ
initial_line count = codes "initial " ++ (decimal count ++ (codes " cells" ++ line_end))

-- what is printed if the name with this number is refused
abbrev pub unknown_result_line : (at : ℕ) → List ℕ
unknown_result_line at = codes "refused 44 UnknownResult at " ++ (decimal at ++ line_end)
