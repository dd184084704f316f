-- Which fields names joined by commas name, and the first name that is refused.
use Rattle.std.specs.Prelude.{◌≡◌, ◌<◌, ◌+◌, ◌^◌, ℕ, if◌then◌else◌, List, [], ◌∷◌, ◌++◌, length}
use Rattle.std.specs.Prelude.{map, Option, Some, None, Result, Ok, Err}
use Rattle.std.specs.Str.{bytes_eq}
use Rattle.command_plan.specs.pisa_scripts.Lines.{pieces}
use Rattle.command_plan.specs.pisa_image.Numbers.{◌>>=◌}
use Rattle.command_plan.specs.pisa_loader.declared.input.InputField.{InputField}
use Rattle.command_plan.specs.pisa_loader.InputLines.{is_field}
use Rattle.refine_wrap.specs.Programs.{field_cell}
use Rattle.wrap_commands.specs.declared.error.NamesError.{NamesError}
use Rattle.wrap_commands.specs.declared.error.NamesError.TheVariants.{UnknownResult, NoMemory}

-- the first of the fields that has this name
abbrev pub field_of_name : List InputField → List ℕ → Option InputField
field_of_name [] name = None
field_of_name (field ∷ fields) name = if bytes_eq field.name name then Some field
    else field_of_name fields name

-- one result more, unless no field has the name, or an earlier name is the same
abbrev pub with_result : List InputField → Option InputField → Result (List InputField) NamesError
with_result results None = Err (UnknownResult (length results + 1))
with_result results (Some field) =
    if is_field results field.field then Err (UnknownResult (length results + 1))
    else Ok (results ++ field ∷ [])

-- name by name, after those of the results so far
unfoldable pub results_from : (fields results : List InputField) → List (List ℕ)
    → Result (List InputField) NamesError
results_from fields results [] = Ok results
results_from fields results (name ∷ names) =
    with_result results (field_of_name fields name) >>= λ more. results_from fields more names

-- commas part the names
abbrev pub results_of : List InputField → (names : List ℕ) → Result (List InputField) NamesError
results_of fields names = results_from fields [] (pieces 44 names)

-- the static cells of fields of the main object
abbrev pub result_cells : List InputField → List ℕ
result_cells fields = map (λ field. field_cell field.field) fields

-- a number that a static cell can be found by
abbrev pub HasLowNumber : InputField → Type 0
HasLowNumber field = field.field < 2 ^ 20

-- what a function returned, seen by `view`, is what reading gives, unless memory ran out
abbrev pub NamesFail : NamesError → Result (List InputField) NamesError → Type 0
NamesFail NoMemory read = Unit {0}
NamesFail refusal read = read ≡ Err refusal

abbrev pub NamesGive : {X : Type 0} → (X → List InputField) → Result X NamesError
    → Result (List InputField) NamesError → Type 0
NamesGive view (Ok x) read = read ≡ Ok (view x)
NamesGive view (Err e) read = NamesFail e read
