-- The lines of the words after a memory are those of the fields that hold them.
use Rattle.std.proofs.Common.{◌≡◌, ◌∙◌, refl, sym, ap, ℕ, suc, List, [], ◌∷◌, ◌++◌, length, length-append, append_assoc}
use Rattle.std.proofs.Common.{map, Some, arith, slice_get}
use Rattle.std.specs.Prelude.{slice_index}
use Rattle.std.specs.List.{All}
use Rattle.std.specs.Option.{unwrap_or}
use Rattle.std.proofs.lemmas.List.Elements.{All-head, All-tail}
use Rattle.command_plan.specs.pisa_loader.declared.input.InputField.{InputField}
use Rattle.program_runs.specs.run_settings.roopl_semantics.Store.{Value, Word, Nil}
use Rattle.program_runs.specs.run_settings.roopl_semantics.Report.{signed_decimal, value_shown}
use Rattle.refine_wrap.specs.Programs.{field_cell}
use Rattle.wrap_commands.specs.WrapNames.{result_cells}
use Rattle.wrap_commands.specs.WrapShown.{result_line, result_lines, word_lines}

seam : (front : List ℕ) (w : ℕ) (rest : List ℕ) → slice_get (front ++ w ∷ rest) (length front) ≡ Some w
seam [] w rest = refl
seam (x ∷ front) w rest = seam front w rest

-- the field holds the word that the layout has in its cell
abbrev pub Holds : (layout : List ℕ) → List Value → InputField → Type 0
Holds layout cells field = slice_get cells field.field ≡ Some (Word (slice_index layout (field_cell field.field)))

pub words_shown : (layout : List ℕ) (cells : List Value) (front : List ℕ) (fields : List InputField)
    → All (Holds layout cells) fields
    → word_lines fields (front ++ map (slice_index layout) (result_cells fields)) (length front)
    ≡ result_lines fields cells
words_shown layout cells front [] all = refl
words_shown layout cells front (field ∷ fields) all =
    let w : ℕ = slice_index layout (field_cell field.field) in
    let rest : List ℕ = map (slice_index layout) (result_cells fields) in
    let own : slice_get cells field.field ≡ Some (Word w) = All-head (Holds layout cells) field fields all in
    let longer : length (front ++ w ∷ []) ≡ suc (length front) = omega (arith, length-append front (w ∷ [])) in
    let further = words_shown layout cells (front ++ w ∷ []) fields (All-tail (Holds layout cells) field fields all) in
    ap (λ o. result_line field.name (signed_decimal (unwrap_or o 0))
    ++ word_lines fields (front ++ w ∷ rest) (suc (length front))) (seam front w rest)
    ∙ ap (λ o. result_line field.name (value_shown [] (unwrap_or o Nil))
    ++ word_lines fields (front ++ w ∷ rest) (suc (length front))) (sym own)
    ∙ ap (λ l. result_line field.name (value_shown [] (unwrap_or (slice_get cells field.field) Nil)) ++ l)
    (ap (λ n. word_lines fields (front ++ w ∷ rest) n) (sym longer)
    ∙ ap (λ xs. word_lines fields xs (length (front ++ w ∷ []))) (sym (append_assoc front (w ∷ []) rest))
    ∙ further)
