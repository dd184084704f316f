-- Reading names one after the other, as a loop does.
use Rattle.std.proofs.Common.{◌≡◌, ◌∙◌, refl, sym, ap, ℕ, ◌+◌, ◌<◌, ◌≤◌, List, [], ◌∷◌, length, map, drop, get_or}
use Rattle.std.proofs.Common.{length-drop, Result, Ok, Err, arith}
use Rattle.std.proofs.lemmas.List.{nil_from_length, drop_more}
use Rattle.command_plan.specs.pisa_loader.declared.input.InputField.{InputField}
use Rattle.wrap_commands.specs.declared.error.NamesError.{NamesError}
use Rattle.wrap_commands.specs.declared.error.NamesError.TheVariants.{UnknownResult, NoMemory}
use Rattle.wrap_commands.specs.WrapNames.{field_of_name, with_result, results_from, NamesFail}

pub fails_with : (e : NamesError) (inner whole : Result (List InputField) NamesError)
    → ((r : NamesError) → inner ≡ Err r → whole ≡ Err r) → NamesFail e inner → NamesFail e whole
fails_with NoMemory inner whole go f = tt
fails_with (UnknownResult at) inner whole go f = go (UnknownResult at) f

name_read : (fields results more : List InputField) (name : List ℕ) (names : List (List ℕ))
    → with_result results (field_of_name fields name) ≡ Ok more
    → results_from fields results (name ∷ names) ≡ results_from fields more names
unfolding results_from
name_read fields results more name names e = rw e refl

name_refused : (fields results : List InputField) (name : List ℕ) (names : List (List ℕ)) (r : NamesError)
    → with_result results (field_of_name fields name) ≡ Err r
    → results_from fields results (name ∷ names) ≡ Err r
unfolding results_from
name_refused fields results name names r e = rw e refl

no_name : (fields results : List InputField) → results_from fields results [] ≡ Ok results
unfolding results_from
no_name fields results = refl

pub goes_on : {A : Type 0} (f : A → List ℕ) (fields seen results more : List InputField) (items : List A) (i : ℕ)
    (d : A) (total : Result (List InputField) NamesError)
    → i < length items → seen ≡ results → with_result seen (field_of_name fields (f (get_or items i d))) ≡ Ok more
    → results_from fields results (map f (drop i items)) ≡ total
    → results_from fields more (map f (drop (i + 1) items)) ≡ total
goes_on f fields seen results more items i d total inside same e so_far =
    let read : with_result results (field_of_name fields (f (get_or items i d))) ≡ Ok more =
    ap (λ (xs : List InputField). with_result xs (field_of_name fields (f (get_or items i d)))) (sym same) ∙ e in
    sym (name_read fields results more (f (get_or items i d)) (map f (drop (i + 1) items)) read)
    ∙ ap (results_from fields results) (sym (ap (map f) (drop_more items i d inside))) ∙ so_far

pub stops : {A : Type 0} (f : A → List ℕ) (fields seen results : List InputField) (items : List A) (i : ℕ) (d : A)
    (r : NamesError) (total : Result (List InputField) NamesError)
    → i < length items → seen ≡ results → with_result seen (field_of_name fields (f (get_or items i d))) ≡ Err r
    → results_from fields results (map f (drop i items)) ≡ total → total ≡ Err r
stops f fields seen results items i d r total inside same e so_far =
    let read : with_result results (field_of_name fields (f (get_or items i d))) ≡ Err r =
    ap (λ (xs : List InputField). with_result xs (field_of_name fields (f (get_or items i d)))) (sym same) ∙ e in
    sym so_far ∙ ap (results_from fields results) (ap (map f) (drop_more items i d inside))
    ∙ name_refused fields results (f (get_or items i d)) (map f (drop (i + 1) items)) r read

pub is_done : {A : Type 0} (f : A → List ℕ) (fields results : List InputField) (items : List A) (i : ℕ)
    (total : Result (List InputField) NamesError)
    → length items ≤ i → results_from fields results (map f (drop i items)) ≡ total → total ≡ Ok results
is_done {A = A} f fields results items i total le so_far =
    let none : drop i items ≡ [] = nil_from_length (drop i items) (omega (arith, length-drop i items)) in
    sym so_far ∙ ap (λ (xs : List A). results_from fields results (map f xs)) none ∙ no_name fields results
