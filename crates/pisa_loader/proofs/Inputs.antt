-- Reading the lines of an input one after the other, as a loop does.
use Rattle.std.proofs.Common.{◌≡◌, ◌∙◌, refl, sym, ap, ℕ, ◌+◌, ◌<◌, ◌≤◌, Bool, List, [], ◌∷◌, length, map, drop, get_or}
use Rattle.std.proofs.Common.{length-drop, Option, Result, Ok, Err, arith}
use Rattle.std.specs.List.{slice_split}
use Rattle.std.proofs.lemmas.List.{nil_from_length, length-map, drop_more}
use Rattle.std.proofs.lemmas.List.Splits.{length-slice_split}
use Rattle.std.proofs.lemmas.List.Sums.{count_by-le-length}
use Rattle.pisa_machine.specs.rpp_words.declared.input.FieldWord.{FieldWord}
use Rattle.pisa_loader.specs.declared.error.LoadError.{LoadError}
use Rattle.pisa_loader.specs.declared.input.InputField.{InputField}
use Rattle.pisa_loader.specs.InputLines.{line_word, with_field_word, words_from}

pub line_read : (fields : List InputField) (line : ℕ) (words : List FieldWord) (text : List ℕ) (texts : List (List ℕ))
    (o : Option FieldWord) → line_word fields line words text ≡ Ok o
    → words_from fields line words (text ∷ texts) ≡ words_from fields (line + 1) (with_field_word words o) texts
unfolding words_from
line_read fields line words text texts o e = rw e refl

pub line_refused : (fields : List InputField) (line : ℕ) (words : List FieldWord) (text : List ℕ)
    (texts : List (List ℕ)) (r : LoadError) → line_word fields line words text ≡ Err r
    → words_from fields line words (text ∷ texts) ≡ Err r
unfolding words_from
line_refused fields line words text texts r e = rw e refl

pub no_line : (fields : List InputField) (line : ℕ) (words : List FieldWord)
    → words_from fields line words [] ≡ Ok words
unfolding words_from
no_line fields line words = refl

pub goes_on : {A : Type 0} (f : A → List ℕ) (fields : List InputField) (line : ℕ)
    (seen words more_words : List FieldWord) (o : Option FieldWord) (items : List A) (i : ℕ) (d : A)
    (total : Result (List FieldWord) LoadError)
    → i < length items → seen ≡ words → line_word fields line seen (f (get_or items i d)) ≡ Ok o
    → more_words ≡ with_field_word words o
    → words_from fields line words (map f (drop i items)) ≡ total
    → words_from fields (line + 1) more_words (map f (drop (i + 1) items)) ≡ total
goes_on f fields line seen words more_words o items i d total more same e w so_far =
    let read : line_word fields line words (f (get_or items i d)) ≡ Ok o =
    ap (λ (xs : List FieldWord). line_word fields line xs (f (get_or items i d))) (sym same) ∙ e in
    rw w (sym (line_read fields line words (f (get_or items i d)) (map f (drop (i + 1) items)) o read)
    ∙ ap (words_from fields line words) (sym (ap (map f) (drop_more items i d more))) ∙ so_far)

pub stops : {A : Type 0} (f : A → List ℕ) (fields : List InputField) (line : ℕ) (seen words : List FieldWord)
    (items : List A) (i : ℕ) (d : A) (r : LoadError) (total : Result (List FieldWord) LoadError)
    → i < length items → seen ≡ words → line_word fields line seen (f (get_or items i d)) ≡ Err r
    → words_from fields line words (map f (drop i items)) ≡ total → total ≡ Err r
stops f fields line seen words items i d r total more same e so_far =
    let read : line_word fields line words (f (get_or items i d)) ≡ Err r =
    ap (λ (xs : List FieldWord). line_word fields line xs (f (get_or items i d))) (sym same) ∙ e in
    sym so_far ∙ ap (words_from fields line words) (ap (map f) (drop_more items i d more))
    ∙ line_refused fields line words (f (get_or items i d)) (map f (drop (i + 1) items)) r read

pub is_done : {A : Type 0} (f : A → List ℕ) (fields : List InputField) (line : ℕ) (words : List FieldWord)
    (items : List A) (i : ℕ) (total : Result (List FieldWord) LoadError)
    → length items ≤ i → words_from fields line words (map f (drop i items)) ≡ total → total ≡ Ok words
is_done {A = A} f fields line words items i total le so_far =
    let none : drop i items ≡ [] = nil_from_length (drop i items) (omega (arith, length-drop i items)) in
    sym so_far ∙ ap (λ (xs : List A). words_from fields line words (map f xs)) none ∙ no_line fields line words

pub few_lines : {A : Type 0} (f : A → List ℕ) (items : List A) (ends : ℕ → Bool) (bytes : List ℕ)
    → map f items ≡ slice_split ends bytes → length items ≤ length bytes + 1
few_lines f items ends bytes e = omega (
  arith,
  ap length e,
  length-map items f,
  length-slice_split ends bytes,
  count_by-le-length ends bytes,
)
