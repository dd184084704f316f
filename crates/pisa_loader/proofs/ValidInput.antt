-- What is read are words for known fields, for none twice.
use Rattle.std.proofs.Common.{◌≡◌, refl, ap, subst, ℕ, ◌+◌, ◌^◌, Bool, true, false, not, ◌||◌, cond, List, []}
use Rattle.std.proofs.Common.{◌∷◌, ◌++◌, Option, Some, None, Result, Ok, Err, arith}
use Rattle.std.specs.Prelude.{nat_eq, nat_le, nat_lt, IfOk, IsTrue}
use Rattle.std.specs.List.{All, list_all, slice_split}
use Rattle.std.specs.Str.{bytes_eq}
use Rattle.std.proofs.lemmas.Bool.{eq-eqb, and_parts}
use Rattle.std.proofs.lemmas.Bool.Decides.{nat_tests}
use Rattle.std.proofs.lemmas.Option.{cond_some}
use Rattle.std.proofs.lemmas.List.Elements.{All-append, All-cons}
use Rattle.pisa_machine.specs.rpp_words.Words.{IsWord, negated}
use Rattle.pisa_machine.specs.rpp_words.declared.input.FieldWord.{FieldWord}
use Rattle.pisa_machine.specs.rpp_words.declared.input.Input.{Input}
use Rattle.pisa_image.proofs.Many.{bind_ok}
use Rattle.pisa_loader.specs.declared.error.LoadError.{LoadError}
use Rattle.pisa_loader.specs.declared.error.LoadError.TheVariants.{UnknownField}
use Rattle.pisa_loader.specs.declared.input.InputField.{InputField}
use Rattle.pisa_loader.specs.States.{Gives}
use Rattle.pisa_loader.specs.InputLines.{is_blank, word_up_to, entry_in, Entry, field_named, is_set, next_word, entry_word}
use Rattle.pisa_loader.specs.InputLines.{line_word, with_field_word, words_from, input_of, is_field, set_none_twice, AreInput}
use Rattle.pisa_machine.specs.rpp_words.Texts.{decimal_from}
use Rattle.pisa_loader.proofs.InputForm.{line_found}

or_true : (b c : Bool) → c ≡ true → (b || c) ≡ true
or_true true c e = refl
or_true false c e = e

named_is_field : (fields : List InputField) (name : List ℕ) (field : ℕ) → field_named fields name ≡ Some field
    → is_field fields field ≡ true
named_is_field [] name field e = absurd cc
named_is_field (known ∷ fields) name field e = by_test (bytes_eq known.name name) e (named_is_field fields name field)
  where
    by_test : (b : Bool) → cond b (Some known.field) (field_named fields name) ≡ Some field
        → (field_named fields name ≡ Some field → is_field fields field ≡ true)
        → (nat_eq known.field field || is_field fields field) ≡ true
    by_test true e later = let same : known.field ≡ field = cc in
        ap (λ b. b || is_field fields field) (eq-eqb known.field field same)
    by_test false e later = or_true (nat_eq known.field field) (is_field fields field) (later e)

word_small : (minus : Bool) (number word : ℕ) → word_up_to minus number ≡ Some word → IsWord word
word_small true number word e = let g = cond_some (nat_le number (2 ^ 31)) (negated number) word e in
    subst IsWord g.1 (below number)
  where
    below : (number : ℕ) → IsWord (negated number)
    below number = omega arith
word_small false number word e =
    let g = cond_some (nat_lt number (2 ^ 31)) number word e in
    subst IsWord g.1 (below number g.0)
  where
    below : (number : ℕ) → nat_lt number (2 ^ 31) ≡ true → IsWord number
    below number t = grind (arith, nat_tests)

-- what a line may add
abbrev Adds : List InputField → List FieldWord → Option FieldWord → Type 0
Adds fields words None = Unit {0}
Adds fields words (Some r) = (is_field fields r.field ≡ true) × (is_set words r.field ≡ false) × IsWord r.word

fresh : (b : Bool) (e : LoadError) (r : FieldWord) (o : Option FieldWord) → cond b (Err e) (Ok (Some r)) ≡ Ok o
    → (b ≡ false) × (Some r ≡ o)
fresh true e r o h = absurd cc
fresh false e r o h = (refl, cc)

field_adds : (fields : List InputField) (line : ℕ) (words : List FieldWord) (name : List ℕ) (word : ℕ) → IsWord word
    → (f : Option ℕ) → field_named fields name ≡ f
    → (o : Option FieldWord) → next_word line words f word ≡ Ok o → Adds fields words o
field_adds fields line words name word w None n o e = absurd cc
field_adds fields line words name word w (Some field) n o e =
    let g = fresh (is_set words field) (UnknownField line) (record { field = field; word = word }) o e in
    subst (Adds fields words) g.1 (named_is_field fields name field n, g.0, w)

entry_adds : (fields : List InputField) (line : ℕ) (words : List FieldWord) (text : List ℕ) (found : Option Entry)
    → entry_in text ≡ found
    → (o : Option FieldWord) → entry_word fields line words found ≡ Ok o → Adds fields words o
entry_adds fields line words text None f o e = absurd cc
entry_adds fields line words text (Some entry) f o e =
    let s = line_found text entry f in
    field_adds fields line words entry.name entry.word (word_small s.parts.minus (decimal_from 0 s.parts.digits)
    entry.word s.in_range) (field_named fields entry.name) refl o e

abbrev read_as : Option FieldWord → Result (Option FieldWord) LoadError
read_as o = Ok o

none_adds : (fields : List InputField) (words : List FieldWord) (o : Option FieldWord) → read_as None ≡ read_as o
    → Adds fields words o
none_adds fields words None h = tt
none_adds fields words (Some r) h = absurd cc

line_adds : (fields : List InputField) (line : ℕ) (words : List FieldWord) (text : List ℕ) (o : Option FieldWord)
    → line_word fields line words text ≡ Ok o → Adds fields words o
line_adds fields line words text o e = by_test (list_all is_blank text) e
  where
    by_test : (b : Bool) → cond b (Ok None) (entry_word fields line words (entry_in text)) ≡ Ok o → Adds fields words o
    by_test true h = none_adds fields words o h
    by_test false h = entry_adds fields line words text (entry_in text) refl o h

-- one word more

apart : (b c : Bool) → (b || c) ≡ false → (b ≡ false) × (c ≡ false)
apart true c e = absurd cc
apart false c e = (refl, e)

set_more : (words : List FieldWord) (r : FieldWord) (field : ℕ) → is_set words field ≡ false
    → nat_eq r.field field ≡ false → is_set (words ++ r ∷ []) field ≡ false
set_more [] r field e d = rw d refl
set_more (x ∷ words) r field e d = let g = apart (nat_eq x.field field) (is_set words field) e in
    rw g.0 (set_more words r field g.1 d)

turn_ne : (a b : ℕ) → nat_eq a b ≡ false → nat_eq b a ≡ false
turn_ne a b e = grind (arith, nat_tests)

once_more : (words : List FieldWord) (r : FieldWord) → set_none_twice words ≡ true → is_set words r.field ≡ false
    → set_none_twice (words ++ r ∷ []) ≡ true
once_more [] r e s = refl
once_more (x ∷ words) r e s =
    let g = and_parts (not (is_set words x.field)) (set_none_twice words) e in
    let h = apart (nat_eq x.field r.field) (is_set words r.field) s in
    let free : is_set (words ++ r ∷ []) x.field ≡ false =
    set_more words r x.field (unset (is_set words x.field) g.0) (turn_ne x.field r.field h.0) in
    rw (free, once_more words r g.1 h.1) refl
  where
    unset : (b : Bool) → not b ≡ true → b ≡ false
    unset true n = cc
    unset false n = refl

one_more : (fields : List InputField) (words : List FieldWord) (o : Option FieldWord) → AreInput fields words
    → Adds fields words o → AreInput fields (with_field_word words o)
one_more fields words None i a = i
one_more fields words (Some r) i a = record {
  known = All-append (λ word. IsTrue (is_field fields word.field)) words (r ∷ []) i.known
      (one (λ word. IsTrue (is_field fields word.field)) a.0);
  once = once_more words r i.once a.1;
  are_words = All-append (λ word. IsWord word.word) words (r ∷ []) i.are_words (one (λ word. IsWord word.word) a.2);
}
  where
    one : (P : FieldWord → Type 0) → P r → All P (r ∷ [])
    one P p = All-cons P r [] p (λ k d h. absurd (omega arith))

all_lines : (fields : List InputField) (line : ℕ) (words : List FieldWord) (texts : List (List ℕ))
    (read : List FieldWord) → AreInput fields words → words_from fields line words texts ≡ Ok read
    → AreInput fields read
unfolding words_from
all_lines fields line words [] read i e = subst (AreInput fields) (same words read e) i
  where
    given : List FieldWord → Result (List FieldWord) LoadError
    given words = Ok words

    same : (a b : List FieldWord) → given a ≡ given b → a ≡ b
    same a b h = cc
all_lines fields line words (text ∷ texts) read i e =
    let a = bind_ok (line_word fields line words text) (λ word. words_from fields (line + 1) (with_field_word words word)
    texts) read e in
    all_lines fields (line + 1) (with_field_word words a.0) texts read
    (one_more fields words a.0 i (line_adds fields line words text a.0 a.1)) a.2

none_yet : (fields : List InputField) → AreInput fields []
none_yet fields = record {
  known = λ k d h. absurd (omega arith);
  once = refl;
  are_words = λ k d h. absurd (omega arith);
}

pub is_input : (fields : List InputField) (bytes : List ℕ) (r : Result Input LoadError)
    → Gives (λ input. input.words.items) r (input_of fields bytes) → IfOk r (λ input. AreInput fields input.words.items)
is_input fields bytes (Ok input) given = all_lines fields 1 [] (slice_split (λ byte. nat_eq byte 10) bytes)
    input.words.items (none_yet fields) given
is_input fields bytes (Err e) given = tt
