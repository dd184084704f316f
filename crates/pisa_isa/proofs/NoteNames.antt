-- The names of an image's notes are ASCII.
use Rattle.std.proofs.Common.{◌≡◌, ℕ, ◌-◌, ◌<◌, true, List, [], ◌∷◌, length, arith}
use Rattle.std.specs.Char.{is_ascii_alphabetic}
use Rattle.std.specs.List.{All, list_all}
use Rattle.std.specs.Str.{IsAscii}
use Rattle.std.proofs.lemmas.Bool.{and_parts}
use Rattle.std.proofs.lemmas.Bool.Decides.{nat_tests}
use Rattle.std.proofs.lemmas.List.Elements.{All-nil, All-cons}
use Rattle.std.proofs.lemmas.List.Sums.{AllPass-from_list_all}
use Rattle.std.proofs.lemmas.Str.Ascii.{IsAscii-nil, IsAscii-cons}
use Rattle.rpp_words.specs.Names.{is_name_byte}
use Rattle.rpp_words.proofs.AsciiNames.{name_bytes_ascii}
use Rattle.pisa_isa.specs.declared.notes.TheConstants.{MOST_NAME_BYTES}
use Rattle.pisa_isa.specs.declared.notes.FieldName.{FieldName}
use Rattle.pisa_isa.specs.Image.{Segments}
use Rattle.pisa_isa.specs.Notes.{NoteLists, HasAsciiText, is_name, name_fits, names_fit, fits}
use Rattle.pisa_isa.proofs.Noting.{fitting}

letter_ascii : (b : ℕ) → is_ascii_alphabetic b ≡ true → b < 128
letter_ascii b is = grind (arith, nat_tests)

name_ascii : (text : List ℕ) → is_name text ≡ true → IsAscii text
name_ascii [] is = IsAscii-nil
name_ascii (first ∷ rest) is =
    let p = and_parts (is_ascii_alphabetic first) (list_all is_name_byte rest) is in
    IsAscii-cons first rest (letter_ascii first p.0)
    (name_bytes_ascii rest (AllPass-from_list_all is_name_byte rest p.1))

all_ascii : (statics left : ℕ) (names : List FieldName) → names_fit statics left names ≡ true → All HasAsciiText names
all_ascii statics left [] e = All-nil HasAsciiText
all_ascii statics left (n ∷ names) e =
    let p = and_parts (name_fits statics left n) (names_fit statics (left - length n.text) names) e in
    let q = and_parts _ (is_name n.text) p.0 in
    All-cons HasAsciiText n names (name_ascii n.text q.1) (all_ascii statics (left - length n.text) names p.1)

pub ascii_names : (image : Segments) (notes : NoteLists) → fits image notes ≡ true → All HasAsciiText notes.names
ascii_names image notes e = all_ascii (length image.statics) MOST_NAME_BYTES notes.names (fitting image notes e).names
