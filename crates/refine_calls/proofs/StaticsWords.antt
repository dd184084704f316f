-- The static cells of an image are words.
use Rattle.std.proofs.Common.{◌≡◌, ℕ, zero, suc, ◌+◌, ◌<◌, ◌≤◌, ◌^◌, List, [], ◌∷◌, ◌++◌, length, sym, ap, ◌∙◌, subst}
use Rattle.std.proofs.Common.{arith, length-append, refl}
use Rattle.std.proofs.lemmas.List.{length-replicate}
use Rattle.std.specs.Prelude.{replicate, slice_set}
use Rattle.std.specs.List.{All}
use Rattle.method_calls.specs.code_conventions.declared.memory.TheConstants.{HEADER_WORDS, COUNT_WORD}
use Rattle.method_calls.specs.code_conventions.Header.{header}
use Rattle.method_calls.specs.rpp_tree.Tree.{Source}
use Rattle.buddy_pisa.specs.pisa_isa.Image.{Segments}
use Rattle.buddy_pisa.specs.pisa_isa.declared.image.TheConstants.{MOST_STATICS}
use Rattle.method_calls.specs.class_rules.Classes.{main_of}
use Rattle.method_calls.specs.roopl_semantics.Source.{main_fields}
use Rattle.method_calls.specs.roopl_semantics.Layout.{HasStatics, table_at, main_statics, tables}
use Rattle.method_calls.proofs.refine_frame_laws.TableWords.{table_place, table_offset}
use Rattle.refine_calls.proofs.Bridge.{set_words}
use Rattle.refine_calls.proofs.MainFit.{AllWords, words_append, words_cons, no_words, zero_words}

places_words : (size : ℕ) (p : List ℕ) → All (λ (at : ℕ). at < size) p → size < 2 ^ 32 → AllWords p
places_words size [] h l = no_words
places_words size (x ∷ p) h l = words_cons x p (let q : x < size = h 0 x (omega arith) in omega (arith, q, l))
    (places_words size p (λ k d g. h (suc k) d (omega arith)) l)

tables_words : (size number : ℕ) (places : List (List ℕ)) → All (λ (p : List ℕ). All (λ (at : ℕ). at < size) p) places
    → size < 2 ^ 32 → number + length places < 2 ^ 32 → AllWords (tables number places)
tables_words size number [] h l m = no_words
tables_words size number (p ∷ places) h l m =
    words_cons number (p ++ tables (number + 1) places) (omega (arith, m))
    (words_append p (tables (number + 1) places) (places_words size p (h 0 p (omega arith)) l)
    (tables_words size (number + 1) places (λ k d g. h (suc k) d (omega arith)) l (omega (arith, m))))

tables_long : (number : ℕ) (places : List (List ℕ)) → length places ≤ length (tables number places)
tables_long number [] = omega arith
tables_long number (p ∷ places) = let r = tables_long (number + 1) places in let a =
    length-append p (tables (number + 1) places) in omega (arith, r, a)

pub offset_low : (number : ℕ) (places : List (List ℕ)) (class : ℕ)
    → table_offset places class ≤ length (tables number places)
offset_low number [] class = omega arith
offset_low number (p ∷ places) zero = omega arith
offset_low number (p ∷ places) (suc class) = let r = offset_low (number + 1) places class in let a =
    length-append p (tables (number + 1) places) in omega (arith, r, a)

-- a header's words are 0 except for its head and its reference count
pub header_is : (head count : ℕ)
    → header head count ≡ slice_set (slice_set (replicate HEADER_WORDS 0) 0 head) COUNT_WORD count
header_is head count = refl

header_words : (head count : ℕ) → head < 2 ^ 32 → count < 2 ^ 32 → AllWords (header head count)
header_words head count h g =
    let zeros = replicate HEADER_WORDS 0 in
    subst AllWords (sym (header_is head count)) (record {
      each = set_words (slice_set zeros 0 head) COUNT_WORD count
          (set_words zeros 0 head (zero_words HEADER_WORDS).each h) g;
    })

pub statics_words : (program : Source) (image : Segments) (has : HasStatics program image)
    → length image.statics ≤ MOST_STATICS → length image.code < 2 ^ 32
    → (main_of program).class ≤ length program.classes
    → AllWords image.statics
statics_words program image has few short inside =
    let places = has.places in
    let main = main_statics program in
    let total : length image.statics ≡ length main + length (tables 1 places) = ap (length {A = ℕ}) has.words
    ∙ length-append main (tables 1 places) in
    let front : length main ≡ HEADER_WORDS + length (main_fields program) =
    omega (arith, length-replicate {A = ℕ} (length (main_fields program)) 0) in
    let long = tables_long 1 places in
    let low = offset_low 1 places (main_of program).class in
    let table = table_place program image has (main_of program).class inside in
    let main_word : table_at program (main_of program).class < 2 ^ 32 = omega (arith, table, low, total, front, few) in
    subst AllWords (sym has.words) (words_append main (tables 1 places)
    (words_append (header (table_at program (main_of program).class) 1) (replicate (length (main_fields program)) 0)
    (header_words (table_at program (main_of program).class) 1 main_word (omega arith))
    (zero_words (length (main_fields program))))
    (tables_words (length image.code) 1 places has.in_code short (omega (arith, long, total, few))))
