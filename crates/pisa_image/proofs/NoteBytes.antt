-- What is read as notes is their bytes and fits, and the bytes of notes that fit are read as them.
use Rattle.std.proofs.Common.{◌≡◌, ℕ, zero, suc, ◌+◌, ◌-◌, ◌*◌, ◌^◌, ◌<◌, ◌≤◌, Bool, true, List, [], ◌∷◌}
use Rattle.std.proofs.Common.{◌++◌, length, Result, Ok, Err, refl, sym, ap, subst, ◌∙◌, append_assoc, arith}
use Rattle.std.specs.Prelude.{nat_le, nat_lt, ◌&&◌}
use Rattle.std.specs.List.{All, flat_map, list_all, AllByRecursion}
use Rattle.std.proofs.lemmas.List.Elements.{All-from_recursion}
use Rattle.std.specs.Char.{is_ascii_alphabetic}
use Rattle.std.proofs.lemmas.Bool.{and_parts, and_from, le-leb}
use Rattle.std.proofs.lemmas.Bool.Decides.{nat_tests}
use Rattle.std.proofs.lemmas.List.{append-nil}
use Rattle.std.proofs.lemmas.List.Concat.{flat_map-cons}
use Rattle.pisa_isa.specs.rpp_words.Words.{IsWord}
use Rattle.pisa_isa.specs.rpp_words.declared.input.TheConstants.{FIXED_CELLS}
use Rattle.pisa_isa.specs.rpp_words.Names.{is_name_byte}
use Rattle.pisa_isa.specs.declared.image.TheConstants.{MOST_CELLS, MOST_STATICS}
use Rattle.pisa_isa.specs.declared.notes.TheConstants.{MOST_MARKS, LAST_PLACE, MOST_NAMES, MOST_NAME_BYTES}
use Rattle.pisa_isa.specs.declared.notes.Mark.{Mark}
use Rattle.pisa_isa.specs.declared.notes.FieldName.{FieldName}
use Rattle.pisa_isa.specs.Notes.{NoteLists, is_name, is_within, mark_fits, marks_fit, name_fits}
use Rattle.pisa_isa.specs.Notes.{names_fit, notes_fit}
use Rattle.pisa_image.specs.declared.error.ImageError.{ImageError}
use Rattle.pisa_image.specs.declared.error.ImageError.TheVariants.{ImageField}
use Rattle.pisa_image.specs.Numbers.{◌>>=◌, word_bytes, many_at}
use Rattle.pisa_image.specs.ImageBytes.{mark_bytes, name_bytes, notes_bytes}
use Rattle.pisa_image.specs.Reading.{number_between, mark_at, marks_at, tested_byte, text_at, name_at}
use Rattle.pisa_image.specs.Reading.{names_at, notes_at}
use Rattle.pisa_image.proofs.Many.{IsBytes, Takes, takes_then, bind_ok, ok_is, TakesItsText, ReadsAgain, many_take}
use Rattle.pisa_image.proofs.Many.{many_again}
use Rattle.pisa_image.proofs.Cells.{passed, tested_takes, tested_again}

-- numbers of a range

pub record Between (low high n : ℕ) (bytes rest : List ℕ) : Type 0 where
  pub takes : Takes bytes (word_bytes n) rest
  pub from : low ≤ n
  pub to : n ≤ high

pub between_takes : (low high at : ℕ) (bytes : List ℕ) (x : ℕ × List ℕ) → IsBytes bytes
    → number_between low high at bytes ≡ Ok x → Between low high x.0 bytes x.1
between_takes low high at bytes x fits e =
    let t = tested_takes (λ n. nat_le low n && nat_le n high) (ImageField at) at bytes x fits e in
    let p = and_parts (nat_le low x.0) (nat_le x.0 high) t.2 in
    record { takes = t.0; from = grind (arith, nat_tests); to = grind (arith, nat_tests) }

from_le_test : (a b : ℕ) → nat_le a b ≡ true → a ≤ b
from_le_test a b h = grind (arith, nat_tests)

lt_test : (a b : ℕ) → a < b → nat_lt a b ≡ true
lt_test a b h = grind (arith, nat_tests)

from_lt_test : (a b : ℕ) → nat_lt a b ≡ true → a < b
from_lt_test a b h = grind (arith, nat_tests)

pub between_again : (low high at n : ℕ) (rest : List ℕ) → low ≤ n → n ≤ high → IsWord n
    → number_between low high at (word_bytes n ++ rest) ≡ Ok (n, rest)
between_again low high at n rest from to word =
    tested_again (λ k. nat_le low k && nat_le k high) (ImageField at) at n rest word
    (and_from _ _ (le-leb low n from) (le-leb n high to))

-- marks

mark_takes : (cells : ℕ) → TakesItsText (mark_at cells) mark_bytes (λ m. mark_fits cells m ≡ true)
unfolding mark_at
mark_takes cells at bytes x fits e =
    let a = bind_ok (number_between 0 cells at bytes) (λ first. number_between first.0 cells (at + 4) first.1 >>= λ end.
    number_between 0 LAST_PLACE (at + 8) end.1 >>= λ place. Ok
    (record { first = first.0; end = end.0; at = place.0 }, place.1)) x e in
    let b = bind_ok (number_between a.0.0 cells (at + 4) a.0.1)
    (λ end. number_between 0 LAST_PLACE (at + 8) end.1 >>= λ place. Ok
    (record { first = a.0.0; end = end.0; at = place.0 }, place.1)) x a.2 in
    let c = bind_ok (number_between 0 LAST_PLACE (at + 8) b.0.1)
    (λ place. Ok (record { first = a.0.0; end = b.0.0; at = place.0 }, place.1)) x b.2 in
    let ta = between_takes 0 cells at bytes a.0 fits a.1 in
    let tb = between_takes a.0.0 cells (at + 4) a.0.1 b.0 ta.takes.rest_fits b.1 in
    let tc = between_takes 0 LAST_PLACE (at + 8) b.0.1 c.0 tb.takes.rest_fits c.1 in
    let mark : Mark = record { first = a.0.0; end = b.0.0; at = c.0.0 } in
    let made : Mark × List ℕ = (mark, c.0.1) in
    let ab = takes_then bytes (word_bytes a.0.0) a.0.1 (word_bytes b.0.0) b.0.1 ta.takes tb.takes in
    let abc = takes_then bytes (word_bytes a.0.0 ++ word_bytes b.0.0) b.0.1 (word_bytes c.0.0) c.0.1 ab tc.takes in
    let fit : mark_fits cells mark ≡ true = and_from (is_within cells mark) _
    (and_from _ _ (le-leb _ _ tb.from) (le-leb _ _ tb.to)) (le-leb _ _ tc.to) in
    subst (λ (y : Mark × List ℕ). Takes bytes (mark_bytes y.0) y.1 × (mark_fits cells y.0 ≡ true)) (ok_is made x c.2)
    (abc, fit)

mark_again : (cells : ℕ) → cells ≤ MOST_CELLS → ReadsAgain (mark_at cells) mark_bytes (λ m. mark_fits cells m ≡ true)
unfolding mark_at
mark_again cells most at m rest fit =
    let p = and_parts (is_within cells m) (nat_le m.at LAST_PLACE) fit in
    let q = and_parts (nat_le m.first m.end) (nat_le m.end cells) p.0 in
    let ordered : m.first ≤ m.end = from_le_test _ _ q.0 in
    let in_code : m.end ≤ cells = from_le_test _ _ q.1 in
    let in_source : m.at ≤ LAST_PLACE = from_le_test _ _ p.1 in
    let grouped : mark_bytes m ++ rest ≡ word_bytes m.first ++ (word_bytes m.end ++ (word_bytes m.at ++ rest)) = refl in
    let a = between_again 0 cells at m.first (word_bytes m.end ++ (word_bytes m.at ++ rest)) (omega arith) (omega arith)
    (omega arith) in
    let b = between_again m.first cells (at + 4) m.end (word_bytes m.at ++ rest) ordered in_code (omega arith) in
    let c = between_again 0 LAST_PLACE (at + 8) m.at rest (omega arith) in_source (omega arith) in
    rw (a, b, c) refl

each_by_recursion : {A : Type 0} (p : A → Bool) (xs : List A) → list_all p xs ≡ true
    → AllByRecursion (λ x. p x ≡ true) xs
each_by_recursion p [] e = tt
each_by_recursion p (x ∷ xs) e = let q = and_parts (p x) (list_all p xs) e in (q.0, each_by_recursion p xs q.1)

from_each : {A : Type 0} (p : A → Bool) (xs : List A) → AllByRecursion (λ x. p x ≡ true) xs → list_all p xs ≡ true
from_each p [] h = refl
from_each p (x ∷ xs) h = and_from (p x) (list_all p xs) h.0 (from_each p xs h.1)

pub record MarksRead (cells count : ℕ) (bytes : List ℕ) (x : List Mark × List ℕ) : Type 0 where
  pub takes : Takes bytes (flat_map mark_bytes x.0) x.1
  pub len : length x.0 ≡ count
  pub fit : list_all (mark_fits cells) x.0 ≡ true

pub marks_take : (cells count at : ℕ) (bytes : List ℕ) (x : List Mark × List ℕ) → IsBytes bytes
    → marks_at cells count at bytes ≡ Ok x → MarksRead cells count bytes x
marks_take cells count at bytes x fits e =
    let t = many_take (mark_at cells) 12 mark_bytes (λ m. mark_fits cells m ≡ true) (mark_takes cells) count at bytes x
    fits e in
    record { takes = t.0; len = t.1; fit = from_each (mark_fits cells) x.0 t.2 }

marks_again : (cells at : ℕ) (marks : List Mark) (rest : List ℕ) → cells ≤ MOST_CELLS
    → list_all (mark_fits cells) marks ≡ true → marks_at cells (length marks) at (flat_map mark_bytes marks ++ rest)
    ≡ Ok (marks, rest)
marks_again cells at marks rest most fit =
    many_again (mark_at cells) 12 mark_bytes (λ m. mark_fits cells m ≡ true) (mark_again cells most) marks at rest
    (each_by_recursion (mark_fits cells) marks fit)

-- bytes of names

abbrev alone : ℕ → List ℕ
alone byte = byte ∷ []

flat_alone : (bytes : List ℕ) → flat_map alone bytes ≡ bytes
flat_alone [] = refl
flat_alone (b ∷ bytes) = flat_map-cons alone b bytes ∙ ap (λ (t : List ℕ). b ∷ t) (flat_alone bytes)

behind : (b : ℕ) (bytes : List ℕ) → IsBytes (b ∷ bytes) → IsBytes bytes
behind b bytes h i = h (suc i)

byte_takes : (passes : ℕ → Bool) → TakesItsText (tested_byte passes) alone (λ b. passes b ≡ true)
byte_takes passes at [] x fits e = absurd cc
byte_takes passes at (b ∷ rest) x fits e =
    let g = passed (passes b) (ImageField at) (b, rest) x e in
    subst (λ (y : ℕ × List ℕ). Takes (b ∷ rest) (y.0 ∷ []) y.1 × (passes y.0 ≡ true)) g.1
    (record { parts = refl; rest_fits = behind b rest fits }, g.0)

byte_again : (passes : ℕ → Bool) → ReadsAgain (tested_byte passes) alone (λ b. passes b ≡ true)
byte_again passes at b rest h = rw h refl

record TextRead (count : ℕ) (bytes : List ℕ) (x : List ℕ × List ℕ) : Type 0 where
  takes : Takes bytes x.0 x.1
  len : length x.0 ≡ count
  name : is_name x.0 ≡ true

text_takes : (count at : ℕ) (bytes : List ℕ) (x : List ℕ × List ℕ) → 1 ≤ count → IsBytes bytes
    → text_at count at bytes ≡ Ok x → TextRead count bytes x
unfolding text_at
text_takes count at bytes x some fits e =
    let a = bind_ok (tested_byte is_ascii_alphabetic at bytes)
    (λ first. many_at (tested_byte is_name_byte) 1 (count - 1) (at + 1) first.1 >>= λ others. Ok
    (first.0 ∷ others.0, others.1)) x e in
    let b = bind_ok (many_at (tested_byte is_name_byte) 1 (count - 1) (at + 1) a.0.1)
    (λ others. Ok (a.0.0 ∷ others.0, others.1)) x a.2 in
    let ta = byte_takes is_ascii_alphabetic at bytes a.0 fits a.1 in
    let tb = many_take (tested_byte is_name_byte) 1 alone (λ b. is_name_byte b ≡ true) (byte_takes is_name_byte)
    (count - 1) (at + 1) a.0.1 b.0 ta.0.rest_fits b.1 in
    let flat : Takes a.0.1 b.0.0 b.0.1 = subst (λ (t : List ℕ). Takes a.0.1 t b.0.1) (flat_alone b.0.0) tb.0 in
    let both = takes_then bytes (a.0.0 ∷ []) a.0.1 b.0.0 b.0.1 ta.0 flat in
    let made : List ℕ × List ℕ = (a.0.0 ∷ b.0.0, b.0.1) in
    let counted : length (a.0.0 ∷ b.0.0) ≡ count = omega (arith, tb.1) in
    subst (TextRead count bytes) (ok_is made x b.2)
    (record {
      takes = both;
      len = counted;
      name = and_from (is_ascii_alphabetic a.0.0) _ ta.1
          (from_each is_name_byte b.0.0 tb.2);
    })

text_again : (at : ℕ) (text rest : List ℕ) → is_name text ≡ true
    → text_at (length text) at (text ++ rest) ≡ Ok (text, rest)
unfolding text_at
text_again at [] rest e = absurd cc
text_again at (first ∷ text) rest e =
    let p = and_parts (is_ascii_alphabetic first) (list_all is_name_byte text) e in
    let a = byte_again is_ascii_alphabetic at first (text ++ rest) p.0 in
    let flat : text ++ rest ≡ flat_map alone text ++ rest = ap (λ (t : List ℕ). t ++ rest) (sym (flat_alone text)) in
    let one_less : length (first ∷ text) - 1 ≡ length text = omega arith in
    let b : many_at (tested_byte is_name_byte) 1 (length (first ∷ text) - 1) (at + 1) (text ++ rest) ≡ Ok (text, rest) =
    ap (λ k. many_at (tested_byte is_name_byte) 1 k (at + 1) (text ++ rest)) one_less
    ∙ ap (λ (t : List ℕ). many_at (tested_byte is_name_byte) 1 (length text) (at + 1) t) flat
    ∙ many_again (tested_byte is_name_byte) 1 alone (λ b. is_name_byte b ≡ true) (byte_again is_name_byte) text (at + 1)
    rest (each_by_recursion is_name_byte text p.1) in
    rw (a, b) refl

-- names

pub record NameRead (statics left : ℕ) (bytes : List ℕ) (x : FieldName × List ℕ) : Type 0 where
  pub takes : Takes bytes (name_bytes x.0) x.1
  pub fit : name_fits statics left x.0 ≡ true

name_takes : (statics left at : ℕ) (bytes : List ℕ) (x : FieldName × List ℕ) → IsBytes bytes
    → name_at statics left at bytes ≡ Ok x → NameRead statics left bytes x
unfolding name_at
name_takes statics left at bytes x fits e =
    let a = bind_ok (number_between FIXED_CELLS (FIXED_CELLS + statics - 1) at bytes)
    (λ cell. number_between 1 left (at + 4) cell.1 >>= λ count. text_at count.0 (at + 8) count.1 >>= λ text. Ok
    (record { cell = cell.0; text = text.0 }, text.1)) x e in
    let b = bind_ok (number_between 1 left (at + 4) a.0.1)
    (λ count. text_at count.0 (at + 8) count.1 >>= λ text. Ok (record { cell = a.0.0; text = text.0 }, text.1)) x
    a.2 in
    let c = bind_ok (text_at b.0.0 (at + 8) b.0.1) (λ text. Ok (record { cell = a.0.0; text = text.0 }, text.1)) x b.2
    in
    let ta = between_takes FIXED_CELLS (FIXED_CELLS + statics - 1) at bytes a.0 fits a.1 in
    let tb = between_takes 1 left (at + 4) a.0.1 b.0 ta.takes.rest_fits b.1 in
    let tc = text_takes b.0.0 (at + 8) b.0.1 c.0 tb.from tb.takes.rest_fits c.1 in
    let name : FieldName = record { cell = a.0.0; text = c.0.0 } in
    let made : FieldName × List ℕ = (name, c.0.1) in
    let ab = takes_then bytes (word_bytes a.0.0) a.0.1 (word_bytes b.0.0) b.0.1 ta.takes tb.takes in
    let counted : Takes bytes (word_bytes a.0.0 ++ word_bytes (length c.0.0)) b.0.1 =
    subst (λ (n : ℕ). Takes bytes (word_bytes a.0.0 ++ word_bytes n) b.0.1) (sym tc.len) ab in
    let abc = takes_then bytes (word_bytes a.0.0 ++ word_bytes (length c.0.0)) b.0.1 c.0.0 c.0.1 counted tc.takes in
    let from = ta.from in
    let to = ta.to in
    let most = tb.to in
    let len = tc.len in
    let fit : name_fits statics left name ≡ true =
    and_from _ _ (and_from _ _ (and_from _ _ (le-leb FIXED_CELLS a.0.0 from)
    (lt_test (a.0.0 - FIXED_CELLS) statics (omega arith))) (le-leb (length c.0.0) left (omega arith))) tc.name
    in
    subst (NameRead statics left bytes) (ok_is made x c.2) (record { takes = abc; fit = fit })

record NameFits (statics left : ℕ) (n : FieldName) : Type 0 where
  from : FIXED_CELLS ≤ n.cell
  to : n.cell - FIXED_CELLS < statics
  short : length n.text ≤ left
  name : is_name n.text ≡ true

name_parts : (statics left : ℕ) (n : FieldName) → name_fits statics left n ≡ true → NameFits statics left n
name_parts statics left n e =
    let a = and_parts (nat_le FIXED_CELLS n.cell && nat_lt (n.cell - FIXED_CELLS) statics && nat_le (length n.text)
    left) (is_name n.text) e in
    let b = and_parts (nat_le FIXED_CELLS n.cell && nat_lt (n.cell - FIXED_CELLS) statics) (nat_le (length n.text) left)
    a.0 in
    let c = and_parts (nat_le FIXED_CELLS n.cell) (nat_lt (n.cell - FIXED_CELLS) statics) b.0 in
    record { from = from_le_test _ _ c.0; to = from_lt_test _ _ c.1; short = from_le_test _ _ b.1; name = a.1 }

some_bytes : (text : List ℕ) → is_name text ≡ true → 1 ≤ length text
some_bytes [] e = absurd cc
some_bytes (b ∷ text) e = omega arith

name_again : (statics left at : ℕ) (n : FieldName) (rest : List ℕ) → statics ≤ MOST_STATICS → left ≤ MOST_NAME_BYTES
    → name_fits statics left n ≡ true
    → name_at statics left at (name_bytes n ++ rest) ≡ Ok (n, rest)
unfolding name_at
name_again statics left at n rest few most fit =
    let p = name_parts statics left n fit in
    let from = p.from in
    let to = p.to in
    let short = p.short in
    let some = some_bytes n.text p.name in
    let grouped : name_bytes n ++ rest ≡ word_bytes n.cell ++ (word_bytes (length n.text) ++ (n.text ++ rest)) =
    append_assoc (word_bytes n.cell ++ word_bytes (length n.text)) n.text rest in
    let a = between_again FIXED_CELLS (FIXED_CELLS + statics - 1) at n.cell
    (word_bytes (length n.text) ++ (n.text ++ rest)) from (omega arith) (omega arith) in
    let b = between_again 1 left (at + 4) (length n.text) (n.text ++ rest) some short (omega arith) in
    let c = text_again (at + 8) n.text rest p.name in
    ap (name_at statics left at) grouped ∙ rw (a, b, c) refl

abbrev pub names_front : List FieldName → Result (List FieldName × ℕ × List ℕ) ImageError
    → Result (List FieldName × ℕ × List ℕ) ImageError
names_front front read = read >>= λ x. Ok (front ++ x.0, x.1, x.2)

regroup : (front : List FieldName) (n : FieldName) (read : Result (List FieldName × ℕ × List ℕ) ImageError)
    → names_front front (read >>= λ x. Ok (n ∷ x.0, x.1, x.2)) ≡ names_front (front ++ n ∷ []) read
regroup front n (Ok x) = ap (λ (ns : List FieldName). Ok (ns, x.1, x.2)) (simp append_assoc)
regroup front n (Err f) = refl

pub names_go_on : (front : List FieldName) (statics left count i at : ℕ) (bytes : List ℕ) (n : FieldName)
    (after : List ℕ) (total : Result (List FieldName × ℕ × List ℕ) ImageError) → i < count
    → name_at statics left at bytes ≡ Ok (n, after)
    → names_front front (names_at statics left (count - i) at bytes) ≡ total
    → names_front (front ++ n ∷ []) (names_at statics (left - length n.text) (count - (i + 1)) (at + 8 + length n.text)
    after) ≡ total
unfolding names_at
names_go_on front statics left count i at bytes n after total lt h so_far =
    let k : count - i ≡ suc (count - (i + 1)) = omega arith in
    let one_more : names_front front (names_at statics left (count - i) at bytes)
    ≡ names_front (front ++ n ∷ []) (names_at statics (left - length n.text) (count - (i + 1))
    (at + 8 + length n.text) after) =
    rw (k, h) (regroup front n (names_at statics (left - length n.text) (count - (i + 1)) (at + 8 + length n.text)
    after)) in
    sym one_more ∙ so_far

-- the same, as the loop says it
pub names_next : (front new : List FieldName) (statics left count i at len : ℕ) (bytes : List ℕ) (n : FieldName)
    (after : List ℕ) (total : Result (List FieldName × ℕ × List ℕ) ImageError) → i < count → len ≡ length n.text
    → new ≡ front ++ n ∷ []
    → name_at statics left at bytes ≡ Ok (n, after) → names_front front (names_at statics left (count - i) at bytes)
    ≡ total → names_front new (names_at statics (left - len) (count - (i + 1)) (at + (8 + len)) after) ≡ total
names_next front new statics left count i at len bytes n after total lt e pushed h so_far =
    let place : at + (8 + length n.text) ≡ at + 8 + length n.text = omega arith in
    ap (λ (z : List FieldName). names_front z (names_at statics (left - len) (count - (i + 1)) (at + (8 + len)) after))
    pushed
    ∙ ap (λ (k : ℕ). names_front (front ++ n ∷ []) (names_at statics (left - k) (count - (i + 1)) (at + (8 + k)) after))
    e
    ∙ ap (λ (k : ℕ). names_front (front ++ n ∷ []) (names_at statics (left - length n.text) (count - (i + 1)) k after))
    place
    ∙ names_go_on front statics left count i at bytes n after total lt h so_far

pub names_stop : (front : List FieldName) (statics left count i at : ℕ) (bytes : List ℕ) (e : ImageError)
    (total : Result (List FieldName × ℕ × List ℕ) ImageError) → i < count → name_at statics left at bytes ≡ Err e
    → names_front front (names_at statics left (count - i) at bytes) ≡ total → total ≡ Err e
unfolding names_at
names_stop front statics left count i at bytes e total lt h so_far =
    let k : count - i ≡ suc (count - (i + 1)) = omega arith in
    let here : names_front front (names_at statics left (count - i) at bytes) ≡ Err e = rw (k, h) refl in
    sym so_far ∙ here

pub names_done : (front : List FieldName) (statics left count i at : ℕ) (bytes : List ℕ)
    (total : Result (List FieldName × ℕ × List ℕ) ImageError) → count ≤ i
    → names_front front (names_at statics left (count - i) at bytes) ≡ total → total ≡ Ok (front, at, bytes)
unfolding names_at
names_done front statics left count i at bytes total le so_far =
    let k : count - i ≡ 0 = omega arith in
    let here : names_front front (names_at statics left (count - i) at bytes) ≡ Ok (front, at, bytes) =
    rw k (ap (λ (ns : List FieldName). Ok (ns, at, bytes)) (append-nil front)) in
    sym so_far ∙ here

pub record NamesRead (statics left count : ℕ) (bytes : List ℕ) (x : List FieldName × ℕ × List ℕ) : Type 0 where
  pub takes : Takes bytes (flat_map name_bytes x.0) x.2
  pub len : length x.0 ≡ count
  pub fit : names_fit statics left x.0 ≡ true

pub names_take : (statics left count at : ℕ) (bytes : List ℕ) (x : List FieldName × ℕ × List ℕ) → IsBytes bytes
    → names_at statics left count at bytes ≡ Ok x → NamesRead statics left count bytes x
unfolding names_at
names_take statics left zero at bytes x fits e =
    let none : List FieldName × ℕ × List ℕ = ([], at, bytes) in
    subst (NamesRead statics left 0 bytes) (ok_is none x e)
    (record { takes = record { parts = refl; rest_fits = fits }; len = refl; fit = refl })
names_take statics left (suc count) at bytes x fits e =
    let a = bind_ok (name_at statics left at bytes) (λ first. names_at statics (left - length first.0.text) count
    (at + 8 + length first.0.text) first.1 >>= λ others. Ok (first.0 ∷ others.0, others.1, others.2)) x e in
    let b = bind_ok (names_at statics (left - length a.0.0.text) count (at + 8 + length a.0.0.text) a.0.1)
    (λ others. Ok (a.0.0 ∷ others.0, others.1, others.2)) x a.2 in
    let ta = name_takes statics left at bytes a.0 fits a.1 in
    let tb = names_take statics (left - length a.0.0.text) count (at + 8 + length a.0.0.text) a.0.1 b.0
    ta.takes.rest_fits b.1 in
    let both = takes_then bytes (name_bytes a.0.0) a.0.1 (flat_map name_bytes b.0.0) b.0.2 ta.takes tb.takes in
    let made : List FieldName × ℕ × List ℕ = (a.0.0 ∷ b.0.0, b.0.1, b.0.2) in
    subst (NamesRead statics left (suc count) bytes) (ok_is made x b.2)
    (record {
      takes = rw flat_map-cons both;
      len = ap suc tb.len;
      fit = and_from (name_fits statics left a.0.0) _ ta.fit tb.fit;
    })

-- the offset after names
abbrev pub names_end : (at : ℕ) → List FieldName → ℕ
names_end at [] = at
names_end at (n ∷ names) = names_end (at + 8 + length n.text) names

names_again : (statics left at : ℕ) (names : List FieldName) (rest : List ℕ) → statics ≤ MOST_STATICS
    → left ≤ MOST_NAME_BYTES → names_fit statics left names ≡ true
    → names_at statics left (length names) at (flat_map name_bytes names ++ rest) ≡ Ok (names, names_end at names, rest)
unfolding names_at
names_again statics left at [] rest few most fit = refl
names_again statics left at (n ∷ names) rest few most fit =
    let p = and_parts (name_fits statics left n) (names_fit statics (left - length n.text) names) fit in
    let grouped : flat_map name_bytes (n ∷ names) ++ rest ≡ name_bytes n ++ (flat_map name_bytes names ++ rest) =
    ap (λ (t : List ℕ). t ++ rest) (flat_map-cons name_bytes n names)
    ∙ append_assoc (name_bytes n) (flat_map name_bytes names) rest in
    let less : left - length n.text ≤ MOST_NAME_BYTES = omega arith in
    ap (names_at statics left (suc (length names)) at) grouped
    ∙ rw (
      name_again statics left at n (flat_map name_bytes names ++ rest) few most p.0,
      names_again statics (left - length n.text) (at + 8 + length n.text) names rest few less p.1,
    ) refl

-- all notes

pub record NotesRead (cells statics : ℕ) (bytes : List ℕ) (x : NoteLists × ℕ × List ℕ) : Type 0 where
  pub takes : Takes bytes (notes_bytes x.0) x.2
  pub fit : notes_fit cells statics x.0 ≡ true

pub notes_take : (cells statics at : ℕ) (bytes : List ℕ) (x : NoteLists × ℕ × List ℕ) → IsBytes bytes
    → notes_at cells statics at bytes ≡ Ok x → NotesRead cells statics bytes x
unfolding notes_at
notes_take cells statics at bytes x fits e =
    let a = bind_ok (number_between 0 MOST_MARKS at bytes)
    (λ count. marks_at cells count.0 (at + 4) count.1 >>= λ marks. number_between 0 MOST_NAMES
    (at + 4 + 12 * count.0) marks.1 >>= λ named. names_at statics MOST_NAME_BYTES named.0 (at + 8 + 12 * count.0)
    named.1 >>= λ names. Ok (record { marks = marks.0; names = names.0 }, names.1, names.2)) x e in
    let b = bind_ok (marks_at cells a.0.0 (at + 4) a.0.1)
    (λ marks. number_between 0 MOST_NAMES (at + 4 + 12 * a.0.0) marks.1 >>= λ named. names_at statics
    MOST_NAME_BYTES named.0 (at + 8 + 12 * a.0.0) named.1 >>= λ names. Ok
    (record { marks = marks.0; names = names.0 }, names.1, names.2)) x a.2 in
    let c = bind_ok (number_between 0 MOST_NAMES (at + 4 + 12 * a.0.0) b.0.1)
    (λ named. names_at statics MOST_NAME_BYTES named.0 (at + 8 + 12 * a.0.0) named.1 >>= λ names. Ok
    (record { marks = b.0.0; names = names.0 }, names.1, names.2)) x b.2 in
    let d = bind_ok (names_at statics MOST_NAME_BYTES c.0.0 (at + 8 + 12 * a.0.0) c.0.1)
    (λ names. Ok (record { marks = b.0.0; names = names.0 }, names.1, names.2)) x c.2 in
    let ta = between_takes 0 MOST_MARKS at bytes a.0 fits a.1 in
    let tb = marks_take cells a.0.0 (at + 4) a.0.1 b.0 ta.takes.rest_fits b.1 in
    let tc = between_takes 0 MOST_NAMES (at + 4 + 12 * a.0.0) b.0.1 c.0 tb.takes.rest_fits c.1 in
    let td = names_take statics MOST_NAME_BYTES c.0.0 (at + 8 + 12 * a.0.0) c.0.1 d.0 tc.takes.rest_fits d.1 in
    let notes : NoteLists = record { marks = b.0.0; names = d.0.0 } in
    let made : NoteLists × ℕ × List ℕ = (notes, d.0.1, d.0.2) in
    let ta' : Takes bytes (word_bytes (length b.0.0)) a.0.1 =
    subst (λ (n : ℕ). Takes bytes (word_bytes n) a.0.1) (sym tb.len) ta.takes in
    let tc' : Takes b.0.1 (word_bytes (length d.0.0)) c.0.1 =
    subst (λ (n : ℕ). Takes b.0.1 (word_bytes n) c.0.1) (sym td.len) tc.takes in
    let ab = takes_then bytes (word_bytes (length b.0.0)) a.0.1 (flat_map mark_bytes b.0.0) b.0.1 ta' tb.takes in
    let abc = takes_then bytes (word_bytes (length b.0.0) ++ flat_map mark_bytes b.0.0) b.0.1
    (word_bytes (length d.0.0)) c.0.1 ab tc' in
    let all = takes_then bytes (word_bytes (length b.0.0) ++ flat_map mark_bytes b.0.0 ++ word_bytes (length d.0.0))
    c.0.1 (flat_map name_bytes d.0.0) d.0.2 abc td.takes in
    let few = ta.to in
    let few_names = tc.to in
    let marks_len = tb.len in
    let names_len = td.len in
    let fit : notes_fit cells statics notes ≡ true =
    and_from _ _ (and_from (marks_fit cells b.0.0) _ (and_from _ _ (le-leb (length b.0.0) MOST_MARKS (omega arith))
    tb.fit) (le-leb (length d.0.0) MOST_NAMES (omega arith))) td.fit in
    subst (NotesRead cells statics bytes) (ok_is made x d.2) (record { takes = all; fit = fit })

-- the offset after notes
abbrev pub notes_end : (at : ℕ) → NoteLists → ℕ
notes_end at notes = names_end (at + 8 + 12 * length notes.marks) notes.names

pub notes_again : (cells statics at : ℕ) (notes : NoteLists) → cells ≤ MOST_CELLS → statics ≤ MOST_STATICS
    → notes_fit cells statics notes ≡ true
    → notes_at cells statics at (notes_bytes notes) ≡ Ok (notes, notes_end at notes, [])
unfolding notes_at
notes_again cells statics at notes most few fit =
    let p = and_parts (marks_fit cells notes.marks && nat_le (length notes.names) MOST_NAMES)
    (names_fit statics MOST_NAME_BYTES notes.names) fit in
    let q = and_parts (marks_fit cells notes.marks) (nat_le (length notes.names) MOST_NAMES) p.0 in
    let r = and_parts (nat_le (length notes.marks) MOST_MARKS) (list_all (mark_fits cells) notes.marks) q.0 in
    let few_marks : length notes.marks ≤ MOST_MARKS = from_le_test _ _ r.0 in
    let few_names : length notes.names ≤ MOST_NAMES = from_le_test _ _ q.1 in
    let r3 : List ℕ = flat_map name_bytes notes.names in
    let r2 : List ℕ = word_bytes (length notes.names) ++ r3 in
    let r1 : List ℕ = flat_map mark_bytes notes.marks ++ r2 in
    let grouped : notes_bytes notes ≡ word_bytes (length notes.marks) ++ r1 =
    append_assoc (word_bytes (length notes.marks) ++ flat_map mark_bytes notes.marks)
    (word_bytes (length notes.names)) r3 ∙ append_assoc (word_bytes (length notes.marks))
    (flat_map mark_bytes notes.marks) r2 in
    let a = between_again 0 MOST_MARKS at (length notes.marks) r1 (omega arith) few_marks (omega arith) in
    let b = marks_again cells (at + 4) notes.marks r2 most r.1 in
    let c = between_again 0 MOST_NAMES (at + 4 + 12 * length notes.marks) (length notes.names) r3 (omega arith)
    few_names (omega arith) in
    let d : names_at statics MOST_NAME_BYTES (length notes.names) (at + 8 + 12 * length notes.marks) r3
    ≡ Ok (notes.names, notes_end at notes, []) =
    ap (names_at statics MOST_NAME_BYTES (length notes.names) (at + 8 + 12 * length notes.marks)) (sym (append-nil r3))
    ∙ names_again statics MOST_NAME_BYTES (at + 8 + 12 * length notes.marks) notes.names [] few (omega arith) p.1 in
    ap (notes_at cells statics at) grouped ∙ rw (a, b, c, d) refl

-- for the contract of the writer

names_short : (statics left : ℕ) (names : List FieldName) → left ≤ MOST_NAME_BYTES → names_fit statics left names ≡ true
    → AllByRecursion (λ n. length n.text < 2 ^ 32) names
names_short statics left [] most fit = tt
names_short statics left (n ∷ names) most fit =
    let p = and_parts (name_fits statics left n) (names_fit statics (left - length n.text) names) fit in
    let short = (name_parts statics left n p.0).short in
    (omega arith, names_short statics (left - length n.text) names (omega arith) p.1)

pub short_names : (cells statics : ℕ) (notes : NoteLists) → notes_fit cells statics notes ≡ true
    → All (λ n. length n.text < 2 ^ 32) notes.names
short_names cells statics notes fit =
    let p = and_parts (marks_fit cells notes.marks && nat_le (length notes.names) MOST_NAMES)
    (names_fit statics MOST_NAME_BYTES notes.names) fit in
    All-from_recursion (λ n. length n.text < 2 ^ 32) notes.names
    (names_short statics MOST_NAME_BYTES notes.names (omega arith) p.1)
