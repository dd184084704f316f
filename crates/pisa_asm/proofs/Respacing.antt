-- A line of words with a space between reads as these words.
use Rattle.std.proofs.Common.{◌≡◌, ◌∙◌, ap, refl, ℕ, ◌-◌, Bool, true, false, not, ◌==◌, arith, List, [], ◌∷◌, ◌++◌}
use Rattle.std.proofs.Common.{length, get_or}
use Rattle.std.specs.Prelude.{◌||◌}
use Rattle.std.specs.List.{list_all, before_first, position_or_len}
use Rattle.std.proofs.lemmas.List.Sums.{AllPass-from_list_all}
use Rattle.std.proofs.lemmas.List.Folds.{list_all-append}
use Rattle.pisa_asm.specs.Lines.{onto_first, lines_of, ends_in, content_of, line_words, is_blank_byte, begins_word}
use Rattle.pisa_asm.proofs.Cutting.{joined, one_more}
use Rattle.pisa_asm.proofs.Spelling.{is_clean, is_solid, is_word, spaced, both}

not_so : (b : Bool) → not b ≡ true → b ≡ false
not_so true h = cc
not_so false h = refl

neither : (a b c : Bool) → not (a || b || c) ≡ true → (a ≡ false) × (b ≡ false) × (c ≡ false)
neither true b c h = absurd (cc)
neither false true c h = absurd (cc)
neither false false true h = absurd (cc)
neither false false false h = (refl, refl, refl)

not_blank : (b : ℕ) → is_solid b ≡ true → is_blank_byte b ≡ false
not_blank b h = not_so (is_blank_byte b) ((both (is_clean b) (not (is_blank_byte b)) h).1)

clean_of : (b : ℕ) → is_clean b ≡ true → ((b == 10) ≡ false) × ((b == 13) ≡ false) × ((b == 59) ≡ false)
clean_of b h = neither (b == 10) (b == 13) (b == 59) h

solid_front : (b : ℕ) (word rest : List ℕ) → is_solid b ≡ true → list_all is_solid word ≡ true
    → begins_word rest ≡ false
    → line_words (b ∷ (word ++ rest)) ≡ (b ∷ word) ∷ line_words rest
solid_front b [] rest s a n = rw (not_blank b s, n) refl
solid_front b (c ∷ word) rest s a n =
    let p = both (is_solid c) (list_all is_solid word) a in
    joined b c (word ++ rest) (not_blank b s) (not_blank c p.0) ∙ ap (onto_first b) (solid_front c word rest p.0 p.1 n)

word_front : (word rest : List ℕ) → is_word word ≡ true → begins_word rest ≡ false
    → line_words (word ++ rest) ≡ word ∷ line_words rest
word_front [] rest h n = absurd (cc)
word_front (b ∷ word) rest h n = let p = both (is_solid b) (list_all is_solid word) h in
    solid_front b word rest p.0 p.1 n

spaced_begins : (words : List (List ℕ)) → begins_word (spaced words) ≡ false
spaced_begins [] = refl
spaced_begins (word ∷ words) = refl

spaced_words : (words : List (List ℕ)) → list_all is_word words ≡ true → line_words (spaced words) ≡ words
spaced_words [] h = refl
spaced_words (word ∷ words) h =
    let p = both (is_word word) (list_all is_word words) h in
    word_front word (spaced words) p.0 (spaced_begins words) ∙ ap (λ ws. word ∷ ws) (spaced_words words p.1)

-- the bytes of such a line are clean

solid_clean : (word : List ℕ) → list_all is_solid word ≡ true → list_all is_clean word ≡ true
solid_clean [] h = refl
solid_clean (b ∷ word) h =
    let p = both (is_solid b) (list_all is_solid word) h in
    let q = both (is_clean b) (not (is_blank_byte b)) p.0 in
    rw (q.0, solid_clean word p.1) refl

word_clean : (word : List ℕ) → is_word word ≡ true → list_all is_clean word ≡ true
word_clean [] h = refl
word_clean (b ∷ word) h = solid_clean (b ∷ word) h

clean-append : (xs ys : List ℕ) → list_all is_clean xs ≡ true → list_all is_clean ys ≡ true
    → list_all is_clean (xs ++ ys) ≡ true
clean-append xs ys h g = list_all-append is_clean xs ys ∙ rw (h, g) refl

spaced_clean : (words : List (List ℕ)) → list_all is_word words ≡ true → list_all is_clean (spaced words) ≡ true
spaced_clean [] h = refl
spaced_clean (word ∷ words) h =
    let p = both (is_word word) (list_all is_word words) h in
    clean-append word (spaced words) (word_clean word p.0) (spaced_clean words p.1)

-- such a line has no carriage return at its end and no comment

no_return : (line : List ℕ) → list_all is_clean line ≡ true → ends_in 13 line ≡ false
no_return [] h = refl
no_return (b ∷ line) h =
    let last = AllPass-from_list_all is_clean (b ∷ line) h (length (b ∷ line) - 1) 0 (omega arith) in
    (clean_of (get_or (b ∷ line) (length (b ∷ line) - 1) 0) last).1

no_comment : (line : List ℕ) → list_all is_clean line ≡ true → before_first (λ b. b == 59) line ≡ line
no_comment [] h = refl
no_comment (b ∷ line) h =
    let p = both (is_clean b) (list_all is_clean line) h in
    rw ((clean_of b p.0).2, one_more (position_or_len (λ c. c == 59) line)) (ap (λ l. b ∷ l) (no_comment line p.1))

content_same : (line : List ℕ) → list_all is_clean line ≡ true → content_of line ≡ line
content_same line h = rw (no_return line h) (no_comment line h)

pub line_front : (line rest : List ℕ) → list_all is_clean line ≡ true
    → lines_of (line ++ 10 ∷ rest) ≡ line ∷ lines_of rest
line_front [] rest h = refl
line_front (b ∷ line) rest h =
    let p = both (is_clean b) (list_all is_clean line) h in
    rw ((clean_of b p.0).0) (ap (onto_first b) (line_front line rest p.1))

-- a first word and others, each after a space
pub record IsSpacedLine (line : List ℕ) (first : List ℕ) (words : List (List ℕ)) : Type 0 where
  pub clean : list_all is_clean line ≡ true
  pub reads : line_words (content_of line) ≡ first ∷ words

pub spaced_line : (first : List ℕ) (words : List (List ℕ)) → is_word first ≡ true → list_all is_word words ≡ true
    → IsSpacedLine (first ++ spaced words) first words
spaced_line first words f h =
    let clean = clean-append first (spaced words) (word_clean first f) (spaced_clean words h) in
    record {
      clean = clean;
      reads = ap line_words (content_same (first ++ spaced words) clean)
          ∙ word_front first (spaced words) f (spaced_begins words) ∙ ap (λ ws. first ∷ ws) (spaced_words words h);
    }
