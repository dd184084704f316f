-- A text is its first line and the lines after it; a line is its first word and the words after it.
use Rattle.std.proofs.Common.{◌≡◌, ◌∙◌, ap, refl, ℕ, suc, ◌+◌, ◌<◌, Bool, true, false, ◌==◌, arith, List, [], ◌∷◌}
use Rattle.std.proofs.Common.{length, take, drop}
use Rattle.std.specs.List.{prefix_len, position_or_len}
use Rattle.std.proofs.lemmas.Bool.Decides.{nat_tests}
use Rattle.pisa_asm.specs.Lines.{onto_first, lines_of, line_words, is_blank_byte}

pub one_more : (n : ℕ) → 1 + n ≡ suc n
one_more n = omega arith

-- how many bytes come before the first line feed
abbrev line_length : List ℕ → ℕ
line_length text = position_or_len (λ b. b == 10) text

-- how many bytes come before the first blank
abbrev word_length : List ℕ → ℕ
word_length line = position_or_len is_blank_byte line

-- a byte before the first line feed belongs to the first line
line_grows : (b : ℕ) (text : List ℕ) → (b == 10) ≡ false
    → lines_of (b ∷ text) ≡ (b ∷ take (line_length text) text) ∷ lines_of (drop 1 (drop (line_length text) text))
line_grows b [] e = rw e refl
line_grows b (c ∷ text) e = by_case (c == 10) refl (λ f. line_grows c text f)
  where
    by_case : (t : Bool) → (c == 10) ≡ t
        → (t ≡ false → lines_of (c ∷ text) ≡ (c ∷ take (line_length text) text)
        ∷ lines_of (drop 1 (drop (line_length text) text)))
        → lines_of (b ∷ c ∷ text) ≡ (b ∷ take (line_length (c ∷ text)) (c ∷ text))
        ∷ lines_of (drop 1 (drop (line_length (c ∷ text)) (c ∷ text)))
    by_case true f rest = simp (e, f, one_more)
    by_case false f rest = rw e (ap (onto_first b) (rest refl) ∙ simp (f, one_more))

pub lines_cut : (text : List ℕ) → 0 < length text
    → lines_of text ≡ take (line_length text) text ∷ lines_of (drop 1 (drop (line_length text) text))
lines_cut [] h = absurd (omega arith)
lines_cut (b ∷ text) h = by_case (b == 10) refl
  where
    by_case : (t : Bool) → (b == 10) ≡ t → lines_of (b ∷ text)
        ≡ take (line_length (b ∷ text)) (b ∷ text) ∷ lines_of (drop 1 (drop (line_length (b ∷ text)) (b ∷ text)))
    by_case true f = simp (f, one_more)
    by_case false f = line_grows b text f ∙ simp (f, one_more)

-- no blank is between
pub joined : (b c : ℕ) (line : List ℕ) → is_blank_byte b ≡ false → is_blank_byte c ≡ false
    → line_words (b ∷ c ∷ line) ≡ onto_first b (line_words (c ∷ line))
joined b c line e f = rw (e, f) refl

-- a byte before the first blank belongs to the first word
word_grows : (b : ℕ) (line : List ℕ) → is_blank_byte b ≡ false
    → line_words (b ∷ line) ≡ (b ∷ take (word_length line) line) ∷ line_words (drop (word_length line) line)
word_grows b [] e = rw e refl
word_grows b (c ∷ line) e = by_case (is_blank_byte c) refl (λ f. word_grows c line f)
  where
    by_case : (t : Bool) → is_blank_byte c ≡ t
        → (t ≡ false → line_words (c ∷ line) ≡ (c ∷ take (word_length line) line)
        ∷ line_words (drop (word_length line) line))
        → line_words (b ∷ c ∷ line) ≡ (b ∷ take (word_length (c ∷ line)) (c ∷ line))
        ∷ line_words (drop (word_length (c ∷ line)) (c ∷ line))
    by_case true f rest = simp (e, f, one_more)
    by_case false f rest = joined b c line e f ∙ ap (onto_first b) (rest refl) ∙ simp (f, one_more)

-- blanks mean nothing
pub words_skip : (line : List ℕ) → line_words line ≡ line_words (drop (prefix_len is_blank_byte line) line)
words_skip [] = refl
words_skip (b ∷ line) = by_case (is_blank_byte b) refl (words_skip line)
  where
    by_case : (t : Bool) → is_blank_byte b ≡ t → line_words line
        ≡ line_words (drop (prefix_len is_blank_byte line) line)
        → line_words (b ∷ line) ≡ line_words (drop (prefix_len is_blank_byte (b ∷ line)) (b ∷ line))
    by_case true f rest = simp (f, one_more) rest
    by_case false f rest = simp (f, one_more)

-- the first word of what follows blanks, and the words after it
pub words_cut : (line : List ℕ) → 0 < length (drop (prefix_len is_blank_byte line) line)
    → line_words line ≡ take (word_length (drop (prefix_len is_blank_byte line) line))
    (drop (prefix_len is_blank_byte line) line)
    ∷ line_words (drop (word_length (drop (prefix_len is_blank_byte line) line))
    (drop (prefix_len is_blank_byte line) line))
words_cut [] h = absurd (omega arith)
words_cut (b ∷ line) h = by_case (is_blank_byte b) refl (words_cut line) h
  where
    by_case : (t : Bool) → is_blank_byte b ≡ t
        → (0 < length (drop (prefix_len is_blank_byte line) line)
        → line_words line ≡ take (word_length (drop (prefix_len is_blank_byte line) line))
        (drop (prefix_len is_blank_byte line) line)
        ∷ line_words (drop (word_length (drop (prefix_len is_blank_byte line) line))
        (drop (prefix_len is_blank_byte line) line)))
        → 0 < length (drop (prefix_len is_blank_byte (b ∷ line)) (b ∷ line))
        → line_words (b ∷ line) ≡ take (word_length (drop (prefix_len is_blank_byte (b ∷ line)) (b ∷ line)))
        (drop (prefix_len is_blank_byte (b ∷ line)) (b ∷ line))
        ∷ line_words (drop (word_length (drop (prefix_len is_blank_byte (b ∷ line)) (b ∷ line)))
        (drop (prefix_len is_blank_byte (b ∷ line)) (b ∷ line)))
    by_case true f rest h = simp (f, one_more) (rest (simp (f, one_more) at h))
    by_case false f rest h = word_grows b line f ∙ simp (f, one_more)

-- a word has a byte
pub word_some : (line : List ℕ) → 0 < length (drop (prefix_len is_blank_byte line) line)
    → 0 < word_length (drop (prefix_len is_blank_byte line) line)
word_some [] h = absurd (omega arith)
word_some (b ∷ line) h = by_case (is_blank_byte b) refl (word_some line) h
  where
    by_case : (t : Bool) → is_blank_byte b ≡ t
        → (0 < length (drop (prefix_len is_blank_byte line) line)
        → 0 < word_length (drop (prefix_len is_blank_byte line) line))
        → 0 < length (drop (prefix_len is_blank_byte (b ∷ line)) (b ∷ line))
        → 0 < word_length (drop (prefix_len is_blank_byte (b ∷ line)) (b ∷ line))
    by_case true f rest h = simp (f, one_more) (rest (simp (f, one_more) at h))
    by_case false f rest h = simp (f, one_more) (omega arith)

pub no_words : (line : List ℕ) → (length line == 0) ≡ true → line_words line ≡ []
no_words [] e = refl
no_words (b ∷ line) e = absurd (grind (arith, nat_tests))

pub some_bytes : (line : List ℕ) → (length line == 0) ≡ false → 0 < length line
some_bytes line e = grind (arith, nat_tests)
