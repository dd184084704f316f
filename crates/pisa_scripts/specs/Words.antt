-- Words, directions, registers and cells as they are printed.
use Rattle.std.specs.Prelude.{ℕ, suc, Bool, true, false, nat_eq, if◌then◌else◌, List, [], ◌∷◌, ◌++◌}
use Rattle.std.specs.Prelude.{codes}
use Rattle.std.specs.Fmt.{decimal, signed_decimal}
use Rattle.code_conventions.specs.rpp_words.Words.{signed}
use Rattle.code_conventions.specs.rpp_words.Texts.{line_end}

-- a word in signed decimal
abbrev pub word_shown : ℕ → List ℕ
word_shown word = signed_decimal (signed word)

abbrev pub direction : Bool → List ℕ
direction false = codes "1"
direction true = codes "-1"

-- a register, unless it is 0
abbrev pub register_line : (number word : ℕ) → List ℕ
register_line number word = if nat_eq word 0 then []
    else codes "$" ++ (decimal number ++ (codes " = " ++ (word_shown word ++ line_end)))

-- the registers from this number on
abbrev pub register_lines : (number : ℕ) → List ℕ → List ℕ
register_lines number [] = []
register_lines number (word ∷ words) = register_line number word
    ++ register_lines (suc number) words

abbrev pub cell_line : (number word : ℕ) → List ℕ
cell_line number word = codes "cell "
    ++ (decimal number ++ (codes " = " ++ (word_shown word ++ line_end)))
