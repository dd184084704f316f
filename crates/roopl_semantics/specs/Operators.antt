-- What the operators do with words.
use Rattle.std.specs.Prelude.{ℕ, Bool, true, false, not, ◌&&◌, ◌||◌, nat_eq, bit_and, bit_or}
use Rattle.std.specs.Prelude.{bit_xor}
use Rattle.buddy_book.specs.rpp_words.Words.{sum_of, difference_of, is_less}
use Rattle.inverse_rules.specs.rpp_tree.declared.tree.BinOp.{BinOp}
use Rattle.inverse_rules.specs.rpp_tree.declared.tree.BinOp.TheVariants as op
use Rattle.inverse_rules.specs.rpp_tree.declared.tree.UpdateOp.{UpdateOp}
use Rattle.inverse_rules.specs.rpp_tree.declared.tree.UpdateOp.TheVariants as update

-- truth is any word but 0
abbrev pub is_true : ℕ → Bool
is_true a = not (nat_eq a 0)

-- truth as a word
abbrev pub truth_word : Bool → ℕ
truth_word true = 1
truth_word false = 0

-- an operator on two words; the last three are in no accepted program
abbrev pub operated : BinOp → ℕ → ℕ → ℕ
operated op.Add a b = sum_of a b
operated op.Sub a b = difference_of a b
operated op.Xor a b = bit_xor a b
operated op.And a b = bit_and a b
operated op.Or a b = bit_or a b
operated op.AndAlso a b = truth_word (is_true a && is_true b)
operated op.OrElse a b = truth_word (is_true a || is_true b)
operated op.Less a b = truth_word (is_less a b)
operated op.Greater a b = truth_word (is_less b a)
operated op.AtMost a b = truth_word (not (is_less b a))
operated op.AtLeast a b = truth_word (not (is_less a b))
operated op.Equal a b = truth_word (nat_eq a b)
operated op.NotEqual a b = truth_word (not (nat_eq a b))
operated _ a b = 0

-- an update of a word by another
abbrev pub updated : UpdateOp → ℕ → ℕ → ℕ
updated update.Add a b = sum_of a b
updated update.Sub a b = difference_of a b
updated update.Xor a b = bit_xor a b
