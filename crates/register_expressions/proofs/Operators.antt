-- The cells of each operator, from its operands in their registers.
use Rattle.std.proofs.Common.{◌≡◌, ℕ, ◌^◌, ◌<◌, List, refl, ap, arith}
use Rattle.std.specs.Prelude.{bit_xor, bit_and, bit_or}
use Rattle.code_scope.specs.rpp_words.Words.{is_less, sum_of, difference_of}
use Rattle.code_scope.specs.rpp_tree.declared.tree.BinOp.{BinOp}
use Rattle.code_scope.specs.rpp_tree.declared.tree.BinOp.TheVariants as op
use Rattle.code_scope.specs.pisa_isa.Table.{word_of}
use Rattle.code_scope.specs.pisa_isa.Machine.{Memory}
use Rattle.code_scope.specs.code_conventions.declared.registers.TheConstants.{LEFT, LEFT_TRUTH, RIGHT, RIGHT_TRUTH}
use Rattle.code_scope.specs.paired_code.Machine.{memory_reg}
use Rattle.code_scope.specs.roopl_semantics.Operators.{operated, is_true, truth_word}
use Rattle.register_expressions.specs.Code.{truth_cells, operator_cells, operator_result}
use Rattle.register_expressions.specs.Number.{Bases}
use Rattle.register_expressions.specs.Steps.{operator_steps}
use Rattle.register_expressions.proofs.Goes.{Goes, nothing, goes_seq, goes_cons, goes_to, goes_xor, goes_set}
use Rattle.register_expressions.proofs.Goes.{goes_xor_to, goes_add, goes_sub}
use Rattle.register_expressions.proofs.Comparing.{truth_of, differ, equal, not_less, both_true, one_true, word_is_truth}
use Rattle.register_expressions.proofs.Scratch.{Scratch, keeping, mem}
use Rattle.register_expressions.proofs.Reading.{HasResult, in_left, in_outcome}

-- what the left operand's register holds afterwards
abbrev pub left_after : BinOp → (x y : ℕ) → ℕ
left_after op.Add x y = sum_of x y
left_after op.Sub x y = difference_of x y
left_after op.Xor x y = bit_xor x y
left_after _ x y = x

abbrev pub truth_after : BinOp → ℕ → ℕ
truth_after op.AndAlso x = truth_word (is_true x)
truth_after op.OrElse x = truth_word (is_true x)
truth_after _ x = 0

abbrev pub outcome_after : BinOp → (x y : ℕ) → ℕ
outcome_after op.Add x y = 0
outcome_after op.Sub x y = 0
outcome_after op.Xor x y = 0
outcome_after o x y = operated o x y

module _ (m p q : ℕ) where
  -- the registers with two operands, and after an operator
  abbrev pub operands : (x y : ℕ) → Scratch
  operands x y = record (keeping m p q) { a = x; b = y }

  abbrev pub operated_scratch : BinOp → (x y : ℕ) → Scratch
  operated_scratch o x y = record (keeping m p q) {
    a = left_after o x y;
    b = y;
    left = truth_after o x;
    right = truth_after o y;
    outcome = outcome_after o x y;
  }

  module _ (b : Bases) (f : ℕ → ℕ) (cells : List ℕ) (x y : ℕ) (xw : x < 2 ^ 32) (yw : y < 2 ^ 32) where
    -- the truths of both
    left_true : Goes (truth_cells LEFT_TRUTH LEFT) 2 (mem b f (operands x y) cells)
        (mem b f (record (operands x y) { left = truth_word (is_true x) }) cells)
    left_true =
        let put : ℕ → Memory = λ z. mem b f (record (operands x y) { left = z }) cells in
        goes_cons (goes_set _ put (word_of (is_less 0 x)) refl (omega arith) (λ z. refl) (λ z. refl))
        (goes_xor_to _ put (word_of (is_less 0 x)) (word_of (is_less x 0)) (truth_word (is_true x)) (truth_of x xw)
        refl (omega arith) (λ z. refl) (λ z. refl))

    right_true : Goes (truth_cells RIGHT_TRUTH RIGHT) 2
        (mem b f (record (operands x y) { left = truth_word (is_true x) }) cells)
        (mem b f (record (operands x y) { left = truth_word (is_true x); right = truth_word (is_true y) }) cells)
    right_true =
        let put : ℕ → Memory = λ z. mem b f (record (operands x y) { left = truth_word (is_true x); right = z }) cells
        in
        goes_cons (goes_set _ put (word_of (is_less 0 y)) refl (omega arith) (λ z. refl) (λ z. refl))
        (goes_xor_to _ put (word_of (is_less 0 y)) (word_of (is_less y 0)) (truth_word (is_true y)) (truth_of y yw)
        refl (omega arith) (λ z. refl) (λ z. refl))

    abbrev with_outcome : ℕ → Memory
    with_outcome z = mem b f (record (operands x y) { outcome = z }) cells

    pub operator_goes : (o : BinOp) → Goes (operator_cells o) (operator_steps o) (mem b f (operands x y) cells)
        (mem b f (operated_scratch o x y) cells)
    operator_goes op.Add = goes_add _ (λ z. mem b f (record (operands x y) { a = z }) cells) x y xw yw refl
        (omega arith) (λ z. refl) (λ z. refl)
    operator_goes op.Sub = goes_sub _ (λ z. mem b f (record (operands x y) { a = z }) cells) x y xw yw refl
        (omega arith) (λ z. refl) (λ z. refl)
    operator_goes op.Xor = goes_xor _ (λ z. mem b f (record (operands x y) { a = z }) cells) x y refl (omega arith)
        (λ z. refl) (λ z. refl)
    operator_goes op.And = goes_set _ with_outcome (bit_and x y) refl (omega arith) (λ z. refl) (λ z. refl)
    operator_goes op.Or = goes_set _ with_outcome (bit_or x y) refl (omega arith) (λ z. refl) (λ z. refl)
    operator_goes op.AndAlso =
        let put : ℕ → Memory = λ z. mem b f (record (operands x y)
        { left = truth_word (is_true x); right = truth_word (is_true y); outcome = z }) cells in
        goes_seq left_true (goes_seq right_true (goes_to refl refl (ap put (both_true (is_true x) (is_true y)))
        (goes_set _ put (bit_and (truth_word (is_true x)) (truth_word (is_true y))) refl (omega arith)
        (λ z. refl) (λ z. refl))))
    operator_goes op.OrElse =
        let put : ℕ → Memory = λ z. mem b f (record (operands x y)
        { left = truth_word (is_true x); right = truth_word (is_true y); outcome = z }) cells in
        goes_seq left_true (goes_seq right_true (goes_to refl refl (ap put (one_true (is_true x) (is_true y)))
        (goes_set _ put (bit_or (truth_word (is_true x)) (truth_word (is_true y))) refl (omega arith)
        (λ z. refl) (λ z. refl))))
    operator_goes op.Less = goes_to refl refl (ap with_outcome (word_is_truth (is_less x y)))
        (goes_set _ with_outcome (word_of (is_less x y)) refl (omega arith) (λ z. refl) (λ z. refl))
    operator_goes op.Greater = goes_to refl refl (ap with_outcome (word_is_truth (is_less y x)))
        (goes_set _ with_outcome (word_of (is_less y x)) refl (omega arith) (λ z. refl) (λ z. refl))
    operator_goes op.AtMost = goes_cons (goes_set _ with_outcome (word_of (is_less y x)) refl (omega arith) (λ z. refl)
        (λ z. refl)) (goes_xor_to _ with_outcome (word_of (is_less y x)) 1 _ (not_less (is_less y x)) refl
        (omega arith) (λ z. refl) (λ z. refl))
    operator_goes op.AtLeast = goes_cons (goes_set _ with_outcome (word_of (is_less x y)) refl (omega arith) (λ z. refl)
        (λ z. refl)) (goes_xor_to _ with_outcome (word_of (is_less x y)) 1 _ (not_less (is_less x y)) refl
        (omega arith) (λ z. refl) (λ z. refl))
    operator_goes op.Equal =
        goes_cons (goes_set _ with_outcome (word_of (is_less x y)) refl (omega arith) (λ z. refl) (λ z. refl))
        (goes_cons (goes_xor _ with_outcome (word_of (is_less x y)) (word_of (is_less y x)) refl (omega arith)
        (λ z. refl) (λ z. refl)) (goes_xor_to _ with_outcome
        (bit_xor (word_of (is_less x y)) (word_of (is_less y x))) 1 _ (equal x y xw yw) refl (omega arith)
        (λ z. refl) (λ z. refl)))
    operator_goes op.NotEqual =
        goes_cons (goes_set _ with_outcome (word_of (is_less x y)) refl (omega arith) (λ z. refl) (λ z. refl))
        (goes_xor_to _ with_outcome (word_of (is_less x y)) (word_of (is_less y x)) _ (differ x y xw yw) refl
        (omega arith) (λ z. refl) (λ z. refl))
    operator_goes op.Mul = nothing _
    operator_goes op.Div = nothing _
    operator_goes op.Rem = nothing _

  -- and the register that has the result
  pub operator_gives : (b : Bases) (f : ℕ → ℕ) (cells : List ℕ) (x y : ℕ) (o : BinOp)
      → memory_reg (mem b f (operated_scratch o x y) cells) (operator_result o) ≡ operated o x y
  operator_gives b f cells x y op.Add = refl
  operator_gives b f cells x y op.Sub = refl
  operator_gives b f cells x y op.Xor = refl
  operator_gives b f cells x y _ = refl

pub operator_has : (o : BinOp) → HasResult (operator_result o)
operator_has op.Add = in_left
operator_has op.Sub = in_left
operator_has op.Xor = in_left
operator_has _ = in_outcome
