-- An operator's cells, by the registers of its operands.
use Rattle.std.proofs.Common.{◌≡◌, ◌≢◌, ℕ, ◌^◌, ◌<◌, List, refl, ap, ◌∙◌, arith}
use Rattle.std.specs.Prelude.{bit_xor, bit_and, bit_or}
use Rattle.std.specs.Int.Bits.{xor_assoc}
use Rattle.code_scope.specs.rpp_words.Words.{is_less, sum_of, difference_of}
use Rattle.code_scope.specs.rpp_tree.declared.tree.BinOp.{BinOp}
use Rattle.code_scope.specs.rpp_tree.declared.tree.BinOp.TheVariants as op
use Rattle.code_scope.specs.pisa_isa.Table.{word_of}
use Rattle.code_scope.specs.roopl_semantics.Operators.{operated, is_true, truth_word}
use Rattle.register_expressions.specs.Code.{change_cells, literal_cells, give_cells}
use Rattle.register_expressions.specs.declared.held.Kind.TheVariants.{Changes, Gives, Joins}
use Rattle.register_expressions.specs.Held.{kind}
use Rattle.register_expressions.specs.Steps.{operator_steps}
use Rattle.register_expressions.proofs.Comparing.{differ, equal, not_less, word_is_truth, both_true, one_true}
use Rattle.register_expressions.proofs.Goes.{Goes, goes_to, goes_cons}
use Rattle.register_expressions.proofs.Results.{written}
use Rattle.register_expressions.proofs.Known.{known, xori_goes, addi_goes, xor_goes, add_goes, sub_goes, sltx_goes}
use Rattle.register_expressions.proofs.Known.{andx_goes, orx_goes}

module _ (n : ℕ) (f : ℕ → ℕ) (zs : List ℕ) (d : ℕ) (hd : d < n) where
  -- the left operand's register changes
  pub change_goes : (o : BinOp) → kind o ≡ Changes → (s : ℕ) → s < n → s ≢ d → (x : ℕ) → x < 2 ^ 32 → f s < 2 ^ 32
      → Goes (change_cells o d s) (operator_steps o) (known n (written f d x) zs)
      (known n (written f d (operated o x (f s))) zs)
  change_goes op.Add q s hs ns x h k = add_goes n f zs d hd s hs ns x h k
  change_goes op.Sub q s hs ns x h k = sub_goes n f zs d hd s hs ns x h k
  change_goes op.Xor q s hs ns x h k = xor_goes n f zs d hd s hs ns x
  change_goes op.And q s hs ns x h k = absurd (cc)
  change_goes op.Or q s hs ns x h k = absurd (cc)
  change_goes op.AndAlso q s hs ns x h k = absurd (cc)
  change_goes op.OrElse q s hs ns x h k = absurd (cc)
  change_goes op.Less q s hs ns x h k = absurd (cc)
  change_goes op.Greater q s hs ns x h k = absurd (cc)
  change_goes op.AtMost q s hs ns x h k = absurd (cc)
  change_goes op.AtLeast q s hs ns x h k = absurd (cc)
  change_goes op.Equal q s hs ns x h k = absurd (cc)
  change_goes op.NotEqual q s hs ns x h k = absurd (cc)
  change_goes op.Mul q s hs ns x h k = absurd (cc)
  change_goes op.Div q s hs ns x h k = absurd (cc)
  change_goes op.Rem q s hs ns x h k = absurd (cc)

  -- by a number
  pub literal_goes : (o : BinOp) → kind o ≡ Changes → (word x : ℕ) → x < 2 ^ 32 → word < 2 ^ 32
      → Goes (literal_cells o d word) 1 (known n (written f d x) zs) (known n (written f d (operated o x word)) zs)
  literal_goes op.Add q word x h k = addi_goes n f zs d hd word x h k
  literal_goes op.Sub q word x h k =
      let e : sum_of x (difference_of 0 word) ≡ difference_of x word = omega arith in
      goes_to refl refl (ap (λ z. known n (written f d z) zs) e)
      (addi_goes n f zs d hd (difference_of 0 word) x h (omega arith))
  literal_goes op.Xor q word x h k = xori_goes n f zs d hd word x k
  literal_goes op.And q word x h k = absurd (cc)
  literal_goes op.Or q word x h k = absurd (cc)
  literal_goes op.AndAlso q word x h k = absurd (cc)
  literal_goes op.OrElse q word x h k = absurd (cc)
  literal_goes op.Less q word x h k = absurd (cc)
  literal_goes op.Greater q word x h k = absurd (cc)
  literal_goes op.AtMost q word x h k = absurd (cc)
  literal_goes op.AtLeast q word x h k = absurd (cc)
  literal_goes op.Equal q word x h k = absurd (cc)
  literal_goes op.NotEqual q word x h k = absurd (cc)
  literal_goes op.Mul q word x h k = absurd (cc)
  literal_goes op.Div q word x h k = absurd (cc)
  literal_goes op.Rem q word x h k = absurd (cc)

  -- that of two truths is xored into a register
  module _ (a s : ℕ) (ha : a < n) (hs : s < n) (na : a ≢ d) (ns : s ≢ d) (x y : ℕ) (ea : f a ≡ truth_word (is_true x))
      (es : f s ≡ truth_word (is_true y)) where
    joined : (g : ℕ → ℕ → ℕ) → g (f a) (f s) ≡ g (truth_word (is_true x)) (truth_word (is_true y))
    joined g = ap (λ u. g u (f s)) ea ∙ ap (g (truth_word (is_true x))) es

    pub join_goes : (o : BinOp) → kind o ≡ Joins → (z : ℕ)
        → Goes (give_cells o d a s) 1 (known n (written f d z) zs)
        (known n (written f d (bit_xor z (operated o x y))) zs)
    join_goes op.AndAlso q z = goes_to refl refl (ap (λ u. known n (written f d (bit_xor z u)) zs)
        (joined bit_and ∙ both_true (is_true x) (is_true y))) (andx_goes n f zs d hd a s ha hs na ns z)
    join_goes op.OrElse q z = goes_to refl refl (ap (λ u. known n (written f d (bit_xor z u)) zs)
        (joined bit_or ∙ one_true (is_true x) (is_true y))) (orx_goes n f zs d hd a s ha hs na ns z)
    join_goes op.And q z = absurd (cc)
    join_goes op.Or q z = absurd (cc)
    join_goes op.Less q z = absurd (cc)
    join_goes op.Greater q z = absurd (cc)
    join_goes op.AtMost q z = absurd (cc)
    join_goes op.AtLeast q z = absurd (cc)
    join_goes op.Equal q z = absurd (cc)
    join_goes op.NotEqual q z = absurd (cc)
    join_goes op.Add q z = absurd (cc)
    join_goes op.Sub q z = absurd (cc)
    join_goes op.Xor q z = absurd (cc)
    join_goes op.Mul q z = absurd (cc)
    join_goes op.Div q z = absurd (cc)
    join_goes op.Rem q z = absurd (cc)

  -- the result is xored into a register
  module _ (a s : ℕ) (ha : a < n) (hs : s < n) (na : a ≢ d) (ns : s ≢ d) (wa : f a < 2 ^ 32) (ws : f s < 2 ^ 32)
    where
      abbrev less : ℕ
      less = word_of (is_less (f a) (f s))

      abbrev more : ℕ
      more = word_of (is_less (f s) (f a))

      to : {w : List Rattle.code_scope.specs.paired_code.declared.part.Symbol.Symbol} {t : ℕ} (x v v' : ℕ) → v ≡ v'
          → Goes w t (known n (written f d x) zs) (known n (written f d v) zs)
          → Goes w t (known n (written f d x) zs) (known n (written f d v') zs)
      to x v v' e g = goes_to refl refl (ap (λ z. known n (written f d z) zs) e) g

      pub give_goes : (o : BinOp) → kind o ≡ Gives → (x : ℕ)
          → Goes (give_cells o d a s) (operator_steps o) (known n (written f d x) zs)
          (known n (written f d (bit_xor x (operated o (f a) (f s)))) zs)
      give_goes op.And q x = andx_goes n f zs d hd a s ha hs na ns x
      give_goes op.Or q x = orx_goes n f zs d hd a s ha hs na ns x
      give_goes op.Less q x = to x _ _ (ap (bit_xor x) (word_is_truth (is_less (f a) (f s))))
          (sltx_goes n f zs d hd a s ha hs na ns x)
      give_goes op.Greater q x = to x _ _ (ap (bit_xor x) (word_is_truth (is_less (f s) (f a))))
          (sltx_goes n f zs d hd s a hs ha ns na x)
      give_goes op.AtMost q x = to x _ _ (xor_assoc x more 1 ∙ ap (bit_xor x) (not_less (is_less (f s) (f a))))
          (goes_cons (sltx_goes n f zs d hd s a hs ha ns na x) (xori_goes n f zs d hd 1 (bit_xor x more) (omega arith)))
      give_goes op.AtLeast q x = to x _ _ (xor_assoc x less 1 ∙ ap (bit_xor x) (not_less (is_less (f a) (f s))))
          (goes_cons (sltx_goes n f zs d hd a s ha hs na ns x) (xori_goes n f zs d hd 1 (bit_xor x less) (omega arith)))
      give_goes op.Equal q x = to x _ _ (ap (λ z. bit_xor z 1) (xor_assoc x less more)
          ∙ xor_assoc x (bit_xor less more) 1 ∙ ap (bit_xor x) (equal (f a) (f s) wa ws))
          (goes_cons (sltx_goes n f zs d hd a s ha hs na ns x)
          (goes_cons (sltx_goes n f zs d hd s a hs ha ns na (bit_xor x less))
          (xori_goes n f zs d hd 1 (bit_xor (bit_xor x less) more) (omega arith))))
      give_goes op.NotEqual q x = to x _ _ (xor_assoc x less more ∙ ap (bit_xor x) (differ (f a) (f s) wa ws))
          (goes_cons (sltx_goes n f zs d hd a s ha hs na ns x) (sltx_goes n f zs d hd s a hs ha ns na (bit_xor x less)))
      give_goes op.Add q x = absurd (cc)
      give_goes op.Sub q x = absurd (cc)
      give_goes op.Xor q x = absurd (cc)
      give_goes op.AndAlso q x = absurd (cc)
      give_goes op.OrElse q x = absurd (cc)
      give_goes op.Mul q x = absurd (cc)
      give_goes op.Div q x = absurd (cc)
      give_goes op.Rem q x = absurd (cc)
