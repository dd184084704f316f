-- The checks of an element, and its address.
use Rattle.std.proofs.Common.{◌≡◌, ◌≢◌, ℕ, ◌+◌, ◌^◌, ◌<◌, ◌≤◌, true, false, List, [], ◌∷◌, length}
use Rattle.std.proofs.Common.{refl, sym, ap, ◌∙◌, arith}
use Rattle.std.specs.Prelude.{slice_index, slice_set, nat_lt, not}
use Rattle.std.proofs.lemmas.Bool.Decides.{nat_tests}
use Rattle.code_scope.specs.code_conventions.declared.faults.TheConstants.{NIL, INDEX}
use Rattle.code_scope.specs.code_conventions.declared.memory.TheConstants.{HEADER_WORDS}
use Rattle.code_scope.specs.pisa_isa.Machine.{Memory}
use Rattle.code_scope.specs.pisa_isa.Table.{word_of}
use Rattle.code_scope.specs.code_conventions.declared.registers.TheConstants.{CONTENT, LEFT, NOUGHT, OUTCOME, RIGHT}
use Rattle.code_scope.specs.paired_code.Layout.{Equal, Positive}
use Rattle.code_scope.specs.rpp_words.Words.{is_less, sum_of}
use Rattle.code_scope.specs.roopl_semantics.Operators.{truth_word}
use Rattle.register_expressions.specs.Code.{exch, sltx, xori, nil_check, index_check, point_cells}
use Rattle.register_expressions.specs.Number.{Bases}
use Rattle.register_expressions.proofs.Comparing.{above, not_above, past_end}
use Rattle.register_expressions.proofs.Goes.{Goes, Traps, goes_cons, goes_around, goes_to, goes_xor, goes_set}
use Rattle.register_expressions.proofs.Goes.{goes_xor_to, goes_add, goes_addi, goes_exch, goes_check, goes_seq}
use Rattle.register_expressions.proofs.Goes.{traps_check, traps_mid, traps_then}
use Rattle.register_expressions.proofs.Scratch.{Scratch, mem}
use Rattle.register_expressions.proofs.Operators.{operands}

module _ (m p q : ℕ) (b : Bases) (f : ℕ → ℕ) (cells : List ℕ) (x y : ℕ) where
  -- whether the array is nil
  pub nil_goes : y < 2 ^ 31 → y ≢ 0 → Goes nil_check 2 (mem b f (operands m p q x y) cells)
      (mem b f (operands m p q x y) cells)
  nil_goes h n = goes_check (Positive RIGHT) NIL _ (above y h n)

  pub nil_traps : y ≡ 0 → Traps nil_check 1 NIL (mem b f (operands m p q x y) cells)
  nil_traps e = traps_check (Positive RIGHT) NIL _ (ap (is_less 0) e ∙ not_above)

  -- the array's length in `CONTENT`
  abbrev measured : (n : ℕ) → Scratch
  measured n = record (operands m p q x y) { content = n }

  length_goes : (n : ℕ) → y < length cells → slice_index cells y ≡ n
      → Goes (exch CONTENT RIGHT ∷ []) 1 (mem b f (operands m p q x y) cells)
      (mem b f (measured n) (slice_set cells y 0))
  length_goes n h e =
      goes_to refl refl (ap (λ z. mem b f (measured z) (slice_set cells y 0)) e)
      (goes_exch _ (λ z zs. mem b f (measured z) zs) y 0 cells h refl (omega arith) (λ z zs. refl) (λ z zs. refl))

  -- whether the index is past its end
  index_row : (n : ℕ) (zs : List ℕ) → x < 2 ^ 32 → n < 2 ^ 31
      → Goes (sltx OUTCOME LEFT CONTENT ∷ sltx OUTCOME LEFT NOUGHT ∷ xori OUTCOME 1 ∷ []) 3
      (mem b f (measured n) zs) (mem b f (record (measured n) { outcome = truth_word (not (nat_lt x n)) }) zs)
  index_row n zs h k =
      let put : ℕ → Memory = λ z. mem b f (record (measured n) { outcome = z }) zs in
      goes_cons (goes_set _ put (word_of (is_less x n)) refl (omega arith) (λ z. refl) (λ z. refl))
      (goes_cons (goes_xor _ put (word_of (is_less x n)) (word_of (is_less x 0)) refl (omega arith) (λ z. refl)
      (λ z. refl)) (goes_xor_to _ put _ 1 _ (past_end x n h k) refl (omega arith) (λ z. refl) (λ z. refl)))

  pub index_goes : (n : ℕ) → y < length cells → slice_index cells y ≡ n → n < 2 ^ 31 → x < n
      → Goes index_check 7 (mem b f (operands m p q x y) cells) (mem b f (operands m p q x y) cells)
  index_goes n h e k l =
      let t : nat_lt x n ≡ true = grind (arith, nat_tests) in
      let row = index_row n (slice_set cells y 0) (omega arith) k in
      let passed = goes_to refl refl (ap (λ z. mem b f (record (measured n) { outcome = truth_word (not z) })
      (slice_set cells y 0)) t) row in
      goes_around (length_goes n h e) (goes_seq passed (goes_check (Equal OUTCOME NOUGHT) INDEX _ refl))
      (length_goes n h e)

  pub index_traps : (n : ℕ) → x < 2 ^ 32 → y < length cells → slice_index cells y ≡ n → n < 2 ^ 31 → n ≤ x
      → Traps index_check 5 INDEX (mem b f (operands m p q x y) cells)
  index_traps n w h e k l =
      let t : nat_lt x n ≡ false = grind (arith, nat_tests) in
      let nz : truth_word (not (nat_lt x n)) ≢ 0 = λ z. one_is_not (sym (ap (λ z. truth_word (not z)) t) ∙ z) in
      traps_mid (length_goes n h e) (traps_then (index_row n (slice_set cells y 0) w k)
      (traps_check (Equal OUTCOME NOUGHT) INDEX _ nz))
    where
      one_is_not : ◌≡◌ {A = ℕ} 1 0 → ⊥
      one_is_not e = omega arith

  -- the element's address in the array's register
  pub point_goes : x < 2 ^ 31 → y + x + HEADER_WORDS < 2 ^ 32 → Goes point_cells 2 (mem b f (operands m p q x y) cells)
      (mem b f (operands m p q x (y + x + HEADER_WORDS)) cells)
  point_goes h k =
      let put : ℕ → Memory = λ z. mem b f (operands m p q x z) cells in
      let e : sum_of y x ≡ y + x = omega arith in
      goes_cons (goes_to refl refl (ap put e) (goes_add _ put y x (omega arith) (omega arith) refl (omega arith)
      (λ z. refl) (λ z. refl))) (goes_addi _ put (y + x) HEADER_WORDS k refl (omega arith) (λ z. refl) (λ z. refl))
