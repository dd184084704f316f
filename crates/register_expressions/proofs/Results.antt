-- What is done with the register that has a result.
use Rattle.std.proofs.Common.{◌≡◌, ◌≢◌, ℕ, ◌^◌, ◌<◌, inl, inr, List, [], ◌∷◌, refl, sym, ap, ◌∙◌, subst, ⊎_elim, arith}
use Rattle.std.specs.Prelude.{bit_xor, nat_eq, if◌then◌else◌}
use Rattle.std.proofs.lemmas.Bool.{cases_eq}
use Rattle.code_scope.specs.pisa_isa.Table.{word_of}
use Rattle.code_scope.specs.rpp_words.Words.{is_less}
use Rattle.code_scope.specs.pisa_isa.Machine.{Memory}
use Rattle.code_scope.specs.code_conventions.declared.registers.TheConstants.{AMOUNT, CONTENT, ITEM, LEFT, NOUGHT}
use Rattle.code_scope.specs.code_conventions.declared.registers.TheConstants.{OUTCOME, TRUTH}
use Rattle.code_scope.specs.paired_code.Machine.{memory_reg}
use Rattle.code_scope.specs.paired_code.Pieces.{Done}
use Rattle.code_scope.specs.roopl_semantics.Operators.{is_true, truth_word}
use Rattle.register_expressions.specs.Code.{Target, xor, truth_cells}
use Rattle.register_expressions.specs.Number.{Bases}
use Rattle.register_expressions.proofs.Comparing.{truth_of}
use Rattle.register_expressions.proofs.Goes.{Goes, goes_cons, goes_to, goes_xor, goes_set}
use Rattle.register_expressions.proofs.Scratch.{Scratch, mem}
use Rattle.register_expressions.proofs.Reading.{HasResult, in_content, in_outcome, in_left, in_item, in_truth}

-- ---- registers that code of expressions does not use

pub data IsTarget : ℕ → Type 0 where
  at0 : IsTarget 0
  at1 : IsTarget 1
  at11 : IsTarget 11
  at12 : IsTarget 12
  at13 : IsTarget 13
  at14 : IsTarget 14
  at15 : IsTarget 15
  at25 : IsTarget 25
  at26 : IsTarget 26
  at27 : IsTarget 27
  at28 : IsTarget 28
  at29 : IsTarget 29
  at30 : IsTarget 30
  at31 : IsTarget 31

pub target_is : (r : ℕ) → Target r → IsTarget r
target_is r (inl h) = ⊎_elim (λ e. subst IsTarget (sym e) at0)
    (λ n. let e : r ≡ 1 = omega arith in subst IsTarget (sym e) at1) (cases_eq r 0)
target_is r (inr (inl h)) =
    let lo = h.0 in
    let hi = h.1 in
    ⊎_elim (λ e. subst IsTarget (sym e) at11) (λ n1. ⊎_elim (λ e. subst IsTarget (sym e) at12)
    (λ n2. ⊎_elim (λ e. subst IsTarget (sym e) at13) (λ n3. ⊎_elim (λ e. subst IsTarget (sym e) at14)
    (λ n4. let e : r ≡ 15 = omega arith in subst IsTarget (sym e) at15) (cases_eq r 14)) (cases_eq r 13))
    (cases_eq r 12)) (cases_eq r 11)
target_is r (inr (inr h)) =
    let lo = h.0 in
    let hi = h.1 in
    ⊎_elim (λ e. subst IsTarget (sym e) at25) (λ n25. ⊎_elim (λ e. subst IsTarget (sym e) at26)
    (λ n26. ⊎_elim (λ e. subst IsTarget (sym e) at27) (λ n27. ⊎_elim (λ e. subst IsTarget (sym e) at28)
    (λ n28. ⊎_elim (λ e. subst IsTarget (sym e) at29)
    (λ n29. ⊎_elim (λ e. subst IsTarget (sym e) at30)
    (λ n30. let e : r ≡ 31 = omega arith in subst IsTarget (sym e) at31) (cases_eq r 30)) (cases_eq r 29))
    (cases_eq r 28)) (cases_eq r 27)) (cases_eq r 26)) (cases_eq r 25)

-- the registers with one other value
abbrev pub written : (ℕ → ℕ) → (i v : ℕ) → ℕ → ℕ
written f i v j = if nat_eq j i then v else f j

module _ (b : Bases) where
  same_result : (r : ℕ) → HasResult r → (f g : ℕ → ℕ) (s : Scratch) (zs : List ℕ)
      → memory_reg (mem b f s zs) r ≡ memory_reg (mem b g s zs) r
  same_result r in_content f g s zs = refl
  same_result r in_outcome f g s zs = refl
  same_result r in_left f g s zs = refl
  same_result r in_item f g s zs = refl
  same_result r in_truth f g s zs = refl

  -- xored into one of them
  module _ (f : ℕ → ℕ) (s : Scratch) (zs : List ℕ) (r v : ℕ) (h : HasResult r) (e : memory_reg (mem b f s zs) r ≡ v)
    where
      abbrev put : (i x : ℕ) → Memory
      put i x = mem b (written f i x) s zs

      gives : (i x : ℕ) → Done (put i (bit_xor x (memory_reg (put i x) r))) 1 ≡ Done (put i (bit_xor x v)) 1
      gives i x = ap (λ z. Done (put i (bit_xor x z)) 1) (same_result r h (written f i x) f s zs ∙ e)

      pub into_goes : (i : ℕ) → IsTarget i → Goes (xor i r ∷ []) 1 (mem b f s zs)
          (mem b (written f i (bit_xor (f i) v)) s zs)
      into_goes i at0 = goes_xor _ (put 0) (f 0) v refl (omega arith) (gives 0) (gives 0)
      into_goes i at1 = goes_xor _ (put 1) (f 1) v refl (omega arith) (gives 1) (gives 1)
      into_goes i at11 = goes_xor _ (put 11) (f 11) v refl (omega arith) (gives 11) (gives 11)
      into_goes i at12 = goes_xor _ (put 12) (f 12) v refl (omega arith) (gives 12) (gives 12)
      into_goes i at13 = goes_xor _ (put 13) (f 13) v refl (omega arith) (gives 13) (gives 13)
      into_goes i at14 = goes_xor _ (put 14) (f 14) v refl (omega arith) (gives 14) (gives 14)
      into_goes i at15 = goes_xor _ (put 15) (f 15) v refl (omega arith) (gives 15) (gives 15)
      into_goes i at25 = goes_xor _ (put 25) (f 25) v refl (omega arith) (gives 25) (gives 25)
      into_goes i at26 = goes_xor _ (put 26) (f 26) v refl (omega arith) (gives 26) (gives 26)
      into_goes i at27 = goes_xor _ (put 27) (f 27) v refl (omega arith) (gives 27) (gives 27)
      into_goes i at28 = goes_xor _ (put 28) (f 28) v refl (omega arith) (gives 28) (gives 28)
      into_goes i at29 = goes_xor _ (put 29) (f 29) v refl (omega arith) (gives 29) (gives 29)
      into_goes i at30 = goes_xor _ (put 30) (f 30) v refl (omega arith) (gives 30) (gives 30)
      into_goes i at31 = goes_xor _ (put 31) (f 31) v refl (omega arith) (gives 31) (gives 31)

  -- kept in `AMOUNT`
  pub amount_goes : (r : ℕ) → HasResult r → (f : ℕ → ℕ) (s : Scratch) (zs : List ℕ) (v : ℕ)
      → memory_reg (mem b f s zs) r ≡ v
      → Goes (xor AMOUNT r ∷ []) 1 (mem b f (record s { amount = 0 }) zs) (mem b f (record s { amount = v }) zs)
  amount_goes r in_content f s zs v e = goes_to refl refl (ap (λ z. mem b f (record s { amount = z }) zs) e)
      (goes_set _ (λ z. mem b f (record s { amount = z }) zs) s.content refl (omega arith) (λ z. refl) (λ z. refl))
  amount_goes r in_outcome f s zs v e = goes_to refl refl (ap (λ z. mem b f (record s { amount = z }) zs) e)
      (goes_set _ (λ z. mem b f (record s { amount = z }) zs) s.outcome refl (omega arith) (λ z. refl) (λ z. refl))
  amount_goes r in_left f s zs v e = goes_to refl refl (ap (λ z. mem b f (record s { amount = z }) zs) e)
      (goes_set _ (λ z. mem b f (record s { amount = z }) zs) s.a refl (omega arith) (λ z. refl) (λ z. refl))
  amount_goes r in_item f s zs v e = goes_to refl refl (ap (λ z. mem b f (record s { amount = z }) zs) e)
      (goes_set _ (λ z. mem b f (record s { amount = z }) zs) s.item refl (omega arith) (λ z. refl) (λ z. refl))
  amount_goes r in_truth f s zs v e = goes_to refl refl (ap (λ z. mem b f (record s { amount = z }) zs) e)
      (goes_set _ (λ z. mem b f (record s { amount = z }) zs) s.truth refl (omega arith) (λ z. refl) (λ z. refl))

  -- into the word that is open
  pub content_goes : (r : ℕ) → r ≢ CONTENT → HasResult r → (f : ℕ → ℕ) (s : Scratch) (v : ℕ)
      → ((zs : List ℕ) → memory_reg (mem b f s zs) r ≡ v) → (c : Bases) (zs : List ℕ)
      → Goes (xor CONTENT r ∷ []) 1 (mem c f (record s { content = 0 }) zs)
      (mem c f (record s { content = v }) zs)
  content_goes r n in_content f s v e c zs = absurd (n refl)
  content_goes r n in_outcome f s v e c zs = goes_to refl refl
      (ap (λ z. mem c f (record s { content = z }) zs) (e zs))
      (goes_set _ (λ z. mem c f (record s { content = z }) zs) s.outcome refl (omega arith) (λ z. refl)
      (λ z. refl))
  content_goes r n in_left f s v e c zs = goes_to refl refl
      (ap (λ z. mem c f (record s { content = z }) zs) (e zs))
      (goes_set _ (λ z. mem c f (record s { content = z }) zs) s.a refl (omega arith) (λ z. refl)
      (λ z. refl))
  content_goes r n in_item f s v e c zs = goes_to refl refl
      (ap (λ z. mem c f (record s { content = z }) zs) (e zs))
      (goes_set _ (λ z. mem c f (record s { content = z }) zs) s.item refl (omega arith) (λ z. refl)
      (λ z. refl))
  content_goes r n in_truth f s v e c zs = goes_to refl refl
      (ap (λ z. mem c f (record s { content = z }) zs) (e zs))
      (goes_set _ (λ z. mem c f (record s { content = z }) zs) s.truth refl (omega arith) (λ z. refl)
      (λ z. refl))

  -- and its truth value
  truth_by : (r v : ℕ) (put : ℕ → Memory) → v < 2 ^ 32 → Goes
      (Rattle.register_expressions.specs.Code.sltx TRUTH NOUGHT r ∷ []) 1 (put 0)
      (put (word_of (is_less 0 v))) → Goes (Rattle.register_expressions.specs.Code.sltx TRUTH r
      NOUGHT ∷ []) 1 (put (word_of (is_less 0 v)))
      (put (bit_xor (word_of (is_less 0 v)) (word_of (is_less v 0))))
      → Goes (truth_cells TRUTH r) 2 (put 0) (put (truth_word (is_true v)))
  truth_by r v put h g k = goes_cons g (goes_to refl refl (ap put (truth_of v h)) k)

  pub truth_goes : (r : ℕ) → r ≢ TRUTH → HasResult r → (f : ℕ → ℕ) (s : Scratch) (zs : List ℕ) (v : ℕ) → v < 2 ^ 32
      → memory_reg (mem b f s zs) r ≡ v → Goes (truth_cells TRUTH r) 2 (mem b f (record s { truth = 0 }) zs)
      (mem b f (record s { truth = truth_word (is_true v) }) zs)
  truth_goes r n in_content f s zs v h e =
      let put : ℕ → Memory = λ z. mem b f (record s { truth = z }) zs in
      subst (λ v. Goes (truth_cells TRUTH CONTENT) 2 (put 0) (put (truth_word (is_true v)))) e
      (truth_by CONTENT s.content put (rw e h) (goes_set _ put (word_of (is_less 0 s.content)) refl (omega arith)
      (λ z. refl) (λ z. refl)) (goes_xor _ put _ (word_of (is_less s.content 0)) refl (omega arith) (λ z. refl)
      (λ z. refl)))
  truth_goes r n in_outcome f s zs v h e =
      let put : ℕ → Memory = λ z. mem b f (record s { truth = z }) zs in
      subst (λ v. Goes (truth_cells TRUTH OUTCOME) 2 (put 0) (put (truth_word (is_true v)))) e
      (truth_by OUTCOME s.outcome put (rw e h) (goes_set _ put (word_of (is_less 0 s.outcome)) refl (omega arith)
      (λ z. refl) (λ z. refl)) (goes_xor _ put _ (word_of (is_less s.outcome 0)) refl (omega arith) (λ z. refl)
      (λ z. refl)))
  truth_goes r n in_left f s zs v h e =
      let put : ℕ → Memory = λ z. mem b f (record s { truth = z }) zs in
      subst (λ v. Goes (truth_cells TRUTH LEFT) 2 (put 0) (put (truth_word (is_true v)))) e
      (truth_by LEFT s.a put (rw e h) (goes_set _ put (word_of (is_less 0 s.a)) refl (omega arith)
      (λ z. refl) (λ z. refl)) (goes_xor _ put _ (word_of (is_less s.a 0)) refl (omega arith) (λ z. refl)
      (λ z. refl)))
  truth_goes r n in_item f s zs v h e =
      let put : ℕ → Memory = λ z. mem b f (record s { truth = z }) zs in
      subst (λ v. Goes (truth_cells TRUTH ITEM) 2 (put 0) (put (truth_word (is_true v)))) e
      (truth_by ITEM s.item put (rw e h) (goes_set _ put (word_of (is_less 0 s.item)) refl (omega arith) (λ z. refl)
      (λ z. refl)) (goes_xor _ put _ (word_of (is_less s.item 0)) refl (omega arith) (λ z. refl) (λ z. refl)))
  truth_goes r n in_truth f s zs v h e = absurd (n refl)
