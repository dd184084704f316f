-- A conditional with its two checks of the flag, in both directions, only from the laws of its
-- blocks.
use Rattle.std.proofs.Common.{◌≡◌, ℕ, zero, suc, ◌+◌, ◌-◌, ◌<◌, ◌≤◌, Bool, true, false, List, [], ◌∷◌, ◌++◌, refl}
use Rattle.std.proofs.Common.{sym, ◌∙◌, subst, arith, append_assoc, append-nil}
use Rattle.refine_expressions.specs.code_conventions.declared.faults.TheConstants.{FI}
use Rattle.refine_expressions.specs.code_conventions.declared.registers.TheConstants.{FLAG, NOUGHT}
use Rattle.refine_expressions.specs.pisa_isa.Machine.{Memory}
use Rattle.refine_expressions.specs.paired_code.declared.part.Symbol.{Symbol}
use Rattle.refine_expressions.specs.paired_code.Machine.{Image, memory_reg}
use Rattle.refine_expressions.specs.paired_code.Layout.{branch_cells, bool_xor, Equal}
use Rattle.refine_expressions.specs.paired_code.Pieces.{Done, Runs, Will}
use Rattle.refine_expressions.specs.paired_code.Does.{Rates, RunResult, Meets, fine, faults, more, Does, XorsTruth}
use Rattle.refine_expressions.specs.paired_code.Does.{agreed, if_told, in_order}
use Rattle.refine_expressions.proofs.paired_code_laws.Laws.{will_of}
use Rattle.refine_expressions.proofs.paired_code_laws.Small.{runs_still}
use Rattle.refine_expressions.proofs.paired_code_laws.Checks.{runs_passes, runs_fails}
use Rattle.refine_expressions.proofs.paired_code_laws.Does.{bit, meets_first, meets_ticked, meets_branch, will_last}
use Rattle.branch_codegen.specs.Branches.{check}

module _ {A : Type 0} (im : Image) (d : Bool) (R : Bool → A → Memory → Type 0)
    (flag : (v : Bool) (a : A) (m : Memory) → R v a m → memory_reg m FLAG ≡ bit v)
    (nought : (v : Bool) (a : A) (m : Memory) → R v a m → memory_reg m NOUGHT ≡ 0) (b : Rates) (hb : 1 ≤ b.counts) where
  passes : (a : A) (m : Memory) → R false a m → Runs im (check FI) d m (Done m 2)
  passes a m h = runs_passes im d (Equal FLAG NOUGHT) FI m (flag false a m h ∙ sym (nought false a m h))

  last : (n : ℕ) (v : Bool) (a : A) (m : Memory) → R v a m → Will im (check FI) d m (Meets (R false) b n 2 (agreed v a))
  last n false a m h = will_of im (check FI) d m _ _ (passes a m h) (fine h (omega arith) (omega arith))
  last n true a m h =
      will_of im (check FI) d m _ _ (runs_fails im d (Equal FLAG NOUGHT) FI m
      (λ e. let f = flag true a m h in let z = nought true a m h in omega arith)) (faults (omega arith))

  choice : (x y : ℕ) (t u p q : List Symbol) (tt uu : ℕ → A → RunResult Bool) (pp qq : ℕ → A → RunResult A)
      → XorsTruth im t d R b x tt → XorsTruth im u d R b x uu → 10 + x + x + y ≤ b.steps → (n : ℕ)
      → ((k : ℕ) → k < n → Does im p d (R true) (R true) b k y (pp k))
      → ((k : ℕ) → k < n → Does im q d (R false) (R false) b k y (qq k))
      → Does im (in_order d (check FI ∷ t ∷ branch_cells FLAG p q ∷ u ∷ check FI ∷ [])) d (R false) (R false)
      b n 0 (if_told tt uu pp qq n)
  choice x y t u p q tt uu pp qq ht hu hx zero hp hq = record
      { does = λ a m h. will_of im _ d m _ _ (runs_still im _ d m) (more (omega arith)) }
  choice x y t u p q tt uu pp qq ht hu hx (suc n) hp hq = record {
    does = λ a m h.
        meets_ticked im d (R false) b n 2 _ 0 (check FI) _ m m _ hb (omega arith) (omega arith)
        (will_of im _ d m _ _ (passes a m h) refl)
        (meets_first im d (λ v m1. R v a m1) (R false) b n x _ t _ m (tt n a) _ (ht.tells n false a m h) (λ c v m1 g.
        meets_first im d (R v) (R false) b (n - c) (6 + y) _ (branch_cells FLAG p q) _ m1 _ _
        (meets_branch im d v FLAG R b (n - c) y p q m1 _ _ flag (flag v a m1 g)
        (λ e. (hp (n - c) (omega arith)).does a m1 (subst (λ z. R z a m1) e g))
        (λ e. (hq (n - c) (omega arith)).does a m1 (subst (λ z. R z a m1) e g))) (λ c2 a1 m2 g2.
        meets_first im d (λ w m3. R (bool_xor v w) a1 m3) (R false) b (n - c - c2) x 2 u _ m2 (uu (n - c - c2) a1) _
        (hu.tells (n - c - c2) v a1 m2 g2) (λ c3 w m3 g3. will_last im d (check FI) m3 _
        (last _ (bool_xor v w) a1 m3 g3)))));
  }

module _ {A : Type 0} (im : Image) (R : Bool → A → Memory → Type 0)
    (flag : (v : Bool) (a : A) (m : Memory) → R v a m → memory_reg m FLAG ≡ bit v)
    (nought : (v : Bool) (a : A) (m : Memory) → R v a m → memory_reg m NOUGHT ≡ 0) (b : Rates) (hb : 1 ≤ b.counts)
    (x y : ℕ)
    (hx : 10 + x + x + y ≤ b.steps) (t u p q : List Symbol) (tt uu : ℕ → A → RunResult Bool) where
  abbrev whole : List Symbol
  whole = check FI ++ (t ++ (branch_cells FLAG p q ++ (u ++ check FI)))

  -- forward
  pub if_does : (pp qq : ℕ → A → RunResult A) → XorsTruth im t false R b x tt → XorsTruth im u false R b x uu → (n : ℕ)
      → ((k : ℕ) → k < n → Does im p false (R true) (R true) b k y (pp k))
      → ((k : ℕ) → k < n → Does im q false (R false) (R false) b k y (qq k))
      → Does im whole false (R false) (R false) b n 0 (if_told tt uu pp qq n)
  if_does pp qq ht hu n hp hq =
      let e : in_order false (check FI ∷ t ∷ branch_cells FLAG p q ∷ u ∷ check FI ∷ []) ≡ whole = simp append-nil in
      subst (λ z. Does im z false (R false) (R false) b n 0 (if_told tt uu pp qq n)) e
      (choice im false R flag nought b hb x y t u p q tt uu pp qq ht hu hx n hp hq)

  -- back: the conditions change places
  pub if_undoes : (pp qq : ℕ → A → RunResult A) → XorsTruth im t true R b x tt → XorsTruth im u true R b x uu → (n : ℕ)
      → ((k : ℕ) → k < n → Does im p true (R true) (R true) b k y (pp k))
      → ((k : ℕ) → k < n → Does im q true (R false) (R false) b k y (qq k))
      → Does im whole true (R false) (R false) b n 0 (if_told uu tt pp qq n)
  if_undoes pp qq ht hu n hp hq =
      let e : in_order true (check FI ∷ u ∷ branch_cells FLAG p q ∷ t ∷ check FI ∷ []) ≡ whole = simp append_assoc in
      subst (λ z. Does im z true (R false) (R false) b n 0 (if_told uu tt pp qq n)) e
      (choice im true R flag nought b hb x y u t p q uu tt pp qq hu ht hx n hp hq)
