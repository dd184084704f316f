-- The rules by which fragments meet the source.
use Rattle.std.proofs.Common.{◌≡◌, ◌≢◌, ℕ, suc, ◌+◌, ◌-◌, ◌*◌, ◌≤◌, Bool, true, false, List, [], ◌∷◌, refl, sym, subst}
use Rattle.std.proofs.Common.{arith, append-nil}
use Rattle.std.proofs.Math.Nat.{mul-add}
use Rattle.code_conventions.specs.pisa_isa.Machine.{Memory}
use Rattle.paired_code.specs.declared.part.Symbol.{Symbol}
use Rattle.paired_code.specs.Machine.{Image, memory_reg}
use Rattle.paired_code.specs.Layout.{branch_cells}
use Rattle.paired_code.specs.Pieces.{Outcome, Done, Will, outcome_after, outcome_around}
use Rattle.paired_code.specs.Does.{Rates, RunResult, Fine, plus, told_then, Meets, fine, faults, more, in_order, chosen}
use Rattle.paired_code.proofs.Laws.{Next, will_seq, will_seq_back, will_more}
use Rattle.paired_code.proofs.Branch.{will_branch_yes, will_branch_no}

-- the first of several fragments
pub will_first : (im : Image) (d : Bool) (p : List Symbol) (ps : List (List Symbol)) (m : Memory) (Q : Outcome → Type 0)
    → Will im p d m (Next (λ m1 k. Will im (in_order d ps) d m1 (λ o. Q (outcome_after k o))) Q)
    → Will im (in_order d (p ∷ ps)) d m Q
will_first im false p ps m Q w = will_seq im p (in_order false ps) m Q w
will_first im true p ps m Q w = will_seq_back im (in_order true ps) p m Q w

-- a part, and what comes after it with a count that is known
pub meets_plus : {A : Type 0} {R : A → Memory → Type 0} {b : Rates} {n y c k : ℕ} {t : RunResult A} {o : Outcome}
    (x : ℕ)
    → c ≤ b.counts * k → k ≤ b.steps * c + x → Meets R b (n - c) y t o
    → Meets R b n (x + y) (plus c t) (outcome_after k o)
meets_plus {b = b} {c = c} {k = k} x h l (fine {c = c2} {k = k2} r h2 l2) =
    fine r (omega (arith, mul-add b.counts k k2)) (omega (arith, mul-add b.steps c c2))
meets_plus {b = b} {c = c} x h l (faults {c = c2} l2) = faults (omega (arith, mul-add b.steps c c2))
meets_plus {b = b} {k = k} x h l (more {k = k2} h2) = more
    (omega (arith, mul-add b.counts k k2, mul-add b.counts k2 1, mul-add b.counts (k + k2) 1))

next_of : {A B : Type 0} {im : Image} {d : Bool} {R1 : A → Memory → Type 0} {R2 : B → Memory → Type 0} {b : Rates}
    {n : ℕ} {t : RunResult A} {o : Outcome} (ps : List (List Symbol)) (x y : ℕ) (g : ℕ → A → RunResult B)
    → ((c : ℕ) (a : A) (m : Memory) → R1 a m → Will im (in_order d ps) d m (Meets R2 b (n - c) y (g c a)))
    → Meets R1 b n x t o → Next (λ m1 k. Will im (in_order d ps) d m1
    (λ o. Meets R2 b n (x + y) (told_then t g) (outcome_after k o))) (λ o. Meets R2 b n (x + y) (told_then t g) o) o
next_of {im = im} {d = d} ps x y g s (fine {a = a} {m = m} {c = c} r h l) =
    will_more im (in_order d ps) d m _ _ (λ o q. meets_plus x h l q) (s c a m r)
next_of ps x y g s (faults l) = faults (omega arith)
next_of ps x y g s (more h) = more h

-- one part, and the others
pub meets_first : {A B : Type 0} (im : Image) (d : Bool) (R1 : A → Memory → Type 0) (R2 : B → Memory → Type 0)
    (b : Rates) (n x y : ℕ) (p : List Symbol) (ps : List (List Symbol)) (m : Memory) (t : RunResult A)
    (g : ℕ → A → RunResult B)
    → Will im p d m (Meets R1 b n x t) → ((c : ℕ) (a : A) (m1 : Memory) → R1 a m1
    → Will im (in_order d ps) d m1 (Meets R2 b (n - c) y (g c a)))
    → Will im (in_order d (p ∷ ps)) d m (Meets R2 b n (x + y) (told_then t g))
meets_first im d R1 R2 b n x y p ps m t g w s = will_first im d p ps m _
    (will_more im p d m _ _ (λ o q. next_of ps x y g s q) w)

-- the last part
pub will_last : (im : Image) (d : Bool) (p : List Symbol) (m : Memory) (Q : Outcome → Type 0) → Will im p d m Q
    → Will im (in_order d (p ∷ [])) d m Q
will_last im false p m Q w = subst (λ z. Will im z false m Q) (sym (append-nil p)) w
will_last im true p m Q w = w

pub product : (b k : ℕ) → 1 ≤ b → 1 ≤ k → 1 ≤ b * k
product b k h g = grind arith

-- a silent part that makes steps, and the count of a statement
meets_tick : {A : Type 0} {R : A → Memory → Type 0} {b : Rates} {n k : ℕ} {t : RunResult A} {o : Outcome} (x x' : ℕ)
    → 1 ≤ b.counts → 1 ≤ k → k + x ≤ b.steps + x' → Meets R b n x t o
    → Meets R b (suc n) x' (plus 1 t) (outcome_after k o)
meets_tick {b = b} {k = k} x x' hb hk h (fine {c = c} {k = k2} r l u) =
    let one : 1 ≤ b.counts * k = product b.counts k hb hk in
    fine r (omega (arith, one, mul-add b.counts k k2)) (omega (arith, mul-add b.steps 1 c))
meets_tick {b = b} x x' hb hk h (faults {c = c} u) = faults (omega (arith, mul-add b.steps 1 c))
meets_tick {b = b} {k = k} x x' hb hk h (more {k = k2} l) =
    let one : 1 ≤ b.counts * k = product b.counts k hb hk in
    more (omega (arith, one, mul-add b.counts k k2, mul-add b.counts k2 1, mul-add b.counts (k + k2) 1))

pub meets_ticked : {A : Type 0} (im : Image) (d : Bool) (R : A → Memory → Type 0) (b : Rates) (n k x x' : ℕ)
    (p : List Symbol) (ps : List (List Symbol)) (m m1 : Memory) (t : RunResult A) → 1 ≤ b.counts → 1 ≤ k
    → k + x ≤ b.steps + x' → Will im p d m (λ o. o ≡ Done m1 k) → Will im (in_order d ps) d m1 (Meets R b n x t)
    → Will im (in_order d (p ∷ ps)) d m (Meets R b (suc n) x' (plus 1 t))
meets_ticked im d R b n k x x' p ps m m1 t hb hk h w s =
    let Q : Outcome → Type 0 = λ o. Meets R b (suc n) x' (plus 1 t) o in
    let then_s : Will im (in_order d ps) d m1 (λ o. Q (outcome_after k o)) =
    will_more im (in_order d ps) d m1 _ _ (λ o q. meets_tick x x' hb hk h q) s in
    will_first im d p ps m Q (will_more im p d m _ _ (λ o e. subst
    (Next (λ m2 k2. Will im (in_order d ps) d m2 (λ o. Q (outcome_after k2 o))) Q) (sym e) then_s) w)

-- the parts of a choice
meets_rel : {A : Type 0} {R : A → Memory → Type 0} {b : Rates} {n x k : ℕ} {m : Memory} {t : RunResult A}
    (P : Memory → Type 0) → ((a : A) (m : Memory) → R a m → P m) → Meets R b n x t (Done m k) → P m
meets_rel P f (fine {a = a} {m = m} r l u) = f a m r

meets_around : {A : Type 0} {R : A → Memory → Type 0} {b : Rates} {n : ℕ} {t : RunResult A} {o : Outcome} (x y z : ℕ)
    → Meets R b n x t o → Meets R b n (y + z + x) t (outcome_around y z o)
meets_around {b = b} x y z (fine {c = c} {k = k} r l u) =
    fine r (let e : b.counts * (y + (k + z)) ≡ b.counts * y + b.counts * k + b.counts * z = grind arith in omega arith)
    (omega arith)
meets_around x y z (faults u) = faults (omega arith)
meets_around {b = b} {n = n} x y z (more {k = k} l) = more
    (let e : b.counts * (y + k + 1) ≡ b.counts * y + b.counts * (k + 1) = grind arith in omega arith)

abbrev pub bit : Bool → ℕ
bit false = 0
bit true = 1

-- a choice by a register that holds 0 or 1, which both parts keep
pub meets_branch : {A : Type 0} (im : Image) (d v : Bool) (r : ℕ) (R : Bool → A → Memory → Type 0) (b : Rates) (n x : ℕ)
    (p q : List Symbol) (m : Memory) (s t : RunResult A) →
    ((v : Bool) (a : A) (m : Memory) → R v a m → memory_reg m r ≡ bit v)
    → memory_reg m r ≡ bit v → (v ≡ true → Will im p d m (Meets (R true) b n x s))
    → (v ≡ false → Will im q d m (Meets (R false) b n x t))
    → Will im (branch_cells r p q) d m (Meets (R v) b n (6 + x) (chosen v s t))
meets_branch im d true r R b n x p q m s t flag at yes_does no_does =
    will_branch_yes im d r p q m (Meets (R true) b n x s) _ (λ e. omega arith) (yes_does refl)
    (λ m1 k h. meets_rel (λ m. memory_reg m r ≢ 0) (λ a m g e. let f = flag true a m g in omega arith) h)
    (λ o h. meets_around x 3 3 h)
meets_branch im false false r R b n x p q m s t flag at yes_does no_does =
    will_branch_no im false r p q m (Meets (R false) b n x t) _ at (no_does refl)
    (λ m1 k h. meets_rel (λ m. memory_reg m r ≡ 0) (λ a m g. flag false a m g) h) (λ o h. meets_around x 2 4 h)
meets_branch im true false r R b n x p q m s t flag at yes_does no_does =
    will_branch_no im true r p q m (Meets (R false) b n x t) _ at (no_does refl)
    (λ m1 k h. meets_rel (λ m. memory_reg m r ≡ 0) (λ a m g. flag false a m g) h) (λ o h. meets_around x 4 2 h)

-- ---- parts that the source does not speak of

-- the part leaves within x steps, with a memory for which P holds
pub data Quiet (P : Memory → Type 0) (x : ℕ) : Outcome → Type 0 where
  quiet : {m : Memory} {k : ℕ} → P m → k ≤ x → Quiet P x (Done m k)

meets_quiet_before : {A : Type 0} {P : Memory → Type 0} {R' : A → Memory → Type 0} {b : Rates} {n : ℕ} {a : A} {c k : ℕ}
    {o : Outcome} (x y : ℕ) → c ≤ b.counts * k → k ≤ b.steps * c + y → ((m : Memory) → P m → R' a m) → Quiet P x o
    → Meets R' b n (y + x) (Fine a c) (outcome_after k o)
meets_quiet_before {b = b} {k = k} x y l u f (quiet {k = k2} p h) =
    fine (f _ p) (omega (arith, mul-add b.counts k k2)) (omega arith)

last_next : {A : Type 0} {R : A → Memory → Type 0} {R' : A → Memory → Type 0} {im : Image} {d : Bool} {b : Rates}
    {n : ℕ} {t : RunResult A} {o : Outcome} (q : List Symbol) (x y : ℕ)
    → ((a : A) (m : Memory) → R a m → Will im q d m (Quiet (R' a) x)) → Meets R b n y t o
    → Next (λ m1 k. Will im (in_order d (q ∷ [])) d m1 (λ o. Meets R' b n (y + x) t (outcome_after k o)))
    (λ o. Meets R' b n (y + x) t o) o
last_next {R' = R'} {im = im} {d = d} q x y s (fine {a = a} {m = m} r l u) =
    will_last im d q m _ (will_more im q d m _ _ (λ o w. meets_quiet_before x y l u (λ m h. h) w) (s a m r))
last_next q x y s (faults u) = faults (omega arith)
last_next q x y s (more l) = more l

-- a part, and a last part of which the source does not speak
pub then_quiet : {A : Type 0} (im : Image) (d : Bool) (R R' : A → Memory → Type 0) (b : Rates) (n x y : ℕ)
    (p q : List Symbol) (m : Memory) (t : RunResult A) → Will im p d m (Meets R b n y t)
    → ((a : A) (m : Memory) → R a m → Will im q d m (Quiet (R' a) x))
    → Will im (in_order d (p ∷ q ∷ [])) d m (Meets R' b n (y + x) t)
then_quiet im d R R' b n x y p q m t w s = will_first im d p (q ∷ []) m _
    (will_more im p d m _ _ (λ o h. last_next q x y s h) w)
