-- Rules by which fragments meet the source, if what the first part said is known to the second.
use Rattle.std.proofs.Common.{◌≡◌, ℕ, ◌+◌, ◌-◌, ◌*◌, ◌≤◌, Bool, true, false, List, ◌∷◌, ◌++◌, refl, sym, ap, subst}
use Rattle.std.proofs.Common.{arith, append_assoc}
use Rattle.std.proofs.Math.Nat.{mul-add, mul-le-mul_right}
use Rattle.refine_frame.specs.pisa_isa.Machine.{Memory}
use Rattle.paired_code.specs.declared.part.Symbol.{Symbol}
use Rattle.paired_code.specs.Machine.{Image}
use Rattle.paired_code.specs.Layout.{mirror_cells}
use Rattle.paired_code.specs.Pieces.{Outcome, Done, Trapped, Bad, Still, Will, outcome_after}
use Rattle.paired_code.specs.Does.{Rates, RunResult, Fine, plus, told_then, Meets, fine, faults, more, in_order}
use Rattle.paired_code.proofs.Laws.{Next, will_seq, will_seq_back, will_more}
use Rattle.paired_code.proofs.Mirrored.{will_mirror}
use Rattle.paired_code.proofs.Does.{will_first, meets_plus}
use Rattle.refine_form.specs.Cells.{around}

-- a memory whose registers are known
pub as_known : (m : Memory) (regs : List ℕ) → m.regs ≡ regs → m ≡ record { regs = regs; cells = m.cells }
as_known m regs e = ap (λ r. record m { regs = r }) e

-- less fuel is met too
pub meets_less : {A : Type 0} {R : A → Memory → Type 0} {b : Rates} {n x : ℕ} {t : RunResult A} {o : Outcome} (n' : ℕ)
    → n' ≤ n → Meets R b n x t o → Meets R b n' x t o
meets_less n' h (fine r l u) = fine r l u
meets_less n' h (faults u) = faults u
meets_less n' h (more l) = more (omega (arith, l))

pub meets_slack : {A : Type 0} {R : A → Memory → Type 0} {b : Rates} {n x : ℕ} {t : RunResult A} {o : Outcome} (x' : ℕ)
    → x ≤ x' → Meets R b n x t o → Meets R b n x' t o
meets_slack x' h (fine r l u) = fine r l (omega arith)
meets_slack x' h (faults u) = faults (omega arith)
meets_slack x' h (more l) = more l

-- more steps may come with a count
pub meets_rate : {A : Type 0} {R : A → Memory → Type 0} {q k k' n x : ℕ} {t : RunResult A} {o : Outcome} → k ≤ k'
    → Meets R (record { counts = q; steps = k }) n x t o → Meets R (record { counts = q; steps = k' }) n x t o
meets_rate {k = k} {k' = k'} {x = x} h (fine {c = c} {k = j} r l u) =
    fine r l (let g : k * c ≤ k' * c = mul-le-mul_right c h in omega (arith, g))
meets_rate {k = k} {k' = k'} {x = x} h (faults {c = c} {k = j} u) =
    faults (let g : k * c ≤ k' * c = mul-le-mul_right c h in omega (arith, g))
meets_rate h (more l) = more l

-- another relation, by what holds for the result
pub meets_as : {A : Type 0} {R R' : A → Memory → Type 0} {b : Rates} {n x : ℕ} {t : RunResult A} {o : Outcome}
    → ((a : A) (m : Memory) (c : ℕ) → t ≡ Fine a c → R a m → R' a m) → Meets R b n x t o → Meets R' b n x t o
meets_as f (fine {a = a} {m = m} {c = c} r l u) = fine (f a m c refl r) l u
meets_as f (faults u) = faults u
meets_as f (more l) = more l

pub meets_told : {A : Type 0} {R : A → Memory → Type 0} {b : Rates} {n x : ℕ} {o : Outcome} (t t' : RunResult A)
    → t ≡ t'
    → Meets R b n x t o → Meets R b n x t' o
meets_told {R = R} {b = b} {n = n} {x = x} {o = o} t t' e h = subst (λ z. Meets R b n x z o) e h

next_known : {A B : Type 0} {im : Image} {d : Bool} {R1 : A → Memory → Type 0} {R2 : B → Memory → Type 0} {b : Rates}
    {n : ℕ} {t : RunResult A} {o : Outcome} (ps : List (List Symbol)) (x y : ℕ) (g : ℕ → A → RunResult B)
    → ((c : ℕ) (a : A) (m : Memory) → t ≡ Fine a c → R1 a m
    → Will im (in_order d ps) d m (Meets R2 b (n - c) y (g c a))) → Meets R1 b n x t o
    → Next (λ m1 k. Will im (in_order d ps) d m1 (λ o. Meets R2 b n (x + y) (told_then t g) (outcome_after k o)))
    (λ o. Meets R2 b n (x + y) (told_then t g) o) o
next_known {im = im} {d = d} ps x y g s (fine {a = a} {m = m} {c = c} r h l) =
    will_more im (in_order d ps) d m _ _ (λ o q. meets_plus x h l q) (s c a m refl r)
next_known ps x y g s (faults l) = faults (omega arith)
next_known ps x y g s (more h) = more h

-- one part, and the others
pub meets_then : {A B : Type 0} (im : Image) (d : Bool) (R1 : A → Memory → Type 0) (R2 : B → Memory → Type 0)
    (b : Rates) (n x y : ℕ) (p : List Symbol) (ps : List (List Symbol)) (m : Memory) (t : RunResult A)
    (g : ℕ → A → RunResult B)
    → Will im p d m (Meets R1 b n x t) → ((c : ℕ) (a : A) (m1 : Memory) → t ≡ Fine a c → R1 a m1
    → Will im (in_order d ps) d m1 (Meets R2 b (n - c) y (g c a)))
    → Will im (in_order d (p ∷ ps)) d m (Meets R2 b n (x + y) (told_then t g))
meets_then im d R1 R2 b n x y p ps m t g w s = will_first im d p ps m _
    (will_more im p d m _ _ (λ o q. next_known ps x y g s q) w)

-- a part of which the source says only a cost
pub meets_spent : {A : Type 0} {R : A → Memory → Type 0} {b : Rates} {n y k : ℕ} {t : RunResult A} {o : Outcome}
    (c x : ℕ)
    → 1 ≤ b.counts → c ≤ k → k + y ≤ b.steps * c + x → Meets R b n y t o
    → Meets R b (n + c) x (plus c t) (outcome_after k o)
meets_spent {b = b} {k = k} c x hb hc hk (fine {c = c2} {k = k2} r l u) =
    fine r (omega (arith, at_least b.counts k hb, mul-add b.counts k k2)) (omega (arith, mul-add b.steps c c2))
  where
    at_least : (b k : ℕ) → 1 ≤ b → k ≤ b * k
    at_least b k h = grind arith
meets_spent {b = b} c x hb hc hk (faults {c = c2} u) = faults (omega (arith, mul-add b.steps c c2))
meets_spent {b = b} {k = k} c x hb hc hk (more {k = k2} l) =
    more (omega (
      arith,
      at_least b.counts k hb,
      mul-add b.counts k k2,
      mul-add b.counts k2 1,
      mul-add b.counts (k + k2) 1,
    ))
  where
    at_least : (b k : ℕ) → 1 ≤ b → k ≤ b * k
    at_least b k h = grind arith

-- a part, and then others, by outcomes
pub will_next : (im : Image) (d : Bool) (p : List Symbol) (ps : List (List Symbol)) (m m1 : Memory) (k : ℕ)
    (Q : Outcome → Type 0) → Will im p d m (λ o. o ≡ Done m1 k)
    → Will im (in_order d ps) d m1 (λ o. Q (outcome_after k o))
    → Will im (in_order d (p ∷ ps)) d m Q
will_next im d p ps m m1 k Q w s = will_first im d p ps m Q
    (will_more im p d m _ _ (λ o e. subst (Next (λ m2 k2. Will im (in_order d ps) d m2 (λ o. Q (outcome_after k2 o))) Q)
    (sym e)
    s) w)

-- a fragment run forward, another, and the first one back: so in both directions

pub will_around : (im : Image) (d : Bool) (w mid : List Symbol) (m : Memory) (Q : Outcome → Type 0)
    → Will im w false m (Next (λ m1 k1. Will im mid d m1 (Next
    (λ m2 k2. Will im w true m2 (λ o. Q (outcome_after k1 (outcome_after k2 o)))) (λ o. Q (outcome_after k1 o)))) Q)
    → Will im (around w mid) d m Q
will_around im false w mid m Q h =
    will_seq im w (mid ++ mirror_cells w) m Q (will_more im w false m _ _ (λ o q. go o q) h)
  where
    inner : (m2 : Memory) (Q' : Outcome → Type 0) → Will im w true m2 Q' → Will im (mirror_cells w) false m2 Q'
    inner m2 Q' k = will_mirror im w false m2 Q' k

    mid_next : (k1 : ℕ) (o : Outcome) → Next (λ m2 k2. Will im w true m2
        (λ o. Q (outcome_after k1 (outcome_after k2 o))))
        (λ o. Q (outcome_after k1 o)) o → Next (λ m2 k2. Will im (mirror_cells w) false m2
        (λ o. Q (outcome_after k1 (outcome_after k2 o))))
        (λ o. Q (outcome_after k1 o)) o
    mid_next k1 (Done m2 k2) q = inner m2 _ q
    mid_next k1 (Trapped v k) q = q
    mid_next k1 (Bad v k) q = q
    mid_next k1 (Still k) q = q

    go : (o : Outcome) → Next (λ m1 k1. Will im mid false m1
        (Next (λ m2 k2. Will im w true m2 (λ o. Q (outcome_after k1 (outcome_after k2 o))))
        (λ o. Q (outcome_after k1 o)))) Q o
        → Next (λ m1 k1. Will im (mid ++ mirror_cells w) false m1 (λ o. Q (outcome_after k1 o))) Q o
    go (Done m1 k1) q = will_seq im mid (mirror_cells w) m1 (λ o. Q (outcome_after k1 o))
        (will_more im mid false m1 _ _ (λ o r. mid_next k1 o r) q)
    go (Trapped v k) q = q
    go (Bad v k) q = q
    go (Still k) q = q
will_around im true w mid m Q h =
    subst (λ z. Will im z true m Q) (append_assoc w mid (mirror_cells w))
    (will_seq_back im (w ++ mid) (mirror_cells w) m Q (will_mirror im w true m _
    (will_more im w false m _ _ (λ o q. go o q) h)))
  where
    mid_next : (k1 : ℕ) (o : Outcome) → Next (λ m2 k2. Will im w true m2
        (λ o. Q (outcome_after k1 (outcome_after k2 o))))
        (λ o. Q (outcome_after k1 o)) o → Next (λ m2 k2. Will im w true m2
        (λ o. Q (outcome_after k1 (outcome_after k2 o))))
        (λ o. Q (outcome_after k1 o)) o
    mid_next k1 o q = q

    go : (o : Outcome) → Next (λ m1 k1. Will im mid true m1
        (Next (λ m2 k2. Will im w true m2 (λ o. Q (outcome_after k1 (outcome_after k2 o))))
        (λ o. Q (outcome_after k1 o)))) Q o
        → Next (λ m1 k1. Will im (w ++ mid) true m1 (λ o. Q (outcome_after k1 o))) Q o
    go (Done m1 k1) q = will_seq_back im w mid m1 (λ o. Q (outcome_after k1 o)) q
    go (Trapped v k) q = q
    go (Bad v k) q = q
    go (Still k) q = q

-- one part and the next, if the first is known
pub will_two : (im : Image) (p q : List Symbol) (m m1 : Memory) (k : ℕ) (Q : Outcome → Type 0)
    → Will im p false m (λ o. o ≡ Done m1 k) → Will im q false m1 (λ o. Q (outcome_after k o))
    → Will im (p ++ q) false m Q
will_two im p q m m1 k Q w s = will_seq im p q m Q (will_more im p false m _ _
    (λ o e. subst (Next (λ m2 k2. Will im q false m2 (λ o. Q (outcome_after k2 o))) Q) (sym e) s) w)

pub will_two_back : (im : Image) (p q : List Symbol) (m m1 : Memory) (k : ℕ) (Q : Outcome → Type 0)
    → Will im q true m (λ o. o ≡ Done m1 k) → Will im p true m1 (λ o. Q (outcome_after k o)) → Will im (p ++ q) true m Q
will_two_back im p q m m1 k Q w s = will_seq_back im p q m Q
    (will_more im q true m _ _ (λ o e. subst (Next (λ m2 k2. Will im p true m2 (λ o. Q (outcome_after k2 o))) Q) (sym e)
    s) w)

-- one around another, in a direction, if the outer parts are known
pub will_in : (im : Image) (d : Bool) (v mid : List Symbol) (m m1 m2 m3 : Memory) (k1 k k2 : ℕ)
    → Will im v false m (λ o. o ≡ Done m1 k1) → Will im mid d m1 (λ o. o ≡ Done m2 k)
    → Will im v true m2 (λ o. o ≡ Done m3 k2) → Will im (around v mid) d m (λ o. o ≡ Done m3 (k1 + (k + k2)))
will_in im d v mid m m1 m2 m3 k1 k k2 a b c =
    let Q : Outcome → Type 0 = λ o. o ≡ Done m3 (k1 + (k + k2)) in
    will_around im d v mid m Q (will_more im v false m _ _
    (λ o e. subst (Next (λ m1 k1. Will im mid d m1 (Next
    (λ m2 k2. Will im v true m2 (λ o. Q (outcome_after k1 (outcome_after k2 o)))) (λ o. Q (outcome_after k1 o)))) Q)
    (sym e)
    (will_more im mid d m1 _ _ (λ o e. subst (Next (λ m2 k2. Will im v true m2
    (λ o. Q (outcome_after k1 (outcome_after k2 o))))
    (λ o. Q (outcome_after k1 o))) (sym e)
    (will_more im v true m2 _ _ (λ o e. ap (λ o. outcome_after k1 (outcome_after k o)) e) c)) b)) a)

-- the same if the middle traps
pub will_in_trap : (im : Image) (d : Bool) (v mid : List Symbol) (m m1 : Memory) (k1 code : ℕ) (K : ℕ)
    → Will im v false m (λ o. o ≡ Done m1 k1) → Will im mid d m1 (λ o. (k : ℕ) × (k ≤ K) × (o ≡ Trapped code k))
    → Will im (around v mid) d m (λ o. (k : ℕ) × (k ≤ k1 + K) × (o ≡ Trapped code k))
will_in_trap im d v mid m m1 k1 code K a b =
    let Q : Outcome → Type 0 = λ o. (k : ℕ) × (k ≤ k1 + K) × (o ≡ Trapped code k) in
    will_around im d v mid m Q (will_more im v false m _ _
    (λ o e. subst (Next (λ m1 k1. Will im mid d m1 (Next
    (λ m2 k2. Will im v true m2 (λ o. Q (outcome_after k1 (outcome_after k2 o)))) (λ o. Q (outcome_after k1 o)))) Q)
    (sym e)
    (will_more im mid d m1 _ _ (λ o t. subst (Next (λ m2 k2. Will im v true m2
    (λ o. Q (outcome_after k1 (outcome_after k2 o))))
    (λ o. Q (outcome_after k1 o))) (sym t.2) (k1 + t.0, (let h = t.1 in omega arith), refl)) b)) a)

-- steps of which the source says nothing
pub meets_later : {A : Type 0} {R : A → Memory → Type 0} {b : Rates} {n x : ℕ} {t : RunResult A} {o : Outcome} (k : ℕ)
    → Meets R b n x t o → Meets R b n (k + x) t (outcome_after k o)
meets_later {b = b} k (fine {k = k2} r l u) = fine r (omega (arith, mul-add b.counts k k2)) (omega arith)
meets_later k (faults u) = faults (omega arith)
meets_later {b = b} k (more {k = k2} l) = more (omega (
  arith,
  mul-add b.counts k k2,
  mul-add b.counts k2 1,
  mul-add b.counts (k + k2) 1,
))

-- a part, what is around it, and what the source says where it is left
wrap_next : {A B : Type 0} {im : Image} {R : A → Memory → Type 0} {R' : B → Memory → Type 0} {b : Rates} {n x : ℕ}
    {t : RunResult A} {o : Outcome} (w : List Symbol) (k1 y : ℕ) (g : A → RunResult B)
    → ((a : A) (m2 : Memory) (c : ℕ) → t ≡ Fine a c → R a m2 → Will im w true m2 (Meets R' b (n - c) y (g a)))
    → Meets R b n x t o → Next (λ m2 k2. Will im w true m2
    (λ o. Meets R' b n (k1 + (x + y)) (told_then t (λ c a. g a)) (outcome_after k1 (outcome_after k2 o))))
    (λ o. Meets R' b n (k1 + (x + y)) (told_then t (λ c a. g a)) (outcome_after k1 o)) o
wrap_next {im = im} {x = x} w k1 y g s (fine {a = a} {m = m2} {c = c} r l u) =
    will_more im w true m2 _ _ (λ o q. meets_later k1 (meets_plus x l u q)) (s a m2 c refl r)
wrap_next w k1 y g s (faults u) = faults (omega arith)
wrap_next {b = b} w k1 y g s (more {k = k} l) = more (omega
    (arith, mul-add b.counts k1 k, mul-add b.counts k 1, mul-add b.counts (k1 + k) 1))

pub wraps : {A B : Type 0} (im : Image) (d : Bool) (w mid : List Symbol) (m m1 : Memory) (R : A → Memory → Type 0)
    (R' : B → Memory → Type 0) (b : Rates) (n x y k1 : ℕ) (t : RunResult A) (g : A → RunResult B)
    → Will im w false m (λ o. o ≡ Done m1 k1) → Will im mid d m1 (Meets R b n x t)
    → ((a : A) (m2 : Memory) (c : ℕ) → t ≡ Fine a c → R a m2 → Will im w true m2 (Meets R' b (n - c) y (g a)))
    → Will im (around w mid) d m (Meets R' b n (k1 + (x + y)) (told_then t (λ c a. g a)))
wraps im d w mid m m1 R R' b n x y k1 t g first middle last =
    let Q : Outcome → Type 0 = λ o. Meets R' b n (k1 + (x + y)) (told_then t (λ c a. g a)) o in
    will_around im d w mid m Q (will_more im w false m _ _
    (λ o e. subst (Next (λ m1 k1. Will im mid d m1 (Next
    (λ m2 k2. Will im w true m2 (λ o. Q (outcome_after k1 (outcome_after k2 o)))) (λ o. Q (outcome_after k1 o)))) Q)
    (sym e)
    (will_more im mid d m1 _ _ (λ o h. wrap_next w k1 y g last h) middle)) first)

-- the same, if the part before pays for a count
spent_next : {A B : Type 0} {im : Image} {R : A → Memory → Type 0} {R' : B → Memory → Type 0} {b : Rates} {n x : ℕ}
    {t : RunResult A} {o : Outcome} (w : List Symbol) (k1 y c x' : ℕ) (g : A → RunResult B) → 1 ≤ b.counts → c ≤ k1
    → k1 + (x + y) ≤ b.steps * c + x' → ((a : A) (m2 : Memory) (c : ℕ) → t ≡ Fine a c → R a m2
    → Will im w true m2 (Meets R' b (n - c) y (g a))) → Meets R b n x t o
    → Next (λ m2 k2. Will im w true m2 (λ o. Meets R' b (n + c) x' (plus c (told_then t (λ c a. g a)))
    (outcome_after k1 (outcome_after k2 o)))) (λ o. Meets R' b (n + c) x' (plus c (told_then t (λ c a. g a)))
    (outcome_after k1 o)) o
spent_next {im = im} {x = x} w k1 y c x' g hb hc hk s (fine {a = a} {m = m2} {c = c2} r l u) =
    will_more im w true m2 _ _ (λ o q. meets_spent c x' hb hc hk (meets_plus x l u q)) (s a m2 c2 refl r)
spent_next {R' = R'} {b = b} {n = n} {x = x} w k1 y c x' g hb hc hk s (faults {w = v} {c = c2} {k = k} u) =
    meets_spent {R = R'} {b = b} {n = n} {y = x + y} c x' hb hc hk (faults (omega arith))
spent_next {R' = R'} {b = b} {n = n} {x = x} w k1 y c x' g hb hc hk s (more l) =
    meets_spent {R = R'} {b = b} {n = n} {y = x + y} c x' hb hc hk (more l)

pub wraps_spent : {A B : Type 0} (im : Image) (d : Bool) (w mid : List Symbol) (m m1 : Memory) (R : A → Memory → Type 0)
    (R' : B → Memory → Type 0) (b : Rates) (n x y k1 c x' : ℕ) (t : RunResult A) (g : A → RunResult B) → 1 ≤ b.counts
    → c ≤ k1
    → k1 + (x + y) ≤ b.steps * c + x' → Will im w false m (λ o. o ≡ Done m1 k1) → Will im mid d m1 (Meets R b n x t)
    → ((a : A) (m2 : Memory) (c : ℕ) → t ≡ Fine a c → R a m2 → Will im w true m2 (Meets R' b (n - c) y (g a)))
    → Will im (around w mid) d m (Meets R' b (n + c) x' (plus c (told_then t (λ c a. g a))))
wraps_spent im d w mid m m1 R R' b n x y k1 c x' t g hb hc hk first middle last =
    let Q : Outcome → Type 0 = λ o. Meets R' b (n + c) x' (plus c (told_then t (λ c a. g a))) o in
    will_around im d w mid m Q (will_more im w false m _ _
    (λ o e. subst (Next (λ m1 k1. Will im mid d m1 (Next
    (λ m2 k2. Will im w true m2 (λ o. Q (outcome_after k1 (outcome_after k2 o)))) (λ o. Q (outcome_after k1 o)))) Q)
    (sym e)
    (will_more im mid d m1 _ _ (λ o h. spent_next w k1 y c x' g hb hc hk last h) middle)) first)

-- ---- an outcome that comes some steps later, before its cost unit is observed

pub data Late (k : ℕ) (Q : Outcome → Type 0) : Outcome → Type 0 where
  late : {o : Outcome} → Q o → Late k Q (outcome_after k o)

after_after : (j k : ℕ) (o : Outcome) → outcome_after (j + k) o ≡ outcome_after j (outcome_after k o)
after_after j k (Done m n) = ap (Done m) (let e : j + k + n ≡ j + (k + n) = omega arith in e)
after_after j k (Trapped w n) = ap (Trapped w) (let e : j + k + n ≡ j + (k + n) = omega arith in e)
after_after j k (Bad w n) = ap (Bad w) (let e : j + k + n ≡ j + (k + n) = omega arith in e)
after_after j k (Still n) = ap Still (let e : j + k + n ≡ j + (k + n) = omega arith in e)

late_next : {A B : Type 0} {im : Image} {d : Bool} {R1 : A → Memory → Type 0} {R2 : B → Memory → Type 0} {b : Rates}
    {n : ℕ} {t : RunResult A} {o : Outcome} (j : ℕ) (ps : List (List Symbol)) (x y : ℕ) (g : ℕ → A → RunResult B)
    → ((c : ℕ) (a : A) (m : Memory) → t ≡ Fine a c → R1 a m
    → Will im (in_order d ps) d m (Meets R2 b (n - c) y (g c a))) → Meets R1 b n x t o
    → Next (λ m1 k. Will im (in_order d ps) d m1 (λ o. Late j (Meets R2 b n (x + y) (told_then t g))
    (outcome_after k o)))
    (Late j (Meets R2 b n (x + y) (told_then t g))) (outcome_after j o)
late_next {im = im} {d = d} {R2 = R2} {b = b} {n = n} {t = t} j ps x y g s (fine {a = a} {m = m} {c = c} {k = k} r h l)
    = will_more im (in_order d ps) d m _ _ (λ o q. subst (Late j (Meets R2 b n (x + y) (plus c (g c a))))
    (sym (after_after j k o)) (late {o = outcome_after k o} (meets_plus x h l q))) (s c a m refl r)
late_next j ps x y g s (faults {w = w} {c = c} {k = k} l) = late {o = Trapped w k} (faults (omega arith))
late_next j ps x y g s (more {k = k} h) = late {o = Still k} (more h)

of_late : {j : ℕ} {Q : Outcome → Type 0} {o : Outcome} (W : Memory → ℕ → Type 0) (P : Outcome → Type 0)
    → ((o : Outcome) → Q o → Next W P (outcome_after j o)) → Late j Q o → Next W P o
of_late W P f (late {o = o} q) = f o q

pub late_then : {A B : Type 0} (im : Image) (d : Bool) (R1 : A → Memory → Type 0) (R2 : B → Memory → Type 0) (b : Rates)
    (n x y j : ℕ) (p : List Symbol) (ps : List (List Symbol)) (m : Memory) (t : RunResult A) (g : ℕ → A → RunResult B)
    → Will im p d m (Late j (Meets R1 b n x t)) → ((c : ℕ) (a : A) (m1 : Memory) → t ≡ Fine a c → R1 a m1
    → Will im (in_order d ps) d m1 (Meets R2 b (n - c) y (g c a)))
    → Will im (in_order d (p ∷ ps)) d m (Late j (Meets R2 b n (x + y) (told_then t g)))
late_then im d R1 R2 b n x y j p ps m t g w s =
    let P : Outcome → Type 0 = Late j (Meets R2 b n (x + y) (told_then t g)) in
    let W : Memory → ℕ → Type 0 = λ m1 k. Will im (in_order d ps) d m1 (λ o. P (outcome_after k o)) in
    will_first im d p ps m P (will_more im p d m _ _ (λ o q. of_late W P (λ o h. late_next j ps x y g s h) q) w)

pub late_counts : {A : Type 0} {R : A → Memory → Type 0} {b : Rates} {n x j : ℕ} {t : RunResult A} {o : Outcome}
    (c x' : ℕ)
    → 1 ≤ b.counts → c ≤ j → j + x ≤ b.steps * c + x' → Late j (Meets R b n x t) o → Meets R b (n + c) x' (plus c t) o
late_counts c x' hb hc hk (late h) = meets_spent c x' hb hc hk h
