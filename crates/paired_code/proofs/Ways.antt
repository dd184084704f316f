-- Ways are put together, and outcomes follow ways.
use Rattle.std.proofs.Common.{◌≡◌, ◌≢◌, ℕ, ◌+◌, ◌^◌, ◌<◌, ◌≤◌, ◌⊎◌, inl, inr, Bool, true, false, List, [], ◌∷◌, ◌++◌}
use Rattle.std.proofs.Common.{length, Some, refl, ap, ◌∙◌, subst, ⊎_elim, arith}
use Rattle.std.specs.Prelude.{ℤ}
use Rattle.std.proofs.lemmas.Bool.Decides.{nat_tests}
use Rattle.std.proofs.lemmas.Bool.{cases_lt}
use Rattle.code_conventions.specs.pisa_isa.declared.cell.Cell.{Cell}
use Rattle.code_conventions.specs.Cells.{bra}
use Rattle.paired_code.specs.Cells.{bgtz, bltz}
use Rattle.paired_code.specs.declared.part.Symbol.{Symbol}
use Rattle.paired_code.specs.declared.part.Symbol.TheVariants.{Own}
use Rattle.code_conventions.specs.pisa_isa.Machine.{fetch, Memory}
use Rattle.code_conventions.specs.pisa_isa.declared.machine.Stop.{Stop}
use Rattle.paired_code.proofs.Words.{is_positive, is_negative, near, far}
use Rattle.paired_code.specs.Machine.{Image, memory_reg}
use Rattle.paired_code.specs.Layout.{Frame, frame_address, between, resolved, Stands}
use Rattle.paired_code.specs.Pieces.{stay, Outcome, Done, Way, Halts, Ends, finishes, traps, bad, still, outcome_after}
use Rattle.paired_code.specs.Pieces.{then_do}
use Rattle.paired_code.specs.Pieces.{outcome_around}
use Rattle.paired_code.proofs.Paths.{append, widen, inside_wider}
use Rattle.paired_code.proofs.Steps.{oriented, Has, Takes, calm_way, hop_way, takes_bra, takes_gt, takes_lt, calm_gt}
use Rattle.paired_code.proofs.Steps.{calm_lt}

-- ---- the code addresses of cells

pub front : (im : Image) (f : Frame) (i : ℕ) (p q : List Symbol) → Stands im f i (p ++ q) → Stands im f i p
front im f i [] q h = tt
front im f i (c ∷ p) q h = (h.0, front im f (i + 1) p q h.1)

pub rest : (im : Image) (f : Frame) (i : ℕ) (p q : List Symbol) → Stands im f i (p ++ q) → Stands im f (i + length p) q
rest im f i [] q h = let e : i ≡ i + 0 = omega arith in subst (λ n. Stands im f n q) e h
rest im f i (c ∷ p) q h =
    let e : i + 1 + length p ≡ i + length (c ∷ p) = omega arith in
    subst (λ n. Stands im f n q) e (rest im f (i + 1) p q h.1)

own_is : (im : Image) (flip : Bool) (p : ℤ) (c : Cell) → resolved im flip p (Own c) ≡ oriented flip c
own_is im false p c = refl
own_is im true p c = refl

pub has : (im : Image) (f : Frame) (i : ℕ) (c : Cell) → fetch im.code (frame_address f i)
    ≡ Some (resolved im f.flip (frame_address f i) (Own c)) → Has im f i c
has im f i c h = h ∙ ap Some (own_is im f.flip (frame_address f i) c)

-- ---- ways

pub and_then : {im : Image} {f : Frame} {d : Bool} {a b k k' i j l : ℕ} {m m1 m2 : Memory} → Way im f d a b k i m j m1
    → Way im f d a b k' j m1 l m2 → Way im f d a b (k + k') i m l m2
and_then p q = record { path = append p.path q.path }

pub from_to : {im : Image} {f : Frame} {d : Bool} {a b k k' i i' j j' : ℕ} {m m' : Memory} → k ≡ k' → i ≡ i' → j ≡ j'
    → Way im f d a b k i m j m' → Way im f d a b k' i' m j' m'
from_to {im = im} {f = f} {d = d} {a = a} {b = b} {k = k} {k' = k'} {i = i} {i' = i'} {j = j} {m = m} {m' = m'} ek ei ej
    w =
    subst (λ z. Way im f d a b k' i' m z m') ej (subst (λ z. Way im f d a b k' z m j m') ei
    (subst (λ z. Way im f d a b z i m j m') ek w))

pub stand_still : {im : Image} {f : Frame} {d : Bool} {a b i : ℕ} {m : Memory} → Way im f d a b 0 i m i m
stand_still = record { path = stay }

pub way_wider : {im : Image} {f : Frame} {d : Bool} {a b k i j : ℕ} {m m' : Memory} (a' b' : ℕ) → a' ≤ a → b ≤ b'
    → Way im f d a b k i m j m' → Way im f d a' b' k i m j m'
way_wider a' b' lo hi w = record { path = widen a' b' lo hi w.path }

-- ---- outcomes

halts_wider : {im : Image} {f : Frame} {d : Bool} {a b k i : ℕ} {m : Memory} {y : Stop} (a' b' : ℕ) → a' ≤ a → b ≤ b'
    → Halts im f d a b k i m y → Halts im f d a' b' k i m y
halts_wider a' b' lo hi h = record {
  last = h.last;
  depth = h.depth;
  path = widen a' b' lo hi h.path;
  stops = h.stops;
  inside = inside_wider lo hi h.inside;
}

pub ends_wider : {im : Image} {f : Frame} {d : Bool} {a b i j : ℕ} {m : Memory} {o : Outcome} (a' b' : ℕ) → a' ≤ a
    → b ≤ b' → Ends im f d a b i m j o → Ends im f d a' b' i m j o
ends_wider a' b' lo hi (finishes w) = finishes (way_wider a' b' lo hi w)
ends_wider a' b' lo hi (traps h) = traps (halts_wider a' b' lo hi h)
ends_wider a' b' lo hi (bad h) = bad (halts_wider a' b' lo hi h)
ends_wider a' b' lo hi (still g) = still (record { last = g.last; depth = g.depth; path = widen a' b' lo hi g.path })

halts_after : {im : Image} {f : Frame} {d : Bool} {a b k n i j : ℕ} {m m1 : Memory} {y : Stop}
    → Way im f d a b n i m j m1 → Halts im f d a b k j m1 y → Halts im f d a b (n + k) i m y
halts_after w h = record {
  last = h.last;
  depth = h.depth;
  path = append w.path h.path;
  stops = h.stops;
  inside = h.inside;
}

pub ends_after : {im : Image} {f : Frame} {d : Bool} {a b n i j l : ℕ} {m m1 : Memory} {o : Outcome}
    → Way im f d a b n i m j m1 → Ends im f d a b j m1 l o → Ends im f d a b i m l (outcome_after n o)
ends_after w (finishes v) = finishes (and_then w v)
ends_after w (traps h) = traps (halts_after w h)
ends_after w (bad h) = bad (halts_after w h)
ends_after w (still g) = still (record { last = g.last; depth = g.depth; path = append w.path g.path })

pub ends_then : {im : Image} {f : Frame} {d : Bool} {a b i j l : ℕ} {m : Memory} {o : Outcome} {g : Memory → Outcome}
    → Ends im f d a b i m j o → ((m1 : Memory) (k : ℕ) → o ≡ Done m1 k → Ends im f d a b j m1 l (g m1))
    → Ends im f d a b i m l (then_do o g)
ends_then (finishes {m' = m'} {k = k} w) r = ends_after w (r m' k refl)
ends_then (traps h) r = traps h
ends_then (bad h) r = bad h
ends_then (still g) r = still g

-- a way before, and a way after where the run leaves
pub ends_around : {im : Image} {f : Frame} {d : Bool} {a b x y i i' j j' : ℕ} {m : Memory} {o : Outcome}
    → Way im f d a b x i m i' m → Ends im f d a b i' m j o
    → ((m1 : Memory) (k : ℕ) → o ≡ Done m1 k → Way im f d a b y j m1 j' m1)
    → Ends im f d a b i m j' (outcome_around x y o)
ends_around w e r = ends_after w (ends_then e (λ m1 k h. finishes (r m1 k h)))

-- ---- a register that is 0 or not

pub not_zero : (w : ℕ) → w ≢ 0 → ((is_positive w ≡ true) × (is_negative w ≡ false))
    ⊎ ((is_positive w ≡ false) × (is_negative w ≡ true))
not_zero w h = ⊎_elim (λ l. inl (grind (arith, nat_tests), grind (arith, nat_tests)))
    (λ l. inr (grind (arith, nat_tests), grind (arith, nat_tests))) (cases_lt w (2 ^ 31))

pub zero_positive : (w : ℕ) → w ≡ 0 → is_positive w ≡ false
zero_positive w h = ap is_positive h

pub zero_negative : (w : ℕ) → w ≡ 0 → is_negative w ≡ false
zero_negative w h = ap is_negative h

-- ---- forks

-- both cells of a fork are at x, and branch by w
pub record Fork (im : Image) (f : Frame) (r x w : ℕ) : Type 0 where
  pub first : Has im f x (bgtz r w)
  pub second : Has im f (x + 1) (bltz r w)

pub fork_at : (im : Image) (f : Frame) (r x w : ℕ) → fetch im.code (frame_address f x)
    ≡ Some (resolved im f.flip (frame_address f x) (Own (bgtz r w)))
    → fetch im.code (frame_address f (x + 1)) ≡ Some (resolved im f.flip (frame_address f (x + 1)) (Own (bltz r w)))
    → Fork im f r x w
fork_at im f r x w h k = record { first = has im f x (bgtz r w) h; second = has im f (x + 1) (bltz r w) k }

-- the gaps before and after a fork
abbrev pub near2 : Bool → ℕ → ℕ
near2 false x = x
near2 true x = x + 1 + 1

abbrev pub far2 : Bool → ℕ → ℕ
far2 false x = x + 1 + 1
far2 true x = x

pub fork_passed : (im : Image) (f : Frame) (d : Bool) (a b r x w : ℕ) (m : Memory) → a ≤ x → x + 1 < b
    → memory_reg m r ≡ 0
    → Fork im f r x w → Way im f d a b 2 (near2 d x) m (far2 d x) m
fork_passed im f false a b r x w m lo hi z k =
    and_then (calm_way im f false a b x (bgtz r w) m m lo (omega arith) k.first
    (calm_gt f.flip false r m w (zero_positive _ z))) (calm_way im f false a b (x + 1) (bltz r w) m m
    (omega arith) hi k.second (calm_lt f.flip false r m w (zero_negative _ z)))
fork_passed im f true a b r x w m lo hi z k =
    and_then (calm_way im f true a b (x + 1) (bltz r w) m m (omega arith) hi k.second
    (calm_lt f.flip true r m w (zero_negative _ z))) (calm_way im f true a b x (bgtz r w) m m lo (omega arith)
    k.first (calm_gt f.flip true r m w (zero_positive _ z)))

between_suc : (x y : ℕ) → x < 2 ^ 30 → y < 2 ^ 30 → between x y ≡ between (x + 1) (y + 1)
between_suc x y h k = omega arith

pub fork_taken : (im : Image) (f : Frame) (d : Bool) (a b r x y : ℕ) (m : Memory) → x ≢ y → x + 1 < 2 ^ 30
    → y + 1 < 2 ^ 30 → a ≤ x → x + 1 < b → a ≤ y → y + 1 < b → memory_reg m r ≢ 0 → Fork im f r x (between x y)
    → Fork im f r y (between y x) → Way im f d a b 3 (near2 d x) m (far2 d y) m
fork_taken im f d a b r x y m ne hx hy lx ux ly uy nz p q =
    ⊎_elim (λ s. positive d s.0 s.1) (λ s. negative d s.0 s.1) (not_zero (memory_reg m r) nz)
  where
    w : ℕ
    w = between x y

    hop1 : (d : Bool) → is_positive (memory_reg m r) ≡ true → Way im f d a b 2 (near d x) m (far d y) m
    hop1 d s = hop_way im f d a b x y (bgtz r (between x y)) (bgtz r (between y x)) m ne (omega arith) (omega arith) lx
        (omega arith) ly (omega arith) p.first q.first (takes_gt f.flip r m _ s) (takes_gt f.flip r m _ s)

    ne1 : x + 1 ≢ y + 1
    ne1 e = ne (omega arith)

    hop2 : (d : Bool) → is_negative (memory_reg m r) ≡ true → Way im f d a b 2 (near d (x + 1)) m (far d (y + 1)) m
    hop2 d s = hop_way im f d a b (x + 1) (y + 1) (bltz r (between x y)) (bltz r (between y x)) m ne1 hx hy
        (omega arith) ux (omega arith) uy p.second q.second
        (subst (λ z. Takes f.flip (bltz r (between x y)) m z) (between_suc x y (omega arith) (omega arith))
        (takes_lt f.flip r m _ s)) (subst (λ z. Takes f.flip (bltz r (between y x)) m z)
        (between_suc y x (omega arith) (omega arith)) (takes_lt f.flip r m _ s))

    positive : (d : Bool) → is_positive (memory_reg m r) ≡ true → is_negative (memory_reg m r) ≡ false
        → Way im f d a b 3 (near2 d x) m (far2 d y) m
    positive false s n = and_then (hop1 false s) (calm_way im f false a b (y + 1) (bltz r _) m m (omega arith) uy
        q.second (calm_lt f.flip false r m _ n))
    positive true s n = and_then (calm_way im f true a b (x + 1) (bltz r _) m m (omega arith) ux p.second
        (calm_lt f.flip true r m _ n)) (hop1 true s)

    negative : (d : Bool) → is_positive (memory_reg m r) ≡ false → is_negative (memory_reg m r) ≡ true
        → Way im f d a b 3 (near2 d x) m (far2 d y) m
    negative false n s = and_then (calm_way im f false a b x (bgtz r _) m m lx (omega arith) p.first
        (calm_gt f.flip false r m _ n)) (hop2 false s)
    negative true n s = and_then (hop2 true s) (calm_way im f true a b y (bgtz r _) m m ly (omega arith) q.first
        (calm_gt f.flip true r m _ n))

-- a jump and its pair
pub jump : (im : Image) (f : Frame) (d : Bool) (a b x y : ℕ) (m : Memory) → x ≢ y → x < 2 ^ 30 → y < 2 ^ 30 → a ≤ x
    → x < b → a ≤ y → y < b → Has im f x (bra (between x y)) → Has im f y (bra (between y x))
    → Way im f d a b 2 (near d x) m (far d y) m
jump im f d a b x y m ne hx hy lx ux ly uy p q = hop_way im f d a b x y _ _ m ne hx hy lx ux ly uy p q
    (takes_bra f.flip m _) (takes_bra f.flip m _)
