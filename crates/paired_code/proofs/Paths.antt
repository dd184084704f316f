-- Paths are put together, widened and put inside a call.
use Rattle.std.proofs.Common.{◌≡◌, ℕ, zero, suc, ◌+◌, ◌≤◌, subst, arith}
use Rattle.std.specs.Prelude.{ℤ}
use Rattle.code_conventions.specs.pisa_isa.Machine.{State}
use Rattle.paired_code.specs.Machine.{Image, Level, same, enters, leaves}
use Rattle.paired_code.specs.Layout.{Frame}
use Rattle.paired_code.specs.Pieces.{Inside, cell, open_call, in_flight, Path, stay, step}

pub append : {im : Image} {f : Frame} {a b k1 k2 e e1 e2 : ℕ} {s s1 s2 : State} → Path im f a b k1 e s e1 s1
    → Path im f a b k2 e1 s1 e2 s2 → Path im f a b (k1 + k2) e s e2 s2
append {im = im} {f = f} {a = a} {b = b} {k2 = k2} {e2 = e2} {s2 = s2} (stay {e = e} {s = s}) q =
    let z : k2 ≡ 0 + k2 = omega arith in subst (λ k. Path im f a b k e s e2 s2) z q
append {im = im} {f = f} {a = a} {b = b} {k2 = k2} {e2 = e2} {s2 = s2} (step {k = k} {e = e} {s = s} c i h n v l p) q =
    let z : suc (k + k2) ≡ suc k + k2 = omega arith in subst (λ j. Path im f a b j e s e2 s2) z
    (step c i h n v l (append p q))

pub inside_wider : {f : Frame} {a b a' b' e br : ℕ} {p : ℤ} → a' ≤ a → b ≤ b' → Inside f a b e p br
    → Inside f a' b' e p br
inside_wider lo hi (cell i h k) = cell i (omega arith) (omega arith)
inside_wider lo hi open_call = open_call
inside_wider lo hi (in_flight h) = in_flight h

pub widen : {im : Image} {f : Frame} {a b k e e' : ℕ} {s s' : State} (a' b' : ℕ) → a' ≤ a → b ≤ b'
    → Path im f a b k e s e' s' → Path im f a' b' k e s e' s'
widen a' b' lo hi stay = stay
widen a' b' lo hi (step c i h n v l p) = step c (inside_wider lo hi i) h n v l (widen a' b' lo hi p)

level_up : {c : _} {e e' : ℕ} → Level c e e' → Level c (suc e) (suc e')
level_up same = same
level_up enters = enters
level_up leaves = leaves

-- what a routine's body does counts as inside for any caller
pub within_call : {im : Image} {f : Frame} {a b k e e' : ℕ} {s s' : State} (f' : Frame) (a' b' : ℕ)
    → Path im f a b k e s e' s' → Path im f' a' b' k (suc e) s (suc e') s'
within_call f' a' b' stay = stay
within_call f' a' b' (step c i h n v l p) = step c open_call h n v (level_up l) (within_call f' a' b' p)
