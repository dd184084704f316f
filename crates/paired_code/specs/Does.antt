-- How a run of a fragment meets what the source says.
use Rattle.std.specs.Prelude.{ℕ, zero, suc, ◌+◌, ◌-◌, ◌*◌, ◌≤◌, Bool, true, false, List, [], ◌∷◌}
use Rattle.std.specs.Prelude.{◌++◌}
use Rattle.code_conventions.specs.pisa_isa.Machine.{Memory}
use Rattle.paired_code.specs.declared.part.Symbol.{Symbol}
use Rattle.paired_code.specs.Machine.{Image}
use Rattle.paired_code.specs.Layout.{bool_xor}
use Rattle.paired_code.specs.Pieces.{Outcome, Done, Trapped, Still, Will}
use Rattle.code_conventions.specs.declared.faults.TheConstants.{FI}

-- what the source says, with its cost
pub data RunResult (A : Type 0) : Type 0 where
  Fine : (a : A) (cost : ℕ) → RunResult A
  Fault : (code cost : ℕ) → RunResult A
  More : RunResult A

abbrev pub plus : {A : Type 0} → ℕ → RunResult A → RunResult A
plus n (Fine a c) = Fine a (n + c)
plus n (Fault w c) = Fault w (n + c)
plus n More = More

-- one part and, with what it cost, the next
abbrev pub told_then : {A B : Type 0} → RunResult A → (ℕ → A → RunResult B) → RunResult B
told_then (Fine a c) g = plus c (g c a)
told_then (Fault w c) g = Fault w c
told_then More g = More

-- a count of 1, if there is fuel for it
abbrev pub ticked : {A : Type 0} → ℕ → (ℕ → RunResult A) → RunResult A
ticked zero g = More
ticked (suc n) g = plus 1 (g n)

-- how much a step may be worth at most, and how many steps come with a cost unit at most
pub record Rates : Type 0 where
  pub counts : ℕ
  pub steps : ℕ

-- the run does what the source says with fuel n: within the rates b, and x steps more
pub data Meets {A : Type 0} (R : A → Memory → Type 0) (b : Rates) (n x : ℕ) : RunResult A → Outcome
    → Type 0 where
  fine : {a : A} {m : Memory} {c k : ℕ} → R a m → c ≤ b.counts * k → k ≤ b.steps * c + x
      → Meets R b n x (Fine a c) (Done m k)
  faults : {w c k : ℕ} → k ≤ b.steps * c + x → Meets R b n x (Fault w c) (Trapped w k)
  more : {k : ℕ} → n ≤ b.counts * (k + 1) → Meets R b n x More (Still k)

-- from each related memory, the fragment does what the source says
pub record Does {A B : Type 0} (im : Image) (p : List Symbol) (d : Bool) (R : A → Memory → Type 0)
    (R' : B → Memory → Type 0) (b : Rates) (n x : ℕ) (f : A → RunResult B) : Type 0 where
  pub does : (a : A) (m : Memory) → R a m → Will im p d m (Meets R' b n x (f a))

-- fragments in the order in which they are run
abbrev pub in_order : Bool → List (List Symbol) → List Symbol
in_order d [] = []
in_order false (p ∷ ps) = p ++ in_order false ps
in_order true (p ∷ ps) = in_order true ps ++ p

-- a value of 0 or 1 that is xored into a register, with what it costs: v is the register's value
-- before
pub record XorsTruth {A : Type 0} (im : Image) (p : List Symbol) (d : Bool)
    (R : Bool → A → Memory → Type 0) (b : Rates) (x : ℕ) (t : ℕ → A → RunResult Bool) : Type 0 where
  pub tells : (n : ℕ) (v : Bool) (a : A) (m : Memory) → R v a m
      → Will im p d m (Meets (λ w m1. R (bool_xor v w) a m1) b n x (t n a))

abbrev pub chosen : {A : Type 0} → Bool → RunResult A → RunResult A → RunResult A
chosen true s t = s
chosen false s t = t

-- a fault, if the tests before and after differ
abbrev pub agreed : {A : Type 0} → Bool → A → RunResult A
agreed true a = Fault FI 0
agreed false a = Fine a 0

-- the meaning of `if t then p else q fi u`
abbrev pub if_told : {A : Type 0} → (t u : ℕ → A → RunResult Bool) (p q : ℕ → A → RunResult A) → ℕ → A
    → RunResult A
if_told t u p q n a =
    ticked n (λ n. told_then (t n a)
    (λ c v. told_then (chosen v (p (n - c) a) (q (n - c) a))
    (λ c2 a1. told_then (u (n - c - c2) a1) (λ c3 w. agreed (bool_xor v w) a1))))
