-- The laws of the fragments, as contracts state them.
use Rattle.std.specs.Prelude.{◌≡◌, ◌≢◌, ℕ, ◌+◌, ◌^◌, ◌<◌, ◌≤◌, Bool, true, false, not, List, length}
use Rattle.std.specs.Prelude.{if◌then◌else◌, pos}
use Rattle.code_conventions.specs.pisa_isa.declared.cell.Cell.{Cell}
use Rattle.code_conventions.specs.declared.registers.TheConstants.{LINK}
use Rattle.paired_code.specs.declared.part.Symbol.{Symbol}
use Rattle.code_conventions.specs.rpp_words.Words.{difference_of, is_less}
use Rattle.code_conventions.specs.pisa_isa.Machine.{has_cell, Memory}
use Rattle.paired_code.specs.Machine.{state, Image, memory_reg, memory_with_reg, effect_along}
use Rattle.paired_code.specs.Layout.{bool_xor, Frame, Stands, Routine, Tidy, Test, Equal, Differ, Positive}
use Rattle.paired_code.specs.Pieces.{Outcome, Done, Trapped, Bad, Still, Ends, near_end, far_end}
use Rattle.paired_code.specs.Pieces.{Runs, outcome_after, IsOutcomeOver, to_tail, to_head, then_do, outcome_around}
use Rattle.paired_code.specs.Pieces.{around_no}

-- all is p and then q, and back q and then p
pub record SeqLaw (p q all : List Symbol) : Type 0 where
  pub ahead : (im : Image) (m : Memory) (o : Outcome) (g : Memory → Outcome) → Runs im p false m o
      → ((m1 : Memory) (k : ℕ) → o ≡ Done m1 k → Runs im q false m1 (g m1))
      → Runs im all false m (then_do o g)
  pub back : (im : Image) (m : Memory) (o : Outcome) (g : Memory → Outcome) → Runs im q true m o
      → ((m1 : Memory) (k : ℕ) → o ≡ Done m1 k → Runs im p true m1 (g m1))
      → Runs im all true m (then_do o g)

-- all is p run the other way
pub record MirrorLaw (p all : List Symbol) : Type 0 where
  pub turns : (im : Image) (d : Bool) (m : Memory) (o : Outcome) → Runs im p (not d) m o
      → Runs im all d m o
  pub returns : (im : Image) (d : Bool) (m : Memory) (o : Outcome) → Runs im all d m o
      → Runs im p (not d) m o

-- all is p if the register is not 0, and else q
pub record BranchLaw (r : ℕ) (p q all : List Symbol) : Type 0 where
  pub yes_part : (im : Image) (d : Bool) (m : Memory) (o : Outcome) → memory_reg m r ≢ 0 → Runs im p d m o
      → ((m1 : Memory) (k : ℕ) → o ≡ Done m1 k → memory_reg m1 r ≢ 0) → Runs im all d m (outcome_around 3 3 o)
  pub no_part : (im : Image) (d : Bool) (m : Memory) (o : Outcome) → memory_reg m r ≡ 0 → Runs im q d m o
      → ((m1 : Memory) (k : ℕ) → o ≡ Done m1 k → memory_reg m1 r ≡ 0) → Runs im all d m (around_no d o)

-- one step, by the cell's effect in the direction; or no step, if EXCH has a bad address
abbrev pub outcome_of : Bool → Cell → Memory → Outcome
outcome_of d c m = if has_cell c.op c.b (state (pos 0) 0 false m) then Done (effect_along d c m) 1
    else Bad (memory_reg m c.b) 0

abbrev pub PlainLaw : Cell → List Symbol → Type 0
PlainLaw c all = (im : Image) (d : Bool) (m : Memory) → Runs im all d m (outcome_of d c m)

-- no step in either direction
abbrev pub EmptyLaw : List Symbol → Type 0
EmptyLaw all = (im : Image) (d : Bool) (m : Memory) → Runs im all d m (Done m 0)

-- a stop with the code exactly if the register is not 0
pub record CheckLaw (r code : ℕ) (all : List Symbol) : Type 0 where
  pub zero_part : (im : Image) (d : Bool) (m : Memory) → memory_reg m r ≡ 0 → Runs im all d m (Done m 4)
  pub other_part : (im : Image) (d : Bool) (m : Memory) → memory_reg m r ≢ 0 → (k : ℕ) × (k ≤ 4)
      × Runs im all d m (Trapped code k)

abbrev pub TestPasses : Test → Memory → Type 0
TestPasses (Equal r s) m = memory_reg m r ≡ memory_reg m s
TestPasses (Differ r s) m = memory_reg m r ≢ memory_reg m s
TestPasses (Positive r) m = is_less 0 (memory_reg m r) ≡ true

abbrev pub TestFails : Test → Memory → Type 0
TestFails (Equal r s) m = memory_reg m r ≢ memory_reg m s
TestFails (Differ r s) m = memory_reg m r ≡ memory_reg m s
TestFails (Positive r) m = is_less 0 (memory_reg m r) ≡ false

-- a stop with the code exactly if the test fails
pub record BranchTestLaw (t : Test) (code : ℕ) (all : List Symbol) : Type 0 where
  pub passes_part : (im : Image) (d : Bool) (m : Memory) → TestPasses t m → Runs im all d m (Done m 2)
  pub fails_part : (im : Image) (d : Bool) (m : Memory) → TestFails t m
      → Runs im all d m (Trapped code 1)

-- what a body's run makes of a call, if it leaves LINK as it found it: w
abbrev pub came_back : ℕ → Outcome → Type 0
came_back w (Done m k) = memory_reg m LINK ≡ w
came_back w o = Unit {0}

-- the steps before the body
abbrev pub lead : Bool → ℕ
lead false = 3
lead true = 4

abbrev pub called : Bool → Outcome → Outcome
called d (Done m k) = Done (memory_with_reg m LINK 0) (k + 7)
called d (Trapped v k) = Trapped v (lead d + k)
called d (Bad v k) = Bad v (lead d + k)
called d (Still k) = Still (lead d + k)

-- a call of routine r, forward or back: LINK is 0, and the body finds in it a word that is not 0,
-- which it leaves there
pub record EnterLaw (r : ℕ) (b : Bool) (all : List Symbol) : Type 0 where
  pub enters : (im : Image) (top : ℕ) (body : List Symbol) (d : Bool) (m : Memory) (o : ℕ → Outcome)
      → Routine im r top body → Tidy im → LINK < length m.regs → memory_reg m LINK ≡ 0
      → ((w : ℕ) → 0 < w → w < 2 ^ 32 → Runs im body (bool_xor b d) (memory_with_reg m LINK w) (o w)
      × came_back w (o w)) → (f : Frame) (i : ℕ) → i + length all < 2 ^ 30 → Stands im f i all
      → (w : ℕ) × (0 < w) × (w < 2 ^ 32)
      × Ends im f d i (i + length all) (near_end d i (i + length all)) m
      (far_end d i (i + length all)) (called (bool_xor b d) (o w))

-- what a call by a register leaves in LINK, if the body left v in the register in place of s: 0
-- if they are one
abbrev pub left_in : Bool → ℕ → ℕ → ℕ
left_in false v s = difference_of v s
left_in true v s = difference_of s v

-- a and s: the register and the routine's place; d: the way in which the body is run; e: the steps
-- before and after
abbrev pub called_at : ℕ → ℕ → Bool → ℕ → Outcome → Outcome
called_at a s d e (Done m k) = Done (memory_with_reg m LINK (left_in d (memory_reg m a) s)) (k + e)
called_at a s d e (Trapped v k) = Trapped v (k + e)
called_at a s d e (Bad v k) = Bad v (k + e)
called_at a s d e (Still k) = Still (k + e)

-- the same of a call by a register
pub record EnterAtLaw (a : ℕ) (b : Bool) (all : List Symbol) : Type 0 where
  pub enters : (im : Image) (r top : ℕ) (body : List Symbol) (d : Bool) (m : Memory)
      (o : ℕ → Outcome) → Routine im r top body → Tidy im → LINK < length m.regs → memory_reg m LINK ≡ 0
      → memory_reg m a ≡ top + 1 → ((w : ℕ) → 0 < w → w < 2 ^ 32
      → Runs im body (bool_xor b d) (memory_with_reg m LINK w) (o w) × came_back w (o w)) → (f : Frame) (i : ℕ)
      → i + length all < 2 ^ 30 → Stands im f i all → (w : ℕ) × (e : ℕ) × (0 < w) × (w < 2 ^ 32)
      × (6 ≤ e) × (e ≤ 15) × Ends im f d i (i + length all) (near_end d i (i + length all)) m
      (far_end d i (i + length all)) (called_at a (top + 1) (bool_xor b d) e (o w))

-- how a loop goes from the beginning of head on
pub data Rounds (im : Image) (r : ℕ) (head tail : List Symbol) (d : Bool) : Memory → Outcome
    → Type 0 where
  pause : {m : Memory} → Rounds im r head tail d m (Still 0)
  ends_in_head : {m : Memory} {o : Outcome} → Runs im head d m o → IsOutcomeOver o
      → Rounds im r head tail d m o
  leaves : {m m1 : Memory} {k : ℕ} → Runs im head d m (Done m1 k) → memory_reg m1 r ≢ 0
      → Rounds im r head tail d m (Done m1 (k + 3))
  ends_in_tail : {m m1 : Memory} {k : ℕ} {o : Outcome} → Runs im head d m (Done m1 k) → memory_reg m1 r ≡ 0
      → Runs im tail d m1 o → IsOutcomeOver o → Rounds im r head tail d m (outcome_after (k + to_tail d) o)
  again : {m m1 m2 : Memory} {k k2 : ℕ} {o : Outcome} → Runs im head d m (Done m1 k) → memory_reg m1 r ≡ 0
      → Runs im tail d m1 (Done m2 k2) → memory_reg m2 r ≡ 0 → Rounds im r head tail d m2 o
      → Rounds im r head tail d m (outcome_after (k + to_tail d + (k2 + to_head d)) o)

-- all is entered with the register not 0, and then goes in rounds
pub record WhileLaw (r : ℕ) (head tail all : List Symbol) : Type 0 where
  pub turns : (im : Image) (d : Bool) (m : Memory) (o : Outcome) → memory_reg m r ≢ 0
      → Rounds im r head tail d m o → Runs im all d m (outcome_after 3 o)
