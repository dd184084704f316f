-- Closed fragments: the conditions on a run, and the four things that it then does.
use Rattle.std.specs.Prelude.{◌≡◌, ◌≢◌, ℕ, zero, suc, ◌+◌, ◌^◌, ◌<◌, ◌≤◌, ◌⊎◌, Bool, true, false}
use Rattle.std.specs.Prelude.{not, List, [], ◌∷◌, ◌++◌, length, ℤ}
use Rattle.code_conventions.specs.pisa_isa.declared.cell.Cell.{Cell}
use Rattle.code_conventions.specs.pisa_isa.Table.{IsCell}
use Rattle.code_conventions.specs.declared.registers.TheConstants.{LINK}
use Rattle.paired_code.specs.declared.part.Symbol.{Symbol}
use Rattle.paired_code.specs.declared.part.Symbol.TheVariants.{Own, Enter}
use Rattle.code_conventions.specs.pisa_isa.Machine.{State, Memory}
use Rattle.code_conventions.specs.pisa_isa.declared.machine.Stop.TheVariants.{Trap, BadAddress}
use Rattle.paired_code.specs.Machine.{Image, memory_reg, memory_with_reg, is_single}
use Rattle.paired_code.specs.Layout.{bool_xor, at, code_line, mirror_cells, branch_cells, loop_cells}
use Rattle.paired_code.specs.Layout.{check_cells, Test, test_cells, place_register, enter_at_cells}
use Rattle.paired_code.specs.Layout.{Routine, Tidy}
use Rattle.paired_code.specs.Pieces.{Outcome, Done, Trapped, Bad, Still, outcome_after, outcome_around, around_no}
use Rattle.paired_code.specs.Pieces.{to_tail, to_head, near_end, far_end}
use Rattle.paired_code.specs.Laws.{outcome_of, TestPasses, TestFails, lead, left_in}
use Rattle.paired_code.specs.Literal.{Comes, LiteralStops, LiteralStays}

-- how the calls made a fragment
pub data Shape : Type 0 where
  Nothing : Shape
  One : (c : Cell) → Shape
  Then : (p q : Shape) → Shape
  Turned : (p : Shape) → Shape
  Choose : (r : ℕ) (p q : Shape) → Shape
  Loop : (r : ℕ) (p q : Shape) → Shape
  Check : (r code : ℕ) → Shape
  Try : (t : Test) (code : ℕ) → Shape
  Call : (r : ℕ) (b : Bool) → Shape
  Call_at : (a : ℕ) (b : Bool) → Shape

abbrev pub cells_of_shape : Shape → List Symbol
cells_of_shape Nothing = []
cells_of_shape (One c) = Own c ∷ []
cells_of_shape (Then p q) = cells_of_shape p ++ cells_of_shape q
cells_of_shape (Turned p) = mirror_cells (cells_of_shape p)
cells_of_shape (Choose r p q) = branch_cells r (cells_of_shape p) (cells_of_shape q)
cells_of_shape (Loop r p q) = loop_cells r (cells_of_shape p) (cells_of_shape q)
cells_of_shape (Check r code) = check_cells r code
cells_of_shape (Try t code) = test_cells t code
cells_of_shape (Call r b) = Enter r b ∷ []
cells_of_shape (Call_at a b) = enter_at_cells (place_register a) b

-- each instruction in it is single, and an image may hold it
abbrev pub IsShapeMade : Shape → Type 0
IsShapeMade (One c) = (is_single c ≡ true) × IsCell c
IsShapeMade (Then p q) = IsShapeMade p × IsShapeMade q
IsShapeMade (Turned p) = IsShapeMade p
IsShapeMade (Choose r p q) = IsShapeMade p × IsShapeMade q
IsShapeMade (Loop r p q) = IsShapeMade p × IsShapeMade q
IsShapeMade _ = Unit {0}

abbrev pub AllMade : List Shape → Type 0
AllMade [] = Unit {0}
AllMade (s ∷ ss) = IsShapeMade s × AllMade ss

-- cells that the calls make
pub record HasShape (cells : List Symbol) : Type 0 where
  pub shape : Shape
  pub is : cells_of_shape shape ≡ cells
  pub made : IsShapeMade shape

-- the routines of an image: how many, where each begins, and its body
pub record Routines : Type 0 where
  pub count : ℕ
  pub top : ℕ → ℕ
  pub body : ℕ → Shape

-- they are in the image
pub record RoutinesStand (im : Image) (rs : Routines) : Type 0 where
  pub placed : (r : ℕ) → r < rs.count → Routine im r (rs.top r) (cells_of_shape (rs.body r))
  pub made : (r : ℕ) → r < rs.count → IsShapeMade (rs.body r)
  pub tidy : Tidy im

-- what is to hold for a run, if the next one is to come
abbrev pub And_next : (Memory → ℕ → Type 0) → (Outcome → Type 0) → Outcome → Type 0
And_next W Q (Done m k) = W m k
And_next W Q (Trapped w k) = Q (Trapped w k)
And_next W Q (Bad w k) = Q (Bad w k)
And_next W Q (Still k) = Q (Still k)

-- where a part is left
abbrev pub Left : (Memory → Type 0) → Outcome → Type 0
Left P (Done m k) = P m
Left P (Trapped w k) = Unit {0}
Left P (Bad w k) = Unit {0}
Left P (Still k) = Unit {0}

-- after a routine's body: LINK as it was found
abbrev pub Back : ℕ → Bool → (Outcome → Type 0) → Outcome → Type 0
Back w d Q (Done m k) = (memory_reg m LINK ≡ w) × Q (Done (memory_with_reg m LINK 0) (k + 7))
Back w d Q (Trapped v k) = Q (Trapped v (lead d + k))
Back w d Q (Bad v k) = Q (Bad v (lead d + k))
Back w d Q (Still k) = Q (Still (lead d + k))

abbrev pub Back_at : ℕ → ℕ → ℕ → Bool → (Outcome → Type 0) → Outcome → Type 0
Back_at a s w d Q (Done m k) = (memory_reg m LINK ≡ w)
    × ((e : ℕ) → 6 ≤ e → e ≤ 15 → Q (Done (memory_with_reg m LINK (left_in d (memory_reg m a) s)) (k + e)))
Back_at a s w d Q (Trapped v k) = (e : ℕ) → 6 ≤ e → e ≤ 15 → Q (Trapped v (k + e))
Back_at a s w d Q (Bad v k) = (e : ℕ) → 6 ≤ e → e ≤ 15 → Q (Bad v (k + e))
Back_at a s w d Q (Still k) = (e : ℕ) → 6 ≤ e → e ≤ 15 → Q (Still (k + e))

-- at most j rounds of a loop
abbrev pub rounds_fine : ℕ → (Bool → Memory → (Outcome → Type 0) → Type 0)
    → (Bool → Memory → (Outcome → Type 0) → Type 0) → ℕ → Bool → Memory → (Outcome → Type 0)
    → Type 0
rounds_fine r head tail zero d m Q = Q (Still 0)
rounds_fine r head tail (suc j) d m Q =
    head d m (And_next (λ m1 k.
    ((memory_reg m1 r ≢ 0) × Q (Done m1 (k + 3)))
    ⊎ ((memory_reg m1 r ≡ 0) × tail d m1
    (And_next (λ m2 k2. (memory_reg m2 r ≡ 0)
    × rounds_fine r head tail j d m2 (λ o. Q (outcome_after (k + to_tail d + (k2 + to_head d)) o)))
    (λ o. Q (outcome_after (k + to_tail d) o))))) Q)

-- the conditions on a run, with n rounds or calls, one in the other; Q is to hold for its outcome
abbrev pub fine_with : Routines → ℕ → (Shape → Bool → Memory → (Outcome → Type 0) → Type 0) → Shape
    → Bool → Memory → (Outcome → Type 0) → Type 0
fine_with rs n calls Nothing d m Q = Q (Done m 0)
fine_with rs n calls (One c) d m Q = Q (outcome_of d c m)
fine_with rs n calls (Then p q) false m Q =
    fine_with rs n calls p false m
    (And_next (λ m1 k. fine_with rs n calls q false m1 (λ o. Q (outcome_after k o))) Q)
fine_with rs n calls (Then p q) true m Q =
    fine_with rs n calls q true m
    (And_next (λ m1 k. fine_with rs n calls p true m1 (λ o. Q (outcome_after k o))) Q)
fine_with rs n calls (Turned p) d m Q = fine_with rs n calls p (not d) m Q
fine_with rs n calls (Choose r p q) d m Q =
    ((memory_reg m r ≢ 0) × fine_with rs n calls p d m (λ o. Left (λ m1. memory_reg m1 r ≢ 0) o
    × Q (outcome_around 3 3 o)))
    ⊎ ((memory_reg m r ≡ 0) × fine_with rs n calls q d m
    (λ o. Left (λ m1. memory_reg m1 r ≡ 0) o × Q (around_no d o)))
fine_with rs n calls (Loop r p q) d m Q =
    (memory_reg m r ≢ 0) × rounds_fine r (fine_with rs n calls p) (fine_with rs n calls q) n d m
    (λ o. Q (outcome_after 3 o))
fine_with rs n calls (Check r code) d m Q =
    ((memory_reg m r ≡ 0) × Q (Done m 4)) ⊎ ((memory_reg m r ≢ 0) × ((k : ℕ) → k ≤ 4 → Q (Trapped code k)))
fine_with rs n calls (Try t code) d m Q =
    (TestPasses t m × Q (Done m 2)) ⊎ (TestFails t m × Q (Trapped code 1))
fine_with rs n calls (Call r b) d m Q =
    (r < rs.count) × (LINK < length m.regs) × (memory_reg m LINK ≡ 0)
    × ((w : ℕ) → 0 < w → w < 2 ^ 32
    → calls (rs.body r) (bool_xor b d) (memory_with_reg m LINK w) (Back w (bool_xor b d) Q))
fine_with rs n calls (Call_at a b) d m Q =
    (r : ℕ) × (r < rs.count) × (LINK < length m.regs) × (memory_reg m LINK ≡ 0) × (memory_reg m a ≡ rs.top r + 1)
    × ((w : ℕ) → 0 < w → w < 2 ^ 32
    → calls (rs.body r) (bool_xor b d) (memory_with_reg m LINK w) (Back_at a (rs.top r + 1) w (bool_xor b d) Q))

abbrev pub fine : Routines → ℕ → Shape → Bool → Memory → (Outcome → Type 0) → Type 0
fine rs zero s d m Q = Q (Still 0)
fine rs (suc n) s d m Q = fine_with rs (suc n) (fine rs n) s d m Q

abbrev pub any : Outcome → Type 0
any o = Unit {0}

-- the four things: it leaves at the far end, traps, stops as BadAddress, or has not left within n
-- steps
pub data One_of_four (im : Image) (far : ℤ) (d : Bool) (n : ℕ) (s : State) : Type 0 where
  leaves : (m' : Memory) (k : ℕ) → Comes im far d k 0 s m' → One_of_four im far d n s
  traps : (w k : ℕ) → LiteralStops im far d (Trap w) k 0 s → One_of_four im far d n s
  stops : (a k : ℕ) → LiteralStops im far d (BadAddress a) k 0 s → One_of_four im far d n s
  stays : LiteralStays im far d n 0 s → One_of_four im far d n s

-- so a fragment of this shape from cell a on does one of the four, if its run meets the conditions
abbrev pub Closed : Image → Shape → ℕ → Bool → Memory → ℕ → Type 0
Closed im s a d m n =
    let b = a + length (cells_of_shape s) in
    One_of_four im (at code_line d (far_end d a b) m).pc d n (at code_line d (near_end d a b) m)

-- the routines of these shapes, of which the first has its top at t
abbrev pub shapes_cells : List Shape → List (List Symbol)
shapes_cells [] = []
shapes_cells (s ∷ ss) = cells_of_shape s ∷ shapes_cells ss

abbrev pub shape_at : List Shape → ℕ → Shape
shape_at [] r = Nothing
shape_at (s ∷ ss) zero = s
shape_at (s ∷ ss) (suc r) = shape_at ss r

abbrev pub top_at : ℕ → List Shape → ℕ → ℕ
top_at t [] r = t
top_at t (s ∷ ss) zero = t
top_at t (s ∷ ss) (suc r) = top_at (t + 1 + 1 + 1 + length (cells_of_shape s) + 1) ss r

abbrev pub routines_of : ℕ → List Shape → Routines
routines_of t ss = record { count = length ss; top = top_at t ss; body = shape_at ss }
