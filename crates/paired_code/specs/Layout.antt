-- The position of a fragment in the code, in either direction.
use Rattle.std.specs.Prelude.{◌≡◌, ℕ, ◌+◌, ◌-◌, ◌%◌, ◌^◌, ◌<◌, Bool, true, false, not, List, []}
use Rattle.std.specs.Prelude.{◌∷◌, ◌++◌, length, Some, slice_index, nat_eq, if◌then◌else◌, ℤ, pos}
use Rattle.std.specs.Prelude.{negsuc, ◌+ℤ◌, ◌-ℤ◌}
use Rattle.code_conventions.specs.pisa_isa.declared.cell.Cell.{Cell}
use Rattle.code_conventions.specs.Cells.{add, neg, addi, bra}
use Rattle.code_conventions.specs.declared.registers.TheConstants.{LINK}
use Rattle.paired_code.specs.Cells.{swapbr, rbra, beq, bne, bgtz, bltz, data_word}
use Rattle.paired_code.specs.declared.part.Symbol.{Symbol}
use Rattle.paired_code.specs.declared.part.Symbol.TheVariants.{Own, Enter, Fixed, Aim, Turn}
use Rattle.code_conventions.specs.rpp_words.Words.{negated}
use Rattle.code_conventions.specs.pisa_isa.Machine.{State, fetch, Memory}
use Rattle.paired_code.specs.Machine.{state, Image, is_routine, reversed}

abbrev pub bool_xor : Bool → Bool → Bool
bool_xor false b = b
bool_xor true b = not b

-- A line of places: cell i is at base + i, or at base - i - 1 if the line is flipped.
pub record Frame : Type 0 where
  pub flip : Bool
  pub base : ℤ

-- the place that a state at the gap before cell i goes on from
abbrev pub spot : Bool → Bool → ℤ → ℕ → ℤ
spot false false g i = g +ℤ pos i
spot false true g i = (g +ℤ pos i) -ℤ pos 1
spot true false g i = (g -ℤ pos i) -ℤ pos 1
spot true true g i = g -ℤ pos i

abbrev pub frame_address : Frame → ℕ → ℤ
frame_address f i = spot f.flip false f.base i

-- the state at the gap before cell i, about to go along the line or back
abbrev pub at : Frame → Bool → ℕ → Memory → State
at f d i m = state (spot f.flip d f.base i) 0 (bool_xor f.flip d) m

-- the offset from cell i to cell j
abbrev pub between : ℕ → ℕ → ℕ
between i j = (j + 2 ^ 32 - i) % 2 ^ 32

abbrev pub offset_to : ℕ → ℤ → ℕ
offset_to n (pos p) = between p n
offset_to n (negsuc p) = 0

-- the word that takes the place after or before a cell away
abbrev pub aim : Bool → ℤ → ℕ
aim false (pos p) = negated (p + 1)
aim true (pos p) = negated (p - 1)
aim b (negsuc p) = 0

-- six cells on, or back
abbrev pub six : Bool → ℕ
six false = between 0 6
six true = between 6 0

-- the cell at a code address for a cell of a fragment
abbrev pub base : List ℕ → ℤ → Symbol → Cell
base rs p (Own c) = c
base rs p (Enter r false) = bra (offset_to (slice_index rs r) p)
base rs p (Enter r true) = rbra (offset_to (slice_index rs r) p)
base rs p (Fixed c) = c
base rs p (Aim b) = addi LINK (aim b p)
base rs p (Turn k b false) = addi LINK 0
base rs p (Turn false b true) = bra (six b)
base rs p (Turn true b true) = rbra (six b)

-- the same if the fragment is run the other way
abbrev pub inverse_sym : Symbol → Symbol
inverse_sym (Own c) = Own (reversed c)
inverse_sym (Enter r b) = Enter r (not b)
inverse_sym (Fixed c) = Fixed c
inverse_sym (Aim b) = Aim (not b)
inverse_sym (Turn k b on) = Turn k (not b) (not on)

-- by whether the fragment is flipped
abbrev pub resolved : Image → Bool → ℤ → Symbol → Cell
resolved im false p c = base im.routines p c
resolved im true p c = base im.routines p (inverse_sym c)

-- these cells are along the line from cell i on
abbrev pub Stands : Image → Frame → ℕ → List Symbol → Type 0
Stands im f i [] = Unit {0}
Stands im f i (c ∷ p) = (fetch im.code (frame_address f i) ≡ Some (resolved im f.flip (frame_address f i) c))
    × Stands im f (i + 1) p

abbrev pub mirror_cells : List Symbol → List Symbol
mirror_cells [] = []
mirror_cells (c ∷ p) = mirror_cells p ++ inverse_sym c ∷ []

-- two branches by one offset, of which one is taken if the register is not 0
abbrev pub fork : ℕ → ℕ → List Symbol → List Symbol
fork r w p = Own (bgtz r w) ∷ Own (bltz r w) ∷ p

-- fork; no; jump; fork; yes; fork; jump; fork
abbrev pub branch_cells : ℕ → List Symbol → List Symbol → List Symbol
branch_cells r p q =
    fork r (between 0 (3 + length q))
    (q ++ (Own (bra (between 0 (5 + length p)))
    ∷ fork r (between (3 + length q) 0)
    (p ++ fork r (between 0 3) (Own (bra (between (5 + length p) 0))
    ∷ fork r (between 3 0) []))))

-- fork; jump; tail; fork; head; fork; jump; fork
abbrev pub loop_cells : ℕ → List Symbol → List Symbol → List Symbol
loop_cells r head tail =
    fork r (between 0 (3 + length tail))
    (Own (bra (between 0 (5 + length tail + length head)))
    ∷ (tail ++ fork r (between (3 + length tail) 0)
    (head ++ fork r (between 0 3) (Own (bra (between (5 + length tail + length head) 0))
    ∷ fork r (between 3 0) []))))

-- a jump over a DATA cell, to which the fork leads
abbrev pub check_cells : ℕ → ℕ → List Symbol
check_cells r code = Own (bra (between 0 2)) ∷ Own (data_word code) ∷ Own (bra (between 2 0))
    ∷ Own (bgtz r (between 3 1)) ∷ Own (bltz r (between 4 1)) ∷ []

-- what a check of two branches tries: two registers, or whether a register's word is above 0
pub data Test : Type 0 where
  Equal : (r s : ℕ) → Test
  Differ : (r s : ℕ) → Test
  Positive : (r : ℕ) → Test

-- the branch that is taken if the test passes
abbrev pub branch_of : Test → ℕ → Cell
branch_of (Equal r s) o = beq r s o
branch_of (Differ r s) o = bne r s o
branch_of (Positive r) o = bgtz r o

-- two such branches over a DATA cell
abbrev pub test_cells : Test → ℕ → List Symbol
test_cells t code = Own (branch_of t (between 0 2)) ∷ Own (data_word code)
    ∷ Own (branch_of t (between 2 0)) ∷ []

abbrev pub check_equal_cells : ℕ → ℕ → ℕ → List Symbol
check_equal_cells r s code = test_cells (Equal r s) code

abbrev pub check_differ_cells : ℕ → ℕ → ℕ → List Symbol
check_differ_cells r s code = test_cells (Differ r s) code

abbrev pub check_positive_cells : ℕ → ℕ → List Symbol
check_positive_cells r code = test_cells (Positive r) code

-- LINK is 0 before a call and holds no place of a routine, so that a call by it is never made; its
-- cells are those of another
abbrev pub place_register : ℕ → ℕ
place_register a = if nat_eq a LINK then 3 else a

-- turn; add; aim; swap; aim; add; turn: a call of the routine whose code address is in the register
abbrev pub enter_at_cells : ℕ → Bool → List Symbol
enter_at_cells a b =
    Turn true false b ∷ Fixed (add LINK a) ∷ Aim false ∷ Fixed (swapbr LINK) ∷ Aim true
    ∷ Fixed (add LINK a) ∷ Turn false true b ∷ []

-- the code itself, as a line
abbrev pub code_line : Frame
code_line = record { flip = false; base = pos 0 }

-- a routine in the subroutine form, from the cell `top` on
pub record Routine (im : Image) (r top : ℕ) (body : List Symbol) : Type 0 where
  pub listed : slice_index im.routines r ≡ top + 1
  pub known : is_routine im.routines (pos (top + 1)) ≡ true
  pub top_cell : fetch im.code (frame_address code_line top)
      ≡ Some (bra (between top (top + 1 + 1 + 1 + length body)))
  pub sub_cell : fetch im.code (frame_address code_line (top + 1)) ≡ Some (swapbr LINK)
  pub neg_cell : fetch im.code (frame_address code_line (top + 1 + 1)) ≡ Some (neg LINK)
  pub body_there : Stands im code_line (top + 1 + 1 + 1) body
  pub bot_cell : fetch im.code (frame_address code_line (top + 1 + 1 + 1 + length body))
      ≡ Some (bra (between (top + 1 + 1 + 1 + length body) top))
  pub small : top + 1 + 1 + 1 + length body < 2 ^ 30

-- the cell before each routine's place is a jump, and the code is not long
pub record Tidy (im : Image) : Type 0 where
  pub jump_before : (s : ℕ) → is_routine im.routines (pos (s + 1)) ≡ true → (w : ℕ)
      × (fetch im.code (pos s) ≡ Some (bra w))
  pub short : length im.code < 2 ^ 30
