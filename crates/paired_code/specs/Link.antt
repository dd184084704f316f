-- What `link` writes, and what holds for it.
use Rattle.std.specs.Prelude.{◌≡◌, ℕ, ◌+◌, ◌^◌, ◌<◌, ◌≤◌, Bool, List, [], ◌∷◌, ◌++◌, length, Some}
use Rattle.std.specs.Prelude.{false, pos, slice_index}
use Rattle.code_conventions.specs.pisa_isa.declared.cell.Cell.{Cell}
use Rattle.code_conventions.specs.pisa_isa.declared.machine.Stop.{Stop}
use Rattle.code_conventions.specs.pisa_isa.declared.machine.Stop.TheVariants.{Finished, Trap, BadAddress}
use Rattle.code_conventions.specs.pisa_isa.Machine.{State, Memory}
use Rattle.code_conventions.specs.pisa_isa.Runs.{run, steps, started}
use Rattle.code_conventions.specs.pisa_isa.Ends.{MeetsEndsOnce}
use Rattle.code_conventions.specs.Cells.{neg, bra}
use Rattle.code_conventions.specs.declared.registers.TheConstants.{LINK}
use Rattle.paired_code.specs.Cells.{swapbr, start_cell, finish}
use Rattle.paired_code.specs.declared.part.Symbol.{Symbol}
use Rattle.paired_code.specs.declared.part.StaticWord.{StaticWord}
use Rattle.paired_code.specs.declared.part.StaticWord.TheVariants.{Word, Routine as RoutinePlace}
use Rattle.paired_code.specs.Machine.{state, Image}
use Rattle.paired_code.specs.Layout.{base, between, code_line, Stands, Routine, Tidy}
use Rattle.paired_code.specs.Literal.{InWords}
use Rattle.paired_code.specs.Closed.{Shape, IsShapeMade, AllMade, cells_of_shape, shapes_cells}
use Rattle.paired_code.specs.Closed.{routines_of, fine, any, Closed}
use Rattle.paired_code.specs.Pieces.{Outcome, Done, Trapped, Bad, Still, Ends}

-- ---- the code

-- the places of the routines, of which the first has its top at t
abbrev pub link_positions : ℕ → List (List Symbol) → List ℕ
link_positions t [] = []
link_positions t (b ∷ bs) = (t + 1) ∷ link_positions (t + 1 + 1 + 1 + length b + 1) bs

-- a fragment's cells from place a on
abbrev pub linked : List ℕ → ℕ → List Symbol → List Cell
linked rs a [] = []
linked rs a (c ∷ p) = base rs (pos a) c ∷ linked rs (a + 1) p

-- a routine with its top at t: a jump over it, SWAPBR, NEG, the body, and the jump back
abbrev pub routine_code : List ℕ → ℕ → List Symbol → List Cell
routine_code rs t b =
    bra (between t (t + 1 + 1 + 1 + length b)) ∷ swapbr LINK ∷ neg LINK
    ∷ (linked rs (t + 1 + 1 + 1) b ++ bra (between (t + 1 + 1 + 1 + length b) t) ∷ [])

abbrev pub routines_code : List ℕ → ℕ → List (List Symbol) → List Cell
routines_code rs t [] = []
routines_code rs t (b ∷ bs) = routine_code rs t b
    ++ routines_code rs (t + 1 + 1 + 1 + length b + 1) bs

-- where the routines begin
abbrev pub first_top : List Symbol → ℕ
first_top main = 1 + length main + 1

-- START, main, FINISH and the routines
abbrev pub link_code : List Symbol → List (List Symbol) → List Cell
link_code main bodies =
    start_cell ∷ (linked (link_positions (first_top main) bodies) 1 main ++ finish
    ∷ routines_code (link_positions (first_top main) bodies) (first_top main) bodies)

abbrev pub link_image : List Symbol → List (List Symbol) → Image
link_image main bodies =
    record { code = link_code main bodies; routines = link_positions (first_top main) bodies }

-- how many cells that are
abbrev pub routines_size : List (List Symbol) → ℕ
routines_size [] = 0
routines_size (b ∷ bs) = length b + 4 + routines_size bs

abbrev pub link_size : List Symbol → List (List Symbol) → ℕ
link_size main bodies = length main + 2 + routines_size bodies

-- a static word, if the routines have these places
abbrev pub static_word : List ℕ → StaticWord → ℕ
static_word link_positions (Word w) = w
static_word link_positions (RoutinePlace r) = slice_index link_positions r

-- ---- what is in it

-- the routines from number n on, the first with its top at t
abbrev pub AllPlaced : Image → ℕ → ℕ → List (List Symbol) → Type 0
AllPlaced im n t [] = Unit {0}
AllPlaced im n t (b ∷ bs) = Routine im n t b × AllPlaced im (n + 1) (t + 1 + 1 + 1 + length b + 1)
    bs

-- ---- a run from START on

-- with any bound from k on, the run from this memory stops so in this state, after k counted steps
abbrev pub StopsAfter : List Cell → Memory → ℕ → Stop → State → Type 0
StopsAfter code m k why s = (j : ℕ) → run code (k + j) (started code m.regs m.cells)
    ≡ record { why = why; spent = k; last = s }

-- the run of the image, if main's fragment goes so: the step at START and the stop are counted too
abbrev pub GoesSo : List Cell → ℕ → Memory → Outcome → Type 0
GoesSo code last m (Done m' k) = StopsAfter code m (k + 2) Finished (state (pos last) 0 false m')
GoesSo code last m (Trapped w k) = (s : State) × StopsAfter code m (k + 2) (Trap w) s
GoesSo code last m (Bad a k) = (s : State) × StopsAfter code m (k + 2) (BadAddress a) s
GoesSo code last m (Still k) = (s : State) × (steps code (k + 1) (started code m.regs m.cells)
    ≡ Some s)

-- whether an outcome allows so many steps: for a fragment that goes on, those that it has gone
abbrev pub IsToldBy : Outcome → ℕ → Type 0
IsToldBy (Still k) n = n ≤ k + 1
IsToldBy _ n = Unit {0}

-- and however it goes, it meets START only as its first step, and FINISH only as its last one
pub record Whole (code : List Cell) (last : ℕ) (m : Memory) (o : Outcome) : Type 0 where
  pub goes : GoesSo code last m o
  pub ends_once : (n : ℕ) → IsToldBy o n → MeetsEndsOnce code n (started code m.regs m.cells)

-- all that holds for an image that is linked of these
pub record Linked (main : List Symbol) (bodies : List (List Symbol)) (im : Image) : Type 0 where
  pub main_there : Stands im code_line 1 main
  pub routines_there : AllPlaced im 0 (first_top main) bodies
  pub tidy : Tidy im
  pub in_words : InWords im
  pub runs : (m : Memory) (o : Outcome)
      → Ends im code_line false 1 (1 + length main) 1 m (1 + length main) o
      → Whole im.code (1 + length main) m o
  pub closed : (shapes : List Shape) → shapes_cells shapes ≡ bodies → AllMade shapes
      → (s : Shape) → IsShapeMade s → (a : ℕ) (d : Bool) (m : Memory) (n : ℕ)
      → Stands im code_line a (cells_of_shape s) → a + length (cells_of_shape s) < 2 ^ 30
      → fine (routines_of (first_top main) shapes) n s d m any → Closed im s a d m n
