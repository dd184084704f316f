-- An image whose run computes, copies and computes back.
use Rattle.std.specs.Prelude.{◌≡◌, ◌≤◌, ◌<◌, ◌+◌, ◌-◌, ◌*◌, ◌^◌, ℕ, List, [], ◌∷◌, ◌++◌, length}
use Rattle.std.specs.Prelude.{map, replicate, take, drop, slice_get, slice_index, Some}
use Rattle.std.specs.Prelude.{if◌then◌else◌}
use Rattle.std.specs.List.{All, position_or_len}
use Rattle.paired_code.specs.rpp_words.Words.{IsWord}
use Rattle.image_inverter.specs.pisa_isa.declared.cell.Cell.{Cell}
use Rattle.image_inverter.specs.pisa_isa.declared.machine.Stop.TheVariants.{Finished, Trap, Bound}
use Rattle.image_inverter.specs.pisa_isa.Machine.{State}
use Rattle.image_inverter.specs.pisa_isa.Image.{is_start, is_finish}
use Rattle.image_inverter.specs.pisa_isa.Runs.{End, run, started, zero_registers}
use Rattle.image_inverter.specs.pisa_isa.Ends.{MeetsEndsOnce}
use Rattle.image_inverter.specs.pisa_isa.Flipped.{flipped}
use Rattle.image_inverter.specs.pisa_isa.declared.fixed.TheConstants.{END_CELL}
use Rattle.paired_code.specs.code_conventions.Cells.{bra}
use Rattle.paired_code.specs.Layout.{between}
use Rattle.bennett_wrap.specs.Copying.{copied_cells}

-- ---- the cells

-- a branch in the place of FINISH
abbrev pub left_by : Cell → Cell → Cell
left_by jump c = if is_finish c then jump else c

-- a branch in the place of START
abbrev pub entered_by : Cell → Cell → Cell
entered_by jump c = if is_start c then jump else c

-- the place of the first FINISH cell
abbrev pub finish_of : List Cell → ℕ
finish_of code = position_or_len is_finish code

-- how many cells the copy code has
abbrev pub copy_size : List ℕ → ℕ
copy_size cells = 11 + 8 * length cells

-- where the copy code ends, after code of n cells and the branch to it
abbrev pub copied_at : ℕ → List ℕ → ℕ
copied_at n cells = n + 1 + copy_size cells

-- where the flipped code is entered, for a FINISH cell at f
abbrev pub entered_at : (n f : ℕ) → List ℕ → ℕ
entered_at n f cells = copied_at n cells + 1 + (n - 1 - f)

-- the code, the copy code and the flipped code, joined by two pairs of branches
abbrev pub code_joined : List Cell → (n f : ℕ) → List ℕ → List Cell
code_joined code n f cells =
    map (left_by (bra (between f n))) code
    ++ bra (between n f) ∷ []
    ++ copied_cells cells
    ++ bra (between (copied_at n cells) (entered_at n f cells)) ∷ []
    ++ map (entered_by (bra (between (entered_at n f cells) (copied_at n cells)))) (flipped code)

abbrev pub wrapped_code : List Cell → List ℕ → List Cell
wrapped_code code cells = code_joined code (length code) (finish_of code) cells

-- the cells between the first and the last one
abbrev pub inner : List Cell → List Cell
inner code = drop 1 (take (length code - 1) code)

-- ---- its runs

-- where a run on these cells begins
abbrev pub begun_on : List Cell → List ℕ → State
begun_on code cells = started code zero_registers cells

-- the run of at most so many steps
abbrev pub run_on : List Cell → (bound : ℕ) → List ℕ → End
run_on code bound cells = run code bound (begun_on code cells)

-- Memory for which the copy code is made: cell 4 holds the number of its cells, and each copied
-- cell is one of them. That many addresses are left after it.
pub record HasWrapSpace (a cells : List ℕ) : Type 0 where
  pub words : All IsWord a
  pub counted : slice_get a END_CELL ≡ Some (length a)
  pub among : All (λ c. c < length a) cells
  pub room : length a + length cells < 2 ^ 32

-- one zero for each cell that is copied
abbrev pub with_zeros : List ℕ → List ℕ → List ℕ
with_zeros a cells = a ++ replicate (length cells) 0

-- what cells hold
abbrev pub values_at : List ℕ → List ℕ → List ℕ
values_at b cells = map (slice_index b) cells

-- the run finished in so many steps, with zero registers and these cells
pub record WrapFinishesWith (e : End) (count : ℕ) (cells : List ℕ) : Type 0 where
  pub why : e.why ≡ Finished
  pub spent : e.spent ≡ count
  pub registers : e.last.regs ≡ zero_registers
  pub memory : e.last.cells ≡ cells

-- the run trapped after so many steps, and from cell n on there are so many zeros
pub record WrapTrapsWith (e : End) (w count n zeros : ℕ) : Type 0 where
  pub why : e.why ≡ Trap w
  pub spent : e.spent ≡ count
  pub results : drop n e.last.cells ≡ replicate zeros 0

-- the run is narrow: it passes START and FINISH only at its two ends
abbrev pub IsNarrow : List Cell → (bound : ℕ) → List ℕ → Type 0
IsNarrow code bound a = MeetsEndsOnce code bound (begun_on code a)

-- the run is narrow and finishes with zero registers, and cell 4 has kept the number of the cells
pub record Computes (code : List Cell) (bound : ℕ) (a : List ℕ) : Type 0 where
  pub narrow : IsNarrow code bound a
  pub finished : (run_on code bound a).why ≡ Finished
  pub registers : (run_on code bound a).last.regs ≡ zero_registers
  pub kept : slice_get (run_on code bound a).last.cells END_CELL ≡ Some (length a)

-- how many steps it takes to compute in n steps, to copy and to compute back
abbrev pub steps_wrapped : ℕ → List ℕ → ℕ
steps_wrapped n cells = 2 * n + 13 + 8 * length cells

-- what the wrapped code does on a memory followed by zeros, by what the code does on the memory
pub record Wrapped (code : List Cell) (cells : List ℕ) (wrapped : List Cell) : Type 0 where
  -- if the run finishes, the wrapped run finishes with the first memory, followed by the results
  pub finishes : (a : List ℕ) (bound enough : ℕ) → HasWrapSpace a cells → Computes code bound a
      → steps_wrapped (run_on code bound a).spent cells ≤ enough
      → WrapFinishesWith (run_on wrapped enough (with_zeros a cells))
      (steps_wrapped (run_on code bound a).spent cells)
      (a ++ values_at (run_on code bound a).last.cells cells)
  -- if it traps, the wrapped run does so in as many steps, and nothing is copied
  pub traps : (a : List ℕ) (bound enough w : ℕ) → HasWrapSpace a cells → IsNarrow code bound a
      → (run_on code bound a).why ≡ Trap w → (run_on code bound a).spent ≤ enough
      → WrapTrapsWith (run_on wrapped enough (with_zeros a cells)) w (run_on code bound a).spent
      (length a) (length cells)
  -- if it is not over after so many steps, the wrapped run is not over after so many; so if
  -- it never ends, neither does that
  pub goes_on : (a : List ℕ) (bound : ℕ) → HasWrapSpace a cells → IsNarrow code bound a
      → (run_on code bound a).why ≡ Bound
      → (run_on wrapped bound (with_zeros a cells)).why ≡ Bound
