-- Code as it runs from its other end.
use Rattle.std.specs.Prelude.{◌≡◌, ℕ, List, map, reverse}
use Rattle.pisa_isa.specs.declared.cell.Cell.{Cell}
use Rattle.pisa_isa.specs.Table.{inverse_of}
use Rattle.pisa_isa.specs.Image.{Segments}
use Rattle.pisa_isa.specs.Runs.{End, run, started}
use Rattle.pisa_isa.specs.Ends.{IsCleanFinish}

-- the inverse cells in reverse order
abbrev pub flipped : List Cell → List Cell
flipped code = reverse (map inverse_of code)

-- the flipped code with the same static cells
abbrev pub flipped_image : Segments → Segments
flipped_image image = record image { code = flipped image.code }

-- where a run ended so, the run of the flipped code from its registers and cells finishes cleanly,
-- in as many steps, with these
pub record Restores (code : List Cell) (end : End) (bound : ℕ) (regs cells : List ℕ) : Type 0 where
  pub clean : IsCleanFinish (flipped code) bound
      (started (flipped code) end.last.regs end.last.cells)
  pub in_as_many : (run (flipped code) bound
      (started (flipped code) end.last.regs end.last.cells)).spent ≡ end.spent
  pub registers : (run (flipped code) bound
      (started (flipped code) end.last.regs end.last.cells)).last.regs ≡ regs
  pub memory : (run (flipped code) bound
      (started (flipped code) end.last.regs end.last.cells)).last.cells ≡ cells
