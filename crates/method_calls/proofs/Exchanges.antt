-- An exchange if there is the cell.
use Rattle.std.proofs.Common.{◌≡◌, ℕ, ◌<◌, Bool, true, false, length, refl, arith}
use Rattle.std.specs.Prelude.{nat_lt, if◌then◌else◌, slice_index, slice_set}
use Rattle.std.proofs.lemmas.Bool.Decides.{nat_tests}
use Rattle.refine_form.specs.pisa_isa.Machine.{Memory}
use Rattle.refine_form.specs.paired_code.Pieces.{Outcome, Done, Bad}
use Rattle.refine_form.specs.paired_code.Laws.{outcome_of}
use Rattle.refine_form.specs.code_conventions.Cells.{exch}

by_cell : (b : Bool) (o : Outcome) (x : ℕ) → b ≡ true → (if b then o else Bad x 0) ≡ o
by_cell true o x e = refl
by_cell false o x e = absurd (cc)

pub exchanges : (d : Bool) (a b : ℕ) (m : Memory) → slice_index m.regs b < length m.cells
    → outcome_of d (exch a b) m ≡ Done (record {
      regs = slice_set m.regs a (slice_index m.cells (slice_index m.regs b));
      cells = slice_set m.cells (slice_index m.regs b) (slice_index m.regs a);
    }) 1
exchanges false a b m h = by_cell (nat_lt (slice_index m.regs b) (length m.cells)) _ (slice_index m.regs b)
    (grind (arith, nat_tests))
exchanges true a b m h = by_cell (nat_lt (slice_index m.regs b) (length m.cells)) _ (slice_index m.regs b)
    (grind (arith, nat_tests))
