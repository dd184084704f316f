-- A cell faced either way keeps its ranges, and an EXCH its address.
use Rattle.std.proofs.Common.{◌≡◌, refl, ℕ, Bool, true, false, arith, None}
use Rattle.std.proofs.lemmas.Bool.Decides.{nat_tests}
use Rattle.pisa_isa.specs.declared.cell.Op.{Op}
use Rattle.pisa_isa.specs.declared.cell.Op.TheVariants.{Add, Exch}
use Rattle.pisa_isa.specs.declared.cell.Cell.{Cell}
use Rattle.pisa_isa.specs.Table.{IsCell, inverse_op, inverse_of}
use Rattle.pisa_isa.proofs.Ranges.{IsInRange-inverse, b_is_source-inverse, c_is_source-inverse}
use Rattle.pisa_isa.specs.Machine.{State, faced, has_cell, stop_in}

pub IsCell-inverse : (c : Cell) → IsCell c → IsCell (inverse_of c)
IsCell-inverse c h = record {
  in_range = IsInRange-inverse c h.in_range;
  one_to_one = rw (b_is_source-inverse c.op, c_is_source-inverse c.op) h.one_to_one;
}

pub IsCell-faced : (b : Bool) (c : Cell) → IsCell c → IsCell (faced b c)
IsCell-faced true c h = IsCell-inverse c h
IsCell-faced false c h = h

pub has_cell-inverse : (op : Op) (s : ℕ) (m : State) → has_cell (inverse_op op) s m ≡ has_cell op s m
has_cell-inverse Add s m = refl
has_cell-inverse _ s m = refl

pub has_cell-faced : (b : Bool) (c : Cell) (m : State) → has_cell (faced b c).op (faced b c).b m ≡ has_cell c.op c.b m
has_cell-faced true c m = has_cell-inverse c.op c.b m
has_cell-faced false c m = refl

pub has_cell-from_none : (op : Op) (c : Cell) (m : State) → stop_in op c m ≡ None → has_cell op c.b m ≡ true
has_cell-from_none Exch c m e = grind (arith, nat_tests)
has_cell-from_none _ c m e = refl
