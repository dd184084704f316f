-- The calls of fragments that make the routine.
use Rattle.std.proofs.Common.{List, [], ◌∷◌, refl}
use Rattle.paired_code.specs.pisa_isa.declared.cell.Cell.{Cell}
use Rattle.paired_code.specs.Layout.{Equal}
use Rattle.paired_code.specs.Closed.{Shape, Nothing, One, Then, Turned, Loop, Try, IsShapeMade, HasShape}
use Rattle.paired_code.proofs.Undone.{AllPlain}
use Rattle.paired_code.specs.code_conventions.declared.faults.TheConstants.{HEAP_FULL}
use Rattle.buddy_pisa.specs.declared.rows.TheConstants.{LOOP_FLAG, EITHER, ZERO}
use Rattle.buddy_pisa.specs.Rows.{limits_row, over_row, order_row, bottom_row, first_row, some_row, up_row, above_row}
use Rattle.buddy_pisa.specs.Rows.{take_row, merge_row, apart_row, half_row, allocator_cells}
use Rattle.buddy_pisa.proofs.Flags.{plain_limits, plain_over, plain_order, plain_bottom, plain_first, plain_some}
use Rattle.buddy_pisa.proofs.Flags.{plain_up, plain_above, plain_take, plain_merge, plain_apart, plain_half}

abbrev line_shape : List Cell → Shape
line_shape [] = Nothing
line_shape (c ∷ cs) = Then (One c) (line_shape cs)

abbrev within_shape : List Cell → Shape → Shape
within_shape row piece = Then (line_shape row) (Then piece (Turned (line_shape row)))

abbrev check_shape : Shape
check_shape = Try (Equal ZERO EITHER) HEAP_FULL

abbrev search_shape : Shape
search_shape =
    Loop LOOP_FLAG (Then (line_shape bottom_row) (within_shape first_row (line_shape some_row)))
    (Then (line_shape up_row) (within_shape above_row check_shape))

abbrev halve_shape : Shape
halve_shape =
    Loop LOOP_FLAG (Then (within_shape merge_row (line_shape apart_row)) (line_shape bottom_row))
    (Then (Turned (line_shape up_row)) (line_shape half_row))

abbrev order_shape : Shape
order_shape = within_shape order_row (Then search_shape (Then (line_shape take_row) halve_shape))

abbrev allocator_shape : Shape
allocator_shape = within_shape limits_row (Then (within_shape over_row check_shape) order_shape)

line_made : (cs : List Cell) → AllPlain cs → IsShapeMade (line_shape cs)
line_made [] p = tt
line_made (c ∷ cs) p = ((p.0, p.1), line_made cs p.2)

within_made : (row : List Cell) (piece : Shape) → AllPlain row → IsShapeMade piece → IsShapeMade (within_shape row piece)
within_made row piece p made = (line_made row p, (made, line_made row p))

search_made : IsShapeMade search_shape
search_made = (
  (
    line_made bottom_row plain_bottom,
    within_made first_row (line_shape some_row) plain_first
        (line_made some_row plain_some),
  ),
  (line_made up_row plain_up, within_made above_row check_shape plain_above tt),
)

halve_made : IsShapeMade halve_shape
halve_made = (
  (
    within_made merge_row (line_shape apart_row) plain_merge (line_made apart_row plain_apart),
    line_made bottom_row plain_bottom,
  ),
  (line_made up_row plain_up, line_made half_row plain_half),
)

order_made : IsShapeMade order_shape
order_made = within_made order_row (Then search_shape (Then (line_shape take_row) halve_shape)) plain_order
    (search_made, (line_made take_row plain_take, halve_made))

pub has_shape : HasShape allocator_cells
has_shape = record {
  shape = allocator_shape;
  is = refl;
  made = within_made limits_row (Then (within_shape over_row check_shape) order_shape) plain_limits
      (within_made over_row check_shape plain_over tt, order_made);
}
