use Rattle.std.proofs.Common.{refl, ◌+◌, arith}
use Rattle.std.specs.Prelude.{string_bytes}
use Rattle.two_way_debugger.specs.Shown.{cells_shown}
use Rattle.two_way_debugger.proofs.CellRange.{one_cell_more}
use Rattle.two_way_debugger.proofs.shown.cell_text.Goals as goal

pub loop-number-preserved : goal.loop-number-preserved
loop-number-preserved c =
    let cells = c.args.machine.now.state.cells in
    one_cell_more c.loop-number.number (c.loop-number.number + 1) (c.args.from + c.args.count) c.in-Some.word cells
    (string_bytes c.loop-number.text) (string_bytes c.add_cell.new.text)
    (cells_shown c.args.from c.args.count cells)
    refl (omega arith) c.in-Some.ensures c.in_ok-add_cell.ensures.added c.loop-number.invariant
