use Rattle.std.proofs.Common.{◌≡◌, ◌++◌, ◌∷◌, [], arith}
use Rattle.std.proofs.lemmas.Result.{err_from_is_err_and}
use Rattle.std.proofs.lemmas.List.Elements.{All-from_recursion}
use Rattle.pisa_isa.specs.Table.{IsCell}
use Rattle.pisa_image.specs.Numbers.{many_at}
use Rattle.pisa_image.specs.ImageBytes.{cell_bytes}
use Rattle.pisa_image.specs.Reading.{cell_at}
use Rattle.pisa_image.proofs.Many.{Taken, many_take, goes_on, stops, is_done}
use Rattle.pisa_image.proofs.Cells.{cell_takes}
use Rattle.pisa_image.proofs.Whole.{fails_with}
use Rattle.pisa_image.proofs.reading.cells_at.Goals as goal

pub returns-in_err-cell-clause-read : goal.returns-in_err-cell-clause-read
returns-in_err-cell-clause-read c =
    let p = err_from_is_err_and c.from_residual-in_err-cell.result c.from_residual-in_err-cell.ensures.1 in
    rw (p.1, p.2) (fails_with c.in_err-cell.field-0.0 (cell_at c.loop.at c.loop.rest.now)
    (many_at cell_at 8 c.args.count 16 c.args.bytes.now)
    (λ e h. stops cell_at 8 c.loop.cells.items c.args.count c.loop.counter c.loop.at c.loop.rest.now e
    (many_at cell_at 8 c.args.count 16 c.args.bytes.now) c.loop-test.true h c.loop.invariant.reads)
    c.in_err-cell.ensures)

pub loop-preserved : goal.loop-preserved
loop-preserved c =
    let pushed : c.push.new.self.items ≡ c.loop.cells.items ++ c.in_ok-cell.cell ∷ [] = c.in_ok-push.ensures.items in
    record {
      place = omega arith;
      reads = rw pushed (goes_on cell_at 8 c.loop.cells.items c.args.count c.loop.counter c.loop.at c.loop.rest.now
          c.in_ok-cell.cell c.in_ok-cell.after.now
          (many_at cell_at 8 c.args.count 16 c.args.bytes.now) c.loop-test.true c.in_ok-cell.ensures
          c.loop.invariant.reads);
    }

pub returns-clause-read : goal.returns-clause-read
returns-clause-read c = is_done cell_at 8 c.loop.cells.items c.args.count c.loop.counter c.loop.at c.loop.rest.now
    (many_at cell_at 8 c.args.count 16 c.args.bytes.now) c.loop-test.false c.loop.invariant.reads

pub returns-clause-len : goal.returns-clause-len
returns-clause-len c =
    let t : Taken cell_bytes IsCell c.args.count c.args.bytes.now (c.loop.cells.items, c.loop.rest.now) =
    many_take cell_at 8 cell_bytes IsCell cell_takes c.args.count 16 c.args.bytes.now
    (c.loop.cells.items, c.loop.rest.now) (λ i. omega (arith, c.type_inv.bytes i)) (returns-clause-read c) in
    omega (arith, t.1)

pub returns-clause-cells : goal.returns-clause-cells
returns-clause-cells c =
    let t : Taken cell_bytes IsCell c.args.count c.args.bytes.now (c.loop.cells.items, c.loop.rest.now) =
    many_take cell_at 8 cell_bytes IsCell cell_takes c.args.count 16 c.args.bytes.now
    (c.loop.cells.items, c.loop.rest.now) (λ i. omega (arith, c.type_inv.bytes i)) (returns-clause-read c) in
    All-from_recursion IsCell c.loop.cells.items t.2
