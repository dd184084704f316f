use Rattle.std.proofs.Common.{arith}
use Rattle.static_layout.proofs.tables.table_at.Goals as goal

pub next_table-at-requires-clause-low : goal.next_table-at-requires-clause-low
next_table-at-requires-clause-low c =
    let so_far = c.loop-before.invariant.low in
    let below = c.loop-before-test.true in
    let inside = c.requires in
    let few = c.first_table-at.ensures.few in
    omega arith
