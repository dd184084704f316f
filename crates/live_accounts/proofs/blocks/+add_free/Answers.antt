use Rattle.std.proofs.Common.{◌≤◌, arith}
use Rattle.std.specs.Prelude.{string_bytes}
use Rattle.live_accounts.proofs.Taking.{lines_to}
use Rattle.live_accounts.proofs.blocks.+add_free.Goals as goal

pub returns : goal.returns
returns t c =
    let some = c.if-order-eq0.false in
    let from : 1 ≤ c.args.order = omega arith in
    lines_to c.args.order c.in_ok-count.count c.args.heap.now c.take_all.new.heap (string_bytes c.args.text.now)
    (string_bytes c.add_free.new.text) (string_bytes c.add_count.new.text) from c.in_ok-count.ensures
    c.in_ok-add_free.ensures c.in_ok-add_count.ensures
