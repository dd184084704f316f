use Rattle.std.proofs.Common.{arith}
use Rattle.buddy_book.proofs.BookProofs.{taken_of_index}
use Rattle.buddy_book.proofs.book.tests.order_at.Goals as goal

pub returns-else-order-eq0 : goal.returns-else-order-eq0
returns-else-order-eq0 c =
    let above = c.if-at-book.false in
    let odd = c.if-at-book-ne0.false in
    let past = c.if-entry-len.false in
    let many = c.len.ensures in
    let none = c.if-order-eq0.false in
    taken_of_index c.args.book.now c.book.inside.h c.book.inside.base c.args.at c.index-order.result.now
    c.book.inside.lists.items c.book.inside.orders.items c.book.view_is c.index-order.ensures (omega arith)
    (omega arith) above (omega arith)
