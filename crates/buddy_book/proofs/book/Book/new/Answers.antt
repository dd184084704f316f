use Rattle.buddy_book.proofs.Beginning.{start-stored, start-shown}
use Rattle.buddy_book.proofs.book.Book.new.Goals as goal

pub invariant_of-result : goal.invariant_of-result
invariant_of-result c =
    start-stored c.args.h c.args.base c.in_ok-lists.lists.items c.in_ok-orders.orders.items c.requires.from
    c.requires.to c.requires.base_to c.in_ok-lists.ensures.free c.in_ok-lists.ensures.room c.in_ok-orders.ensures

pub returns : goal.returns
returns c = start-shown c.args.h c.args.base c.in_ok-lists.lists.items c.in_ok-orders.orders.items
    c.in_ok-lists.ensures.free c.in_ok-orders.ensures
