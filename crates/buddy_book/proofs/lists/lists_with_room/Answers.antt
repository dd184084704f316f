use Rattle.std.proofs.Common.{◌-◌, ◌≤◌, ◌^◌, arith, vec_capacity}
use Rattle.buddy_book.proofs.Beginning.{begun-more}
use Rattle.buddy_book.proofs.lists.lists_with_room.Goals as goal

pub loop-at-preserved : goal.loop-at-preserved
loop-at-preserved c =
    let room : 2 ^ (c.args.h - 1 - c.loop-at.at) ≤ vec_capacity c.in_ok-list.list = let s = c.block_size.ensures in
    let e = c.in_ok-list.ensures.capacity in omega arith in
    begun-more c.args.h c.loop-at.at c.loop-at.lists.items c.push.new.self.items c.in_ok-list.list c.loop-at.invariant
    c.in_ok-list.ensures.items room c.in_ok-push.ensures.items
