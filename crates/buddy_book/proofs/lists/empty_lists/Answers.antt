use Rattle.std.proofs.Common.{◌-◌, arith}
use Rattle.buddy_book.proofs.StoredLaws.{at_index, room-empty, HasRoom-set}
use Rattle.buddy_book.proofs.Beginning.{list_empty, list_len, list_count, start-put}
use Rattle.buddy_book.proofs.lists.empty_lists.Goals as goal

pub put-requires : goal.put-requires
put-requires c =
    let lists = c.in_ok-lists.lists.items in
    let count = list_count c.args.h lists c.in_ok-lists.ensures.free in
    let at = at_index lists (c.args.h - 1) c.index_mut.result.now c.index_mut.ensures.value
    (let f = c.requires.from in omega arith) in
    let empty = list_len c.index_mut.result.now (list_empty c.args.h (c.args.h - 1) lists c.index_mut.result.now
    c.in_ok-lists.ensures.free at) in
    room-empty lists (c.args.h - 1) c.index_mut.result.now c.in_ok-lists.ensures.room at empty

pub returns-clause-free : goal.returns-clause-free
returns-clause-free c =
    let lists = c.in_ok-lists.lists.items in
    let count = list_count c.args.h lists c.in_ok-lists.ensures.free in
    let at = at_index lists (c.args.h - 1) c.index_mut.result.now c.index_mut.ensures.value
    (let f = c.requires.from in omega arith) in
    start-put c.args.h lists c.index_mut.result.now c.put.new.list c.requires.from c.in_ok-lists.ensures.free at
    c.put.ensures.items

pub returns-clause-room : goal.returns-clause-room
returns-clause-room c =
    let lists = c.in_ok-lists.lists.items in
    let count = list_count c.args.h lists c.in_ok-lists.ensures.free in
    let at = at_index lists (c.args.h - 1) c.index_mut.result.now c.index_mut.ensures.value
    (let f = c.requires.from in omega arith) in
    HasRoom-set lists (c.args.h - 1) c.index_mut.result.now c.put.new.list c.in_ok-lists.ensures.room at
    c.put.ensures.capacity
