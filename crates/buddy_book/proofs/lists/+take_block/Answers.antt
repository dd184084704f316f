use Rattle.std.proofs.Common.{◌≡◌, ◌+◌, ◌-◌, ◌<◌, sym, ap, ◌∙◌, arith, length, Some, slice_set}
use Rattle.buddy_book.specs.Stored.{free_of}
use Rattle.std.proofs.lemmas.Bool.{eqb-true}
use Rattle.buddy_book.proofs.StoredLaws.{take-above, take-popped, take-none, take-upper, later-empty, upper-fits}
use Rattle.buddy_book.proofs.StoredLaws.{at_index, HasRoom-set, room-empty}
use Rattle.buddy_book.proofs.lists.+take_block.Goals as goal

pub returns-then-at-len-clause-none : goal.returns-then-at-len-clause-none
returns-then-at-len-clause-none t c =
    take-above c.args.lists.now.items c.args.k (let a = c.if-at-len.true in let b = c.len.ensures in
    let d = c.args.lists.now.ok.0 in omega arith)

pub returns-then-not-is_empty-clause-some : goal.returns-then-not-is_empty-clause-some
returns-then-not-is_empty-clause-some t c =
    let within : c.args.k - 1 < length c.args.lists.now.items = let a = c.if-at-len.false in let b = c.len.ensures in
    let d = c.args.lists.now.ok.0 in omega arith in
    take-popped c.args.lists.now.items c.args.k c.pop.result c.index_mut.result.now c.pop.new.self
    (at_index c.args.lists.now.items (c.args.k - 1) c.index_mut.result.now c.index_mut.ensures.value within)
    c.pop.ensures.items

pub returns-then-not-is_empty-clause-has_room : goal.returns-then-not-is_empty-clause-has_room
returns-then-not-is_empty-clause-has_room t c =
    let within : c.args.k - 1 < length c.args.lists.now.items = let a = c.if-at-len.false in let b = c.len.ensures in
    let d = c.args.lists.now.ok.0 in omega arith in
    HasRoom-set c.args.lists.now.items (c.args.k - 1) c.index_mut.result.now c.pop.new.self c.requires.room
    (at_index c.args.lists.now.items (c.args.k - 1) c.index_mut.result.now c.index_mut.ensures.value within)
    (let e = c.pop.ensures.capacity in omega arith)

pub put-requires : goal.put-requires
put-requires t c =
    let within : c.args.k - 1 < length c.args.lists.now.items = let a = c.if-at-len.false in let b = c.len.ensures in
    let d = c.args.lists.now.ok.0 in omega arith in
    let later = c.take_block.new.lists.items in
    let at = at_index c.args.lists.now.items (c.args.k - 1) c.index.result.now c.index.ensures within in
    let empty : length c.index.result.now.items ≡ 0 = sym c.index.result.now.ok.0
    ∙ eqb-true _ 0 (sym c.is_empty.ensures ∙ c.if-not-is_empty.false) in
    let now_at = at_index later (c.args.k - 1) c.index_mut-in-Some.result.now c.index_mut-in-Some.ensures.value
    (let n = c.in-Some.ensures.count in omega arith) in
    let still = later-empty c.args.lists.now.items later c.args.k c.in-Some.low c.index.result.now
    c.index_mut-in-Some.result.now at empty c.in-Some.ensures.some now_at c.requires.from_one in
    room-empty later (c.args.k - 1) c.index_mut-in-Some.result.now c.in-Some.ensures.has_room now_at
    (c.index_mut-in-Some.result.now.ok.0 ∙ still)

pub overflow_add-result : goal.overflow_add-result
overflow_add-result t c =
    record {
      fits = let a = c.block_size.ensures in let f = upper-fits c.args.lists.now.items
          c.take_block.new.lists.items c.args.k c.in-Some.low c.requires.from_one
          (let w = c.if-at-len.false in let b = c.len.ensures in let d = c.args.lists.now.ok.0 in
          let l = c.requires.in_limit in omega arith) c.requires.in_limit c.requires.sound c.in-Some.ensures.some in
          omega arith;
    }

pub returns-in-None-clause-none : goal.returns-in-None-clause-none
returns-in-None-clause-none t c =
    let within : c.args.k - 1 < length c.args.lists.now.items = let a = c.if-at-len.false in let b = c.len.ensures in
    let d = c.args.lists.now.ok.0 in omega arith in
    let at = at_index c.args.lists.now.items (c.args.k - 1) c.index.result.now c.index.ensures within in
    let empty : length c.index.result.now.items ≡ 0 = sym c.index.result.now.ok.0
    ∙ eqb-true _ 0 (sym c.is_empty.ensures ∙ c.if-not-is_empty.false) in
    take-none c.args.lists.now.items c.args.k c.index.result.now c.requires.from_one at empty c.in-None.ensures.none

pub returns-in-Some-clause-some : goal.returns-in-Some-clause-some
returns-in-Some-clause-some t c =
    let within : c.args.k - 1 < length c.args.lists.now.items = let a = c.if-at-len.false in let b = c.len.ensures in
    let d = c.args.lists.now.ok.0 in omega arith in
    let later = c.take_block.new.lists.items in
    let at = at_index c.args.lists.now.items (c.args.k - 1) c.index.result.now c.index.ensures within in
    let empty : length c.index.result.now.items ≡ 0 = sym c.index.result.now.ok.0
    ∙ eqb-true _ 0 (sym c.is_empty.ensures ∙ c.if-not-is_empty.false) in
    let now_at = at_index later (c.args.k - 1) c.index_mut-in-Some.result.now c.index_mut-in-Some.ensures.value
    (let n = c.in-Some.ensures.count in omega arith) in
    take-upper c.args.lists.now.items later c.args.k c.in-Some.low c.index.result.now c.index_mut-in-Some.result.now
    c.put.new.list c.requires.from_one at empty c.in-Some.ensures.some now_at c.put.ensures.items
    ∙ ap (λ s. Some (c.in-Some.low + s, free_of (slice_set later (c.args.k - 1) c.put.new.list)))
    (sym c.block_size.ensures)

pub returns-in-Some-clause-has_room : goal.returns-in-Some-clause-has_room
returns-in-Some-clause-has_room t c =
    let within : c.args.k - 1 < length c.args.lists.now.items = let a = c.if-at-len.false in let b = c.len.ensures in
    let d = c.args.lists.now.ok.0 in omega arith in
    let later = c.take_block.new.lists.items in
    let now_at = at_index later (c.args.k - 1) c.index_mut-in-Some.result.now c.index_mut-in-Some.ensures.value
    (let n = c.in-Some.ensures.count in omega arith) in
    HasRoom-set later (c.args.k - 1) c.index_mut-in-Some.result.now c.put.new.list c.in-Some.ensures.has_room now_at
    c.put.ensures.capacity
