use Rattle.std.proofs.Common.{◌≡◌, ◌-◌, ◌<◌, ◌^◌, sym, ap, ◌∙◌, refl, arith, length, Some, None, slice_set}
use Rattle.std.proofs.lemmas.List.{length-set}
use Rattle.buddy_book.specs.Stored.{list_of}
use Rattle.buddy_book.proofs.StoredLaws.{two_power, at_index, half_of_list, room-given, give-merge, give-head}
use Rattle.buddy_book.proofs.StoredLaws.{merged_fits, merged_words, HasRoom-set}
use Rattle.buddy_book.proofs.lists.+give_block.Goals as goal

pub buddy_below-requires-clause-in_word : goal.buddy_below-requires-clause-in_word
buddy_below-requires-clause-in_word t c =
    let a = c.block_size.ensures in
    let p = two_power c.args.k (let x = c.requires.to_highest in let y = c.requires.in_limit in omega arith) in
    let number : 2 ^ 20 ≡ 1048576 = refl in
    omega arith

pub put-requires : goal.put-requires
put-requires t c =
    let lists = c.args.lists.now.items in
    let at = at_index lists (c.args.k - 1) c.index_mut.result.now c.index_mut.ensures.value
    (let x = c.requires.from_one in let y = c.requires.to_highest in omega arith) in
    room-given lists c.args.k c.index_mut.result.now c.requires.room c.requires.from_one c.requires.to_highest at
    c.requires.free_words

pub give_block-requires : goal.give_block-requires
give_block-requires t c =
    let lists = c.args.lists.now.items in
    let within : c.args.k - 1 < length lists = let x = c.requires.from_one in let y = c.requires.to_highest in
    omega arith in
    let at_read = at_index lists (c.args.k - 1) c.index.result.now c.index.ensures within in
    let at = at_index lists (c.args.k - 1) c.index_mut-in-Some.result.now c.index_mut-in-Some.ensures.value within in
    let is = half_of_list lists c.args.k c.block_size.result c.args.block c.index.result.now
    c.index_mut-in-Some.result.now c.deref.result.now c.buddy_below.result (Some c.in-Some.low) at_read at
    c.block_size.ensures c.deref.ensures.value c.buddy_below.ensures c.in-Some.is in
    let merged = merged_fits (length lists) c.args.k c.args.block c.in-Some.low (list_of c.index_mut-in-Some.result.now)
    is c.requires.fits in
    let count : length (slice_set lists (c.args.k - 1) c.clear.new.self) ≡ length lists =
    length-set lists (c.args.k - 1) c.clear.new.self in
    let power = ap (λ n. 2 ^ n) count in
    let words = merged_words lists (length lists) c.args.k c.args.block c.in-Some.low c.index_mut-in-Some.result.now
    c.clear.new.self c.requires.from_one at is c.clear.ensures.items c.requires.free_words in
    let room = HasRoom-set lists (c.args.k - 1) c.index_mut-in-Some.result.now c.clear.new.self c.requires.room at
    (let e = c.clear.ensures.capacity in omega arith) in (
      let o = merged.order_to in let f = c.requires.to_highest in omega arith,
      (
        omega arith,
        (
          let o = merged.order_to in omega arith,
          (
            let l = c.requires.in_limit in omega arith,
            (let f = merged.fits in omega arith, (room, omega arith)),
          ),
        ),
      ),
    )

pub returns-in-None-clause-gives : goal.returns-in-None-clause-gives
returns-in-None-clause-gives t c =
    let lists = c.args.lists.now.items in
    let within : c.args.k - 1 < length lists = let x = c.requires.from_one in let y = c.requires.to_highest in
    omega arith in
    let at_read = at_index lists (c.args.k - 1) c.index.result.now c.index.ensures within in
    let at = at_index lists (c.args.k - 1) c.index_mut.result.now c.index_mut.ensures.value within in
    let is = half_of_list lists c.args.k c.block_size.result c.args.block c.index.result.now c.index_mut.result.now
    c.deref.result.now c.buddy_below.result None at_read at c.block_size.ensures c.deref.ensures.value
    c.buddy_below.ensures c.in-None.is in
    give-head lists c.args.k c.args.block c.index_mut.result.now c.put.new.list at is c.put.ensures.items

pub returns-in-None-clause-has_room : goal.returns-in-None-clause-has_room
returns-in-None-clause-has_room t c =
    let lists = c.args.lists.now.items in
    let at = at_index lists (c.args.k - 1) c.index_mut.result.now c.index_mut.ensures.value
    (let x = c.requires.from_one in let y = c.requires.to_highest in omega arith) in
    HasRoom-set lists (c.args.k - 1) c.index_mut.result.now c.put.new.list c.requires.room at c.put.ensures.capacity

pub returns-in-Some-clause-gives : goal.returns-in-Some-clause-gives
returns-in-Some-clause-gives t c =
    let lists = c.args.lists.now.items in
    let within : c.args.k - 1 < length lists = let x = c.requires.from_one in let y = c.requires.to_highest in
    omega arith in
    let at_read = at_index lists (c.args.k - 1) c.index.result.now c.index.ensures within in
    let at = at_index lists (c.args.k - 1) c.index_mut-in-Some.result.now c.index_mut-in-Some.ensures.value within in
    let is = half_of_list lists c.args.k c.block_size.result c.args.block c.index.result.now
    c.index_mut-in-Some.result.now c.deref.result.now c.buddy_below.result (Some c.in-Some.low) at_read at
    c.block_size.ensures c.deref.ensures.value c.buddy_below.ensures c.in-Some.is in
    c.give_block.ensures.gives ∙ sym (give-merge lists c.args.k c.args.block c.in-Some.low
    c.index_mut-in-Some.result.now c.clear.new.self c.requires.from_one at is c.clear.ensures.items)
