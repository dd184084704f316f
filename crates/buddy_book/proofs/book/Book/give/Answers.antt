use Rattle.std.proofs.Common.{◌-◌, ap, ◌∙◌, arith, ℕ, Option, Some}
use Rattle.buddy_book.specs.Book.{Book}
use Rattle.buddy_book.specs.Shown.{Shown, without_taken}
use Rattle.buddy_book.specs.Stored.{shown_book}
use Rattle.buddy_book.proofs.BookProofs.{given_block, give_at, gave_stored}
use Rattle.buddy_book.proofs.book.Book.give.Goals as goal

pub index_mut-requires : goal.index_mut-requires
index_mut-requires c =
    let order = given_block c.args.self.now (shown_book c.self.inside.h c.self.inside.base c.self.inside.lists.items
    c.self.inside.orders.items) c.args.block c.args.k c.self.view_is c.requires in
    let at = give_at c.self.inside.h c.self.inside.base c.args.k (c.args.block - c.self.inside.base)
    c.self.inside.lists.items c.self.inside.orders.items c.self.invariant order in
    let i = at.in_table in let l = c.self.inside.orders.ok.0 in omega arith

pub give_block-requires-clause-from_one : goal.give_block-requires-clause-from_one
give_block-requires-clause-from_one c =
    let order = given_block c.args.self.now (shown_book c.self.inside.h c.self.inside.base c.self.inside.lists.items
    c.self.inside.orders.items) c.args.block c.args.k c.self.view_is c.requires in
    (give_at c.self.inside.h c.self.inside.base c.args.k (c.args.block - c.self.inside.base) c.self.inside.lists.items
    c.self.inside.orders.items c.self.invariant order).from_one

pub give_block-requires-clause-to_highest : goal.give_block-requires-clause-to_highest
give_block-requires-clause-to_highest c =
    let order = given_block c.args.self.now (shown_book c.self.inside.h c.self.inside.base c.self.inside.lists.items
    c.self.inside.orders.items) c.args.block c.args.k c.self.view_is c.requires in
    (give_at c.self.inside.h c.self.inside.base c.args.k (c.args.block - c.self.inside.base) c.self.inside.lists.items
    c.self.inside.orders.items c.self.invariant order).order_to

pub give_block-requires-clause-fits : goal.give_block-requires-clause-fits
give_block-requires-clause-fits c =
    let order = given_block c.args.self.now (shown_book c.self.inside.h c.self.inside.base c.self.inside.lists.items
    c.self.inside.orders.items) c.args.block c.args.k c.self.view_is c.requires in
    (give_at c.self.inside.h c.self.inside.base c.args.k (c.args.block - c.self.inside.base) c.self.inside.lists.items
    c.self.inside.orders.items c.self.invariant order).fits

pub give_block-requires-clause-free_words : goal.give_block-requires-clause-free_words
give_block-requires-clause-free_words c =
    let order = given_block c.args.self.now (shown_book c.self.inside.h c.self.inside.base c.self.inside.lists.items
    c.self.inside.orders.items) c.args.block c.args.k c.self.view_is c.requires in
    (give_at c.self.inside.h c.self.inside.base c.args.k (c.args.block - c.self.inside.base) c.self.inside.lists.items
    c.self.inside.orders.items c.self.invariant order).room

pub invariant_of-self : goal.invariant_of-self
invariant_of-self c =
    let order = given_block c.args.self.now (shown_book c.self.inside.h c.self.inside.base c.self.inside.lists.items
    c.self.inside.orders.items) c.args.block c.args.k c.self.view_is c.requires in
    (gave_stored c.self.inside.h c.self.inside.base c.args.k (c.args.block - c.self.inside.base)
    c.self.inside.lists.items c.give_block.new.lists.items c.self.inside.orders.items c.self.invariant order
    c.give_block.ensures.gives c.give_block.ensures.has_room c.give_block.ensures.count).stored

pub returns-clause-taken : goal.returns-clause-taken
returns-clause-taken c =
    let order = given_block c.args.self.now (shown_book c.self.inside.h c.self.inside.base c.self.inside.lists.items
    c.self.inside.orders.items) c.args.block c.args.k c.self.view_is c.requires in
    let gave = gave_stored c.self.inside.h c.self.inside.base c.args.k (c.args.block - c.self.inside.base)
    c.self.inside.lists.items c.give_block.new.lists.items c.self.inside.orders.items c.self.invariant order
    c.give_block.ensures.gives c.give_block.ensures.has_room c.give_block.ensures.count in
    gave.taken ∙ ap (λ s. without_taken (c.args.block - s.base) s.taken) c.self.view_is

pub returns-clause-undone : goal.returns-clause-undone
returns-clause-undone c =
    let order = given_block c.args.self.now (shown_book c.self.inside.h c.self.inside.base c.self.inside.lists.items
    c.self.inside.orders.items) c.args.block c.args.k c.self.view_is c.requires in
    let gave = gave_stored c.self.inside.h c.self.inside.base c.args.k (c.args.block - c.self.inside.base)
    c.self.inside.lists.items c.give_block.new.lists.items c.self.inside.orders.items c.self.invariant order
    c.give_block.ensures.gives c.give_block.ensures.has_room c.give_block.ensures.count in
    let pair : Shown → Option (ℕ × Book) = λ s. Some (c.args.block - s.base, s.free) in
    gave.undone ∙ ap pair c.self.view_is
