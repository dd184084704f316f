use Rattle.std.proofs.Common.{◌≡◌, ◌+◌, ◌-◌, refl, ap, ◌∙◌, arith}
use Rattle.buddy_book.specs.Book.{give_back}
use Rattle.buddy_book.specs.Stored.{free_of}
use Rattle.buddy_book.specs.Shown.{with_taken}
use Rattle.buddy_book.proofs.BookProofs.{taken_at, took_stored}
use Rattle.buddy_book.proofs.book.Book.take.Goals as goal

pub index_mut-requires : goal.index_mut-requires
index_mut-requires c =
    let at = taken_at c.self.inside.h c.self.inside.base c.args.k c.in-Some.block c.self.inside.lists.items
    c.take_block.new.lists.items c.self.inside.orders.items c.self.invariant c.requires c.in-Some.ensures.some in
    let i = at.in_table in let l = c.self.inside.orders.ok.0 in omega arith

pub overflow_add-result : goal.overflow_add-result
overflow_add-result c =
    let at = taken_at c.self.inside.h c.self.inside.base c.args.k c.in-Some.block c.self.inside.lists.items
    c.take_block.new.lists.items c.self.inside.orders.items c.self.invariant c.requires c.in-Some.ensures.some in
    record { fits = at.address }

pub invariant_of-self-in-Some : goal.invariant_of-self-in-Some
invariant_of-self-in-Some c =
    (took_stored c.self.inside.h c.self.inside.base c.args.k c.in-Some.block c.self.inside.lists.items
    c.take_block.new.lists.items c.self.inside.orders.items c.self.invariant c.requires c.in-Some.ensures.some
    c.in-Some.ensures.has_room c.in-Some.ensures.count).stored

pub returns-in-Some-clause-taken : goal.returns-in-Some-clause-taken
returns-in-Some-clause-taken c =
    let took = took_stored c.self.inside.h c.self.inside.base c.args.k c.in-Some.block c.self.inside.lists.items
    c.take_block.new.lists.items c.self.inside.orders.items c.self.invariant c.requires c.in-Some.ensures.some
    c.in-Some.ensures.has_room c.in-Some.ensures.count in
    let base = ap (λ s. s.base) c.self.view_is in
    let at : c.in-Some.block ≡ c.self.inside.base + c.in-Some.block - c.args.self.now.base = omega arith in
    took.taken ∙ ap (λ t. with_taken c.in-Some.block c.args.k t) (ap (λ s. s.taken) c.self.view_is)
    ∙ ap (λ b. with_taken b c.args.k c.args.self.now.taken) at

pub returns-in-Some-clause-undone : goal.returns-in-Some-clause-undone
returns-in-Some-clause-undone c =
    let took = took_stored c.self.inside.h c.self.inside.base c.args.k c.in-Some.block c.self.inside.lists.items
    c.take_block.new.lists.items c.self.inside.orders.items c.self.invariant c.requires c.in-Some.ensures.some
    c.in-Some.ensures.has_room c.in-Some.ensures.count in
    let base = ap (λ s. s.base) c.self.view_is in
    let at : c.self.inside.base + c.in-Some.block - c.args.self.now.base ≡ c.in-Some.block = omega arith in
    ap (λ b. give_back (free_of c.take_block.new.lists.items) c.args.k b) at ∙ took.undone
    ∙ ap (λ s. s.free) c.self.view_is

pub returns-in-Some-clause-is_taken : goal.returns-in-Some-clause-is_taken
returns-in-Some-clause-is_taken c =
    let took = took_stored c.self.inside.h c.self.inside.base c.args.k c.in-Some.block c.self.inside.lists.items
    c.take_block.new.lists.items c.self.inside.orders.items c.self.invariant c.requires c.in-Some.ensures.some
    c.in-Some.ensures.has_room c.in-Some.ensures.count in
    record { block = c.in-Some.block; at = refl; with_order = took.with_order }
