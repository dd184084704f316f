use Rattle.std.proofs.Common.{◌-◌, sym, ap, ◌∙◌, arith, None, Some}
use Rattle.std.proofs.lemmas.List.{length-map}
use Rattle.buddy_book.specs.Stored.{list_of}
use Rattle.buddy_book.proofs.StoredLaws.{at_index}
use Rattle.buddy_book.proofs.Beginning.{head_is, head_fits}
use Rattle.buddy_book.proofs.book.Book.head.Goals as goal

pub overflow_add-result : goal.overflow_add-result
overflow_add-result c =
    let lists = c.self.inside.lists.items in
    let many = sym (length-map lists list_of) ∙ c.self.invariant.kept.lists in
    let h = ap (λ s. s.h) c.self.view_is in
    let at = at_index lists (c.args.k - 1) c.index.result.now c.index.ensures
    (let f = c.requires.from in let t = c.requires.to in omega arith) in
    record {
      fits = head_fits c.self.inside.h c.self.inside.base c.args.k c.in-Some.block lists
          c.self.inside.orders.items c.deref.result.now c.index.result.now c.self.invariant at c.deref.ensures.value
          (sym c.in-Some.is ∙ c.head_of.ensures);
    }

pub returns-in-None : goal.returns-in-None
returns-in-None c =
    let lists = c.self.inside.lists.items in
    let many = sym (length-map lists list_of) ∙ c.self.invariant.kept.lists in
    let h = ap (λ s. s.h) c.self.view_is in
    let at = at_index lists (c.args.k - 1) c.index.result.now c.index.ensures
    (let f = c.requires.from in let t = c.requires.to in omega arith) in
    head_is c.self.inside.h c.self.inside.base c.args.k lists c.self.inside.orders.items c.deref.result.now
    c.args.self.now c.index.result.now None c.self.view_is at c.deref.ensures.value
    (sym c.in-None.is ∙ c.head_of.ensures)

pub returns-in-Some : goal.returns-in-Some
returns-in-Some c =
    let lists = c.self.inside.lists.items in
    let many = sym (length-map lists list_of) ∙ c.self.invariant.kept.lists in
    let h = ap (λ s. s.h) c.self.view_is in
    let at = at_index lists (c.args.k - 1) c.index.result.now c.index.ensures
    (let f = c.requires.from in let t = c.requires.to in omega arith) in
    head_is c.self.inside.h c.self.inside.base c.args.k lists c.self.inside.orders.items c.deref.result.now
    c.args.self.now c.index.result.now (Some c.in-Some.block) c.self.view_is at c.deref.ensures.value
    (sym c.in-Some.is ∙ c.head_of.ensures)
