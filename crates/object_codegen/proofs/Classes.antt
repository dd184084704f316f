-- The order of the block of an object.
use Rattle.std.proofs.Common.{◌≡◌, ◌∙◌, sym, ap, ℕ, ◌+◌, ◌≤◌, arith}
use Rattle.refine_heap.specs.code_conventions.declared.memory.TheConstants.{HEADER_WORDS}
use Rattle.refine_heap.specs.rpp_words.Order.{IsOrderFor}
use Rattle.refine_heap.specs.buddy_book.Book.{order_for}
use Rattle.refine_heap.proofs.buddy_book_laws.LeastOrder.{order_for-only}

-- the order of a block for so many fields
pub order_is : (fields k : ℕ) → fields ≤ 64 → IsOrderFor (fields + HEADER_WORDS) k
    → k ≡ order_for (HEADER_WORDS + fields)
order_is fields k h is =
    let two : fields + HEADER_WORDS ≡ HEADER_WORDS + fields = omega arith in
    sym (order_for-only (fields + HEADER_WORDS) k (omega arith) is) ∙ ap (λ n. order_for n) two
