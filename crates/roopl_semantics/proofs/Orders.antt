-- The orders of the blocks that objects and arrays take.
use Rattle.std.proofs.Common.{ℕ, ◌+◌, ◌^◌, ◌≤◌, arith}
use Rattle.buddy_book.specs.rpp_words.declared.input.TheConstants.{HEADER_WORDS}
use Rattle.buddy_book.proofs.Requests.{order_least, order_room}
use Rattle.roopl_semantics.specs.Execution.{order_of_cells}

pub order_from_one : (cells : ℕ) → 1 ≤ order_of_cells cells
order_from_one cells = order_least 31 1 (HEADER_WORDS + cells)

pub has_room : (cells : ℕ) → order_of_cells cells ≤ 20 → HEADER_WORDS + cells ≤ 2 ^ order_of_cells cells
has_room cells h = order_room 31 1 (HEADER_WORDS + cells) (omega arith)
