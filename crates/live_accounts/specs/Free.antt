-- The free blocks of a run's heap, and what is printed of the heap.
use Rattle.std.specs.Prelude.{ℕ, zero, suc, ◌+◌, [], ◌++◌, length, codes}
use Rattle.std.specs.Option.{unwrap_or}
use Rattle.std.specs.Fmt.{decimal}
use Rattle.source_debugger.specs.rpp_words.Texts.{line_end}
use Rattle.source_debugger.specs.buddy_book.Book.{Book}
use Rattle.source_debugger.specs.buddy_book.Place.{Log, count_taken, place}
use Rattle.source_debugger.specs.buddy_book.Shown.{list_at}
use Rattle.source_debugger.specs.roopl_semantics.Laws.{book_of}
use Rattle.source_debugger.specs.roopl_semantics.Store.{Store}
use Rattle.source_debugger.specs.roopl_semantics.Report.{Text}

-- the free lists after these requests to a heap of this order; none if a request found no block
abbrev pub free_after : (order : ℕ) → Log → Book
free_after order log = unwrap_or (book_of (place order log)) []

-- the line of an order, if it has free blocks
abbrev pub free_line : (order count : ℕ) → Text
free_line order zero = []
free_line order (suc more) =
    codes "free " ++ (decimal order ++ (codes " " ++ (decimal (suc more) ++ line_end)))

-- those of the orders up to one, from the smallest
abbrev pub free_lines : (order : ℕ) → Book → Text
free_lines zero book = []
free_lines (suc lower) book =
    free_lines lower book ++ free_line (suc lower) (length (list_at book (suc lower)))

-- the order of the heap, how many objects and arrays live, the next name, and the free blocks
abbrev pub heap_lines : (order : ℕ) → Store → Log → Text
heap_lines order store log =
    codes "order " ++ (decimal order ++ (line_end
    ++ (codes "live " ++ (decimal (length store) ++ (line_end
    ++ (codes "next #" ++ (decimal (2 + count_taken log) ++ (line_end
    ++ free_lines order (free_after order log)))))))))
