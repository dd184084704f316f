-- The generated program: a list of items that grows by calls, a histogram of their values, and all
-- of it undone.
use Rattle.std.specs.Prelude.{ℕ, zero, suc, ◌+◌, ◌*◌, ◌%◌, nat_eq, List, [], ◌∷◌, ◌++◌, codes}
use Rattle.std.specs.Prelude.{if◌then◌else◌}
use Rattle.std.specs.Fmt.{decimal}

abbrev pub text_line : List ℕ → List ℕ
text_line text = text ++ 10 ∷ []

-- the value of the item of this number, the first being 1
abbrev pub item_value : ℕ → ℕ → ℕ
item_value seed number = (31 * (seed % 100) + 17 * number) % 100

-- the main class with `main`, and the beginning of the method that makes the items
unfoldable pub opening_text : List ℕ
opening_text =
    text_line (codes "class Main")
    ++ text_line (codes "Node head int[] hist int total int count int sum int kept")
    ++ text_line (codes "method main()")
    ++ text_line (codes "call build()")
    ++ text_line (codes "sum += total")
    ++ text_line (codes "kept += count")
    ++ text_line (codes "uncall build()")
    ++ text_line (codes "method build()")
    ++ text_line (codes "new int[100] hist")

-- an item whose value is a multiple of 4 is taken out again
unfoldable pub taken_out : ℕ → List ℕ
taken_out value = if nat_eq (value % 4) 0 then text_line (codes "uncall add(v)") else []

-- a local variable with the value
unfoldable pub local_begin : ℕ → List ℕ
local_begin value = text_line (codes "local int v = " ++ decimal value)

-- the item is put in
unfoldable pub put_in : List ℕ
put_in = text_line (codes "call add(v)")

-- the end of the local variable
unfoldable pub local_end : ℕ → List ℕ
local_end value = text_line (codes "delocal int v = " ++ decimal value)

abbrev pub item_lines : ℕ → List ℕ
item_lines value = local_begin value ++ put_in ++ taken_out value ++ local_end value

-- so many items from this number on
abbrev pub items : ℕ → ℕ → ℕ → List ℕ
items seed number zero = []
items seed number (suc count) = item_lines (item_value seed number) ++ items seed (number + 1) count

-- the method that puts an item in, and the class of the list's nodes
unfoldable pub closing_text : List ℕ
closing_text =
    text_line (codes "method add(int v)")
    ++ text_line (codes "local Node n = nil")
    ++ text_line (codes "new Node n")
    ++ text_line (codes "call n::fill(v, head)")
    ++ text_line (codes "head <=> n")
    ++ text_line (codes "delocal Node n = nil")
    ++ text_line (codes "hist[v] += 1")
    ++ text_line (codes "count += 1")
    ++ text_line (codes "total += v")
    ++ text_line (codes "class Node")
    ++ text_line (codes "int value Node next")
    ++ text_line (codes "method fill(int v, Node rest)")
    ++ text_line (codes "value += v")
    ++ text_line (codes "next <=> rest")

-- the program of a seed with so many items
abbrev pub generated : ℕ → ℕ → List ℕ
generated seed size = opening_text ++ items seed 1 size ++ closing_text
