-- How many cells code has at most.
use Rattle.std.specs.Prelude.{ℕ, ◌+◌, ◌*◌}
use Rattle.register_expressions.specs.rpp_tree.Tree.{Lvalue, Whole, Item}
use Rattle.expr_uncompute.specs.Steps.{place_tokens}

-- a swap: if the left place is a variable, no array is compared for it
abbrev pub swap_size : (left right : Lvalue) → ℕ
swap_size (Whole name) right = 80 * (2 + place_tokens right)
swap_size (Item name index) right = 102 * (place_tokens (Item name index) + 1 + place_tokens right)
