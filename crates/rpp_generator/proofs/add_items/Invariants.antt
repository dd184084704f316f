use Rattle.std.proofs.Common.{◌≡◌, ◌+◌, ◌-◌, ◌++◌}
use Rattle.std.specs.Prelude.{string_bytes}
use Rattle.rpp_generator.specs.Generated.{items}
use Rattle.rpp_generator.proofs.add_items.Given as goal

-- the text so far and the items that are left are the whole
abbrev pub invariant-loop-number : goal.invariant-loop-number
invariant-loop-number l =
    string_bytes l.out ++ items l.seed (1 + l.number) (l.size - l.number)
    ≡ string_bytes l.initial.out ++ items l.seed 1 l.size
