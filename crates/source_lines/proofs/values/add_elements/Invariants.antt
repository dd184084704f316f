use Rattle.std.proofs.Common.{◌≡◌, ◌++◌, drop}
use Rattle.std.specs.Prelude.{string_bytes}
use Rattle.source_steps.specs.source_store.ValueView.{values_of}
use Rattle.source_lines.specs.Named.{elements_named}
use Rattle.source_lines.proofs.values.add_elements.Given as goal

-- the lines so far and those of what is left are the whole
abbrev pub invariant-loop-index : goal.invariant-loop-index
invariant-loop-index l = string_bytes l.out ++ elements_named l.index (values_of (drop l.index l.values))
    ≡ string_bytes l.fn.out ++ elements_named 0 (values_of l.values)
