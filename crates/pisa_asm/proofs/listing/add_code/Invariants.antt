use Rattle.std.proofs.Common.{◌≡◌, ◌++◌, drop}
use Rattle.std.specs.Prelude.{string_bytes}
use Rattle.pisa_asm.specs.Listing.{cell_text, lines_by}
use Rattle.pisa_asm.proofs.listing.add_code.Given as goal

-- the lines so far and those of what is left are the whole
abbrev pub invariant-loop-cell : goal.invariant-loop-cell
invariant-loop-cell l = string_bytes l.out ++ lines_by cell_text (drop l.cell-index l.code)
    ≡ string_bytes l.initial.out ++ lines_by cell_text l.code
