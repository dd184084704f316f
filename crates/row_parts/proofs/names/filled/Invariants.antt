use Rattle.std.proofs.Common.{◌≡◌, ◌++◌, map, drop}
use Rattle.std.specs.Prelude.{string_bytes}
use Rattle.row_parts.specs.Names.{lines_from, filled_lines}
use Rattle.row_parts.proofs.names.filled.Given as goal

-- what is left decides
abbrev pub invariant-loop-line : goal.invariant-loop-line
invariant-loop-line l = map string_bytes l.made.items
    ++ lines_from l.names (string_bytes l.text) (map (λ line. line.now) (drop l.line-index l.rest))
    ≡ filled_lines l.names (map (λ line. line.now) l.lines)
