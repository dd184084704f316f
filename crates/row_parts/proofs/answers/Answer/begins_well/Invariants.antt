use Rattle.std.proofs.Common.{◌≡◌, map, drop}
use Rattle.std.specs.List.{list_any}
use Rattle.row_parts.specs.Pieces.{begins}
use Rattle.row_parts.proofs.answers.Answer.begins_well.Given as goal

-- what is left decides
abbrev pub invariant-loop-text : goal.invariant-loop-text
invariant-loop-text l =
    list_any (begins l.self-inside.said.items) (map (λ text. text.items) (drop l.text-index l.text-items))
    ≡ list_any (begins l.self-inside.said.items) (map (λ text. text.items) l.text-items)
