use Rattle.std.proofs.Common.{◌≡◌, ◌++◌, length}
use Rattle.std.specs.Prelude.{codes, option_map, string_bytes}
use Rattle.row_parts.specs.Pieces.{pieces}
use Rattle.row_parts.specs.Printed.{valued_pieces}
use denote.Shadow.{shadow}
use denote.Text.{Utf8}
use Rattle.row_parts.proofs.printed.Numbers.add_all_numbers.Given as goal

-- what is left decides
abbrev pub invariant-loop-piece : goal.invariant-loop-piece
invariant-loop-piece l = record {
  same : option_map (λ text. string_bytes l.made ++ text) (valued_pieces l.self (pieces (codes "<") l.rest))
      ≡ option_map (λ text. string_bytes l.initial.made ++ text) (valued_pieces l.self (pieces (codes "<") l.text));
  is_text : shadow (Utf8 l.rest);
}

abbrev pub decreases-loop-piece : goal.decreases-loop-piece
decreases-loop-piece l = length l.rest
