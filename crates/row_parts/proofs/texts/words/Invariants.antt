use Rattle.std.proofs.Common.{◌≡◌, take, map, string_bytes}
use Rattle.std.specs.Prelude.{flat_map, encode_utf8}
use Rattle.row_parts.proofs.texts.words.Given as goal

abbrev pub invariant-loop-piece : goal.invariant-loop-piece
invariant-loop-piece l = map string_bytes l.words.items
    ≡ map (flat_map encode_utf8) (map (λ piece. piece.now) (take l.piece-index l.piece-items))
