use Rattle.std.proofs.Common.{◌≡◌, ◌≤◌, ℕ, ◌∷◌, List, length}
use Rattle.std.specs.Prelude.{true}
use Rattle.roopl_parser.specs.Reader.{scan, MoreParams, Vars, Part, ParsedValue}
use Rattle.roopl_parser.proofs.params.more_params.Given as goal

abbrev pub invariant-params : goal.invariant-params
invariant-params l = record {
  read : (n : ℕ) (s : List Part) (vs : List ParsedValue) → scan true l.end l.fn.tokens n
      (MoreParams (length l.fn.first.items) ∷ s) (Vars l.fn.first.items ∷ vs)
      ≡ scan true l.end l.rest n (MoreParams (length l.params.items) ∷ s) (Vars l.params.items ∷ vs);
  shorter : length l.rest ≤ length l.fn.tokens;
}

abbrev pub decreases-params : goal.decreases-params
decreases-params l = length l.rest
