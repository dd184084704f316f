use Rattle.std.proofs.Common.{◌≡◌, ◌≤◌, ℕ, ◌∷◌, List, length}
use Rattle.std.specs.Prelude.{true}
use Rattle.roopl_parser.specs.Reader.{scan, MoreArgs, Idents, Part, ParsedValue}
use Rattle.roopl_parser.proofs.arguments.more_args.Given as goal

abbrev pub invariant-names : goal.invariant-names
invariant-names l = record {
  read : (n : ℕ) (s : List Part) (vs : List ParsedValue) → scan true l.end l.fn.tokens n (MoreArgs ∷ s)
      (Idents l.fn.first.items ∷ vs) ≡ scan true l.end l.rest n (MoreArgs ∷ s) (Idents l.names.items ∷ vs);
  shorter : length l.rest ≤ length l.fn.tokens;
}

abbrev pub decreases-names : goal.decreases-names
decreases-names l = length l.rest
