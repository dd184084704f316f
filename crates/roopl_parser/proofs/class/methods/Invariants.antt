use Rattle.std.proofs.Common.{◌≡◌, ◌≤◌, [], ◌∷◌, List, length, map}
use Rattle.std.specs.Prelude.{true}
use Rattle.roopl_lexer.specs.rpp_tree.Views.{procedure_of}
use Rattle.roopl_parser.specs.Reader.{scan, Part, ParsedValue, Procedures, Methods}
use Rattle.roopl_parser.proofs.class.methods.Given as goal

abbrev pub decreases-methods : goal.decreases-methods
decreases-methods l = length l.rest

abbrev pub invariant-methods : goal.invariant-methods
invariant-methods l = record {
  read : (s : List Part) (vs : List ParsedValue) → scan true l.end l.fn.tokens 0 (Procedures ∷ s) (Methods [] ∷ vs)
      ≡ scan true l.end l.rest 0 (Procedures ∷ s) (Methods (map procedure_of l.methods.items) ∷ vs);
  shorter : length l.rest ≤ length l.fn.tokens;
}
