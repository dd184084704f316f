use Rattle.std.proofs.Common.{◌≡◌, ◌≤◌, [], ◌∷◌, List, length}
use Rattle.std.specs.Prelude.{true}
use Rattle.roopl_parser.specs.Reader.{scan, Part, ParsedValue, Fields, Vars}
use Rattle.roopl_parser.proofs.class.fields.Given as goal

abbrev pub decreases-fields : goal.decreases-fields
decreases-fields l = length l.rest

abbrev pub invariant-fields : goal.invariant-fields
invariant-fields l = record {
  read : (s : List Part) (vs : List ParsedValue) → scan true l.end l.fn.tokens 0 (Fields ∷ s) (Vars [] ∷ vs)
      ≡ scan true l.end l.rest 0 (Fields ∷ s) (Vars l.fields.items ∷ vs);
  shorter : length l.rest ≤ length l.fn.tokens;
}
