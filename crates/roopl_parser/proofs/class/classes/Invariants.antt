use Rattle.std.proofs.Common.{◌≡◌, ◌≤◌, [], ◌∷◌, List, length, map}
use Rattle.std.specs.Prelude.{true}
use Rattle.roopl_lexer.specs.rpp_tree.Views.{class_text_of}
use Rattle.roopl_parser.specs.Reader.{scan, Part, ParsedValue, Program, Classes}
use Rattle.roopl_parser.proofs.class.classes.Given as goal

abbrev pub decreases-classes : goal.decreases-classes
decreases-classes l = length l.rest

abbrev pub invariant-classes : goal.invariant-classes
invariant-classes l = record {
  read : (s : List Part) (vs : List ParsedValue) → scan true l.end l.fn.tokens 0 (Program 0 ∷ s) (Classes [] ∷ vs)
      ≡ scan true l.end l.rest 0 (Program (length l.classes.items) ∷ s)
      (Classes (map class_text_of l.classes.items) ∷ vs);
  shorter : length l.rest ≤ length l.fn.tokens;
}
