-- A printed text is read back as a syntax tree like the one that was printed.
use Rattle.std.proofs.Common.{◌≤◌, List, [], ◌∷◌, length, ap, arith}
use Rattle.std.specs.List.{AllByRecursion}
use Rattle.std.proofs.lemmas.List.Elements.{recursion_from_All}
use Rattle.roopl_parser.specs.rpp_tree.declared.limits.TheConstants.{MOST_TOKENS}
use Rattle.roopl_parser.specs.rpp_tree.Names.{IsName}
use Rattle.roopl_parser.specs.rpp_tree.Parts.{source_names}
use Rattle.roopl_parser.specs.rpp_tree.Tree.{ClassText, Source}
use Rattle.roopl_parser.specs.rpp_tree.Limits.{IsWithinLimits}
use Rattle.roopl_parser.specs.roopl_lexer.declared.token.TokenKind.{TokenKind}
use Rattle.roopl_parser.specs.roopl_lexer.declared.token.TokenKind.TheVariants.{Word, Name, Number, Sign}
use Rattle.roopl_parser.specs.Viable.{IsSmall}
use Rattle.roopl_parser.proofs.Exact.{within}
use Rattle.roopl_printer.specs.Printable.{IsPrintable, IsSmallNumber, IsOfGrammar}
use Rattle.roopl_printer.specs.Printed.{PrintedToken}
use Rattle.roopl_printer.specs.Spelled.{spelled}
use Rattle.roopl_printer.specs.Laws.{IsReadBack}
use Rattle.roopl_printer.proofs.NamedTokens.{each_token}
use Rattle.roopl_printer.proofs.Cutting.{laid, laid_length, printed_cut}
use Rattle.roopl_printer.proofs.Looks.{laid_looks}
use Rattle.roopl_printer.proofs.LikeClasses.{classes_like}

-- a name is one by the rule
abbrev IsRightName : TokenKind → Type 0
IsRightName (Word keyword) = Unit {0}
IsRightName (Name text) = IsName text
IsRightName (Number n) = Unit {0}
IsRightName (Sign sign) = Unit {0}

printable : (kind : TokenKind) → IsRightName kind → IsSmallNumber kind → IsPrintable kind
printable (Word k) name number = tt
printable (Name text) name number = name
printable (Number n) name number = number
printable (Sign s) name number = tt

printables : (ts : List PrintedToken) → AllByRecursion (λ t. IsRightName t.kind) ts
    → AllByRecursion (λ t. IsSmallNumber t.kind) ts → AllByRecursion (λ t. IsPrintable t.kind) ts
printables [] names numbers = tt
printables (t ∷ ts) names numbers = (printable t.kind names.0 numbers.0, printables ts names.1 numbers.1)

pub read_back : (p : Source) → IsOfGrammar p → IsWithinLimits p → length (spelled p) ≤ MOST_TOKENS → IsReadBack p
read_back p grammatical within_limits few =
    let tokens = laid 0 (spelled p) in
    let names = each_token IsRightName (λ k. tt) (λ s. tt) (λ n. tt) p
    (recursion_from_All (λ name. IsName name.text) (source_names p) within_limits.names) in
    let numbers = recursion_from_All (λ t. IsSmallNumber t.kind) (spelled p) grammatical.numbers in
    let like = classes_like p.classes within_limits.methods_small grammatical.blocks tokens []
    (laid_looks 0 (spelled p)) in
    let tree : Source = record { classes = like.trees } in
    let small : IsSmall tree = record {
      classes_few = let c = like.count in let f = within_limits.classes_few in
          omega arith;
      methods_small = like.small;
    } in
    let long = laid_length 0 (spelled p) in
    let flat = like.flat in
    record {
      tokens = tokens;
      cutting = printed_cut p (printables (spelled p) names numbers);
      tree = tree;
      derived = like.derived;
      free = within tokens tree like.derived (omega arith) small (omega arith);
      alike = ap (λ (cs : List ClassText). record { classes = cs }) like.alike;
    }
