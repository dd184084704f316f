use Rattle.std.proofs.lemmas.List.Elements.{recursion_from_All}
use Rattle.roopl_printer.specs.Printable.{IsPrintable}
use Rattle.roopl_printer.specs.Spelled.{spelled}
use Rattle.roopl_printer.proofs.Cutting.{laid, printed_cut, laid_kinds}
use Rattle.roopl_printer.proofs.laws.cuts_again.Goals as goal

pub returns : goal.returns
returns c program printable = record {
  tokens = laid 0 (spelled program);
  cutting = printed_cut program (recursion_from_All (λ token. IsPrintable token.kind) (spelled program) printable);
  same_kinds = laid_kinds 0 (spelled program);
}
