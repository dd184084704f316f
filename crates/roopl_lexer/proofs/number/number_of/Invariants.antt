use Rattle.std.proofs.Common.{◌≡◌, ◌≤◌, drop}
use Rattle.rpp_tree.specs.declared.limits.TheConstants.{MOST_NUMBER}
use Rattle.rpp_tree.specs.rpp_words.Texts.{decimal_from}
use Rattle.roopl_lexer.proofs.number.number_of.Given as goal

abbrev pub invariant-loop-digit : goal.invariant-loop-digit
invariant-loop-digit l = record {
  at_most : l.number ≤ MOST_NUMBER;
  so_far : decimal_from l.number (drop l.digit-index l.digits) ≡ decimal_from 0 l.fn.digits;
}
