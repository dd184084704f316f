use Rattle.std.proofs.Common.{◌≡◌, ◌≤◌, drop}
use Rattle.pisa_scripts.specs.Lines.{digits_after, at_most}
use Rattle.pisa_scripts.proofs.numbers.number_up_to.Given as goal

-- the digits that are left decide
abbrev pub invariant-loop-digit : goal.invariant-loop-digit
invariant-loop-digit l = record {
  small : l.number ≤ l.most;
  rest : at_most l.most (digits_after l.number (drop l.digit-index l.word)) ≡ at_most l.most (digits_after 0 l.word);
}
