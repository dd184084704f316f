use Rattle.std.proofs.Common.{sym, subst}
use Rattle.roopl_judge.specs.Errors.{IfRefused}
use Rattle.roopl_judge.proofs.AsRefusals.{IsRefusal, by_lexer}
use Rattle.roopl_judge.proofs.judging.cut.Goals as goal

pub returns-in-Err-clause-refused : goal.returns-in-Err-clause-refused
returns-in-Err-clause-refused c =
    subst (IfRefused (IsRefusal c.args.text.now)) (sym c.of_lexer.ensures)
    (by_lexer c.args.text.now c.in-Err.error c.in-Err.ensures.refusal)
