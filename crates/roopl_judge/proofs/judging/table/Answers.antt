use Rattle.std.proofs.Common.{sym, subst}
use Rattle.token_limits.specs.rpp_tree.Views.{source_of}
use Rattle.roopl_judge.specs.Errors.{IfRefused}
use Rattle.roopl_judge.proofs.AsRefusals.{IsRefusal, by_class_table}
use Rattle.roopl_judge.proofs.judging.table.Goals as goal

pub returns-in-Err-clause-refused : goal.returns-in-Err-clause-refused
returns-in-Err-clause-refused c =
    subst (IfRefused (IsRefusal c.args.text.now)) (sym c.of_class_table.ensures)
    (by_class_table c.args.text.now (source_of c.args.program.now) c.in-Err.error c.requires.tree
    c.in-Err.ensures.refused)
