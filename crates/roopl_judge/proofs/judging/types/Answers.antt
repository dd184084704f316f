use Rattle.std.proofs.Common.{sym, subst, Ok}
use Rattle.token_limits.specs.rpp_tree.declared.tree.Program.{Program}
use Rattle.token_limits.specs.rpp_tree.Views.{source_of}
use Rattle.reversible_types.specs.Verdicts.{refusal_of}
use Rattle.roopl_judge.specs.Errors.{IfRefused}
use Rattle.roopl_judge.specs.Judged.{IsJudged, accepted}
use Rattle.roopl_judge.proofs.AsRefusals.{IsRefusal, by_types}
use Rattle.roopl_judge.proofs.judging.types.Goals as goal

pub returns-in-Ok-clause-accepted : goal.returns-in-Ok-clause-accepted
returns-in-Ok-clause-accepted c =
    subst (λ (p : Program). IsJudged c.args._text.now (Ok (source_of p))) (sym c.in-Ok.ensures.checked)
    (accepted c.requires.tree.tokens (source_of c.args.program) c.requires.tree.tree c.requires.classes
    c.in-Ok.ensures.accepted.types)

pub returns-in-Err-clause-refused : goal.returns-in-Err-clause-refused
returns-in-Err-clause-refused c =
    subst (IfRefused (IsRefusal c.args._text.now)) (sym c.of_types.ensures)
    (by_types c.args._text.now (source_of c.args.program) (refusal_of c.in-Err.error) c.requires.tree c.requires.classes
    c.in-Err.ensures.refused)
