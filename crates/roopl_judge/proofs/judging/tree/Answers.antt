use Rattle.std.proofs.Common.{◌∙◌, ap, sym, subst, Err}
use Rattle.token_limits.specs.rpp_tree.Views.{source_of}
use Rattle.token_limits.proofs.roopl_parser_laws.Parts.{small_tokens}
use Rattle.token_limits.specs.roopl_parser.Viable.{first_limit as limit_read}
use Rattle.token_limits.specs.Limits.{count_first_limit}
use Rattle.token_limits.proofs.Limited.{derived_limit, none_for}
use Rattle.roopl_judge.specs.Errors.{IfRefused}
use Rattle.roopl_judge.proofs.AsRefusals.{IsRefusal, by_parser}
use Rattle.roopl_judge.proofs.judging.tree.Goals as goal

pub returns-in-Err-clause-refused : goal.returns-in-Err-clause-refused
returns-in-Err-clause-refused c =
    subst (IfRefused (IsRefusal c.args.text.now)) (sym c.of_parser.ensures)
    (by_parser c.args.text.now c.args.tokens.now c.in-Err.error c.requires.cutting
    (λ at e. c.parse.ensures.syntax at (c.in-Err.is ∙ ap (λ x. Err x) e))
    (λ which at e. (c.parse.ensures.limit which at (c.in-Err.is ∙ ap (λ x. Err x) e)).0))

pub returns-in-Ok-clause-tree : goal.returns-in-Ok-clause-tree
returns-in-Ok-clause-tree c = record {
  tokens = c.args.tokens.now;
  tree = record {
    cutting = c.requires.cutting;
    derives = c.in-Ok.ensures.tree.0;
    no_limit = none_for (limit_read c.args.tokens.now) (count_first_limit c.args.tokens.now c.args.tokens.now)
        (derived_limit c.args.tokens.now (source_of c.in-Ok.program) c.in-Ok.ensures.tree.0) c.in-Ok.ensures.tree.1;
  };
  within = c.in-Ok.ensures.limits (small_tokens c.args.text.now c.args.tokens.now c.requires.cutting);
}
