use Rattle.std.proofs.Common.{length, subst, zero-add}
use Rattle.std.specs.Prelude.{None}
use Rattle.roopl_lexer.specs.Readable.{AreInOrder}
use Rattle.roopl_lexer.proofs.Order.{in_order, all_within, readable}
use Rattle.std.proofs.lemmas.Result.{err_from_is_err_and}
use Rattle.roopl_lexer.proofs.Cuts.{slice_from, slice_within, slice_some, blank_within, up_to_blank, up_to_token}
use Rattle.roopl_lexer.proofs.Cuts.{up_to_end, up_to_refusal}
use Rattle.roopl_lexer.proofs.lexer.lex.Goals as goal

pub loop-at-preserved-then-blank-gt0 : goal.loop-at-preserved-then-blank-gt0
loop-at-preserved-then-blank-gt0 c = record {
  in_range = slice_within c.loop-at.at c.blank_len-blank.result c.args.text.now c.loop-at-test.true
      (blank_within (slice_from c.loop-at.at c.args.text.now) c.blank_len-blank.result c.blank_len-blank.ensures
      (slice_some c.loop-at.at c.args.text.now c.loop-at-test.true));
  so_far = up_to_blank c.args.text.now c.loop-at.tokens.items c.loop-at.at c.loop-at.invariant.so_far
      c.blank_len-blank.result c.blank_len-blank.ensures c.if-blank-gt0.true;
}

pub loop-at-preserved : goal.loop-at-preserved
loop-at-preserved c = record {
  in_range = slice_within c.loop-at.at c.in_ok-token.token.len c.args.text.now c.loop-at-test.true
      c.in_ok-token.ensures.is_longest.within;
  so_far = rw c.in_ok-push.ensures.items (up_to_token c.args.text.now c.loop-at.tokens.items c.loop-at.at
      c.loop-at.invariant.so_far c.blank_len-blank.result c.in_ok-token.token c.blank_len-blank.ensures
      c.if-blank-gt0.false c.in_ok-token.ensures);
}

pub returns-in_err-token-clause-refusal : goal.returns-in_err-token-clause-refusal
returns-in_err-token-clause-refusal c =
    let p = err_from_is_err_and c.from_residual.result c.from_residual.ensures.1 in
    rw (p.1, p.2) (up_to_refusal c.args.text.now c.loop-at.tokens.items c.loop-at.at c.loop-at.invariant.so_far
    c.blank_len-blank.result c.in_err-token.field-0.0 c.loop-at-test.true c.blank_len-blank.ensures
    c.if-blank-gt0.false c.in_err-token.ensures)

pub returns-clause-tokens : goal.returns-clause-tokens
returns-clause-tokens c = up_to_end c.args.text.now c.loop-at.tokens.items c.loop-at.at c.loop-at.invariant.so_far
    c.loop-at-test.false

pub returns-clause-order : goal.returns-clause-order
returns-clause-order c =
    subst (λ end. AreInOrder 0 c.loop-at.tokens.items end) (zero-add (length c.args.text.now))
    (in_order 0 c.args.text.now c.loop-at.tokens.items None (returns-clause-tokens c))

pub returns-clause-within : goal.returns-clause-within
returns-clause-within c = all_within c.args.text.now c.loop-at.tokens.items None (returns-clause-tokens c)

pub returns-clause-readable : goal.returns-clause-readable
returns-clause-readable c = readable c.args.text.now c.loop-at.tokens.items None c.requires (returns-clause-tokens c)
