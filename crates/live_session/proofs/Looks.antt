-- The texts of replies that look at one position.
use Rattle.std.proofs.Common.{◌≡◌, ◌∙◌, refl, sym, ap, subst, ℕ, List, Some}
use Rattle.std.specs.Prelude.{Option}
use Rattle.live_searches.specs.rpp_tree.Tree.{Source}
use Rattle.live_searches.specs.rpp_tree.Views.{source_of}
use Rattle.live_searches.specs.source_debugger.Standing.{Standing}
use Rattle.live_searches.specs.source_debugger.Stacks.{TellsCall}
use Rattle.live_searches.specs.source_debugger.declared.failing.Detail.{Detail}
use Rattle.live_searches.specs.source_debugger.declared.failing.Detail.TheVariants as details
use Rattle.live_searches.specs.source_debugger.Failures.{Account, account_of, shown_of, fails_at}
use Rattle.live_session.specs.Replies.{look_reply, value_reply, or_none, replied, RepliesCall}
use Rattle.live_session.specs.Serving.{AnswersRequest, request_for}

-- what is asked of the step that fails, if one does
failure_is : (program : Source) (account : Account) (limit : Option ℕ) (detail : Detail) (j : ℕ)
    → replied program account limit (request_for detail) j
    ≡ look_reply j (fails_at account (shown_of program detail) j)
failure_is program account limit details.Test j = refl
failure_is program account limit (details.Cells from count) j = refl

pub failure_told : (before after : Standing) (limit : Option ℕ) (detail : Detail) (o : Option (List ℕ))
    (reply : List ℕ) → after ≡ before
    → o ≡ fails_at (account_of before) (shown_of (source_of before.program) detail) before.position
    → reply ≡ or_none o → AnswersRequest before limit (request_for detail) after reply
failure_told before after limit detail o reply stays is shown =
    subst (λ (d : Standing). AnswersRequest before limit (request_for detail) d reply) (sym stays)
    (record {
      replied = failure_is (source_of before.program) (account_of before) limit detail before.position
          ∙ sym (ap (look_reply before.position) is)
          ∙ ap (λ (t : List ℕ). Some (record { position = before.position; text = t })) (sym shown);
      same = refl;
    })

pub call_told : (before after : Standing) (depth : ℕ) (text : Option (List ℕ)) (reply : List ℕ)
    → TellsCall (source_of before.program) before.limits before.input before.position depth text → after ≡ before
    → reply ≡ or_none text
    → RepliesCall (source_of before.program) (account_of before) depth before.position reply after.position
call_told before after depth text reply tells stays ends = record {
  text = text;
  tells = tells;
  ends = ends;
  stays = ap (λ (d : Standing). d.position) stays;
}

-- the line on a value, at a position
pub value_told : (before after : Standing) (value : Option (Option (List ℕ))) (line : Option (List ℕ))
    (reply : List ℕ) → after ≡ before → value ≡ Some line → reply ≡ or_none line
    → value_reply before.position value ≡ Some (record { position = after.position; text = reply })
value_told before after value line reply stays is shown =
    ap (value_reply before.position) is
    ∙ ap (λ (t : List ℕ). Some (record { position = before.position; text = t })) (sym shown)
    ∙ ap (λ (d : Standing). Some (record { position = d.position; text = reply })) (sym stays)
