-- What a command prints, with the last line of its reply.
use Rattle.std.proofs.Common.{◌≡◌, ◌∙◌, sym, ap, subst, ℕ, List, [], ◌∷◌, ◌++◌, Some, None, Ok, Err, append-nil}
use Rattle.std.specs.Prelude.{Option, Result, IfOk}
use Rattle.live_searches.specs.rpp_tree.Views.{source_of}
use Rattle.live_searches.specs.roopl_semantics.Report.{Text}
use Rattle.live_talks.specs.pisa_scripts.declared.command.Command.{Command}
use Rattle.live_searches.specs.source_debugger.Shown.{Told, told_by, and_told}
use Rattle.live_searches.specs.source_debugger.Standing.{Standing, trail_of, CommandsLead}
use Rattle.live_talks.specs.live_requests.declared.request.Request.TheVariants.{Carry}
use Rattle.live_talks.specs.live_requests.declared.asks.Ask.{Ask}
use Rattle.live_talks.specs.live_requests.Asks.{arguments}
use Rattle.live_talks.specs.live_requests.Limited.{limited, limited_ask}
use Rattle.live_searches.specs.declared.moves.Outcome.{Outcome}
use Rattle.live_searches.specs.Makings.{made}
use Rattle.live_searches.specs.Steps.{IsSameRun}
use Rattle.live_talks.specs.Ends.{end_line}
use Rattle.live_session.specs.Ends.{end_carried, end_asked}
use Rattle.live_session.specs.Replies.{with_end, with_end_moved}
use Rattle.live_session.specs.Serving.{AnswersRequest, Moves}

-- a single command
one_told : (o : Option Told) (t : Told) → and_told o (λ (k : ℕ). Some (record { position = k; text = [] })) ≡ Some t
    → o ≡ Some t
one_told None t e = cc
one_told (Some s) t e =
    ap (λ (x : Text). Some (record { position = s.position; text = x })) (sym (append-nil s.text)) ∙ e

carried : (before after : Standing) (limit : Option ℕ) (command : Command) (text reply : List ℕ)
    → CommandsLead before (limited limit command ∷ []) after text
    → reply ≡ text ++ end_line (end_carried limit command before.position after.position text)
    → AnswersRequest before limit (Carry command) after reply
carried before after limit command text reply leads is =
    let t : Told = record { position = after.position; text = text } in
    let is_told : told_by (source_of before.program) (trail_of before) (limited limit command) before.position ≡ Some t =
    one_told (told_by (source_of before.program) (trail_of before) (limited limit command) before.position) t
    leads.told in
    record {
      replied = ap (with_end limit (Carry command) before.position) is_told
          ∙ ap (λ (x : List ℕ). Some (record { position = after.position; text = x })) (sym is);
      same = leads.same;
    }

-- the same of what a function returned, if it is a text
pub carried_ok : {X E : Type 0} (view : X → List ℕ) (result : Result X E) (before after : Standing)
    (limit : Option ℕ) (command allowed : Command) (from to : ℕ) (text shown : List ℕ)
    → CommandsLead before (allowed ∷ []) after text → allowed ≡ limited limit command
    → from ≡ before.position → to ≡ after.position → shown ≡ text
    → IfOk result (λ reply. view reply ≡ shown ++ end_line (end_carried limit command from to shown))
    → IfOk result (λ reply. AnswersRequest before limit (Carry command) after (view reply))
carried_ok view (Ok reply) before after limit command allowed from to text shown leads is from_is to_is text_is h =
    carried before after limit command text (view reply)
    (subst (λ (c : Command). CommandsLead before (c ∷ []) after text) is leads)
    (h ∙ ap (λ (t : List ℕ). t ++ end_line (end_carried limit command from to t)) text_is
    ∙ ap (λ (j : ℕ). text ++ end_line (end_carried limit command j to text)) from_is
    ∙ ap (λ (j : ℕ). text ++ end_line (end_carried limit command before.position j text)) to_is)
carried_ok view (Err e) before after limit command allowed from to text shown leads is from_is to_is text_is h = tt

-- ---- moves that words ask for

moved : (before after : Standing) (limit : Option ℕ) (ask allowed : Ask) (words args : List (List ℕ))
    (text reply : List ℕ) (how : Outcome) → allowed ≡ limited_ask limit ask → args ≡ arguments ask.back words
    → made (source_of before.program) (trail_of before) allowed args before.position
    ≡ Some (record { position = after.position; text = text; how = how })
    → IsSameRun before after → reply ≡ text ++ end_line (end_asked limit ask how text)
    → Moves before limit ask words after reply
moved before after limit ask allowed words args text reply how is args_is made_is same ends = record {
  replied = ap (λ (a : List (List ℕ)). with_end_moved limit ask (made (source_of before.program) (trail_of before)
      (limited_ask limit ask) a before.position)) (sym args_is)
      ∙ ap (λ (a : Ask). with_end_moved limit ask (made (source_of before.program) (trail_of before) a args
      before.position)) (sym is)
      ∙ ap (with_end_moved limit ask) made_is
      ∙ ap (λ (x : List ℕ). Some (record { position = after.position; text = x })) (sym ends);
  same = same;
}

pub moved_ok : {X E : Type 0} (view : X → List ℕ) (result : Result X E) (before after : Standing)
    (limit : Option ℕ) (ask allowed : Ask) (words args : List (List ℕ)) (text : List ℕ) (how : Outcome)
    → allowed ≡ limited_ask limit ask → args ≡ arguments ask.back words
    → made (source_of before.program) (trail_of before) allowed args before.position
    ≡ Some (record { position = after.position; text = text; how = how })
    → IsSameRun before after
    → IfOk result (λ reply. view reply ≡ text ++ end_line (end_asked limit ask how text))
    → IfOk result (λ reply. Moves before limit ask words after (view reply))
moved_ok view (Ok reply) before after limit ask allowed words args text how is args_is made_is same h =
    moved before after limit ask allowed words args text (view reply) how is args_is made_is same h
moved_ok view (Err e) before after limit ask allowed words args text how is args_is made_is same h = tt
