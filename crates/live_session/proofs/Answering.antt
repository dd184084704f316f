-- What is put of the reply to a request.
use Rattle.std.proofs.Common.{◌≡◌, refl, sym, ap, subst, ℕ, List, false, Some, None, Ok, Err, inl, inr}
use Rattle.std.specs.Prelude.{Option, Result, IfOk, ⊤}
use Rattle.live_searches.specs.rpp_tree.Views.{source_of}
use Rattle.live_searches.specs.source_debugger.Standing.{Standing}
use Rattle.live_searches.specs.source_debugger.declared.failing.Detail.{Detail}
use Rattle.live_searches.specs.source_debugger.Failures.{account_of}
use Rattle.live_talks.specs.live_requests.declared.asks.Ask.{Ask}
use Rattle.live_talks.specs.live_requests.declared.request.Request.{Request}
use Rattle.live_talks.specs.live_requests.Requests.{is_quit}
use Rattle.live_searches.specs.Steps.{IsSameRun}
use Rattle.live_talks.specs.declared.ends.End.TheVariants as end
use Rattle.live_talks.specs.Ends.{end_line}
use Rattle.live_talks.specs.Talks.{TalkPrinted, PutsText}
use Rattle.live_talks.specs.Serving.{Reply, OrMemory, PutsBy}
use Rattle.live_talks.proofs.Putting.{by_text}
use Rattle.live_session.specs.Replies.{asked_moves, IsReplyOf}
use Rattle.live_session.specs.Serving.{AnswersRequest, request_for, RepliesTo, RepliesMoves, made_or_memory}

pub same_run : (before after : Standing) → after ≡ before → IsSameRun before after
same_run before after stays = subst (λ (d : Standing). IsSameRun before d) (sym stays) refl

pub same_runs : (start before after : Standing) → IsSameRun start before → IsSameRun before after
    → IsSameRun start after
same_runs start before after one two =
    subst (λ (d : Standing). after ≡ record d { position = after.position }) one two

-- what is put of the reply to a line by the request that it is read as
abbrev pub PutsByLine : (before : Standing) → (limit : Option ℕ) → Request → (line : List ℕ) → (after : Standing)
    → (old new : TalkPrinted) → Option ℕ → Type 0
PutsByLine before limit request line after old new result =
    PutsBy (OrMemory (IsReplyOf (source_of before.program) (account_of before) limit request line before.position)
    before.position) (is_quit request) ⊤ before.position after.position old new result

pub by_request : (before : Standing) (limit : Option ℕ) (request it : Request) (line : List ℕ) (after : Standing)
    (old new : TalkPrinted) (result : Option ℕ) → request ≡ it → PutsByLine before limit it line after old new result
    → PutsByLine before limit request line after old new result
by_request before limit request it line after old new result is puts =
    subst (λ (r : Request). PutsByLine before limit r line after old new result) (sym is) puts

-- what was made is put, or that there was no memory for it
pub made_puts : {X E : Type 0} (view : X → List ℕ) (made : Result X E) (R : Reply ℕ) (before after : Standing)
    (old new : TalkPrinted) (result : Option ℕ) → IfOk made (λ x. R (view x) after.position) → after ≡ before
    → PutsText (made_or_memory view made) old new result
    → PutsBy (OrMemory R before.position) false ⊤ before.position after.position old new result
made_puts view (Ok x) R before after old new result replies stays puts =
    by_text (OrMemory R before.position) false ⊤ before.position after.position old new result (view x) puts
    (inl replies) refl
made_puts view (Err e) R before after old new result replies stays puts =
    by_text (OrMemory R before.position) false ⊤ before.position after.position old new result (end_line end.Memory)
    puts (inr (refl, ap (λ (d : Standing). d.position) stays)) refl

-- the same of what fails
pub failure_ok : {X E : Type 0} (view : X → List ℕ) (made : Result X E) (before : Standing) (limit : Option ℕ)
    (detail : Detail) (after : Standing)
    → IfOk made (λ x. AnswersRequest before limit (request_for detail) after (view x))
    → IfOk made (λ x. RepliesTo (source_of before.program) (account_of before) limit (request_for detail)
    before.position (view x) after.position)
failure_ok view (Ok x) before limit detail after answers = answers.replied
failure_ok view (Err e) before limit detail after answers = tt

-- ---- moves that words ask for

abbrev pub PutsMoves : (before : Standing) → (limit : Option ℕ) → Option Ask → (words : List (List ℕ))
    → (after : Standing) → (old new : TalkPrinted) → Option ℕ → Type 0
PutsMoves before limit ask words after old new result =
    PutsBy (OrMemory (RepliesMoves (source_of before.program) (account_of before) limit ask words before.position)
    before.position) false ⊤ before.position after.position old new result

pub no_moves : (d : Standing) (limit : Option ℕ) (ask : Option Ask) (words : List (List ℕ)) (old new : TalkPrinted)
    (result : Option ℕ) → ask ≡ None → PutsText (end_line end.Bad) old new result
    → PutsMoves d limit ask words d old new result
no_moves d limit ask words old new result is puts =
    subst (λ (a : Option Ask). PutsMoves d limit a words d old new result) (sym is)
    (by_text (OrMemory (RepliesMoves (source_of d.program) (account_of d) limit None words d.position) d.position)
    false ⊤ d.position d.position old new result (end_line end.Bad) puts (inl refl) refl)

pub some_moves : (before : Standing) (limit : Option ℕ) (ask : Option Ask) (it : Ask) (words : List (List ℕ))
    (after : Standing) (old new : TalkPrinted) (result : Option ℕ) → ask ≡ Some it
    → PutsMoves before limit (Some it) words after old new result
    → PutsMoves before limit ask words after old new result
some_moves before limit ask it words after old new result is puts =
    subst (λ (a : Option Ask). PutsMoves before limit a words after old new result) (sym is) puts

-- a line by its words
pub words_said : (before : Standing) (limit : Option ℕ) (words line_words : List (List ℕ)) (after : Standing)
    (old new : TalkPrinted) (result : Option ℕ) → words ≡ line_words
    → PutsMoves before limit (asked_moves words) words after old new result
    → PutsMoves before limit (asked_moves line_words) line_words after old new result
words_said before limit words line_words after old new result is puts =
    subst (λ (w : List (List ℕ)). PutsMoves before limit (asked_moves w) w after old new result) is puts
