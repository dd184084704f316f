-- Moves that are asked for, and a return to a position.
use Rattle.std.proofs.Common.{◌≡◌, ◌∙◌, sym, ap, subst, ℕ, List, Result}
use Rattle.std.specs.Prelude.{Option, IfOk, string_bytes}
use Rattle.source_debugger.specs.meaning_points.rpp_tree.Tree.{Source}
use Rattle.source_debugger.specs.meaning_points.Trail.{Trail}
use Rattle.live_requests.specs.pisa_scripts.declared.command.Command.{Command}
use Rattle.source_debugger.specs.Standing.{Standing}
use Rattle.live_requests.specs.declared.asks.Ask.{Ask}
use Rattle.live_requests.specs.declared.asks.Goal.{Goal}
use Rattle.live_requests.specs.declared.asks.Goal.TheVariants.{Points}
use Rattle.live_searches.specs.declared.moves.Moved.{Moved}
use Rattle.live_searches.specs.Steps.{IsSameRun}
use Rattle.live_searches.specs.Goals.{search_mark_at, wanted}
use Rattle.live_searches.specs.Searches.{Found, points, seek}
use Rattle.live_searches.specs.Makings.{made_by, made}
use Rattle.live_searches.proofs.Single.{same_run}
use Rattle.live_searches.proofs.Listing.{found_at}
use Rattle.live_requests.specs.Asks.{way_of}

-- a debugger of the same run at the same position is the same
pub returned : (before between after : Standing) (position : ℕ) → IsSameRun before between → IsSameRun between after
    → after.position ≡ position → position ≡ before.position → after ≡ before
returned before between after position one two there position_is =
    same_run before between after one two
    ∙ ap (λ (j : ℕ). record before { position = j }) (there ∙ position_is)

pub made_points : (program : Source) (trail : Trail) (ask : Ask) (arguments : List (List ℕ)) (j k : ℕ) (way : Command)
    {E : Type 0} (result : Result Moved E) → ask.goal ≡ Points → way ≡ way_of ask.back
    → IfOk result (λ (it : Moved). points program trail way ask.most j ≡ found_at k (string_bytes it.text) it.how)
    → IfOk result (λ (it : Moved). made program trail ask arguments j ≡ found_at k (string_bytes it.text) it.how)
unfolding made
made_points program trail ask arguments j k way result goal_is way_is h =
    subst (λ (o : Option Found). IfOk result (λ (it : Moved). o ≡ found_at k (string_bytes it.text) it.how))
    (ap (λ (w : Command). points program trail w ask.most j) way_is
    ∙ sym (ap (λ (g : Goal). made_by program trail g (way_of ask.back) arguments ask.most j) goal_is)) h

pub made_seek : (program : Source) (trail : Trail) (ask : Ask) (arguments : List (List ℕ)) (j k : ℕ) (g : Goal)
    {E : Type 0} (result : Result Moved E) → ask.goal ≡ g
    → made_by program trail g (way_of ask.back) arguments ask.most j
    ≡ seek program trail (way_of ask.back) (wanted program trail g arguments (search_mark_at program trail arguments j))
    ask.most j
    → IfOk result (λ (it : Moved). seek program trail (way_of ask.back)
    (wanted program trail ask.goal arguments (search_mark_at program trail arguments j)) ask.most j
    ≡ found_at k (string_bytes it.text) it.how)
    → IfOk result (λ (it : Moved). made program trail ask arguments j ≡ found_at k (string_bytes it.text) it.how)
unfolding made
made_seek program trail ask arguments j k g result goal_is is h =
    subst (λ (o : Option Found). IfOk result (λ (it : Moved). o ≡ found_at k (string_bytes it.text) it.how))
    (ap (λ (g : Goal). seek program trail (way_of ask.back)
    (wanted program trail g arguments (search_mark_at program trail arguments j)) ask.most j) goal_is
    ∙ sym is
    ∙ sym (ap (λ (g : Goal). made_by program trail g (way_of ask.back) arguments ask.most j) goal_is)) h
