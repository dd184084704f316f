-- Moves that are asked for.
use Rattle.std.proofs.Common.{◌≡◌, ◌∙◌, sym, ap, subst, ℕ, List, Result}
use Rattle.std.specs.Prelude.{IfOk, string_bytes}
use Rattle.live_requests.specs.pisa_scripts.declared.command.Command.{Command}
use Rattle.live_requests.specs.pisa_machine.Position.{Position}
use Rattle.live_requests.specs.declared.asks.Ask.{Ask}
use Rattle.live_requests.specs.declared.asks.Goal.{Goal}
use Rattle.live_requests.specs.declared.asks.Goal.TheVariants.{Points}
use Rattle.image_searches.specs.declared.moves.Moved.{Moved}
use Rattle.image_searches.specs.Goals.{sought, is_wanted}
use Rattle.image_searches.specs.Searches.{ImageFound, image_points, image_seek}
use Rattle.image_searches.specs.Makings.{image_made_by, image_made}
use Rattle.image_searches.proofs.Listing.{found_at}
use Rattle.live_requests.specs.Asks.{way_of}

pub made_points : (ask : Ask) (arguments : List (List ℕ)) (from to : Position) (way : Command) {E : Type 0}
    (result : Result Moved E) → ask.goal ≡ Points → way ≡ way_of ask.back
    → IfOk result (λ (it : Moved). image_points way ask.most from ≡ found_at to (string_bytes it.text) it.how)
    → IfOk result (λ (it : Moved). image_made ask arguments from ≡ found_at to (string_bytes it.text) it.how)
unfolding image_made
made_points ask arguments from to way result goal_is way_is h =
    subst (λ (f : ImageFound). IfOk result (λ (it : Moved). f ≡ found_at to (string_bytes it.text) it.how))
    (ap (λ (w : Command). image_points w ask.most from) way_is
    ∙ sym (ap (λ (g : Goal). image_made_by g (way_of ask.back) arguments ask.most from) goal_is)) h

pub made_seek : (ask : Ask) (arguments : List (List ℕ)) (from to : Position) (g : Goal) {E : Type 0}
    (result : Result Moved E) → ask.goal ≡ g
    → image_made_by g (way_of ask.back) arguments ask.most from
    ≡ image_seek (way_of ask.back) (is_wanted (sought g arguments from)) ask.most from
    → IfOk result (λ (it : Moved). image_seek (way_of ask.back) (is_wanted (sought ask.goal arguments from)) ask.most from
    ≡ found_at to (string_bytes it.text) it.how)
    → IfOk result (λ (it : Moved). image_made ask arguments from ≡ found_at to (string_bytes it.text) it.how)
unfolding image_made
made_seek ask arguments from to g result goal_is is h =
    subst (λ (f : ImageFound). IfOk result (λ (it : Moved). f ≡ found_at to (string_bytes it.text) it.how))
    (ap (λ (g : Goal). image_seek (way_of ask.back) (is_wanted (sought g arguments from)) ask.most from) goal_is
    ∙ sym is
    ∙ sym (ap (λ (g : Goal). image_made_by g (way_of ask.back) arguments ask.most from) goal_is)) h
