-- Searches of more moves.
use Rattle.std.proofs.Common.{◌≡◌, refl, ℕ, zero, suc, ◌+◌, add-zero, add-suc, Bool, true, false}
use Rattle.std.specs.Prelude.{if◌then◌else◌}
use Rattle.live_requests.specs.pisa_scripts.declared.command.Command.{Command}
use Rattle.live_requests.specs.pisa_machine.Position.{Position}
use Rattle.image_searches.specs.declared.moves.Outcome.TheVariants.{Met, Stopped}
use Rattle.image_searches.specs.Steps.{led_to, is_stuck}
use Rattle.image_searches.specs.Searches.{ImageFound, image_found, image_seek}
use Rattle.image_searches.specs.SearchLaws.{image_then_more}

by_tests : (way : Command) (p : Position) (few many next : Position → ImageFound) (a b : Bool)
    → ((q : Position) → many q ≡ image_then_more next (few q))
    → (if a then image_found way p Stopped else if b then image_found way p Met else many (led_to way p))
    ≡ image_then_more next (if a then image_found way p Stopped else if b then image_found way p Met else few
    (led_to way p))
by_tests way p few many next true b h = refl
by_tests way p few many next false true h = refl
by_tests way p few many next false false h = h (led_to way p)

pub searches_go_on : (way : Command) (wanted : Position → Bool) (m n : ℕ) (p : Position)
    → image_seek way wanted (m + n) p ≡ image_then_more (image_seek way wanted m) (image_seek way wanted n p)
searches_go_on way wanted m zero p = rw add-zero refl
searches_go_on way wanted m (suc n) p =
    rw add-suc (by_tests way p (image_seek way wanted n) (image_seek way wanted (m + n)) (image_seek way wanted m)
    (is_stuck way p)
    (wanted (led_to way p)) (searches_go_on way wanted m n))
