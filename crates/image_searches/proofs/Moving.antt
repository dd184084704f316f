-- Some moves.
use Rattle.std.proofs.Common.{◌≡◌, ◌∙◌, ap, ℕ, suc, ◌+◌, ◌<◌}
use Rattle.std.proofs.Common.{arith}
use Rattle.live_requests.specs.pisa_scripts.declared.command.Command.{Command}
use Rattle.live_requests.specs.pisa_machine.Position.{Position}
use Rattle.image_searches.specs.Steps.{led_to, led_by, ImageMovesSome}

one_more : (i : ℕ) → suc i ≡ i + 1
one_more i = omega arith

-- one more move
pub led_on : (way : Command) (i : ℕ) (start before after : Position) → before ≡ led_by way i start
    → after ≡ led_to way before → after ≡ led_by way (i + 1) start
led_on way i start before after so_far leads =
    leads ∙ ap (led_to way) so_far ∙ ap (λ (k : ℕ). led_by way k start) (one_more i)

pub moved_on : (way : Command) (most i : ℕ) (start before after : Position) → i < most
    → before ≡ led_by way i start → after ≡ led_to way before → ImageMovesSome way most start after
moved_on way most i start before after less so_far leads = record {
  moves = i + 1;
  within = omega arith;
  position = led_on way i start before after so_far leads;
}
