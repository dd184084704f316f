-- How a run that made no step ends, and when two positions are one.
use Rattle.std.proofs.Common.{◌≡◌, ◌∙◌, ℕ, ap}
use Rattle.pisa_scripts.specs.pisa_isa.Machine.{State}
use Rattle.pisa_scripts.specs.pisa_isa.Image.{Segments}
use Rattle.pisa_machine.specs.Position.{Position}

abbrev position_of : Segments → State → ℕ → Position
position_of image state made = record { image = image; state = state; made = made }

pub same_position : (p q : Position) → p.image ≡ q.image → p.state ≡ q.state → p.made ≡ q.made → p ≡ q
same_position p q images states numbers =
    ap (λ (i : Segments). position_of i p.state p.made) images
    ∙ ap (λ (m : State). position_of q.image m p.made) states
    ∙ ap (λ (n : ℕ). position_of q.image q.state n) numbers
