-- What contracts see of a machine.
use Rattle.std.specs.Prelude.{ℕ, ◌+◌, List, Option, Some, None}
use Rattle.pisa_isa.specs.declared.machine.Stop.{Stop}
use Rattle.pisa_isa.specs.Machine.{State, next}
use Rattle.pisa_isa.specs.Image.{Segments, IsImage}
use Rattle.pisa_isa.specs.Runs.{started, IsReached}

-- its image, its state, and how many steps led to it that were no stops and were not undone
pub record Position : Type 0 where
  pub image : Segments
  pub state : State
  pub made : ℕ

-- the first position of a run of an image
abbrev pub first_position : Segments → (regs cells : List ℕ) → Position
first_position image regs cells =
    record { image = image; state = started image.code regs cells; made = 0 }

-- what every machine keeps: its steps led to its state, and each can be undone
pub record IsMachine (position : Position) : Type 0 where
  pub is_image : IsImage position.image
  pub reached : IsReached position.image.code position.made position.state

-- the position after a step, which may be a stop
abbrev pub stepped : Option Stop → Position → Position
stepped (Some why) p = p
stepped None p = record p { state = next p.image.code p.state; made = p.made + 1 }
