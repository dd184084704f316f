-- Images: their code, their static cells, and when they are refused.
use Rattle.std.specs.Prelude.{◌≡◌, ◌≤◌, ℕ, Bool, true, false, not, nat_eq, if◌then◌else◌, List}
use Rattle.std.specs.Prelude.{length, Option, Some, None, position, count_by}
use Rattle.std.specs.List.{position_or_len}
use Rattle.pisa_isa.specs.declared.cell.Op.{Op}
use Rattle.pisa_isa.specs.declared.cell.Op.TheVariants.{Start, Finish}
use Rattle.pisa_isa.specs.declared.cell.Cell.{Cell}
use Rattle.pisa_isa.specs.declared.image.TheConstants.{MOST_STATICS}
use Rattle.pisa_isa.specs.declared.image.SealError.{SealError}
use Rattle.pisa_isa.specs.declared.image.SealError.TheVariants.{NotOneToOne, NoStart, NoFinish}
use Rattle.pisa_isa.specs.Table.{is_one_to_one}
use Rattle.pisa_isa.specs.Machine.{IsCode}

-- what contracts see of an image
pub record Segments : Type 0 where
  pub code : List Cell
  pub statics : List ℕ

abbrev pub is_start_op : Op → Bool
is_start_op Start = true
is_start_op _ = false

abbrev pub is_finish_op : Op → Bool
is_finish_op Finish = true
is_finish_op _ = false

abbrev pub is_start : Cell → Bool
is_start c = is_start_op c.op

abbrev pub is_finish : Cell → Bool
is_finish c = is_finish_op c.op

-- the place of the first START cell
abbrev pub start_of : List Cell → ℕ
start_of code = position_or_len is_start code

-- what every image keeps
pub record IsImage (image : Segments) : Type 0 where
  pub is_code : IsCode image.code
  pub one_start : count_by is_start image.code ≡ 1
  pub one_finish : count_by is_finish image.code ≡ 1
  pub statics_in_limit : length image.statics ≤ MOST_STATICS

-- the first refusal: a cell that is not one-to-one, else not one START cell, else not one FINISH
-- cell
abbrev pub refusal_by : Option ℕ → (starts finishes : ℕ) → Option SealError
refusal_by (Some at) starts finishes = Some (NotOneToOne at)
refusal_by None starts finishes = if nat_eq starts 1
    then (if nat_eq finishes 1 then None else Some NoFinish) else Some NoStart

abbrev pub first_seal_refusal : List Cell → Option SealError
first_seal_refusal code = refusal_by (position (λ c. not (is_one_to_one c)) code)
    (count_by is_start code) (count_by is_finish code)
