-- The result of the seal for code whose cells an image may hold.
use Rattle.std.proofs.Common.{◌≡◌, ap, ℕ, Bool, true, false, cond, List, Option}
use Rattle.std.proofs.Common.{Some, None}
use Rattle.std.specs.Prelude.{count_by, nat_eq}
use Rattle.std.specs.List.{All}
use Rattle.pisa_isa.specs.declared.cell.Cell.{Cell}
use Rattle.pisa_isa.specs.declared.image.SealError.{SealError}
use Rattle.pisa_isa.specs.declared.image.SealError.TheVariants.{NotOneToOne, NoStart, NoFinish, NoMemory}
use Rattle.pisa_isa.specs.Table.{IsInRange, IsCell}
use Rattle.pisa_isa.specs.Image.{is_start, is_finish, refusal_by, first_seal_refusal}
use Rattle.pisa_isa.proofs.Sealed.{every_one_to_one}

pub in_range : (code : List Cell) → All IsCell code → All IsInRange code
in_range code cells = λ k d h. (cells k d h).in_range

-- whether there is one START, and whether there is one FINISH, decide
abbrev refusal_of : Bool → Bool → Option SealError
refusal_of start finish = cond start (cond finish None (Some NoFinish)) (Some NoStart)

pub tests_of : (code : List Cell) → All IsCell code
    → first_seal_refusal code ≡ refusal_of (nat_eq (count_by is_start code) 1) (nat_eq (count_by is_finish code) 1)
tests_of code cells = ap (λ o. refusal_by o (count_by is_start code) (count_by is_finish code))
    (every_one_to_one code cells)

pub no_other : (s f : Bool) (at : ℕ) → refusal_of s f ≡ Some (NotOneToOne at) → ⊥
no_other true true at h = cc
no_other true false at h = cc
no_other false f at h = cc

pub never_memory : (s f : Bool) → refusal_of s f ≡ Some NoMemory → ⊥
never_memory true true h = cc
never_memory true false h = cc
never_memory false f h = cc
