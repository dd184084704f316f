-- A fragment between another and its inverse, and how a storage slot is reached.
use Rattle.std.specs.Prelude.{ℕ, ◌+◌, List, ◌++◌}
use Rattle.paired_code.specs.code_conventions.declared.memory.TheConstants.{HEADER_WORDS}
use Rattle.paired_code.specs.code_conventions.declared.registers.TheConstants.{FRAME, OBJECT}
use Rattle.paired_code.specs.declared.part.Symbol.{Symbol}
use Rattle.paired_code.specs.Layout.{mirror_cells}
use Rattle.refine_form.specs.declared.spot.Spot.{Spot}
use Rattle.refine_form.specs.declared.spot.Spot.TheVariants.{Field, Frame}

-- a fragment run forward, another, and the first one back: so in both directions
abbrev pub around : List Symbol → List Symbol → List Symbol
around w mid = w ++ (mid ++ mirror_cells w)

-- the register from which a storage slot is reached
abbrev pub base_of : Spot → ℕ
base_of (Field i) = OBJECT
base_of (Frame i) = FRAME

-- how far a storage slot is from the address of its object or frame: the class and the reference
-- count are before the fields
abbrev pub offset_of : Spot → ℕ
offset_of (Field i) = HEADER_WORDS + i
offset_of (Frame i) = i
