-- What is printed of a run of an image.
use Rattle.std.specs.Prelude.{ℕ, ◌-◌, ℤ, pos, int_le, int_lt, nat_lt, Bool, ◌&&◌, if◌then◌else◌}
use Rattle.std.specs.Prelude.{List, [], ◌∷◌, ◌++◌, None, Some, codes}
use Rattle.std.specs.declared.option.Option.{Option}
use Rattle.std.specs.Fmt.{decimal, signed_decimal}
use Rattle.command_plan.specs.rpp_words.Texts.{line_end}
use Rattle.image_inverter.specs.pisa_isa.declared.notes.Mark.{Mark}
use Rattle.image_inverter.specs.pisa_isa.declared.notes.FieldName.{FieldName}
use Rattle.image_inverter.specs.pisa_isa.Machine.{word_at}
use Rattle.image_inverter.specs.pisa_isa.Notes.{NoteLists}
use Rattle.image_inverter.specs.pisa_isa.Runs.{End}
use Rattle.command_plan.specs.pisa_scripts.Stops.{stop_line}
use Rattle.command_plan.specs.pisa_scripts.Words.{word_shown, direction, register_lines}
use Rattle.command_plan.specs.Texts.{steps_line}

-- a code address is one of the cells of a mark
abbrev pub holds_place : (pc : ℤ) → Mark → Bool
holds_place pc m = int_le (pos m.first) pc && int_lt pc (pos m.end)

abbrev pub width : Mark → ℕ
width m = m.end - m.first

-- the mark of fewer cells, the first of equal ones
abbrev pub narrower : Option Mark → Mark → Option Mark
narrower None m = Some m
narrower (Some best) m = if nat_lt (width m) (width best) then Some m else Some best

-- the same, if the mark holds the place
abbrev pub narrowed : (pc : ℤ) → Option Mark → Mark → Option Mark
narrowed pc best m = if holds_place pc m then narrower best m else best

-- the narrowest of one that was found and of the marks that hold a place
abbrev pub narrowest : (pc : ℤ) → Option Mark → List Mark → Option Mark
narrowest pc best [] = best
narrowest pc best (m ∷ marks) = narrowest pc (narrowed pc best m) marks

-- the statement of a mark
abbrev pub from_line : Option Mark → List ℕ
from_line None = []
from_line (Some m) = codes "from " ++ (decimal m.at ++ line_end)

-- a name with the word in its cell, 0 if the cell is after the memory
abbrev pub name_line : (cells : List ℕ) → FieldName → List ℕ
name_line cells n =
    n.text ++ (codes " = " ++ (word_shown (word_at cells n.cell) ++ line_end))

abbrev pub name_lines : (cells : List ℕ) → List FieldName → List ℕ
name_lines cells [] = []
name_lines cells (n ∷ names) = name_line cells n ++ name_lines cells names

-- the place, the branch register and the direction
abbrev pub place_lines : (pc : ℤ) (br : ℕ) (back : Bool) → List ℕ
place_lines pc br back =
    codes "pc " ++ (signed_decimal pc
    ++ (codes "\nbr " ++ (word_shown br ++ (codes "\ndir " ++ (direction back ++ line_end)))))

-- the stop reason, the steps, the code address, the statement, the registers that are not 0, and
-- the names' words
abbrev pub end_lines : NoteLists → End → List ℕ
end_lines notes end =
    ((((stop_line end.why ++ steps_line end.spent)
    ++ place_lines end.last.pc end.last.br end.last.back)
    ++ from_line (narrowest end.last.pc None notes.marks)) ++ register_lines 0 end.last.regs)
    ++ name_lines end.last.cells notes.names
