-- What is printed: refusals of texts, images and inputs, and numbers of steps and cells.
use Rattle.std.specs.Prelude.{ℕ, List, [], ◌++◌, codes, length}
use Rattle.std.specs.Fmt.{decimal}
use Rattle.pisa_asm.specs.declared.error.AsmError.{AsmError}
use Rattle.pisa_loader.specs.pisa_image.declared.error.ImageError.{ImageError}
use Rattle.pisa_scripts.specs.rpp_words.Texts.{line_end}
use Rattle.pisa_scripts.specs.pisa_isa.declared.cell.Cell.{Cell}
use Rattle.pisa_loader.specs.declared.error.LoadError.{LoadError}
use Rattle.pisa_asm.specs.declared.error.AsmError.TheVariants as asm
use Rattle.pisa_loader.specs.pisa_image.declared.error.ImageError.TheVariants as image
use Rattle.pisa_loader.specs.declared.error.LoadError.TheVariants as load

-- refused N NAME at L, with the number of the line, or without a place
abbrev pub asm_line : AsmError → List ℕ
asm_line (asm.BadLine line) = codes "refused 24 BadLine at " ++ (decimal line ++ line_end)
asm_line (asm.UnknownMnemonic line) = codes "refused 25 UnknownMnemonic at "
    ++ (decimal line ++ line_end)
asm_line (asm.DuplicateLabel line) = codes "refused 26 DuplicateLabel at "
    ++ (decimal line ++ line_end)
asm_line (asm.UnknownLabel line) = codes "refused 27 UnknownLabel at " ++ (decimal line ++ line_end)
asm_line (asm.NotOneToOne line) = codes "refused 28 NotOneToOne at " ++ (decimal line ++ line_end)
asm_line asm.NoStart = codes "refused 29 NoStart" ++ line_end
asm_line asm.NoFinish = codes "refused 30 NoFinish" ++ line_end
asm_line (asm.TooManyCells line) = codes "refused 41 TooManyCells at " ++ (decimal line ++ line_end)
asm_line (asm.BadNote line) = codes "refused 43 BadNote at " ++ (decimal line ++ line_end)
asm_line asm.NoMemory = []

-- refused N NAME at P, with the place in bytes, or without a place
abbrev pub image_line : ImageError → List ℕ
image_line (image.NotOneToOne at) = codes "refused 28 NotOneToOne at " ++ (decimal at ++ line_end)
image_line image.NoStart = codes "refused 29 NoStart" ++ line_end
image_line image.NoFinish = codes "refused 30 NoFinish" ++ line_end
image_line (image.ImageTruncated at) = codes "refused 31 ImageTruncated at "
    ++ (decimal at ++ line_end)
image_line (image.ImageMagic at) = codes "refused 32 ImageMagic at " ++ (decimal at ++ line_end)
image_line (image.ImageField at) = codes "refused 33 ImageField at " ++ (decimal at ++ line_end)
image_line (image.ImageTrailing at) = codes "refused 34 ImageTrailing at "
    ++ (decimal at ++ line_end)
image_line image.NoMemory = []

-- what is printed if the limits, the input or a state are refused
abbrev pub load_line : LoadError → List ℕ
load_line load.HeapOrder = codes "refused 35 HeapOrder" ++ line_end
load_line load.DeepRange = codes "refused 36 DeepRange" ++ line_end
load_line (load.UnknownField line) = codes "refused 37 UnknownField at "
    ++ (decimal line ++ line_end)
load_line (load.BadState at) = codes "refused 38 BadState at " ++ (decimal at ++ line_end)
load_line (load.BadInputLine line) = codes "refused 40 BadInputLine at "
    ++ (decimal line ++ line_end)
load_line load.NoMemory = []

-- what is printed if this line of a script is no command
abbrev pub bad_command_line : (line : ℕ) → List ℕ
bad_command_line line = codes "refused 39 BadCommand at " ++ (decimal line ++ line_end)

abbrev pub steps_line : ℕ → List ℕ
steps_line steps = codes "steps " ++ (decimal steps ++ line_end)

-- what is printed of a run that the bound ended
abbrev pub bound_lines : (steps : ℕ) → List ℕ
bound_lines steps = codes "bound" ++ (line_end ++ steps_line steps)

-- what was done with so many code cells
abbrev pub cells_line : (what : List ℕ) → List Cell → List ℕ
cells_line what code = what ++ (codes " " ++ (decimal (length code)
    ++ (codes " cells" ++ line_end)))
