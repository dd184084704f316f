-- Variables as the debugger prints them.
use Rattle.std.specs.Prelude.{ℕ, nat_lt, if◌then◌else◌, List, [], ◌∷◌, ◌++◌, length}
use Rattle.source_courses.specs.roopl_semantics.Store.{Binding}
use Rattle.source_courses.specs.roopl_semantics.Report.{Text}
use Rattle.source_lines.specs.Named.{name_line}

-- a variable; the one that a call on an element means has no name, and no line
abbrev pub variable_line : Binding → Text
variable_line binding = if nat_lt 0 (length binding.name) then name_line binding.name binding.value
    else []

-- parameters in their order
abbrev pub params_named : List Binding → Text
params_named [] = []
params_named (binding ∷ frame) = variable_line binding ++ params_named frame

-- the variables of a method with so many parameters: these, and then the locals from the outermost
-- in
abbrev pub frame_named : ℕ → List Binding → Text
frame_named params [] = []
frame_named params (binding ∷ frame) =
    if nat_lt params (length (binding ∷ frame))
    then frame_named params frame ++ variable_line binding else params_named (binding ∷ frame)
