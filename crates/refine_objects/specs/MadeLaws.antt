-- The code of new objects and arrays, by what it does with words, has its laws over current frames.
use Rattle.std.specs.Prelude.{ℕ, List}
use Rattle.object_codegen.specs.rpp_tree.declared.tree.Ident.{Ident}
use Rattle.object_codegen.specs.rpp_tree.Tree.{Lvalue, Creation, New, Delete}
use Rattle.object_codegen.specs.paired_code.declared.part.Symbol.{Symbol}
use Rattle.object_codegen.specs.paired_code.Layout.{mirror_cells}
use Rattle.object_codegen.specs.Creations.{NewLaw, creation_words}
use Rattle.object_codegen.specs.refine_form.Form.{Scope, StmtLaw}
use Rattle.object_codegen.specs.refine_form.Worlds.{Place, world_of}
use Rattle.refine_expressions.specs.refine_calls.Laws.{IsLinked}
use Rattle.refine_expressions.specs.Typing.{IsPassed, visible_spot, free_in_scope}

-- code of a `new` does what the source says of the statement, back what it says of its inverse
abbrev pub NewsAreTold : Type 0
NewsAreTold =
    (place : Place) (routine : ℕ → Ident → ℕ) → IsLinked place routine
    → (s : Scope) (at : ℕ) (made : Creation) (target : Lvalue)
    → IsPassed place.setting.program s (New at made target) (creation_words made target)
    → (p : List Symbol)
    → NewLaw place.setting.program (visible_spot place.setting.program s)
    (free_in_scope place.setting.program s) made target p
    → StmtLaw (world_of place) s (New at made target) p

-- and its inverse that of a `delete`, back what the source says of its inverse
abbrev pub DeletesAreTold : Type 0
DeletesAreTold =
    (place : Place) (routine : ℕ → Ident → ℕ) → IsLinked place routine
    → (s : Scope) (at : ℕ) (made : Creation) (target : Lvalue)
    → IsPassed place.setting.program s (Delete at made target) (creation_words made target)
    → (p : List Symbol)
    → NewLaw place.setting.program (visible_spot place.setting.program s)
    (free_in_scope place.setting.program s) made target p
    → StmtLaw (world_of place) s (Delete at made target) (mirror_cells p)
