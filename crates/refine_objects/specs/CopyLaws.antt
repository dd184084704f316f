-- The code of copies, by what it does with words, has its laws over current frames.
use Rattle.std.specs.Prelude.{ℕ, ◌+◌, List}
use Rattle.object_codegen.specs.rpp_tree.declared.tree.VarType.{VarType}
use Rattle.object_codegen.specs.rpp_tree.Tree.{Lvalue, Copy, Uncopy}
use Rattle.object_codegen.specs.paired_code.declared.part.Symbol.{Symbol}
use Rattle.object_codegen.specs.paired_code.Layout.{mirror_cells}
use Rattle.object_codegen.specs.expr_uncompute.Code.{place_words}
use Rattle.object_codegen.specs.Promises.{CopyLaw}
use Rattle.object_codegen.specs.refine_form.Form.{Scope, StmtLaw}
use Rattle.object_codegen.specs.refine_form.Worlds.{Place, world_of}
use Rattle.refine_expressions.specs.Typing.{IsPassed, visible_spot, free_in_scope}
use Rattle.refine_expressions.specs.Laws.{IsLaidOut}

-- code of a copy does what the source says of the statement, back what it says of its inverse
abbrev pub CopiesAreTold : Type 0
CopiesAreTold =
    (place : Place) → IsLaidOut place → (s : Scope) (at : ℕ) (kind : VarType)
    (source target : Lvalue)
    → IsPassed place.setting.program s
    (Copy at kind source target) (place_words source + place_words target)
    → (p : List Symbol)
    → CopyLaw (visible_spot place.setting.program s) (free_in_scope place.setting.program s) source target p
    → StmtLaw (world_of place) s (Copy at kind source target) p

-- and its inverse that of an uncopy, back what the source says of its inverse
abbrev pub UncopiesAreTold : Type 0
UncopiesAreTold =
    (place : Place) → IsLaidOut place → (s : Scope) (at : ℕ) (kind : VarType)
    (source target : Lvalue)
    → IsPassed place.setting.program s
    (Uncopy at kind source target) (place_words source + place_words target)
    → (p : List Symbol)
    → CopyLaw (visible_spot place.setting.program s) (free_in_scope place.setting.program s) source target p
    → StmtLaw (world_of place) s (Uncopy at kind source target) (mirror_cells p)
