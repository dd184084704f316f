-- The laws in the form of their statements, by what is made.
use Rattle.std.specs.Prelude.{ℕ, List}
use Rattle.object_codegen.specs.rpp_tree.declared.tree.Ident.{Ident}
use Rattle.object_codegen.specs.rpp_tree.Tree.{Lvalue, Creation, Object as AnObject, Ints, Objects, New, Delete}
use Rattle.object_codegen.specs.paired_code.declared.part.Symbol.{Symbol}
use Rattle.object_codegen.specs.paired_code.Layout.{mirror_cells}
use Rattle.object_codegen.specs.Creations.{NewLaw, creation_words}
use Rattle.object_codegen.specs.refine_form.Form.{Scope, StmtLaw}
use Rattle.object_codegen.specs.refine_form.Worlds.{Place, world_of}
use Rattle.refine_expressions.specs.refine_calls.Laws.{IsLinked}
use Rattle.refine_expressions.specs.Typing.{IsPassed, visible_spot, free_in_scope}
use Rattle.refine_objects.specs.MadeLaws.{NewsAreTold, DeletesAreTold}
use Rattle.refine_objects.proofs.ArraysFit.{new_ints_fits, delete_ints_fits, new_objects_fits, delete_objects_fits}
use Rattle.refine_objects.proofs.ObjectsFit.{new_object_fits, delete_object_fits}

new_by : (place : Place) (routine : ℕ → Ident → ℕ) → IsLinked place routine
    → (s : Scope) (at : ℕ) (made : Creation) (target : Lvalue)
    → IsPassed place.setting.program s (New at made target) (creation_words made target)
    → (p : List Symbol) → NewLaw place.setting.program (visible_spot place.setting.program s)
    (free_in_scope place.setting.program s) made target p → StmtLaw (world_of place) s (New at made target) p
new_by place routine h s at (AnObject class) target ok p law =
    new_object_fits place routine h s at class target ok p law
new_by place routine h s at (Ints size) target ok p law = new_ints_fits place routine h s size at target ok p law
new_by place routine h s at (Objects class size) target ok p law =
    new_objects_fits place routine h s size class at target ok p law

delete_by : (place : Place) (routine : ℕ → Ident → ℕ) → IsLinked place routine
    → (s : Scope) (at : ℕ) (made : Creation) (target : Lvalue)
    → IsPassed place.setting.program s (Delete at made target) (creation_words made target)
    → (p : List Symbol) → NewLaw place.setting.program (visible_spot place.setting.program s)
    (free_in_scope place.setting.program s) made target p → StmtLaw (world_of place) s (Delete at made target)
    (mirror_cells p)
delete_by place routine h s at (AnObject class) target ok p law =
    delete_object_fits place routine h s at class target ok p law
delete_by place routine h s at (Ints size) target ok p law = delete_ints_fits place routine h s size at target ok p law
delete_by place routine h s at (Objects class size) target ok p law =
    delete_objects_fits place routine h s size class at target ok p law

pub news_are_told : NewsAreTold
news_are_told place routine h s at made target ok p law = new_by place routine h s at made target ok p law

pub deletes_are_told : DeletesAreTold
deletes_are_told place routine h s at made target ok p law = delete_by place routine h s at made target ok p law
