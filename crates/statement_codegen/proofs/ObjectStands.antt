-- The codes of copies, and of objects and arrays that are made and given back, are those of their
-- statements, if the rules of types pass these and the limits let them through.
use Rattle.std.proofs.Common.{◌≡◌, ℕ, ◌+◌, ◌≤◌, List, length, sym, subst, arith}
use Rattle.refine_objects.specs.rpp_tree.declared.tree.VarType.{VarType}
use Rattle.refine_objects.specs.rpp_tree.declared.tree.Ident.{Ident}
use Rattle.refine_objects.specs.rpp_tree.declared.tree.VarType.TheVariants as type
use Rattle.refine_objects.specs.rpp_tree.Tree.{Lvalue, Whole, Creation, Object, Ints, Objects, Statements, Construct, New, Delete}
use Rattle.refine_objects.specs.rpp_tree.Tree.{Copy, Uncopy, Source, creation_nodes, index_nodes}
use Rattle.refine_objects.specs.rpp_tree.Views.{source_of}
use Rattle.branch_codegen.specs.paired_code.declared.part.Symbol.{Symbol}
use Rattle.branch_codegen.specs.paired_code.Layout.{mirror_cells}
use Rattle.branch_codegen.specs.code_scope.Visible.{Visible, Known, spot_of, free_words_of, known_in}
use Rattle.branch_codegen.specs.expr_uncompute.Code.{place_words}
use Rattle.branch_codegen.proofs.expr_uncompute_laws.Bounds.{place_words_most}
use Rattle.branch_codegen.specs.refine_expressions.Typing.{IsPassed}
use Rattle.branch_codegen.proofs.expr_uncompute_laws.Bounds.{words_most}
use Rattle.refine_objects.specs.object_codegen.Promises.{CopyLaw}
use Rattle.refine_objects.specs.object_codegen.Creations.{creation_words, NewLaw}
use Rattle.refine_objects.proofs.StatedCopies.{copies_are_told, uncopies_are_told}
use Rattle.refine_objects.proofs.StatedMade.{news_are_told, deletes_are_told}
use Rattle.branch_codegen.specs.class_rules.Statements.{class_known, construct_rules, check_statements, with_object}
use Rattle.branch_codegen.proofs.class_rules_laws.PassedRules.{both_passed}
use Rattle.branch_codegen.proofs.meaning_sound_laws.Expansions.{made_in}
use Rattle.refine_form.specs.Stands.{shape_of}
use Rattle.branch_codegen.specs.refine_expressions.Typing.{typing_in}
use Rattle.statement_codegen.specs.Codes.{scope_of, with_variable, IsStatementCode, IsAllowed}
use Rattle.statement_codegen.proofs.Stands.{laid_out, names_same, room_for}

pub copy_stands : (v : Visible) (at : ℕ) (kind : VarType) (source target : Lvalue) (all : List Symbol)
    → CopyLaw (spot_of (known_in v)) (free_words_of (known_in v)) source target all
    → IsAllowed v (Copy at kind source target)
    → IsStatementCode v (Copy at kind source target) all
copy_stands v at kind source target all made fine = record {
  law = λ place routine linked same.
      let few = fine.few_locals in
      let small = fine.few_nodes in
      let s = place_words_most source in
      let t = place_words_most target in
      let ok : IsPassed (source_of v.program) (scope_of v) (Copy at kind source target)
      (place_words source + place_words target) =
      record {
        rules = fine.rules;
        has_words = fine.has_words;
        room = room_for v (place_words source + place_words target) (omega (arith, few))
            (omega (arith, small, s, t));
      } in
      copies_are_told place (laid_out place routine linked) (scope_of v) at kind source target
      (subst (λ program. IsPassed program (scope_of v) (Copy at kind source target)
      (place_words source + place_words target)) (sym same) ok) all
      (subst (λ (k : Known). CopyLaw (spot_of k) (free_words_of k) source target all) (sym (names_same v place same))
      made);
}

pub uncopy_stands : (v : Visible) (at : ℕ) (kind : VarType) (source target : Lvalue) (all : List Symbol)
    → CopyLaw (spot_of (known_in v)) (free_words_of (known_in v)) source target all
    → IsAllowed v (Uncopy at kind source target) → IsStatementCode v (Uncopy at kind source target) (mirror_cells all)
uncopy_stands v at kind source target all made fine = record {
  law = λ place routine linked same.
      let few = fine.few_locals in
      let small = fine.few_nodes in
      let s = place_words_most source in
      let t = place_words_most target in
      let ok : IsPassed (source_of v.program) (scope_of v) (Uncopy at kind source target)
      (place_words source + place_words target) =
      record {
        rules = fine.rules;
        has_words = fine.has_words;
        room = room_for v (place_words source + place_words target) (omega (arith, few))
            (omega (arith, small, s, t));
      } in
      uncopies_are_told place (laid_out place routine linked) (scope_of v) at kind source target
      (subst (λ program. IsPassed program (scope_of v) (Uncopy at kind source target)
      (place_words source + place_words target)) (sym same) ok) all
      (subst (λ (k : Known). CopyLaw (spot_of k) (free_words_of k) source target all) (sym (names_same v place same))
      made);
}

-- ---- objects and arrays

-- they need few words of the frame
pub few_creation_words : (made : Creation) (target : Lvalue) → creation_nodes made + index_nodes target ≤ 64
    → creation_words made target ≤ 64
few_creation_words (Object class) target h = let t = place_words_most target in omega (arith, h, t)
few_creation_words (Ints size) target h = let t = place_words_most target in let w = words_most size in
    omega (arith, h, t, w)
few_creation_words (Objects class size) target h = let t = place_words_most target in let w = words_most size in
    omega (arith, h, t, w)

pub new_stands : (v : Visible) (at : ℕ) (made : Creation) (target : Lvalue) (all : List Symbol)
    → NewLaw (source_of v.program) (spot_of (known_in v)) (free_words_of (known_in v)) made target all
    → IsAllowed v (New at made target) → IsStatementCode v (New at made target) all
new_stands v at made target all law fine = record {
  law = λ place routine linked same.
      let few = fine.few_locals in
      let small = few_creation_words made target fine.few_nodes in
      let ok : IsPassed (source_of v.program) (scope_of v) (New at made target) (creation_words made target) =
      record {
        rules = fine.rules;
        has_words = fine.has_words;
        room = room_for v (creation_words made target) (omega (arith, few)) small;
      } in
      news_are_told place routine linked (scope_of v) at made target
      (subst (λ program. IsPassed program (scope_of v) (New at made target) (creation_words made target)) (sym same) ok)
      all
      (subst (λ (k : Known). NewLaw place.setting.program (spot_of k) (free_words_of k) made target all)
      (sym (names_same v place same))
      (subst (λ program. NewLaw program (spot_of (known_in v)) (free_words_of (known_in v)) made target all) (sym same)
      law));
}

pub delete_stands : (v : Visible) (at : ℕ) (made : Creation) (target : Lvalue) (all : List Symbol)
    → NewLaw (source_of v.program) (spot_of (known_in v)) (free_words_of (known_in v)) made target all
    → IsAllowed v (Delete at made target) → IsStatementCode v (Delete at made target) (mirror_cells all)
delete_stands v at made target all law fine = record {
  law = λ place routine linked same.
      let few = fine.few_locals in
      let small = few_creation_words made target fine.few_nodes in
      let ok : IsPassed (source_of v.program) (scope_of v) (Delete at made target) (creation_words made target) =
      record {
        rules = fine.rules;
        has_words = fine.has_words;
        room = room_for v (creation_words made target) (omega (arith, few)) small;
      } in
      deletes_are_told place routine linked (scope_of v) at made target
      (subst (λ program. IsPassed program (scope_of v) (Delete at made target) (creation_words made target)) (sym same)
      ok) all
      (subst (λ (k : Known). NewLaw place.setting.program (spot_of k) (free_words_of k) made target all)
      (sym (names_same v place same))
      (subst (λ program. NewLaw program (spot_of (known_in v)) (free_words_of (known_in v)) made target all) (sym same)
      law));
}

-- the new that begins a `construct` is allowed if its variable is visible
pub constructed_new : (v : Visible) (at : ℕ) (class name : Ident) (body : Statements) (end : Ident)
    → IsAllowed v (Construct at class name body end)
    → IsAllowed (with_variable v (record { kind = type.Class class; name = name })) (New at (Object class) (Whole name))
constructed_new v at class name body end fine =
    let typing = typing_in (source_of v.program) (scope_of v) in
    let shape = shape_of (source_of v.program) (scope_of v) in
    let rules = both_passed (construct_rules typing shape class name end)
    (check_statements typing (with_object typing shape class name) body) fine.rules in
    let known = both_passed (class_known typing.table class) _ rules.0 in
    record {
      rules = made_in typing shape at class name known.0;
      has_words = (tt, tt);
      few_nodes = omega arith;
      few_locals = (let few = fine.few_locals in omega (arith, few));
    }
