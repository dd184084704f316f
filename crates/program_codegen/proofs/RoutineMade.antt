-- The fragment of a block in the scope of its method, made the body of a routine, is the fragment
-- of the method's routine.
use Rattle.std.proofs.Common.{◌≡◌, ◌∙◌, ap, subst, refl, ℕ, ◌+◌, ◌*◌, ◌<◌, ◌≤◌, suc, List, [], ◌∷◌, length, Some, arith}
use Rattle.std.proofs.Common.{slice_get}
use Rattle.refine_program.specs.rpp_tree.declared.tree.Program.{Program}
use Rattle.refine_program.specs.rpp_tree.declared.tree.Var.{Var}
use Rattle.refine_program.specs.rpp_tree.Parts.{block_tokens}
use Rattle.refine_program.specs.rpp_tree.Tree.{Procedure}
use Rattle.refine_program.specs.rpp_tree.Views.{source_of}
use Rattle.refine_program.specs.class_rules.declared.method.MethodId.{MethodId}
use Rattle.refine_program.specs.class_rules.Members.{class_at}
use Rattle.refine_program.specs.class_rules.Program.{IsAccepted}
use Rattle.refine_program.specs.pisa_isa.declared.notes.Mark.{Mark}
use Rattle.refine_program.specs.paired_code.Code.{Code, shift}
use Rattle.refine_program.specs.refine_form.Held.{HoldsCode}
use Rattle.statement_codegen.specs.code_scope.Visible.{Visible}
use Rattle.statement_codegen.specs.Codes.{IsBlockCode, IsMethodCode}
use Rattle.statement_codegen.specs.Laws.{RoutineLaw}
use Rattle.statement_codegen.specs.Ranges.{IsCovered}
use Rattle.statement_codegen.specs.Pieces.{HaveMarks, IsRowCode}
use Rattle.statement_codegen.proofs.Marks.{marks_in}
use Rattle.program_codegen.specs.Notes.{method_rows}
use Rattle.program_codegen.specs.Routines.{IsRoutine}
use Rattle.program_codegen.proofs.Bodies.{begun, params_are}
use Rattle.program_codegen.proofs.Unmarked.{bare_covered, bare_held}

as_many : (n : ℕ) (marks : List Mark) → length (shift n marks) ≡ length marks
as_many n [] = refl
as_many n (k ∷ marks) = ap suc (as_many n marks)

module _ (program : Program) (accepted : IsAccepted (source_of program)) (id : MethodId) (method : Procedure)
    (inside : id.class < length (source_of program).classes)
    (there : slice_get (class_at (source_of program) id.class).methods id.method ≡ Some method) where
  abbrev plain : Visible
  plain = record { program = program; method = id; variables = method.params }

  begun_is : (v : Visible) → v ≡ begun program accepted id method inside there → v ≡ plain
  begun_is v is = is ∙ ap (λ (vars : List Var). record { program = program; method = id; variables = vars })
      (params_are program accepted id method inside there)

  pub routine_made : (v w : Visible) (body p : Code) → v ≡ begun program accepted id method inside there → w ≡ v
      → IsBlockCode v method.body body.cells → HaveMarks v method.body body
      → length body.cells ≤ 200 * block_tokens method.body → length body.marks ≤ block_tokens method.body
      → IsCovered body
      → RoutineLaw w body.cells p.cells → HoldsCode body p → length p.cells ≡ length body.cells + 8
      → IsRoutine (source_of program) (record { class = id.class; method = method }) p
  routine_made v w body p v_is w_is code marks size few covered law held long =
      let here = begun_is v v_is in
      let made : IsMethodCode plain method p.cells =
      (subst (λ z. RoutineLaw z body.cells p.cells) (w_is ∙ here) law).law method
      (subst (λ z. IsBlockCode z method.body body.cells) here code)
      in
      let rows : HaveMarks plain method.body body = subst (λ z. HaveMarks z method.body body) here marks in
      record {
        law = record { law = λ place routine linked same. made.law place routine linked same };
        marks = marks_in (IsRowCode (source_of program)) (method_rows (record { class = id.class; method = method }))
            body p held rows;
        size = omega (arith, long, size);
        few = (let e = ap length held.marks in omega (arith, e, as_many (length held.before) body.marks, few));
        unmarked = (let none = bare_covered body covered in let all = bare_held body p held in
            omega (arith, none, all, long));
      }
