-- A method of a program within its limits has few parameters.
use Rattle.std.proofs.Common.{◌≡◌, ℕ, zero, suc, ◌<◌, ◌≤◌, List, [], ◌∷◌, length, arith}
use Rattle.std.specs.Prelude.{slice_get, All}
use Rattle.std.specs.Option.{unwrap_or}
use Rattle.std.proofs.lemmas.List.Elements.{All-head, All-tail}
use Rattle.refine_form.specs.rpp_tree.Tree.{Procedure, ClassText, Source}
use Rattle.refine_form.specs.rpp_tree.Limits.{IsSmallMethod, IsWithinLimits}
use Rattle.refine_form.specs.class_rules.declared.method.MethodId.{MethodId}
use Rattle.refine_form.specs.class_rules.Members.{class_at, no_class, no_procedure}
use Rattle.refine_form.specs.class_rules.Classes.{procedure_at}

-- what holds for all, and for what no name denotes, holds at every number
all_at : {X : Type 0} (P : X → Type 0) (xs : List X) (i : ℕ) (d : X) → All P xs → P d → P (unwrap_or (slice_get xs i) d)
all_at P [] i d h n = n
all_at P (x ∷ xs) zero d h n = All-head P x xs h
all_at P (x ∷ xs) (suc i) d h n = all_at P xs i d (All-tail P x xs h) n

pub parameters_few : (program : Source) (id : MethodId) → IsWithinLimits program
    → length (procedure_at program id).params ≤ 16
parameters_few program id h =
    let methods : All IsSmallMethod (class_at program id.class).methods =
    all_at (λ (class : ClassText). All IsSmallMethod class.methods) program.classes id.class no_class h.methods_small
    (λ k d l. absurd (omega arith)) in
    all_at (λ (method : Procedure). length method.params ≤ 16) (class_at program id.class).methods id.method
    no_procedure (λ k d l. (methods k d l).parameters) (omega arith)
