-- The code of `skip`: a cell that does nothing.
use Rattle.std.proofs.Common.{◌≡◌, ℕ, suc, ◌+◌, ◌*◌, ◌≤◌, Bool, true, false, List, refl, sym, subst, arith}
use Rattle.std.specs.Prelude.{Result, Ok, Err, IfOk}
use Rattle.refine_objects.specs.rpp_tree.Tree.{Skip}
use Rattle.branch_codegen.specs.pisa_isa.declared.cell.Op.TheVariants.{Xori}
use Rattle.branch_codegen.specs.pisa_isa.declared.cell.Cell.{Cell}
use Rattle.branch_codegen.specs.paired_code.Code.{Code}
use Rattle.branch_codegen.specs.paired_code.declared.part.Symbol.{Symbol}
use Rattle.branch_codegen.specs.paired_code.Pieces.{Done}
use Rattle.branch_codegen.specs.paired_code.Laws.{PlainLaw, outcome_of}
use Rattle.branch_codegen.specs.paired_code.Does.{Meets, fine}
use Rattle.branch_codegen.proofs.paired_code_laws.Laws.{will_of}
use Rattle.branch_codegen.specs.roopl_semantics.Store.{State}
use Rattle.refine_form.specs.Form.{World, Scope, HasOpenFrame, StmtLaw, registers, run_result, one, turned_statement}
use Rattle.refine_form.specs.Worlds.{Place, world_of}
use Rattle.refine_form.proofs.Rules.{as_known}
use Rattle.statement_codegen.specs.Laws.{SkipLaw}

abbrev pub still : Cell
still = record { op = Xori; a = 1; b = 0; c = 0; imm = 0 }

some_counts : (n : ℕ) → 1 ≤ (n + 64) * 1
some_counts n = omega arith

nothing_done : (d : Bool) (object frame : ℕ) (cells : List ℕ)
    → outcome_of d still (record { regs = registers 0 object frame 0 0 0 0 0; cells = cells })
    ≡ Done (record { regs = registers 0 object frame 0 0 0 0 0; cells = cells }) 1
nothing_done false object frame cells = refl
nothing_done true object frame cells = refl

skip_told : (w : World) (n : ℕ) (d : Bool) (at : ℕ) (st : State)
    → run_result (one w.setting n (turned_statement d (Skip at)) st)
    ≡ Rattle.branch_codegen.specs.paired_code.Does.Fine st 1
skip_told w n false at st = refl
skip_told w n true at st = refl

skip_row : (place : Place) (s : Scope) (at : ℕ) (p : List Symbol) → PlainLaw still p
    → StmtLaw (world_of place) s (Skip at) p
skip_row place s at p law n owes d u = record {
  does = λ st m h.
      let w = world_of place in
      let kept : outcome_of d still m ≡ Done m 1 = subst (λ z. outcome_of d still z ≡ Done z 1)
      (sym (as_known m _ h.regs_are)) (nothing_done d (w.object_of u) (w.frame_of u) m.cells) in
      will_of place.im p d m _ _ (law place.im d m)
      (subst (Meets (HasOpenFrame w s u) w.rates (suc n) 0
      (run_result (one w.setting n (turned_statement d (Skip at)) st))) (sym kept)
      (subst (λ t. Meets (HasOpenFrame w s u) w.rates (suc n) 0 t (Done m 1)) (sym (skip_told w n d at st))
      (fine h (some_counts _) (omega arith))));
}

pub skip_returns : {E : Type 0} (r : Result Code E) → IfOk r (λ p. PlainLaw still p.cells)
    → IfOk r (λ p. SkipLaw p.cells)
skip_returns (Ok p) law = record {
  law = λ v at. record
      { law = λ place routine linked same. skip_row place _ at p.cells law };
}
skip_returns (Err none) law = tt
