-- Tests between statements: the flag is set, and the frame stays open.
use Rattle.std.proofs.Common.{◌≡◌, ℕ, Bool, List, [], sym, ap, subst}
use Rattle.refine_expressions.specs.rpp_tree.Tree.{Expression}
use Rattle.refine_expressions.specs.pisa_isa.Machine.{Memory}
use Rattle.refine_expressions.specs.paired_code.declared.part.Symbol.{Symbol}
use Rattle.refine_expressions.specs.paired_code.Layout.{bool_xor}
use Rattle.refine_expressions.specs.paired_code.Pieces.{Will}
use Rattle.refine_expressions.specs.paired_code.Does.{Meets}
use Rattle.refine_expressions.proofs.paired_code_laws.Laws.{will_more}
use Rattle.refine_expressions.specs.roopl_semantics.Store.{State}
use Rattle.refine_form.specs.Form.{World, Scope, TestLaw, registers, bit, test_rates, test_slack, tested, run_result}
use Rattle.refine_form.proofs.Rules.{as_known, meets_as}

-- between statements, with a flag
pub record Flagged (w : World) (s : Scope) (u : w.Under) (v : Bool) (st : State) (m : Memory) : Type 0 where
  pub regs_are : m.regs ≡ registers 0 (w.object_of u) (w.frame_of u) 0 0 0 (bit v) 0
  pub open_frame : w.opens s u [] st m.cells

-- the code of a condition xors the truth value into the flag, and the frame stays open
abbrev pub FlagLaw : World → Scope → Expression → List Symbol → Type 0
FlagLaw w s e p =
    (n : ℕ) (d : Bool) (u : w.Under) (v : Bool) (st : State) (m : Memory) → Flagged w s u v st m
    → Will w.im p d m (Meets (λ t m1. Flagged w s u (bool_xor v t) st m1) (test_rates w) n test_slack
    (run_result (tested w.setting e st)))

pub test_flags : (w : World) (s : Scope) (e : Expression) (p : List Symbol) → TestLaw w s e p → FlagLaw w s e p
test_flags w s e p h n d u v st m f =
    subst (λ z. Will w.im p d z (Meets (λ t m1. Flagged w s u (bool_xor v t) st m1) (test_rates w) n test_slack
    (run_result (tested w.setting e st)))) (sym (as_known m _ f.regs_are))
    (will_more w.im p d _ _ _ (λ o q. meets_as (λ t m1 c said is. record {
      regs_are = ap (λ z. z.regs) is;
      open_frame = subst (w.opens s u [] st) (sym (ap (λ z. z.cells) is)) f.open_frame;
    }) q) (h n d u v st m.cells (w.are_read s u st m.cells f.open_frame)))
