-- Counts and steps within rates, and faults in so many steps.
use Rattle.std.proofs.Common.{ℕ, ◌*◌, ◌≤◌, Bool, List, arith}
use Rattle.std.proofs.Math.Nat.{mul-le-mul_right}
use Rattle.register_expressions.specs.pisa_isa.Machine.{Memory}
use Rattle.register_expressions.specs.paired_code.declared.part.Symbol.{Symbol}
use Rattle.register_expressions.specs.paired_code.Machine.{Image}
use Rattle.register_expressions.specs.paired_code.Pieces.{Outcome, Will}
use Rattle.register_expressions.specs.paired_code.Does.{Rates, Fault, Meets, faults}
use Rattle.register_expressions.proofs.paired_code_laws.Laws.{will_of, will_more}
use Rattle.register_expressions.specs.roopl_semantics.Store.{State}
use Rattle.expr_uncompute.specs.Promises.{IsTrap}
use Rattle.expr_uncompute.specs.Found.{TrapsWithin, traps_within}

pub less : (b k c : ℕ) → 1 ≤ b → c ≤ k → c ≤ b * k
less b k c h l = let e : 1 * k ≤ b * k = mul-le-mul_right k h in omega arith

pub rated : (x b k c : ℕ) → x ≤ b → k ≤ x * c → k ≤ b * c
rated x b k c h l = let e : x * c ≤ b * c = mul-le-mul_right c h in omega arith

module _ (R : State → Memory → Type 0) (rates : Rates) (x : ℕ) (many : x ≤ rates.steps) (im : Image) (p : List Symbol)
    (n : ℕ) where
  -- a trap after so many steps meets the fault, with its cost
  pub trap_meets : (d : Bool) (m : Memory) (c cost steps : ℕ) → steps ≤ x * cost → IsTrap im p d m c steps
      → Will im p d m (Meets R rates n 0 (Fault c cost))
  trap_meets d m c cost steps l t =
      let e = rated x rates.steps steps cost many l in
      let l' = t.1 in
      will_of im p d m _ _ t.2 (faults (omega arith))

  -- and so does one within so many steps
  pub stop_meets : (d : Bool) (m : Memory) (c cost steps : ℕ) → steps ≤ x * cost → Will im p d m (TrapsWithin c steps)
      → Will im p d m (Meets R rates n 0 (Fault c cost))
  stop_meets d m c cost steps l w = will_more im p d m _ _ over w
    where
      over : (o : Outcome) → TrapsWithin c steps o → Meets R rates n 0 (Fault c cost) o
      over _ (traps_within k h) = let e = rated x rates.steps steps cost many l in faults (omega arith)
