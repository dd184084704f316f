-- The laws of values and conditions in the form in which fragments meet the source, with counts and
-- steps.
use Rattle.std.proofs.Common.{◌≡◌, ℕ, ◌≤◌, Bool, List, refl, sym, ap, arith}
use Rattle.std.specs.Prelude.{bit_xor, Result, Ok, Err}
use Rattle.register_expressions.specs.rpp_tree.Tree.{Expression, Source, nodes}
use Rattle.register_expressions.specs.pisa_isa.Machine.{Memory}
use Rattle.register_expressions.specs.paired_code.declared.part.Symbol.{Symbol}
use Rattle.register_expressions.specs.paired_code.Machine.{Image, memory_reg, memory_with_reg}
use Rattle.register_expressions.specs.paired_code.Pieces.{Will}
use Rattle.register_expressions.specs.paired_code.Does.{Rates, RunResult, Fine, Fault, Meets, fine, faults}
use Rattle.register_expressions.proofs.paired_code_laws.Laws.{will_of}
use Rattle.register_expressions.specs.roopl_semantics.Operators.{is_true, truth_word}
use Rattle.register_expressions.specs.roopl_semantics.Store.{Value, State}
use Rattle.register_expressions.specs.roopl_semantics.Value.{value}
use Rattle.register_expressions.specs.roopl_semantics.Execution.{holds}
use Rattle.register_expressions.specs.refine_form.declared.spot.Spot.{Spot}
use Rattle.register_expressions.specs.Code.{words}
use Rattle.expr_uncompute.specs.Steps.{value_steps, test_steps}
use Rattle.register_expressions.specs.Laws.{bases_of, Ready, Xored, truth_of}
use Rattle.expr_uncompute.specs.Promises.{SeesIn, ExpressionLaw, ConditionLaw}
use Rattle.expr_uncompute.specs.Means.{shown, shown_result, IsInt, Means}
use Rattle.expr_uncompute.proofs.SourceLaws.{source_value, source_test}
use Rattle.expr_uncompute.proofs.Rated.{rated}
use Rattle.expr_uncompute.proofs.Bounds.{value_most, test_most, value_least, test_least}

-- what the source says of an evaluation, with its count
abbrev pub told_value : ℕ → Result Value ℕ → RunResult Value
told_value c (Ok v) = Fine v c
told_value c (Err f) = Fault f c

abbrev pub told_test : ℕ → Result Value ℕ → RunResult Bool
told_test c (Ok v) = Fine (holds v) c
told_test c (Err f) = Fault f c

module _ (address slot : ℕ → ℕ) (program : Source) (spot : List ℕ → Spot) (free : ℕ) (b : Rates) (few : 3 ≤ b.counts)
    (many : 162 ≤ b.steps) (into : ℕ) (e : Expression) (p : List Symbol) (im : Image) (d : Bool) (m : Memory)
    (st : State) (ready : Ready free (words e) m) (sees : SeesIn spot free m e)
    (means : Means address slot program st spot (bases_of m) m.cells e) (n : ℕ) where
  -- the value xored into the register
  pub value_meets : ExpressionLaw spot free into e p → Will im p d m
      (Meets (λ v m1. m1 ≡ memory_with_reg m into (bit_xor (memory_reg m into) (shown address slot v))) b n 0
      (told_value (nodes e) (value program st e)))
  value_meets law = by (value program st e) (source_value address slot program spot free into e p law im d m st ready
      sees means)
    where
      by : (r : Result Value ℕ) → Xored into (value_steps e) m (shown_result address slot r) im p d
          → Will im p d m (Meets (λ v m1. m1 ≡ memory_with_reg m into
          (bit_xor (memory_reg m into) (shown address slot v))) b n 0
          (told_value (nodes e) r))
      by (Ok v) r = will_of im p d m _ _ r (fine refl (rated 3 b.counts (nodes e) (value_steps e) few (value_least e))
          (let h = rated 162 b.steps (value_steps e) (nodes e) many (value_most e) in omega arith))
      by (Err c) r = will_of im p d m _ _ r.2 (faults (let h = rated 162 b.steps (value_steps e) (nodes e) many
          (value_most e) in omega (arith, r.1)))

  -- the truth value of it
  pub test_meets : IsInt address slot (value program st e) → ConditionLaw spot free into e p
      → Will im p d m (Meets (λ t m1. m1 ≡ memory_with_reg m into (bit_xor (memory_reg m into) (truth_word t))) b n 0
      (told_test (nodes e) (value program st e)))
  test_meets int law = by (value program st e) int (source_test address slot program spot free into e p law im d m st
      ready sees means)
    where
      by : (r : Result Value ℕ) → IsInt address slot r → Xored into (test_steps e) m
          (truth_of (shown_result address slot r)) im p d → Will im p d m
          (Meets (λ t m1. m1 ≡ memory_with_reg m into (bit_xor (memory_reg m into) (truth_word t))) b n 0
          (told_test (nodes e) r))
      by (Ok v) i r = will_of im p d m _ _ r (fine (ap (λ x. memory_with_reg m into
          (bit_xor (memory_reg m into) (truth_word (is_true x)))) (sym i))
          (rated 3 b.counts (nodes e) (test_steps e) few (let l = test_least e in omega arith))
          (let h = rated 162 b.steps (test_steps e) (nodes e) many (test_most e) in omega arith))
      by (Err c) i r = will_of im p d m _ _ r.2 (faults (let h = rated 162 b.steps (test_steps e) (nodes e) many
          (test_most e) in omega (arith, r.1)))
