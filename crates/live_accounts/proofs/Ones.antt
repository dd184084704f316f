-- The machine is in one place at a position of a run.
use Rattle.std.proofs.Common.{◌≡◌, ℕ, zero, suc, ◌+◌, ◌-◌, refl, sym, ap, ◌∙◌, arith, Bool, true, false, List}
use Rattle.std.proofs.Common.{◌++◌, length, length-append, Some, inl, inr, nat_le}
use Rattle.std.proofs.lemmas.Bool.{leb-true, leb-false}
use Rattle.source_debugger.specs.rpp_tree.Tree.{Statements, End, Then}
use Rattle.source_debugger.specs.roopl_semantics.Run.{Run, Done, after_cost, ◌>>=◌}
use Rattle.source_debugger.specs.roopl_semantics.Store.{State}
use Rattle.source_debugger.specs.roopl_semantics.Execution.{Setting}
use Rattle.source_debugger.specs.meaning_points.Points.{Point, points_behind}
use Rattle.source_debugger.specs.meaning_machine.Machine.{Config, next, walk, stepped, closing, point_of, seen}
use Rattle.source_debugger.specs.meaning_machine.SourceLaws.{set_for, start_config}
use Rattle.source_debugger.proofs.meaning_machine_laws.Steps.{plus, walk_plus, seen_plus, after_zero}
use Rattle.source_debugger.specs.source_execution.Standing.{IsOver, next_place}
use Rattle.source_debugger.specs.Stacks.{IsPosition}
use Rattle.live_accounts.specs.AccountLaws.{AreOne, PositionsAreOne}

plus_is : (a b : ℕ) → plus a b ≡ a + b
plus_is zero b = omega arith
plus_is (suc a) b = ap suc (plus_is a b) ∙ omega arith

module _ (setting : Setting) where
  -- no step leads on from the end
  stays : (n : ℕ) (x : Config) → IsOver x → walk setting n x ≡ Done x 0
  stays zero x over = refl
  stays (suc n) x over =
      let here : next setting x ≡ Done x 0 = ap (stepped setting x) over.rest ∙ ap (closing setting x) over.around in
      ap (λ (r : Run Config). r >>= walk setting n) here ∙ after_zero (walk setting n x) ∙ stays n x over

  -- a step from where a statement begins passes a trace point
  passes : (params place : ℕ) (st : State) (rest : Statements) (more : List Point) → next_place rest ≡ Some place
      → length (point_of setting params st rest ++ more) ≡ 0 → ⊥
  passes params place st End more e none = cc
  passes params place st (Then s rest) more e none = absurd (omega arith)

  none_passed : (n : ℕ) (x : Config) → IsPosition x → length (seen setting n x) ≡ 0 → walk setting n x ≡ Done x 0
  none_passed zero x stands e = refl
  none_passed (suc n) x (inl (place, begins)) e =
      absurd (passes x.params place x.state x.rest (points_behind (next setting x) (seen setting n)) begins e)
  none_passed (suc n) x (inr over) e = stays (suc n) x over

  same_place : (x y : Config) (c d : ℕ) → Done x c ≡ Done y d → (x ≡ y) × (c ≡ d)
  same_place x y c d e = (cc, cc)

  onward : (a n position c d : ℕ) (start x y : Config) → walk setting a start ≡ Done x c
      → length (seen setting a start) ≡ position → IsPosition x → walk setting (plus a n) start ≡ Done y d
      → length (seen setting (plus a n) start) ≡ position → (x ≡ y) × (c ≡ d)
  onward a n position c d start x y came passed stands later all =
      let walked : walk setting (plus a n) start ≡ after_cost c (walk setting n x) =
      walk_plus setting a n start ∙ ap (λ (r : Run Config). r >>= walk setting n) came in
      let points : seen setting (plus a n) start ≡ seen setting a start ++ seen setting n x =
      seen_plus setting a n start
      ∙ ap (λ (r : Run Config). seen setting a start ++ points_behind r (seen setting n)) came in
      let count = sym (length-append (seen setting a start) (seen setting n x))
      ∙ sym (ap (λ (l : List Point). length l) points) in
      let none : length (seen setting n x) ≡ 0 = omega arith in
      let still = none_passed n x stands none in
      let both = same_place x y (c + 0) d (sym (ap (after_cost c) still) ∙ sym walked ∙ later) in
      let cost = both.1 in
      (both.0, omega arith)

pub are_one : PositionsAreOne
are_one program limits input position x y first second = by (nat_le first.steps second.steps) refl
  where
    setting : Setting
    setting = set_for program limits

    start : Config
    start = start_config program input

    by : (b : Bool) → nat_le first.steps second.steps ≡ b → AreOne program limits input position x y first second
    by true t =
        let few = leb-true first.steps second.steps t in
        let n = second.steps - first.steps in
        let all : plus first.steps n ≡ second.steps = plus_is first.steps n ∙ omega arith in
        let both = onward setting first.steps n position first.cost second.cost start x y first.came first.passed
        first.stands (ap (λ (k : ℕ). walk setting k start) all ∙ second.came)
        (ap (λ (k : ℕ). length (seen setting k start)) all ∙ second.passed) in
        record { place = both.0; cost = both.1 }
    by false t =
        let few = leb-false first.steps second.steps t in
        let n = first.steps - second.steps in
        let all : plus second.steps n ≡ first.steps = plus_is second.steps n ∙ omega arith in
        let both = onward setting second.steps n position second.cost first.cost start y x second.came second.passed
        second.stands (ap (λ (k : ℕ). walk setting k start) all ∙ first.came)
        (ap (λ (k : ℕ). length (seen setting k start)) all ∙ first.passed) in
        record { place = sym both.0; cost = sym both.1 }
