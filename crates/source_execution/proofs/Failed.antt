-- The step that stops with a fault, and the meaning of the program.
use Rattle.std.proofs.Common.{◌≡◌, ◌∙◌, refl, sym, ap, ℕ, zero, suc, ◌+◌, ◌-◌, ◌≤◌, arith, List, Some}
use Rattle.std.specs.Prelude.{Option}
use Rattle.source_checks.specs.rpp_words.declared.input.FieldWord.{FieldWord}
use Rattle.source_checks.specs.rpp_words.declared.input.Limits.{Limits}
use Rattle.source_statements.specs.rpp_tree.Tree.{Source}
use Rattle.source_checks.specs.roopl_semantics.Run.{Run, Done, Fault, More, ◌>>=◌, after_cost}
use Rattle.source_checks.specs.roopl_semantics.Execution.{Setting}
use Rattle.source_checks.specs.meaning_machine.Machine.{Config, next, walk}
use Rattle.source_checks.specs.meaning_machine.SourceLaws.{set_for, start_config}
use Rattle.source_checks.proofs.meaning_machine_laws.Sources.{joined}
use Rattle.source_checks.specs.Failures.{failing, here_or_on}
use Rattle.source_execution.specs.FailureLaws.{Means, StopsWithFault, FailsAsMeant}

module _ (setting : Setting) where
  -- some number of steps stops with this fault
  record Breaks (code : ℕ) (x : Config) : Type 0 where
    pub steps : ℕ
    pub cost : ℕ
    pub walks : walk setting steps x ≡ Fault code cost

  same_here : (x here : Config) → Some x ≡ Some here → x ≡ here
  same_here x here e = cc

  breaks_by : (n code spent : ℕ) (x here : Config) (r : Run Config)
      → ((y : Config) → failing setting n y ≡ Some here → Breaks code y) → next setting here ≡ Fault code spent
      → next setting x ≡ r → here_or_on x r (failing setting n) ≡ Some here → Breaks code x
  breaks_by n code spent x here (Done y c) on stops is e =
      let b = on y e in
      record {
        steps = suc b.steps;
        cost = c + b.cost;
        walks = ap (λ (q : Run Config). q >>= walk setting b.steps) is ∙ ap (after_cost c) b.walks;
      }
  breaks_by n code spent x here (Fault other c) on stops is e =
      record {
        steps = 1;
        cost = spent;
        walks = ap (λ (z : Config). next setting z >>= walk setting 0) (same_here x here e)
            ∙ ap (λ (q : Run Config). q >>= walk setting 0) stops;
      }
  breaks_by n code spent x here More on stops is e = cc

  breaks : (n code spent : ℕ) (x here : Config) → failing setting n x ≡ Some here → next setting here ≡ Fault code spent
      → Breaks code x
  breaks zero code spent x here e stops = cc
  breaks (suc n) code spent x here e stops =
      breaks_by n code spent x here (next setting x) (λ y f. breaks n code spent y here f stops) stops refl e

  record Falls (code : ℕ) (x : Config) : Type 0 where
    pub n : ℕ
    pub here : Config
    pub spent : ℕ
    pub first : failing setting n x ≡ Some here
    pub stops : next setting here ≡ Fault code spent

  abbrev at_fault : (code cost : ℕ) → Run Config
  at_fault code cost = Fault code cost

  same_fault : (other code sum cost : ℕ) → at_fault other sum ≡ at_fault code cost → (code ≡ other) × (cost ≡ sum)
  same_fault other code sum cost e = (cc, cc)

  fault_before : (c code cost : ℕ) (r : Run Config) → after_cost c r ≡ at_fault code cost → at_fault code (cost - c) ≡ r
  fault_before c code cost (Done x d) e = cc
  fault_before c code cost (Fault other d) e =
      let same = same_fault other code (c + d) cost e in
      let sum : cost ≡ c + d = same.1 in
      let left : cost - c ≡ d = omega arith in
      ap (λ (i : ℕ). at_fault i (cost - c)) same.0 ∙ ap (at_fault other) left
  fault_before c code cost More e = cc

  falls_by : (k code cost : ℕ) (x : Config) (r : Run Config)
      → ((y : Config) (d : ℕ) → walk setting k y ≡ Fault code d → Falls code y)
      → next setting x ≡ r → (r >>= walk setting k) ≡ Fault code cost → Falls code x
  falls_by k code cost x (Done y c) on is e =
      let f = on y (cost - c) (sym (fault_before c code cost (walk setting k y) e)) in
      record {
        n = suc f.n;
        here = f.here;
        spent = f.spent;
        first = ap (λ (q : Run Config). here_or_on x q (failing setting f.n)) is ∙ f.first;
        stops = f.stops;
      }
  falls_by k code cost x (Fault other c) on is e =
      record {
        n = 1;
        here = x;
        spent = cost;
        first = ap (λ (q : Run Config). here_or_on x q (failing setting 0)) is;
        stops = is ∙ e;
      }
  falls_by k code cost x More on is e = cc

  falls : (k code cost : ℕ) (x : Config) → walk setting k x ≡ Fault code cost → Falls code x
  falls zero code cost x e = cc
  falls (suc k) code cost x e = falls_by k code cost x (next setting x) (λ y d w. falls k code d y w) refl e

pub fails_as_meant : (program : Source) (limits : Limits) (input : List FieldWord) (code : ℕ)
    → FailsAsMeant program limits input code
fails_as_meant program limits input code = record {
  only = λ f.
      let b = breaks (set_for program limits) f.n code f.spent (start_config program input) f.here f.first f.stops in
      record {
        fuel = b.cost;
        cost = b.cost;
        fault = (joined program limits input b.cost).fault_only b.steps code b.cost b.walks (omega arith);
      };
  always = λ m.
      let b = (joined program limits input m.fuel).fault code m.cost m.fault in
      let f = falls (set_for program limits) b.steps code m.cost (start_config program input) b.walks in
      record { n = f.n; here = f.here; spent = f.spent; first = f.first; stops = f.stops };
}
