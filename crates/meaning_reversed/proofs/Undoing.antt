-- That each of so many steps from a place is undone, and how it is shown: step by step.
use Rattle.std.proofs.Common.{◌≡◌, ℕ, zero, suc, ◌+◌, ◌≤◌, ◌∙◌, arith, refl, sym, ap, false, List}
use Rattle.meaning_machine.specs.rpp_tree.Tree.{Expression, Statement, Statements, End, Then, nodes}
use Rattle.meaning_machine.specs.roopl_semantics.Run.{Run, Done, after_cost, spend}
use Rattle.meaning_machine.specs.roopl_semantics.Store.{State}
use Rattle.meaning_machine.specs.roopl_semantics.Value.{value as value_in, evaluated}
use Rattle.meaning_machine.specs.roopl_semantics.Execution.{Setting}
use Rattle.meaning_machine.specs.Machine.{Config, Open, begun, next}
use Rattle.meaning_machine.specs.MachineLaws.{gone_past, config_before}
use Rattle.meaning_machine.specs.Turned.{turn, unwound, StepsBack}
use Rattle.meaning_inverse.proofs.Runs.{Runs, Does, given_done, runs_end, runs_then}
use Rattle.meaning_inverse.proofs.Later.{Ends, ends_then}
use Rattle.meaning_inverse.proofs.Ground.{Ground}
use Rattle.meaning_machine.specs.Reversed.{back}
use Rattle.meaning_reversed.specs.ReverseLaws.{LeadsTo, is_over}

-- ---- what holds for the results of runs

-- a run ends in what it is done with
pub ends_so : {A : Type 0} (r : Run A) → Ends r (λ a. (c : ℕ) × (r ≡ Done a c))
ends_so r = record { by = λ a c e. (c, e) }

pub ends_spent : {A : Type 0} (c : ℕ) (r : Run A) (P : A → Type 0) → Ends r P → Ends (after_cost c r) P
ends_spent c r P h = ends_then (spend c) (λ u. r) P (λ u. h)

pub ends_valued : (setting : Setting) (e : Expression) (st : State)
    → Ends (evaluated setting.program e st) (λ v. evaluated setting.program e st ≡ Done v (nodes e))
ends_valued setting e st = record {
  by = λ v c h. (let k = (given_done (nodes e) (value_in setting.program st e) v c h).1 in
      h ∙ (ap (Done v) (sym k)));
}

-- ---- blocks after their ends

-- the statements past at the end of a block are the block
pub unwound_gone : (b past : Statements) → unwound (gone_past b past) End ≡ unwound past b
unwound_gone End past = refl
unwound_gone (Then s b) past = unwound_gone b (Then s past)

module _ (setting : Setting) where
  -- ---- steps that lead back

  pub leads : (x y : Config) → back setting (turn y) ≡ next setting (turn y) → StepsBack setting x y
      → LeadsTo setting x y
  leads x y same b = record { cost = b.cost; steps = same ∙ b.steps }

  -- each of the first n steps from a place is undone
  abbrev pub AllBack : ℕ → Config → Type 0
  AllBack zero x = Unit {0}
  AllBack (suc n) x = is_over x.rest x.around ≡ false
      → Ends (next setting x) (λ y. LeadsTo setting x y × AllBack n y)

  -- a step to a configuration is undone, and so are those after it
  abbrev pub Leads : ℕ → Config → Config → Type 0
  Leads n x y = LeadsTo setting x y × AllBack n y

  pub step_by_step : (n : ℕ) (x : Config) → ((i : ℕ) → suc i ≤ n → Ends (next setting x) (Leads i x)) → AllBack n x
  step_by_step zero x h = tt
  step_by_step (suc n) x h = λ going. h n (omega arith)

  -- a statement begins
  pub begins : (n : ℕ) (past rest : Statements) (params : ℕ) (around : List Open) (st : State) (s : Statement)
      → let x = config_before past (Then s rest) params around st in
      ((i : ℕ) → suc i ≤ n → Ends (begun setting x s rest) (Leads i x)) → AllBack n x
  begins n past rest params around st s h =
      let x = config_before past (Then s rest) params around st in
      step_by_step n x (λ i le. ends_spent 1 (begun setting x s rest) (Leads i x) (h i le))

  -- ---- what is to be shown of statements and blocks

  -- wherever a statement leads to, all steps after it are undone
  abbrev pub OnPast : ℕ → Statement → State → (State → Config) → Type 0
  OnPast n s st y = (i : ℕ) → i ≤ n → (end : State) (cost : ℕ) → Does setting s st end cost → AllBack i (y end)

  abbrev pub OnBehind : ℕ → Statements → State → (State → Config) → Type 0
  OnBehind n b st y = (i : ℕ) → i ≤ n → (end : State) (cost : ℕ) → Runs setting b st end cost → AllBack i (y end)

  module _ (G : Ground setting) where
    -- at most n steps from the beginning of a block are undone, if those after its end are
    abbrev pub BlocksBack : ℕ → Type 0
    BlocksBack n =
        (k : ℕ) → k ≤ n → (C : G.Context) (past b : Statements) (params : ℕ) (around : List Open) (st : State)
        → G.Typed C b → G.Good C st
        → OnBehind k b st (λ end. config_before (gone_past b past) End params around end)
        → AllBack k (config_before past b params around st)

    -- what a block leads to is good, and so is what a statement leads to
    pub good_behind : (C : G.Context) (b : Statements) (st end : State) (cost : ℕ) → G.Typed C b → G.Good C st
        → Runs setting b st end cost → G.Good C end
    good_behind C b st end cost typed good runs =
        G.keeps C cost b st end cost typed good (runs.by cost (let z : cost ≤ cost = omega arith in z))

    pub good_past : (C : G.Context) (s : Statement) (st end : State) (cost : ℕ) → G.Typed C (Then s End)
        → G.Good C st → Does setting s st end cost → G.Good C end
    good_past C s st end cost typed good does =
        good_behind C (Then s End) st end (1 + (cost + 0)) typed good
        (runs_then setting s End st end end cost 0 (1 + (cost + 0)) does (runs_end setting end) refl)
