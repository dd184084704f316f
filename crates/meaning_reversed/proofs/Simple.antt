-- Statements that hold no block, make nothing and delete nothing, undone.
use Rattle.std.proofs.Common.{◌≡◌, ℕ, ◌≤◌, ◌∙◌, arith, refl, sym, ap, subst, List}
use Rattle.meaning_machine.specs.rpp_tree.Tree.{Statement, Statements, Update, Swap, Copy, Uncopy, Skip, End, Then}
use Rattle.meaning_inverse.specs.inverse_rules.Inverse.{inverse_statement}
use Rattle.meaning_machine.specs.roopl_semantics.Run.{Run, Done, More, after_cost, give}
use Rattle.meaning_machine.specs.roopl_semantics.Store.{State}
use Rattle.meaning_machine.specs.roopl_semantics.Execution.{Setting, statement, exec}
use Rattle.meaning_machine.specs.Machine.{Config, Open, past_it, simply, begun}
use Rattle.meaning_machine.specs.MachineLaws.{config_before}
use Rattle.meaning_machine.specs.Turned.{each_undone, turn}
use Rattle.meaning_machine.proofs.Back.{simple_done}
use Rattle.meaning_inverse.proofs.Runs.{Does, does_of, done_result}
use Rattle.meaning_inverse.proofs.Later.{Ends, ends_on, ends_done}
use Rattle.meaning_inverse.proofs.Ground.{Ground}
use Rattle.meaning_inverse.proofs.Equal.{update_equal, swap_equal, copy_equal, uncopy_equal}
use Rattle.meaning_machine.specs.Reversed.{begun_back}
use Rattle.meaning_reversed.proofs.Undoing.{ends_so, leads, Leads, OnPast, good_past}

-- whether a statement holds no block, and makes and deletes nothing
abbrev pub IsPlainSimple : Statement → Type 0
IsPlainSimple (Update at op target value) = Unit {0}
IsPlainSimple (Swap at left right) = Unit {0}
IsPlainSimple (Copy at kind source target) = Unit {0}
IsPlainSimple (Uncopy at kind source target) = Unit {0}
IsPlainSimple (Skip at) = Unit {0}
IsPlainSimple _ = ⊥

-- what such a statement does with no iterations of loops and no blocks
abbrev at_once : Setting → Statement → State → Run State
at_once setting s st = statement setting 0 (λ body st. More) s st

module _ (setting : Setting) where
  -- so it begins
  begun_simply : (s : Statement) → IsPlainSimple s → (x : Config) (rest : Statements)
      → begun setting x s rest ≡ simply setting x s rest
  begun_simply (Update at op target value) h x rest = refl
  begun_simply (Swap at left right) h x rest = refl
  begun_simply (Copy at kind source target) h x rest = refl
  begun_simply (Uncopy at kind source target) h x rest = refl
  begun_simply (Skip at) h x rest = refl
  begun_simply _ h x rest = absurd h

  -- and so it is undone
  undone_simply : (s : Statement) → IsPlainSimple s → (x : Config) (rest : Statements)
      → begun setting x (inverse_statement s) rest ≡ simply setting x (inverse_statement s) rest
  undone_simply (Update at op target value) h x rest = refl
  undone_simply (Swap at left right) h x rest = refl
  undone_simply (Copy at kind source target) h x rest = refl
  undone_simply (Uncopy at kind source target) h x rest = refl
  undone_simply (Skip at) h x rest = refl
  undone_simply _ h x rest = absurd h

  back_simply : (s : Statement) → IsPlainSimple s → (x : Config) (rest : Statements)
      → begun_back setting x (inverse_statement s) rest ≡ begun setting x (inverse_statement s) rest
  back_simply (Update at op target value) h x rest = refl
  back_simply (Swap at left right) h x rest = refl
  back_simply (Copy at kind source target) h x rest = refl
  back_simply (Uncopy at kind source target) h x rest = refl
  back_simply (Skip at) h x rest = refl
  back_simply _ h x rest = absurd h

  -- it does the same with any fuel, and so does its inverse
  any_fuel : (s : Statement) → IsPlainSimple s → (n : ℕ) (st : State)
      → statement setting n (exec setting n) s st ≡ at_once setting s st
  any_fuel (Update at op target value) h n st = refl
  any_fuel (Swap at left right) h n st = refl
  any_fuel (Copy at kind source target) h n st = refl
  any_fuel (Uncopy at kind source target) h n st = refl
  any_fuel (Skip at) h n st = refl
  any_fuel _ h n st = absurd h

  undone_at_once : (s : Statement) → IsPlainSimple s → (n : ℕ) (st : State)
      → statement setting n (exec setting n) (inverse_statement s) st ≡ at_once setting (inverse_statement s) st
  undone_at_once (Update at op target value) h n st = refl
  undone_at_once (Swap at left right) h n st = refl
  undone_at_once (Copy at kind source target) h n st = refl
  undone_at_once (Uncopy at kind source target) h n st = refl
  undone_at_once (Skip at) h n st = refl
  undone_at_once _ h n st = absurd h

  module _ (G : Ground setting) where
    -- its inverse undoes it
    inverse_does : (s : Statement) → IsPlainSimple s → (C : G.Context) (a b : State) (c : ℕ)
        → G.Typed C (Then s End) → G.Good C a → G.Good C b
        → statement setting 0 (exec setting 0) s a ≡ Done b c → Does setting (inverse_statement s) b a c
    inverse_does (Update at op target value) h C a b c typed good good_b e =
        update_equal setting G 0 C at a b c good good_b op target value typed e
    inverse_does (Swap at left right) h C a b c typed good good_b e =
        swap_equal setting G 0 C at a b c good good_b left right typed e
    inverse_does (Copy at kind source target) h C a b c typed good good_b e =
        copy_equal setting G 0 C at a b c good good_b kind source target typed e
    inverse_does (Uncopy at kind source target) h C a b c typed good good_b e =
        uncopy_equal setting G 0 C at a b c good good_b kind source target typed e
    inverse_does (Skip at) h C a b c typed good good_b e =
        let P : State → State → Type 0 = λ x y. statement setting 0 (exec setting 0) (Skip at) x ≡ Done y c in
        does_of setting 0 (Skip at) b a c
        (let z : a ≡ b = done_result a b 0 c e in
        subst (λ x. P x a) z (subst (λ y. P a y) (sym z) e))
    inverse_does _ h C a b c typed good good_b e = absurd h

    -- a simple statement, and all that comes after it
    pub simple_back : (k : ℕ) (C : G.Context) (past rest : Statements) (params : ℕ) (around : List Open) (st : State)
        (s : Statement) → IsPlainSimple s → G.Typed C (Then s End) → G.Good C st
        → OnPast setting k s st (config_before (Then s past) rest params around)
        → Ends (begun setting (config_before past (Then s rest) params around st) s rest)
        (Leads setting k (config_before past (Then s rest) params around st))
    simple_back k C past rest params around st s simple typed good on =
        let x = config_before past (Then s rest) params around st in
        subst (λ (r : Run Config). Ends r (Leads setting k x)) (sym (begun_simply s simple x rest))
        (ends_on (at_once setting s st) (λ end. give (past_it x s rest end)) _ (Leads setting k x)
        (ends_so (at_once setting s st)) (λ end e.
        let y = config_before (Then s past) rest params around end in
        let runs : statement setting 0 (exec setting 0) s st ≡ Done end e.0 = any_fuel s simple 0 st ∙ e.1 in
        let does = does_of setting 0 s st end e.0 runs in
        let undo = inverse_does s simple C st end e.0 typed good
        (good_past setting G C s st end e.0 typed good does) runs in
        let goes : at_once setting (inverse_statement s) end ≡ Done st e.0 =
        sym (undone_at_once s simple e.0 end) ∙ undo.by e.0 (let z : e.0 ≤ e.0 = omega arith in z) in
        ends_done y 0 (Leads setting k x) (
          leads setting x y (ap (after_cost 1) (back_simply s simple (turn y) (each_undone past)))
              (simple_done setting s past rest params around st end e.0 (undone_simply s simple) goes),
          on k (let z : k ≤ k = omega arith in z) end e.0 does,
        )))
