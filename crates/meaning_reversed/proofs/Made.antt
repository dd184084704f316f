-- `new` and `delete`, each undone by the reversed machine together with their request.
use Rattle.std.proofs.Common.{◌≡◌, ℕ, ◌+◌, ◌≤◌, ◌∙◌, arith, refl, ap, List}
use Rattle.meaning_machine.specs.rpp_tree.Tree.{Creation, Object as AnObject, Ints, Objects, Lvalue, Statement, Statements, New, Delete}
use Rattle.meaning_machine.specs.rpp_tree.Tree.{End, Then}
use Rattle.meaning_inverse.specs.inverse_rules.Inverse.{inverse_statement}
use Rattle.meaning_machine.specs.buddy_book.Place.{count_taken}
use Rattle.meaning_machine.specs.roopl_semantics.Run.{More, after_cost, ◌>>=◌, give}
use Rattle.meaning_machine.specs.roopl_semantics.Store.{State}
use Rattle.meaning_machine.specs.roopl_semantics.Execution.{Setting, Runner, statement, exec}
use Rattle.meaning_inverse.specs.meaning_sound.Sound.{Descending}
use Rattle.meaning_machine.specs.Machine.{Config, Open, past_it, begun}
use Rattle.meaning_machine.specs.MachineLaws.{config_before}
use Rattle.meaning_machine.specs.Turned.{each_undone, turn}
use Rattle.meaning_inverse.proofs.Runs.{does_of}
use Rattle.meaning_inverse.proofs.Later.{Ends, ends_on, ends_done}
use Rattle.meaning_inverse.proofs.Ground.{Ground}
use Rattle.meaning_reversed.proofs.Undoing.{ends_so, Leads, OnPast, good_past}
use Rattle.meaning_reversed.proofs.Requests.{new_taken_back, delete_taken_back}

-- the machine does a statement that makes or deletes with no iterations of loops and no blocks
abbrev no_blocks : Runner
no_blocks body st = More

module _ (setting : Setting) where
  -- it does the same with any fuel
  new_with : (n : ℕ) (run : Runner) (at : ℕ) (made : Creation) (target : Lvalue) (st : State)
      → statement setting n run (New at made target) st ≡ statement setting 0 no_blocks (New at made target) st
  new_with n run at (AnObject class) target st = refl
  new_with n run at (Ints size) target st = refl
  new_with n run at (Objects class size) target st = refl

  delete_with : (n : ℕ) (run : Runner) (at : ℕ) (made : Creation) (target : Lvalue) (st : State)
      → statement setting n run (Delete at made target) st ≡ statement setting 0 no_blocks (Delete at made target) st
  delete_with n run at (AnObject class) target st = refl
  delete_with n run at (Ints size) target st = refl
  delete_with n run at (Objects class size) target st = refl

  module _ (G : Ground setting)
      (fresh : (C : G.Context) (st : State) → G.Good C st → Descending (2 + count_taken st.log) st.store)
      (k : ℕ) (C : G.Context) (past rest : Statements) (params : ℕ) (around : List Open) (st : State)
      (good : G.Good C st) (at : ℕ) (made : Creation) (target : Lvalue) where
    abbrev going : Statement → State → Config
    going s st = config_before past (Then s rest) params around st

    abbrev gone_on : Statement → State → Config
    gone_on s st = config_before (Then s past) rest params around st

    -- `new`, and all that comes after it
    pub new_back : let s = New at made target in
        G.Typed C (Then s End) → OnPast setting k s st (gone_on s)
        → Ends (begun setting (going s st) s rest) (Leads setting k (going s st))
    new_back typed on =
        let s = New at made target in
        let x = going s st in
        ends_on (statement setting 0 no_blocks s st) (λ end. give (past_it x s rest end)) _ (Leads setting k x)
        (ends_so (statement setting 0 no_blocks s st)) (λ end e.
        let y = gone_on s end in
        let does = does_of setting 0 s st end e.0 (new_with 0 (exec setting 0) at made target st ∙ e.1) in
        let taken = new_taken_back setting G C st good 0 no_blocks at made target end e.0 typed e.1 in
        ends_done y 0 (Leads setting k x) (
          record {
            cost = _;
            steps = ap (λ q. after_cost 1 (q >>= (λ t. give (past_it (turn y) (inverse_statement s)
                (each_undone past) t)))) taken;
          },
          on k (let z : k ≤ k = omega arith in z) end e.0 does,
        ))

    -- `delete`, and all that comes after it
    pub delete_back : let s = Delete at made target in
        G.Typed C (Then s End) → OnPast setting k s st (gone_on s)
        → Ends (begun setting (going s st) s rest) (Leads setting k (going s st))
    delete_back typed on =
        let s = Delete at made target in
        let x = going s st in
        ends_on (statement setting 0 no_blocks s st) (λ end. give (past_it x s rest end)) _ (Leads setting k x)
        (ends_so (statement setting 0 no_blocks s st)) (λ end e.
        let y = gone_on s end in
        let does = does_of setting 0 s st end e.0 (delete_with 0 (exec setting 0) at made target st ∙ e.1) in
        let given = delete_taken_back setting G C st good (2 + count_taken st.log) (fresh C st good) 0 no_blocks at made
        target end e.0 typed (good_past setting G C s st end e.0 typed good does) e.1 in
        ends_done y 0 (Leads setting k x) (
          record {
            cost = _;
            steps = ap (λ q. after_cost 1 (q >>= (λ t. give (past_it (turn y) (inverse_statement s)
                (each_undone past) t)))) given;
          },
          on k (let z : k ≤ k = omega arith in z) end e.0 does,
        ))
