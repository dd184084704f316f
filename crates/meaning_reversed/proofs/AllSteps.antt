-- Each step from the beginning of a typed block in a good state is undone.
use Rattle.std.proofs.Common.{◌≡◌, ℕ, zero, suc, ◌+◌, ◌≤◌, arith, refl, sym, ap, subst, List, Some, None}
use Rattle.meaning_machine.specs.rpp_tree.Tree.{Statement, Statements, Update, Swap, If, From, Construct, Local, New}
use Rattle.meaning_machine.specs.rpp_tree.Tree.{Delete, Copy}
use Rattle.meaning_machine.specs.rpp_tree.Tree.{Uncopy, Call, Skip, Whole, Item, End, Then}
use Rattle.meaning_machine.specs.buddy_book.Place.{count_taken}
use Rattle.meaning_machine.specs.roopl_semantics.Run.{Done}
use Rattle.meaning_machine.specs.roopl_semantics.Store.{State}
use Rattle.meaning_machine.specs.roopl_semantics.Execution.{Setting}
use Rattle.meaning_inverse.specs.meaning_sound.Sound.{Descending}
use Rattle.meaning_machine.specs.Machine.{Config, Open, begun, next}
use Rattle.meaning_machine.specs.MachineLaws.{gone_past, config_before}
use Rattle.meaning_inverse.proofs.Runs.{runs_end, runs_then}
use Rattle.meaning_inverse.proofs.Later.{Ends}
use Rattle.meaning_inverse.proofs.Ground.{Ground}
use Rattle.meaning_reversed.proofs.Undoing.{ends_spent, unwound_gone, AllBack, Leads, step_by_step, OnPast}
use Rattle.meaning_reversed.proofs.Undoing.{BlocksBack, good_past}
use Rattle.meaning_reversed.proofs.Simple.{IsPlainSimple, simple_back}
use Rattle.meaning_reversed.proofs.Branches.{if_back, from_back}
use Rattle.meaning_reversed.proofs.Holding.{local_back, construct_back, element_back}
use Rattle.meaning_reversed.proofs.Made.{new_back, delete_back}
use Rattle.meaning_reversed.proofs.CallsBack.{CallOpened}
use Rattle.meaning_reversed.proofs.CallsBackOpened.{own_call_back, call_back}

module _ (setting : Setting) (G : Ground setting)
    (fresh : (C : G.Context) (st : State) → G.Good C st → Descending (2 + count_taken st.log) st.store) where
  module _ (n : ℕ) (ih : BlocksBack setting G n) (k : ℕ) (le : k ≤ n) (C : G.Context) (past rest : Statements)
      (params : ℕ) (around : List Open) (st : State) (good : G.Good C st) where
    abbrev here : Statement → Config
    here s = config_before past (Then s rest) params around st

    abbrev On : Statement → Type 0
    On s = OnPast setting k s st (config_before (Then s past) rest params around)

    -- a call, its method, and all that comes after it
    through : (s : Statement) → ((y : Config) (c : ℕ) → next setting (here s) ≡ Done y c
        → CallOpened setting G past rest params around st s y) → On s
        → Ends (next setting (here s)) (Leads setting k (here s))
    through s opened on = record { by = λ y c e. by y (opened y c e) }
      where
        by : (y : Config) → CallOpened setting G past rest params around st s y → Leads setting k (here s) y
        by y o =
            let begin : config_before End y.rest y.params y.around y.state ≡ y =
            ap (λ p. record y { past = p }) (sym o.fresh)
            in (
              o.undone,
              subst (AllBack setting k) begin (ih k le o.inner End y.rest y.params y.around y.state o.typed o.good
                  (λ j lj end cost runs.
                  let z = config_before (gone_past y.rest End) End y.params y.around end in
                  step_by_step setting j z (λ i li. record {
                    by = λ q d f. (let l = o.leaves (gone_past y.rest End) end cost (unwound_gone y.rest End) runs q d f
                        in (
                          l.undone,
                          subst (AllBack setting i) (sym l.is) (on i (omega arith) l.end l.cost l.does),
                        ));
                  }))),
            )

    simply_back : (s : Statement) → IsPlainSimple s → G.Typed C (Then s End) → On s
        → Ends (next setting (here s)) (Leads setting k (here s))
    simply_back s simple typed on =
        ends_spent 1 (begun setting (here s) s rest) (Leads setting k (here s))
        (simple_back setting G k C past rest params around st s simple typed good on)

    -- a statement, and all that comes after it
    statement_back : (s : Statement) → G.Typed C (Then s End) → On s
        → Ends (next setting (here s)) (Leads setting k (here s))
    statement_back (Update at op target value) typed on = simply_back (Update at op target value) tt typed on
    statement_back (Swap at left right) typed on = simply_back (Swap at left right) tt typed on
    statement_back (If at test taken other last) typed on =
        let s = If at test taken other last in
        ends_spent 1 (begun setting (here s) s rest) (Leads setting k (here s))
        (if_back setting G n ih C past rest params around k le st at test taken other last typed good on)
    statement_back (From at entry one two exit) typed on =
        let s = From at entry one two exit in
        ends_spent 1 (begun setting (here s) s rest) (Leads setting k (here s))
        (from_back setting G n ih C past rest params around at entry one two exit typed k le st good on)
    statement_back (Construct at class name body end) typed on =
        let s = Construct at class name body end in
        ends_spent 1 (begun setting (here s) s rest) (Leads setting k (here s))
        (construct_back setting G n ih C past rest params around k le st good at class name body end typed on)
    statement_back (Local at var value body end_var end_value) typed on =
        let s = Local at var value body end_var end_value in
        ends_spent 1 (begun setting (here s) s rest) (Leads setting k (here s))
        (local_back setting G n ih C past rest params around k le st good at var value body end_var end_value typed on)
    statement_back (New at made target) typed on =
        let s = New at made target in
        ends_spent 1 (begun setting (here s) s rest) (Leads setting k (here s))
        (new_back setting G fresh k C past rest params around st good at made target typed on)
    statement_back (Delete at made target) typed on =
        let s = Delete at made target in
        ends_spent 1 (begun setting (here s) s rest) (Leads setting k (here s))
        (delete_back setting G fresh k C past rest params around st good at made target typed on)
    statement_back (Copy at kind source target) typed on = simply_back (Copy at kind source target) tt typed on
    statement_back (Uncopy at kind source target) typed on = simply_back (Uncopy at kind source target) tt typed on
    statement_back (Call at back None method args) typed on =
        through (Call at back None method args)
        (λ y c e. own_call_back setting G C at back method args past rest params around st y c typed good e) on
    statement_back (Call at back (Some (Whole name)) method args) typed on =
        through (Call at back (Some (Whole name)) method args)
        (λ y c e. call_back setting G C at back name method args past rest params around st y c typed good e) on
    statement_back (Call at back (Some (Item name index)) method args) typed on =
        let s = Call at back (Some (Item name index)) method args in
        ends_spent 1 (begun setting (here s) s rest) (Leads setting k (here s))
        (element_back setting G n ih C past rest params around k le st good at back name index method args typed on)
    statement_back (Skip at) typed on = simply_back (Skip at) tt typed on

  -- so many steps from the beginning of a block
  pub all_back : (n : ℕ) → BlocksBack setting G n
  all_back n k le C past End params around st typed good on =
      on k (let z : k ≤ k = omega arith in z) st 0 (runs_end setting st)
  all_back n zero le C past (Then s rest) params around st typed good on = tt
  all_back zero (suc k) le C past (Then s rest) params around st typed good on = absurd (omega arith)
  all_back (suc n) (suc k) le C past (Then s rest) params around st typed good on =
      λ going. statement_back n (all_back n) k (omega arith) C past rest params around st good s
      (G.alone C s rest typed) (λ i li mid c does.
      all_back n i (omega arith) C (Then s past) rest params around mid (G.rest C s rest typed)
      (good_past setting G C s st mid c (G.alone C s rest typed) good does) (λ j lj end d runs.
      on j (omega arith) end (1 + (c + d)) (runs_then setting s rest st mid end c d (1 + (c + d)) does runs refl)))
