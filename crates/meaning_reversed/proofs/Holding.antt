-- Blocks with a local variable, `construct` and calls on elements among them, each step undone.
use Rattle.std.proofs.Common.{◌≡◌, ℕ, ◌+◌, ◌≤◌, ◌∙◌, arith, refl, sym, ap, subst, Bool, false, not, List, ◌∷◌, Some, Ok}
use Rattle.std.proofs.Common.{Result, Err}
use Rattle.meaning_machine.specs.rpp_tree.declared.tree.Ident.{Ident}
use Rattle.meaning_machine.specs.rpp_tree.declared.tree.Var.{Var}
use Rattle.meaning_machine.specs.rpp_tree.Tree.{Expression, Null, Item, Statement, Statements, Construct, Local, Call}
use Rattle.meaning_machine.specs.rpp_tree.Tree.{End, Then, nodes}
use Rattle.meaning_machine.specs.class_rules.Expressions.{occurs}
use Rattle.meaning_inverse.specs.inverse_rules.Inverse.{inverse_statement, inverse}
use Rattle.meaning_machine.specs.roopl_semantics.Run.{Done, after_cost, ◌>>=◌, give, fault_if}
use Rattle.meaning_machine.specs.roopl_semantics.Store.{Value, Nil, State, same_value}
use Rattle.meaning_machine.specs.roopl_semantics.Value.{Slot, read, value as value_in, evaluated}
use Rattle.meaning_machine.specs.roopl_semantics.Execution.{Setting, statement, exec, opened, closed, with_local}
use Rattle.meaning_machine.specs.roopl_semantics.Execution.{constructed, element_call, element_name, DELOCAL}
use Rattle.meaning_machine.specs.Machine.{Config, Open, Holding, inside, held_local, left, begun}
use Rattle.meaning_machine.specs.MachineLaws.{gone_past, config_before}
use Rattle.meaning_machine.specs.Turned.{each_undone, turn, unwound}
use Rattle.meaning_inverse.proofs.Runs.{Runs, Does, done_then, done_given, given_done, passes}
use Rattle.meaning_inverse.proofs.Later.{IsSound, Ends, ends_on, ends_done, exec_later, frame_names}
use Rattle.meaning_inverse.proofs.Seen.{is_same_value, same_value_itself}
use Rattle.meaning_inverse.proofs.Scopes.{value_under, reopened, constructed_inverse}
use Rattle.meaning_inverse.proofs.Ground.{Ground}
use Rattle.meaning_machine.specs.Reversed.{begun_back}
use Rattle.meaning_reversed.specs.ReverseLaws.{LeadsTo}
use Rattle.meaning_reversed.proofs.Undoing.{ends_valued, unwound_gone, Leads, step_by_step, OnPast, BlocksBack}
use Rattle.std.proofs.lemmas.Bool.{not-false}
use Rattle.meaning_machine.proofs.Back.{undone_block}
use Rattle.meaning_inverse.proofs.ElementsKept.{checked_ends}

abbrev value_or : Result Value ℕ → Value
value_or (Ok x) = x
value_or (Err e) = Nil

module _ (setting : Setting) (s : Statement) (name : List ℕ) (value : Expression) (body : Statements)
    (end_value : Expression) where
  -- a statement that means a block with a local variable, and so does its inverse
  pub record IsScope : Type 0 where
    pub none : occurs name value ≡ false
    pub none_end : occurs name end_value ≡ false
    pub begins : (x : Config) (rest : Statements) → begun setting x s rest
        ≡ held_local setting x s rest name value body end_value
    pub means : (m : ℕ) (st : State) → statement setting m (exec setting m) s st
        ≡ with_local setting (exec setting m) name value body end_value st
    pub back : (x : Config) (rest : Statements) → begun_back setting x (inverse_statement s) rest
        ≡ held_local setting x (inverse_statement s) rest name end_value (inverse body) value

  module _ (scope : IsScope) (past rest : Statements) (params : ℕ) (around : List Open) where
    abbrev held : Open
    held = record { past = past; here = s; rest = rest; part = Holding name value end_value }

    -- its variable appears
    scope_entered : (st : State) (v : Value) → value_in setting.program st value ≡ Ok v
        → let x = config_before past (Then s rest) params around st in
        LeadsTo setting x (inside x s rest (Holding name value end_value) body (opened name v st))
    scope_entered st v is =
        let x = config_before past (Then s rest) params around st in
        record {
          cost = nodes value + (0 + 0);
          steps =
              ap (λ q. q >>= (λ w. fault_if DELOCAL (not (same_value v w)) >>= (λ u. give (turn x))))
              (done_given (nodes value) (value_in setting.program (opened name v st) value) v
              (value_under setting.program name v st value scope.none ∙ is))
              ∙ ap (λ b. after_cost (nodes value) (fault_if DELOCAL (not b) >>= (λ u. give (turn x))))
              (same_value_itself v);
        }

    -- its variable goes
    scope_left : (p : Statements) (end : State) (w : Value) → unwound p End ≡ body
        → value_in setting.program (closed end) end_value ≡ Ok w → opened name w (closed end) ≡ end
        → LeadsTo setting (config_before p End params (held ∷ around) end) (left held around params (closed end))
    scope_left p end w placed is same =
        let y = left held around params (closed end) in
        let into : Statements → State → Config = λ b st. inside (turn y) (inverse_statement s) (each_undone past)
        (Holding name end_value value) b st in
        record {
          cost = 1 + (nodes end_value + 0);
          steps =
              ap (after_cost 1) (scope.back (turn y) (each_undone past))
              ∙ ap (λ q. after_cost 1 (q >>= (λ v. give (into (inverse body) (opened name v (closed end))))))
              (done_given (nodes end_value) (value_in setting.program (closed end) end_value) w is)
              ∙ ap (λ st. Done (into (inverse body) st) (1 + (nodes end_value + 0))) same
              ∙ ap (λ b. Done (into b end) (1 + (nodes end_value + 0))) (undone_block p body placed);
        }

    -- what it does, put together
    scope_does : (st end : State) (v w : Value) (cost : ℕ)
        → evaluated setting.program value st ≡ Done v (nodes value) → Runs setting body (opened name v st) end cost
        → evaluated setting.program end_value end ≡ Done w (nodes end_value)
        → not (same_value (read end (Slot 0)) w) ≡ false
        → Does setting s st (closed end) (nodes value + (cost + nodes end_value))
    scope_does st end v w cost e runs f check = record {
      by = λ m le. scope.means m st
          ∙ done_then (evaluated setting.program value st) _ v (closed end) (nodes value) (cost + nodes end_value)
          (nodes value + (cost + nodes end_value)) e
          (done_then (exec setting m body (opened name v st)) _ end (closed end) cost (nodes end_value)
          (cost + nodes end_value) (runs.by m (omega arith))
          (done_then (evaluated setting.program end_value end) _ w (closed end) (nodes end_value) 0 (nodes end_value) f
          (done_then (fault_if DELOCAL (not (same_value (read end (Slot 0)) w))) _ tt (closed end) 0 0 0
          (passes DELOCAL (not (same_value (read end (Slot 0)) w)) check) refl refl) (omega arith)) refl) refl;
    }

    module _ (G : Ground setting) (n : ℕ) (ih : BlocksBack setting G n) where
      -- the state at the end of its block, opened again
      shape : (st end : State) (v w : Value) (cost : ℕ) → IsSound st → Runs setting body (opened name v st) end cost
          → not (same_value (read end (Slot 0)) w) ≡ false → end ≡ opened name w (closed end)
      shape st end v w cost sound runs check =
          let later = exec_later setting cost body (opened name v st) end cost
          (record { unique = sound.unique; drawn = sound.drawn; positive = sound.positive })
          (runs.by cost (let z : cost ≤ cost = omega arith in z)) in
          reopened name (frame_names st.frame) end later.names
          ∙ ap (λ x. opened name x (closed end)) (is_same_value (read end (Slot 0)) w
          (not-false (same_value (read end (Slot 0)) w) check))

      -- the statement, and all that comes after it
      pub scope_back : (k : ℕ) → k ≤ n → (st : State) → IsSound st
          → ((v : Value) → value_in setting.program st value ≡ Ok v
          → (inner : G.Context) × G.Good inner (opened name v st) × G.Typed inner body)
          → OnPast setting k s st (config_before (Then s past) rest params around)
          → let x = config_before past (Then s rest) params around st in
          Ends (begun setting x s rest) (Leads setting k x)
      scope_back k le st sound enter on =
          let x = config_before past (Then s rest) params around st in
          let y : Value → Config = λ v. inside x s rest (Holding name value end_value) body (opened name v st) in
          subst (λ r. Ends r (Leads setting k x)) (sym (scope.begins x rest))
          (ends_on (evaluated setting.program value st) (λ v. give (y v)) _ (Leads setting k x)
          (ends_valued setting value st) (λ v e.
          let is = (given_done (nodes value) (value_in setting.program st value) v (nodes value) e).0 in
          let within = enter v is in
          ends_done (y v) 0 (Leads setting k x) (
            scope_entered st v is,
            ih k le within.0 End body params (held ∷ around) (opened name v st) within.2 within.1
                (λ j lj end cost runs.
                let z = config_before (gone_past body End) End params (held ∷ around) end in
                let q = left held around params (closed end) in
                step_by_step setting j z (λ i li.
                ends_on (evaluated setting.program end_value end) (λ w. fault_if DELOCAL
                (not (same_value (read end (Slot 0)) w)) >>= (λ u. give q)) _ (Leads setting i z)
                (ends_valued setting end_value end) (λ w f.
                ends_on (fault_if DELOCAL (not (same_value (read end (Slot 0)) w))) (λ u. give q) _
                (Leads setting i z) (checked_ends DELOCAL (not (same_value (read end (Slot 0)) w)))
                (λ u check.
                let formed = shape st end v w cost sound runs check in
                let is_w = (given_done (nodes end_value) (value_in setting.program end end_value) w (nodes end_value)
                f).0 in
                ends_done q 0 (Leads setting i z) (
                  scope_left (gone_past body End) end w (unwound_gone body End)
                      (sym (value_under setting.program name w (closed end) end_value scope.none_end)
                      ∙ ap (λ t. value_in setting.program t end_value) (sym formed) ∙ is_w) (sym formed),
                  on i (omega arith) (closed end) (nodes value + (cost + nodes end_value))
                      (scope_does st end v w cost e runs f check),
                ))))),
          )))

module _ (setting : Setting) (G : Ground setting) (n : ℕ) (ih : BlocksBack setting G n) (C : G.Context)
    (past rest : Statements) (params : ℕ) (around : List Open) (k : ℕ) (le : k ≤ n) (st : State)
    (good : G.Good C st) where
  abbrev Back : Statement → Type 0
  Back s = let x = config_before past (Then s rest) params around st in
      G.Typed C (Then s End) → OnPast setting k s st (config_before (Then s past) rest params around)
      → Ends (begun setting x s rest) (Leads setting k x)

  pub local_back : (at : ℕ) (var : Var) (value : Expression) (body : Statements) (end_var : Var)
      (end_value : Expression) → Back (Local at var value body end_var end_value)
  local_back at var value body end_var end_value typed on =
      let s = Local at var value body end_var end_value in
      let words = G.local_words C at var value body end_var end_value typed in
      scope_back setting s var.name.text value body end_value (record {
        none = words.0;
        none_end = words.1;
        begins = λ x rest. refl;
        means = λ m st. refl;
        back = λ x rest. ap (λ t. held_local setting x (inverse_statement s) rest t end_value (inverse body) value)
            words.2;
      }) past rest params around G n ih k le st (G.sound C st good)
      (λ v is. G.local C at var value body end_var end_value st v typed good is) on

  -- the value of a variable that begins with nil
  nil_first : (name : List ℕ) (body : Statements) (at : ℕ)
      → (inner : G.Context) × G.Good inner (opened name Nil st) × G.Typed inner body
      → (v : Value) → value_in setting.program st (Null at) ≡ Ok v
      → (inner : G.Context) × G.Good inner (opened name v st) × G.Typed inner body
  nil_first name body at inner v is =
      let nil : Nil ≡ v = ap (λ r. value_or r) is in
      let P : Value → Type 0 = λ x. G.Good inner.0 (opened name x st) in
      (inner.0, subst P nil inner.1, inner.2)

  pub construct_back : (at : ℕ) (class name : Ident) (body : Statements) (end : Ident)
      → Back (Construct at class name body end)
  construct_back at class name body end typed on =
      let s = Construct at class name body end in
      let whole = constructed at class name body in
      scope_back setting s name.text (Null at) whole (Null at) (record {
        none = refl;
        none_end = refl;
        begins = λ x rest. refl;
        means = λ m st. refl;
        back = λ x rest. ap (λ b. held_local setting x (inverse_statement s) rest name.text (Null at) b (Null at))
            (sym (constructed_inverse at class name body));
      }) past rest params around G n ih k le st (G.sound C st good)
      (nil_first name.text whole at (G.construct C at class name body end st typed good)) on

  pub element_back : (at : ℕ) (back : Bool) (name : Ident) (index : Expression) (method : Ident) (args : List Ident)
      → Back (Call at back (Some (Item name index)) method args)
  element_back at back name index method args typed on =
      let s = Call at back (Some (Item name index)) method args in
      let whole = element_call at back name index method args in
      scope_back setting s (element_name at).text (Null at) whole (Null at) (record {
        none = refl;
        none_end = refl;
        begins = λ x rest. refl;
        means = λ m st. refl;
        back = λ x rest. refl;
      }) past rest params around G n ih k le st (G.sound C st good)
      (nil_first (element_name at).text whole at (G.element C at back name index method args st typed good)) on
