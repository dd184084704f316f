-- Calls on the own object, and on an object in a variable, are undone, both the step into the
-- method and the step out.
use Rattle.std.proofs.Common.{◌≡◌, ℕ, ◌+◌, refl, sym, ap, subst, ◌∙◌, arith, false, Bool, not, List}
use Rattle.std.proofs.Common.{[], ◌∷◌}
use Rattle.std.proofs.Common.{length, Some, None, nat_lt, get_or}
use Rattle.meaning_machine.specs.rpp_tree.declared.tree.Ident.{Ident}
use Rattle.meaning_machine.specs.rpp_tree.Tree.{Whole, Statement, Statements, Call, End, Then, Procedure}
use Rattle.meaning_machine.specs.class_rules.Classes.{method_named}
use Rattle.meaning_inverse.specs.inverse_rules.Inverse.{inverse_statement}
use Rattle.meaning_machine.specs.roopl_semantics.Run.{Run, Done, ◌>>=◌, give, spend, fault_if}
use Rattle.meaning_machine.specs.roopl_semantics.Store.{Value, Nil, Name, State, is_nil, number_of, object_at}
use Rattle.meaning_machine.specs.roopl_semantics.Store.{class_of_head}
use Rattle.meaning_machine.specs.roopl_semantics.Value.{Cell, cell_named, own_class, read, NIL}
use Rattle.meaning_machine.specs.roopl_semantics.Execution.{Setting, exec, invoked, cells_named, class_of}
use Rattle.meaning_machine.specs.roopl_semantics.Execution.{is_too_deep}
use Rattle.meaning_machine.specs.roopl_semantics.Execution.{TOO_DEEP}
use Rattle.meaning_machine.specs.Machine.{Config, Open, entered, next}
use Rattle.meaning_machine.specs.MachineLaws.{config_before}
use Rattle.meaning_inverse.proofs.Runs.{in_parts, done_then, done_result, passed_check, passes}
use Rattle.meaning_inverse.proofs.Later.{Later}
use Rattle.meaning_inverse.proofs.Ground.{Ground, IsLive}
use Rattle.meaning_inverse.proofs.Calls.{class_later, live_read, cells_later}
use Rattle.meaning_reversed.proofs.CallsBack.{CallOpened, Enters, call_opened}

module _ (setting : Setting) where
  -- names mean the same cells later
  same_cells : (a b : State) → Later a b → own_class b ≡ own_class a → (names : List Ident)
      → cells_named setting b names ≡ cells_named setting a names
  same_cells a b later class [] = refl
  same_cells a b later class (name ∷ names) =
      ap (λ (c : Cell). c ∷ cells_named setting b names)
      (cells_later setting a b later.names later.self class name.text)
      ∙ ap (λ (l : List Cell). cell_named setting.program a name.text ∷ l)
      (same_cells a b later class names)

  not_deeper : (a b : State) → Later a b → is_too_deep setting b ≡ is_too_deep setting a
  not_deeper a b later = ap (λ d. not (nat_lt d setting.limits.deep)) later.depth

module _ (setting : Setting) (G : Ground setting) (C : G.Context) (at : ℕ) (direction : Bool)
    (method : Ident)
    (args : List Ident) (st : State) (good : G.Good C st) where
  -- an object that is live before and after is of its class
  class_stays : (b : State) → G.Good C b → Later st b → own_class b ≡ own_class st
  class_stays b good_b later =
      ap (λ n. class_of_head (object_at b.store n).head) later.self
      ∙ class_later st b st.self (G.sound C st good) later (G.live C st good).self
      (subst (λ (n : ℕ). IsLive b.store n) later.self (G.live C b good_b).self)

  -- ---- calls on the own object

  abbrev own_call : Statement
  own_call = Call at direction None method args

  abbrev own_method : Procedure
  own_method = method_named setting.program (own_class st) method.text

  own_enters : is_too_deep setting st ≡ false
      → Enters setting G C st own_call direction own_method st.self [] (cells_named setting st args)
  own_enters check = record {
    pays = length args;
    runs = λ m end cost e.
        (let run : Run State = invoked setting (exec setting m) direction own_method st.self []
        (cells_named setting st args) st in
        done_then (spend (length args)) (λ u. fault_if TOO_DEEP (is_too_deep setting st) >>=
        (λ w. run)) tt end
        (length args) cost (length args + cost) refl
        (done_then (fault_if TOO_DEEP (is_too_deep setting st)) (λ w. run) tt end 0 cost cost
        (passes TOO_DEEP (is_too_deep setting st) check) e (omega arith)) refl);
    again = λ z good_z later holds rest.
        (let b : State = z.state in
        let into : ℕ → ℕ → List Cell → Config = λ k object cells. entered setting z
        (inverse_statement own_call) rest
        (not direction) (method_named setting.program k method.text) object [] cells in
        let found : Config = into (own_class b) b.self (cells_named setting b args) in
        let wanted : Config = into (own_class st) st.self (cells_named setting st args) in
        let class = class_stays b good_z later in
        let same : found ≡ wanted =
        ap (λ k. into k b.self (cells_named setting b args)) class
        ∙ ap (λ k. into (own_class st) k (cells_named setting b args)) later.self
        ∙ ap (λ l. into (own_class st) st.self l) (same_cells setting st b later class args) in
        done_then (spend (length args)) (λ u. fault_if TOO_DEEP (is_too_deep setting b) >>=
        (λ w. give found)) tt
        wanted (length args) 0 (length args) refl
        (done_then (fault_if TOO_DEEP (is_too_deep setting b)) (λ w. give found) tt wanted 0 0
        0
        (passes TOO_DEEP (is_too_deep setting b) (not_deeper setting st b later ∙ check))
        (ap (λ (x : Config). Done x 0) same) refl) (omega arith));
  }

  own_opened : (past rest : Statements) (params : ℕ) (around : List Open) (y : Config) (c : ℕ)
      → G.Typed C (Then own_call End)
      → next setting (config_before past (Then own_call rest) params around st) ≡ Done y c
      → CallOpened setting G past rest params around st own_call y
  own_opened past rest params around y c typed e =
      let x : Config = config_before past (Then own_call rest) params around st in
      let begins : Config = entered setting x own_call rest direction own_method st.self []
      (cells_named setting st args) in
      let deep : Run Config = fault_if TOO_DEEP (is_too_deep setting st) >>=
      (λ u. give begins) in
      let one = in_parts (spend 1) (λ u. spend (length args) >>= (λ w. deep)) y c e in
      let two = in_parts (spend (length args)) (λ w. deep) y one.after one.second in
      let three = in_parts (fault_if TOO_DEEP (is_too_deep setting st)) (λ u. give begins) y
      two.after two.second
      in
      let check = passed_check TOO_DEEP (is_too_deep setting st) three.middle three.before
      three.first in
      subst (λ (w : Config). CallOpened setting G past rest params around st own_call w)
      (done_result begins y 0 three.after three.second)
      (call_opened setting G C past rest params around st own_call direction own_method st.self []
      (cells_named setting st args) (G.call_own C at direction method args st typed good check.0)
      typed good
      (own_enters check.0))

  -- ---- calls on an object in a variable

  module _ (name : Ident) where
    abbrev call : Statement
    call = Call at direction (Some (Whole name)) method args

    abbrev cell : Cell
    cell = cell_named setting.program st name.text

    enters : (self : ℕ) → read st cell ≡ Name self → is_too_deep setting st ≡ false
        → Enters setting G C st call direction (method_named setting.program
        (class_of setting st self) method.text) self
        (cell ∷ []) (cells_named setting st args)
    enters self is_self check = record {
      pays = length args;
      runs = λ m end cost e.
          (let run : ℕ → Run State = λ n. invoked setting (exec setting m) direction
          (method_named setting.program (class_of setting st n) method.text) n (cell ∷ [])
          (cells_named setting st args)
          st in
          let deep : Run State = fault_if TOO_DEEP (is_too_deep setting st)
          >>= (λ u. run (number_of (read st cell))) in
          done_then (spend (length args)) (λ u. fault_if NIL (is_nil (read st cell)) >>=
          (λ w. deep)) tt end
          (length args) cost (length args + cost) refl
          (done_then (fault_if NIL (is_nil (read st cell))) (λ w. deep) tt end 0 cost cost
          (passes NIL (is_nil (read st cell)) (ap is_nil is_self))
          (done_then (fault_if TOO_DEEP (is_too_deep setting st))
          (λ u. run (number_of (read st cell))) tt end 0
          cost cost (passes TOO_DEEP (is_too_deep setting st) check)
          (ap (λ v. run (number_of v)) is_self ∙ e) (omega arith)) (omega arith)) refl);
      again = λ z good_z later holds rest.
          (let b : State = z.state in
          let into : ℕ → ℕ → Cell → List Cell → Config = λ k object place cells. entered setting z
          (inverse_statement call) rest (not direction) (method_named setting.program k method.text)
          object
          (place ∷ []) cells in
          let place : Cell = cell_named setting.program b name.text in
          let cells : List Cell = cells_named setting b args in
          let found : Value → Config = λ v. into (class_of setting b (number_of v)) (number_of v)
          place cells in
          let wanted : Config = into (class_of setting st self) self cell
          (cells_named setting st args) in
          let class = class_stays b good_z later in
          let there : place ≡ cell = cells_later setting st b later.names later.self class name.text
          in
          let reads : read b cell ≡ Name self = ap (λ l. get_or l 0 Nil) holds ∙ is_self in
          let reads_there : read b place ≡ Name self = ap (read b) there ∙ reads in
          let class_self : class_of setting b self ≡ class_of setting st self =
          class_later st b self (G.sound C st good) later
          (live_read st cell self (G.live C st good) is_self)
          (live_read b cell self (G.live C b good_z) reads) in
          let same : found (read b place) ≡ wanted =
          ap found reads_there
          ∙ ap (λ k. into k self place cells) class_self
          ∙ ap (λ p. into (class_of setting st self) self p cells) there
          ∙ ap (λ l. into (class_of setting st self) self cell l)
          (same_cells setting st b later class args) in
          let deep : Run Config = fault_if TOO_DEEP (is_too_deep setting b)
          >>= (λ u. give (found (read b place))) in
          done_then (spend (length args)) (λ u. fault_if NIL (is_nil (read b place)) >>=
          (λ w. deep)) tt wanted
          (length args) 0 (length args) refl
          (done_then (fault_if NIL (is_nil (read b place))) (λ w. deep) tt wanted 0 0 0
          (passes NIL (is_nil (read b place)) (ap is_nil reads_there))
          (done_then (fault_if TOO_DEEP (is_too_deep setting b))
          (λ u. give (found (read b place))) tt wanted 0 0 0
          (passes TOO_DEEP (is_too_deep setting b) (not_deeper setting st b later ∙ check))
          (ap (λ (x : Config). Done x 0) same) refl) refl) (omega arith));
    }

    opened : (past rest : Statements) (params : ℕ) (around : List Open) (y : Config) (c : ℕ)
        → G.Typed C (Then call End)
        → next setting (config_before past (Then call rest) params around st) ≡ Done y c
        → CallOpened setting G past rest params around st call y
    opened past rest params around y c typed e =
        let x : Config = config_before past (Then call rest) params around st in
        let begins : ℕ → Config = λ n. entered setting x call rest direction
        (method_named setting.program (class_of setting st n) method.text) n (cell ∷ [])
        (cells_named setting st args)
        in
        let number : ℕ = number_of (read st cell) in
        let deep : Run Config = fault_if TOO_DEEP (is_too_deep setting st) >>=
        (λ u. give (begins number)) in
        let nil : Run Config = fault_if NIL (is_nil (read st cell)) >>= (λ u. deep) in
        let one = in_parts (spend 1) (λ u. spend (length args) >>= (λ w. nil)) y c e in
        let two = in_parts (spend (length args)) (λ w. nil) y one.after one.second in
        let three = in_parts (fault_if NIL (is_nil (read st cell))) (λ u. deep) y two.after
        two.second in
        let four = in_parts (fault_if TOO_DEEP (is_too_deep setting st))
        (λ u. give (begins number)) y three.after
        three.second in
        let not_nil = passed_check NIL (is_nil (read st cell)) three.middle three.before
        three.first in
        let check = passed_check TOO_DEEP (is_too_deep setting st) four.middle four.before
        four.first in
        let facts = G.call C at direction name method args st typed good not_nil.0 check.0 in
        let its_number : facts.0 ≡ number = sym (ap number_of facts.1) in
        let is : begins facts.0 ≡ y = ap begins its_number
        ∙ done_result (begins number) y 0 four.after four.second in
        subst (λ (w : Config). CallOpened setting G past rest params around st call w) is
        (call_opened setting G C past rest params around st call direction
        (method_named setting.program (class_of setting st facts.0) method.text) facts.0 (cell ∷ [])
        (cells_named setting st args) facts.2 typed good (enters facts.0 facts.1 check.0))

-- ---- the laws of both

module _ (setting : Setting) (G : Ground setting) where
  pub own_call_back : (C : G.Context) (at : ℕ) (direction : Bool) (method : Ident)
      (args : List Ident)
      (past rest : Statements) (params : ℕ) (around : List Open) (st : State) (y : Config) (c : ℕ)
      → G.Typed C (Then (Call at direction None method args) End) → G.Good C st
      → next setting (config_before past (Then (Call at direction None method args) rest) params around st)
      ≡ Done y c
      → CallOpened setting G past rest params around st (Call at direction None method args) y
  own_call_back C at direction method args past rest params around st y c typed good e =
      own_opened setting G C at direction method args st good past rest params around y c typed e

  pub call_back : (C : G.Context) (at : ℕ) (direction : Bool) (name method : Ident)
      (args : List Ident)
      (past rest : Statements) (params : ℕ) (around : List Open) (st : State) (y : Config) (c : ℕ)
      → G.Typed C (Then (Call at direction (Some (Whole name)) method args) End) → G.Good C st
      → next setting (config_before past (Then (Call at direction (Some (Whole name)) method args) rest)
      params around st)
      ≡ Done y c
      → CallOpened setting G past rest params around st
      (Call at direction (Some (Whole name)) method args) y
  call_back C at direction name method args past rest params around st y c typed good e =
      opened setting G C at direction method args st good name past rest params around y c typed e
