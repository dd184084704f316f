-- The bound on depth never ends a run: if its cost is within the bound, the run is over.
use Rattle.std.proofs.Common.{◌≡◌, ℕ, zero, suc, ◌+◌, ◌-◌, ◌<◌, ◌≤◌, Bool, true, false, cond, not, refl, ap, subst, ◌∙◌}
use Rattle.std.proofs.Common.{arith, List, [], ◌∷◌, length, Some, None}
use Rattle.inverse_rules.specs.rpp_tree.Tree.{Expression, Null, Whole, Item, Object as AnObject, nodes, Number, Variable, Element}
use Rattle.inverse_rules.specs.rpp_tree.Tree.{Binary, Statement, Statements, If, From, Construct, Local, New, Delete, Call, End, Then}
use Rattle.inverse_rules.specs.rpp_tree.Tree.{Procedure}
use Rattle.std.specs.Prelude.{Result, Ok, Err}
use Rattle.roopl_semantics.specs.Run.{Run, Done, Fault, More, after_cost, given, ◌>>=◌, spend, fault_if}
use Rattle.roopl_semantics.specs.Store.{Value, State, number_of, is_nil}
use Rattle.roopl_semantics.specs.Value.{value as value_in, Cell, evaluated, read, cell_named, own_class, NIL}
use Rattle.class_rules.specs.Classes.{method_named}
use Rattle.roopl_semantics.specs.Execution.{Setting, Runner, holds, LOOP, opened, invoked, is_too_deep}
use Rattle.roopl_semantics.specs.Execution.{TOO_DEEP, class_of, cells_named, constructed, element_call}
use Rattle.roopl_semantics.specs.Execution.{element_name, with_local, turn_end, turns, statement, exec}

-- the second run is the first, if that is over at a cost within the bound
abbrev Within : {A : Type 0} → ℕ → Run A → Run A → Type 0
Within bound (Done result cost) run = cost ≤ bound → run ≡ Done result cost
Within bound (Fault code cost) run = cost ≤ bound → run ≡ Fault code cost
Within bound More run = Unit {0}

-- the same below a bound
pub record Alike {A : Type 0} (bound : ℕ) (r s : Run A) : Type 0 where
  by : (j : ℕ) → j < bound → Within j r s

within_itself : {A : Type 0} (j : ℕ) (r : Run A) → Within j r r
within_itself j (Done result cost) = λ h. refl
within_itself j (Fault code cost) = λ h. refl
within_itself j More = tt

pub alike_itself : {A : Type 0} (bound : ℕ) (r : Run A) → Alike bound r r
alike_itself bound r = record { by = λ j h. within_itself j r }

within_after : {A : Type 0} (c j : ℕ) (r s : Run A) → (c ≤ j → Within (j - c) r s)
    → Within j (after_cost c r) (after_cost c s)
within_after c j (Done result cost) s k = λ h. ap (after_cost c) (k (omega arith) (omega arith))
within_after c j (Fault code cost) s k = λ h. ap (after_cost c) (k (omega arith) (omega arith))
within_after c j More s k = tt

-- a cost of at least one leaves a lower bound
alike_spent : {A : Type 0} (bound c : ℕ) (r s : Run A) → 0 < c → Alike bound r s
    → Alike (suc bound) (after_cost c r) (after_cost c s)
alike_spent bound c r s pos k = record { by = λ j h. within_after c j r s (λ le. k.by (j - c) (omega arith)) }

none_within : {A : Type 0} (c j : ℕ) (r s : Run A) → j < c → Within j (after_cost c r) s
none_within c j (Done result cost) s h = λ le. absurd (omega arith)
none_within c j (Fault code cost) s h = λ le. absurd (omega arith)
none_within c j More s h = tt

alike_fewer : {A : Type 0} (low high : ℕ) (r s : Run A) → low ≤ high → Alike high r s → Alike low r s
alike_fewer low high r s h k = record { by = λ j l. k.by j (omega arith) }

within_then : {A B : Type 0} (j bound : ℕ) (r s : Run A) (f g : A → Run B) → j < bound → Within j r s
    → ((a : A) → Alike bound (f a) (g a)) → Within j (r >>= f) (s >>= g)
within_then {B = B} j bound (Done result cost) s f g l k h = within_then_done (f result) (h result)
  where
    within_then_done : (x : Run B) → Alike bound x (g result) → Within j (after_cost cost x) (s >>= g)
    within_then_done (Done b c) a = λ le. ap (λ y. y >>= g) (k (omega arith))
        ∙ ap (after_cost cost) (a.by (j - cost) (omega arith) (omega arith))
    within_then_done (Fault e c) a = λ le. ap (λ y. y >>= g) (k (omega arith))
        ∙ ap (after_cost cost) (a.by (j - cost) (omega arith) (omega arith))
    within_then_done More a = tt
within_then j bound (Fault code cost) s f g l k h = λ le. ap (λ y. y >>= g) (k le)
within_then j bound More s f g l k h = tt

pub alike_then : {A B : Type 0} (bound : ℕ) (r s : Run A) (f g : A → Run B) → Alike bound r s
    → ((a : A) → Alike bound (f a) (g a)) → Alike bound (r >>= f) (s >>= g)
alike_then bound r s f g k h = record { by = λ j l. within_then j bound r s f g l (k.by j l) h }

-- the same start, and then runs that are alike
pub alike_on : {A B : Type 0} (bound : ℕ) (r : Run A) (f g : A → Run B) → ((a : A) → Alike bound (f a) (g a))
    → Alike bound (r >>= f) (r >>= g)
alike_on bound r f g h = alike_then bound r r f g (alike_itself bound r) h

pub some_nodes : (e : Expression) → 0 < nodes e
some_nodes (Number at word) = omega arith
some_nodes (Null at) = omega arith
some_nodes (Variable name) = omega arith
some_nodes (Element name index) = omega arith
some_nodes (Binary at op left right) = omega arith

alike_given : {A B : Type 0} (bound c : ℕ) (v : Result A ℕ) (f g : A → Run B) → 0 < c
    → ((a : A) → Alike bound (f a) (g a)) → Alike (suc bound) (after_cost c (given v) >>= f)
    (after_cost c (given v) >>= g)
alike_given bound c (Ok a) f g pos h = alike_spent bound (c + 0) (f a) (g a) (omega arith) (h a)
alike_given bound c (Err code) f g pos h = alike_itself _ _

module _ (setting : Setting) where
  alike_evaluated : {B : Type 0} (bound : ℕ) (e : Expression) (st : State) (f g : Value → Run B)
      → ((v : Value) → Alike bound (f v) (g v)) → Alike (suc bound) (evaluated setting.program e st >>= f)
      (evaluated setting.program e st >>= g)
  alike_evaluated bound e st f g h = alike_given bound (nodes e) (value_in setting.program st e) f g (some_nodes e) h

module _ (setting : Setting) (run run' : Runner) (bound : ℕ)
    (same : (b : Statements) (st : State) → Alike (suc bound) (run b st) (run' b st)) where
  invoked_alike : (back : Bool) (method : Procedure) (self : ℕ) (receiver args : List Cell) (st : State)
      → Alike (suc bound) (invoked setting run back method self receiver args st)
      (invoked setting run' back method self receiver args st)
  invoked_alike back method self receiver args st =
      alike_then (suc bound) _ _ _ _ (same _ _) (λ end. alike_itself _ _)

  local_alike : (name : List ℕ) (value : Expression) (body : Statements) (end_value : Expression) (st : State)
      → Alike (suc bound) (with_local setting run name value body end_value st)
      (with_local setting run' name value body end_value st)
  local_alike name value body end_value st =
      alike_on (suc bound) (evaluated setting.program value st) _ _
      (λ v. alike_then (suc bound) _ _ _ _ (same body (opened name v st)) (λ end. alike_itself _ _))

  turn_end_alike : (m : ℕ) → m ≤ suc bound → (entry : Expression) (again : Statements) (next next' : State → Run State)
      → ((st : State) → Alike m (next st) (next' st)) → (exits : Bool) (st : State)
      → Alike m (turn_end setting run entry again next exits st) (turn_end setting run' entry again next' exits st)
  turn_end_alike m le entry again next next' alike true st = alike_itself _ _
  turn_end_alike m le entry again next next' alike false st =
      alike_then m _ _ _ _ (alike_fewer m (suc bound) _ _ le (same again st))
      (λ end. alike_on m (evaluated setting.program entry end) _ _
      (λ v. alike_on m (fault_if LOOP (holds v)) _ _ (λ u. alike end)))

  turns_alike : (n m : ℕ) → m ≤ bound → (entry : Expression) (first again : Statements) (exit : Expression) (st : State)
      → Alike m (turns setting n run entry first again exit st) (turns setting m run' entry first again exit st)
  turns_alike zero m le entry first again exit st = record { by = λ j h. tt }
  turns_alike (suc n) zero le entry first again exit st = record { by = λ j h. absurd (omega arith) }
  turns_alike (suc n) (suc m) le entry first again exit st =
      alike_then (suc m) _ _ _ _ (alike_fewer (suc m) (suc bound) _ _ (omega arith) (same first st))
      (λ end. alike_evaluated setting m exit end _ _ (λ v. turn_end_alike m (omega arith) entry again _ _
      (turns_alike n m (omega arith) entry first again exit) (holds v) end))

  statement_alike : (n : ℕ) (s : Statement) (st : State)
      → Alike (suc bound) (statement setting n run s st) (statement setting bound run' s st)
  statement_alike n (If at test taken other after) st =
      alike_on (suc bound) (evaluated setting.program test st) _ _
      (λ v. alike_then (suc bound) _ _ _ _ (same (cond (holds v) taken other) st) (λ end. alike_itself _ _))
  statement_alike n (From at entry first again exit) st =
      alike_evaluated setting bound entry st _ _ (λ v. alike_on bound (fault_if LOOP (not (holds v))) _ _
      (λ u. turns_alike n bound (omega arith) entry first again exit st))
  statement_alike n (Construct at class name body end) st =
      local_alike name.text (Null at) (constructed at class name body) (Null at) st
  statement_alike n (Local at var value body end_var end_value) st = local_alike var.name.text value body end_value st
  statement_alike n (New at (AnObject class) target) st = alike_itself _ _
  statement_alike n (Delete at (AnObject class) target) st = alike_itself _ _
  statement_alike n (Call at back None method args) st =
      alike_on (suc bound) (spend (length args)) _ _ (λ u. alike_on (suc bound)
      (fault_if TOO_DEEP (is_too_deep setting st)) _ _ (λ w.
      invoked_alike back (method_named setting.program (own_class st) method.text) st.self []
      (cells_named setting st args) st))
  statement_alike n (Call at back (Some (Whole name)) method args) st =
      let cell = cell_named setting.program st name.text in
      let self = number_of (read st cell) in
      alike_on (suc bound) (spend (length args)) _ _ (λ u. alike_on (suc bound)
      (fault_if NIL (is_nil (read st cell))) _ _ (λ w. alike_on (suc bound)
      (fault_if TOO_DEEP (is_too_deep setting st)) _ _ (λ x.
      invoked_alike back (method_named setting.program (class_of setting st self) method.text) self (cell ∷ [])
      (cells_named setting st args) st)))
  statement_alike n (Call at back (Some (Item name index)) method args) st =
      local_alike (element_name at).text (Null at) (element_call at back name index method args) (Null at) st
  statement_alike n _ st = alike_itself _ _

-- two bounds on depth give the same run, as long as its cost is within the second
pub exec_alike : (setting : Setting) (n m : ℕ) (b : Statements) (st : State)
    → Alike (suc m) (exec setting n b st) (exec setting m b st)
exec_alike setting n m End st = alike_itself _ _
exec_alike setting zero m (Then first rest) st = record { by = λ j h. tt }
exec_alike setting (suc n) zero (Then first rest) st =
    record {
      by = λ j h. none_within 1 j (statement setting n (exec setting n) first st >>=
          (λ next. exec setting n rest next)) _ h;
    }
exec_alike setting (suc n) (suc m) (Then first rest) st =
    alike_spent (suc m) 1 _ _ (omega arith) (alike_then (suc m) _ _ _ _
    (statement_alike setting (exec setting n) (exec setting m) m (exec_alike setting n m) n first st)
    (λ next. exec_alike setting n m rest next))

-- a run that is over at some cost is the same with that cost as its bound
pub exec_done_within : (setting : Setting) (n m : ℕ) (b : Statements) (st end : State) (cost : ℕ)
    → exec setting n b st ≡ Done end cost → cost ≤ m → exec setting m b st ≡ Done end cost
exec_done_within setting n m b st end cost e h =
    let P : Run State → Type 0 = λ r. Within m r (exec setting m b st) in
    subst P e ((exec_alike setting n m b st).by m (omega arith)) h

-- the same of a fault
pub exec_fault_within : (setting : Setting) (n m : ℕ) (b : Statements) (st : State) (code cost : ℕ)
    → exec setting n b st ≡ Fault code cost → cost ≤ m → exec setting m b st ≡ Fault code cost
exec_fault_within setting n m b st code cost e h =
    let P : Run State → Type 0 = λ r. Within m r (exec setting m b st) in
    subst P e ((exec_alike setting n m b st).by m (omega arith)) h
