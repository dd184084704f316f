-- Runs in parts, and runs with fuel enough.
use Rattle.std.proofs.Common.{◌≡◌, ℕ, zero, suc, ◌+◌, ◌≤◌, refl, sym, ap, subst, ◌∙◌, arith, Ok, Err, Result, true}
use Rattle.std.proofs.Common.{false, Bool, List}
use Rattle.meaning_reached.specs.rpp_tree.declared.tree.Ident.{Ident}
use Rattle.meaning_reached.specs.rpp_tree.Tree.{Statement, Statements, Source, End, Then, joined}
use Rattle.meaning_reached.specs.roopl_semantics.Run.{Run, Done, Fault, More, after_cost, ◌>>=◌, fault_if, given}
use Rattle.meaning_reached.specs.roopl_semantics.Store.{State}
use Rattle.meaning_reached.specs.roopl_semantics.Elements.{SHARED_ARRAY, share_array, read_cost, kept_apart}
use Rattle.meaning_reached.specs.roopl_semantics.Execution.{Setting, statement, exec}
use Rattle.meaning_reached.proofs.roopl_semantics_laws.CostBound.{exec_done_within}

abbrev result_or : {A : Type 0} → A → Run A → A
result_or x (Done result cost) = result
result_or x (Fault code cost) = x
result_or x More = x

abbrev cost_or : {A : Type 0} → Run A → ℕ
cost_or (Done result cost) = cost
cost_or (Fault code cost) = 0
cost_or More = 0

-- what is done is done in one way
pub done_result : {A : Type 0} (x y : A) (c d : ℕ) → Done x c ≡ Done y d → x ≡ y
done_result x y c d e = ap (result_or x) e

pub done_cost : {A : Type 0} (x y : A) (c d : ℕ) → Done x c ≡ Done y d → c ≡ d
done_cost x y c d e = ap (λ r. cost_or r) e

-- a run that is done in two parts
pub record InParts {A B : Type 0} (r : Run A) (f : A → Run B) (end : B) (cost : ℕ) : Type 0 where
  pub middle : A
  pub before : ℕ
  pub after : ℕ
  pub first : r ≡ Done middle before
  pub second : f middle ≡ Done end after
  pub sum : before + after ≡ cost

after_done : {B : Type 0} (c : ℕ) (r : Run B) (end : B) (cost : ℕ) → after_cost c r ≡ Done end cost
    → (d : ℕ) × (r ≡ Done end d) × (c + d ≡ cost)
after_done c (Done x d) end cost e = (
  d,
  ap (λ y. Done y d) (done_result x end (c + d) cost e),
  done_cost x end (c + d) cost e,
)
after_done c (Fault code d) end cost e = cc
after_done c More end cost e = cc

pub in_parts : {A B : Type 0} (r : Run A) (f : A → Run B) (end : B) (cost : ℕ) → (r >>= f) ≡ Done end cost
    → InParts r f end cost
in_parts (Done x c) f end cost e =
    let rest = after_done c (f x) end cost e in
    record { middle = x; before = c; after = rest.0; first = refl; second = rest.1; sum = rest.2 }
in_parts (Fault code c) f end cost e = cc
in_parts More f end cost e = cc

pub done_then : {A B : Type 0} (r : Run A) (f : A → Run B) (middle : A) (end : B) (c d cost : ℕ) → r ≡ Done middle c
    → f middle ≡ Done end d → c + d ≡ cost → (r >>= f) ≡ Done end cost
done_then r f middle end c d cost e g h = ap (λ x. x >>= f) e ∙ ap (after_cost c) g ∙ ap (Done end) h

-- a check that passed
pub passed_check : (code : ℕ) (test : Bool) (u : Unit {0}) (c : ℕ) → fault_if code test ≡ Done u c
    → (test ≡ false) × (c ≡ 0)
passed_check code true u c e = cc
passed_check code false u c e = (refl, sym (done_cost tt u 0 c e))

pub passes : (code : ℕ) (test : Bool) → test ≡ false → fault_if code test ≡ Done tt 0
passes code test e = ap (fault_if code) e

-- the check of elements that passed
checked_done : (k code : ℕ) (test : Bool) (u : Unit {0}) (c : ℕ) → after_cost k (fault_if code test) ≡ Done u c
    → (test ≡ false) × (k ≡ c)
checked_done k code true u c e = cc
checked_done k code false u c e = (refl, (let h = done_cost tt u (k + 0) c e in omega arith))

pub apart_done : (program : Source) (changed reads : List Ident) (st : State) (u : Unit {0}) (c : ℕ)
    → kept_apart program changed reads st ≡ Done u c → (share_array program st changed reads ≡ false)
    × (read_cost changed reads ≡ c)
apart_done program changed reads st u c e = checked_done (read_cost changed reads) SHARED_ARRAY
    (share_array program st changed reads) u c e

pub done_apart : (program : Source) (changed reads : List Ident) (st : State)
    → share_array program st changed reads ≡ false → kept_apart program changed reads st
    ≡ Done tt (read_cost changed reads)
done_apart program changed reads st h =
    ap (λ t. after_cost (read_cost changed reads) (fault_if SHARED_ARRAY t)) h
    ∙ ap (Done tt) (let z : read_cost changed reads + 0 ≡ read_cost changed reads = omega arith in z)

pub given_done : {A : Type 0} (k : ℕ) (v : Result A ℕ) (x : A) (c : ℕ) → after_cost k (given v) ≡ Done x c
    → (v ≡ Ok x) × (k ≡ c)
given_done k (Ok y) x c e = (
  ap (λ z. Ok z) (done_result y x (k + 0) c e),
  (let h = done_cost y x (k + 0) c e in omega arith),
)
given_done k (Err code) x c e = cc

pub done_given : {A : Type 0} (k : ℕ) (v : Result A ℕ) (x : A) → v ≡ Ok x → after_cost k (given v) ≡ Done x k
done_given k v x e = ap (λ w. after_cost k (given w)) e ∙ ap (Done x) (let h : k + 0 ≡ k = omega arith in h)

-- a block that is done with any fuel from its cost on
pub record Runs (setting : Setting) (body : Statements) (start end : State) (cost : ℕ) : Type 0 where
  pub by : (m : ℕ) → cost ≤ m → exec setting m body start ≡ Done end cost

-- a statement that is done with any fuel from its cost on
pub record Does (setting : Setting) (s : Statement) (start end : State) (cost : ℕ) : Type 0 where
  pub by : (m : ℕ) → cost ≤ m → statement setting m (exec setting m) s start ≡ Done end cost

pub runs_of : (setting : Setting) (n : ℕ) (body : Statements) (start end : State) (cost : ℕ)
    → exec setting n body start ≡ Done end cost → Runs setting body start end cost
runs_of setting n body start end cost e = record { by = λ m h. exec_done_within setting n m body start end cost e h }

-- a block of one statement
alone : (r : Run State) (end : State) (cost : ℕ) → after_cost 1 (r >>= (λ st. Done st 0)) ≡ Done end (1 + cost)
    → r ≡ Done end cost
alone (Done x c) end cost e =
    let same = done_cost x end (1 + (c + 0)) (1 + cost) e in
    ap (λ y. Done y c) (done_result x end (1 + (c + 0)) (1 + cost) e)
    ∙ ap (Done end) (let h : c ≡ cost = omega arith in h)
alone (Fault code c) end cost e = cc
alone More end cost e = cc

pub does_of : (setting : Setting) (n : ℕ) (s : Statement) (start end : State) (cost : ℕ)
    → statement setting n (exec setting n) s start ≡ Done end cost → Does setting s start end cost
does_of setting n s start end cost e =
    let whole : exec setting (suc n) (Then s End) start ≡ Done end (1 + cost) =
    ap (λ r. after_cost 1 (r >>= (λ st. Done st 0))) e ∙ ap (Done end)
    (let h : 1 + (cost + 0) ≡ 1 + cost = omega arith in h) in
    record {
      by = λ m h. alone (statement setting m (exec setting m) s start) end cost
          (exec_done_within setting (suc n) (suc m) (Then s End) start end (1 + cost) whole (omega arith));
    }

-- a block that is done, taken apart
pub record Split (setting : Setting) (n : ℕ) (first : Statement) (rest : Statements) (start end : State) (cost : ℕ) :
    Type 0 where
  pub middle : State
  pub before : ℕ
  pub after : ℕ
  pub does : statement setting n (exec setting n) first start ≡ Done middle before
  pub runs : exec setting n rest middle ≡ Done end after
  pub sum : 1 + (before + after) ≡ cost

pub split : (setting : Setting) (n : ℕ) (first : Statement) (rest : Statements) (start end : State) (cost : ℕ)
    → exec setting (suc n) (Then first rest) start ≡ Done end cost → Split setting n first rest start end cost
split setting n first rest start end cost e =
    let spent = after_done 1 (statement setting n (exec setting n) first start >>= (λ st. exec setting n rest st)) end
    cost e in
    let parts = in_parts (statement setting n (exec setting n) first start) (λ st. exec setting n rest st) end spent.0
    spent.1 in
    record {
      middle = parts.middle;
      before = parts.before;
      after = parts.after;
      does = parts.first;
      runs = parts.second;
      sum = (let s = parts.sum in let t = spent.2 in omega arith);
    }

-- no statement
pub runs_end : (setting : Setting) (start : State) → Runs setting End start start 0
runs_end setting start = record { by = λ m h. refl }

pub runs_then : (setting : Setting) (first : Statement) (rest : Statements) (start middle end : State) (c d cost : ℕ)
    → Does setting first start middle c → Runs setting rest middle end d → 1 + (c + d) ≡ cost
    → Runs setting (Then first rest) start end cost
runs_then setting first rest start middle end c d cost does runs sum = record { by = λ m h. by m h }
  where
    by : (m : ℕ) → cost ≤ m → exec setting m (Then first rest) start ≡ Done end cost
    by zero h = absurd (omega arith)
    by (suc m) h =
        ap (after_cost 1) (done_then (statement setting m (exec setting m) first start) (λ st. exec setting m rest st)
        middle end c d (c + d) (does.by m (omega arith)) (runs.by m (omega arith)) refl)
        ∙ ap (Done end) sum

-- two blocks in turn
pub runs_joined : (setting : Setting) (first second : Statements) (start middle end : State) (c d : ℕ)
    → Runs setting first start middle c → Runs setting second middle end d
    → Runs setting (joined first second) start end (c + d)
runs_joined setting End second start middle end c d r s =
    let e = r.by c (omega arith) in
    let P : State → Type 0 = λ st. Runs setting second st end d in
    let Q : ℕ → Type 0 = λ k. Runs setting second start end k in
    subst Q (let z = done_cost start middle 0 c e in let h : d ≡ c + d = omega arith in h)
    (subst P (sym (done_result start middle 0 c e)) s)
runs_joined setting (Then x rest) second start middle end c d r s =
    by c r (r.by c (omega arith)) (λ y e n h. runs_joined setting rest second y middle end e d
    (runs_of setting n rest y middle e h) s)
  where
    by : (c : ℕ) → Runs setting (Then x rest) start middle c → exec setting c (Then x rest) start ≡ Done middle c
        → ((y : State) (e n : ℕ) → exec setting n rest y ≡ Done middle e
        → Runs setting (joined rest second) y end (e + d))
        → Runs setting (joined (Then x rest) second) start end (c + d)
    by zero r e again = cc
    by (suc n) r e again =
        let parts = split setting n x rest start middle (suc n) e in
        runs_then setting x (joined rest second) start parts.middle end parts.before (parts.after + d) (suc n + d)
        (does_of setting n x start parts.middle parts.before parts.does)
        (again parts.middle parts.after n parts.runs)
        (let t = parts.sum in omega arith)
