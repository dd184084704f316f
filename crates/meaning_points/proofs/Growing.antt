-- More fuel only adds trace points.
use Rattle.std.proofs.Common.{◌≡◌, ℕ, zero, suc, ◌≤◌, refl, sym, ap, ◌∙◌, arith, append-nil, append_assoc, Bool}
use Rattle.std.proofs.Common.{true, false, not, List, [], ◌∷◌, ◌++◌, length, Option, Some, None}
use Rattle.roopl_semantics.specs.rpp_tree.declared.tree.Ident.{Ident}
use Rattle.roopl_semantics.specs.rpp_tree.Tree.{Expression, Lvalue, Whole, Item, Object as AnObject, Statement}
use Rattle.roopl_semantics.specs.rpp_tree.Tree.{Statements, If, From}
use Rattle.roopl_semantics.specs.rpp_tree.Tree.{Construct, Local, New, Delete, Call, End, Then, Procedure, Null}
use Rattle.roopl_semantics.specs.class_rules.Classes.{method_named}
use Rattle.roopl_semantics.specs.Run.{Run, Done, Fault, More, after_cost, ◌>>=◌, fault_if}
use Rattle.roopl_semantics.specs.Store.{State, is_nil, number_of}
use Rattle.roopl_semantics.specs.Value.{Cell, NIL, cell_named, own_class, read, evaluated}
use Rattle.roopl_semantics.specs.Execution.{Setting, Runner, holds, cells_named, class_of, is_too_deep, constructed}
use Rattle.roopl_semantics.specs.Execution.{element_name, element_call, LOOP, TOO_DEEP, turns, turn_end}
use Rattle.roopl_semantics.specs.Execution.{with_local, invoked, statement, exec}
use Rattle.meaning_points.specs.Points.{Point, Lister, points_behind, begin_points, called_points, local_points}
use Rattle.meaning_points.specs.Points.{again_points}
use Rattle.meaning_points.specs.Points.{turn_points, call_points, inner_points, points}
use Rattle.meaning_points.specs.PointLaws.{StartsWith}

-- a run with its trace points goes on as another: it is the same, or it is not over and has the
-- first trace points
data Grows {A : Type 0} (ps : List Point) (r : Run A) (qs : List Point) (s : Run A) : Type 0 where
  same : qs ≡ ps → s ≡ r → Grows ps r qs s
  longer : r ≡ More → (more : List Point) → qs ≡ ps ++ more → Grows ps r qs s

-- ---- runs that are put together

silent : {A B : Type 0} (ps qs : List Point) (r s : Run A) (f : A → Run B) → Grows ps r qs s
    → Grows ps (r >>= f) qs (s >>= f)
silent ps qs r s f (same e d) = same e (ap (λ x. x >>= f) d)
silent ps qs r s f (longer e more d) = longer (ap (λ x. x >>= f) e) more d

spent : {A : Type 0} (ps qs : List Point) (r s : Run A) (cost : ℕ) → Grows ps r qs s
    → Grows ps (after_cost cost r) qs (after_cost cost s)
spent ps qs r s cost (same e d) = same e (ap (after_cost cost) d)
spent ps qs r s cost (longer e more d) = longer (ap (after_cost cost) e) more d

front : {A : Type 0} (before ps qs : List Point) (r s : Run A) → Grows ps r qs s
    → Grows (before ++ ps) r (before ++ qs) s
front before ps qs r s (same e d) = same (ap (λ l. before ++ l) e) d
front before ps qs r s (longer e more d) = longer e more (ap (λ l. before ++ l) d ∙ sym (append_assoc before ps more))

on : {A B : Type 0} (r : Run A) (f g : A → List Point) (h k : A → Run B) → ((a : A) → Grows (f a) (h a) (g a) (k a))
    → Grows (points_behind r f) (r >>= h) (points_behind r g) (r >>= k)
on (Done a cost) f g h k both = spent (f a) (g a) (h a) (k a) cost (both a)
on (Fault code cost) f g h k both = same refl refl
on More f g h k both = same refl refl

next : {A B : Type 0} (ps qs : List Point) (r s : Run A) (f g : A → List Point) (h k : A → Run B) → Grows ps r qs s
    → ((a : A) → Grows (f a) (h a) (g a) (k a))
    → Grows (ps ++ points_behind r f) (r >>= h) (qs ++ points_behind s g) (s >>= k)
next ps qs r s f g h k (same e d) both = rw (e, d) (front ps (points_behind r f) (points_behind r g) (r >>= h) (r >>= k)
    (on r f g h k both))
next ps qs r s f g h k (longer e more d) both =
    longer (ap (λ x. x >>= h) e) (more ++ points_behind s g)
    (ap (λ l. l ++ points_behind s g) d ∙ append_assoc ps more (points_behind s g)
    ∙ ap (λ l. l ++ (more ++ points_behind s g)) (sym (ap (λ x. ps ++ points_behind x f) e ∙ append-nil ps)))

-- ---- statements, over blocks with trace points that go on so

module _ (setting : Setting) (run run' : Runner) (list list' : Lister)
    (block : (params : ℕ) (b : Statements) (st : State) → Grows (list params b st) (run b st) (list' params b st)
    (run' b st)) where
  called : (back : Bool) (method : Procedure) (self : ℕ) (receiver args : List Cell) (st : State)
      → Grows (called_points setting list back method self receiver args st)
      (invoked setting run back method self receiver args st)
      (called_points setting list' back method self receiver args st)
      (invoked setting run' back method self receiver args st)
  called back method self receiver args st = silent _ _ _ _ _ (block _ _ _)

  in_local : (params : ℕ) (name : List ℕ) (value : Expression) (body : Statements) (end_value : Expression) (st : State)
      → Grows (local_points setting list params name value body st)
      (with_local setting run name value body end_value st)
      (local_points setting list' params name value body st) (with_local setting run' name value body end_value st)
  in_local params name value body end_value st = on (evaluated setting.program value st) _ _ _ _
      (λ v. silent _ _ _ _ _ (block _ _ _))

  again_on : (params : ℕ) (entry : Expression) (again : Statements) (more more' : State → List Point)
      (go go' : State → Run State)
      → ((st : State) → Grows (more st) (go st) (more' st) (go' st)) → (over : Bool) (st : State)
      → Grows (again_points setting run list params entry again more over st)
      (turn_end setting run entry again go over st)
      (again_points setting run' list' params entry again more' over st) (turn_end setting run' entry again go' over st)
  again_on params entry again more more' go go' both true st = same refl refl
  again_on params entry again more more' go go' both false st =
      next _ _ _ _ _ _ _ _ (block params again st) (λ end. on (evaluated setting.program entry end) _ _ _ _
      (λ v. on (fault_if LOOP (holds v)) _ _ _ _ (λ u. both end)))

  turns_on : (n m params : ℕ) (entry : Expression) (first again : Statements) (exit : Expression) (st : State) → n ≤ m
      → Grows (turn_points setting n run list params entry first again exit st)
      (turns setting n run entry first again exit st)
      (turn_points setting m run' list' params entry first again exit st)
      (turns setting m run' entry first again exit st)
  turns_on zero m params entry first again exit st h = longer refl _ refl
  turns_on (suc n) zero params entry first again exit st h = absurd (omega arith)
  turns_on (suc n) (suc m) params entry first again exit st h =
      next _ _ _ _ _ _ _ _ (block params first st) (λ end. on (evaluated setting.program exit end) _ _ _ _ (λ v.
      again_on params entry again (turn_points setting n run list params entry first again exit)
      (turn_points setting m run' list' params entry first again exit) (turns setting n run entry first again exit)
      (turns setting m run' entry first again exit) (λ st. turns_on n m params entry first again exit st
      (omega arith)) (holds v) end))

  call_on : (n m params at : ℕ) (back : Bool) (receiver : Option Lvalue) (method : Ident) (args : List Ident)
      (st : State)
      → Grows (call_points setting list params at back receiver method args st)
      (statement setting n run (Call at back receiver method args) st)
      (call_points setting list' params at back receiver method args st)
      (statement setting m run' (Call at back receiver method args) st)
  call_on n m params at back None method args st =
      spent _ _ _ _ (length args) (on (fault_if TOO_DEEP (is_too_deep setting st)) _ _ _ _
      (λ u. called back (method_named setting.program (own_class st) method.text) st.self []
      (cells_named setting st args) st))
  call_on n m params at back (Some (Whole name)) method args st =
      let cell = cell_named setting.program st name.text in
      let self = number_of (read st cell) in
      spent _ _ _ _ (length args) (on (fault_if NIL (is_nil (read st cell))) _ _ _ _ (λ u.
      on (fault_if TOO_DEEP (is_too_deep setting st)) _ _ _ _
      (λ u. called back (method_named setting.program (class_of setting st self) method.text) self (cell ∷ [])
      (cells_named setting st args) st)))
  call_on n m params at back (Some (Item name index)) method args st =
      in_local params (element_name at).text (Null at) (element_call at back name index method args) (Null at) st

  statement_on : (n m params : ℕ) (s : Statement) (st : State) → n ≤ m
      → Grows (inner_points setting n run list params s st) (statement setting n run s st)
      (inner_points setting m run' list' params s st) (statement setting m run' s st)
  statement_on n m params (If at test taken other after) st h =
      on (evaluated setting.program test st) _ _ _ _ (λ v. silent _ _ _ _ _ (block _ _ _))
  statement_on n m params (From at entry first again exit) st h =
      on (evaluated setting.program entry st) _ _ _ _ (λ v. on (fault_if LOOP (not (holds v))) _ _ _ _
      (λ u. turns_on n m params entry first again exit st h))
  statement_on n m params (Construct at class name body end) st h =
      in_local params name.text (Null at) (constructed at class name body) (Null at) st
  statement_on n m params (Local at var value body end_var end_value) st h =
      in_local params var.name.text value body end_value st
  statement_on n m params (New at (AnObject class) target) st h = same refl refl
  statement_on n m params (Delete at (AnObject class) target) st h = same refl refl
  statement_on n m params (Call at back receiver method args) st h = call_on n m params at back receiver method args st
  statement_on n m params _ st h = same refl refl

-- ---- blocks

grows : (setting : Setting) (n m params : ℕ) (body : Statements) (st : State) → n ≤ m
    → Grows (points setting n params body st) (exec setting n body st) (points setting m params body st)
    (exec setting m body st)
grows setting zero zero params End st h = same refl refl
grows setting zero (suc m) params End st h = same refl refl
grows setting (suc n) zero params body st h = absurd (omega arith)
grows setting (suc n) (suc m) params End st h = same refl refl
grows setting zero m params (Then first rest) st h = longer refl _ refl
grows setting (suc n) (suc m) params (Then first rest) st h =
    spent _ _ _ _ 1 (next _ _ _ _ _ _ _ _
    (front (begin_points params first st) _ _ _ _ (statement_on setting (exec setting n) (exec setting m)
    (points setting n)
    (points setting m) (λ ps b s. grows setting n m ps b s (omega arith)) n m params first st (omega arith)))
    (λ end. grows setting n m params rest end (omega arith)))

-- ---- the law

adds_by : {A : Type 0} (ps qs : List Point) (r s : Run A) → Grows ps r qs s → StartsWith ps qs
adds_by ps qs r s (same e d) = ([], e ∙ sym (append-nil ps))
adds_by ps qs r s (longer e more d) = (more, d)

done_by : {A : Type 0} (ps qs : List Point) (r s : Run A) (end : A) (cost : ℕ) → r ≡ Done end cost → Grows ps r qs s
    → (qs ≡ ps) × (s ≡ Done end cost)
done_by ps qs r s end cost is (same e d) = (e, d ∙ is)
done_by ps qs r s end cost is (longer e more d) = let no : More ≡ Done end cost = sym e ∙ is in cc

fault_by : {A : Type 0} (ps qs : List Point) (r s : Run A) (code cost : ℕ) → r ≡ Fault code cost → Grows ps r qs s
    → (qs ≡ ps) × (s ≡ Fault code cost)
fault_by ps qs r s code cost is (same e d) = (e, d ∙ is)
fault_by ps qs r s code cost is (longer e more d) = let no : More ≡ Fault code cost = sym e ∙ is in cc

pub points_added : (setting : Setting) (n m params : ℕ) (body : Statements) (st : State) → n ≤ m
    → StartsWith (points setting n params body st) (points setting m params body st)
points_added setting n m params body st h = adds_by _ _ _ _ (grows setting n m params body st h)

pub points_done : (setting : Setting) (n m params : ℕ) (body : Statements) (st end : State) (cost : ℕ) → n ≤ m
    → exec setting n body st ≡ Done end cost → (points setting m params body st ≡ points setting n params body st)
    × (exec setting m body st ≡ Done end cost)
points_done setting n m params body st end cost h is = done_by _ _ _ _ end cost is (grows setting n m params body st h)

pub points_fault : (setting : Setting) (n m params : ℕ) (body : Statements) (st : State) (code cost : ℕ) → n ≤ m
    → exec setting n body st ≡ Fault code cost → (points setting m params body st ≡ points setting n params body st)
    × (exec setting m body st ≡ Fault code cost)
points_fault setting n m params body st code cost h is =
    fault_by _ _ _ _ code cost is (grows setting n m params body st h)
