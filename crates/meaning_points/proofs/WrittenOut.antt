-- Statements that mean others run as these, and pass their trace points.
use Rattle.std.proofs.Common.{◌≡◌, ℕ, zero, suc, ◌+◌, refl, ap, ◌∙◌, sym, Bool, true, not, List, [], ◌∷◌, ◌++◌, map}
use Rattle.std.proofs.Common.{Some}
use Rattle.std.proofs.lemmas.List.{map-id, map-append}
use Rattle.roopl_semantics.specs.rpp_tree.declared.tree.Ident.{Ident}
use Rattle.roopl_semantics.specs.rpp_tree.declared.tree.Var.{Var}
use Rattle.roopl_semantics.specs.rpp_tree.declared.tree.VarType.{VarType}
use Rattle.roopl_semantics.specs.rpp_tree.declared.tree.VarType.TheVariants as kind
use Rattle.roopl_semantics.specs.rpp_tree.Tree.{Expression, Null, Whole, Item, Object as AnObject, Statement}
use Rattle.roopl_semantics.specs.rpp_tree.Tree.{Statements, Swap}
use Rattle.roopl_semantics.specs.rpp_tree.Tree.{Construct}
use Rattle.roopl_semantics.specs.rpp_tree.Tree.{Local, New, Delete, Call, End, Then, joined}
use Rattle.roopl_semantics.specs.inverse_rules.Inverse.{inverse_statement, inverse}
use Rattle.roopl_semantics.proofs.inverse_rules_laws.Inverses.{inverse-joined}
use Rattle.roopl_semantics.specs.Run.{Run, Done, Fault, More, ◌>>=◌, after_cost, give, fault_if}
use Rattle.roopl_semantics.specs.Store.{State, same_value}
use Rattle.roopl_semantics.specs.Value.{Slot, read, evaluated}
use Rattle.roopl_semantics.specs.Execution.{Setting, opened, closed, DELOCAL, constructed, element_name}
use Rattle.roopl_semantics.specs.Execution.{element_call, statement, exec}
use Rattle.meaning_points.specs.Points.{Point, points_behind, begin_points, inner_points, points}
use Rattle.meaning_points.specs.WrittenOut.{Spots, all_at, ident_at, construct_written, call_written, DoesAs}
use Rattle.meaning_points.specs.WrittenOut.{HasPointsOf, placeless, HasMovedPointsOf}

goes_on : {A B : Type 0} (r : Run A) (f g : A → Run B) → ((a : A) → f a ≡ g a) → r >>= f ≡ r >>= g
goes_on (Done a cost) f g each = ap (after_cost cost) (each a)
goes_on (Fault code cost) f g each = refl
goes_on More f g each = refl

bind_same : {A B : Type 0} (r s : Run A) (f g : A → Run B) → r ≡ s → ((a : A) → f a ≡ g a) → r >>= f ≡ s >>= g
bind_same r s f g e each = ap (λ x. x >>= f) e ∙ goes_on s f g each

module _ {Q : Type 0} (shown : Point → Q) (setting : Setting) where
  shows_on : {A : Type 0} (r : Run A) (f g : A → List Point) → ((a : A) → map shown (f a) ≡ map shown (g a))
      → map shown (points_behind r f) ≡ map shown (points_behind r g)
  shows_on (Done a cost) f g each = each a
  shows_on (Fault code cost) f g each = refl
  shows_on More f g each = refl

  behind_same : {A : Type 0} (r s : Run A) (f g : A → List Point) → r ≡ s
      → ((a : A) → map shown (f a) ≡ map shown (g a)) → map shown (points_behind r f) ≡ map shown (points_behind s g)
  behind_same r s f g e each = ap (λ x. map shown (points_behind x f)) e ∙ shows_on s f g each

  -- the trace points of a statement, with blocks bounded by n
  abbrev own : ℕ → ℕ → Statement → State → List Point
  own n params s st = begin_points params s st ++ inner_points setting n (exec setting n) (points setting n) params s st

  -- two statements do and show the same
  record Same (s t : Statement) : Type 0 where
    pub does : (n : ℕ) (st : State) → statement setting n (exec setting n) s st
        ≡ statement setting n (exec setting n) t st
    pub shows : (n params : ℕ) (st : State) → map shown (own n params s st) ≡ map shown (own n params t st)

  -- and two blocks
  record SameBlock (b c : Statements) : Type 0 where
    pub does : (n : ℕ) (st : State) → exec setting n b st ≡ exec setting n c st
    pub shows : (n params : ℕ) (st : State) → map shown (points setting n params b st)
        ≡ map shown (points setting n params c st)

  then_same : (s t : Statement) (b c : Statements) → Same s t → SameBlock b c → SameBlock (Then s b) (Then t c)
  then_same s t b c x y = record { does = does; shows = shows }
    where
      does : (n : ℕ) (st : State) → exec setting n (Then s b) st ≡ exec setting n (Then t c) st
      does zero st = refl
      does (suc n) st = ap (after_cost 1) (bind_same _ _ _ _ (x.does n st) (y.does n))

      shows : (n params : ℕ) (st : State) → map shown (points setting n params (Then s b) st)
          ≡ map shown (points setting n params (Then t c) st)
      shows zero params st = refl
      shows (suc n) params st =
          map-append shown (own n params s st) _
          ∙ ap (λ l. l ++ map shown (points_behind (statement setting n (exec setting n) s st)
          (points setting n params b)))
          (x.shows n params st)
          ∙ ap (λ l. map shown (own n params t st) ++ l)
          (behind_same _ _ _ _ (x.does n st) (λ end. y.shows n params end))
          ∙ sym (map-append shown (own n params t st) _)

  itself : (s : Statement) → Same s s
  itself s = record { does = λ n st. refl; shows = λ n params st. refl }

  block_itself : (b : Statements) → SameBlock b b
  block_itself b = record { does = λ n st. refl; shows = λ n params st. refl }

  joined_same : (body b c : Statements) → SameBlock b c → SameBlock (joined body b) (joined body c)
  joined_same End b c x = x
  joined_same (Then s body) b c x = then_same s s _ _ (itself s) (joined_same body b c x)

-- after the block of a local variable that ends with nil
abbrev local_end : Setting → ℕ → State → Run State
local_end setting at end = do
  w ← evaluated setting.program (Null at) end
  _ ← fault_if DELOCAL (not (same_value (read end (Slot 0)) w))
  give (closed end)

-- a trace point at a place
abbrev point : ℕ → ℕ → State → Point
point at params st = record { place = at; params = params; state = st }

module _ {Q : Type 0} (shown : Point → Q) (setting : Setting) (at : ℕ) (spots : Spots)
    (moved : (word params : ℕ) (st : State) → shown (point at params st) ≡ shown (point (spots word) params st)) where
  -- a block with a local variable that begins with nil, written elsewhere
  local_same : (s : Statement) (var end_var : Var) (inside body : Statements)
      → ((n params : ℕ) (st : State) → own shown setting n params s st
      ≡ own shown setting n params (Local at var (Null at) inside end_var (Null at)) st)
      → ((n : ℕ) (st : State) → statement setting n (exec setting n) s st
      ≡ statement setting n (exec setting n) (Local at var (Null at) inside end_var (Null at)) st)
      → SameBlock shown setting inside body
      → (nil end_nil : ℕ) → Same shown setting s (Local (spots 0) var (Null nil) body end_var (Null end_nil))
  local_same s var end_var inside body own_is does_is x nil end_nil = record {
    does = λ n st. does_is n st
        ∙ bind_same (evaluated setting.program (Null at) st) _ _ _ refl
        (λ v. ap (λ r. r >>= local_end setting at) (x.does n (opened var.name.text v st)));
    shows = λ n params st. ap (map shown) (own_is n params st)
        ∙ ap (λ q. q ∷ map shown (inner_points setting n (exec setting n) (points setting n) params
        (Local at var (Null at) inside end_var (Null at)) st)) (moved 0 params st)
        ∙ ap (λ l. shown (point (spots 0) params st) ∷ l)
        (behind_same shown setting (evaluated setting.program (Null at) st) _ _ _ refl
        (λ v. x.shows n params (opened var.name.text v st)));
  }

  -- a statement that holds no block, written elsewhere
  alone_same : (s t : Statement) (word : ℕ)
      → ((n : ℕ) (st : State) → statement setting n (exec setting n) s st ≡ statement setting n (exec setting n) t st)
      → ((n params : ℕ) (st : State) → own shown setting n params s st
      ≡ point at params st ∷ inner_points setting n (exec setting n) (points setting n) params t st)
      → ((n params : ℕ) (st : State) → own shown setting n params t st
      ≡ point (spots word) params st ∷ inner_points setting n (exec setting n) (points setting n) params t st)
      → Same shown setting s t
  alone_same s t word does_is own_s own_t = record {
    does = does_is;
    shows = λ n params st. ap (map shown) (own_s n params st)
        ∙ ap (λ q. q ∷ map shown (inner_points setting n (exec setting n) (points setting n) params t st))
        (moved word params st)
        ∙ sym (ap (map shown) (own_t n params st));
  }

  construct_same : (class name end : Ident) (body : Statements)
      → Same shown setting (Construct at class name body end) (construct_written spots class.text name.text body)
  construct_same class name end body =
      let made = λ (word : ℕ). New (spots word) (AnObject (ident_at (spots (word + 1)) class.text))
      (Whole (ident_at (spots (word + 2)) name.text)) in
      let gone = λ (word : ℕ). Delete (spots word) (AnObject (ident_at (spots (word + 1)) class.text))
      (Whole (ident_at (spots (word + 2)) name.text)) in
      let var = λ (word : ℕ). let it : Var = record {
        kind = kind.Class (ident_at (spots word) class.text);
        name = ident_at (spots (word + 1)) name.text;
      } in it in
      local_same (Construct at class name body end) (var 1) (var 10) (constructed at class name body)
      (Then (made 4) (joined body (Then (gone 7) End))) (λ n params st. refl) (λ n st. refl)
      (then_same shown setting _ _ _ _
      (alone_same (New at (AnObject class) (Whole name)) (made 4) 4 (λ n st. refl) (λ n params st. refl)
      (λ n params st. refl))
      (joined_same shown setting body _ _ (then_same shown setting _ _ _ _
      (alone_same (Delete at (AnObject class) (Whole name)) (gone 7) 7 (λ n st. refl) (λ n params st. refl)
      (λ n params st. refl))
      (block_itself shown setting End))))
      (spots 3) (spots 12)

  call_same : (class : VarType) (back : Bool) (name : Ident) (index : Expression) (method : Ident) (args : List Ident)
      → Same shown setting (Call at back (Some (Item name index)) method args)
      (call_written spots class back name index method args)
  call_same class back name index method args =
      let here = Swap at (Whole (element_name at)) (Item name index) in
      let exchange = λ (word : ℕ). Swap (spots word) (Whole (ident_at (spots (word + 1)) [])) (Item name index) in
      let called = Call (spots 5) back (Some (Whole (ident_at (spots 6) []))) method args in
      let var = λ (word : ℕ). let it : Var = record { kind = class; name = ident_at (spots word) [] } in it in
      local_same (Call at back (Some (Item name index)) method args) (var 1) (var 9)
      (element_call at back name index method args)
      (Then (exchange 3) (Then called (Then (exchange 7) End))) (λ n params st. refl) (λ n st. refl)
      (then_same shown setting _ _ _ _
      (alone_same here (exchange 3) 3 (λ n st. refl) (λ n params st. refl) (λ n params st. refl))
      (then_same shown setting _ _ _ _
      (alone_same (Call at back (Some (Whole (element_name at))) method args) called 5 (λ n st. refl)
      (λ n params st. refl) (λ n params st. refl))
      (then_same shown setting _ _ _ _
      (alone_same here (exchange 7) 7 (λ n st. refl) (λ n params st. refl) (λ n params st. refl))
      (block_itself shown setting End))))
      (spots 2) (spots 10)

-- ---- the laws

does_so : {Q : Type 0} (shown : Point → Q) (s t : Statement) → ((setting : Setting) → Same shown setting s t)
    → DoesAs s t
does_so shown s t same setting n rest st =
    (then_same shown setting s t rest rest (same setting) (block_itself shown setting rest)).does n st

shows_so : {Q : Type 0} (shown : Point → Q) (s t : Statement) → ((setting : Setting) → Same shown setting s t)
    → (setting : Setting) (n params : ℕ) (rest : Statements) (st : State)
    → map shown (points setting n params (Then s rest) st) ≡ map shown (points setting n params (Then t rest) st)
shows_so shown s t same setting n params rest st =
    (then_same shown setting s t rest rest (same setting) (block_itself shown setting rest)).shows n params st

has_points : (s t : Statement) → ((setting : Setting) → Same (λ p. p) setting s t) → HasPointsOf s t
has_points s t same setting n params rest st =
    sym (map-id (points setting n params (Then s rest) st)) ∙ shows_so (λ p. p) s t same setting n params rest st
    ∙ map-id (points setting n params (Then t rest) st)

pub construct_does : (at : ℕ) (class name end : Ident) (body : Statements) (spots : Spots)
    → DoesAs (Construct at class name body end) (construct_written spots class.text name.text body)
construct_does at class name end body spots =
    does_so placeless _ _ (λ setting. construct_same placeless setting at spots (λ word params st. refl) class name end
    body)

pub construct_points : (at : ℕ) (class name end : Ident) (body : Statements)
    → HasPointsOf (Construct at class name body end) (construct_written (all_at at) class.text name.text body)
construct_points at class name end body =
    has_points _ _ (λ setting. construct_same (λ p. p) setting at (all_at at) (λ word params st. refl) class name end
    body)

pub construct_moved : (at : ℕ) (class name end : Ident) (body : Statements) (spots : Spots)
    → HasMovedPointsOf (Construct at class name body end) (construct_written spots class.text name.text body)
construct_moved at class name end body spots =
    shows_so placeless _ _ (λ setting. construct_same placeless setting at spots (λ word params st. refl) class name end
    body)

pub construct_undone : (at : ℕ) (class name : List ℕ) (body : Statements)
    → inverse_statement (construct_written (all_at at) class name body)
    ≡ construct_written (all_at at) class name (inverse body)
construct_undone at class name body =
    let made = New at (AnObject (ident_at at class)) (Whole (ident_at at name)) in
    let gone = Delete at (AnObject (ident_at at class)) (Whole (ident_at at name)) in
    let var : Var = record { kind = kind.Class (ident_at at class); name = ident_at at name } in
    ap (λ b. Local at var (Null at) (joined b (Then gone End)) var (Null at))
    (inverse-joined true body (Then gone End))

pub call_does : (at : ℕ) (class : VarType) (back : Bool) (name : Ident) (index : Expression) (method : Ident)
    (args : List Ident) (spots : Spots)
    → DoesAs (Call at back (Some (Item name index)) method args)
    (call_written spots class back name index method args)
call_does at class back name index method args spots =
    does_so placeless _ _ (λ setting.
    call_same placeless setting at spots (λ word params st. refl) class back name index method args)

pub call_points : (at : ℕ) (class : VarType) (back : Bool) (name : Ident) (index : Expression) (method : Ident)
    (args : List Ident)
    → HasPointsOf (Call at back (Some (Item name index)) method args)
    (call_written (all_at at) class back name index method args)
call_points at class back name index method args =
    has_points _ _ (λ setting. call_same (λ p. p) setting at (all_at at) (λ word params st. refl) class back name index
    method args)

pub call_moved : (at : ℕ) (class : VarType) (back : Bool) (name : Ident) (index : Expression) (method : Ident)
    (args : List Ident) (spots : Spots)
    → HasMovedPointsOf (Call at back (Some (Item name index)) method args)
    (call_written spots class back name index method args)
call_moved at class back name index method args spots =
    shows_so placeless _ _ (λ setting. call_same placeless setting at spots (λ word params st. refl) class back name
    index method args)

pub call_undone : (at : ℕ) (class : VarType) (back : Bool) (name : Ident) (index : Expression) (method : Ident)
    (args : List Ident) → inverse_statement (call_written (all_at at) class back name index method args)
    ≡ call_written (all_at at) class (not back) name index method args
call_undone at class back name index method args = refl
