-- Blocks with a local variable undone, `construct` and calls on elements among them.
use Rattle.std.proofs.Common.{◌≡◌, ℕ, suc, ◌+◌, ◌≤◌, refl, sym, ap, subst, ◌∙◌, arith, true, false, Bool, not, ◌||◌}
use Rattle.std.proofs.Common.{List, [], ◌∷◌, length, cond, if◌then◌else◌, Ok, Err, Result, Some, None, Option}
use Rattle.std.proofs.Common.{option_map, nat_lt, position, ltb-true, ltb-false, lt-ltb, le-ltb}
use Rattle.std.specs.List.{position_or_len}
use Rattle.std.specs.Str.{bytes_eq}
use Rattle.meaning_reached.specs.rpp_tree.declared.tree.Ident.{Ident}
use Rattle.meaning_reached.specs.rpp_tree.declared.tree.Var.{Var}
use Rattle.meaning_reached.specs.rpp_tree.Tree.{Expression, Number, Null, Variable, Element, Binary, Whole, Item, Object as AnObject}
use Rattle.meaning_reached.specs.rpp_tree.Tree.{Statements, Construct, Local, Delete, Call, End, Then, joined, nodes, Source}
use Rattle.meaning_reached.specs.class_rules.Expressions.{occurs}
use Rattle.meaning_reached.specs.inverse_rules.Inverse.{inverse}
use Rattle.meaning_reached.proofs.inverse_rules_laws.Inverses.{inverse-joined}
use Rattle.meaning_reached.specs.roopl_semantics.Run.{Done, ◌>>=◌, give, fault_if}
use Rattle.meaning_reached.specs.roopl_semantics.Store.{Value, Word, Nil, Name, Binding, State, object_at, number_of, same_value}
use Rattle.meaning_reached.specs.roopl_semantics.Value.{Slot, Part, slot_of, slot_or_field, variable_value, element_of, read_cell}
use Rattle.meaning_reached.specs.roopl_semantics.Value.{element_cell, INDEX, combined, value_at, read, value as value_in}
use Rattle.meaning_reached.specs.roopl_semantics.Value.{evaluated}
use Rattle.meaning_reached.specs.roopl_semantics.Execution.{Setting, statement, exec, opened, closed, rest_of, constructed}
use Rattle.meaning_reached.specs.roopl_semantics.Execution.{element_call, with_local, DELOCAL}
use Rattle.meaning_reached.specs.roopl_semantics.Agreement.{renamed}
use Rattle.meaning_inverse.proofs.Runs.{in_parts, done_then, done_result, done_cost, given_done, passed_check, passes}
use Rattle.meaning_inverse.proofs.Later.{IsSound, Later, exec_later, frame_names}
use Rattle.meaning_inverse.proofs.Seen.{Names, Sees, Clean, IsNumber, FitResults, evaluated_seen, read_seen}
use Rattle.meaning_inverse.proofs.Seen.{opened_seen}
use Rattle.meaning_inverse.proofs.Seen.{closed_seen, is_same_value, same_value_itself}
use Rattle.meaning_inverse.proofs.Ground.{Ground}
use Rattle.meaning_inverse.proofs.Undone.{SameOn, Undone, BlockUndone}
use Rattle.meaning_inverse.proofs.Nested.{Undoes}

-- the place in a longer list
position_past : (p : List ℕ → Bool) (x : List ℕ) (xs : List (List ℕ)) → p x ≡ false
    → position p (x ∷ xs) ≡ option_map suc (position p xs)
position_past p x xs e = ap (λ k. cond (nat_lt k (suc (length xs))) (Some k) None) first
    ∙ by (nat_lt (position_or_len p xs) (length xs)) refl
  where
    first : position_or_len p (x ∷ xs) ≡ suc (position_or_len p xs)
    first = ap (λ t. cond (not t) (1 + position_or_len p xs) 0) e
        ∙ (let h : 1 + position_or_len p xs ≡ suc (position_or_len p xs) = omega arith in h)

    by : (t : Bool) → nat_lt (position_or_len p xs) (length xs) ≡ t
        → cond (nat_lt (suc (position_or_len p xs)) (suc (length xs))) (Some (suc (position_or_len p xs))) None
        ≡ option_map suc (cond (nat_lt (position_or_len p xs) (length xs)) (Some (position_or_len p xs)) None)
    by true f = rw (
      f,
      (let h = ltb-true (position_or_len p xs) (length xs) f in
          lt-ltb (suc (position_or_len p xs)) (suc (length xs)) (omega arith)),
    ) refl
    by false f = rw (
      f,
      (let h = ltb-false (position_or_len p xs) (length xs) f in
          le-ltb (suc (position_or_len p xs)) (suc (length xs)) (omega arith)),
    ) refl

abbrev value_or : Result Value ℕ → Value
value_or (Ok x) = x
value_or (Err e) = Nil

pub either_false : (a b : Bool) → a || b ≡ false → (a ≡ false) × (b ≡ false)
either_false true b e = cc
either_false false b e = (refl, e)

module _ (program : Source) (name : List ℕ) (v : Value) (st : State) where
  -- a variable is found under another name
  named_under : (other : List ℕ) → bytes_eq other name ≡ false
      → variable_value program (opened name v st) other ≡ variable_value program st other
  named_under other e =
      ap (λ o. read (opened name v st) (slot_or_field program (opened name v st) other o))
      (position_past (bytes_eq other) name (frame_names st.frame) e) ∙ by (slot_of st.frame other)
    where
      by : (o : Option ℕ) → read (opened name v st) (slot_or_field program (opened name v st) other (option_map suc o))
          ≡ read st (slot_or_field program st other o)
      by (Some i) = refl
      by None = refl

  element_under : (other : List ℕ) (index : Result Value ℕ) → bytes_eq other name ≡ false
      → element_of program (opened name v st) other index ≡ element_of program st other index
  element_under other (Ok i) e = ap (λ x. element_cell st x (number_of i)) (named_under other e)
  element_under other (Err f) e = refl

  -- the cell of an element is read alike
  read_under : (other : List ℕ) (index : Result Value ℕ)
      → read_cell (opened name v st) (element_of program st other index)
      ≡ read_cell st (element_of program st other index)
  read_under other (Err f) = refl
  read_under other (Ok i) = by (variable_value program st other) (number_of i)
    where
      by : (x : Value) (k : ℕ) → read_cell (opened name v st) (element_cell st x k) ≡ read_cell st (element_cell st x k)
      by (Word w) k = refl
      by Nil k = refl
      by (Name n) k = at (nat_lt k (length (object_at st.store n).cells))
        where
          at : (t : Bool) → read_cell (opened name v st) (if t then Ok (Part n k) else Err INDEX)
              ≡ read_cell st (if t then Ok (Part n k) else Err INDEX)
          at true = refl
          at false = refl

  pub value_under : (e : Expression) → occurs name e ≡ false
      → value_in program (opened name v st) e ≡ value_in program st e
  value_under (Number at word) h = refl
  value_under (Null at) h = refl
  value_under (Variable other) h = ap (λ x. Ok x) (named_under other.text h)
  value_under (Element other index) h =
      let parts = either_false (bytes_eq other.text name) (occurs name index) h in
      ap (λ i. read_cell (opened name v st) (element_of program (opened name v st) other.text i))
      (value_under index parts.1)
      ∙ ap (read_cell (opened name v st)) (element_under other.text (value_in program st index) parts.0)
      ∙ read_under other.text (value_in program st index)
  value_under (Binary at op left right) h =
      let parts = either_false (occurs name left) (occurs name right) h in
      ap (λ x. combined op x (value_in program (opened name v st) right)) (value_under left parts.0)
      ∙ ap (λ x. combined op (value_in program st left) x) (value_under right parts.1)

  pub clean_under : (e : Expression) → occurs name e ≡ false → Clean program st e → Clean program (opened name v st) e
  clean_under (Number at word) h k = tt
  clean_under (Null at) h k = tt
  clean_under (Variable other) h k = tt
  clean_under (Element other index) h k =
      let parts = either_false (bytes_eq other.text name) (occurs name index) h in
      (clean_under index parts.1 k.0, subst IsNumber (sym (value_under index parts.1)) k.1)
  clean_under (Binary at op left right) h k =
      let parts = either_false (occurs name left) (occurs name right) h in
      let P : Result Value ℕ → Type 0 = λ x. FitResults op x (value_in program (opened name v st) right) in
      let Q : Result Value ℕ → Type 0 = λ x. FitResults op (value_in program st left) x in (
        clean_under left parts.0 k.0,
        clean_under right parts.1 k.1,
        subst P (sym (value_under left parts.0)) (subst Q (sym (value_under right parts.1)) k.2),
      )

-- a state is its rest with the innermost variable
reopened_frame : (name : List ℕ) (names : List (List ℕ)) (frame : List Binding) → frame_names frame ≡ name ∷ names
    → frame ≡ record { name = name; value = value_at frame 0 } ∷ rest_of frame
reopened_frame name names [] e = cc
reopened_frame name names (b ∷ frame) e = ap (λ n. record { name = n; value = b.value } ∷ frame)
    (ap (λ l. elim l as (λ _. List ℕ) [ [] ↦ [] | x ∷ xs ↦ x ]) e)

pub reopened : (name : List ℕ) (names : List (List ℕ)) (st : State) → frame_names st.frame ≡ name ∷ names
    → st ≡ opened name (read st (Slot 0)) (closed st)
reopened name names st e = ap (λ f. record st { frame = f }) (reopened_frame name names st.frame e)

-- the inverse of what `construct` means is what its inverse means
pub constructed_inverse : (at : ℕ) (class name : Ident) (body : Statements)
    → inverse (constructed at class name body) ≡ constructed at class name (inverse body)
constructed_inverse at class name body = ap (λ b. joined b (Then (Delete at (AnObject class) (Whole name)) End))
    (inverse-joined true body (Then (Delete at (AnObject class) (Whole name)) End))

module _ (setting : Setting) (G : Ground setting) where
  -- the way back through a block with a local variable
  pub record ScopeUndone (name : List ℕ) (value end_value : Expression) (body : Statements) (f : Names) (a b b' : State)
      (cost : ℕ) : Type 0 where
    pub back : State
    pub names : Names
    pub does : (m : ℕ) → cost ≤ m → with_local setting (exec setting m) name end_value (inverse body) value b'
        ≡ Done back cost
    pub sees : Sees setting.limits.heap names a back
    pub same : SameOn f names a b

  scope_undone : (name : List ℕ) (value end_value : Expression) (body : Statements) (a end : State) (v w : Value)
      (c2 : ℕ) (f : Names) (b' : State) → IsSound a
      → occurs name value ≡ false → occurs name end_value ≡ false
      → Clean setting.program a value → Clean setting.program (closed end) end_value
      → value_in setting.program a value ≡ Ok v → value_in setting.program end end_value ≡ Ok w
      → Later (opened name v a) end → same_value (read end (Slot 0)) w ≡ true
      → ((g : Names) (x' : State) → Sees setting.limits.heap g end x'
      → BlockUndone setting body g (opened name v a) end x' c2)
      → Sees setting.limits.heap f (closed end) b' → ScopeUndone name value end_value body f a (closed end) b'
      (nodes end_value + (c2 + nodes value))
  scope_undone name value end_value body a end v w c2 f b' sound none none_end clean clean_end is_v is_w later check
      undo sees =
      let shape : end ≡ opened name w (closed end) = reopened name (frame_names a.frame) end later.names
      ∙ ap (λ x. opened name x (closed end)) (is_same_value (read end (Slot 0)) w check) in
      let is_w' : value_in setting.program (closed end) end_value ≡ Ok w =
      sym (value_under setting.program name w (closed end) end_value none_end)
      ∙ ap (λ s. value_in setting.program s end_value) (sym shape) ∙ is_w in
      let w' = renamed f.there w in
      let P : State → Type 0 = λ s. Sees setting.limits.heap f s (opened name w' b') in
      let inner = undo f (opened name w' b') (subst P (sym shape)
      (opened_seen setting.limits.heap f (closed end) b' sees name w)) in
      let g = inner.names in
      let v' = renamed g.there v in
      let is_v' : value_in setting.program (opened name v a) value ≡ Ok v =
      value_under setting.program name v a value none ∙ is_v in
      let values = evaluated_seen setting.limits.heap g (opened name v a) inner.back inner.sees setting.program value v
      (clean_under setting.program name v a value none clean) is_v' in
      let holds_v : same_value (read inner.back (Slot 0)) v' ≡ true =
      ap (λ x. same_value x v') (read_seen setting.limits.heap g (opened name v a) inner.back inner.sees (Slot 0))
      ∙ same_value_itself v' in
      record {
        back = closed inner.back;
        names = g;
        does = λ m h.
            done_then (evaluated setting.program end_value b') _ w' (closed inner.back) (nodes end_value)
            (c2 + nodes value) (nodes end_value + (c2 + nodes value))
            (evaluated_seen setting.limits.heap f (closed end) b' sees setting.program end_value w clean_end is_w')
            (done_then (exec setting m (inverse body) (opened name w' b')) _ inner.back (closed inner.back) c2
            (nodes value) (c2 + nodes value) (inner.runs.by m (omega arith))
            (done_then (evaluated setting.program value inner.back) _ v' (closed inner.back) (nodes value) 0
            (nodes value) values
            (done_then (fault_if DELOCAL (not (same_value (read inner.back (Slot 0)) v'))) _ tt
            (closed inner.back) 0 0 0 (passes DELOCAL (not (same_value (read inner.back (Slot 0)) v'))
            (ap not holds_v)) refl refl) (omega arith)) refl) refl;
        sees = closed_seen setting.limits.heap g (opened name v a) inner.back inner.sees;
        same = inner.same;
      }

  pub undo_scope : (n : ℕ) → Undoes setting G n → (name : List ℕ) (value end_value : Expression) (body : Statements)
      (a b : State) (c : ℕ)
      → IsSound a → occurs name value ≡ false → occurs name end_value ≡ false → Clean setting.program a value
      → Clean setting.program b end_value
      → ((v : Value) → value_in setting.program a value ≡ Ok v
      → (inner : G.Context) × G.Good inner (opened name v a) × G.Typed inner body)
      → with_local setting (exec setting n) name value body end_value a ≡ Done b c
      → (f : Names) (b' : State) → Sees setting.limits.heap f b b' → ScopeUndone name value end_value body f a b b' c
  undo_scope n ih name value end_value body a b c sound none none_end clean clean_end enter e f b' sees =
      let one = in_parts (evaluated setting.program value a)
      (λ v. exec setting n body (opened name v a) >>= (λ end. evaluated setting.program end_value end >>=
      (λ w. fault_if DELOCAL (not (same_value (read end (Slot 0)) w)) >>= (λ u. give (closed end))))) b c
      e in
      let v = one.middle in
      let two = in_parts (exec setting n body (opened name v a))
      (λ end. evaluated setting.program end_value end >>=
      (λ w. fault_if DELOCAL (not (same_value (read end (Slot 0)) w)) >>= (λ u. give (closed end)))) b
      one.after one.second in
      let end = two.middle in
      let three = in_parts (evaluated setting.program end_value end)
      (λ w. fault_if DELOCAL (not (same_value (read end (Slot 0)) w)) >>= (λ u. give (closed end))) b
      two.after two.second in
      let w = three.middle in
      let four = in_parts (fault_if DELOCAL (not (same_value (read end (Slot 0)) w))) (λ u. give (closed end)) b
      three.after three.second in
      let is : closed end ≡ b = done_result (closed end) b 0 four.after four.second in
      let check = passed_check DELOCAL (not (same_value (read end (Slot 0)) w)) four.middle four.before four.first
      in
      let first = given_done (nodes value) (value_in setting.program a value) v one.before one.first in
      let last = given_done (nodes end_value) (value_in setting.program end end_value) w three.before three.first in
      let within = enter v first.0 in
      let later = exec_later setting n body (opened name v a) end two.before
      (record { unique = sound.unique; drawn = sound.drawn; positive = sound.positive }) two.first in
      let P : State → Type 0 = λ s. Clean setting.program s end_value in
      let Q : State → Type 0 = λ s. Sees setting.limits.heap f s b' in
      let undone = scope_undone name value end_value body a end v w two.before f b' sound none none_end clean
      (subst P (sym is) clean_end) first.0 last.0 later (is_true (same_value (read end (Slot 0)) w) check.0)
      (λ g x' s. ih within.0 body (opened name v a) end two.before within.2 within.1 two.first g x' s)
      (subst Q (sym is) sees) in
      let R : State → Type 0 = λ s. ScopeUndone name value end_value body f a s b' c in
      let S : ℕ → Type 0 = λ k. ScopeUndone name value end_value body f a (closed end) b' k in
      subst R is (subst S (let z = done_cost (closed end) b 0 four.after four.second in let s1 = one.sum in
      let s2 = two.sum in let s3 = three.sum in let s4 = four.sum in let k1 = first.1 in let k2 = last.1 in
      let k4 = check.1 in omega arith) undone)
    where
      is_true : (t : Bool) → not t ≡ false → t ≡ true
      is_true true e = refl
      is_true false e = cc

  pub undo_local : (n : ℕ) → Undoes setting G n → (C : G.Context) (at : ℕ) (var : Var) (value : Expression)
      (body : Statements) (end_var : Var) (end_value : Expression) (a b : State) (c : ℕ)
      → G.Typed C (Then (Local at var value body end_var end_value) End) → G.Good C a → G.Good C b
      → statement setting n (exec setting n) (Local at var value body end_var end_value) a ≡ Done b c
      → (f : Names) (b' : State) → Sees setting.limits.heap f b b'
      → Undone setting (Local at var value body end_var end_value) f a b b' c
  undo_local n ih C at var value body end_var end_value a b c typed good good_b e f b' sees =
      let words = G.local_words C at var value body end_var end_value typed in
      let scope = undo_scope n ih var.name.text value end_value body a b c (G.sound C a good) words.0 words.1
      (G.clean C (Local at var value body end_var end_value) a typed good).0
      (G.clean C (Local at var value body end_var end_value) b typed good_b).1
      (λ v is. G.local C at var value body end_var end_value a v typed good is) e f b' sees in
      record {
        back = scope.back;
        names = scope.names;
        sees = scope.sees;
        same = scope.same;
        does = record {
          by = λ m h. ap (λ x. with_local setting (exec setting m) x end_value (inverse body) value b')
              words.2 ∙ scope.does m h;
        };
      }

  pub undo_construct : (n : ℕ) → Undoes setting G n → (C : G.Context) (at : ℕ) (class name : Ident) (body : Statements)
      (end : Ident) (a b : State) (c : ℕ) → G.Typed C (Then (Construct at class name body end) End) → G.Good C a
      → statement setting n (exec setting n) (Construct at class name body end) a ≡ Done b c → (f : Names) (b' : State)
      → Sees setting.limits.heap f b b' → Undone setting (Construct at class name body end) f a b b' c
  undo_construct n ih C at class name body end a b c typed good e f b' sees =
      let scope = undo_scope n ih name.text (Null at) (Null at) (constructed at class name body) a b c
      (G.sound C a good) refl refl tt tt (λ v is. enter v is) e f b' sees in
      record {
        back = scope.back;
        names = scope.names;
        sees = scope.sees;
        same = scope.same;
        does = record {
          by = λ m h. ap (λ x. with_local setting (exec setting m) name.text (Null at) x (Null at) b')
              (sym (constructed_inverse at class name body)) ∙ scope.does m h;
        };
      }
    where
      enter : (v : Value) → value_in setting.program a (Null at) ≡ Ok v
          → (inner : G.Context) × G.Good inner (opened name.text v a) × G.Typed inner (constructed at class name body)
      enter v is =
          let inner = G.construct C at class name body end a typed good in
          let nil : Nil ≡ v = ap (λ r. value_or r) is in
          let P : Value → Type 0 = λ x. G.Good inner.0 (opened name.text x a) in
          (inner.0, subst P nil inner.1, inner.2)

  pub undo_element : (n : ℕ) → Undoes setting G n → (C : G.Context) (at : ℕ) (back : Bool) (name : Ident)
      (index : Expression) (method : Ident) (args : List Ident) (a b : State) (c : ℕ)
      → G.Typed C (Then (Call at back (Some (Item name index)) method args) End) → G.Good C a
      → statement setting n (exec setting n) (Call at back (Some (Item name index)) method args) a ≡ Done b c
      → (f : Names) (b' : State) → Sees setting.limits.heap f b b'
      → Undone setting (Call at back (Some (Item name index)) method args) f a b b' c
  undo_element n ih C at back name index method args a b c typed good e f b' sees =
      let scope = undo_scope n ih [] (Null at) (Null at) (element_call at back name index method args) a b c
      (G.sound C a good) refl refl tt tt (λ v is. enter v is) e f b' sees in
      record {
        back = scope.back;
        names = scope.names;
        sees = scope.sees;
        same = scope.same;
        does = record { by = λ m h. scope.does m h };
      }
    where
      enter : (v : Value) → value_in setting.program a (Null at) ≡ Ok v
          → (inner : G.Context) × G.Good inner (opened [] v a)
          × G.Typed inner (element_call at back name index method args)
      enter v is =
          let inner = G.element C at back name index method args a typed good in
          let nil : Nil ≡ v = ap (λ r. value_or r) is in
          let P : Value → Type 0 = λ x. G.Good inner.0 (opened [] x a) in
          (inner.0, subst P nil inner.1, inner.2)
