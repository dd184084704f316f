-- `new` and `delete` undone.
use Rattle.std.proofs.Common.{◌≡◌, ◌≢◌, ℕ, zero, suc, ◌+◌, ◌≤◌, refl, sym, ap, subst, ◌∙◌, arith, true, false, Bool}
use Rattle.std.proofs.Common.{not, ◌&&◌, ◌||◌, List, [], ◌∷◌, length, map, replicate, Ok, Some, unwrap_or, slice_get}
use Rattle.std.proofs.Common.{nat_eq, nat_lt, is_none, eqb-true, eq-eqb, le-ltb}
use Rattle.meaning_reached.specs.rpp_words.Words.{is_less}
use Rattle.meaning_reached.specs.rpp_tree.declared.tree.Ident.{Ident}
use Rattle.meaning_reached.specs.rpp_tree.declared.tree.Var.{Var}
use Rattle.meaning_reached.specs.rpp_tree.declared.tree.VarType.{VarType}
use Rattle.meaning_reached.specs.rpp_tree.declared.tree.VarType.TheVariants as kind
use Rattle.meaning_reached.specs.rpp_tree.Tree.{Expression, Lvalue, Object as AnObject, New, Delete, End, Then, nodes, index_nodes}
use Rattle.meaning_reached.specs.class_rules.Classes.{class_number, class_fields}
use Rattle.meaning_reached.specs.buddy_book.Place.{Log, Taken, Given, count_taken, block_of, after_request, place}
use Rattle.meaning_reached.proofs.buddy_book_laws.Orders.{give_gave}
use Rattle.meaning_reached.specs.roopl_semantics.Run.{Run, Done, ◌>>=◌, give as ends, spend, fault_if}
use Rattle.meaning_reached.specs.roopl_semantics.Store.{Value, Word, Nil, Name, Head, OfClass, OfInts, OfObjects, Object, State}
use Rattle.meaning_reached.specs.roopl_semantics.Store.{main_name, is_nil, is_zero, number_of, zero_value, zero_values, object_named}
use Rattle.meaning_reached.specs.roopl_semantics.Store.{object_at, no_object}
use Rattle.meaning_reached.specs.roopl_semantics.Value.{Cell, Slot, Part, read, cell_of, evaluated, found, NIL}
use Rattle.meaning_reached.specs.roopl_semantics.Elements.{index_elements, own_element, share_array, read_cost, kept_apart}
use Rattle.meaning_reached.specs.roopl_semantics.Execution.{Setting, Runner, statement, exec, allocated, freed, new_array, delete_array}
use Rattle.meaning_reached.specs.roopl_semantics.Execution.{new_object, order_of_cells, is_of_class, all_zero, NOT_NIL}
use Rattle.meaning_reached.specs.roopl_semantics.Execution.{LENGTH, LENGTH_DIFFERS, COUNT, NOT_EMPTY}
use Rattle.meaning_reached.specs.roopl_semantics.Execution.{HEAP_FULL, CLASS_DIFFERS}
use Rattle.meaning_reached.specs.roopl_semantics.Agreement.{renamed, renamed_object}
use Rattle.meaning_reached.specs.roopl_semantics.Laws.{book_of, block_in}
use Rattle.meaning_inverse.proofs.Runs.{in_parts, done_then, done_result, done_cost, given_done, apart_done, done_apart}
use Rattle.meaning_inverse.proofs.Runs.{passed_check, passes}
use Rattle.meaning_inverse.proofs.Cells.{IsCell, IsSlot, IsPart, read_written}
use Rattle.meaning_inverse.proofs.Later.{IsSound, named_without}
use Rattle.meaning_inverse.proofs.Seen.{Names, Sees, cell_for, read_seen, share_seen, found_seen, object_seen}
use Rattle.meaning_inverse.proofs.Seen.{written_seen}
use Rattle.meaning_inverse.proofs.Ground.{Ground, AreLive, number_named, new_cells, Stands, Placed}
use Rattle.meaning_inverse.proofs.Undone.{SameOn, Undone}
use Rattle.meaning_inverse.proofs.Calls.{live_read}
use Rattle.meaning_inverse.proofs.Copies.{is_nil_value}
use Rattle.meaning_inverse.proofs.Places.{order_positive, taken_given, dropped, dropped_seen, relogged, added, made}
use Rattle.meaning_inverse.proofs.Places.{made_dropped, named_made, read_made}
use Rattle.meaning_inverse.proofs.Drawn.{IsApart, gone, redrawn}

-- ---- zeros

plain_zeros : (f : ℕ → ℕ) (vars : List Var) → map (renamed f) (zero_values vars) ≡ zero_values vars
plain_zeros f [] = refl
plain_zeros f (var ∷ vars) = ap (λ v. v ∷ map (renamed f) (zero_values vars)) (by var.kind)
    ∙ ap (λ l. zero_value var.kind ∷ l) (plain_zeros f vars)
  where
    by : (k : VarType) → renamed f (zero_value k) ≡ zero_value k
    by kind.Int = refl
    by (kind.Class c) = refl
    by kind.IntArray = refl
    by (kind.ClassArray c) = refl

pub zeros_are_zero : (vars : List Var) → all_zero (zero_values vars) ≡ true
zeros_are_zero [] = refl
zeros_are_zero (var ∷ vars) = ap (λ t. t && all_zero (zero_values vars)) (by var.kind) ∙ zeros_are_zero vars
  where
    by : (k : VarType) → is_zero (zero_value k) ≡ true
    by kind.Int = refl
    by (kind.Class c) = refl
    by kind.IntArray = refl
    by (kind.ClassArray c) = refl

pub plain_replicate : (f : ℕ → ℕ) (n : ℕ) (v : Value) → renamed f v ≡ v
    → map (renamed f) (replicate n v) ≡ replicate n v
plain_replicate f zero v e = refl
plain_replicate f (suc n) v e = ap (λ x. x ∷ map (renamed f) (replicate n v)) e
    ∙ ap (λ l. v ∷ l) (plain_replicate f n v e)

replicate_zero : (n : ℕ) (v : Value) → is_zero v ≡ true → all_zero (replicate n v) ≡ true
replicate_zero zero v e = refl
replicate_zero (suc n) v e = ap (λ t. t && all_zero (replicate n v)) e ∙ replicate_zero n v e

pub length_replicate : (n : ℕ) (v : Value) → length (replicate n v) ≡ n
length_replicate zero v = refl
length_replicate (suc n) v = ap suc (length_replicate n v)

-- a cell that holds a name is not of an object of zeros
zero_cells : (cells : List Value) (i n : ℕ) → all_zero cells ≡ true → unwrap_or (slice_get cells i) Nil ≡ Name n → ⊥
zero_cells [] i n e h = cc
zero_cells (v ∷ cells) zero n e h = by v e h
  where
    by : (v : Value) → is_zero v && all_zero cells ≡ true → v ≡ Name n → ⊥
    by (Word w) e h = cc
    by Nil e h = cc
    by (Name m) e h = cc
zero_cells (v ∷ cells) (suc i) n e h = by (is_zero v) e (λ k. zero_cells cells i n k h)
  where
    by : (t : Bool) → t && all_zero cells ≡ true → (all_zero cells ≡ true → ⊥) → ⊥
    by true e k = k e
    by false e k = cc

pub aside : (st : State) (c : Cell) (n : ℕ) (object : Object) → object_named st.store n ≡ Some object
    → all_zero object.cells ≡ true → read st c ≡ Name n → IsApart n c
aside st (Slot i) n object e z h = tt
aside st (Part k i) n object e z h = by (nat_eq n k) refl
  where
    by : (t : Bool) → nat_eq n k ≡ t → nat_eq n k ≡ false
    by false f = f
    by true f =
        let P : ℕ → Type 0 = λ x. object_named st.store x ≡ Some object in
        let at_k = subst P (eqb-true n k f) e in
        absurd (zero_cells object.cells i n z (ap (λ o. unwrap_or (slice_get (unwrap_or o no_object).cells i) Nil)
        (sym at_k) ∙ h))

pub not_false : (t : Bool) → not t ≡ false → t ≡ true
not_false true e = refl
not_false false e = cc

either_false : (a b : Bool) → a || b ≡ false → (a ≡ false) × (b ≡ false)
either_false true b e = cc
either_false false b e = (refl, e)

both_false : (a b : Bool) → a ≡ false → b ≡ false → a || b ≡ false
both_false true b e h = cc
both_false false b e h = h

pub of_class_is : (head : Head) (number : ℕ) → is_of_class head (Some number) ≡ true → head ≡ OfClass number
of_class_is (OfClass class) number e = ap (λ n. OfClass n) (eqb-true class number e)
of_class_is (OfInts l) number e = cc
of_class_is (OfObjects class l) number e = cc

module _ (setting : Setting) where
  -- what the statements do, if their checks pass
  new_goes : (m at : ℕ) (run : Runner) (class : Ident) (target : Lvalue) (st end : State) (cell : Cell)
      → found setting.program target st ≡ Done cell (index_nodes target)
      → share_array setting.program st (own_element target) (index_elements target) ≡ false → read st cell ≡ Nil
      → allocated setting (length (new_cells setting.program class)) cell (OfClass (number_named setting.program class))
      (new_cells setting.program class) st ≡ Done end 0
      → statement setting m run (New at (AnObject class) target) st
      ≡ Done end (index_nodes target + (read_cost (own_element target) (index_elements target) +
      (setting.limits.heap + 1)))
  new_goes m at run class target st end cell finds unshared nil done =
      let h = setting.limits.heap in
      let d3 : Cell → Unit {0} → Run State = λ x u. allocated setting (length (new_cells setting.program class)) x
      (OfClass (number_named setting.program class)) (new_cells setting.program class) st in
      let d2 : Cell → Unit {0} → Run State = λ x u. spend (h + 1) >>= d3 x in
      let d1 : Cell → Unit {0} → Run State = λ x u. fault_if NOT_NIL (not (is_nil (read st x))) >>= d2 x in
      let d0 : Cell → Run State = λ x. kept_apart setting.program (own_element target) (index_elements target) st >>= d1
      x in
      let k = read_cost (own_element target) (index_elements target) in
      done_then (found setting.program target st) d0 cell end (index_nodes target) (k + (h + 1))
      (index_nodes target + (k + (h + 1))) finds
      (done_then (kept_apart setting.program (own_element target) (index_elements target) st) (d1 cell) tt end k (h + 1)
      (k + (h + 1)) (done_apart setting.program (own_element target) (index_elements target) st unshared)
      (done_then (fault_if NOT_NIL (not (is_nil (read st cell)))) (d2 cell) tt end 0 (h + 1) (h + 1)
      (passes NOT_NIL (not (is_nil (read st cell))) (ap (λ v. not (is_nil v)) nil))
      (done_then (spend (h + 1)) (d3 cell) tt end (h + 1) 0 (h + 1) refl done (omega arith)) (omega arith)) refl) refl

  delete_goes : (m at : ℕ) (run : Runner) (class : Ident) (target : Lvalue) (st : State) (cell : Cell) (name : ℕ)
      → found setting.program target st ≡ Done cell (index_nodes target)
      → share_array setting.program st (own_element target) (index_elements target) ≡ false → read st cell ≡ Name name
      → class_number setting.program class.text ≡ Some (number_named setting.program class)
      → object_at st.store name ≡ new_object (OfClass (number_named setting.program class))
      (new_cells setting.program class)
      → statement setting m run (Delete at (AnObject class) target) st
      ≡ Done (freed setting cell name st) (index_nodes target +
      (read_cost (own_element target) (index_elements target) + (setting.limits.heap + 1)))
  delete_goes m at run class target st cell name finds unshared holds known is =
      let h = setting.limits.heap in
      let number = number_named setting.program class in
      let end = freed setting cell name st in
      let thing : Cell → Object = λ x. object_at st.store (number_of (read st x)) in
      let d6 : Cell → Unit {0} → Run State = λ x u. ends (freed setting x (number_of (read st x)) st) in
      let d5 : Cell → Unit {0} → Run State = λ x u. fault_if NOT_EMPTY (not (all_zero (thing x).cells)) >>= d6 x
      in
      let d4 : Cell → Unit {0} → Run State = λ x u. spend (h + 1) >>= d5 x in
      let d3 : Cell → Unit {0} → Run State = λ x u. fault_if COUNT (not (nat_eq (thing x).count 1)) >>= d4 x in
      let d2 : Cell → Unit {0} → Run State = λ x u. fault_if CLASS_DIFFERS
      (not (is_of_class (thing x).head (class_number setting.program class.text))) >>= d3 x in
      let d1 : Cell → Unit {0} → Run State = λ x u. fault_if NIL (is_nil (read st x)) >>= d2 x in
      let d0 : Cell → Run State = λ x. kept_apart setting.program (own_element target) (index_elements target) st >>= d1
      x in
      let k = read_cost (own_element target) (index_elements target) in
      let is_thing : thing cell ≡ new_object (OfClass number) (new_cells setting.program class) =
      ap (λ v. object_at st.store (number_of v)) holds ∙ is in
      let is_class : not (is_of_class (thing cell).head (class_number setting.program class.text)) ≡ false =
      ap (λ o. not (is_of_class o.head (class_number setting.program class.text))) is_thing
      ∙ ap (λ k. not (is_of_class (OfClass number) k)) known ∙ ap not (eq-eqb number number refl) in
      let is_counted : not (nat_eq (thing cell).count 1) ≡ false = ap (λ o. not (nat_eq o.count 1)) is_thing in
      let is_empty : not (all_zero (thing cell).cells) ≡ false = ap (λ o. not (all_zero o.cells)) is_thing
      ∙ ap not (zeros_are_zero (class_fields setting.program number)) in
      done_then (found setting.program target st) d0 cell end (index_nodes target) (k + (h + 1))
      (index_nodes target + (k + (h + 1))) finds
      (done_then (kept_apart setting.program (own_element target) (index_elements target) st) (d1 cell) tt end k (h + 1)
      (k + (h + 1)) (done_apart setting.program (own_element target) (index_elements target) st unshared)
      (done_then (fault_if NIL (is_nil (read st cell))) (d2 cell) tt end 0 (h + 1) (h + 1)
      (passes NIL (is_nil (read st cell)) (ap is_nil holds))
      (done_then (fault_if CLASS_DIFFERS (not (is_of_class (thing cell).head
      (class_number setting.program class.text)))) (d3 cell) tt end 0 (h + 1) (h + 1)
      (passes CLASS_DIFFERS (not (is_of_class (thing cell).head (class_number setting.program class.text)))
      is_class)
      (done_then (fault_if COUNT (not (nat_eq (thing cell).count 1))) (d4 cell) tt end 0 (h + 1) (h + 1)
      (passes COUNT (not (nat_eq (thing cell).count 1)) is_counted)
      (done_then (spend (h + 1)) (d5 cell) tt end (h + 1) 0 (h + 1) refl
      (done_then (fault_if NOT_EMPTY (not (all_zero (thing cell).cells))) (d6 cell) tt end 0 0 0
      (passes NOT_EMPTY (not (all_zero (thing cell).cells)) is_empty)
      (ap (λ v. Done (freed setting cell (number_of v) st) 0) holds) refl) (omega arith)) (omega arith)) (omega arith))
      (omega arith)) refl) refl

  pub new_array_goes : (target : Lvalue) (size : Expression) (head : ℕ → Head) (element : Value) (st end : State)
      (cell : Cell) (count : ℕ) → found setting.program target st ≡ Done cell (index_nodes target)
      → evaluated setting.program size st ≡ Done (Word count) (nodes size)
      → read st cell ≡ Nil → is_less count 1 ≡ false → allocated setting count cell (head count)
      (replicate count element) st ≡ Done end 0
      → new_array setting target size head element st ≡ Done end
      (index_nodes target + (nodes size + (setting.limits.heap + 1 + count)))
  new_array_goes target size head element st end cell count finds evaluates nil long done =
      let h = setting.limits.heap in
      let d6 : ℕ → State → Run State = λ n s. spend n >>= (λ u. ends s) in
      let d5 : Cell → ℕ → Unit {0} → Run State = λ x n u. allocated setting n x (head n) (replicate n element) st >>= d6
      n in
      let d4 : Cell → ℕ → Unit {0} → Run State = λ x n u. spend (h + 1) >>= d5 x n in
      let d3 : Cell → ℕ → Unit {0} → Run State = λ x n u. fault_if LENGTH (is_less n 1) >>= d4 x n in
      let d2 : Cell → Value → Run State = λ x v. fault_if NOT_NIL (not (is_nil (read st x))) >>= d3 x
      (number_of v) in
      let d1 : Cell → Run State = λ x. evaluated setting.program size st >>= d2 x in
      let last : d6 count end ≡ Done end count = ap (Done end) (let z : count + 0 ≡ count = omega arith in z) in
      done_then (found setting.program target st) d1 cell end (index_nodes target) (nodes size + (h + 1 + count))
      (index_nodes target + (nodes size + (h + 1 + count))) finds
      (done_then (evaluated setting.program size st) (d2 cell) (Word count) end (nodes size) (h + 1 + count)
      (nodes size + (h + 1 + count)) evaluates
      (done_then (fault_if NOT_NIL (not (is_nil (read st cell)))) (d3 cell count) tt end 0 (h + 1 + count)
      (h + 1 + count) (passes NOT_NIL (not (is_nil (read st cell))) (ap (λ v. not (is_nil v)) nil))
      (done_then (fault_if LENGTH (is_less count 1)) (d4 cell count) tt end 0 (h + 1 + count) (h + 1 + count)
      (passes LENGTH (is_less count 1) long)
      (done_then (spend (h + 1)) (d5 cell count) tt end (h + 1) count (h + 1 + count) refl
      (done_then (allocated setting count cell (head count) (replicate count element) st) (d6 count) end end 0 count
      count done last (omega arith)) refl) (omega arith)) (omega arith)) refl) refl

  pub delete_array_goes : (target : Lvalue) (size : Expression) (head : Head) (element : Value) (st : State)
      (cell : Cell) (name count : ℕ) → found setting.program target st ≡ Done cell (index_nodes target)
      → evaluated setting.program size st ≡ Done (Word count) (nodes size)
      → read st cell ≡ Name name → object_at st.store name ≡ new_object head (replicate count element)
      → is_zero element ≡ true
      → delete_array setting target size st ≡ Done (freed setting cell name st)
      (index_nodes target + (nodes size + (setting.limits.heap + 1 + count)))
  delete_array_goes target size head element st cell name count finds evaluates holds is zero_element =
      let h = setting.limits.heap in
      let end = freed setting cell name st in
      let thing : Cell → Object = λ x. object_at st.store (number_of (read st x)) in
      let d7 : Cell → Unit {0} → Run State = λ x u. ends (freed setting x (number_of (read st x)) st) in
      let d6 : Cell → Unit {0} → Run State = λ x u. fault_if NOT_EMPTY (not (all_zero (thing x).cells)) >>= d7 x
      in
      let d5 : Cell → Unit {0} → Run State = λ x u. spend (h + 1 + length (thing x).cells) >>= d6 x in
      let d4 : Cell → Unit {0} → Run State = λ x u. fault_if COUNT (not (nat_eq (thing x).count 1)) >>= d5 x in
      let d3 : Cell → Value → Unit {0} → Run State = λ x v u. fault_if LENGTH_DIFFERS
      (not (nat_eq (length (thing x).cells) (number_of v))) >>= d4 x in
      let d2 : Cell → Value → Run State = λ x v. fault_if NIL (is_nil (read st x)) >>= d3 x v in
      let d1 : Cell → Run State = λ x. evaluated setting.program size st >>= d2 x in
      let is_thing : thing cell ≡ new_object head (replicate count element) =
      ap (λ v. object_at st.store (number_of v)) holds ∙ is in
      let many : length (thing cell).cells ≡ count = ap (λ o. length o.cells) is_thing
      ∙ length_replicate count element in
      let is_long : not (nat_eq (length (thing cell).cells) count) ≡ false =
      ap not (eq-eqb (length (thing cell).cells) count many) in
      let is_counted : not (nat_eq (thing cell).count 1) ≡ false = ap (λ o. not (nat_eq o.count 1)) is_thing in
      let is_empty : not (all_zero (thing cell).cells) ≡ false = ap (λ o. not (all_zero o.cells)) is_thing
      ∙ ap not (replicate_zero count element zero_element) in
      done_then (found setting.program target st) d1 cell end (index_nodes target) (nodes size + (h + 1 + count))
      (index_nodes target + (nodes size + (h + 1 + count))) finds
      (done_then (evaluated setting.program size st) (d2 cell) (Word count) end (nodes size) (h + 1 + count)
      (nodes size + (h + 1 + count)) evaluates
      (done_then (fault_if NIL (is_nil (read st cell))) (d3 cell (Word count)) tt end 0 (h + 1 + count)
      (h + 1 + count) (passes NIL (is_nil (read st cell)) (ap is_nil holds))
      (done_then (fault_if LENGTH_DIFFERS (not (nat_eq (length (thing cell).cells) count))) (d4 cell) tt end 0
      (h + 1 + count) (h + 1 + count) (passes LENGTH_DIFFERS
      (not (nat_eq (length (thing cell).cells) count)) is_long)
      (done_then (fault_if COUNT (not (nat_eq (thing cell).count 1))) (d5 cell) tt end 0 (h + 1 + count)
      (h + 1 + count) (passes COUNT (not (nat_eq (thing cell).count 1)) is_counted)
      (done_then (spend (h + 1 + length (thing cell).cells)) (d6 cell) tt end (h + 1 + length (thing cell).cells) 0
      (h + 1 + count) refl
      (done_then (fault_if NOT_EMPTY (not (all_zero (thing cell).cells))) (d7 cell) tt end 0 0 0
      (passes NOT_EMPTY (not (all_zero (thing cell).cells)) is_empty)
      (ap (λ v. Done (freed setting cell (number_of v) st) 0) holds) refl)
      (ap (λ k. h + 1 + k + 0) many ∙ (let z : h + 1 + count + 0 ≡ h + 1 + count = omega arith in z)))
      (omega arith)) (omega arith)) (omega arith)) refl) refl

  -- what an allocation did
  pub record WasAllocated (size : ℕ) (cell : Cell) (head : Head) (cells : List Value) (a b : State) (cost : ℕ) : Type 0
    where
      pub is : made a cell size head cells ≡ b
      pub free : cost ≡ 0
      pub low : nat_lt setting.limits.heap (order_of_cells size) ≡ false
      pub placed : is_none (place setting.limits.heap (Taken (2 + count_taken a.log) (order_of_cells size) ∷ a.log))
          ≡ false

  pub was_allocated : (size : ℕ) (cell : Cell) (head : Head) (cells : List Value) (a b : State) (cost : ℕ)
      → allocated setting size cell head cells a ≡ Done b cost → WasAllocated size cell head cells a b cost
  was_allocated size cell head cells a b cost e =
      let test = nat_lt setting.limits.heap (order_of_cells size) || is_none
      (place setting.limits.heap (Taken (2 + count_taken a.log) (order_of_cells size) ∷ a.log)) in
      let one = in_parts (fault_if HEAP_FULL test) (λ u. ends (made a cell size head cells)) b cost e in
      let check = passed_check HEAP_FULL test one.middle one.before one.first in
      let parts = either_false (nat_lt setting.limits.heap (order_of_cells size))
      (is_none (place setting.limits.heap (Taken (2 + count_taken a.log) (order_of_cells size) ∷ a.log))) check.0 in
      record {
        is = done_result (made a cell size head cells) b 0 one.after one.second;
        free = (let z = done_cost (made a cell size head cells) b 0 one.after one.second in let s = one.sum in
            let k = check.1 in omega arith);
        low = parts.0;
        placed = parts.1;
      }

  allocates : (size : ℕ) (cell : Cell) (head : Head) (cells : List Value) (st : State)
      → nat_lt setting.limits.heap (order_of_cells size) ≡ false
      → is_none (place setting.limits.heap (Taken (2 + count_taken st.log) (order_of_cells size) ∷ st.log)) ≡ false
      → allocated setting size cell head cells st ≡ Done (made st cell size head cells) 0
  allocates size cell head cells st low some =
      let test = nat_lt setting.limits.heap (order_of_cells size) || is_none
      (place setting.limits.heap (Taken (2 + count_taken st.log) (order_of_cells size) ∷ st.log)) in
      done_then (fault_if HEAP_FULL test) (λ u. ends (made st cell size head cells)) tt
      (made st cell size head cells) 0 0 0
      (passes HEAP_FULL test (both_false (nat_lt setting.limits.heap (order_of_cells size))
      (is_none (place setting.limits.heap (Taken (2 + count_taken st.log) (order_of_cells size) ∷ st.log))) low
      some)) refl refl

  -- what was made is freed
  pub record Unmade (size : ℕ) (cell : Cell) (head : Head) (cells : List Value) (f : Names) (a b' : State) : Type 0
    where
      pub reads : read b' (cell_for f cell) ≡ Name (f.there (2 + count_taken a.log))
      pub object : object_at b'.store (f.there (2 + count_taken a.log)) ≡ new_object head cells
      pub sees : Sees setting.limits.heap f a (freed setting (cell_for f cell) (f.there (2 + count_taken a.log)) b')

  pub unmade : (size : ℕ) (cell : Cell) (head : Head) (cells : List Value) (f : Names) (a b' : State) → IsSound a
      → IsSound (made a cell size head cells) → Placed setting.limits.heap a → IsCell a cell → read a cell ≡ Nil
      → length cells ≡ size → map (renamed f.there) cells ≡ cells
      → is_none (place setting.limits.heap (Taken (2 + count_taken a.log) (order_of_cells size) ∷ a.log)) ≡ false
      → Sees setting.limits.heap f (made a cell size head cells) b' → Unmade size cell head cells f a b'
  unmade size cell head cells f a b' sound sound_b places there nil many plain some sees =
      let h = setting.limits.heap in
      let name = 2 + count_taken a.log in
      let b = made a cell size head cells in
      let named = named_made a cell size head cells sound there in
      let object' : object_at b'.store (f.there name) ≡ new_object head cells =
      object_seen h f b b' sees name ∙ ap (λ o. renamed_object f.there (unwrap_or o no_object)) named
      ∙ ap (new_object head) plain in
      let order = order_of_cells (length (object_at b'.store (f.there name)).cells) in
      let is_order : order ≡ order_of_cells size = ap (λ o. order_of_cells (length o.cells)) object'
      ∙ ap order_of_cells many in
      let not_main : name ≢ main_name = λ e. absurd (omega arith) in
      let drops = dropped_seen h f b b' sees sound_b name order (new_object head cells) named not_main in
      let writes = written_seen h f (dropped b name order) (dropped b' (f.there name) order) drops cell Nil in
      let log : Log = Given name order ∷ (Taken name (order_of_cells size) ∷ a.log) in
      let P : State → Type 0 = λ s. Sees h f s (freed setting (cell_for f cell) (f.there name) b') in
      let relog : Sees h f (record a { log = log }) (freed setting (cell_for f cell) (f.there name) b') =
      subst P (made_dropped a cell size head cells order sound there nil) writes in
      let Q : ℕ → Type 0 = λ o. is_none (after_request (Taken name o) (Some places.at)) ≡ false in
      let some' : is_none (after_request (Taken name order) (Some places.at)) ≡ false =
      subst Q (sym is_order) (ap (λ p. is_none (after_request (Taken name (order_of_cells size)) p)) (sym places.is)
      ∙ some) in
      let same : place h log ≡ place h a.log =
      ap (λ p. after_request (Given name order) (after_request (Taken name (order_of_cells size)) p)) places.is
      ∙ ap (λ o. after_request (Given name order) (after_request (Taken name o) (Some places.at))) (sym is_order)
      ∙ taken_given h name order places.at (let R : ℕ → Type 0 = λ o. 1 ≤ o in
      subst R (sym is_order) (order_positive size)) places.sound some'
      ∙ sym places.is in
      record {
        reads = read_seen h f b b' sees cell ∙ ap (renamed f.there)
            (read_written (added a size head cells) cell (Name name) (read_made a cell size head cells sound there));
        object = object';
        sees = relogged h f a (freed setting (cell_for f cell) (f.there name) b') log (ap book_of same)
            (λ n. ap (λ p. block_in p n) same) relog;
      }

  -- a cell that was emptied
  read_gone : (st : State) (cell : Cell) (n order : ℕ) → IsCell st cell → IsApart n cell
      → read (gone st cell n order) cell ≡ Nil
  read_gone st cell n order (IsSlot i h) q = read_written (dropped st n order) (Slot i) Nil (IsSlot i h)
  read_gone st cell n order (IsPart k i o e h) q = read_written (dropped st n order) (Part k i) Nil
      (IsPart k i o (named_without st.store n k q ∙ e) h)

  -- what was deleted is made again
  pub record Remade (size : ℕ) (cell : Cell) (head : Head) (cells : List Value) (n : ℕ) (f : Names) (a b' : State) :
      Type 0 where
    pub names : Names
    pub sees : Sees setting.limits.heap names a (made b' (cell_for f cell) size head cells)
    pub same : SameOn f names a (freed setting cell n a)
    pub nil : read b' (cell_for f cell) ≡ Nil
    pub done : allocated setting size (cell_for f cell) head cells b'
        ≡ Done (made b' (cell_for f cell) size head cells) 0

  pub remade : (size : ℕ) (cell : Cell) (head : Head) (cells : List Value) (n : ℕ) (object : Object) (f : Names)
      (a b' : State) → IsSound a → Placed setting.limits.heap a → IsCell a cell → object_named a.store n ≡ Some object
      → object ≡ new_object head cells → all_zero object.cells ≡ true
      → length cells ≡ size → ((g : ℕ → ℕ) → map (renamed g) cells ≡ cells) → read a cell ≡ Name n → n ≢ main_name
      → AreLive (freed setting cell n a) → Sees setting.limits.heap f (freed setting cell n a) b'
      → Remade size cell head cells n f a b'
  remade size cell head cells n object f a b' sound places there named is zeros many plain holds not_main live sees =
      let h = setting.limits.heap in
      let order = order_of_cells size in
      let block = block_of places.at.blocks n in
      let size_is : length object.cells ≡ size = ap (λ o. length o.cells) is ∙ many in
      let same_gone : freed setting cell n a ≡ gone a cell n order =
      ap (λ o. gone a cell n (order_of_cells (length (unwrap_or o no_object).cells))) named
      ∙ ap (λ k. gone a cell n (order_of_cells k)) size_is in
      let P : ℕ → Type 0 = λ k. Stands h block (order_of_cells k) in
      let stands = subst P size_is (places.stands n object named not_main) in
      let gave = give_gave h order block places.at.book (order_positive size) stands.to places.lists places.sound
      stands.aligned stands.fits in
      let apart = aside a cell n object named zeros holds in
      let Q : State → Type 0 = λ s. AreLive s in
      let R : State → Type 0 = λ s. Sees h f s b' in
      let sees_gone = subst R same_gone sees in
      let again = redrawn h f a b' cell n object size head cells sound there named is plain holds apart not_main
      (subst Q same_gone live) places.at places.is gave.undone sees_gone in
      let S : State → Type 0 = λ s. SameOn f again.names a s in
      record {
        names = again.names;
        sees = again.sees;
        same = subst S (sym same_gone) again.same;
        nil = read_seen h f (gone a cell n order) b' sees_gone cell
            ∙ ap (renamed f.there) (read_gone a cell n order there apart);
        done = allocates size (cell_for f cell) head cells b' (le-ltb h order stands.to) again.placed;
      }

module _ (setting : Setting) (G : Ground setting) where
  pub undo_new_object : (n : ℕ) (C : G.Context) (at : ℕ) (class : Ident) (target : Lvalue) (a b : State) (c : ℕ)
      → G.Typed C (Then (New at (AnObject class) target) End) → G.Good C a → G.Good C b
      → statement setting n (exec setting n) (New at (AnObject class) target) a ≡ Done b c → (f : Names) (b' : State)
      → Sees setting.limits.heap f b b' → Undone setting (New at (AnObject class) target) f a b b' c
  undo_new_object n C at class target a b c typed good good_b e f b' sees =
      let h = setting.limits.heap in
      let number = number_named setting.program class in
      let cells = new_cells setting.program class in
      let d3 : Cell → Unit {0} → Run State = λ cell w. allocated setting (length cells) cell (OfClass number) cells a in
      let d2 : Cell → Unit {0} → Run State = λ cell u. spend (h + 1) >>= d3 cell in
      let d1 : Cell → Unit {0} → Run State = λ cell u. fault_if NOT_NIL (not (is_nil (read a cell))) >>= d2 cell
      in
      let one = in_parts (found setting.program target a) (λ cell. kept_apart setting.program (own_element target)
      (index_elements target) a >>= d1 cell) b c e in
      let cell = one.middle in
      let check_apart = in_parts (kept_apart setting.program (own_element target) (index_elements target) a) (d1 cell) b
      one.after one.second in
      let two = in_parts (fault_if NOT_NIL (not (is_nil (read a cell)))) (d2 cell) b check_apart.after
      check_apart.second in
      let three = in_parts (spend (h + 1)) (d3 cell) b two.after two.second in
      let unshared = apart_done setting.program (own_element target) (index_elements target) a check_apart.middle
      check_apart.before check_apart.first in
      let place_a = given_done (index_nodes target) (cell_of setting.program a target) cell one.before one.first in
      let check = passed_check NOT_NIL (not (is_nil (read a cell))) two.middle two.before two.first in
      let spent = done_cost tt three.middle (h + 1) three.before three.first in
      let nil = is_nil_value (read a cell) (not_false (is_nil (read a cell)) check.0) in
      let facts = G.new_object C at class target a cell typed good place_a.0 unshared.0 nil in
      let was = was_allocated setting (length cells) cell (OfClass number) cells a b three.after three.second in
      let b0 = made a cell (length cells) (OfClass number) cells in
      let P : State → Type 0 = λ s. Sees h f s b' in
      let Q : State → Type 0 = λ s. IsSound s in
      let R : State → Type 0 = λ s. cell_of setting.program s target ≡ Ok cell in
      let back = unmade setting (length cells) cell (OfClass number) cells f a b' (G.sound C a good)
      (subst Q (sym was.is) (G.sound C b good_b)) (G.placed C a good) facts.there nil refl
      (plain_zeros f.there (class_fields setting.program number)) was.placed (subst P (sym was.is) sees) in
      let cell' = cell_for f cell in
      let drawn = f.there (2 + count_taken a.log) in
      let finds = found_seen h f b b' sees setting.program target cell
      (G.clean C (New at (AnObject class) target) b typed good_b).1 (subst R was.is facts.stays) in
      let S : State → Type 0 = λ s. share_array setting.program s (own_element target) (index_elements target)
      ≡ false in
      let kept = share_seen h f b b' sees setting.program (own_element target) (index_elements target)
      ∙ subst S was.is facts.apart_stays in
      let end = freed setting cell' drawn b' in
      record {
        back = end;
        names = f;
        does = record {
          by = λ m l. delete_goes setting m at (exec setting m) class target b' cell' drawn finds kept back.reads
              facts.known back.object
              ∙ ap (Done end) (let s1 = one.sum in let s2 = two.sum in let s3 = three.sum in let k1 = place_a.1 in
              let k2 = check.1 in let k3 = was.free in let s0 = check_apart.sum in let k0 = unshared.1 in
              let k4 = spent in omega arith);
        };
        sees = back.sees;
        same = λ name o p k l. refl;
      }

  pub undo_delete_object : (n : ℕ) (C : G.Context) (at : ℕ) (class : Ident) (target : Lvalue) (a b : State) (c : ℕ)
      → G.Typed C (Then (Delete at (AnObject class) target) End) → G.Good C a → G.Good C b
      → statement setting n (exec setting n) (Delete at (AnObject class) target) a ≡ Done b c → (f : Names) (b' : State)
      → Sees setting.limits.heap f b b' → Undone setting (Delete at (AnObject class) target) f a b b' c
  undo_delete_object n C at class target a b c typed good good_b e f b' sees =
      let h = setting.limits.heap in
      let number = number_named setting.program class in
      let cells = new_cells setting.program class in
      let thing : Cell → Object = λ x. object_at a.store (number_of (read a x)) in
      let last : Cell → Unit {0} → Run State = λ x u. ends (freed setting x (number_of (read a x)) a) in
      let d6 : Cell → Unit {0} → Run State = λ x u. fault_if NOT_EMPTY (not (all_zero (thing x).cells)) >>= last x
      in
      let d5 : Cell → Unit {0} → Run State = λ x u. spend (h + 1) >>= d6 x in
      let d4 : Cell → Unit {0} → Run State = λ x u. fault_if COUNT (not (nat_eq (thing x).count 1)) >>= d5 x in
      let d3 : Cell → Unit {0} → Run State = λ x u. fault_if CLASS_DIFFERS
      (not (is_of_class (thing x).head (class_number setting.program class.text))) >>= d4 x in
      let d2 : Cell → Unit {0} → Run State = λ x u. fault_if NIL (is_nil (read a x)) >>= d3 x in
      let d1 : Cell → Run State = λ x. kept_apart setting.program (own_element target) (index_elements target) a >>= d2
      x in
      let one = in_parts (found setting.program target a) d1 b c e in
      let check_apart = in_parts (kept_apart setting.program (own_element target) (index_elements target) a)
      (d2 one.middle) b one.after one.second in
      let unshared = apart_done setting.program (own_element target) (index_elements target) a check_apart.middle
      check_apart.before check_apart.first in
      let cell = one.middle in
      let two = in_parts (fault_if NIL (is_nil (read a cell))) (d3 cell) b check_apart.after check_apart.second in
      let three = in_parts (fault_if CLASS_DIFFERS (not
      (is_of_class (thing cell).head (class_number setting.program class.text)))) (d4 cell) b two.after
      two.second in
      let four = in_parts (fault_if COUNT (not (nat_eq (thing cell).count 1))) (d5 cell) b three.after
      three.second in
      let five = in_parts (spend (h + 1)) (d6 cell) b four.after four.second in
      let six = in_parts (fault_if NOT_EMPTY (not (all_zero (thing cell).cells))) (last cell) b five.after
      five.second in
      let place_a = given_done (index_nodes target) (cell_of setting.program a target) cell one.before one.first in
      let c2 = passed_check NIL (is_nil (read a cell)) two.middle two.before two.first in
      let c3 = passed_check CLASS_DIFFERS (not (is_of_class (thing cell).head
      (class_number setting.program class.text))) three.middle three.before three.first in
      let c4 = passed_check COUNT (not (nat_eq (thing cell).count 1)) four.middle four.before four.first in
      let c6 = passed_check NOT_EMPTY (not (all_zero (thing cell).cells)) six.middle six.before six.first in
      let spent = done_cost tt five.middle (h + 1) five.before five.first in
      let GoodC : State → Type 0 = λ s. G.Good C s in
      let facts = G.delete_object C at class target a cell typed good place_a.0 unshared.0 c2.0
      (subst GoodC (sym (done_result (freed setting cell (number_of (read a cell)) a) b 0 six.after six.second))
      good_b) in
      let name = facts.name in
      let live = live_read a cell name (G.live C a good) facts.is_name in
      let object = live.object in
      let is_thing : thing cell ≡ object = ap (λ v. object_at a.store (number_of v)) facts.is_name
      ∙ ap (λ o. unwrap_or o no_object) live.there in
      let head_is : object.head ≡ OfClass number = of_class_is object.head number
      (ap (λ o. is_of_class o.head (Some number)) (sym is_thing)
      ∙ ap (is_of_class (thing cell).head) (sym facts.known)
      ∙ not_false (is_of_class (thing cell).head (class_number setting.program class.text)) c3.0) in
      let count_is : object.count ≡ 1 = ap (λ o. o.count) (sym is_thing)
      ∙ eqb-true (thing cell).count 1 (not_false (nat_eq (thing cell).count 1) c4.0) in
      let zeros : all_zero object.cells ≡ true = ap (λ o. all_zero o.cells) (sym is_thing)
      ∙ not_false (all_zero (thing cell).cells) c6.0 in
      let cells_are = facts.zeros object live.there head_is zeros in
      let is_new : object ≡ new_object (OfClass number) cells = ap (λ k. record object { head = k }) head_is
      ∙ ap (λ k. record object { head = OfClass number; count = k }) count_is
      ∙ ap (new_object (OfClass number)) cells_are in
      let is : freed setting cell name a ≡ b = ap (λ v. freed setting cell (number_of v) a) (sym facts.is_name)
      ∙ done_result (freed setting cell (number_of (read a cell)) a) b 0 six.after six.second in
      let z = done_cost (freed setting cell (number_of (read a cell)) a) b 0 six.after six.second in
      let P : State → Type 0 = λ s. Sees h f s b' in
      let Q : State → Type 0 = λ s. AreLive s in
      let R : State → Type 0 = λ s. cell_of setting.program s target ≡ Ok cell in
      let back = remade setting (length cells) cell (OfClass number) cells name object f a b' (G.sound C a good)
      (G.placed C a good) facts.there live.there is_new zeros refl
      (λ g. plain_zeros g (class_fields setting.program number)) facts.is_name facts.not_main
      (subst Q (sym is) (G.live C b good_b)) (subst P (sym is) sees) in
      let cell' = cell_for f cell in
      let finds = found_seen h f b b' sees setting.program target cell
      (G.clean C (Delete at (AnObject class) target) b typed good_b).1 (subst R is facts.stays) in
      let end = made b' cell' (length cells) (OfClass number) cells in
      let A : State → Type 0 = λ s. share_array setting.program s (own_element target) (index_elements target)
      ≡ false in
      let kept = share_seen h f b b' sees setting.program (own_element target) (index_elements target)
      ∙ subst A is facts.apart_stays in
      let S : State → Type 0 = λ s. SameOn f back.names a s in
      record {
        back = end;
        names = back.names;
        does = record {
          by = λ m l.
              new_goes setting m at (exec setting m) class target b' end cell' finds kept back.nil back.done
              ∙ ap (Done end) (let s1 = one.sum in let s2 = two.sum in let s3 = three.sum in let s4 = four.sum in
              let s5 = five.sum in let s6 = six.sum in let k1 = place_a.1 in let k2 = c2.1 in let k3 = c3.1 in
              let k4 = c4.1 in let k6 = c6.1 in let s0 = check_apart.sum in let k0 = unshared.1 in
              let k5 = spent in omega arith);
        };
        sees = back.sees;
        same = subst S is back.same;
      }
