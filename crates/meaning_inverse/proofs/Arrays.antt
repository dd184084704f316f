-- `new` and `delete` of arrays undone, and all that a block does.
use Rattle.std.proofs.Common.{◌≡◌, ℕ, ◌+◌, refl, sym, ap, subst, ◌∙◌, arith, true, false, not, ◌∷◌, length, replicate}
use Rattle.std.proofs.Common.{Ok, unwrap_or, nat_eq, is_none, eqb-true}
use Rattle.meaning_reached.specs.rpp_words.Words.{is_less}
use Rattle.meaning_reached.specs.rpp_tree.declared.tree.Ident.{Ident}
use Rattle.meaning_reached.specs.rpp_tree.Tree.{Expression, Lvalue, Ints, Objects, New, Delete, End, Then, nodes, index_nodes}
use Rattle.meaning_reached.specs.roopl_semantics.Run.{Run, Done, ◌>>=◌, give as ends, spend, fault_if}
use Rattle.meaning_reached.specs.roopl_semantics.Store.{Value, Word, Nil, Head, OfInts, OfObjects, Object, State, is_nil, is_zero}
use Rattle.meaning_reached.specs.roopl_semantics.Store.{number_of, object_at, no_object}
use Rattle.meaning_reached.specs.roopl_semantics.Value.{Cell, read, value as value_in, cell_of, evaluated, found, NIL}
use Rattle.meaning_reached.specs.roopl_semantics.Execution.{Setting, statement, exec, allocated, freed, new_array, delete_array}
use Rattle.meaning_reached.specs.roopl_semantics.Execution.{new_object, order_of_cells, all_zero, NOT_NIL, LENGTH}
use Rattle.meaning_reached.specs.roopl_semantics.Execution.{LENGTH_DIFFERS, COUNT, NOT_EMPTY}
use Rattle.meaning_reached.specs.roopl_semantics.Agreement.{renamed}
use Rattle.meaning_inverse.proofs.Runs.{in_parts, done_result, done_cost, given_done, passed_check}
use Rattle.meaning_reached.specs.buddy_book.Place.{Taken, count_taken, place as place_of}
use Rattle.meaning_inverse.proofs.Later.{IsSound}
use Rattle.meaning_inverse.proofs.Seen.{Names, Sees, Clean, CleanPlace, cell_for, found_seen, evaluated_seen}
use Rattle.meaning_inverse.proofs.Ground.{Ground, AreLive, NewArrayFacts, DeleteArrayFacts, number_named}
use Rattle.meaning_inverse.proofs.Undone.{SameOn, Undone}
use Rattle.meaning_inverse.proofs.Calls.{live_read}
use Rattle.meaning_inverse.proofs.Copies.{is_nil_value}
use Rattle.meaning_inverse.proofs.Places.{made}
use Rattle.meaning_inverse.proofs.Heap.{plain_replicate, length_replicate, not_false, was_allocated, unmade, remade}
use Rattle.meaning_inverse.proofs.Heap.{new_array_goes, delete_array_goes}

-- costs of seven parts
made_cost : (i n k l c b1 a1 b2 a2 b3 a3 b4 a4 b5 a5 b6 a6 b7 a7 : ℕ) → b1 + a1 ≡ c → b2 + a2 ≡ a1 → b3 + a3 ≡ a2
    → b4 + a4 ≡ a3 → b5 + a5 ≡ a4 → b6 + a6 ≡ a5 → b7 + a7 ≡ a6
    → i ≡ b1 → n ≡ b2 → b3 ≡ 0 → b4 ≡ 0 → k ≡ b5 → b6 ≡ 0 → l ≡ b7 → 0 ≡ a7 → i + (n + (k + l)) ≡ c
made_cost i n k l c b1 a1 b2 a2 b3 a3 b4 a4 b5 a5 b6 a6 b7 a7 s1 s2 s3 s4 s5 s6 s7 e1 e2 e3 e4 e5 e6 e7 e8 = omega arith

deleted_cost : (i n k l c b1 a1 b2 a2 b3 a3 b4 a4 b5 a5 b6 a6 b7 a7 : ℕ) → b1 + a1 ≡ c → b2 + a2 ≡ a1 → b3 + a3 ≡ a2
    → b4 + a4 ≡ a3 → b5 + a5 ≡ a4 → b6 + a6 ≡ a5 → b7 + a7 ≡ a6
    → i ≡ b1 → n ≡ b2 → b3 ≡ 0 → b4 ≡ 0 → b5 ≡ 0 → k + l ≡ b6 → b7 ≡ 0 → 0 ≡ a7 → i + (n + (k + l)) ≡ c
deleted_cost i n k l c b1 a1 b2 a2 b3 a3 b4 a4 b5 a5 b6 a6 b7 a7 s1 s2 s3 s4 s5 s6 s7 e1 e2 e3 e4 e5 e6 e7 e8 =
    omega arith

module _ (setting : Setting) (G : Ground setting) where
  -- the way back from `new` of an array
  record ArrayDeleted (target : Lvalue) (size : Expression) (f : Names) (a b' : State) (cost : ℕ) : Type 0 where
    back : State
    goes : delete_array setting target size b' ≡ Done back cost
    sees : Sees setting.limits.heap f a back

  -- what `new` of an array did
  record WasNew (target : Lvalue) (size : Expression) (head : ℕ → Head) (element : Value) (a b : State) (cost : ℕ) :
      Type 0 where
    cell : Cell
    v : Value
    place : cell_of setting.program a target ≡ Ok cell
    value : value_in setting.program a size ≡ Ok v
    nil : read a cell ≡ Nil
    is : made a cell (number_of v) (head (number_of v)) (replicate (number_of v) element) ≡ b
    placed : is_none (place_of setting.limits.heap (Taken (2 + count_taken a.log) (order_of_cells (number_of v))
        ∷ a.log)) ≡ false
    sum : index_nodes target + (nodes size + (setting.limits.heap + 1 + number_of v)) ≡ cost

  was_new : (target : Lvalue) (size : Expression) (head : ℕ → Head) (element : Value) (a b : State) (c : ℕ)
      → new_array setting target size head element a ≡ Done b c → WasNew target size head element a b c
  was_new target size head element a b c e =
      let h = setting.limits.heap in
      let d6 : ℕ → State → Run State = λ n s. spend n >>= (λ u. ends s) in
      let d5 : Cell → ℕ → Unit {0} → Run State = λ x n u. allocated setting n x (head n) (replicate n element) a >>= d6
      n in
      let d4 : Cell → ℕ → Unit {0} → Run State = λ x n u. spend (h + 1) >>= d5 x n in
      let d3 : Cell → ℕ → Unit {0} → Run State = λ x n u. fault_if LENGTH (is_less n 1) >>= d4 x n in
      let d2 : Cell → Value → Run State = λ x v. fault_if NOT_NIL (not (is_nil (read a x))) >>= d3 x (number_of v)
      in
      let d1 : Cell → Run State = λ x. evaluated setting.program size a >>= d2 x in
      let one = in_parts (found setting.program target a) d1 b c e in
      let two = in_parts (evaluated setting.program size a) (d2 one.middle) b one.after one.second in
      was_new_at target size head element a b c one.middle two.middle one.before one.after two.before two.after
      one.first one.sum two.first two.sum two.second
    where
      was_new_at : (target : Lvalue) (size : Expression) (head : ℕ → Head) (element : Value) (a b : State) (c : ℕ)
          (cell : Cell) (v : Value) (b1 a1 b2 a2 : ℕ)
          → found setting.program target a ≡ Done cell b1 → b1 + a1 ≡ c → evaluated setting.program size a ≡ Done v b2
          → b2 + a2 ≡ a1
          → (fault_if NOT_NIL (not (is_nil (read a cell))) >>=
          (λ u. fault_if LENGTH (is_less (number_of v) 1) >>=
          (λ w. spend (setting.limits.heap + 1) >>= (λ x. allocated setting (number_of v) cell
          (head (number_of v)) (replicate (number_of v) element) a >>=
          (λ s. spend (number_of v) >>= (λ y. ends s)))))) ≡ Done b a2
          → WasNew target size head element a b c
      was_new_at target size head element a b c cell v b1 a1 b2 a2 first sum1 second sum2 e =
          let h = setting.limits.heap in
          let n = number_of v in
          let d6 : State → Run State = λ s. spend n >>= (λ u. ends s) in
          let d5 : Unit {0} → Run State = λ u. allocated setting n cell (head n) (replicate n element) a >>= d6 in
          let d4 : Unit {0} → Run State = λ u. spend (h + 1) >>= d5 in
          let d3 : Unit {0} → Run State = λ u. fault_if LENGTH (is_less n 1) >>= d4 in
          let three = in_parts (fault_if NOT_NIL (not (is_nil (read a cell)))) d3 b a2 e in
          let four = in_parts (fault_if LENGTH (is_less n 1)) d4 b three.after three.second in
          let five = in_parts (spend (h + 1)) d5 b four.after four.second in
          let six = in_parts (allocated setting n cell (head n) (replicate n element) a) d6 b five.after five.second in
          let seven = in_parts (spend n) (λ u. ends six.middle) b six.after six.second in
          let place_a = given_done (index_nodes target) (cell_of setting.program a target) cell b1 first in
          let value_a = given_done (nodes size) (value_in setting.program a size) v b2 second in
          let check = passed_check NOT_NIL (not (is_nil (read a cell))) three.middle three.before three.first in
          let check2 = passed_check LENGTH (is_less n 1) four.middle four.before four.first in
          let spent = done_cost tt five.middle (h + 1) five.before five.first in
          let spent2 = done_cost tt seven.middle n seven.before seven.first in
          let was = was_allocated setting n cell (head n) (replicate n element) a six.middle six.before six.first in
          record {
            cell = cell;
            v = v;
            place = place_a.0;
            value = value_a.0;
            nil = is_nil_value (read a cell) (not_false (is_nil (read a cell)) check.0);
            is = was.is ∙ done_result six.middle b 0 seven.after seven.second;
            placed = was.placed;
            sum = made_cost (index_nodes target) (nodes size) (h + 1) n c b1 a1 b2 a2 three.before three.after
                four.before four.after five.before five.after six.before six.after seven.before seven.after sum1 sum2
                three.sum four.sum five.sum six.sum seven.sum place_a.1 value_a.1 check.1 check2.1 spent was.free spent2
                (done_cost six.middle b 0 seven.after seven.second);
          }

  array_deleted_at : (C : G.Context) (target : Lvalue) (size : Expression) (head : ℕ → Head) (element : Value)
      (a b : State) (c : ℕ) → G.Good C a → G.Good C b → CleanPlace setting.program b target
      → Clean setting.program b size
      → ((f : ℕ → ℕ) → renamed f element ≡ element) → is_zero element ≡ true
      → (w : WasNew target size head element a b c) → NewArrayFacts setting.program a target size head element w.cell
      w.v
      → (f : Names) (b' : State) → Sees setting.limits.heap f b b' → ArrayDeleted target size f a b' c
  array_deleted_at C target size head element a b c good good_b clean clean_size plain zero_element w facts f b' sees =
      let h = setting.limits.heap in
      let cell = w.cell in
      let v = w.v in
      let count = facts.count in
      let many : number_of v ≡ count = ap number_of facts.is_count in
      let is : made a cell count (head count) (replicate count element) ≡ b =
      ap (λ n. made a cell n (head n) (replicate n element)) (sym many) ∙ w.is in
      let placed : is_none (place_of h (Taken (2 + count_taken a.log) (order_of_cells count) ∷ a.log)) ≡ false =
      ap (λ n. is_none (place_of h (Taken (2 + count_taken a.log) (order_of_cells n) ∷ a.log))) (sym many)
      ∙ w.placed in
      let Q : State → Type 0 = λ s. Sees h f s b' in
      let R : State → Type 0 = λ s. IsSound s in
      let S : State → Type 0 = λ s. cell_of setting.program s target ≡ Ok cell in
      let T : State → Type 0 = λ s. value_in setting.program s size ≡ Ok v in
      let back = unmade setting count cell (head count) (replicate count element) f a b' (G.sound C a good)
      (subst R (sym is) (G.sound C b good_b)) (G.placed C a good) facts.there w.nil (length_replicate count element)
      (plain_replicate f.there count element (plain f.there)) placed (subst Q (sym is) sees) in
      let finds = found_seen h f b b' sees setting.program target cell clean (subst S is facts.stays) in
      let evaluates = evaluated_seen h f b b' sees setting.program size v clean_size (subst T is facts.size_stays)
      ∙ ap (λ x. Done (renamed f.there x) (nodes size)) facts.is_count in
      let end = freed setting (cell_for f cell) (f.there (2 + count_taken a.log)) b' in
      record {
        back = end;
        goes = delete_array_goes setting target size (head count) element b' (cell_for f cell)
            (f.there (2 + count_taken a.log)) count finds evaluates back.reads back.object zero_element
            ∙ ap (λ n. Done end (index_nodes target + (nodes size + (h + 1 + n)))) (sym many) ∙ ap (Done end) w.sum;
        sees = back.sees;
      }

  array_deleted : (C : G.Context) (target : Lvalue) (size : Expression) (head : ℕ → Head) (element : Value)
      (a b : State) (c : ℕ) → G.Good C a → G.Good C b → CleanPlace setting.program b target
      → Clean setting.program b size
      → ((f : ℕ → ℕ) → renamed f element ≡ element) → is_zero element ≡ true
      → ((cell : Cell) (v : Value) → cell_of setting.program a target ≡ Ok cell → value_in setting.program a size ≡ Ok v
      → read a cell ≡ Nil → NewArrayFacts setting.program a target size head element cell v)
      → new_array setting target size head element a ≡ Done b c → (f : Names) (b' : State)
      → Sees setting.limits.heap f b b' → ArrayDeleted target size f a b' c
  array_deleted C target size head element a b c good good_b clean clean_size plain zero_element known e f b' sees =
      let w = was_new target size head element a b c e in
      array_deleted_at C target size head element a b c good good_b clean clean_size plain zero_element w
      (known w.cell w.v w.place w.value w.nil) f b' sees

  -- the way back from `delete` of an array
  record ArrayMade (target : Lvalue) (size : Expression) (head : ℕ → Head) (element : Value) (f : Names)
      (a b b' : State) (cost : ℕ) : Type 0 where
    back : State
    names : Names
    goes : new_array setting target size head element b' ≡ Done back cost
    sees : Sees setting.limits.heap names a back
    same : SameOn f names a b

  -- what `delete` of an array did
  record WasDeleted (target : Lvalue) (size : Expression) (a b : State) (cost : ℕ) : Type 0 where
    cell : Cell
    v : Value
    thing : Object
    is_thing : object_at a.store (number_of (read a cell)) ≡ thing
    place : cell_of setting.program a target ≡ Ok cell
    value : value_in setting.program a size ≡ Ok v
    some : is_nil (read a cell) ≡ false
    many : length thing.cells ≡ number_of v
    single : thing.count ≡ 1
    zeros : all_zero thing.cells ≡ true
    is : freed setting cell (number_of (read a cell)) a ≡ b
    sum : index_nodes target + (nodes size + (setting.limits.heap + 1 + length thing.cells)) ≡ cost

  was_deleted : (target : Lvalue) (size : Expression) (a b : State) (c : ℕ)
      → delete_array setting target size a ≡ Done b c → WasDeleted target size a b c
  was_deleted target size a b c e =
      let h = setting.limits.heap in
      let thing : Cell → Object = λ x. object_at a.store (number_of (read a x)) in
      let d7 : Cell → Unit {0} → Run State = λ x u. ends (freed setting x (number_of (read a x)) a) in
      let d6 : Cell → Unit {0} → Run State = λ x u. fault_if NOT_EMPTY (not (all_zero (thing x).cells)) >>= d7 x
      in
      let d5 : Cell → Unit {0} → Run State = λ x u. spend (h + 1 + length (thing x).cells) >>= d6 x in
      let d4 : Cell → Unit {0} → Run State = λ x u. fault_if COUNT (not (nat_eq (thing x).count 1)) >>= d5 x in
      let d3 : Cell → Value → Unit {0} → Run State = λ x v u. fault_if LENGTH_DIFFERS
      (not (nat_eq (length (thing x).cells) (number_of v))) >>= d4 x in
      let d2 : Cell → Value → Run State = λ x v. fault_if NIL (is_nil (read a x)) >>= d3 x v in
      let d1 : Cell → Run State = λ x. evaluated setting.program size a >>= d2 x in
      let one = in_parts (found setting.program target a) d1 b c e in
      let two = in_parts (evaluated setting.program size a) (d2 one.middle) b one.after one.second in
      was_deleted_at target size a b c one.middle two.middle one.before one.after two.before two.after one.first one.sum
      two.first two.sum (object_at a.store (number_of (read a one.middle))) refl two.second
    where
      was_deleted_at : (target : Lvalue) (size : Expression) (a b : State) (c : ℕ) (cell : Cell) (v : Value)
          (b1 a1 b2 a2 : ℕ)
          → found setting.program target a ≡ Done cell b1 → b1 + a1 ≡ c → evaluated setting.program size a ≡ Done v b2
          → b2 + a2 ≡ a1 → (thing : Object) → object_at a.store (number_of (read a cell)) ≡ thing
          → (fault_if NIL (is_nil (read a cell)) >>= (λ t. fault_if LENGTH_DIFFERS
          (not (nat_eq (length (object_at a.store (number_of (read a cell))).cells) (number_of v))) >>=
          (λ u. fault_if COUNT (not (nat_eq (object_at a.store (number_of (read a cell))).count 1)) >>=
          (λ w.
          spend (setting.limits.heap + 1 + length (object_at a.store (number_of (read a cell))).cells) >>=
          (λ x. fault_if NOT_EMPTY (not (all_zero (object_at a.store (number_of (read a cell))).cells)) >>=
          (λ y. ends (freed setting cell (number_of (read a cell)) a))))))) ≡ Done b a2
          → WasDeleted target size a b c
      was_deleted_at target size a b c cell v b1 a1 b2 a2 first sum1 second sum2 thing is_thing e =
          let h = setting.limits.heap in
          let end = freed setting cell (number_of (read a cell)) a in
          let P : Object → Type 0 = λ o. (fault_if NIL (is_nil (read a cell)) >>=
          (λ t. fault_if LENGTH_DIFFERS (not (nat_eq (length o.cells) (number_of v))) >>=
          (λ u. fault_if COUNT (not (nat_eq o.count 1)) >>= (λ w.
          spend (h + 1 + length o.cells) >>= (λ x. fault_if NOT_EMPTY (not (all_zero o.cells)) >>=
          (λ y. ends end)))))) ≡ Done b a2 in
          let e' = subst P is_thing e in
          let d7 : Unit {0} → Run State = λ u. ends end in
          let d6 : Unit {0} → Run State = λ u. fault_if NOT_EMPTY (not (all_zero thing.cells)) >>= d7 in
          let d5 : Unit {0} → Run State = λ u. spend (h + 1 + length thing.cells) >>= d6 in
          let d4 : Unit {0} → Run State = λ u. fault_if COUNT (not (nat_eq thing.count 1)) >>= d5 in
          let d3 : Unit {0} → Run State = λ u. fault_if LENGTH_DIFFERS
          (not (nat_eq (length thing.cells) (number_of v))) >>= d4 in
          let three = in_parts (fault_if NIL (is_nil (read a cell))) d3 b a2 e' in
          let four = in_parts (fault_if LENGTH_DIFFERS (not (nat_eq (length thing.cells) (number_of v)))) d4 b
          three.after three.second in
          let five = in_parts (fault_if COUNT (not (nat_eq thing.count 1))) d5 b four.after four.second in
          let six = in_parts (spend (h + 1 + length thing.cells)) d6 b five.after five.second in
          let seven = in_parts (fault_if NOT_EMPTY (not (all_zero thing.cells))) d7 b six.after six.second in
          let place_a = given_done (index_nodes target) (cell_of setting.program a target) cell b1 first in
          let value_a = given_done (nodes size) (value_in setting.program a size) v b2 second in
          let c3 = passed_check NIL (is_nil (read a cell)) three.middle three.before three.first in
          let c4 = passed_check LENGTH_DIFFERS (not (nat_eq (length thing.cells) (number_of v))) four.middle
          four.before four.first in
          let c5 = passed_check COUNT (not (nat_eq thing.count 1)) five.middle five.before five.first in
          let c7 = passed_check NOT_EMPTY (not (all_zero thing.cells)) seven.middle seven.before seven.first in
          let spent = done_cost tt six.middle (h + 1 + length thing.cells) six.before six.first in
          record {
            cell = cell;
            v = v;
            thing = thing;
            is_thing = is_thing;
            place = place_a.0;
            value = value_a.0;
            some = c3.0;
            many = eqb-true (length thing.cells) (number_of v)
                (not_false (nat_eq (length thing.cells) (number_of v)) c4.0);
            single = eqb-true thing.count 1 (not_false (nat_eq thing.count 1) c5.0);
            zeros = not_false (all_zero thing.cells) c7.0;
            is = done_result end b 0 seven.after seven.second;
            sum = deleted_cost (index_nodes target) (nodes size) (h + 1) (length thing.cells) c b1 a1 b2 a2 three.before
                three.after four.before four.after five.before five.after six.before six.after seven.before seven.after
                sum1 sum2 three.sum four.sum five.sum six.sum seven.sum place_a.1 value_a.1 c3.1 c4.1 c5.1 spent c7.1
                (done_cost end b 0 seven.after seven.second);
          }

  array_made_at : (C : G.Context) (target : Lvalue) (size : Expression) (head : ℕ → Head) (element : Value)
      (a b : State) (c : ℕ) → G.Good C a → G.Good C b → CleanPlace setting.program b target
      → Clean setting.program b size
      → ((f : ℕ → ℕ) → renamed f element ≡ element)
      → (d : WasDeleted target size a b c) → DeleteArrayFacts setting a target size head element d.cell d.v
      → (f : Names) (b' : State) → Sees setting.limits.heap f b b' → ArrayMade target size head element f a b b' c
  array_made_at C target size head element a b c good good_b clean clean_size plain d facts f b' sees =
      let h = setting.limits.heap in
      let cell = d.cell in
      let v = d.v in
      let name = facts.name in
      let count = facts.count in
      let live = live_read a cell name (G.live C a good) facts.is_name in
      let object = live.object in
      let is_thing : d.thing ≡ object = sym d.is_thing ∙ ap (λ x. object_at a.store (number_of x)) facts.is_name
      ∙ ap (λ o. unwrap_or o no_object) live.there in
      let many : length object.cells ≡ count = ap (λ o. length o.cells) (sym is_thing) ∙ d.many
      ∙ ap number_of facts.is_count in
      let count_is : object.count ≡ 1 = ap (λ o. o.count) (sym is_thing) ∙ d.single in
      let zeros : all_zero object.cells ≡ true = ap (λ o. all_zero o.cells) (sym is_thing) ∙ d.zeros in
      let head_is : object.head ≡ head count = facts.heads object live.there ∙ ap head many in
      let cells_are : object.cells ≡ replicate count element = facts.zeros object live.there zeros
      ∙ ap (λ k. replicate k element) many in
      let is_new : object ≡ new_object (head count) (replicate count element) =
      ap (λ k. record object { head = k }) head_is ∙ ap (λ k. record object { head = head count; count = k })
      count_is ∙ ap (new_object (head count)) cells_are in
      let long : is_less count 1 ≡ false = ap (λ k. is_less k 1) (sym many) ∙ facts.long object live.there in
      let is : freed setting cell name a ≡ b = ap (λ x. freed setting cell (number_of x) a) (sym facts.is_name)
      ∙ d.is in
      let P : State → Type 0 = λ s. Sees h f s b' in
      let Q : State → Type 0 = λ s. AreLive s in
      let R : State → Type 0 = λ s. cell_of setting.program s target ≡ Ok cell in
      let T : State → Type 0 = λ s. value_in setting.program s size ≡ Ok v in
      let back = remade setting count cell (head count) (replicate count element) name object f a b' (G.sound C a good)
      (G.placed C a good) facts.there live.there is_new zeros (length_replicate count element)
      (λ g. plain_replicate g count element (plain g)) facts.is_name facts.not_main
      (subst Q (sym is) (G.live C b good_b)) (subst P (sym is) sees) in
      let cell' = cell_for f cell in
      let finds = found_seen h f b b' sees setting.program target cell clean (subst R is facts.stays) in
      let evaluates = evaluated_seen h f b b' sees setting.program size v clean_size (subst T is facts.size_stays)
      ∙ ap (λ x. Done (renamed f.there x) (nodes size)) facts.is_count in
      let end = made b' cell' count (head count) (replicate count element) in
      let S : State → Type 0 = λ s. SameOn f back.names a s in
      record {
        back = end;
        names = back.names;
        goes = new_array_goes setting target size head element b' end cell' count finds evaluates back.nil long
            back.done
            ∙ ap (λ n. Done end (index_nodes target + (nodes size + (h + 1 + n))))
            (sym (ap (λ o. length o.cells) is_thing ∙ many)) ∙ ap (Done end) d.sum;
        sees = back.sees;
        same = subst S is back.same;
      }

  array_made : (C : G.Context) (target : Lvalue) (size : Expression) (head : ℕ → Head) (element : Value) (a b : State)
      (c : ℕ) → G.Good C a → G.Good C b → CleanPlace setting.program b target → Clean setting.program b size
      → ((f : ℕ → ℕ) → renamed f element ≡ element)
      → ((cell : Cell) (v : Value) → cell_of setting.program a target ≡ Ok cell → value_in setting.program a size ≡ Ok v
      → is_nil (read a cell) ≡ false → G.Good C (freed setting cell (number_of (read a cell)) a)
      → DeleteArrayFacts setting a target size head element cell v)
      → delete_array setting target size a ≡ Done b c → (f : Names) (b' : State) → Sees setting.limits.heap f b b'
      → ArrayMade target size head element f a b b' c
  array_made C target size head element a b c good good_b clean clean_size plain known e f b' sees =
      let d = was_deleted target size a b c e in
      let GoodC : State → Type 0 = λ s. G.Good C s in
      array_made_at C target size head element a b c good good_b clean clean_size plain d
      (known d.cell d.v d.place d.value d.some (subst GoodC (sym d.is) good_b)) f b' sees

  pub undo_new_ints : (n : ℕ) (C : G.Context) (at : ℕ) (size : Expression) (target : Lvalue) (a b : State) (c : ℕ)
      → G.Typed C (Then (New at (Ints size) target) End) → G.Good C a → G.Good C b
      → statement setting n (exec setting n) (New at (Ints size) target) a ≡ Done b c → (f : Names) (b' : State)
      → Sees setting.limits.heap f b b' → Undone setting (New at (Ints size) target) f a b b' c
  undo_new_ints n C at size target a b c typed good good_b e f b' sees =
      let clean = G.clean C (New at (Ints size) target) b typed good_b in
      let back = array_deleted C target size OfInts (Word 0) a b c good good_b clean.1 clean.0 (λ g. refl) refl
      (λ cell v p q r. G.new_ints C at size target a cell v typed good p q r) e f b' sees in
      record {
        back = back.back;
        names = f;
        does = record { by = λ m l. back.goes };
        sees = back.sees;
        same = λ name o p k l. refl;
      }

  pub undo_new_objects : (n : ℕ) (C : G.Context) (at : ℕ) (class : Ident) (size : Expression) (target : Lvalue)
      (a b : State) (c : ℕ) → G.Typed C (Then (New at (Objects class size) target) End) → G.Good C a → G.Good C b
      → statement setting n (exec setting n) (New at (Objects class size) target) a ≡ Done b c
      → (f : Names) (b' : State) → Sees setting.limits.heap f b b'
      → Undone setting (New at (Objects class size) target) f a b b' c
  undo_new_objects n C at class size target a b c typed good good_b e f b' sees =
      let clean = G.clean C (New at (Objects class size) target) b typed good_b in
      let back = array_deleted C target size (OfObjects (number_named setting.program class)) Nil a b c good good_b
      clean.1 clean.0 (λ g. refl) refl (λ cell v p q r. G.new_objects C at class size target a cell v typed good p q
      r) e f b' sees in
      record {
        back = back.back;
        names = f;
        does = record { by = λ m l. back.goes };
        sees = back.sees;
        same = λ name o p k l. refl;
      }

  pub undo_delete_ints : (n : ℕ) (C : G.Context) (at : ℕ) (size : Expression) (target : Lvalue) (a b : State) (c : ℕ)
      → G.Typed C (Then (Delete at (Ints size) target) End) → G.Good C a → G.Good C b
      → statement setting n (exec setting n) (Delete at (Ints size) target) a ≡ Done b c → (f : Names) (b' : State)
      → Sees setting.limits.heap f b b' → Undone setting (Delete at (Ints size) target) f a b b' c
  undo_delete_ints n C at size target a b c typed good good_b e f b' sees =
      let clean = G.clean C (Delete at (Ints size) target) b typed good_b in
      let back = array_made C target size OfInts (Word 0) a b c good good_b clean.1 clean.0 (λ g. refl)
      (λ cell v p q r s. G.delete_ints C at size target a cell v typed good p q r s) e f b' sees in
      record {
        back = back.back;
        names = back.names;
        does = record { by = λ m l. back.goes };
        sees = back.sees;
        same = back.same;
      }

  pub undo_delete_objects : (n : ℕ) (C : G.Context) (at : ℕ) (class : Ident) (size : Expression) (target : Lvalue)
      (a b : State) (c : ℕ) → G.Typed C (Then (Delete at (Objects class size) target) End) → G.Good C a → G.Good C b
      → statement setting n (exec setting n) (Delete at (Objects class size) target) a ≡ Done b c
      → (f : Names) (b' : State) → Sees setting.limits.heap f b b'
      → Undone setting (Delete at (Objects class size) target) f a b b' c
  undo_delete_objects n C at class size target a b c typed good good_b e f b' sees =
      let clean = G.clean C (Delete at (Objects class size) target) b typed good_b in
      let back = array_made C target size (OfObjects (number_named setting.program class)) Nil a b c good good_b clean.1
      clean.0 (λ g. refl) (λ cell v p q r s. G.delete_objects C at class size target a cell v typed good p q r s) e
      f b' sees in
      record {
        back = back.back;
        names = back.names;
        does = record { by = λ m l. back.goes };
        sees = back.sees;
        same = back.same;
      }
