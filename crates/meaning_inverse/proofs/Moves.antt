-- Values that move out of cells and back.
use Rattle.std.proofs.Common.{◌≡◌, ℕ, zero, suc, refl, sym, ap, subst, ◌∙◌, arith, true, false, Bool, not, List, []}
use Rattle.std.proofs.Common.{◌∷◌, length, map, option_map, if◌then◌else◌, nat_eq, eqb-true}
use Rattle.meaning_reached.specs.rpp_tree.declared.tree.Var.{Var}
use Rattle.meaning_reached.specs.roopl_semantics.Run.{Done, fault_if}
use Rattle.meaning_reached.specs.roopl_semantics.Store.{Value, Word, Nil, Name, Binding, State, is_zero, cleared, object_named}
use Rattle.meaning_reached.specs.roopl_semantics.Value.{Cell, Slot, Part, value_at, with_value, read, written}
use Rattle.meaning_reached.specs.roopl_semantics.Execution.{same_cell, bound, moved_out, moved_back, TOUCHED}
use Rattle.meaning_reached.specs.roopl_semantics.Agreement.{renamed}
use Rattle.meaning_inverse.specs.StatesAgree.{renamed_binding}
use Rattle.meaning_inverse.proofs.Runs.{in_parts, done_then, done_result, done_cost, passed_check, passes}
use Rattle.meaning_inverse.proofs.Cells.{IsCell, written_twice, written_same, written_apart, read_written, read_apart}
use Rattle.meaning_inverse.proofs.Cells.{named_changed}
use Rattle.meaning_inverse.proofs.Later.{frame_names}
use Rattle.meaning_inverse.proofs.Seen.{Names, Sees, cell_for, read_seen, written_seen, cleared_renamed, same_is_zero}
use Rattle.meaning_inverse.proofs.Ground.{Each, AreDistinct, is_word, IsLive}
use Rattle.meaning_inverse.proofs.Undone.{cell_stays, turned}
use Rattle.meaning_reached.proofs.roopl_semantics_laws.Changed.{with_cell}

pub each_with : (P Q : Cell → Type 0) (cells : List Cell) → ((c : Cell) → P c → Q c) → Each P cells → Each Q cells
each_with P Q [] h k = tt
each_with P Q (c ∷ cells) h k = (h c k.0, each_with P Q cells h k.1)

pub each_of_both : (P Q R : Cell → Type 0) (cells : List Cell) → ((c : Cell) → P c → Q c → R c) → Each P cells
    → Each Q cells → Each R cells
each_of_both P Q R [] h k l = tt
each_of_both P Q R (c ∷ cells) h k l = (h c k.0 l.0, each_of_both P Q R cells h k.1 l.1)

-- a cell apart from those that are emptied
moved_out_apart : (cells : List Cell) (c : Cell) (v : Value) (st : State) → Each (λ d. same_cell c d ≡ false) cells
    → moved_out cells (written st c v) ≡ written (moved_out cells st) c v
moved_out_apart [] c v st h = refl
moved_out_apart (d ∷ cells) c v st h =
    ap (λ x. moved_out cells (written (written st c v) d (cleared x))) (read_apart st c d v h.0)
    ∙ ap (moved_out cells) (written_apart st c d v (cleared (read st d)) h.0)
    ∙ moved_out_apart cells c v (written st d (cleared (read st d))) h.1

read_moved_out : (cells : List Cell) (c : Cell) (st : State) → Each (λ d. same_cell c d ≡ false) cells
    → read (moved_out cells st) c ≡ read st c
read_moved_out [] c st h = refl
read_moved_out (d ∷ cells) c st h = read_moved_out cells c (written st d (cleared (read st d))) h.1
    ∙ read_apart st d c (cleared (read st d)) (turned c d h.0)

read_moved_back : (cells : List Cell) (values : List Value) (c : Cell) (st end : State) (cost : ℕ)
    → Each (λ d. same_cell c d ≡ false) cells → moved_back cells values st ≡ Done end cost → read end c ≡ read st c
read_moved_back [] values c st end cost h e = ap (λ s. read s c) (sym (done_result st end 0 cost e))
read_moved_back (d ∷ cells) [] c st end cost h e = ap (λ s. read s c) (sym (done_result st end 0 cost e))
read_moved_back (d ∷ cells) (v ∷ values) c st end cost h e =
    let one = in_parts (fault_if TOUCHED (not (is_zero (read st d))))
    (λ u. moved_back cells values (written st d v)) end cost e in
    read_moved_back cells values c (written st d v) end one.after h.1 one.second ∙ read_apart st d c v (turned c d h.0)

-- the zero of a cell is what its value leaves
zero_left : (u v : Value) → is_zero u ≡ true → is_word u ≡ is_word v → u ≡ cleared v
zero_left (Word a) (Word b) e h = ap (λ n. Word n) (eqb-true a 0 e)
zero_left (Word a) Nil e h = cc
zero_left (Word a) (Name b) e h = cc
zero_left Nil (Word b) e h = cc
zero_left Nil Nil e h = refl
zero_left Nil (Name b) e h = refl
zero_left (Name a) (Word b) e h = cc
zero_left (Name a) Nil e h = cc
zero_left (Name a) (Name b) e h = cc

is_true : (t : Bool) → not t ≡ false → t ≡ true
is_true true e = refl
is_true false e = cc

-- what values moved back did
pub record MovedBack (cells : List Cell) (values : List Value) (st end : State) (cost : ℕ) : Type 0 where
  pub free : cost ≡ 0
  pub holds : map (read end) cells ≡ values
  pub undone : moved_out cells end ≡ st

pub moved_back_does : (cells : List Cell) (values : List Value) (st end : State) (cost : ℕ)
    → length values ≡ length cells → AreDistinct cells → Each (IsCell st) cells
    → moved_back cells values st ≡ Done end cost → Each (λ c. is_word (read st c) ≡ is_word (read end c)) cells
    → MovedBack cells values st end cost
moved_back_does [] [] st end cost many apart there e sorts =
    record { free = sym (done_cost st end 0 cost e); holds = refl; undone = sym (done_result st end 0 cost e) }
moved_back_does [] (v ∷ values) st end cost many apart there e sorts = absurd (omega arith)
moved_back_does (c ∷ cells) [] st end cost many apart there e sorts = absurd (omega arith)
moved_back_does (c ∷ cells) (v ∷ values) st end cost many apart there e sorts =
    let one = in_parts (fault_if TOUCHED (not (is_zero (read st c))))
    (λ u. moved_back cells values (written st c v)) end cost e in
    let check = passed_check TOUCHED (not (is_zero (read st c))) one.middle one.before one.first in
    let stays : (d : Cell) → same_cell c d ≡ false → is_word (read st d) ≡ is_word (read end d)
    → is_word (read (written st c v) d) ≡ is_word (read end d) = λ d h k. ap is_word (read_apart st c d v h) ∙ k in
    let rest = moved_back_does cells values (written st c v) end one.after (omega arith) apart.1
    (each_with (IsCell st) (IsCell (written st c v)) cells (λ d h. cell_stays st c d v h) there.1) one.second
    (each_of_both (λ d. same_cell c d ≡ false) (λ d. is_word (read st d) ≡ is_word (read end d))
    (λ d. is_word (read (written st c v) d) ≡ is_word (read end d)) cells stays apart.0 sorts.1) in
    let reads : read end c ≡ v = read_moved_back cells values c (written st c v) end one.after apart.0 one.second
    ∙ read_written st c v there.0 in
    let zero_is : read st c ≡ cleared (read end c) = zero_left (read st c) (read end c)
    (is_true (is_zero (read st c)) check.0) sorts.0 in
    record {
      free = let f = rest.free in let s = one.sum in let k = check.1 in omega arith;
      holds = ap (λ x. x ∷ map (read end) cells) reads ∙ ap (λ l. v ∷ l) rest.holds;
      undone =
          moved_out_apart cells c (cleared (read end c)) end apart.0
          ∙ ap (λ s. written s c (cleared (read end c))) rest.undone
          ∙ written_twice st c v (cleared (read end c))
          ∙ ap (written st c) (sym zero_is)
          ∙ written_same st c;
    }

cleared_zero : (v : Value) → is_zero (cleared v) ≡ true
cleared_zero (Word w) = refl
cleared_zero Nil = refl
cleared_zero (Name n) = refl

-- values move out and back again
pub moved_there_and_back : (cells : List Cell) (st : State) → AreDistinct cells → Each (IsCell st) cells
    → moved_back cells (map (read st) cells) (moved_out cells st) ≡ Done st 0
moved_there_and_back [] st apart there = refl
moved_there_and_back (c ∷ cells) st apart there =
    let gone = written st c (cleared (read st c)) in
    let s = moved_out cells gone in
    let reads : read s c ≡ cleared (read st c) = read_moved_out cells c gone apart.0
    ∙ read_written st c (cleared (read st c)) there.0 in
    let back : written s c (read st c) ≡ moved_out cells st =
    ap (λ x. written x c (read st c)) (moved_out_apart cells c (cleared (read st c)) st apart.0)
    ∙ written_twice (moved_out cells st) c (cleared (read st c)) (read st c)
    ∙ ap (written (moved_out cells st) c) (sym (read_moved_out cells c st apart.0))
    ∙ written_same (moved_out cells st) c in
    done_then (fault_if TOUCHED (not (is_zero (read s c))))
    (λ u. moved_back cells (map (read st) cells) (written s c (read st c))) tt st 0 0 0
    (passes TOUCHED (not (is_zero (read s c))) (ap (λ x. not (is_zero x)) reads
    ∙ ap not (cleared_zero (read st c))))
    (ap (moved_back cells (map (read st) cells)) back ∙ moved_there_and_back cells st apart.1 there.1) refl

-- ---- under other names

pub moved_out_seen : (h : ℕ) (f : Names) (cells : List Cell) (first second : State) → Sees h f first second
    → Sees h f (moved_out cells first) (moved_out (map (cell_for f) cells) second)
moved_out_seen h f [] first second s = s
moved_out_seen h f (c ∷ cells) first second s =
    let P : State → Type 0 = λ x. Sees h f (written first c (cleared (read first c))) x in
    let cleared_is : written second (cell_for f c) (renamed f.there (cleared (read first c)))
    ≡ written second (cell_for f c) (cleared (read second (cell_for f c))) =
    ap (written second (cell_for f c)) (sym (cleared_renamed f.there (read first c))
    ∙ ap cleared (sym (read_seen h f first second s c))) in
    moved_out_seen h f cells (written first c (cleared (read first c)))
    (written second (cell_for f c) (cleared (read second (cell_for f c))))
    (subst P cleared_is (written_seen h f first second s c (cleared (read first c))))

pub record MovedBackSeen (h : ℕ) (f : Names) (cells : List Cell) (values : List Value) (second end : State) : Type 0
  where
    pub back : State
    pub done : moved_back (map (cell_for f) cells) (map (renamed f.there) values) second ≡ Done back 0
    pub sees : Sees h f end back

pub moved_back_seen : (h : ℕ) (f : Names) (cells : List Cell) (values : List Value) (first second end : State)
    (cost : ℕ) → Sees h f first second → moved_back cells values first ≡ Done end cost
    → MovedBackSeen h f cells values second end
moved_back_seen h f [] values first second end cost s e =
    let P : State → Type 0 = λ x. Sees h f x second in
    record { back = second; done = refl; sees = subst P (done_result first end 0 cost e) s }
moved_back_seen h f (c ∷ cells) [] first second end cost s e =
    let P : State → Type 0 = λ x. Sees h f x second in
    record { back = second; done = refl; sees = subst P (done_result first end 0 cost e) s }
moved_back_seen h f (c ∷ cells) (v ∷ values) first second end cost s e =
    let one = in_parts (fault_if TOUCHED (not (is_zero (read first c))))
    (λ u. moved_back cells values (written first c v)) end cost e in
    let check = passed_check TOUCHED (not (is_zero (read first c))) one.middle one.before one.first in
    let c' = cell_for f c in
    let v' = renamed f.there v in
    let rest = moved_back_seen h f cells values (written first c v) (written second c' v') end one.after
    (written_seen h f first second s c v) one.second in
    record {
      back = rest.back;
      done = done_then (fault_if TOUCHED (not (is_zero (read second c'))))
          (λ u. moved_back (map (cell_for f) cells) (map (renamed f.there) values) (written second c' v')) tt rest.back
          0 0 0
          (passes TOUCHED (not (is_zero (read second c')))
          (ap (λ x. not (is_zero x)) (read_seen h f first second s c) ∙ ap not (same_is_zero f (read first c))
          ∙ check.0)) rest.done refl;
      sees = rest.sees;
    }

-- ---- names that stay

with_cleared : (frame : List Binding) (j i n : ℕ) → value_at (with_value frame j (cleared (value_at frame j))) i
    ≡ Name n → value_at frame i ≡ Name n
with_cleared [] j i n e = e
with_cleared (b ∷ frame) zero zero n e = by b.value e
  where
    by : (v : Value) → cleared v ≡ Name n → v ≡ Name n
    by (Word w) e = cc
    by Nil e = cc
    by (Name m) e = cc
with_cleared (b ∷ frame) zero (suc i) n e = e
with_cleared (b ∷ frame) (suc j) zero n e = e
with_cleared (b ∷ frame) (suc j) (suc i) n e = with_cleared frame j i n e

pub moved_out_frame : (cells : List Cell) (st : State) (i n : ℕ) → value_at (moved_out cells st).frame i ≡ Name n
    → value_at st.frame i ≡ Name n
moved_out_frame [] st i n e = e
moved_out_frame (Slot j ∷ cells) st i n e = with_cleared st.frame j i n
    (moved_out_frame cells (written st (Slot j) (cleared (read st (Slot j)))) i n e)
moved_out_frame (Part name j ∷ cells) st i n e = moved_out_frame cells
    (written st (Part name j) (cleared (read st (Part name j)))) i n e

pub live_written : (st : State) (c : Cell) (v : Value) (n : ℕ) → IsLive st.store n → IsLive (written st c v).store n
live_written st (Slot i) v n l = l
live_written st (Part name i) v n l = by (nat_eq name n) (named_changed st.store name (with_cell i v) n)
  where
    by : (t : Bool) → object_named (written st (Part name i) v).store n
        ≡ (if t then option_map (with_cell i v) (object_named st.store n) else object_named st.store n)
        → IsLive (written st (Part name i) v).store n
    by true k = record { object = with_cell i v l.object; there = k ∙ ap (option_map (with_cell i v)) l.there }
    by false k = record { object = l.object; there = k ∙ l.there }

pub live_moved_out : (cells : List Cell) (st : State) (n : ℕ) → IsLive st.store n → IsLive (moved_out cells st).store n
live_moved_out [] st n l = l
live_moved_out (c ∷ cells) st n l = live_moved_out cells (written st c (cleared (read st c))) n
    (live_written st c (cleared (read st c)) n l)

-- ---- the variables of a method

pub bound_names : (vars : List Var) (values : List Value) → length values ≡ length vars
    → frame_names (bound vars values) ≡ map (λ var. var.name.text) vars
bound_names [] values e = refl
bound_names (var ∷ vars) [] e = absurd (omega arith)
bound_names (var ∷ vars) (v ∷ values) e = ap (λ l. var.name.text ∷ l) (bound_names vars values (omega arith))

pub bound_values : (vars : List Var) (values : List Value) → length values ≡ length vars
    → map (λ binding. binding.value) (bound vars values) ≡ values
bound_values [] [] e = refl
bound_values [] (v ∷ values) e = absurd (omega arith)
bound_values (var ∷ vars) [] e = absurd (omega arith)
bound_values (var ∷ vars) (v ∷ values) e = ap (λ l. v ∷ l) (bound_values vars values (omega arith))

pub bound_renamed : (f : ℕ → ℕ) (vars : List Var) (values : List Value)
    → bound vars (map (renamed f) values) ≡ map (renamed_binding f) (bound vars values)
bound_renamed f [] values = refl
bound_renamed f (var ∷ vars) [] = refl
bound_renamed f (var ∷ vars) (v ∷ values) = ap (λ l. record { name = var.name.text; value = renamed f v } ∷ l)
    (bound_renamed f vars values)

abbrev head_of : List (List ℕ) → List ℕ
head_of [] = []
head_of (x ∷ xs) = x

abbrev tail_of : List (List ℕ) → List (List ℕ)
tail_of [] = []
tail_of (x ∷ xs) = xs

-- a frame of these names is bound from its values
pub rebound : (vars : List Var) (frame : List Binding) → frame_names frame ≡ map (λ var. var.name.text) vars
    → bound vars (map (λ binding. binding.value) frame) ≡ frame
rebound [] [] e = refl
rebound [] (b ∷ frame) e = cc
rebound (var ∷ vars) [] e = cc
rebound (var ∷ vars) (b ∷ frame) e =
    ap (λ n. record { name = n; value = b.value } ∷ bound vars (map (λ binding. binding.value) frame))
    (sym (ap head_of e))
    ∙ ap (λ l. b ∷ l) (rebound vars frame (ap tail_of e))
