-- Copies undone.
use Rattle.std.proofs.Common.{◌≡◌, ℕ, suc, ◌+◌, ◌<◌, refl, sym, ap, subst, ◌∙◌, arith, true, false, Bool, not, ◌&&◌}
use Rattle.std.proofs.Common.{◌||◌, ◌++◌, Ok, Some, None, Option, option_map, nat_eq, eqb-true, if◌then◌else◌}
use Rattle.std.proofs.Common.{unwrap_or, slice_get}
use Rattle.meaning_reached.specs.rpp_tree.declared.tree.VarType.{VarType}
use Rattle.meaning_reached.specs.rpp_tree.Tree.{Lvalue, Copy, Uncopy, End, Then, index_nodes}
use Rattle.meaning_reached.specs.roopl_semantics.Run.{Run, Done, ◌>>=◌, give, fault_if}
use Rattle.meaning_reached.specs.roopl_semantics.Store.{Value, Word, Nil, Name, Object, State, is_nil, number_of}
use Rattle.meaning_reached.specs.roopl_semantics.Store.{same_value}
use Rattle.meaning_reached.specs.roopl_semantics.Store.{object_named, no_object, changed_at}
use Rattle.meaning_reached.specs.roopl_semantics.Value.{Cell, Slot, Part, read, written, cell_of, found, NIL}
use Rattle.meaning_reached.specs.roopl_semantics.Elements.{index_elements, own_element, share_array, read_cost}
use Rattle.meaning_reached.specs.roopl_semantics.Elements.{kept_apart}
use Rattle.meaning_reached.specs.roopl_semantics.Execution.{Setting, statement, exec, same_cell, count_changed}
use Rattle.meaning_reached.specs.roopl_semantics.Execution.{one_less, NOT_NIL}
use Rattle.meaning_reached.specs.roopl_semantics.Execution.{NOT_SAME}
use Rattle.meaning_reached.specs.roopl_semantics.Agreement.{renamed}
use Rattle.meaning_inverse.proofs.Runs.{in_parts, done_then, done_result, done_cost, given_done, apart_done, done_apart}
use Rattle.meaning_inverse.proofs.Runs.{passed_check, passes}
use Rattle.meaning_inverse.proofs.Cells.{named_changed, changed_changed, changed_apart, changed_none}
use Rattle.meaning_inverse.proofs.Cells.{written_twice, written_same, read_written, read_apart}
use Rattle.meaning_inverse.proofs.Seen.{Names, Sees, cell_for, read_seen, share_seen, found_seen, written_seen}
use Rattle.meaning_inverse.proofs.Seen.{counted_seen, is_same_value, same_value_itself, same_names}
use Rattle.meaning_inverse.proofs.Ground.{Ground, CopyFacts, copied, uncopied, CleanIn}
use Rattle.meaning_inverse.proofs.Undone.{Undone, UndoneExactly, cell_alike, is_same_cell, turned}
use Rattle.meaning_reached.proofs.roopl_semantics_laws.Changed.{with_count, with_cell}

-- counts and cells change apart
written_counted : (change : ℕ → ℕ) (st : State) (n : ℕ) (c : Cell) (v : Value)
    → written (count_changed change st n) c v ≡ count_changed change (written st c v) n
written_counted change st n (Slot i) v = refl
written_counted change st n (Part k i) v = by (nat_eq n k) refl
  where
    by : (t : Bool) → nat_eq n k ≡ t → written (count_changed change st n) (Part k i) v
        ≡ count_changed change (written st (Part k i) v) n
    by false e = ap (λ s. record st { store = s }) (changed_apart st.store n k (with_count change) (with_cell i v) e)
    by true e =
        let P : ℕ → Type 0 = λ m. changed_at (changed_at st.store n (with_count change)) m (with_cell i v)
        ≡ changed_at (changed_at st.store m (with_cell i v)) n (with_count change) in
        ap (λ s. record st { store = s }) (subst P (eqb-true n k e)
        (changed_changed st.store n (with_count change) (with_cell i v)
        ∙ sym (changed_changed st.store n (with_cell i v) (with_count change))))

counted_twice : (f g : ℕ → ℕ) (st : State) (n : ℕ) → ((o : Object) → object_named st.store n ≡ Some o
    → g (f o.count) ≡ o.count) → count_changed g (count_changed f st n) n ≡ st
counted_twice f g st n h =
    ap (λ s. record st { store = s }) (changed_changed st.store n (with_count f) (with_count g)
    ∙ changed_none st.store n (λ o. with_count g (with_count f o))
    (λ o e. ap (λ k. record o { count = k }) (h o e)))

pub read_counted : (change : ℕ → ℕ) (st : State) (n : ℕ) (c : Cell) → read (count_changed change st n) c ≡ read st c
read_counted change st n (Slot i) = refl
read_counted change st n (Part k i) = ap (λ o. unwrap_or (slice_get (unwrap_or o no_object).cells i) Nil)
    (named_changed st.store n (with_count change) k) ∙ by (nat_eq n k) (object_named st.store k)
  where
    by : (t : Bool) (o : Option Object) → unwrap_or (slice_get
        (unwrap_or (if t then option_map (with_count change) o else o) no_object).cells i) Nil
        ≡ unwrap_or (slice_get (unwrap_or o no_object).cells i) Nil
    by true None = refl
    by true (Some o) = refl
    by false o = refl

pub same_cell_renamed : (f : Names) (c d : Cell) → same_cell (cell_for f c) (cell_for f d) ≡ same_cell c d
same_cell_renamed f (Slot i) (Slot j) = refl
same_cell_renamed f (Slot i) (Part n j) = refl
same_cell_renamed f (Part n i) (Slot j) = refl
same_cell_renamed f (Part n i) (Part m j) = ap (λ t. t && nat_eq i j) (same_names f n m)

pub is_nil_value : (v : Value) → is_nil v ≡ true → v ≡ Nil
is_nil_value (Word w) e = cc
is_nil_value Nil e = refl
is_nil_value (Name n) e = cc

-- cells of which only one is nil differ
differ : (st : State) (a b : Cell) → is_nil (read st a) ≡ false → is_nil (read st b) ≡ true → same_cell a b ≡ false
differ st a b e h = by (same_cell a b) refl
  where
    by : (t : Bool) → same_cell a b ≡ t → same_cell a b ≡ false
    by false k = k
    by true k = let z : is_nil (read st a) ≡ true = ap (λ c. is_nil (read st c)) (is_same_cell a b k)
        ∙ h in let y : false ≡ true = sym e ∙ z in cc

not_false : (t : Bool) → not t ≡ false → t ≡ true
not_false true e = refl
not_false false e = cc

neither : (a b : Bool) → not a || b ≡ false → (a ≡ true) × (b ≡ false)
neither true b e = (refl, e)
neither false b e = cc

both_hold : (a b : Bool) → a ≡ true → b ≡ false → not a || b ≡ false
both_hold true b e h = h
both_hold false b e h = cc

suc_less : (k : ℕ) → one_less (suc k) ≡ k
suc_less k = omega arith

module _ (setting : Setting) (G : Ground setting) where
  copied_undone : (at : ℕ) (kind : VarType) (source target : Lvalue) (a : State) (x y : Cell) (b : State) (c : ℕ)
      → CopyFacts setting.program a (copied a x y) source target x y → is_nil (read a x) ≡ false
      → is_nil (read a y) ≡ true → copied a x y ≡ b → CleanIn setting.program b (Copy at kind source target)
      → index_nodes source + (index_nodes target + (read_cost (own_element target)
      (index_elements source ++ index_elements target) + 0)) ≡ c
      → (f : Names) (b' : State) → Sees setting.limits.heap f b b'
      → UndoneExactly setting (Copy at kind source target) f a b b' c
  copied_undone at kind source target a x y b c facts some none is clean cost f b' sees =
      let h = setting.limits.heap in
      let n = facts.name in
      let x' = cell_for f x in
      let y' = cell_for f y in
      let apart = differ a x y some none in
      let first : b ≡ count_changed suc (written a y (Name n)) n = sym is
      ∙ ap (λ v. count_changed suc (written a y v) (number_of v)) facts.is_name in
      let reads_x : read b x ≡ Name n = ap (λ s. read s x) first ∙ read_counted suc (written a y (Name n)) n x
      ∙ read_apart a y x (Name n) (turned x y apart) ∙ facts.is_name in
      let reads_y : read b y ≡ Name n = ap (λ s. read s y) first ∙ read_counted suc (written a y (Name n)) n y
      ∙ read_written a y (Name n) facts.there in
      let reads_x' : read b' x' ≡ Name (f.there n) = read_seen h f b b' sees x ∙ ap (renamed f.there) reads_x in
      let reads_y' : read b' y' ≡ Name (f.there n) = read_seen h f b b' sees y ∙ ap (renamed f.there) reads_y in
      let P : State → Type 0 = λ s. cell_of setting.program s source ≡ Ok x in
      let Q : State → Type 0 = λ s. cell_of setting.program s target ≡ Ok y in
      let sources = found_seen h f b b' sees setting.program source x clean.0 (subst P is facts.source_stays) in
      let targets = found_seen h f b b' sees setting.program target y clean.1 (subst Q is facts.target_stays) in
      let back = count_changed one_less (written b' y' Nil) (f.there n) in
      let same : count_changed one_less (written b y Nil) n ≡ a =
      ap (λ s. count_changed one_less (written s y Nil) n) first
      ∙ ap (λ s. count_changed one_less s n) (written_counted suc (written a y (Name n)) n y Nil)
      ∙ ap (λ s. count_changed one_less (count_changed suc s n) n) (written_twice a y (Name n) Nil
      ∙ ap (written a y) (sym (is_nil_value (read a y) none)) ∙ written_same a y)
      ∙ counted_twice suc one_less a n (λ o e. suc_less o.count) in
      let R : State → Type 0 = λ s. Sees h f s back in
      let S : State → Type 0 = λ s. share_array setting.program s (own_element target)
      (index_elements source ++ index_elements target) ≡ false in
      let spent = read_cost (own_element target) (index_elements source ++ index_elements target) in
      let unshared = done_apart setting.program (own_element target) (index_elements source ++ index_elements target) b'
      (share_seen h f b b' sees setting.program (own_element target)
      (index_elements source ++ index_elements target) ∙ subst S is facts.apart_stays) in
      let result : uncopied b' x' y' ≡ back = ap (λ v. count_changed one_less (written b' y' Nil) (number_of v))
      reads_x' in
      let check : not (same_value (read b' x') (read b' y')) || same_cell x' y' ≡ false =
      both_hold (same_value (read b' x') (read b' y')) (same_cell x' y')
      (ap (λ v. same_value v (read b' y')) reads_x' ∙ ap (λ v. same_value (Name (f.there n)) v) reads_y'
      ∙ same_value_itself (Name (f.there n))) (same_cell_renamed f x y ∙ apart) in
      record {
        undone = record {
          back = back;
          names = f;
          does = record {
            by = λ m l.
                done_then (found setting.program source b') _ x' back (index_nodes source)
                (index_nodes target + (spent + 0)) c sources
                (done_then (found setting.program target b') _ y' back (index_nodes target) (spent + 0)
                (index_nodes target + (spent + 0)) targets
                (done_then (kept_apart setting.program (own_element target)
                (index_elements source ++ index_elements target) b') _ tt back spent 0 (spent + 0) unshared
                (done_then (fault_if NIL (is_nil (read b' x'))) _ tt back 0 0 0
                (passes NIL (is_nil (read b' x')) (ap is_nil reads_x'))
                (done_then (fault_if NOT_SAME (not (same_value (read b' x') (read b' y')) || same_cell x' y')) _
                tt
                back 0 0 0 (passes NOT_SAME (not (same_value (read b' x') (read b' y')) || same_cell x' y')
                check) (ap (λ s. Done s 0) result) refl) refl) refl) refl) cost;
          };
          sees = subst R same (counted_seen h f (written b y Nil) (written b' y' Nil) (written_seen h f b b' sees y Nil)
              one_less n);
          same = λ name o p k l. refl;
        };
        exact = λ here alike.
            ap (λ (s : State). count_changed one_less (written s y' Nil) (f.there n)) here
            ∙ ap (λ (d : Cell). count_changed one_less (written b d Nil) (f.there n)) (cell_alike f y alike)
            ∙ ap (λ (k : ℕ). count_changed one_less (written b y Nil) k) (alike n) ∙ same;
      }

  pub copy_exactly : (n : ℕ) (C : G.Context) (at : ℕ) (kind : VarType) (source target : Lvalue) (a b : State) (c : ℕ)
      → G.Typed C (Then (Copy at kind source target) End) → G.Good C a → G.Good C b
      → statement setting n (exec setting n) (Copy at kind source target) a ≡ Done b c → (f : Names) (b' : State)
      → Sees setting.limits.heap f b b' → UndoneExactly setting (Copy at kind source target) f a b b' c
  copy_exactly n C at kind source target a b c typed good good_b e f b' sees =
      let d4 : Cell → Cell → Unit {0} → Run State = λ x y w. give (copied a x y) in
      let d3 : Cell → Cell → Unit {0} → Run State = λ x y u. fault_if NOT_NIL (not (is_nil (read a y))) >>= d4 x y
      in
      let d2 : Cell → Cell → Unit {0} → Run State = λ x y z. fault_if NIL (is_nil (read a x)) >>= d3 x y in
      let d1 : Cell → Cell → Run State = λ x y. kept_apart setting.program (own_element target)
      (index_elements source ++ index_elements target) a >>= d2 x y in
      let one = in_parts (found setting.program source a) (λ x. found setting.program target a >>= d1 x) b c e in
      let x = one.middle in
      let two = in_parts (found setting.program target a) (d1 x) b one.after one.second in
      let y = two.middle in
      let five = in_parts (kept_apart setting.program (own_element target)
      (index_elements source ++ index_elements target) a) (d2 x y) b two.after two.second in
      let three = in_parts (fault_if NIL (is_nil (read a x))) (d3 x y) b five.after five.second in
      let four = in_parts (fault_if NOT_NIL (not (is_nil (read a y)))) (d4 x y) b three.after three.second in
      let from = given_done (index_nodes source) (cell_of setting.program a source) x one.before one.first in
      let to = given_done (index_nodes target) (cell_of setting.program a target) y two.before two.first in
      let unshared = apart_done setting.program (own_element target) (index_elements source ++ index_elements target) a
      five.middle five.before five.first in
      let some = passed_check NIL (is_nil (read a x)) three.middle three.before three.first in
      let none = passed_check NOT_NIL (not (is_nil (read a y))) four.middle four.before four.first in
      let none' = not_false (is_nil (read a y)) none.0 in
      copied_undone at kind source target a x y b c (G.copy C at kind source target a x y typed good from.0 to.0
      unshared.0 some.0 none') some.0 none' (done_result (copied a x y) b 0 four.after four.second)
      (G.clean C (Copy at kind source target) b typed good_b)
      (let z = done_cost (copied a x y) b 0 four.after four.second in let k1 = from.1 in let k2 = to.1 in
      let k3 = some.1 in let k4 = none.1 in let k5 = unshared.1 in let s1 = one.sum in let s2 = two.sum in
      let s3 = three.sum in let s4 = four.sum in let s5 = five.sum in omega arith) f b' sees

  pub undo_copy : (n : ℕ) (C : G.Context) (at : ℕ) (kind : VarType) (source target : Lvalue) (a b : State) (c : ℕ)
      → G.Typed C (Then (Copy at kind source target) End) → G.Good C a → G.Good C b
      → statement setting n (exec setting n) (Copy at kind source target) a ≡ Done b c → (f : Names) (b' : State)
      → Sees setting.limits.heap f b b' → Undone setting (Copy at kind source target) f a b b' c
  undo_copy n C at kind source target a b c typed good good_b e f b' sees =
      (copy_exactly n C at kind source target a b c typed good good_b e f b' sees).undone

  uncopied_undone : (C : G.Context) (at : ℕ) (kind : VarType) (source target : Lvalue) (a : State) (x y : Cell)
      (b : State) (c : ℕ) → G.Good C a
      → CopyFacts setting.program a (uncopied a x y) source target x y → is_nil (read a x) ≡ false → read a x ≡ read a y
      → same_cell x y ≡ false → uncopied a x y ≡ b → CleanIn setting.program b (Uncopy at kind source target)
      → index_nodes source + (index_nodes target + (read_cost (own_element target)
      (index_elements source ++ index_elements target) + 0)) ≡ c
      → (f : Names) (b' : State) → Sees setting.limits.heap f b b'
      → UndoneExactly setting (Uncopy at kind source target) f a b b' c
  uncopied_undone C at kind source target a x y b c good facts some alike apart is clean cost f b' sees =
      let h = setting.limits.heap in
      let n = facts.name in
      let x' = cell_for f x in
      let y' = cell_for f y in
      let first : b ≡ count_changed one_less (written a y Nil) n = sym is
      ∙ ap (λ v. count_changed one_less (written a y Nil) (number_of v)) facts.is_name in
      let reads_x : read b x ≡ Name n = ap (λ s. read s x) first ∙ read_counted one_less (written a y Nil) n x
      ∙ read_apart a y x Nil (turned x y apart) ∙ facts.is_name in
      let reads_y : read b y ≡ Nil = ap (λ s. read s y) first ∙ read_counted one_less (written a y Nil) n y
      ∙ read_written a y Nil facts.there in
      let reads_x' : read b' x' ≡ Name (f.there n) = read_seen h f b b' sees x ∙ ap (renamed f.there) reads_x in
      let reads_y' : read b' y' ≡ Nil = read_seen h f b b' sees y ∙ ap (renamed f.there) reads_y in
      let P : State → Type 0 = λ s. cell_of setting.program s source ≡ Ok x in
      let Q : State → Type 0 = λ s. cell_of setting.program s target ≡ Ok y in
      let sources = found_seen h f b b' sees setting.program source x clean.0 (subst P is facts.source_stays) in
      let targets = found_seen h f b b' sees setting.program target y clean.1 (subst Q is facts.target_stays) in
      let back = count_changed suc (written b' y' (Name (f.there n))) (f.there n) in
      let holds_y : read a y ≡ Name n = sym alike ∙ facts.is_name in
      let same : count_changed suc (written b y (Name n)) n ≡ a =
      ap (λ s. count_changed suc (written s y (Name n)) n) first
      ∙ ap (λ s. count_changed suc s n) (written_counted one_less (written a y Nil) n y (Name n))
      ∙ ap (λ s. count_changed suc (count_changed one_less s n) n)
      (written_twice a y Nil (Name n) ∙ ap (written a y) (sym holds_y)
      ∙ written_same a y)
      ∙ counted_twice one_less suc a n (λ o e. (let some = G.counts C a good x n o facts.is_name e in
      positive o.count some)) in
      let R : State → Type 0 = λ s. Sees h f s back in
      let S : State → Type 0 = λ s. share_array setting.program s (own_element target)
      (index_elements source ++ index_elements target) ≡ false in
      let spent = read_cost (own_element target) (index_elements source ++ index_elements target) in
      let unshared = done_apart setting.program (own_element target) (index_elements source ++ index_elements target) b'
      (share_seen h f b b' sees setting.program (own_element target)
      (index_elements source ++ index_elements target) ∙ subst S is facts.apart_stays) in
      let result : copied b' x' y' ≡ back = ap (λ v. count_changed suc (written b' y' v) (number_of v)) reads_x' in
      record {
        undone = record {
          back = back;
          names = f;
          does = record {
            by = λ m l.
                done_then (found setting.program source b') _ x' back (index_nodes source)
                (index_nodes target + (spent + 0)) c sources
                (done_then (found setting.program target b') _ y' back (index_nodes target) (spent + 0)
                (index_nodes target + (spent + 0)) targets
                (done_then (kept_apart setting.program (own_element target)
                (index_elements source ++ index_elements target) b') _ tt back spent 0 (spent + 0) unshared
                (done_then (fault_if NIL (is_nil (read b' x'))) _ tt back 0 0 0
                (passes NIL (is_nil (read b' x')) (ap is_nil reads_x'))
                (done_then (fault_if NOT_NIL (not (is_nil (read b' y')))) _ tt back 0 0 0
                (passes NOT_NIL (not (is_nil (read b' y'))) (ap (λ v. not (is_nil v)) reads_y'))
                (ap (λ s. Done s 0) result) refl) refl) refl) refl) cost;
          };
          sees = subst R same (counted_seen h f (written b y (Name n)) (written b' y' (Name (f.there n)))
              (written_seen h f b b' sees y (Name n)) suc n);
          same = λ name o p k l. refl;
        };
        exact = λ here alike.
            ap (λ (s : State). count_changed suc (written s y' (Name (f.there n))) (f.there n)) here
            ∙ ap (λ (d : Cell). count_changed suc (written b d (Name (f.there n))) (f.there n)) (cell_alike f y alike)
            ∙ ap (λ (k : ℕ). count_changed suc (written b y (Name k)) k) (alike n) ∙ same;
      }
    where
      positive : (k : ℕ) → 0 < k → suc (one_less k) ≡ k
      positive k h = omega arith

  pub uncopy_exactly : (n : ℕ) (C : G.Context) (at : ℕ) (kind : VarType) (source target : Lvalue) (a b : State) (c : ℕ)
      → G.Typed C (Then (Uncopy at kind source target) End) → G.Good C a → G.Good C b
      → statement setting n (exec setting n) (Uncopy at kind source target) a ≡ Done b c → (f : Names) (b' : State)
      → Sees setting.limits.heap f b b' → UndoneExactly setting (Uncopy at kind source target) f a b b' c
  uncopy_exactly n C at kind source target a b c typed good good_b e f b' sees =
      let d4 : Cell → Cell → Unit {0} → Run State = λ x y w. give (uncopied a x y) in
      let d3 : Cell → Cell → Unit {0} → Run State = λ x y u. fault_if NOT_SAME
      (not (same_value (read a x) (read a y)) || same_cell x y) >>= d4 x y in
      let d2 : Cell → Cell → Unit {0} → Run State = λ x y z. fault_if NIL (is_nil (read a x)) >>= d3 x y in
      let d1 : Cell → Cell → Run State = λ x y. kept_apart setting.program (own_element target)
      (index_elements source ++ index_elements target) a >>= d2 x y in
      let one = in_parts (found setting.program source a) (λ x. found setting.program target a >>= d1 x) b c e in
      let x = one.middle in
      let two = in_parts (found setting.program target a) (d1 x) b one.after one.second in
      let y = two.middle in
      let five = in_parts (kept_apart setting.program (own_element target)
      (index_elements source ++ index_elements target) a) (d2 x y) b two.after two.second in
      let three = in_parts (fault_if NIL (is_nil (read a x))) (d3 x y) b five.after five.second in
      let four = in_parts (fault_if NOT_SAME (not (same_value (read a x) (read a y)) || same_cell x y)) (d4 x y) b
      three.after three.second in
      let from = given_done (index_nodes source) (cell_of setting.program a source) x one.before one.first in
      let to = given_done (index_nodes target) (cell_of setting.program a target) y two.before two.first in
      let unshared = apart_done setting.program (own_element target) (index_elements source ++ index_elements target) a
      five.middle five.before five.first in
      let some = passed_check NIL (is_nil (read a x)) three.middle three.before three.first in
      let check = passed_check NOT_SAME (not (same_value (read a x) (read a y)) || same_cell x y) four.middle
      four.before four.first in
      let parts = neither (same_value (read a x) (read a y)) (same_cell x y) check.0 in
      let alike = is_same_value (read a x) (read a y) parts.0 in
      uncopied_undone C at kind source target a x y b c good
      (G.uncopy C at kind source target a x y typed good from.0 to.0 unshared.0 some.0 alike parts.1) some.0 alike
      parts.1 (done_result (uncopied a x y) b 0 four.after four.second)
      (G.clean C (Uncopy at kind source target) b typed good_b)
      (let z = done_cost (uncopied a x y) b 0 four.after four.second in let k1 = from.1 in let k2 = to.1 in
      let k3 = some.1 in let k4 = check.1 in let k5 = unshared.1 in let s1 = one.sum in let s2 = two.sum in
      let s3 = three.sum in let s4 = four.sum in let s5 = five.sum in omega arith) f b' sees

  pub undo_uncopy : (n : ℕ) (C : G.Context) (at : ℕ) (kind : VarType) (source target : Lvalue) (a b : State) (c : ℕ)
      → G.Typed C (Then (Uncopy at kind source target) End) → G.Good C a → G.Good C b
      → statement setting n (exec setting n) (Uncopy at kind source target) a ≡ Done b c → (f : Names) (b' : State)
      → Sees setting.limits.heap f b b' → Undone setting (Uncopy at kind source target) f a b b' c
  undo_uncopy n C at kind source target a b c typed good good_b e f b' sees =
      (uncopy_exactly n C at kind source target a b c typed good good_b e f b' sees).undone
