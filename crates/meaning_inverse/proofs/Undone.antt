-- What it is that a statement or a block is undone, and the plain statements.
use Rattle.std.proofs.Common.{◌≡◌, ℕ, ◌+◌, refl, sym, ap, subst, ◌∙◌, arith, true, false, Bool, ◌&&◌, ◌++◌, Some, Ok}
use Rattle.std.proofs.Common.{nat_eq, option_map, length-set, if◌then◌else◌, eqb-true}
use Rattle.std.proofs.lemmas.Bool.{eqb-false}
use Rattle.meaning_reached.specs.rpp_words.Words.{IsWord}
use Rattle.meaning_reached.proofs.rpp_words_laws.Laws.{difference_of-sum_of, sum_of-difference_of, xor-twice}
use Rattle.meaning_reached.specs.rpp_tree.declared.tree.UpdateOp.{UpdateOp}
use Rattle.meaning_reached.specs.rpp_tree.declared.tree.UpdateOp.TheVariants as update
use Rattle.meaning_reached.specs.rpp_tree.Tree.{Expression, Lvalue, Statement, Statements, Update, Swap, Skip, End, Then, nodes}
use Rattle.meaning_reached.specs.rpp_tree.Tree.{index_nodes}
use Rattle.meaning_reached.specs.inverse_rules.Inverse.{inverse_operator, inverse_statement, inverse}
use Rattle.meaning_reached.specs.roopl_semantics.Operators.{updated}
use Rattle.meaning_reached.specs.roopl_semantics.Run.{Run, Done, ◌>>=◌, give}
use Rattle.meaning_reached.specs.roopl_semantics.Store.{Value, Word, Nil, Name, Object, State, object_named, number_of}
use Rattle.meaning_reached.specs.roopl_semantics.Value.{Cell, Slot, Part, read, written, value as value_in, cell_of, evaluated, found}
use Rattle.meaning_reached.specs.roopl_semantics.Elements.{elements, index_elements, own_element, share_array, read_cost, kept_apart}
use Rattle.meaning_reached.specs.roopl_semantics.Execution.{Setting, statement, exec, same_cell}
use Rattle.meaning_reached.specs.roopl_semantics.Agreement.{renamed}
use Rattle.meaning_inverse.proofs.Runs.{in_parts, done_then, done_result, done_cost, given_done, apart_done, done_apart}
use Rattle.meaning_inverse.proofs.Runs.{Runs, Does}
use Rattle.meaning_inverse.proofs.Cells.{IsCell, IsSlot, IsPart, written_twice, written_same, written_apart}
use Rattle.meaning_inverse.proofs.Cells.{read_written, read_apart, named_changed, length_with, apart_sym}
use Rattle.meaning_inverse.proofs.Later.{IsSound, Later}
use Rattle.meaning_inverse.proofs.Seen.{Names, Sees, cell_for, read_seen, share_seen, evaluated_seen, found_seen}
use Rattle.meaning_inverse.proofs.Seen.{written_seen}
use Rattle.meaning_inverse.proofs.Ground.{Ground, UpdateFacts, SwapFacts, swapped, CleanIn}
use Rattle.meaning_reached.proofs.roopl_semantics_laws.Changed.{with_cell}

-- the maps do the same with what is live before and after
abbrev pub SameOn : Names → Names → State → State → Type 0
SameOn f g a b = (name : ℕ) (o p : Object) → object_named a.store name ≡ Some o → object_named b.store name ≡ Some p
    → g.there name ≡ f.there name

pub same_then : (f g k : Names) (a x b : State) → IsSound a → Later a x → Later x b → SameOn f g x b → SameOn g k a x
    → SameOn f k a b
same_then f g k a x b sound first second late early name o p e h =
    let drawn = sound.drawn name o e in
    let was = second.old name p (let t = first.taken in omega arith) h in
    early name o was.before e was.there ∙ late name was.before p was.there h

-- a statement that led from a to b is undone from a state that b is seen as
pub record Undone (setting : Setting) (s : Statement) (f : Names) (a b b' : State) (cost : ℕ) : Type 0 where
  pub back : State
  pub names : Names
  pub does : Does setting (inverse_statement s) b' back cost
  pub sees : Sees setting.limits.heap names a back
  pub same : SameOn f names a b

-- if that state is b itself, and no name is another, it leads back to a itself
pub record UndoneExactly (setting : Setting) (s : Statement) (f : Names) (a b b' : State) (cost : ℕ) : Type 0 where
  pub undone : Undone setting s f a b b' cost
  pub exact : b' ≡ b → ((name : ℕ) → f.there name ≡ name) → undone.back ≡ a

pub cell_alike : (f : Names) (c : Cell) → ((name : ℕ) → f.there name ≡ name) → cell_for f c ≡ c
cell_alike f (Slot i) alike = refl
cell_alike f (Part name i) alike = ap (λ n. Part n i) (alike name)

pub value_alike : (f : Names) (v : Value) → ((name : ℕ) → f.there name ≡ name) → renamed f.there v ≡ v
value_alike f (Word w) alike = refl
value_alike f Nil alike = refl
value_alike f (Name n) alike = ap (λ m. Name m) (alike n)

-- the same of a block
pub record BlockUndone (setting : Setting) (body : Statements) (f : Names) (a b b' : State) (cost : ℕ) : Type 0 where
  pub back : State
  pub names : Names
  pub runs : Runs setting (inverse body) b' back cost
  pub sees : Sees setting.limits.heap names a back
  pub same : SameOn f names a b

updates_back : (op : UpdateOp) (a b : ℕ) → IsWord a → IsWord b → updated (inverse_operator op) (updated op a b) b ≡ a
updates_back update.Add a b h k = difference_of-sum_of a b h k
updates_back update.Sub a b h k = sum_of-difference_of a b h k
updates_back update.Xor a b h k = xor-twice a b

pub is_same_cell : (c d : Cell) → same_cell c d ≡ true → c ≡ d
is_same_cell (Slot i) (Slot j) e = ap (λ n. Slot n) (eqb-true i j e)
is_same_cell (Slot i) (Part name j) e = cc
is_same_cell (Part name i) (Slot j) e = cc
is_same_cell (Part name i) (Part other j) e = by (nat_eq name other) refl e
  where
    by : (t : Bool) → nat_eq name other ≡ t → t && nat_eq i j ≡ true → Part name i ≡ Part other j
    by true f e = ap (λ n. Part n i) (eqb-true name other f) ∙ ap (λ n. Part other n) (eqb-true i j e)
    by false f e = cc

pub turned : (c d : Cell) → same_cell c d ≡ false → same_cell d c ≡ false
turned (Slot i) (Slot j) e = apart_sym i j e
turned (Slot i) (Part name j) e = refl
turned (Part name i) (Slot j) e = refl
turned (Part name i) (Part other j) e = by (nat_eq name other) refl (nat_eq other name) refl e
  where
    by : (t : Bool) → nat_eq name other ≡ t → (u : Bool) → nat_eq other name ≡ u → t && nat_eq i j ≡ false
        → u && nat_eq j i ≡ false
    by true f true g e = apart_sym i j e
    by true f false g e = refl
    by false f true g e = absurd (eqb-false name other f (sym (eqb-true other name g)))
    by false f false g e = refl

-- a cell stays if another is written
pub cell_stays : (st : State) (c d : Cell) (v : Value) → IsCell st d → IsCell (written st c v) d
cell_stays st (Slot i) d v (IsSlot j h) = IsSlot j (let l = length_with st.frame i v in omega arith)
cell_stays st (Part name i) d v (IsSlot j h) = IsSlot j h
cell_stays st (Slot i) d v (IsPart n j object e h) = IsPart n j object e h
cell_stays st (Part name i) d v (IsPart n j object e h) =
    by (nat_eq name n) (named_changed st.store name (with_cell i v) n)
  where
    by : (t : Bool) → object_named (written st (Part name i) v).store n
        ≡ (if t then option_map (with_cell i v) (object_named st.store n) else object_named st.store n)
        → IsCell (written st (Part name i) v) (Part n j)
    by true k = IsPart n j (with_cell i v object) (k ∙ ap (option_map (with_cell i v)) e)
        (let l = length-set object.cells i v in omega arith)
    by false k = IsPart n j object (k ∙ e) h

swapped_back : (st : State) (a b : Cell) → IsCell st a → IsCell st b → swapped (swapped st a b) a b ≡ st
swapped_back st a b there there' = by (same_cell a b) refl
  where
    once : (c : Cell) → swapped st c c ≡ st
    once c = written_twice st c (read st c) (read st c) ∙ written_same st c

    by : (t : Bool) → same_cell a b ≡ t → swapped (swapped st a b) a b ≡ st
    by true e =
        let P : Cell → Type 0 = λ d. swapped (swapped st a d) a d ≡ st in
        subst P (is_same_cell a b e) (ap (λ s. swapped s a a) (once a) ∙ once a)
    by false e =
        let one = written st a (read st b) in
        let two = written one b (read st a) in
        let right : read two b ≡ read st a = read_written one b (read st a) (cell_stays st a b (read st b) there') in
        let left : read two a ≡ read st b = read_apart one b a (read st a) (turned a b e)
        ∙ read_written st a (read st b) there in
        ap (λ v. written (written two a v) b (read two a)) right
        ∙ ap (λ v. written (written two a (read st a)) b v) left
        ∙ ap (λ s. written (written s a (read st a)) b (read st b)) (written_apart st a b (read st b) (read st a) e)
        ∙ ap (λ s. written s b (read st b)) (written_twice (written st b (read st a)) a (read st b) (read st a))
        ∙ ap (λ s. written s b (read st b)) (written_apart st b a (read st a) (read st a) (turned a b e))
        ∙ ap (λ s. written (written s b (read st a)) b (read st b)) (written_same st a)
        ∙ written_twice st b (read st a) (read st b)
        ∙ written_same st b

module _ (setting : Setting) (G : Ground setting) where
  pub undo_skip : (n at : ℕ) (a b : State) (c : ℕ) → statement setting n (exec setting n) (Skip at) a ≡ Done b c
      → (f : Names) (b' : State) → Sees setting.limits.heap f b b' → Undone setting (Skip at) f a b b' c
  undo_skip n at a b c e f b' sees =
      let is = done_result a b 0 c e in
      let P : State → Type 0 = λ x. Sees setting.limits.heap f x b' in
      record {
        back = b';
        names = f;
        does = record { by = λ m h. ap (Done b') (done_cost a b 0 c e) };
        sees = subst P (sym is) sees;
        same = λ name o p h k. refl;
      }

  update_undone : (C : G.Context) (at : ℕ) (op : UpdateOp) (target : Lvalue) (value : Expression) (a : State)
      (cell : Cell) (v : Value) (b : State) (c : ℕ)
      → UpdateFacts setting.program a target value cell v → written a cell
      (Word (updated op (number_of (read a cell)) (number_of v))) ≡ b
      → CleanIn setting.program b (Update at op target value)
      → index_nodes target + (nodes value + (read_cost (own_element target)
      (index_elements target ++ elements value) + 0)) ≡ c
      → (f : Names) (b' : State) → Sees setting.limits.heap f b b'
      → UndoneExactly setting (Update at op target value) f a b b' c
  update_undone C at op target value a cell v b c facts is clean cost f b' sees =
      let word = updated op (number_of (read a cell)) (number_of v) in
      let cell' = cell_for f cell in
      let P : State → Type 0 = λ x. cell_of setting.program x target ≡ Ok cell in
      let Q : State → Type 0 = λ x. value_in setting.program x value ≡ Ok v in
      let back = written b' cell' (Word facts.old) in
      let finds = found_seen setting.limits.heap f b b' sees setting.program target cell clean.0
      (subst P is (facts.place_stays word)) in
      let values = evaluated_seen setting.limits.heap f b b' sees setting.program value v clean.1
      (subst Q is (facts.value_stays word)) in
      let reads_b : read b cell ≡ Word word = ap (λ s. read s cell) (sym is)
      ∙ read_written a cell (Word word) facts.there in
      let reads' : read b' cell' ≡ Word word = read_seen setting.limits.heap f b b' sees cell
      ∙ ap (renamed f.there) reads_b in
      let again : updated (inverse_operator op) (number_of (read b' cell')) (number_of (renamed f.there v))
      ≡ facts.old =
      ap (λ x. updated (inverse_operator op) (number_of x) (number_of (renamed f.there v))) reads'
      ∙ ap (λ x. updated (inverse_operator op) (updated op (number_of x) (number_of v)) (number_of (renamed f.there v)))
      facts.reads
      ∙ ap (λ x. updated (inverse_operator op) (updated op facts.old (number_of x)) (number_of (renamed f.there x)))
      facts.adds
      ∙ updates_back op facts.old facts.by facts.is_word facts.by_word in
      let same : written b cell (Word facts.old) ≡ a =
      ap (λ s. written s cell (Word facts.old)) (sym is) ∙ written_twice a cell (Word word) (Word facts.old)
      ∙ ap (written a cell) (sym facts.reads) ∙ written_same a cell in
      let R : State → Type 0 = λ x. Sees setting.limits.heap f x back in
      let S : State → Type 0 = λ x. share_array setting.program x (own_element target)
      (index_elements target ++ elements value) ≡ false in
      let spent = read_cost (own_element target) (index_elements target ++ elements value) in
      let unshared = done_apart setting.program (own_element target) (index_elements target ++ elements value) b'
      (share_seen setting.limits.heap f b b' sees setting.program (own_element target)
      (index_elements target ++ elements value) ∙ subst S is (facts.apart_stays word)) in
      record {
        undone = record {
          back = back;
          names = f;
          does = record {
            by = λ m h.
                done_then (found setting.program target b') _ cell' back (index_nodes target)
                (nodes value + (spent + 0))
                c finds
                (done_then (evaluated setting.program value b') _ (renamed f.there v) back (nodes value) (spent + 0)
                (nodes value + (spent + 0)) values
                (done_then (kept_apart setting.program (own_element target) (index_elements target ++ elements value)
                b')
                _ tt back spent 0 (spent + 0) unshared (ap (λ k. Done (written b' cell' (Word k)) 0) again) refl)
                refl) cost;
          };
          sees = subst R same (written_seen setting.limits.heap f b b' sees cell (Word facts.old));
          same = λ name o p h k. refl;
        };
        exact = λ here alike.
            ap (λ (s : State). written s cell' (Word facts.old)) here
            ∙ ap (λ (d : Cell). written b d (Word facts.old)) (cell_alike f cell alike) ∙ same;
      }

  pub update_exactly : (n : ℕ) (C : G.Context) (at : ℕ) (op : UpdateOp) (target : Lvalue) (value : Expression)
      (a b : State) (c : ℕ) → G.Typed C (Then (Update at op target value) End) → G.Good C a → G.Good C b
      → statement setting n (exec setting n) (Update at op target value) a ≡ Done b c → (f : Names) (b' : State)
      → Sees setting.limits.heap f b b' → UndoneExactly setting (Update at op target value) f a b b' c
  update_exactly n C at op target value a b c typed good good_b e f b' sees =
      let last : Cell → Value → Unit {0} → Run State = λ cell v u. give
      (written a cell (Word (updated op (number_of (read a cell)) (number_of v)))) in
      let check : Cell → Value → Run State = λ cell v. kept_apart setting.program (own_element target)
      (index_elements target ++ elements value) a >>= last cell v in
      let one = in_parts (found setting.program target a) (λ cell. evaluated setting.program value a >>= check cell) b c
      e in
      let two = in_parts (evaluated setting.program value a) (check one.middle) b one.after one.second in
      let three = in_parts (kept_apart setting.program (own_element target) (index_elements target ++ elements value) a)
      (last one.middle two.middle) b two.after two.second in
      let place = given_done (index_nodes target) (cell_of setting.program a target) one.middle one.before one.first in
      let val = given_done (nodes value) (value_in setting.program a value) two.middle two.before two.first in
      let unshared = apart_done setting.program (own_element target) (index_elements target ++ elements value) a
      three.middle three.before three.first in
      let w = written a one.middle (Word (updated op (number_of (read a one.middle)) (number_of two.middle))) in
      update_undone C at op target value a one.middle two.middle b c
      (G.update C at op target value a one.middle two.middle typed good place.0 val.0 unshared.0)
      (done_result w b 0 three.after three.second) (G.clean C (Update at op target value) b typed good_b)
      (let i = place.1 in let j = val.1 in let l = unshared.1 in let k = done_cost w b 0 three.after three.second in
      let s = one.sum in let t = two.sum in let x = three.sum in omega arith) f b' sees

  pub undo_update : (n : ℕ) (C : G.Context) (at : ℕ) (op : UpdateOp) (target : Lvalue) (value : Expression)
      (a b : State) (c : ℕ) → G.Typed C (Then (Update at op target value) End) → G.Good C a → G.Good C b
      → statement setting n (exec setting n) (Update at op target value) a ≡ Done b c → (f : Names) (b' : State)
      → Sees setting.limits.heap f b b' → Undone setting (Update at op target value) f a b b' c
  undo_update n C at op target value a b c typed good good_b e f b' sees =
      (update_exactly n C at op target value a b c typed good good_b e f b' sees).undone

  swap_undone : (at : ℕ) (left right : Lvalue) (a : State) (x y : Cell) (b : State) (c : ℕ)
      → SwapFacts setting.program a left right x y → swapped a x y ≡ b → CleanIn setting.program b (Swap at left right)
      → index_nodes left + (index_nodes right + (read_cost (own_element left ++ own_element right)
      (index_elements left ++ index_elements right) + 0)) ≡ c
      → (f : Names) (b' : State) → Sees setting.limits.heap f b b'
      → UndoneExactly setting (Swap at left right) f a b b' c
  swap_undone at left right a x y b c facts is clean cost f b' sees =
      let x' = cell_for f x in
      let y' = cell_for f y in
      let P : State → Type 0 = λ s. cell_of setting.program s left ≡ Ok x in
      let Q : State → Type 0 = λ s. cell_of setting.program s right ≡ Ok y in
      let lefts = found_seen setting.limits.heap f b b' sees setting.program left x clean.0
      (subst P is facts.left_stays) in
      let rights = found_seen setting.limits.heap f b b' sees setting.program right y clean.1
      (subst Q is facts.right_stays) in
      let back = written (written b' x' (renamed f.there (read b y))) y' (renamed f.there (read b x)) in
      let same : swapped b x y ≡ a = ap (λ s. swapped s x y) (sym is)
      ∙ swapped_back a x y facts.left_there facts.right_there in
      let once = written_seen setting.limits.heap f b b' sees x (read b y) in
      let R : State → Type 0 = λ s. Sees setting.limits.heap f s back in
      let S : State → Type 0 = λ s. share_array setting.program s (own_element left ++ own_element right)
      (index_elements left ++ index_elements right) ≡ false in
      let spent = read_cost (own_element left ++ own_element right) (index_elements left ++ index_elements right) in
      let unshared = done_apart setting.program (own_element left ++ own_element right)
      (index_elements left ++ index_elements right) b' (share_seen setting.limits.heap f b b' sees setting.program
      (own_element left ++ own_element right) (index_elements left ++ index_elements right)
      ∙ subst S is facts.apart_stays) in
      let swaps : swapped b' x' y' ≡ back =
      ap (λ v. written (written b' x' v) y' (read b' x')) (read_seen setting.limits.heap f b b' sees y)
      ∙ ap (λ v. written (written b' x' (renamed f.there (read b y))) y' v)
      (read_seen setting.limits.heap f b b' sees x) in
      record {
        undone = record {
          back = back;
          names = f;
          does = record {
            by = λ m h.
                done_then (found setting.program left b') _ x' back (index_nodes left) (index_nodes right + (spent + 0))
                c
                lefts
                (done_then (found setting.program right b') _ y' back (index_nodes right) (spent + 0)
                (index_nodes right + (spent + 0)) rights
                (done_then (kept_apart setting.program (own_element left ++ own_element right)
                (index_elements left ++ index_elements right) b') _ tt back spent 0 (spent + 0) unshared
                (ap (λ s. Done s 0) swaps) refl) refl) cost;
          };
          sees = subst R same (written_seen setting.limits.heap f (written b x (read b y))
              (written b' x' (renamed f.there (read b y))) once y (read b x));
          same = λ name o p h k. refl;
        };
        exact = λ here alike.
            ap (λ (s : State). written (written s x' (renamed f.there (read b y))) y' (renamed f.there (read b x))) here
            ∙ ap (λ (d : Cell). written (written b d (renamed f.there (read b y))) y' (renamed f.there (read b x)))
            (cell_alike f x alike)
            ∙ ap (λ (d : Cell). written (written b x (renamed f.there (read b y))) d (renamed f.there (read b x)))
            (cell_alike f y alike)
            ∙ ap (λ (v : Value). written (written b x v) y (renamed f.there (read b x)))
            (value_alike f (read b y) alike)
            ∙ ap (λ (v : Value). written (written b x (read b y)) y v) (value_alike f (read b x) alike)
            ∙ same;
      }

  pub swap_exactly : (n : ℕ) (C : G.Context) (at : ℕ) (left right : Lvalue) (a b : State) (c : ℕ)
      → G.Typed C (Then (Swap at left right) End) → G.Good C a → G.Good C b
      → statement setting n (exec setting n) (Swap at left right) a ≡ Done b c → (f : Names) (b' : State)
      → Sees setting.limits.heap f b b' → UndoneExactly setting (Swap at left right) f a b b' c
  swap_exactly n C at left right a b c typed good good_b e f b' sees =
      let last : Cell → Cell → Unit {0} → Run State = λ x y u. give (swapped a x y) in
      let check : Cell → Cell → Run State = λ x y. kept_apart setting.program (own_element left ++ own_element right)
      (index_elements left ++ index_elements right) a >>= last x y in
      let one = in_parts (found setting.program left a) (λ x. found setting.program right a >>= check x) b c e in
      let two = in_parts (found setting.program right a) (check one.middle) b one.after one.second in
      let three = in_parts (kept_apart setting.program (own_element left ++ own_element right)
      (index_elements left ++ index_elements right) a) (last one.middle two.middle) b two.after two.second in
      let place = given_done (index_nodes left) (cell_of setting.program a left) one.middle one.before one.first in
      let other = given_done (index_nodes right) (cell_of setting.program a right) two.middle two.before two.first in
      let unshared = apart_done setting.program (own_element left ++ own_element right)
      (index_elements left ++ index_elements right) a three.middle three.before three.first in
      let w = swapped a one.middle two.middle in
      swap_undone at left right a one.middle two.middle b c
      (G.swap C at left right a one.middle two.middle typed good place.0 other.0 unshared.0)
      (done_result w b 0 three.after three.second) (G.clean C (Swap at left right) b typed good_b)
      (let i = place.1 in let j = other.1 in let l = unshared.1 in let k = done_cost w b 0 three.after three.second in
      let s = one.sum in let t = two.sum in let x = three.sum in omega arith) f b' sees

  pub undo_swap : (n : ℕ) (C : G.Context) (at : ℕ) (left right : Lvalue) (a b : State) (c : ℕ)
      → G.Typed C (Then (Swap at left right) End) → G.Good C a → G.Good C b
      → statement setting n (exec setting n) (Swap at left right) a ≡ Done b c → (f : Names) (b' : State)
      → Sees setting.limits.heap f b b' → Undone setting (Swap at left right) f a b b' c
  undo_swap n C at left right a b c typed good good_b e f b' sees =
      (swap_exactly n C at left right a b c typed good good_b e f b' sees).undone
