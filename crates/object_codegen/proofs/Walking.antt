-- The walk over the cells of an object or array: all are 0, or a trap.
use Rattle.std.proofs.Common.{◌≡◌, ◌≢◌, ℕ, zero, suc, ◌+◌, ◌*◌, ◌^◌, ◌<◌, ◌≤◌, Bool, true, false, List, [], ◌∷◌, length}
use Rattle.std.proofs.Common.{refl, sym, ap, ◌∙◌, subst, arith, ⊎_elim}
use Rattle.std.specs.Prelude.{slice_index, bit_xor, nat_eq, nat_lt}
use Rattle.std.proofs.lemmas.Bool.Decides.{nat_tests}
use Rattle.std.proofs.lemmas.Bool.{cases_lt, cases_eq}
use Rattle.std.proofs.lemmas.Int.{ints}
use Rattle.refine_heap.specs.rpp_words.Words.{is_less}
use Rattle.refine_heap.specs.pisa_isa.Table.{word_of}
use Rattle.refine_heap.specs.pisa_isa.Machine.{Memory}
use Rattle.refine_heap.specs.code_conventions.declared.registers.TheConstants.{FIRST_WORD, OUTCOME}
use Rattle.refine_heap.specs.paired_code.Machine.{Image}
use Rattle.refine_heap.specs.paired_code.Pieces.{Done, Trapped, Runs}
use Rattle.refine_heap.specs.paired_code.Laws.{Rounds, leaves, ends_in_tail, again}
use Rattle.refine_heap.proofs.paired_code_laws.MoreLaws.{while_law}
use Rattle.expr_uncompute.specs.register_expressions.Code.{addi}
use Rattle.expr_uncompute.specs.register_expressions.Number.{Bases}
use Rattle.expr_uncompute.proofs.register_expressions_laws.Goes.{Goes, Traps, goes_cons, goes_seq, goes_xor_to, goes_addi, traps_first}
use Rattle.expr_uncompute.proofs.register_expressions_laws.Scratch.{Scratch, keeping, mem}
use Rattle.object_codegen.specs.Code.{walk_head, walk_tail, walk_cells}
use Rattle.object_codegen.proofs.Touching.{by_first, nil_goes, nil_traps}
use Rattle.refine_heap.specs.code_conventions.declared.faults.TheConstants.{NOT_EMPTY}

-- below 2^31 the signed order is that of numbers
pub less_small : (a b : ℕ) → a < 2 ^ 31 → b < 2 ^ 31 → is_less a b ≡ nat_lt a b
less_small a b h k = grind (arith, ints, nat_tests)

module _ (b : Bases) (f : ℕ → ℕ) (v p st en : ℕ) (zs : List ℕ) (order : st ≤ en) (small : en < 2 ^ 31)
    (inside : en ≤ length zs) where
  abbrev kept : Scratch
  kept = record (keeping v p 0) { left = st; right = en }

  -- a flag, and the address of a cell
  abbrev pub walking : (o w : ℕ) → Memory
  walking o w = mem b f (record (keeping v p 0) { left = st; right = en; outcome = o; content = 0; first = w }) zs

  flag_is : (w : ℕ) → st ≤ w → w ≤ en → bit_xor (bit_xor (word_of (nat_eq st w)) (word_of (is_less st w)))
      (word_of (is_less w en)) ≡ word_of (nat_eq w en)
  flag_is w h k =
      ap (λ t. bit_xor (bit_xor (word_of (nat_eq st w)) (word_of t)) (word_of (is_less w en)))
      (less_small st w (omega arith) (omega arith))
      ∙ ap (λ t. bit_xor (bit_xor (word_of (nat_eq st w)) (word_of (nat_lt st w))) (word_of t))
      (less_small w en (omega arith) (omega arith))
      ∙ ⊎_elim (λ e. first e) (λ n. later n) (cases_eq st w)
    where
      last : (x y : Bool) → bit_xor (word_of x) (word_of y) ≡ 1
          → bit_xor (bit_xor (word_of x) (word_of y)) (word_of (nat_lt w en)) ≡ word_of (nat_eq w en)
      last x y e = ap (λ z. bit_xor z (word_of (nat_lt w en))) e ∙ ⊎_elim (λ l. inner l) (λ g. outer g) (cases_lt w en)
        where
          inner : w < en → bit_xor 1 (word_of (nat_lt w en)) ≡ word_of (nat_eq w en)
          inner l =
              let t : nat_lt w en ≡ true = grind (arith, nat_tests) in
              let u : nat_eq w en ≡ false = grind (arith, nat_tests) in
              ap (λ z. bit_xor 1 (word_of z)) t ∙ sym (ap word_of u)

          outer : en ≤ w → bit_xor 1 (word_of (nat_lt w en)) ≡ word_of (nat_eq w en)
          outer g =
              let t : nat_lt w en ≡ false = grind (arith, nat_tests) in
              let u : nat_eq w en ≡ true = grind (arith, nat_tests) in
              ap (λ z. bit_xor 1 (word_of z)) t ∙ sym (ap word_of u)

      first : st ≡ w → bit_xor (bit_xor (word_of (nat_eq st w)) (word_of (nat_lt st w))) (word_of (nat_lt w en))
          ≡ word_of (nat_eq w en)
      first e =
          let t : nat_eq st w ≡ true = grind (arith, nat_tests) in
          let u : nat_lt st w ≡ false = grind (arith, nat_tests) in
          last (nat_eq st w) (nat_lt st w) (ap (λ z. bit_xor (word_of z) (word_of (nat_lt st w))) t
          ∙ ap (λ z. bit_xor 1 (word_of z)) u)

      later : st ≢ w → bit_xor (bit_xor (word_of (nat_eq st w)) (word_of (nat_lt st w))) (word_of (nat_lt w en))
          ≡ word_of (nat_eq w en)
      later n =
          let t : nat_eq st w ≡ false = grind (arith, nat_tests) in
          let u : nat_lt st w ≡ true = grind (arith, nat_tests) in
          last (nat_eq st w) (nat_lt st w) (ap (λ z. bit_xor (word_of z) (word_of (nat_lt st w))) t
          ∙ ap (λ z. bit_xor 0 (word_of z)) u)

  head_goes : (w : ℕ) → st ≤ w → w ≤ en → Goes walk_head 2 (walking (word_of (nat_eq st w)) w)
      (walking (word_of (nat_eq w en)) w)
  head_goes w h k =
      let put : ℕ → Memory = λ z. walking z w in
      goes_cons (goes_xor_to _ put (word_of (nat_eq st w)) (word_of (is_less st w)) _ refl refl (omega arith)
      (λ z. refl) (λ z. refl)) (goes_xor_to _ put _ (word_of (is_less w en)) _ (flag_is w h k) refl (omega arith)
      (λ z. refl) (λ z. refl))

  tail_goes : (w : ℕ) → w < en → slice_index zs w ≡ 0 → Goes walk_tail 5 (walking 0 w) (walking 0 (w + 1))
  tail_goes w k e = goes_seq (nil_goes b f kept (by_first b f kept w) 7 zs (omega arith) e)
      (goes_addi _ (λ z. walking 0 z) w 1 (omega arith) refl (omega arith) (λ z. refl) (λ z. refl))

  not_before : (w : ℕ) → st ≤ w → word_of (nat_eq st (w + 1)) ≡ 0
  not_before w h = let t : nat_eq st (w + 1) ≡ false = grind (arith, nat_tests) in ap word_of t

  not_last : (w : ℕ) → w < en → word_of (nat_eq w en) ≡ 0
  not_last w h = let t : nat_eq w en ≡ false = grind (arith, nat_tests) in ap word_of t

  is_one : (x y : ℕ) → x ≡ y → word_of (nat_eq x y) ≡ 1
  is_one x y e = let t : nat_eq x y ≡ true = grind (arith, nat_tests) in ap word_of t

  not_zero : (x : ℕ) → x ≡ 1 → x ≢ 0
  not_zero x e = λ z. omega arith

  head_ahead : (im : Image) (w o o' : ℕ) → st ≤ w → w ≤ en → word_of (nat_eq st w) ≡ o → word_of (nat_eq w en) ≡ o'
      → Runs im walk_head false (walking o w) (Done (walking o' w) 2)
  head_ahead im w o o' h k e e' = subst (λ z. Runs im walk_head false (walking z w) (Done (walking o' w) 2)) e
      (subst (λ z. Runs im walk_head false (walking (word_of (nat_eq st w)) w) (Done (walking z w) 2)) e'
      ((head_goes w h k).ahead im))

  head_back : (im : Image) (w o o' : ℕ) → st ≤ w → w ≤ en → word_of (nat_eq st w) ≡ o → word_of (nat_eq w en) ≡ o'
      → Runs im walk_head true (walking o' w) (Done (walking o w) 2)
  head_back im w o o' h k e e' = subst (λ z. Runs im walk_head true (walking o' w) (Done (walking z w) 2)) e
      (subst (λ z. Runs im walk_head true (walking z w) (Done (walking (word_of (nat_eq st w)) w) 2)) e'
      ((head_goes w h k).back im))

  -- from a cell on, r cells are left
  up : (im : Image) (r w o : ℕ) → w + r ≡ en → st ≤ w → word_of (nat_eq st w) ≡ o
      → ((a : ℕ) → w ≤ a → a < en → slice_index zs a ≡ 0) → Rounds im OUTCOME walk_head walk_tail false (walking o w)
      (Done (walking 1 en) (5 + 13 * r))
  up im zero w o e h eo z =
      let same : w ≡ en = omega arith in
      subst (λ x. Rounds im OUTCOME walk_head walk_tail false (walking o w) (Done (walking 1 x) 5)) same
      (leaves (head_ahead im w o 1 h (omega arith) eo (is_one w en same)) (not_zero 1 refl))
  up im (suc r) w o e h eo z =
      let here : Runs im walk_head false (walking o w) (Done (walking 0 w) 2) =
      head_ahead im w o 0 h (omega arith) eo (not_last w (omega arith)) in
      let next = up im r (w + 1) 0 (omega arith) (omega arith) (not_before w h) (λ a lo hi. z a (omega arith) hi) in
      let k : 13 + (5 + 13 * r) ≡ 5 + 13 * suc r = omega arith in
      subst (λ x. Rounds im OUTCOME walk_head walk_tail false (walking o w) (Done (walking 1 en) x)) k
      (again here refl ((tail_goes w (omega arith) (z w (omega arith) (omega arith))).ahead im) refl next)

  down : (im : Image) (r w o : ℕ) → w ≡ st + r → w ≤ en → word_of (nat_eq w en) ≡ o
      → ((a : ℕ) → st ≤ a → a < w → slice_index zs a ≡ 0) → Rounds im OUTCOME walk_head walk_tail true (walking o w)
      (Done (walking 1 st) (5 + 13 * r))
  down im zero w o e h eo z =
      let same : w ≡ st = omega arith in
      subst (λ x. Rounds im OUTCOME walk_head walk_tail true (walking o w) (Done (walking 1 x) 5)) same
      (leaves (head_back im w 1 o (omega arith) h (is_one st w (omega arith)) eo) (not_zero 1 refl))
  down im (suc r) w o e h eo z =
      let w' : ℕ = st + r in
      let up1 : w ≡ st + r + 1 = omega arith in
      let here : Runs im walk_head true (walking o w) (Done (walking 0 w) 2) =
      head_back im w 0 o (omega arith) h (ap (λ x. word_of (nat_eq st x)) up1 ∙ not_before (st + r) (omega arith))
      eo in
      let back : Runs im walk_tail true (walking 0 w) (Done (walking 0 (st + r)) 5) =
      subst (λ x. Runs im walk_tail true (walking 0 x) (Done (walking 0 (st + r)) 5)) (sym up1)
      ((tail_goes (st + r) (omega arith) (z (st + r) (omega arith) (omega arith))).back im) in
      let next = down im r (st + r) 0 refl (omega arith) (not_last (st + r) (omega arith))
      (λ a lo hi. z a lo (omega arith)) in
      let k : 13 + (5 + 13 * r) ≡ 5 + 13 * suc r = omega arith in
      subst (λ x. Rounds im OUTCOME walk_head walk_tail true (walking o w) (Done (walking 1 st) x)) k
      (again here refl back refl next)

  -- all cells are 0
  pub walk_goes : ((a : ℕ) → st ≤ a → a < en → slice_index zs a ≡ 0) → (n : ℕ) → st + n ≡ en
      → Goes walk_cells (3 + (5 + 13 * n)) (walking 1 st) (walking 1 en)
  walk_goes z n e = record {
    ahead = λ im. (while_law OUTCOME walk_head walk_tail).turns im false (walking 1 st) (Done (walking 1 en) (5 + 13 * n))
        (not_zero 1 refl) (up im n st 1 e (omega arith) (is_one st st refl) z);
    back = λ im. (while_law OUTCOME walk_head walk_tail).turns im true (walking 1 en) (Done (walking 1 st) (5 + 13 * n))
        (not_zero 1 refl) (down im n en 1 (sym e) (omega arith) (is_one en en refl) z);
  }

  -- or one is not
  stops : (im : Image) (r w o j : ℕ) → w + r ≡ en → st ≤ w → word_of (nat_eq st w) ≡ o → w ≤ j → j < en
      → slice_index zs j ≢ 0 → (k : ℕ) × (k ≤ 13 * r) × Rounds im OUTCOME walk_head walk_tail false (walking o w)
      (Trapped NOT_EMPTY k)
  stops im zero w o j e h eo lo hi nz = absurd (omega arith)
  stops im (suc r) w o j e h eo lo hi nz =
      ⊎_elim (λ z. onward z (stops im r (w + 1) 0 j (omega arith) (omega arith) (not_before w h)
      (let other : w ≢ j = λ q. nz (ap (slice_index zs) (sym q) ∙ z) in omega arith) hi nz)) (λ n. here n)
      (cases_eq (slice_index zs w) 0)
    where
      head : Runs im walk_head false (walking o w) (Done (walking 0 w) 2)
      head = head_ahead im w o 0 h (omega arith) eo (not_last w (omega arith))

      here : slice_index zs w ≢ 0 → (k : ℕ) × (k ≤ 13 * suc r)
          × Rounds im OUTCOME walk_head walk_tail false (walking o w) (Trapped NOT_EMPTY k)
      here n =
          let t = (traps_first (addi FIRST_WORD 1 ∷ []) (nil_traps b f kept (by_first b f kept w) 7 zs (omega arith)
          n)).ahead im in
          let l = t.1 in
          (6 + t.0, omega arith, ends_in_tail head refl t.2 tt)

      onward : slice_index zs w ≡ 0 → (k : ℕ) × (k ≤ 13 * r)
          × Rounds im OUTCOME walk_head walk_tail false (walking 0 (w + 1)) (Trapped NOT_EMPTY k)
          → (k : ℕ) × (k ≤ 13 * suc r) × Rounds im OUTCOME walk_head walk_tail false (walking o w) (Trapped NOT_EMPTY k)
      onward z t = let l = t.1 in (
        13 + t.0,
        omega arith,
        again head refl ((tail_goes w (omega arith) z).ahead im) refl
            t.2,
      )

  pub walk_traps : (j n : ℕ) → st + n ≡ en → st ≤ j → j < en → slice_index zs j ≢ 0
      → Traps walk_cells (3 + 13 * n) 7 (walking 1 st)
  walk_traps j n e lo hi nz = record {
    ahead = λ im. let t = stops im n st 1 j e (omega arith) (is_one st st refl) lo hi nz in let l = t.1 in (
      3 + t.0,
      omega arith,
      (while_law OUTCOME walk_head walk_tail).turns im false (walking 1 st) (Trapped NOT_EMPTY t.0)
          (not_zero 1 refl) t.2,
    );
  }
