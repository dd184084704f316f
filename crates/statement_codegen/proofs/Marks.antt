-- The marks of fragments that are put together.
use Rattle.std.proofs.Common.{inl, inr, ◌≡◌, ℕ, ◌+◌, ◌-◌, ◌<◌, ◌≤◌, Bool, true, false, List, [], ◌∷◌, ◌++◌, length}
use Rattle.std.proofs.Common.{refl, sym, ap, ◌∙◌, subst, arith, length-append, append_assoc, take, drop, ⊎_elim}
use Rattle.std.specs.Prelude.{◌||◌, All}
use Rattle.std.specs.List.{AllZip}
use Rattle.std.specs.List.Sorted.{IsPermutation}
use Rattle.std.proofs.Math.Seq.{drop-append-add}
use Rattle.std.proofs.lemmas.Bool.{cases_lt}
use Rattle.std.proofs.lemmas.Bool.Decides.{nat_tests}
use Rattle.std.proofs.lemmas.List.{drop-append-le, take-append-le, take_all, length-drop}
use Rattle.std.proofs.lemmas.List.Folds.{list_any-append}
use Rattle.std.proofs.lemmas.List.Sorted.{IsPermutation-refl, IsPermutation-trans, IsPermutation-append}
use Rattle.std.proofs.lemmas.List.Sorted.{IsPermutation-append_comm, IsPermutation-append_right, IsPermutation-to_front}
use Rattle.refine_objects.specs.rpp_tree.Tree.{Statement}
use Rattle.refine_objects.specs.rpp_tree.Places.{statement_place}
use Rattle.branch_codegen.specs.pisa_isa.declared.notes.Mark.{Mark}
use Rattle.branch_codegen.specs.paired_code.declared.part.Symbol.{Symbol}
use Rattle.branch_codegen.specs.paired_code.Code.{Code, moved_on, shift, seq_code, marked_code}
use Rattle.refine_form.specs.Form.{Scope}
use Rattle.refine_form.specs.Held.{HoldsCode, HoldsBoth}
use Rattle.refine_form.proofs.Holding.{both_seq}
use Rattle.statement_codegen.specs.Rows.{Row, row_before}
use Rattle.statement_codegen.specs.Ranges.{LiesIn, IsRange, MarksOf, is_marked, holds_cell, IsCovered}
use Rattle.statement_codegen.proofs.Nesting.{each_append, each_length, each_moved, each_all, shift_same, all_moved}
use Rattle.statement_codegen.proofs.Nesting.{nested_moved, nested_append, nested_whole, IsBetween, apart_by}

both_same : (xs ys us vs : List Mark) → IsPermutation xs ys → IsPermutation us vs → IsPermutation (xs ++ us) (vs ++ ys)
both_same xs ys us vs a b = IsPermutation-trans (xs ++ us) (ys ++ vs) (vs ++ ys) (IsPermutation-append xs ys us vs a b)
    (IsPermutation-append_comm ys vs)

cells_moved : (pre p post : List Symbol) (i j : ℕ) → i ≤ j → j ≤ length p
    → take ((length pre + j) - (length pre + i)) (drop (length pre + i) (pre ++ (p ++ post))) ≡ take (j - i) (drop i p)
cells_moved pre p post i j h l =
    let e : (length pre + j) - (length pre + i) ≡ j - i = omega arith in
    let d : drop (length pre + i) (pre ++ (p ++ post)) ≡ drop i p ++ post = drop-append-add pre (p ++ post) i
    ∙ drop-append-le i p post (omega arith) in
    let k : j - i ≤ length (drop i p) = omega (arith, length-drop i p) in
    ap (λ n. take n (drop (length pre + i) (pre ++ (p ++ post)))) e ∙ ap (take (j - i)) d
    ∙ take-append-le (j - i) (drop i p) post k

module _ (Law : Scope → Statement → List Symbol → Type 0) where
  range_moved : (pre p post all : List Symbol) → all ≡ pre ++ (p ++ post) → (n : ℕ) → n ≡ length pre
      → (r : Row) (k : Mark) → IsRange Law p r k → IsRange Law all r (moved_on n k)
  range_moved pre p post all e n l r k h =
      let a = h.in_order in
      let b = h.within in
      subst (λ z. IsRange Law z r (moved_on n k)) (sym e)
      (subst (λ n. IsRange Law (pre ++ (p ++ post)) r (moved_on n k)) (sym l) (record {
        place = h.place;
        in_order = omega arith;
        within = omega (arith, length-append pre (p ++ post), length-append p post);
        law = subst (Law r.scope r.statement) (sym (cells_moved pre p post k.first k.end a b)) h.law;
      }))

  -- no statements
  pub no_marks : (p : Code) → p.marks ≡ [] → MarksOf Law [] p
  no_marks p e = record {
    ranges = [];
    same = subst (λ z. IsPermutation z []) (sym e) (IsPermutation-refl []);
    each = tt;
    nested = tt;
  }

  -- one fragment in another
  pub marks_in : (rows : List Row) (inner p : Code) → HoldsCode inner p → MarksOf Law rows inner → MarksOf Law rows p
  marks_in rows inner p h m =
      let n = length h.before in
      record {
        ranges = shift n m.ranges;
        same = subst (λ z. IsPermutation z (shift n m.ranges)) (sym h.marks) (shift_same n inner.marks m.ranges m.same);
        each = each_moved (IsRange Law inner.cells) (IsRange Law p.cells) n
            (range_moved h.before inner.cells h.after p.cells h.cells n refl) rows m.ranges m.each;
        nested = nested_moved n rows m.ranges m.nested;
      }

  -- the ranges of a fragment lie in it
  ranges_between : (rows : List Row) (cells : List Symbol) (ranges : List Mark) (n : ℕ)
      → AllZip (IsRange Law cells) rows ranges → All (IsBetween n (n + length cells)) (shift n ranges)
  ranges_between rows cells ranges n h = all_moved (IsBetween 0 (length cells)) (IsBetween n (n + length cells)) n
      (λ k x. (let a = x.0 in omega arith, let a = x.1 in omega arith, let a = x.2 in omega arith)) ranges
      (each_all (IsRange Law cells) (IsBetween 0 (length cells))
      (λ r k x. (let a = x.in_order in omega arith, x.in_order, x.within)) rows ranges h)

  -- two fragments in another: the statements of the left one come first
  pub marks_left : (rows rows2 : List Row) (left right p : Code) → HoldsBoth left right p → MarksOf Law rows left
      → MarksOf Law rows2 right → MarksOf Law (rows ++ rows2) p
  marks_left rows rows2 left right p h m m2 =
      let n = length h.before in
      let n2 = length h.before + length left.cells + length h.mid in
      let e2 : p.cells ≡ (h.before ++ (left.cells ++ h.mid)) ++ (right.cells ++ h.after) = h.cells
      ∙ simp append_assoc in
      let l2 : n2 ≡ length (h.before ++ (left.cells ++ h.mid)) =
      omega (arith, length-append h.before (left.cells ++ h.mid), length-append left.cells h.mid) in
      record {
        ranges = shift n m.ranges ++ shift n2 m2.ranges;
        same = subst (λ z. IsPermutation z (shift n m.ranges ++ shift n2 m2.ranges)) (sym h.marks)
            (IsPermutation-append _ _ _ _ (shift_same n left.marks m.ranges m.same)
            (shift_same n2 right.marks m2.ranges m2.same));
        each =
            each_append (IsRange Law p.cells) rows (shift n m.ranges) rows2 (shift n2 m2.ranges)
            (each_moved (IsRange Law left.cells) (IsRange Law p.cells) n
            (range_moved h.before left.cells (h.mid ++ (right.cells ++ h.after)) p.cells h.cells n refl) rows
            m.ranges m.each)
            (each_moved (IsRange Law right.cells) (IsRange Law p.cells) n2
            (range_moved (h.before ++ (left.cells ++ h.mid)) right.cells h.after p.cells e2 n2 l2) rows2 m2.ranges
            m2.each);
        nested =
            nested_append rows (shift n m.ranges) rows2 (shift n2 m2.ranges) (nested_moved n rows m.ranges m.nested)
            (nested_moved n2 rows2 m2.ranges m2.nested)
            (apart_by n (n + length left.cells) n2 (n2 + length right.cells) (inl (omega arith)) (shift n m.ranges)
            (shift n2 m2.ranges) (ranges_between rows left.cells m.ranges n m.each)
            (ranges_between rows2 right.cells m2.ranges n2 m2.each));
      }

  -- those of the right one come first
  pub marks_right : (rows rows2 : List Row) (left right p : Code) → HoldsBoth left right p → MarksOf Law rows left
      → MarksOf Law rows2 right → MarksOf Law (rows2 ++ rows) p
  marks_right rows rows2 left right p h m m2 =
      let n = length h.before in
      let n2 = length h.before + length left.cells + length h.mid in
      let e2 : p.cells ≡ (h.before ++ (left.cells ++ h.mid)) ++ (right.cells ++ h.after) = h.cells
      ∙ simp append_assoc in
      let l2 : n2 ≡ length (h.before ++ (left.cells ++ h.mid)) =
      omega (arith, length-append h.before (left.cells ++ h.mid), length-append left.cells h.mid) in
      record {
        ranges = shift n2 m2.ranges ++ shift n m.ranges;
        same = subst (λ z. IsPermutation z (shift n2 m2.ranges ++ shift n m.ranges)) (sym h.marks)
            (both_same _ _ _ _ (shift_same n left.marks m.ranges m.same) (shift_same n2 right.marks m2.ranges m2.same));
        each =
            each_append (IsRange Law p.cells) rows2 (shift n2 m2.ranges) rows (shift n m.ranges)
            (each_moved (IsRange Law right.cells) (IsRange Law p.cells) n2
            (range_moved (h.before ++ (left.cells ++ h.mid)) right.cells h.after p.cells e2 n2 l2) rows2 m2.ranges
            m2.each)
            (each_moved (IsRange Law left.cells) (IsRange Law p.cells) n
            (range_moved h.before left.cells (h.mid ++ (right.cells ++ h.after)) p.cells h.cells n refl) rows
            m.ranges m.each);
        nested =
            nested_append rows2 (shift n2 m2.ranges) rows (shift n m.ranges) (nested_moved n2 rows2 m2.ranges m2.nested)
            (nested_moved n rows m.ranges m.nested)
            (apart_by n2 (n2 + length right.cells) n (n + length left.cells) (inr (omega arith)) (shift n2 m2.ranges)
            (shift n m.ranges) (ranges_between rows2 right.cells m2.ranges n2 m2.each)
            (ranges_between rows left.cells m.ranges n m.each));
      }

  -- one fragment after another
  pub marks_seq : (rows rows2 : List Row) (a b : Code) → MarksOf Law rows a → MarksOf Law rows2 b
      → MarksOf Law (rows ++ rows2) (seq_code a b)
  marks_seq rows rows2 a b m m2 = marks_left rows rows2 a b (seq_code a b) (both_seq a b) m m2

  -- the fragment of a statement, with its mark
  pub marks_whole : (s : Scope) (x : Statement) (rows : List Row) (p : Code) → Law s x p.cells → MarksOf Law rows p
      → MarksOf Law (row_before s x rows) (marked_code (statement_place x) p)
  marks_whole s x rows p law m =
      let k : Mark = record { first = 0; end = length p.cells; at = statement_place x } in
      record {
        ranges = k ∷ m.ranges;
        same = IsPermutation-trans (p.marks ++ k ∷ []) (k ∷ p.marks) (k ∷ m.ranges) (IsPermutation-to_front p.marks k)
            (IsPermutation-append_right (k ∷ []) p.marks m.ranges m.same);
        each = (
          record {
            place = refl;
            in_order = omega arith;
            within = omega arith;
            law = subst (Law s x) (sym (whole p.cells)) law;
          },
          m.each,
        );
        nested = nested_whole (record { scope = s; statement = x; inside = length rows }) k rows m.ranges
            (each_length (IsRange Law p.cells) rows m.ranges m.each)
            (each_all (IsRange Law p.cells) (LiesIn k) (λ r j y. (omega arith, y.within)) rows m.ranges m.each)
            m.nested;
      }
    where
      whole : (xs : List Symbol) → take (length xs - 0) (drop 0 xs) ≡ xs
      whole xs = let e : length xs - 0 ≡ length xs = omega arith in ap (λ n. take n xs) e
          ∙ take_all (length xs) xs (omega arith)

-- ---- cells that lie in marks

or_left : (a b : Bool) → a ≡ true → (a || b) ≡ true
or_left a b e = ap (λ z. z || b) e

or_right : (a b : Bool) → b ≡ true → (a || b) ≡ true
or_right false b e = e
or_right true b e = refl

pub marked_front : (ks js : List Mark) (i : ℕ) → is_marked ks i ≡ true → is_marked (ks ++ js) i ≡ true
marked_front ks js i h = list_any-append (holds_cell i) ks js ∙ or_left (is_marked ks i) (is_marked js i) h

pub marked_behind : (ks js : List Mark) (i : ℕ) → is_marked js i ≡ true → is_marked (ks ++ js) i ≡ true
marked_behind ks js i h = list_any-append (holds_cell i) ks js ∙ or_right (is_marked ks i) (is_marked js i) h

holds_by : (i : ℕ) (k : Mark) → k.first ≤ i → i < k.end → holds_cell i k ≡ true
holds_by i k a b = grind (arith, nat_tests)

holds_moved : (n i : ℕ) (k : Mark) → holds_cell (n + i) (moved_on n k) ≡ holds_cell i k
holds_moved n i k = grind (arith, nat_tests)

pub marked_moved : (n i : ℕ) (ks : List Mark) → is_marked (shift n ks) (n + i) ≡ is_marked ks i
marked_moved n i [] = refl
marked_moved n i (k ∷ ks) = ap (λ z. z || is_marked (shift n ks) (n + i)) (holds_moved n i k)
    ∙ ap (λ z. holds_cell i k || z) (marked_moved n i ks)

-- a fragment with a mark over all of it
pub covered_whole : (at : ℕ) (p : Code) → IsCovered (marked_code at p)
covered_whole at p i h =
    let k : Mark = record { first = 0; end = length p.cells; at = at } in
    marked_behind p.marks (k ∷ []) i (or_left (holds_cell i k) false (holds_by i k (omega arith) h))

-- no cells
pub covered_none : (p : Code) → p.cells ≡ [] → IsCovered p
covered_none p e i l = let f = ap length e in absurd (omega (arith, f))

pub covered_seq : (a b : Code) → IsCovered a → IsCovered b → IsCovered (seq_code a b)
covered_seq a b ha hb i l = ⊎_elim (λ k. marked_front a.marks (shift (length a.cells) b.marks) i (ha i k))
    (λ k. second k) (cases_lt i (length a.cells))
  where
    second : length a.cells ≤ i → is_marked (a.marks ++ shift (length a.cells) b.marks) i ≡ true
    second k =
        let e : length a.cells + (i - length a.cells) ≡ i = omega arith in
        let m : is_marked (shift (length a.cells) b.marks) (length a.cells + (i - length a.cells)) ≡ true =
        marked_moved (length a.cells) (i - length a.cells) b.marks
        ∙ hb (i - length a.cells) (omega (arith, l, length-append a.cells b.cells)) in
        marked_behind a.marks (shift (length a.cells) b.marks) i
        (subst (λ x. is_marked (shift (length a.cells) b.marks) x ≡ true) e m)
