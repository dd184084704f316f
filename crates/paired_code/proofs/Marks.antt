-- Marks stay on their cells.
use Rattle.std.proofs.Common.{◌≡◌, ℕ, ◌+◌, ◌-◌, ◌≤◌, List, [], ◌∷◌, ◌++◌, length, refl, sym, ap, ◌∙◌, subst, arith}
use Rattle.std.proofs.Common.{length-append, append_assoc, append-nil, take, drop, length-drop}
use Rattle.std.proofs.Math.Seq.{drop-append-add}
use Rattle.std.proofs.lemmas.List.{drop-append-le, take-append-le, take_all}
use Rattle.code_conventions.specs.Cells.{bra}
use Rattle.paired_code.specs.declared.part.Symbol.{Symbol}
use Rattle.paired_code.specs.declared.part.Symbol.TheVariants.{Own}
use Rattle.code_conventions.specs.pisa_isa.declared.notes.Mark.{Mark}
use Rattle.paired_code.specs.Layout.{between, fork, branch_cells, loop_cells}
use Rattle.paired_code.specs.Code.{Code, KeptCode, AllWithin, shift, seq_code, branch_code, loop_code, marked_code, Marked}
use Rattle.paired_code.specs.Code.{marked_parts, parts}

module _ (pre p post : List Symbol) where
  covered_moved : (i j : ℕ) → i ≤ j → j ≤ length p → take ((length pre + j) - (length pre + i))
      (drop (length pre + i) (pre ++ (p ++ post))) ≡ take (j - i) (drop i p)
  covered_moved i j h l =
      let e : (length pre + j) - (length pre + i) ≡ j - i = omega arith in
      let d : drop (length pre + i) (pre ++ (p ++ post)) ≡ drop i p ++ post = drop-append-add pre (p ++ post) i
      ∙ drop-append-le i p post (omega arith) in
      let k : j - i ≤ length (drop i p) = omega (arith, length-drop i p) in
      ap (λ n. take n (drop (length pre + i) (pre ++ (p ++ post)))) e ∙ ap (take (j - i)) d
      ∙ take-append-le (j - i) (drop i p) post k

  pub parts_moved : (ks : List Mark) → AllWithin (length p) ks
      → marked_parts (pre ++ (p ++ post)) (shift (length pre) ks) ≡ marked_parts p ks
  parts_moved [] h = refl
  parts_moved (k ∷ ks) h =
      ap (λ (z : List Symbol). let x : Marked = record { at = k.at; cells = z } in
      x ∷ marked_parts (pre ++ (p ++ post)) (shift (length pre) ks)) (covered_moved k.first k.end h.0 h.1.0)
      ∙ ap (λ (z : List Marked). let x : Marked = record { at = k.at; cells = take (k.end - k.first) (drop k.first p) }
      in x ∷ z) (parts_moved ks h.2)

parts_at : (all pre p post : List Symbol) (n : ℕ) (ks : List Mark) → all ≡ pre ++ (p ++ post) → length pre ≡ n
    → AllWithin (length p) ks → marked_parts all (shift n ks) ≡ marked_parts p ks
parts_at all pre p post n ks e l h = ap (λ z. marked_parts z (shift n ks)) e
    ∙ ap (λ m. marked_parts (pre ++ (p ++ post)) (shift m ks)) (sym l) ∙ parts_moved pre p post ks h

parts_append : (cells : List Symbol) (a b : List Mark)
    → marked_parts cells (a ++ b) ≡ marked_parts cells a ++ marked_parts cells b
parts_append cells [] b = refl
parts_append cells (k ∷ a) b = ap (λ (z : List Marked). let x : Marked = record
    { at = k.at; cells = take (k.end - k.first) (drop k.first cells) } in x ∷ z) (parts_append cells a b)

parts_front : (p q : List Symbol) (ks : List Mark) → AllWithin (length p) ks
    → marked_parts (p ++ q) ks ≡ marked_parts p ks
parts_front p q [] h = refl
parts_front p q (k ∷ ks) h =
    let a = h.0 in
    let b = h.1.0 in
    let l : k.end - k.first ≤ length (drop k.first p) = omega (arith, length-drop k.first p) in
    let d : drop k.first (p ++ q) ≡ drop k.first p ++ q = drop-append-le k.first p q (omega arith) in
    ap (λ (z : List Symbol). let x : Marked = record { at = k.at; cells = z } in x ∷ marked_parts (p ++ q) ks)
    (ap (take (k.end - k.first)) d ∙ take-append-le (k.end - k.first) (drop k.first p) q l)
    ∙ ap (λ (z : List Marked). let x : Marked = record { at = k.at; cells = take (k.end - k.first) (drop k.first p) } in
    x ∷ z) (parts_front p q ks h.2)

pub seq_parts : (a b : Code) → AllWithin (length a.cells) a.marks → AllWithin (length b.cells) b.marks
    → parts (seq_code a b) ≡ parts a ++ parts b
seq_parts a b ha hb =
    let flat : a.cells ++ b.cells ≡ a.cells ++ (b.cells ++ []) = ap (λ z. a.cells ++ z) (sym (append-nil b.cells)) in
    parts_append (a.cells ++ b.cells) a.marks (shift (length a.cells) b.marks)
    ∙ ap (λ z. z ++ marked_parts (a.cells ++ b.cells) (shift (length a.cells) b.marks))
    (parts_front a.cells b.cells a.marks ha)
    ∙ ap (λ z. parts a ++ z) (parts_at (a.cells ++ b.cells) a.cells b.cells [] (length a.cells) b.marks flat refl hb)

pub branch_parts : (r : ℕ) (p q : Code) → AllWithin (length p.cells) p.marks → AllWithin (length q.cells) q.marks
    → parts (branch_code r p q) ≡ parts q ++ parts p
branch_parts r p q hp hq =
    let all = branch_cells r p.cells q.cells in
    let start = fork r (between 0 (3 + length q.cells)) [] in
    let last = fork r (between 0 3) (Own (bra (between (5 + length p.cells) 0)) ∷ fork r (between 3 0) []) in
    let mid = Own (bra (between 0 (5 + length p.cells))) ∷ fork r (between (3 + length q.cells) 0) [] in
    let e1 : all ≡ start ++ (q.cells ++ (mid ++ (p.cells ++ last))) = refl in
    let e2 : all ≡ (start ++ (q.cells ++ mid)) ++ (p.cells ++ last) = simp append_assoc in
    let n2 : length (start ++ (q.cells ++ mid)) ≡ 5 + length q.cells = simp length-append (omega arith) in
    parts_append all (shift 2 q.marks) (shift (5 + length q.cells) p.marks)
    ∙ ap (λ z. z ++ marked_parts all (shift (5 + length q.cells) p.marks))
    (parts_at all start q.cells (mid ++ (p.cells ++ last)) 2 q.marks e1 refl hq)
    ∙ ap (λ z. parts q ++ z) (parts_at all (start ++ (q.cells ++ mid)) p.cells last (5 + length q.cells) p.marks e2 n2
    hp)

pub loop_parts : (r : ℕ) (p q : Code) → AllWithin (length p.cells) p.marks → AllWithin (length q.cells) q.marks
    → parts (loop_code r p q) ≡ parts q ++ parts p
loop_parts r p q hp hq =
    let all = loop_cells r p.cells q.cells in
    let start = fork r (between 0 (3 + length q.cells)) (Own (bra (between 0 (5 + length q.cells + length p.cells)))
    ∷ []) in
    let last = fork r (between 0 3) (Own (bra (between (5 + length q.cells + length p.cells) 0))
    ∷ fork r (between 3 0) []) in
    let mid = fork r (between (3 + length q.cells) 0) [] in
    let e1 : all ≡ start ++ (q.cells ++ (mid ++ (p.cells ++ last))) = refl in
    let e2 : all ≡ (start ++ (q.cells ++ mid)) ++ (p.cells ++ last) = simp append_assoc in
    let n2 : length (start ++ (q.cells ++ mid)) ≡ 5 + length q.cells = simp length-append (omega arith) in
    parts_append all (shift 3 q.marks) (shift (5 + length q.cells) p.marks)
    ∙ ap (λ z. z ++ marked_parts all (shift (5 + length q.cells) p.marks))
    (parts_at all start q.cells (mid ++ (p.cells ++ last)) 3 q.marks e1 refl hq)
    ∙ ap (λ z. parts q ++ z) (parts_at all (start ++ (q.cells ++ mid)) p.cells last (5 + length q.cells) p.marks e2 n2
    hp)

pub marked_all : (at : ℕ) (p : Code) → parts (marked_code at p) ≡ parts p ++ record { at = at; cells = p.cells } ∷ []
marked_all at p =
    parts_append p.cells p.marks (record { first = 0; end = length p.cells; at = at } ∷ [])
    ∙ ap (λ (z : List Symbol). let x : Marked = record { at = at; cells = z } in parts p ++ x ∷ []) (whole p.cells)
  where
    whole : (xs : List Symbol) → take (length xs - 0) (drop 0 xs) ≡ xs
    whole xs = let e : length xs - 0 ≡ length xs = omega arith in ap (λ n. take n xs) e
        ∙ take_all (length xs) xs (omega arith)

pub kept_view : {cells : List Symbol} {marks : List Mark} (view : Code)
    → (let x : Code = record { cells = cells; marks = marks } in x) ≡ view → KeptCode cells marks
    → AllWithin (length view.cells) view.marks
kept_view view e h = subst (λ (z : Code). AllWithin (length z.cells) z.marks) e h.within
