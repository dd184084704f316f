-- The calls keep what each fragment keeps.
use Rattle.std.proofs.Common.{◌≡◌, ℕ, zero, suc, ◌+◌, ◌^◌, ◌<◌, ◌≤◌, List, [], ◌∷◌, ◌++◌, length, refl, sym}
use Rattle.std.proofs.Common.{ap, ◌∙◌, subst, arith, true, false, length-append, append_assoc, take, get_or}
use Rattle.std.specs.Prelude.{if◌then◌else◌}
use Rattle.code_conventions.specs.pisa_isa.declared.cell.Op.{Op}
use Rattle.code_conventions.specs.pisa_isa.declared.cell.Op.TheVariants.{Start, Finish}
use Rattle.code_conventions.specs.pisa_isa.declared.cell.Cell.{Cell}
use Rattle.code_conventions.specs.pisa_isa.Table.{IsCell, inverse_op}
use Rattle.code_conventions.proofs.pisa_isa_laws.Ranges.{imm_word}
use Rattle.code_conventions.proofs.pisa_isa_laws.Facing.{IsCell-inverse}
use Rattle.code_conventions.specs.Cells.{bra}
use Rattle.paired_code.specs.Cells.{bgtz, bltz}
use Rattle.paired_code.specs.declared.part.Symbol.{Symbol}
use Rattle.paired_code.specs.declared.part.Symbol.TheVariants.{Own, Enter, Fixed, Aim, Turn}
use Rattle.code_conventions.specs.pisa_isa.declared.notes.Mark.{Mark}
use Rattle.code_conventions.specs.pisa_isa.declared.notes.TheConstants.{LAST_PLACE}
use Rattle.paired_code.specs.Machine.{reversed, is_end_op, is_single}
use Rattle.paired_code.specs.Layout.{between, fork, branch_cells, loop_cells}
use Rattle.paired_code.specs.Layout.{mirror_cells, inverse_sym}
use Rattle.paired_code.specs.Fit.{IsInner, IsFit, AllSymbolsFit}
use Rattle.paired_code.specs.Code.{Code, AllWithin, moved_on, shift}
use Rattle.paired_code.proofs.Steps.{reversed_is, single_own}

pub fit_append : (p q : List Symbol) → AllSymbolsFit p → AllSymbolsFit q → AllSymbolsFit (p ++ q)
fit_append [] q h k = k
fit_append (c ∷ p) q h k = (h.0, fit_append p q h.1 k)

end_inverse : (op : Op) → is_end_op (inverse_op op) ≡ is_end_op op
end_inverse Start = refl
end_inverse Finish = refl
end_inverse _ = refl

inner_inverse : (c : Cell) → IsInner c → IsInner (reversed c)
inner_inverse c h = record {
  holds = subst IsCell (sym (reversed_is c (imm_word c h.holds.in_range))) (IsCell-inverse c h.holds);
  no_end = end_inverse c.op ∙ h.no_end;
}

fit_inverse : (c : Symbol) → IsFit c → IsFit (inverse_sym c)
fit_inverse (Own c) h = inner_inverse c h
fit_inverse (Enter r b) h = tt
fit_inverse (Fixed c) h = h
fit_inverse (Aim b) h = tt
fit_inverse (Turn k b o) h = tt

pub fit_mirror : (p : List Symbol) → AllSymbolsFit p → AllSymbolsFit (mirror_cells p)
fit_mirror [] h = tt
fit_mirror (c ∷ p) h = fit_append (mirror_cells p) (inverse_sym c ∷ []) (fit_mirror p h.1) (fit_inverse c h.0, tt)

pub inner_bra : (w : ℕ) → w < 2 ^ 32 → IsInner (bra w)
inner_bra w h = record {
  holds = record {
    in_range = record
        { a_in = omega arith; b_in = omega arith; c_in = omega arith; imm_in = h };
    one_to_one = refl;
  };
  no_end = refl;
}

inner_gt : (r w : ℕ) → r < 32 → w < 2 ^ 32 → IsInner (bgtz r w)
inner_gt r w h k = record {
  holds = record {
    in_range = record
        { a_in = h; b_in = omega arith; c_in = omega arith; imm_in = k };
    one_to_one = refl;
  };
  no_end = refl;
}

inner_lt : (r w : ℕ) → r < 32 → w < 2 ^ 32 → IsInner (bltz r w)
inner_lt r w h k = record {
  holds = record {
    in_range = record
        { a_in = h; b_in = omega arith; c_in = omega arith; imm_in = k };
    one_to_one = refl;
  };
  no_end = refl;
}

pub inner_single : (c : Cell) → is_single c ≡ true → IsCell c → IsInner c
inner_single c s h = record { holds = h; no_end = single_own c s }

pub word_between : (x y : ℕ) → between x y < 2 ^ 32
word_between x y = omega arith

pub fit_fork : (r x y : ℕ) (p : List Symbol) → r < 32 → AllSymbolsFit p → AllSymbolsFit (fork r (between x y) p)
fit_fork r x y p h k = (
  inner_gt r (between x y) h (word_between x y),
  (inner_lt r (between x y) h (word_between x y), k),
)

pub fit_branch : (r : ℕ) (p q : List Symbol) → r < 32 → AllSymbolsFit p → AllSymbolsFit q
    → AllSymbolsFit (branch_cells r p q)
fit_branch r p q h hp hq =
    let last = fork r (between 0 3) (Own (bra (between (5 + length p) 0)) ∷ fork r (between 3 0) []) in
    let most = Own (bra (between 0 (5 + length p))) ∷ fork r (between (3 + length q) 0) (p ++ last) in
    let k2 : AllSymbolsFit last = fit_fork r 0 3 (Own (bra (between (5 + length p) 0)) ∷ fork r (between 3 0) []) h
    (inner_bra (between (5 + length p) 0) (word_between (5 + length p) 0), fit_fork r 3 0 [] h tt) in
    let k1 : AllSymbolsFit most = (
      inner_bra (between 0 (5 + length p)) (word_between 0 (5 + length p)),
      fit_fork r (3 + length q) 0 (p ++ last) h (fit_append p last hp k2),
    ) in
    fit_fork r 0 (3 + length q) (q ++ most) h (fit_append q most hq k1)

pub fit_loop : (r : ℕ) (p q : List Symbol) → r < 32 → AllSymbolsFit p → AllSymbolsFit q
    → AllSymbolsFit (loop_cells r p q)
fit_loop r p q h hp hq =
    let n = 5 + length q + length p in
    let last = fork r (between 0 3) (Own (bra (between n 0)) ∷ fork r (between 3 0) []) in
    let most = fork r (between (3 + length q) 0) (p ++ last) in
    let k2 : AllSymbolsFit last = fit_fork r 0 3 (Own (bra (between n 0)) ∷ fork r (between 3 0) []) h
    (inner_bra (between n 0) (word_between n 0), fit_fork r 3 0 [] h tt) in
    let k1 : AllSymbolsFit most = fit_fork r (3 + length q) 0 (p ++ last) h (fit_append p last hp k2) in
    fit_fork r 0 (3 + length q) (Own (bra (between 0 n)) ∷ (q ++ most)) h
    (inner_bra (between 0 n) (word_between 0 n), fit_append q most hq k1)

-- ---- marks

pub within_append : (n : ℕ) (a b : List Mark) → AllWithin n a → AllWithin n b → AllWithin n (a ++ b)
within_append n [] b h k = k
within_append n (x ∷ a) b h k = (h.0, h.1, within_append n a b h.2 k)

pub within_more : (n n' : ℕ) (a : List Mark) → n ≤ n' → AllWithin n a → AllWithin n' a
within_more n n' [] l h = tt
within_more n n' (x ∷ a) l h = (h.0, ((let e = h.1.0 in omega arith), h.1.1), within_more n n' a l h.2)

pub within_shift : (n k : ℕ) (a : List Mark) → AllWithin n a → AllWithin (k + n) (shift k a)
within_shift n k [] h = tt
within_shift n k (x ∷ a) h = (
  (let e = h.0 in omega arith),
  ((let e = h.1.0 in omega arith), h.1.1),
  within_shift n k a h.2,
)

pub moved : (a n m : ℕ) (ks : List Mark) → a + n ≤ m → AllWithin n ks → AllWithin m (shift a ks)
moved a n m ks l h = within_more (a + n) m (shift a ks) l (within_shift n a ks h)

pub within_seq : (p q : List Symbol) (a b : List Mark) → AllWithin (length p) a → AllWithin (length q) b
    → AllWithin (length (p ++ q)) (a ++ shift (length p) b)
within_seq p q a b h k =
    within_append (length (p ++ q)) a (shift (length p) b)
    (within_more (length p) _ a (omega (arith, length-append p q)) h)
    (within_more (length p + length q) _ (shift (length p) b) (omega (arith, length-append p q))
    (within_shift (length q) (length p) b k))

pub within_two : (n i j k l : ℕ) (a b : List Mark) → i + k ≤ n → j + l ≤ n → AllWithin k a → AllWithin l b
    → AllWithin n (shift i a ++ shift j b)
within_two n i j k l a b h g ha hb = within_append n (shift i a) (shift j b)
    (within_more (i + k) n _ h (within_shift k i a ha)) (within_more (j + l) n _ g (within_shift l j b hb))

-- ---- what loops over marks do

shifted_at : (n k : ℕ) (xs : List Mark) (i : ℕ) (d : Mark) → AllWithin n (shift k xs) → i < length xs
    → (k + (get_or xs i d).first ≤ k + (get_or xs i d).end) × (k + (get_or xs i d).end ≤ n)
shifted_at n k [] i d h l = absurd (omega arith)
shifted_at n k (x ∷ xs) zero d h l = (h.0, h.1.0)
shifted_at n k (x ∷ xs) (suc i) d h l = shifted_at n k xs i d h.2 (omega arith)

-- the mark that comes next has space
pub room_first : (n k : ℕ) (xs : List Mark) (i : ℕ) (x : Mark) → AllWithin n (shift k xs) → i < length xs
    → x ≡ get_or xs i x → k + x.first ≤ n
room_first n k xs i x h l e =
    let r = shifted_at n k xs i x h l in
    let m : k + (get_or xs i x).first ≤ n = omega arith in
    subst (λ (z : Mark). k + z.first ≤ n) (sym e) m

pub room_end : (n k : ℕ) (xs : List Mark) (i : ℕ) (x : Mark) → AllWithin n (shift k xs) → i < length xs
    → x ≡ get_or xs i x → k + x.end ≤ n
room_end n k xs i x h l e = subst (λ (z : Mark). k + z.end ≤ n) (sym e) (shifted_at n k xs i x h l).1

shift_suc : (k : ℕ) (xs : List Mark) (i : ℕ) (d : Mark) → i < length xs
    → shift k (take (suc i) xs) ≡ shift k (take i xs) ++ moved_on k (get_or xs i d) ∷ []
shift_suc k [] i d l = absurd (omega arith)
shift_suc k (x ∷ xs) zero d l = refl
shift_suc k (x ∷ xs) (suc i) d l = let m : i < length xs = omega arith in
    ap (λ z. moved_on k x ∷ z) (shift_suc k xs i d m)

pub shift_take : (k : ℕ) (xs : List Mark) (i : ℕ) (d : Mark) → i < length xs
    → shift k (take (i + 1) xs) ≡ shift k (take i xs) ++ moved_on k (get_or xs i d) ∷ []
shift_take k xs i d l = let e : i + 1 ≡ suc i = omega arith in ap (λ n. shift k (take n xs)) e ∙ shift_suc k xs i d l

pub code_is : (a a' : List Symbol) (b b' : List Mark) → a ≡ a' → b ≡ b'
    → (let x : Code = record { cells = a; marks = b } in x) ≡ record { cells = a'; marks = b' }
code_is a a' b b' p q = ap (λ (z : List Symbol). let x : Code = record { cells = z; marks = b } in x) p
    ∙ ap (λ (z : List Mark). let x : Code = record { cells = a'; marks = z } in x) q

marks_step : (new now old rest later : List Mark) (x : Mark) → new ≡ now ++ x ∷ [] → now ≡ old ++ rest
    → later ≡ rest ++ x ∷ [] → new ≡ old ++ later
marks_step new now old rest later x p q r = p ∙ ap (λ z. z ++ x ∷ []) q ∙ append_assoc old rest (x ∷ [])
    ∙ ap (λ z. old ++ z) (sym r)

-- one mark more is moved on
pub marks_on : (k : ℕ) (xs : List Mark) (i : ℕ) (x y : Mark) (new now old : List Mark) → new ≡ now ++ y ∷ []
    → y ≡ moved_on k x → x ≡ get_or xs i x → i < length xs → now ≡ old ++ shift k (take i xs)
    → new ≡ old ++ shift k (take (i + 1) xs)
marks_on k xs i x y new now old p m e l q =
    marks_step new now old (shift k (take i xs)) (shift k (take (i + 1) xs)) y p q
    (shift_take k xs i x l
    ∙ ap (λ (z : Mark). shift k (take i xs) ++ moved_on k z ∷ []) (sym e)
    ∙ ap (λ (z : Mark). shift k (take i xs) ++ z ∷ []) (sym m))

-- marks have space if those from which they are made have it
pub room_at : (n j j' : ℕ) (b b' : List Mark) → j' ≡ j → b' ≡ b → AllWithin n (shift j b) → AllWithin n (shift j' b')
room_at n j j' b b' e f h = subst (λ z. AllWithin n (shift z b')) (sym e)
    (subst (λ (z : List Mark). AllWithin n (shift j z)) (sym f) h)

pub seq_room : (m : ℕ) (p q all : List Symbol) (b b' : List Mark) (n : ℕ) → all ≡ p ++ q → length all ≤ m → n ≡ length p
    → b' ≡ b → AllWithin (length q) b → AllWithin m (shift n b')
seq_room m p q all b b' n e l j k h =
    let g : length all ≡ length p + length q = ap length e ∙ length-append p q in
    room_at m (length p) n b b' j k (moved (length p) (length q) m b (omega arith) h)

pub marked_within : (cells : List Symbol) (a marks : List Mark) (k : Mark) (n at : ℕ) → marks ≡ a ++ k ∷ []
    → k ≡ record { first = 0; end = n; at = at } → n ≡ length cells → at ≤ LAST_PLACE → AllWithin (length cells) a
    → AllWithin (length cells) marks
marked_within cells a marks k n at e m j l h =
    let one : AllWithin (length cells) (record { first = 0; end = n; at = at } ∷ []) =
    (omega arith, (omega arith, l), tt) in
    subst (λ (z : List Mark). AllWithin (length cells) z) (sym e) (within_append (length cells) a (k ∷ []) h
    (subst (λ (z : Mark). AllWithin (length cells) (z ∷ [])) (sym m) one))

pub seq_within : (p q all : List Symbol) (a b b' marks : List Mark) (n : ℕ) → all ≡ p ++ q → marks ≡ a ++ shift n b'
    → n ≡ length p → b' ≡ b → AllWithin (length p) a → AllWithin (length q) b → AllWithin (length all) marks
seq_within p q all a b b' marks n e m j k ha hb =
    let m' : marks ≡ a ++ shift (length p) b = m ∙ ap (λ z. a ++ shift z b') j ∙ ap (λ z. a ++ shift (length p) z) k in
    subst (λ z. AllWithin (length z) marks) (sym e) (subst (λ z. AllWithin (length (p ++ q)) z) (sym m')
    (within_seq p q a b ha hb))

pub two_marks : (i j j' : ℕ) (m0 m1 m2 a a' b b' : List Mark) → m0 ≡ [] → m1 ≡ m0 ++ shift i a' → a' ≡ a
    → m2 ≡ m1 ++ shift j b' → b' ≡ b → j ≡ j' → m2 ≡ shift i a ++ shift j' b
two_marks i j j' m0 m1 m2 a a' b b' e0 e1 ea e2 eb ej =
    e2 ∙ ap (λ z. z ++ shift j b') (e1 ∙ ap (λ z. z ++ shift i a') e0 ∙ ap (shift i) ea)
    ∙ ap (λ z. shift i a ++ shift j z) eb ∙ ap (λ z. shift i a ++ shift z b) ej

length_branch : (r : ℕ) (p q : List Symbol) → length (branch_cells r p q) ≡ 10 + length p + length q
length_branch r p q = simp length-append (omega arith)

length_loop : (r : ℕ) (p q : List Symbol) → length (loop_cells r p q) ≡ 10 + length p + length q
length_loop r p q = simp length-append (omega arith)

pub branch_within : (r : ℕ) (p q all : List Symbol) (a b marks : List Mark) → all ≡ branch_cells r p q
    → marks ≡ shift 2 b ++ shift (5 + length q) a → AllWithin (length p) a → AllWithin (length q) b
    → AllWithin (length all) marks
branch_within r p q all a b marks e m ha hb =
    let n = length_branch r p q in
    subst (λ z. AllWithin (length z) marks) (sym e) (subst (λ z. AllWithin (length (branch_cells r p q)) z) (sym m)
    (within_two (length (branch_cells r p q)) 2 (5 + length q) (length q) (length p) b a (omega arith)
    (omega arith) hb ha))

pub loop_within : (r : ℕ) (p q all : List Symbol) (a b marks : List Mark) → all ≡ loop_cells r p q
    → marks ≡ shift 3 b ++ shift (5 + length q) a → AllWithin (length p) a → AllWithin (length q) b
    → AllWithin (length all) marks
loop_within r p q all a b marks e m ha hb =
    let n = length_loop r p q in
    subst (λ z. AllWithin (length z) marks) (sym e) (subst (λ z. AllWithin (length (loop_cells r p q)) z) (sym m)
    (within_two (length (loop_cells r p q)) 3 (5 + length q) (length q) (length p) b a (omega arith) (omega arith)
    hb ha))

pub loop_built : (r n s x x' y y' z : ℕ) (p q c0 c1 c2 c3 c4 c5 c6 c7 c8 : List Symbol) → n ≡ length q → s ≡ length p
    → x ≡ between 0 (3 + n) → x' ≡ between (3 + n) 0 → y ≡ between 0 (5 + n + s) → y' ≡ between (5 + n + s) 0
    → z ≡ between 3 0 → c0 ≡ [] → c1 ≡ c0 ++ fork r x [] → c2 ≡ c1 ++ Own (bra y) ∷ [] → c3 ≡ c2 ++ q
    → c4 ≡ c3 ++ fork r x' [] → c5 ≡ c4 ++ p → c6 ≡ c5 ++ fork r 3 [] → c7 ≡ c6 ++ Own (bra y') ∷ []
    → c8 ≡ c7 ++ fork r z [] → c8 ≡ loop_cells r p q
loop_built r n s x x' y y' z p q c0 c1 c2 c3 c4 c5 c6 c7 c8 en es ex ex' ey ey' ez e0 e1 e2 e3 e4 e5 e6 e7 e8 =
    let a : x ≡ between 0 (3 + length q) = ex ∙ ap (λ k. between 0 (3 + k)) en in
    let a' : x' ≡ between (3 + length q) 0 = ex' ∙ ap (λ k. between (3 + k) 0) en in
    let b : y ≡ between 0 (5 + length q + length p) = ey ∙ ap (λ k. between 0 (5 + k + s)) en
    ∙ ap (λ k. between 0 (5 + length q + k)) es in
    let b' : y' ≡ between (5 + length q + length p) 0 = ey' ∙ ap (λ k. between (5 + k + s) 0) en
    ∙ ap (λ k. between (5 + length q + k) 0) es in
    let all : c8 ≡ (((((((fork r (between 0 (3 + length q)) []) ++ Own (bra (between 0 (5 + length q + length p))) ∷ [])
    ++ q) ++ fork r (between (3 + length q) 0) []) ++ p) ++ fork r (between 0 3) [])
    ++ Own (bra (between (5 + length q + length p) 0)) ∷ []) ++ fork r (between 3 0) [] = cc in
    all ∙ simp append_assoc

-- there is space for the marks if there is space for the cells
pub branch_room : (r n : ℕ) (p q all : List Symbol) (a b : List Mark) → all ≡ branch_cells r p q → length all ≤ n
    → AllWithin (length p) a → AllWithin (length q) b → AllWithin n (shift 2 b) × AllWithin n (shift (5 + length q) a)
branch_room r n p q all a b e l ha hb =
    let k = length_branch r p q in
    let g = ap length e in (
      moved 2 (length q) n b (omega arith) hb,
      moved (5 + length q) (length p) n a (omega arith) ha,
    )

pub loop_room : (r n : ℕ) (p q all : List Symbol) (a b : List Mark) → all ≡ loop_cells r p q → length all ≤ n
    → AllWithin (length p) a → AllWithin (length q) b → AllWithin n (shift 3 b) × AllWithin n (shift (5 + length q) a)
loop_room r n p q all a b e l ha hb =
    let k = length_loop r p q in
    let g = ap length e in (
      moved 3 (length q) n b (omega arith) hb,
      moved (5 + length q) (length p) n a (omega arith) ha,
    )
