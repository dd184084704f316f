-- Which fragments hold which, for the calls of paired_code.
use Rattle.std.proofs.Common.{◌≡◌, ℕ, ◌+◌, List, [], ◌∷◌, ◌++◌, length, refl, sym, ap, ◌∙◌, arith, length-append}
use Rattle.std.proofs.Common.{append_assoc, append-nil}
use Rattle.refine_frame.specs.code_conventions.Cells.{bra}
use Rattle.paired_code.specs.declared.part.Symbol.TheVariants.{Own}
use Rattle.refine_frame.specs.pisa_isa.declared.notes.Mark.{Mark}
use Rattle.paired_code.specs.Layout.{between, fork}
use Rattle.paired_code.specs.Code.{Code, moved_on, shift, seq_code, branch_code, loop_code}
use Rattle.refine_form.specs.Held.{HoldsCode, HoldsBoth}

abbrev mark : ℕ → ℕ → ℕ → Mark
mark a b at = record { first = a; end = b; at = at }

pub shift_append : (n : ℕ) (xs ys : List Mark) → shift n (xs ++ ys) ≡ shift n xs ++ shift n ys
shift_append n [] ys = refl
shift_append n (k ∷ xs) ys = ap (λ z. moved_on n k ∷ z) (shift_append n xs ys)

pub shift_zero : (ks : List Mark) → shift 0 ks ≡ ks
shift_zero [] = refl
shift_zero (k ∷ ks) =
    let a : 0 + k.first ≡ k.first = omega arith in
    let b : 0 + k.end ≡ k.end = omega arith in
    ap (λ x. mark x (0 + k.end) k.at ∷ shift 0 ks) a ∙ ap (λ x. mark k.first x k.at ∷ shift 0 ks) b
    ∙ ap (λ z. k ∷ z) (shift_zero ks)

pub shift_shift : (n m : ℕ) (ks : List Mark) → shift n (shift m ks) ≡ shift (n + m) ks
shift_shift n m [] = refl
shift_shift n m (k ∷ ks) =
    let a : n + (m + k.first) ≡ n + m + k.first = omega arith in
    let b : n + (m + k.end) ≡ n + m + k.end = omega arith in
    ap (λ x. mark x (n + (m + k.end)) k.at ∷ shift n (shift m ks)) a
    ∙ ap (λ x. mark (n + m + k.first) x k.at ∷ shift n (shift m ks)) b
    ∙ ap (λ z. moved_on (n + m) k ∷ z) (shift_shift n m ks)

pub holds_itself : (a : Code) → HoldsCode a a
holds_itself a = record { before = []; after = []; cells = sym (append-nil a.cells); marks = sym (shift_zero a.marks) }

pub holds_in : (a b c : Code) → HoldsCode a b → HoldsCode b c → HoldsCode a c
holds_in a b c h h2 = record {
  before = h2.before ++ h.before;
  after = h.after ++ h2.after;
  cells = h2.cells ∙ ap (λ z. h2.before ++ (z ++ h2.after)) h.cells ∙ simp append_assoc;
  marks = h2.marks ∙ ap (shift (length h2.before)) h.marks ∙ shift_shift (length h2.before) (length h.before) a.marks
      ∙ ap (λ n. shift n a.marks) (sym (length-append h2.before h.before));
}

pub holds_left : (a b : Code) → b.marks ≡ [] → HoldsCode a (seq_code a b)
holds_left a b e = record {
  before = [];
  after = b.cells;
  cells = refl;
  marks = ap (λ z. a.marks ++ shift (length a.cells) z) e ∙ append-nil a.marks ∙ sym (shift_zero a.marks);
}

pub holds_right : (a b : Code) → a.marks ≡ [] → HoldsCode b (seq_code a b)
holds_right a b e = record {
  before = a.cells;
  after = [];
  cells = ap (λ z. a.cells ++ z) (sym (append-nil b.cells));
  marks = ap (λ z. z ++ shift (length a.cells) b.marks) e;
}

pub both_seq : (a b : Code) → HoldsBoth a b (seq_code a b)
both_seq a b =
    let e : length a.cells ≡ 0 + length a.cells + 0 = omega arith in
    record {
      before = [];
      mid = [];
      after = [];
      cells = ap (λ z. a.cells ++ z) (sym (append-nil b.cells));
      marks = ap (λ z. z ++ shift (length a.cells) b.marks) (sym (shift_zero a.marks))
          ∙ ap (λ n. shift 0 a.marks ++ shift n b.marks) e;
    }

-- the part that is run if the flag is 0 comes first
pub both_branch : (r : ℕ) (p q : Code) → HoldsBoth q p (branch_code r p q)
both_branch r p q =
    let e : 5 + length q.cells ≡ 2 + length q.cells + 3 = omega arith in
    record {
      before = fork r (between 0 (3 + length q.cells)) [];
      mid = Own (bra (between 0 (5 + length p.cells))) ∷ fork r (between (3 + length q.cells) 0) [];
      after = fork r (between 0 3) (Own (bra (between (5 + length p.cells) 0)) ∷ fork r (between 3 0) []);
      cells = refl;
      marks = ap (λ n. shift 2 q.marks ++ shift n p.marks) e;
    }

-- the second block of a loop comes first
pub both_loop : (r : ℕ) (head tail : Code) → HoldsBoth tail head (loop_code r head tail)
both_loop r head tail =
    let e : 5 + length tail.cells ≡ 3 + length tail.cells + 2 = omega arith in
    record {
      before = fork r (between 0 (3 + length tail.cells)) (Own
          (bra (between 0 (5 + length tail.cells + length head.cells))) ∷ []);
      mid = fork r (between (3 + length tail.cells) 0) [];
      after = fork r (between 0 3) (Own (bra (between (5 + length tail.cells + length head.cells) 0))
          ∷ fork r (between 3 0) []);
      cells = refl;
      marks = ap (λ n. shift 3 tail.marks ++ shift n head.marks) e;
    }

-- what holds a fragment that holds two
pub both_in : (a b c d : Code) → HoldsBoth a b c → HoldsCode c d → HoldsBoth a b d
both_in a b c d h h2 =
    let n = length h2.before in
    let e : n + (length h.before + length a.cells + length h.mid)
    ≡ length (h2.before ++ h.before) + length a.cells + length h.mid =
    omega (arith, length-append h2.before h.before) in
    record {
      before = h2.before ++ h.before;
      mid = h.mid;
      after = h.after ++ h2.after;
      cells = h2.cells ∙ ap (λ z. h2.before ++ (z ++ h2.after)) h.cells ∙ simp append_assoc;
      marks =
          h2.marks ∙ ap (shift n) h.marks ∙ shift_append n (shift (length h.before) a.marks)
          (shift (length h.before + length a.cells + length h.mid) b.marks)
          ∙ ap (λ z. z ++ shift n (shift (length h.before + length a.cells + length h.mid) b.marks))
          (shift_shift n (length h.before) a.marks)
          ∙ ap (λ z. shift (n + length h.before) a.marks ++ z)
          (shift_shift n (length h.before + length a.cells + length h.mid) b.marks)
          ∙ ap (λ k. shift k a.marks ++ shift (n + (length h.before + length a.cells + length h.mid)) b.marks)
          (sym (length-append h2.before h.before))
          ∙ ap (λ k. shift (length (h2.before ++ h.before)) a.marks ++ shift k b.marks) e;
    }

-- what two fragments hold that are held
pub both_of : (a a' b b' c : Code) → HoldsCode a a' → HoldsCode b b' → HoldsBoth a' b' c → HoldsBoth a b c
both_of a a' b b' c ha hb h =
    let n = length h.before in
    let n2 = length h.before + length a'.cells + length h.mid in
    let la : length a'.cells ≡ length ha.before + (length a.cells + length ha.after) = ap length ha.cells
    ∙ length-append ha.before (a.cells ++ ha.after) ∙ ap (λ z. length ha.before + z)
    (length-append a.cells ha.after) in
    let e : n2 + length hb.before ≡ length (h.before ++ ha.before) + length a.cells + length
    (ha.after ++ (h.mid ++ hb.before)) = omega (
      arith,
      la,
      length-append h.before ha.before,
      length-append ha.after (h.mid ++ hb.before),
      length-append h.mid hb.before,
    ) in
    record {
      before = h.before ++ ha.before;
      mid = ha.after ++ (h.mid ++ hb.before);
      after = hb.after ++ h.after;
      cells = h.cells ∙ ap (λ z. h.before ++ (z ++ (h.mid ++ (b'.cells ++ h.after)))) ha.cells
          ∙ ap (λ z. h.before ++ ((ha.before ++ (a.cells ++ ha.after)) ++ (h.mid ++ (z ++ h.after)))) hb.cells
          ∙ simp append_assoc;
      marks =
          h.marks ∙ ap (λ z. shift n z ++ shift n2 b'.marks) ha.marks
          ∙ ap (λ z. shift n (shift (length ha.before) a.marks) ++ shift n2 z) hb.marks
          ∙ ap (λ z. z ++ shift n2 (shift (length hb.before) b.marks)) (shift_shift n (length ha.before) a.marks)
          ∙ ap (λ z. shift (n + length ha.before) a.marks ++ z) (shift_shift n2 (length hb.before) b.marks)
          ∙ ap (λ k. shift k a.marks ++ shift (n2 + length hb.before) b.marks) (sym (length-append h.before ha.before))
          ∙ ap (λ k. shift (length (h.before ++ ha.before)) a.marks ++ shift k b.marks) e;
    }

-- ---- as contracts of code calls say it

-- one after another without marks, and one before
pub behind_clause : (a b c : Code) → a.marks ≡ [] → HoldsCode c b → HoldsCode c (seq_code a b)
behind_clause a b c e h = holds_in c b (seq_code a b) h (holds_right a b e)

pub around_clause : (a b c : Code) → a.marks ≡ [] → c.marks ≡ [] → HoldsCode b (seq_code a (seq_code b c))
around_clause a b c e1 e2 = behind_clause a (seq_code b c) b e1 (holds_left b c e2)

pub branch_clause : (r : ℕ) (taken part other : Code) → HoldsCode taken part
    → HoldsBoth other taken (branch_code r part other)
branch_clause r taken part other h = both_of other other taken part (branch_code r part other) (holds_itself other) h
    (both_branch r part other)

pub both_behind : (a b left right : Code) → a.marks ≡ [] → HoldsBoth left right b → HoldsBoth left right (seq_code a b)
both_behind a b left right e h = both_in left right b (seq_code a b) h (holds_right a b e)

pub both_before : (a b left right : Code) → b.marks ≡ [] → HoldsBoth left right a → HoldsBoth left right (seq_code a b)
both_before a b left right e h = both_in left right a (seq_code a b) h (holds_left a b e)
