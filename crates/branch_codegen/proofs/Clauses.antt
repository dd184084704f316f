-- The laws as contracts state them.
use Rattle.std.proofs.Common.{◌≡◌, ℕ, suc, ◌+◌, ◌≤◌, List, [], ◌∷◌, ◌++◌, length, refl, ap, arith, append_assoc}
use Rattle.std.proofs.Common.{length-append}
use Rattle.refine_expressions.specs.paired_code.declared.part.Symbol.{Symbol}
use Rattle.refine_expressions.specs.code_conventions.Cells.{bra}
use Rattle.refine_expressions.specs.paired_code.declared.part.Symbol.TheVariants.{Own}
use Rattle.refine_expressions.specs.paired_code.Layout.{between, fork, branch_cells, loop_cells, mirror_cells}
use Rattle.refine_expressions.specs.paired_code.Rows.{line, within_symbols}
use Rattle.refine_expressions.specs.paired_code.Code.{Code, loop_code}
use Rattle.refine_form.specs.Worlds.{world_of}
use Rattle.refine_form.specs.Held.{HoldsCode, HoldsBoth}
use Rattle.refine_form.proofs.Holding.{holds_itself, both_of, both_loop}
use Rattle.refine_expressions.specs.code_conventions.declared.faults.TheConstants.{FI, LOOP}
use Rattle.refine_expressions.specs.code_conventions.declared.registers.TheConstants.{FLAG}
use Rattle.branch_codegen.specs.Branches.{flips, check, part_code, if_code, turn_code, from_code}
use Rattle.branch_codegen.specs.Laws.{IfCode, FromCode}
use Rattle.branch_codegen.proofs.Choices.{if_law}
use Rattle.branch_codegen.proofs.Repeats.{from_law}

pub some_counts : (n : ℕ) → 1 ≤ n + 64
some_counts n = omega arith

pub if_clause : (t p q a : List Symbol) → IfCode t p q a (if_code t p q a)
if_clause t p q a = record {
  law = λ place s at test after taken other ht ha hp hq. if_law (world_of place) refl
      (some_counts _) s at test taken other after t p q a ht ha hp hq;
}

pub from_clause : (e p q x : List Symbol) → FromCode e p q x (from_code e p q x)
from_clause e p q x = record {
  law = λ place s at entry exit first again he hx hp hq. from_law (world_of place) refl
      (some_counts _) s at entry first again exit e p q x he hx hp hq;
}

-- ---- sizes

sum_branch : (p q n1 n2 : ℕ) → n1 ≡ q + suc (suc (suc n2)) → n2 ≡ p + 5 → suc (suc n1) ≡ p + q + 10
sum_branch p q n1 n2 h g = omega arith

branch_length : (r : ℕ) (p q : List Symbol) → length (branch_cells r p q) ≡ length p + length q + 10
branch_length r p q =
    let mid = Own (bra (between 0 (5 + length p))) ∷ fork r (between (3 + length q) 0) [] in
    let last = fork r (between 0 3) (Own (bra (between (5 + length p) 0)) ∷ fork r (between 3 0) []) in
    sum_branch (length p) (length q) (length (q ++ (mid ++ (p ++ last)))) (length (p ++ last))
    (length-append q (mid ++ (p ++ last))) (length-append p last)

sum_loop : (p q n1 n2 : ℕ) → n1 ≡ q + suc (suc n2) → n2 ≡ p + 5 → suc (suc (suc n1)) ≡ p + q + 10
sum_loop p q n1 n2 h g = omega arith

loop_length : (r : ℕ) (head tail : List Symbol) → length (loop_cells r head tail) ≡ length head + length tail + 10
loop_length r head tail =
    let mid = fork r (between (3 + length tail) 0) [] in
    let last = fork r (between 0 3) (Own (bra (between (5 + length tail + length head) 0)) ∷ fork r (between 3 0) []) in
    sum_loop (length head) (length tail) (length (tail ++ (mid ++ (head ++ last)))) (length (head ++ last))
    (length-append tail (mid ++ (head ++ last))) (length-append head last)

within_length : (p : List Symbol) → length (within_symbols (flips ∷ []) p) ≡ suc (length p + 1)
within_length p = ap suc (length-append p (mirror_cells (line (flips ∷ []))))

sum_if : (t p q a n1 n2 n3 b pp : ℕ) → n1 ≡ t + n2 → n2 ≡ b + n3 → n3 ≡ a + 3 → b ≡ pp + q + 10 → pp ≡ suc (p + 1)
    → suc (suc (suc n1)) ≡ t + p + q + a + 18
sum_if t p q a n1 n2 n3 b pp e1 e2 e3 e4 e5 = omega arith

pub if_length : (t p q a : List Symbol) → length (if_code t p q a) ≡ length t + length p + length q + length a + 18
if_length t p q a =
    let chk = check FI in
    let B = branch_cells FLAG (part_code p) q in
    sum_if (length t) (length p) (length q) (length a) (length (t ++ (B ++ (a ++ chk)))) (length (B ++ (a ++ chk)))
    (length (a ++ chk)) (length B) (length (part_code p))
    (length-append t (B ++ (a ++ chk))) (length-append B (a ++ chk)) (length-append a chk)
    (branch_length FLAG (part_code p) q) (within_length p)

sum_turn : (e p x n1 n2 : ℕ) → n1 ≡ e + suc (suc (suc n2)) → n2 ≡ p + suc (suc (suc x)) → n1 ≡ e + p + x + 6
sum_turn e p x n1 n2 h g = omega arith

turn_length : (e p x : List Symbol) → length (turn_code e p x) ≡ length e + length p + length x + 6
turn_length e p x =
    sum_turn (length e) (length p) (length x) (length (turn_code e p x)) (length (p ++ (check LOOP ++ x)))
    (length-append e (check LOOP ++ (p ++ (check LOOP ++ x)))) (length-append p (check LOOP ++ x))

sum_from : (e p q x n1 n2 n3 : ℕ) → n1 ≡ suc (n2 + 1) → n2 ≡ n3 + q + 10 → n3 ≡ e + p + x + 6 → n1 ≡ e + p + q + x + 18
sum_from e p q x n1 n2 n3 h g k = omega arith

pub from_length : (e p q x : List Symbol) → length (from_code e p q x) ≡ length e + length p + length q + length x + 18
from_length e p q x =
    let turns = loop_cells FLAG (turn_code e p x) q in
    sum_from (length e) (length p) (length q) (length x) (length (from_code e p q x)) (length turns)
    (length (turn_code e p x))
    (within_length turns) (loop_length FLAG (turn_code e p x) q) (turn_length e p x)

-- ---- cells and marks

pub turn_cells : (e p x : List Symbol) → (e ++ check LOOP) ++ (p ++ (check LOOP ++ x)) ≡ turn_code e p x
turn_cells e p x = append_assoc e (check LOOP) (p ++ (check LOOP ++ x))

-- the second part of a loop, and the first one in its turn
pub loop_held : (r : ℕ) (turn first again : Code) → HoldsCode first turn → HoldsBoth again first (loop_code r turn again)
loop_held r turn first again h = both_of again again first turn (loop_code r turn again) (holds_itself again) h
    (both_loop r turn again)
