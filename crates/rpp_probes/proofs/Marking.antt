-- What marks sum up to.
use Rattle.std.proofs.Common.{◌≡◌, ℕ, zero, suc, ◌+◌, ◌<◌, ◌≤◌, List, [], ◌∷◌, length, sum, arith}
use Rattle.std.specs.List.{slice_set, slice_index_or}
use Rattle.std.proofs.lemmas.List.Elements.{All-set}
use Rattle.std.proofs.lemmas.List.Sums.{sum_by-cons}
use Rattle.rpp_probes.specs.Marks.{AreMarks}

sum-cons : (x : ℕ) (xs : List ℕ) → sum (x ∷ xs) ≡ x + sum xs
sum-cons x xs = sum_by-cons (λ n. n) x xs

pub sum_few : (marks : List ℕ) → AreMarks marks → sum marks ≤ length marks
sum_few [] are = omega arith
sum_few (m ∷ ms) are =
    let here : m ≤ 1 = are 0 0 (omega arith) in
    let rest : sum ms ≤ length ms = sum_few ms (λ k d h. are (suc k) d (omega (h, arith))) in
    omega (arith, sum-cons m ms)

pub sum_marked : (marks : List ℕ) (i d : ℕ) → i < length marks → AreMarks marks
    → sum (slice_set marks i 1) + slice_index_or marks i d ≡ sum marks + 1
sum_marked [] i d h are = absurd (omega (h, arith))
sum_marked (m ∷ ms) zero d h are = omega (arith, sum-cons m ms, sum-cons 1 ms)
sum_marked (m ∷ ms) (suc i) d h are =
    let rest = sum_marked ms i d (omega (h, arith)) (λ k d h. are (suc k) d (omega (h, arith))) in
    omega (arith, sum-cons m ms, sum-cons m (slice_set ms i 1))

pub marks_set : (marks : List ℕ) (i : ℕ) → AreMarks marks → AreMarks (slice_set marks i 1)
marks_set marks i are = All-set (λ mark. mark ≤ 1) marks i 1 (omega arith) are
