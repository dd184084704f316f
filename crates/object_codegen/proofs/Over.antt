-- Cells that differ from filled ones as others from those before them.
use Rattle.std.proofs.Common.{◌≡◌, ℕ, ◌^◌, ◌<◌, ◌≤◌, List, length-set, sym, ◌∙◌, arith, ⊎_elim}
use Rattle.std.specs.Prelude.{slice_index, slice_set}
use Rattle.std.proofs.lemmas.List.{get_or-set_other, ext_get_or}
use Rattle.std.proofs.lemmas.Bool.{cases_lt}
use Rattle.expr_uncompute.specs.Found.{Filled, Changes}
use Rattle.expr_uncompute.proofs.register_expressions_laws.Numbers.{AllWords, words_set}
use Rattle.expr_uncompute.proofs.Written.{set_lifts}

module _ (low n : ℕ) (cells ys : List ℕ) (f : Filled low n cells ys) where
  -- two words below the filled ones are written
  pub over_two : (ys' : List ℕ) (a x a' x' : ℕ) → a < low → a' < low
      → Filled low n (slice_set (slice_set cells a x) a' x') ys' → Changes low ys ys'
      → ys' ≡ slice_set (slice_set ys a x) a' x'
  over_two ys' a x a' x' l l' f' c =
      ext_get_or 0 ys' (slice_set (slice_set ys a x) a' x')
      (c.count ∙ sym (length-set (slice_set ys a x) a' x' ∙ length-set ys a x))
      (λ k h. ⊎_elim (λ lo. below k lo) (λ hi. above k hi) (cases_lt k low))
    where
      below : (k : ℕ) → k < low → slice_index ys' k ≡ slice_index (slice_set (slice_set ys a x) a' x') k
      below k h =
          f'.below k h ∙ sym (set_lifts (slice_set cells a x) (slice_set ys a x) a' x' k
          (length-set ys a x ∙ f.count ∙ sym (length-set cells a x))
          (set_lifts cells ys a x k f.count (f.below k h)))

      above : (k : ℕ) → low ≤ k → slice_index ys' k ≡ slice_index (slice_set (slice_set ys a x) a' x') k
      above k h = c.above k h ∙ sym (get_or-set_other (slice_set ys a x) a' k x' 0 (λ e. omega arith)
          ∙ get_or-set_other ys a k x 0 (λ e. omega arith))

-- such a change
pub changes_two : (low : ℕ) (cells : List ℕ) (a x a' x' : ℕ) → AllWords cells → a < low → a' < low → x < 2 ^ 32
    → x' < 2 ^ 32 → Changes low cells (slice_set (slice_set cells a x) a' x')
changes_two low cells a x a' x' w l l' h h' = record {
  count = length-set (slice_set cells a x) a' x' ∙ length-set cells a x;
  words = words_set (slice_set cells a x) a' x' (words_set cells a x w h) h';
  above = λ k g. get_or-set_other (slice_set cells a x) a' k x' 0 (λ e. omega arith)
      ∙ get_or-set_other cells a k x 0 (λ e. omega arith);
}
