-- A block taken and filled, and emptied again.
use Rattle.std.proofs.Common.{◌≡◌, ◌≢◌, ℕ, ◌+◌, ◌^◌, ◌<◌, ◌≤◌, List, length, length-set, sym, ap, ◌∙◌, arith}
use Rattle.std.specs.Prelude.{slice_index, slice_set}
use Rattle.std.proofs.lemmas.List.{get_or-set_same, get_or-set_other, set-set, set-get_or}
use Rattle.expr_uncompute.specs.Found.{Filled, Changes}
use Rattle.expr_uncompute.proofs.register_expressions_laws.Numbers.{words_set}
use Rattle.expr_uncompute.proofs.Written.{set_lifts}
use Rattle.object_codegen.specs.News.{Takes, filled_words}

abbrev pub emptied : (p x : ℕ) → List ℕ → List ℕ
emptied p x zs = slice_set (slice_set (slice_set zs p 0) (x + 1) 0) x 0

emptied_length : (p x : ℕ) (zs : List ℕ) → length (emptied p x zs) ≡ length zs
emptied_length p x zs = length-set (slice_set (slice_set zs p 0) (x + 1) 0) x 0
    ∙ length-set (slice_set zs p 0) (x + 1) 0 ∙ length-set zs p 0

filled_length : (p x mark : ℕ) (zs : List ℕ) → length (filled_words p x mark zs) ≡ length zs
filled_length p x mark zs = length-set (slice_set (slice_set zs x mark) (x + 1) 1) p x
    ∙ length-set (slice_set zs x mark) (x + 1) 1 ∙ length-set zs x mark

-- words elsewhere stay
emptied_other : (p x : ℕ) (zs : List ℕ) (k : ℕ) → k ≢ p → k ≢ x → k ≢ x + 1
    → slice_index (emptied p x zs) k ≡ slice_index zs k
emptied_other p x zs k n n' n'' =
    get_or-set_other (slice_set (slice_set zs p 0) (x + 1) 0) x k 0 0 n'
    ∙ get_or-set_other (slice_set zs p 0) (x + 1) k 0 0 n'' ∙ get_or-set_other zs p k 0 0 n

filled_other : (p x mark : ℕ) (zs : List ℕ) (k : ℕ) → k ≢ p → k ≢ x → k ≢ x + 1
    → slice_index (filled_words p x mark zs) k ≡ slice_index zs k
filled_other p x mark zs k n n' n'' =
    get_or-set_other (slice_set (slice_set zs x mark) (x + 1) 1) p k x 0 n
    ∙ get_or-set_other (slice_set zs x mark) (x + 1) k 1 0 n'' ∙ get_or-set_other zs x k mark 0 n'

-- cells in which a block is filled, emptied and filled
refilled : (p x mark : ℕ) (zs : List ℕ) → slice_index zs p ≡ x → slice_index zs x ≡ mark → slice_index zs (x + 1) ≡ 1
    → p ≢ x → p ≢ x + 1 → filled_words p x mark (emptied p x zs) ≡ zs
refilled p x mark zs at_p at_x at_c n n' =
    let one : List ℕ = slice_set zs p 0 in
    let two : List ℕ = slice_set (slice_set zs p 0) (x + 1) 0 in
    let first : slice_index (slice_set (slice_set zs p 0) (x + 1) 0) x ≡ mark =
    get_or-set_other one (x + 1) x 0 0 (λ e. omega arith) ∙ get_or-set_other zs p x 0 0 (λ e. n (sym e)) ∙ at_x in
    let count : slice_index (slice_set zs p 0) (x + 1) ≡ 1 = get_or-set_other zs p (x + 1) 0 0 (λ e. n' (sym e))
    ∙ at_c in
    ap (λ z. slice_set (slice_set z (x + 1) 1) p x) (set-set two x 0 mark ∙ ap (slice_set two x) (sym first)
    ∙ set-get_or two x 0)
    ∙ ap (λ z. slice_set z p x) (set-set one (x + 1) 0 1 ∙ ap (slice_set one (x + 1)) (sym count)
    ∙ set-get_or one (x + 1) 0)
    ∙ set-set zs p 0 x ∙ ap (slice_set zs p) (sym at_p) ∙ set-get_or zs p 0

-- and filled and emptied
emptied_filled : (p x mark : ℕ) (zs : List ℕ) → slice_index zs p ≡ 0 → slice_index zs x ≡ 0 → slice_index zs (x + 1) ≡ 0
    → p ≢ x → p ≢ x + 1 → emptied p x (filled_words p x mark zs) ≡ zs
emptied_filled p x mark zs at_p at_x at_c n n' =
    let one : List ℕ = slice_set zs x mark in
    let two : List ℕ = slice_set (slice_set zs x mark) (x + 1) 1 in
    let place : slice_index (slice_set (slice_set zs x mark) (x + 1) 1) p ≡ 0 = get_or-set_other one (x + 1) p 1 0 n'
    ∙ get_or-set_other zs x p mark 0 n ∙ at_p in
    let count : slice_index (slice_set zs x mark) (x + 1) ≡ 0 = get_or-set_other zs x (x + 1) mark 0 (λ e. omega arith)
    ∙ at_c in
    ap (λ z. slice_set (slice_set z (x + 1) 0) x 0) (set-set two p x 0 ∙ ap (slice_set two p) (sym place)
    ∙ set-get_or two p 0)
    ∙ ap (λ z. slice_set z x 0) (set-set one (x + 1) 1 0 ∙ ap (slice_set one (x + 1)) (sym count)
    ∙ set-get_or one (x + 1) 0)
    ∙ set-set zs x mark 0 ∙ ap (slice_set zs x) (sym at_x) ∙ set-get_or zs x 0

module _ (low size p x mark : ℕ) (cells taken : List ℕ) (inside : low ≤ length cells)
    (t : Takes low size p x cells taken) where
  apart : p ≢ x
  apart = t.outside x (omega arith) (omega arith)

  apart_count : p ≢ x + 1
  apart_count = t.outside (x + 1) (omega arith) (omega arith)

  taken_in : low ≤ length taken
  taken_in = let c = t.changes.count in omega arith

  -- what the block and the place have
  pub place_is : slice_index (filled_words p x mark taken) p ≡ x
  place_is =
      let i = taken_in in
      let h = t.p_in in
      get_or-set_same (slice_set (slice_set taken x mark) (x + 1) 1) p x 0
      (rw (length-set (slice_set taken x mark) (x + 1) 1, length-set taken x mark) (omega arith))

  pub mark_is : slice_index (filled_words p x mark taken) x ≡ mark
  mark_is =
      let i = taken_in in
      let h = t.within in
      get_or-set_other (slice_set (slice_set taken x mark) (x + 1) 1) p x x 0 (λ q. apart (sym q))
      ∙ get_or-set_other (slice_set taken x mark) (x + 1) x 1 0 (λ q. omega arith)
      ∙ get_or-set_same taken x mark 0 (omega arith)

  pub count_is : slice_index (filled_words p x mark taken) (x + 1) ≡ 1
  count_is =
      let i = taken_in in
      let h = t.within in
      get_or-set_other (slice_set (slice_set taken x mark) (x + 1) 1) p (x + 1) x 0 (λ q. apart_count (sym q))
      ∙ get_or-set_same (slice_set taken x mark) (x + 1) 1 0 (rw (length-set taken x mark) (omega arith))

  -- the cells as they become
  pub filled_changes : mark < 2 ^ 32 → Changes low cells (filled_words p x mark taken)
  filled_changes h =
      let w = t.within in
      let l = t.p_in in
      let e = t.ends in
      record {
        count = filled_length p x mark taken ∙ t.changes.count;
        words = words_set (slice_set (slice_set taken x mark) (x + 1) 1) p x
            (words_set (slice_set taken x mark) (x + 1) 1 (words_set taken x mark t.changes.words h) (omega arith))
            (omega arith);
        above = λ k g. filled_other p x mark taken k (λ q. omega arith) (λ q. omega arith) (λ q. omega arith)
            ∙ t.changes.above k g;
      }

  module _ (n : ℕ) (ys : List ℕ) (f : Filled low n (filled_words p x mark taken) ys) where
    -- filled words over the block, emptied: filled words over the one that was taken
    pub emptied_fills : Filled low n taken (emptied p x ys)
    emptied_fills =
        let w = t.within in
        let l = t.p_in in
        record {
          count = emptied_length p x ys ∙ f.count ∙ filled_length p x mark taken;
          words = words_set (slice_set (slice_set ys p 0) (x + 1) 0) x 0
              (words_set (slice_set ys p 0) (x + 1) 0 (words_set ys p 0 f.words (omega arith)) (omega arith))
              (omega arith);
          below = λ k h. lifted k (f.below k h) ∙ ap (λ z. slice_index z k)
              (emptied_filled p x mark taken t.nil (t.zero x (omega arith) (omega arith))
              (t.zero (x + 1) (omega arith) (omega arith)) apart apart_count);
          above = λ k h. emptied_other p x ys k (λ q. omega arith) (λ q. omega arith) (λ q. omega arith) ∙ f.above k h
              ∙ filled_other p x mark taken k (λ q. omega arith) (λ q. omega arith) (λ q. omega arith);
        }
      where
        lifted : (k : ℕ) → slice_index ys k ≡ slice_index (filled_words p x mark taken) k
            → slice_index (emptied p x ys) k ≡ slice_index (emptied p x (filled_words p x mark taken)) k
        lifted k e =
            let whole : List ℕ = filled_words p x mark taken in
            let one : length (slice_set ys p 0) ≡ length (slice_set whole p 0) = length-set ys p 0 ∙ f.count
            ∙ sym (length-set whole p 0) in
            let two : length (slice_set (slice_set ys p 0) (x + 1) 0)
            ≡ length (slice_set (slice_set whole p 0) (x + 1) 0) = length-set (slice_set ys p 0) (x + 1) 0 ∙ one
            ∙ sym (length-set (slice_set whole p 0) (x + 1) 0) in
            set_lifts (slice_set (slice_set whole p 0) (x + 1) 0) (slice_set (slice_set ys p 0) (x + 1) 0) x 0 k two
            (set_lifts (slice_set whole p 0) (slice_set ys p 0) (x + 1) 0 k one (set_lifts whole ys p 0 k f.count e))

    pub emptied_above : (k : ℕ) → low ≤ k → slice_index (emptied p x ys) k ≡ slice_index ys k
    emptied_above k h =
        let w = t.within in
        let l = t.p_in in
        emptied_other p x ys k (λ q. omega arith) (λ q. omega arith) (λ q. omega arith)

    -- with the block filled again
    pub filled_again : filled_words p x mark (emptied p x ys) ≡ ys
    filled_again =
        let w = t.within in
        refilled p x mark ys (f.below p t.p_in ∙ place_is) (f.below x (omega arith) ∙ mark_is)
        (f.below (x + 1) (omega arith) ∙ count_is) apart apart_count
