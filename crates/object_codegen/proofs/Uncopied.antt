-- Cells from which a copy was made.
use Rattle.std.proofs.Common.{◌≡◌, ℕ, ◌+◌, List, length, length-set, sym, ap, ◌∙◌, arith}
use Rattle.std.specs.Prelude.{slice_set}
use Rattle.std.proofs.lemmas.List.{get_or-set_same, get_or-set_other, set-set, set-get_or, set_comm}
use Rattle.object_codegen.specs.Promises.{referring, unreferring, Copies, Shares}

module _ (low p q x c : ℕ) (zs : List ℕ) (h : Shares low p q x c zs) where
  pub uncopied : Copies low p q x c (unreferring q x c zs)
  uncopied =
      let l = h.low_in in
      let iq = h.q_in in
      let ic = h.count_in in
      let len : length (unreferring q x c zs) ≡ length zs = length-set (slice_set zs q 0) (x + 1) c
      ∙ length-set zs q 0 in
      let len1 : length (slice_set zs q 0) ≡ length zs = length-set zs q 0 in
      record {
        low_in = rw len h.low_in;
        p_in = h.p_in;
        q_in = h.q_in;
        count_in = h.count_in;
        small = rw len h.small;
        source = get_or-set_other (slice_set zs q 0) (x + 1) p c 0 h.p_apart ∙ get_or-set_other zs q p 0 0 h.apart
            ∙ h.source;
        some = h.some;
        target = get_or-set_other (slice_set zs q 0) (x + 1) q c 0 h.q_apart ∙ get_or-set_same zs q 0 0 (omega arith);
        count = get_or-set_same (slice_set zs q 0) (x + 1) c 0 (omega arith);
        more = h.more;
        p_apart = h.p_apart;
        q_apart = h.q_apart;
      }

  pub copied_again : referring q x (c + 1) (unreferring q x c zs) ≡ zs
  copied_again =
      ap (λ z. slice_set z (x + 1) (c + 1)) (set_comm (slice_set zs q 0) (x + 1) q c x (λ e. h.q_apart (sym e))
      ∙ ap (λ z. slice_set z (x + 1) c) (set-set zs q 0 x ∙ ap (slice_set zs q) (sym h.target)
      ∙ set-get_or zs q 0))
      ∙ set-set zs (x + 1) c (c + 1)
      ∙ ap (slice_set zs (x + 1)) (sym h.count)
      ∙ set-get_or zs (x + 1) 0
