-- The middle of a copy.
use Rattle.std.proofs.Common.{◌≡◌, ◌≢◌, ℕ, ◌+◌, ◌^◌, ◌<◌, ◌≤◌, List, [], ◌∷◌, length, length-set}
use Rattle.std.proofs.Common.{refl, sym, ap, ◌∙◌, arith}
use Rattle.std.specs.Prelude.{slice_index, slice_set, bit_xor}
use Rattle.std.proofs.lemmas.List.{get_or-set_same, get_or-set_other}
use Rattle.std.specs.Int.Bits.{xor_zero_l}
use Rattle.refine_heap.specs.pisa_isa.Machine.{Memory}
use Rattle.refine_heap.proofs.rpp_words_laws.Laws.{xor-twice}
use Rattle.refine_heap.specs.code_conventions.declared.registers.TheConstants.{FIRST_WORD, OTHER_PLACE, PLACE}
use Rattle.expr_uncompute.specs.register_expressions.Code.{addi}
use Rattle.expr_uncompute.specs.register_expressions.Number.{Bases}
use Rattle.expr_uncompute.proofs.register_expressions_laws.Goes.{Goes, Traps, goes_seq, goes_around, goes_mirror}
use Rattle.expr_uncompute.proofs.register_expressions_laws.Goes.{goes_xor_to, goes_addi, traps_mid, traps_then, traps_first}
use Rattle.expr_uncompute.proofs.register_expressions_laws.Scratch.{keeping}
use Rattle.object_codegen.specs.Code.{same_words, two_places, copy_checks, uncopy_checks, refer_cells, count_cells}
use Rattle.object_codegen.specs.Code.{copy_mid}
use Rattle.object_codegen.specs.Promises.{referring, Copies}
use Rattle.object_codegen.proofs.Touching.{at, by_place, by_other, by_first, changed, nil_goes, nil_traps}
use Rattle.object_codegen.proofs.Touching.{some_goes, some_traps, load_goes, goes_zero, traps_zero, goes_differ}
use Rattle.object_codegen.proofs.Touching.{traps_differ}

xor_self : (x : ℕ) → bit_xor x x ≡ 0
xor_self x = ap (λ z. bit_xor z x) (sym (xor_zero_l x)) ∙ xor-twice 0 x

module _ (b : Bases) (f : ℕ → ℕ) (p q : ℕ) where
  abbrev here : (o x w : ℕ) → List ℕ → Memory
  here o x w zs = at b f (keeping 0 p q) o x w zs

  -- ---- the checks of the inverse

  pub same_goes : (zs : List ℕ) (x : ℕ) → p < length zs → q < length zs → slice_index zs p ≡ x → slice_index zs q ≡ x
      → Goes same_words 14 (here 0 0 0 zs) (here 0 0 0 zs)
  same_goes zs x h k e e' =
      let both = goes_seq (load_goes b f (keeping 0 p q) (by_place b f (keeping 0 p q)) zs x 0 x h e (xor_zero_l x))
      (load_goes b f (keeping 0 p q) (by_other b f (keeping 0 p q)) zs x x 0 k e' (xor_self x)) in
      goes_around both (goes_zero FIRST_WORD 10 _ refl) both

  pub same_traps : (zs : List ℕ) (x y : ℕ) → p < length zs → q < length zs → slice_index zs p ≡ x → slice_index zs q ≡ y
      → x ≢ y → Traps same_words 7 10 (here 0 0 0 zs)
  same_traps zs x y h k e e' n =
      let both = goes_seq (load_goes b f (keeping 0 p q) (by_place b f (keeping 0 p q)) zs x 0 x h e (xor_zero_l x))
      (load_goes b f (keeping 0 p q) (by_other b f (keeping 0 p q)) zs y x (bit_xor x y) k e' refl) in
      traps_mid both (traps_zero FIRST_WORD 10 _ (λ z. n (sym (xor-twice x y) ∙ ap (λ w. bit_xor w y) z
      ∙ xor_zero_l y)))

  pub two_goes : (zs : List ℕ) → p ≢ q → Goes two_places 2 (here 0 0 0 zs) (here 0 0 0 zs)
  two_goes zs n = goes_differ PLACE OTHER_PLACE 10 _ n

  pub two_traps : (zs : List ℕ) → p ≡ q → Traps two_places 1 10 (here 0 0 0 zs)
  two_traps zs e = traps_differ PLACE OTHER_PLACE 10 _ e

  pub copy_checks_go : (low x c : ℕ) (zs : List ℕ) → Copies low p q x c zs
      → Goes copy_checks 8 (here 0 0 0 zs) (here 0 0 0 zs)
  copy_checks_go low x c zs h =
      let l = h.count_in in
      let k = h.small in
      let n = h.low_in in
      let lp = h.p_in in
      let lq = h.q_in in
      goes_seq (some_goes b f (keeping 0 p q) (by_place b f (keeping 0 p q) 0) 5 zs x (omega arith) h.source
      (omega arith) h.some) (nil_goes b f (keeping 0 p q) (by_other b f (keeping 0 p q) 0) 4 zs (omega arith)
      h.target)

  pub copy_nil : (zs : List ℕ) → p < length zs → slice_index zs p ≡ 0 → Traps copy_checks 2 5 (here 0 0 0 zs)
  copy_nil zs h e = traps_first _ (some_traps b f (keeping 0 p q) (by_place b f (keeping 0 p q) 0) 5 zs h e)

  pub copy_not_nil : (zs : List ℕ) (x : ℕ) → p < length zs → q < length zs → slice_index zs p ≡ x → x < 2 ^ 31 → x ≢ 0
      → slice_index zs q ≢ 0 → Traps copy_checks 6 4 (here 0 0 0 zs)
  copy_not_nil zs x h k e l n n' = traps_then (some_goes b f (keeping 0 p q) (by_place b f (keeping 0 p q) 0) 5 zs x h e
      l n) (nil_traps b f (keeping 0 p q) (by_other b f (keeping 0 p q) 0) 4 zs k n')

  pub uncopy_checks_go : (x : ℕ) (zs : List ℕ) → p < length zs → q < length zs → length zs ≤ 2 ^ 31
      → slice_index zs p ≡ x → slice_index zs q ≡ x → x < 2 ^ 31 → x ≢ 0 → p ≢ q
      → Goes uncopy_checks 20 (here 0 0 0 zs) (here 0 0 0 zs)
  uncopy_checks_go x zs h k s e e' l n n' =
      goes_seq (some_goes b f (keeping 0 p q) (by_place b f (keeping 0 p q) 0) 5 zs x h e l n)
      (goes_seq (same_goes zs x h k e e') (two_goes zs n'))

  pub uncopy_nil : (zs : List ℕ) → p < length zs → slice_index zs p ≡ 0 → Traps uncopy_checks 2 5 (here 0 0 0 zs)
  uncopy_nil zs h e = traps_first _ (some_traps b f (keeping 0 p q) (by_place b f (keeping 0 p q) 0) 5 zs h e)

  pub uncopy_other : (zs : List ℕ) (x y : ℕ) → p < length zs → q < length zs → slice_index zs p ≡ x
      → slice_index zs q ≡ y → x < 2 ^ 31 → x ≢ 0 → x ≢ y → Traps uncopy_checks 11 10 (here 0 0 0 zs)
  uncopy_other zs x y h k e e' l n n' = traps_then (some_goes b f (keeping 0 p q) (by_place b f (keeping 0 p q) 0) 5 zs
      x h e l n) (traps_first _ (same_traps zs x y h k e e' n'))

  pub uncopy_one : (zs : List ℕ) (x : ℕ) → p < length zs → q < length zs → length zs ≤ 2 ^ 31 → slice_index zs p ≡ x
      → slice_index zs q ≡ x → x < 2 ^ 31 → x ≢ 0 → p ≡ q → Traps uncopy_checks 19 10 (here 0 0 0 zs)
  uncopy_one zs x h k s e e' l n n' = traps_then (some_goes b f (keeping 0 p q) (by_place b f (keeping 0 p q) 0) 5 zs x
      h e l n) (traps_then (same_goes zs x h k e e') (two_traps zs n'))

  -- ---- the change

  refer_goes : (x : ℕ) (zs : List ℕ) → q < length zs → slice_index zs q ≡ 0
      → Goes refer_cells 3 (here 0 0 x zs) (here 0 0 x (slice_set zs q x))
  refer_goes x zs h e = changed b f (keeping 0 p q) (by_other b f (keeping 0 p q) x) zs 0 x h e
      (goes_xor_to _ (λ z. here 0 z x (slice_set zs q 0)) 0 x x (xor_zero_l x) refl (omega arith) (λ z. refl)
      (λ z. refl))

  count_goes : (x c : ℕ) (zs : List ℕ) → x + 1 < length zs → length zs ≤ 2 ^ 31 → slice_index zs (x + 1) ≡ c
      → c + 1 < 2 ^ 32 → Goes count_cells 5 (here 0 0 x zs) (here 0 0 x (slice_set zs (x + 1) (c + 1)))
  count_goes x c zs h k e l =
      let up : (zs : List ℕ) → Goes (addi FIRST_WORD 1 ∷ []) 1 (here 0 0 x zs) (here 0 0 (x + 1) zs) =
      λ zs. goes_addi _ (λ z. here 0 0 z zs) x 1 (omega arith) refl (omega arith) (λ z. refl) (λ z. refl) in
      goes_around (up zs) (changed b f (keeping 0 p q) (by_first b f (keeping 0 p q) (x + 1)) zs c (c + 1) h e
      (goes_addi _ (λ z. here 0 z (x + 1) (slice_set zs (x + 1) 0)) c 1 l refl (omega arith) (λ z. refl)
      (λ z. refl))) (up _)

  pub copy_goes : (low x c : ℕ) (zs : List ℕ) → Copies low p q x c zs
      → Goes copy_mid 42 (here 0 0 0 zs) (here 0 0 0 (referring q x (c + 1) zs))
  copy_goes low x c zs h =
      let k = h.small in
      let ll = h.low_in in
      let p0 : p < length zs = let i = h.p_in in omega arith in
      let q0 : q < length zs = let i = h.q_in in omega arith in
      let c0 : x + 1 < length zs = let i = h.count_in in omega arith in
      let n : p ≢ q = λ e. h.some (sym h.source ∙ ap (slice_index zs) e ∙ h.target) in
      let n' : q ≢ p = λ e. n (sym e) in
      let zs1 : List ℕ = slice_set zs q x in
      let zs2 : List ℕ = referring q x (c + 1) zs in
      let l1 : length (slice_set zs q x) ≡ length zs = length-set zs q x in
      let l2 : length (referring q x (c + 1) zs) ≡ length zs = length-set (slice_set zs q x) (x + 1) (c + 1) ∙ l1 in
      let p2 : p < length (referring q x (c + 1) zs) = rw l2 p0 in
      let q2 : q < length (referring q x (c + 1) zs) = rw l2 q0 in
      let at_p : slice_index (referring q x (c + 1) zs) p ≡ x =
      get_or-set_other (slice_set zs q x) (x + 1) p (c + 1) 0 h.p_apart ∙ get_or-set_other zs q p x 0 n
      ∙ h.source in
      let at_q : slice_index (referring q x (c + 1) zs) q ≡ x =
      get_or-set_other (slice_set zs q x) (x + 1) q (c + 1) 0 h.q_apart ∙ get_or-set_same zs q x 0 q0 in
      let at_c : slice_index (slice_set zs q x) (x + 1) ≡ c = get_or-set_other zs q (x + 1) x 0 (λ e. h.q_apart (sym e))
      ∙ h.count in
      let first = load_goes b f (keeping 0 p q) (by_place b f (keeping 0 p q)) zs x 0 x p0 h.source (xor_zero_l x) in
      let last = load_goes b f (keeping 0 p q) (by_place b f (keeping 0 p q)) (referring q x (c + 1) zs) x 0 x p2 at_p
      (xor_zero_l x) in
      goes_seq (copy_checks_go low x c zs h)
      (goes_seq (goes_around first (goes_seq (refer_goes x zs q0 h.target)
      (count_goes x c (slice_set zs q x) (rw l1 c0) (rw l1 h.small) at_c h.more)) last)
      (goes_mirror (uncopy_checks_go x (referring q x (c + 1) zs) p2 q2 (rw l2 h.small) at_p at_q (omega arith) h.some
      n)))
