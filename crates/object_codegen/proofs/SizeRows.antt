-- What the cells that find the order of a length do to the registers, there and back.
use Rattle.std.proofs.Common.{◌≡◌, ℕ, ◌+◌, ◌*◌, ◌^◌, ◌%◌, ◌/◌, ◌<◌, ◌≤◌, Bool, true, false, List, [], ◌∷◌, refl, sym}
use Rattle.std.proofs.Common.{ap, ◌∙◌, subst, arith, ◌-◌}
use Rattle.std.specs.Prelude.{nat_lt, bit_xor, bit_and, if◌then◌else◌}
use Rattle.std.proofs.lemmas.Bool.Decides.{nat_tests}
use Rattle.std.proofs.lemmas.Int.{ints}
use Rattle.std.proofs.lemmas.Nat.Bits.{and_pow}
use Rattle.std.proofs.Math.Nat.{div-lt_iff_lt-mul, mul-le-mul_left}
use Rattle.std.proofs.Math.Pow.{pow_mono}
use Rattle.std.specs.Int.Bits.{xor_self}
use Rattle.refine_heap.specs.pisa_isa.Machine.{Memory}
use Rattle.refine_heap.specs.rpp_words.Words.{shifted_right, turned_left, turned_right, is_less, sum_of}
use Rattle.refine_heap.specs.pisa_isa.Table.{word_of}
use Rattle.refine_heap.specs.code_conventions.declared.memory.TheConstants.{HEADER_WORDS}
use Rattle.refine_heap.specs.code_conventions.declared.registers.TheConstants.{NOUGHT, AT_LENGTH as size}
use Rattle.expr_uncompute.proofs.register_expressions_laws.Goes.{Goes, goes_cons, goes_seq, goes_around, goes_to, goes_mirror, goes_set}
use Rattle.expr_uncompute.proofs.register_expressions_laws.Goes.{goes_xor_to, goes_addi, goes_add, goes_cell}
use Rattle.expr_uncompute.specs.register_expressions.Code.{add, addi, sltx}
use Rattle.object_codegen.specs.Code.{srlvx, andix, turn_left, shifted as start, one_bit as end}
use Rattle.object_codegen.specs.Code.{order, order_bit, order_cells as order_of_size}
use Rattle.object_codegen.proofs.SizeOrders.{has_bit, with_bit, log_of, bit_small}

module _ (g : ℕ → ℕ) (cells : List ℕ) where
  -- a length, the order so far, a shifted length, and a bit
  abbrev pub sizing : (x r u s : ℕ) → Memory
  sizing x r u s = record {
    regs = g 0 ∷ g 1 ∷ g 2 ∷ g 3 ∷ g 4 ∷ g 5 ∷ g 6 ∷ 0 ∷ u ∷ s ∷ g 10 ∷ g 11 ∷ r ∷ g 13 ∷ g 14 ∷ x ∷ g 16 ∷ g 17 ∷ g 18
        ∷ g 19 ∷ g 20 ∷ g 21 ∷ g 22 ∷ g 23 ∷ g 24 ∷ g 25 ∷ g 26 ∷ g 27 ∷ g 28 ∷ g 29 ∷ g 30 ∷ g 31 ∷ [];
    cells = cells;
  }

  -- what has to be known of a bit's number
  pub record Bit (k : ℕ) : Type 0 where
    pub number : k ≤ 4
    pub at_least : 1 ≤ 2 ^ k
    pub at_most : 2 ^ k ≤ 16
    pub turned_0 : turned_left 0 k ≡ 0
    pub turned_1 : turned_left 1 k ≡ 2 ^ k
    pub back_0 : turned_right 0 k ≡ 0
    pub back_1 : turned_right (2 ^ k) k ≡ 1

  less_zero : (v : ℕ) → v < 2 ^ 31 → is_less 0 v ≡ nat_lt 0 v
  less_zero v h = grind (arith, ints, nat_tests)

  module _ (k : ℕ) (known : Bit k) (x r : ℕ) (small : r + 2 ^ k < 32) (few : x / 2 ^ ((r + 2 ^ k) % 32) < 2 ^ 31)
      (no_bit : bit_and r (2 ^ k) ≡ 0) (one_bit : bit_and (r + 2 ^ k) (2 ^ k) ≡ 2 ^ k) where
    abbrev v : ℕ
    v = shifted_right x (r + 2 ^ k)

    shifts : (s : ℕ) → Goes (addi order (2 ^ k) ∷ srlvx start size order ∷ []) 2 (sizing x r 0 s)
        (sizing x (r + 2 ^ k) v s)
    shifts s =
        let a = known.at_least in
        let b = known.at_most in
        goes_cons (goes_addi _ (λ z. sizing x z 0 s) r (2 ^ k) (omega (arith, small)) refl (omega (arith, b))
        (λ z. refl) (λ z. refl))
        (goes_set _ (λ z. sizing x (r + 2 ^ k) z s) v refl (omega arith) (λ z. refl) (λ z. refl))

    tests : (t : Bool) → has_bit x r k ≡ t → Goes (sltx end NOUGHT start ∷ []) 1 (sizing x (r + 2 ^ k) v 0)
        (sizing x (r + 2 ^ k) v (word_of t))
    tests t e = goes_to refl refl (ap (λ z. sizing x (r + 2 ^ k) v (word_of z)) (less_zero v few ∙ e))
        (goes_set _ (λ z. sizing x (r + 2 ^ k) v z) (word_of (is_less 0 v)) refl (omega arith) (λ z. refl) (λ z. refl))

    abbrev placed : Bool → ℕ
    placed t = if t then 2 ^ k else 0

    turns : (t : Bool) → Goes (turn_left end k ∷ []) 1 (sizing x r 0 (word_of t)) (sizing x r 0 (placed t))
    turns true = let b = known.number in goes_cell _ _ _ refl (omega (arith, b))
        (ap (λ z. package.Rattle.refine_heap.specs.paired_code.Pieces.Done (sizing x r 0 z) 1) known.turned_1)
        (ap (λ z. package.Rattle.refine_heap.specs.paired_code.Pieces.Done (sizing x r 0 z) 1) known.back_1)
    turns false = let b = known.number in goes_cell _ _ _ refl (omega (arith, b))
        (ap (λ z. package.Rattle.refine_heap.specs.paired_code.Pieces.Done (sizing x r 0 z) 1) known.turned_0)
        (ap (λ z. package.Rattle.refine_heap.specs.paired_code.Pieces.Done (sizing x r 0 z) 1) known.back_0)

    adds : (t : Bool) → Goes (add order end ∷ []) 1 (sizing x r 0 (placed t))
        (sizing x (if t then r + 2 ^ k else r) 0 (placed t))
    adds true = let e : sum_of r (2 ^ k) ≡ r + 2 ^ k = omega (arith, small) in
        goes_to refl refl (ap (λ z. sizing x z 0 (2 ^ k)) e)
        (goes_add _ (λ z. sizing x z 0 (2 ^ k)) r (2 ^ k) (omega (arith, small)) (omega (arith, small)) refl
        (omega arith) (λ z. refl) (λ z. refl))
    adds false = let e : sum_of r 0 ≡ r = omega (arith, small) in
        goes_to refl refl (ap (λ z. sizing x z 0 0) e) (goes_add _ (λ z. sizing x z 0 0) r 0 (omega (arith, small))
        (omega arith) refl (omega arith) (λ z. refl) (λ z. refl))

    clears : (t : Bool) → Goes (andix end order (2 ^ k) ∷ []) 1 (sizing x (if t then r + 2 ^ k else r) 0 (placed t))
        (sizing x (if t then r + 2 ^ k else r) 0 0)
    clears true = let b = known.at_most in goes_xor_to _ (λ z. sizing x (r + 2 ^ k) 0 z) (2 ^ k)
        (bit_and (r + 2 ^ k) (2 ^ k)) 0 (ap (bit_xor (2 ^ k)) one_bit ∙ xor_self (2 ^ k)) refl (omega (arith, b))
        (λ z. refl) (λ z. refl)
    clears false = let b = known.at_most in goes_xor_to _ (λ z. sizing x r 0 z) 0 (bit_and r (2 ^ k)) 0
        (ap (bit_xor 0) no_bit) refl (omega (arith, b)) (λ z. refl) (λ z. refl)

    finds : (t : Bool) → has_bit x r k ≡ t → Goes (order_bit k) 8 (sizing x r 0 0)
        (sizing x (if t then r + 2 ^ k else r) 0 0)
    finds t e = goes_seq (goes_around (shifts 0) (tests t e) (shifts (word_of t)))
        (goes_cons (turns t) (goes_cons (adds t) (clears t)))

    pub bit_goes : Goes (order_bit k) 8 (sizing x r 0 0) (sizing x (with_bit x r k) 0 0)
    bit_goes = finds (has_bit x r k) refl

  -- what is left of a shifted word
  left_small : (x j : ℕ) → x < 2 ^ 32 → 1 ≤ j → x / 2 ^ j < 2 ^ 31
  left_small x j h l =
      let two : 2 ^ 1 ≤ 2 ^ j = pow_mono l in
      let grown : 2 ^ 31 * 2 ≤ 2 ^ 31 * 2 ^ j = mul-le-mul_left (2 ^ 31) two in
      (div-lt_iff_lt-mul (package.Rattle.std.proofs.lemmas.Nat.pow_pos j)).1 (omega (arith, h, grown))

  bit_4 : Bit 4
  bit_4 = record {
    number = omega arith;
    at_least = omega arith;
    at_most = omega arith;
    turned_0 = refl;
    turned_1 = refl;
    back_0 = refl;
    back_1 = refl;
  }

  bit_3 : Bit 3
  bit_3 = record {
    number = omega arith;
    at_least = omega arith;
    at_most = omega arith;
    turned_0 = refl;
    turned_1 = refl;
    back_0 = refl;
    back_1 = refl;
  }

  bit_2 : Bit 2
  bit_2 = record {
    number = omega arith;
    at_least = omega arith;
    at_most = omega arith;
    turned_0 = refl;
    turned_1 = refl;
    back_0 = refl;
    back_1 = refl;
  }

  bit_1 : Bit 1
  bit_1 = record {
    number = omega arith;
    at_least = omega arith;
    at_most = omega arith;
    turned_0 = refl;
    turned_1 = refl;
    back_0 = refl;
    back_1 = refl;
  }

  bit_0 : Bit 0
  bit_0 = record {
    number = omega arith;
    at_least = omega arith;
    at_most = omega arith;
    turned_0 = refl;
    turned_1 = refl;
    back_0 = refl;
    back_1 = refl;
  }

  -- a multiple of twice the bit has it not, and has it if it is added
  has_not : (r k : ℕ) → r / 2 ^ k % 2 ≡ 0 → bit_and r (2 ^ k) ≡ 0
  has_not r k e = and_pow r k ∙ ap (λ z. z * 2 ^ k) e ∙ (let q : 0 * 2 ^ k ≡ 0 = omega arith in q)

  has_now : (r k : ℕ) → (r + 2 ^ k) / 2 ^ k % 2 ≡ 1 → bit_and (r + 2 ^ k) (2 ^ k) ≡ 2 ^ k
  has_now r k e = and_pow (r + 2 ^ k) k ∙ ap (λ z. z * 2 ^ k) e ∙ (let q : 1 * 2 ^ k ≡ 2 ^ k = omega arith in q)

  next_4 : (t : Bool) → (if t then 0 + 2 ^ 4 else 0) % 16 ≡ 0
  next_4 true = refl
  next_4 false = refl

  next_3 : (t : Bool) (r : ℕ) → r % 16 ≡ 0 → (if t then r + 2 ^ 3 else r) % 8 ≡ 0
  next_3 true r h = omega (arith, h)
  next_3 false r h = omega (arith, h)

  next_2 : (t : Bool) (r : ℕ) → r % 8 ≡ 0 → (if t then r + 2 ^ 2 else r) % 4 ≡ 0
  next_2 true r h = omega (arith, h)
  next_2 false r h = omega (arith, h)

  next_1 : (t : Bool) (r : ℕ) → r % 4 ≡ 0 → (if t then r + 2 ^ 1 else r) % 2 ≡ 0
  next_1 true r h = omega (arith, h)
  next_1 false r h = omega (arith, h)

  few_left : (x j : ℕ) → x < 2 ^ 32 → 1 ≤ j → j < 32 → x / 2 ^ (j % 32) < 2 ^ 31
  few_left x j h l k = let e : j % 32 ≡ j = omega (arith, k) in
      subst (λ z. x / 2 ^ z < 2 ^ 31) (sym e) (left_small x j h l)

  -- the order of a length, in its register
  pub order_goes : (n : ℕ) → 1 ≤ n → n < 2 ^ 31 → Goes order_of_size 43 (sizing n 0 0 0)
      (sizing n (1 + log_of (n + (HEADER_WORDS - 1))) 0 0)
  order_goes n h l =
      let x = n + (HEADER_WORDS - 1) in
      let a = with_bit x 0 4 in
      let b = with_bit x a 3 in
      let c = with_bit x b 2 in
      let d = with_bit x c 1 in
      let e = with_bit x d 0 in
      let big : x < 2 ^ 32 = omega (arith, l) in
      let la : a ≤ 16 = bit_small x 0 4 in
      let lb : b ≤ a + 8 = bit_small x a 3 in
      let lc : c ≤ b + 4 = bit_small x b 2 in
      let ld : d ≤ c + 2 = bit_small x c 1 in
      let le : e ≤ d + 1 = bit_small x d 0 in
      let ma : a % 16 ≡ 0 = next_4 (has_bit x 0 4) in
      let mb : b % 8 ≡ 0 = next_3 (has_bit x a 3) a ma in
      let mc : c % 4 ≡ 0 = next_2 (has_bit x b 2) b mb in
      let md : d % 2 ≡ 0 = next_1 (has_bit x c 1) c mc in
      let swapped : e + 1 ≡ 1 + e = omega arith in
      let size_up : Goes (addi size (HEADER_WORDS - 1) ∷ []) 1 (sizing n (1 + e) 0 0) (sizing x (1 + e) 0 0) =
      goes_addi _ (λ z. sizing z (1 + e) 0 0) n (HEADER_WORDS - 1) (omega (arith, l)) refl (omega arith) (λ z. refl)
      (λ z. refl) in
      goes_cons (goes_addi _ (λ z. sizing z 0 0 0) n (HEADER_WORDS - 1) (omega (arith, l)) refl (omega arith)
      (λ z. refl) (λ z. refl))
      (goes_seq (bit_goes 4 bit_4 x 0 (omega arith) (few_left x 16 big (omega arith) (omega arith)) (has_not 0 4 refl)
      (has_now 0 4 refl))
      (goes_seq (bit_goes 3 bit_3 x a (omega (arith, la)) (few_left x (a + 8) big (omega arith) (omega (arith, la)))
      (has_not a 3 (omega (arith, ma))) (has_now a 3 (omega (arith, ma))))
      (goes_seq (bit_goes 2 bit_2 x b (omega (arith, la, lb))
      (few_left x (b + 4) big (omega arith) (omega (arith, la, lb))) (has_not b 2 (omega (arith, mb)))
      (has_now b 2 (omega (arith, mb))))
      (goes_seq (bit_goes 1 bit_1 x c (omega (arith, la, lb, lc))
      (few_left x (c + 2) big (omega arith) (omega (arith, la, lb, lc))) (has_not c 1 (omega (arith, mc)))
      (has_now c 1 (omega (arith, mc))))
      (goes_seq (bit_goes 0 bit_0 x d (omega (arith, la, lb, lc, ld))
      (few_left x (d + 1) big (omega arith) (omega (arith, la, lb, lc, ld))) (has_not d 0 (omega (arith, md)))
      (has_now d 0 (omega (arith, md))))
      (goes_cons (goes_to refl refl (ap (λ z. sizing x z 0 0) swapped)
      (goes_addi _ (λ z. sizing x z 0 0) e 1 (omega (arith, la, lb, lc, ld, le)) refl (omega arith) (λ z. refl)
      (λ z. refl)))
      (goes_mirror size_up)))))))
