-- What the machine's comparisons give for the operators.
use Rattle.std.proofs.Common.{◌≡◌, ◌≢◌, ℕ, ◌+◌, ◌%◌, ◌^◌, ◌<◌, ◌≤◌, Bool, true, false, refl, sym, ap, ◌∙◌, arith}
use Rattle.std.proofs.Common.{⊎_elim}
use Rattle.std.specs.Prelude.{not, ◌&&◌, ◌||◌, nat_eq, nat_lt, bit_xor, bit_and, bit_or}
use Rattle.std.proofs.lemmas.Bool.Decides.{nat_tests}
use Rattle.std.proofs.lemmas.Bool.{cases_lt, cases_eq}
use Rattle.std.proofs.lemmas.Int.{ints}
use Rattle.code_scope.specs.pisa_isa.Table.{word_of}
use Rattle.code_scope.specs.rpp_words.Words.{is_less}
use Rattle.code_scope.specs.roopl_semantics.Operators.{is_true, truth_word}
use Rattle.code_scope.proofs.pisa_isa_laws.Back.{not-not}

pub word_is_truth : (b : Bool) → word_of b ≡ truth_word b
word_is_truth true = refl
word_is_truth false = refl

-- signed order as an order of naturals
less_is : (a b : ℕ) → a < 2 ^ 32 → b < 2 ^ 32 → is_less a b ≡ nat_lt ((a + 2 ^ 31) % 2 ^ 32) ((b + 2 ^ 31) % 2 ^ 32)
less_is a b h k = grind (arith, ints, nat_tests)

less_yes : (a b : ℕ) → a < 2 ^ 32 → b < 2 ^ 32 → (a + 2 ^ 31) % 2 ^ 32 < (b + 2 ^ 31) % 2 ^ 32 → is_less a b ≡ true
less_yes a b h k l = less_is a b h k ∙ grind (arith, nat_tests)

less_no : (a b : ℕ) → a < 2 ^ 32 → b < 2 ^ 32 → (b + 2 ^ 31) % 2 ^ 32 ≤ (a + 2 ^ 31) % 2 ^ 32 → is_less a b ≡ false
less_no a b h k l = less_is a b h k ∙ grind (arith, nat_tests)

both : (x y p q : Bool) → x ≡ p → y ≡ q → bit_xor (word_of x) (word_of y) ≡ bit_xor (word_of p) (word_of q)
both x y p q e f = ap (λ z. bit_xor (word_of z) (word_of y)) e ∙ ap (λ z. bit_xor (word_of p) (word_of z)) f

-- both orders together say whether two words differ
pub differ : (a b : ℕ) → a < 2 ^ 32 → b < 2 ^ 32 → bit_xor (word_of (is_less a b)) (word_of (is_less b a))
    ≡ truth_word (not (nat_eq a b))
differ a b h k = ⊎_elim (λ e. same e) (λ n. other n) (cases_eq a b)
  where
    same : a ≡ b → bit_xor (word_of (is_less a b)) (word_of (is_less b a)) ≡ truth_word (not (nat_eq a b))
    same e =
        let t : nat_eq a b ≡ true = grind (arith, nat_tests) in
        both _ _ false false (less_no a b h k (omega arith)) (less_no b a k h (omega arith))
        ∙ ap (λ z. truth_word (not z)) (sym t)

    other : a ≢ b → bit_xor (word_of (is_less a b)) (word_of (is_less b a)) ≡ truth_word (not (nat_eq a b))
    other n =
        let t : nat_eq a b ≡ false = grind (arith, nat_tests) in
        ⊎_elim (λ l. both _ _ true false (less_yes a b h k l) (less_no b a k h (omega arith))
        ∙ ap (λ z. truth_word (not z)) (sym t)) (λ g. both _ _ false true (less_no a b h k (omega arith))
        (less_yes b a k h (omega arith)) ∙ ap (λ z. truth_word (not z)) (sym t))
        (cases_lt ((a + 2 ^ 31) % 2 ^ 32) ((b + 2 ^ 31) % 2 ^ 32))

turned : (x : ℕ) → not (nat_eq 0 x) ≡ is_true x
turned x = grind (arith, nat_tests)

-- so the truth value of a word
pub truth_of : (x : ℕ) → x < 2 ^ 32 → bit_xor (word_of (is_less 0 x)) (word_of (is_less x 0)) ≡ truth_word (is_true x)
truth_of x h = differ 0 x (omega arith) h ∙ ap truth_word (turned x)

pub flipped : (b : Bool) → bit_xor (truth_word b) 1 ≡ truth_word (not b)
flipped true = refl
flipped false = refl

-- and the other way
pub equal : (a b : ℕ) → a < 2 ^ 32 → b < 2 ^ 32 → bit_xor (bit_xor (word_of (is_less a b)) (word_of (is_less b a))) 1
    ≡ truth_word (nat_eq a b)
equal a b h k = ap (λ z. bit_xor z 1) (differ a b h k) ∙ flipped (not (nat_eq a b))
    ∙ ap truth_word (not-not (nat_eq a b))

pub not_less : (b : Bool) → bit_xor (word_of b) 1 ≡ truth_word (not b)
not_less true = refl
not_less false = refl

pub both_true : (p q : Bool) → bit_and (truth_word p) (truth_word q) ≡ truth_word (p && q)
both_true true true = refl
both_true true false = refl
both_true false true = refl
both_true false false = refl

pub one_true : (p q : Bool) → bit_or (truth_word p) (truth_word q) ≡ truth_word (p || q)
one_true true true = refl
one_true true false = refl
one_true false true = refl
one_true false false = refl

-- ---- an array's address and an index

-- an address is above 0 if it is not 0
pub above : (y : ℕ) → y < 2 ^ 31 → y ≢ 0 → is_less 0 y ≡ true
above y h n = less_yes 0 y (omega arith) (omega arith) (omega arith)

pub not_above : is_less 0 0 ≡ false
not_above = refl

-- a length is not below 0, so an unsigned index is below it exactly if one of these two says so
pub past_end : (i n : ℕ) → i < 2 ^ 32 → n < 2 ^ 31 → bit_xor (bit_xor (word_of (is_less i n)) (word_of (is_less i 0))) 1
    ≡ truth_word (not (nat_lt i n))
past_end i n h k = ⊎_elim (λ l. ⊎_elim (λ m. inside l m) (λ g. beyond l g) (cases_lt i n)) (λ g. negative g)
    (cases_lt i (2 ^ 31))
  where
    table : (x y p q : Bool) → x ≡ p → y ≡ q → bit_xor (bit_xor (word_of x) (word_of y)) 1
        ≡ bit_xor (bit_xor (word_of p) (word_of q)) 1
    table x y p q e f = ap (λ z. bit_xor (bit_xor (word_of z) (word_of y)) 1) e
        ∙ ap (λ z. bit_xor (bit_xor (word_of p) (word_of z)) 1) f

    inside : i < 2 ^ 31 → i < n → bit_xor (bit_xor (word_of (is_less i n)) (word_of (is_less i 0))) 1
        ≡ truth_word (not (nat_lt i n))
    inside l m =
        let t : nat_lt i n ≡ true = grind (arith, nat_tests) in
        table _ _ true false (less_yes i n h (omega arith) (omega arith)) (less_no i 0 h (omega arith) (omega arith))
        ∙ ap (λ z. truth_word (not z)) (sym t)

    beyond : i < 2 ^ 31 → n ≤ i → bit_xor (bit_xor (word_of (is_less i n)) (word_of (is_less i 0))) 1
        ≡ truth_word (not (nat_lt i n))
    beyond l g =
        let t : nat_lt i n ≡ false = grind (arith, nat_tests) in
        table _ _ false false (less_no i n h (omega arith) (omega arith)) (less_no i 0 h (omega arith) (omega arith))
        ∙ ap (λ z. truth_word (not z)) (sym t)

    negative : 2 ^ 31 ≤ i → bit_xor (bit_xor (word_of (is_less i n)) (word_of (is_less i 0))) 1
        ≡ truth_word (not (nat_lt i n))
    negative g =
        let t : nat_lt i n ≡ false = grind (arith, nat_tests) in
        table _ _ true true (less_yes i n h (omega arith) (omega arith)) (less_yes i 0 h (omega arith) (omega arith))
        ∙ ap (λ z. truth_word (not z)) (sym t)
