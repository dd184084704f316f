-- A fragment that leads from one memory to another, and back; and a fragment that traps.
use Rattle.std.proofs.Common.{◌≡◌, ℕ, ◌+◌, ◌^◌, ◌<◌, ◌≤◌, Bool, true, false, List, [], ◌∷◌, ◌++◌, length}
use Rattle.std.proofs.Common.{length-set, refl, ap, ◌∙◌, subst, arith}
use Rattle.std.specs.Prelude.{bit_xor, nat_lt, if◌then◌else◌, slice_index, slice_set}
use Rattle.std.specs.Int.Bits.{xor_zero_l}
use Rattle.std.proofs.lemmas.List.{get_or-set_same, set-set, set-get_or}
use Rattle.std.proofs.lemmas.Bool.Decides.{nat_tests}
use Rattle.code_scope.specs.rpp_words.Words.{sum_of, difference_of, negated}
use Rattle.code_scope.proofs.rpp_words_laws.Laws.{xor-twice, sum_of-negated, difference_of-sum_of, sum_of-difference_of}
use Rattle.code_scope.specs.pisa_isa.declared.cell.Cell.{Cell}
use Rattle.code_scope.specs.pisa_isa.Machine.{Memory}
use Rattle.code_scope.specs.paired_code.declared.part.Symbol.{Symbol}
use Rattle.code_scope.specs.paired_code.declared.part.Symbol.TheVariants.{Own}
use Rattle.code_scope.specs.paired_code.Machine.{Image, is_single}
use Rattle.code_scope.specs.paired_code.Layout.{mirror_cells, Test, test_cells}
use Rattle.code_scope.specs.paired_code.Pieces.{Outcome, Done, Trapped, Bad, Runs, outcome_after}
use Rattle.code_scope.specs.paired_code.Laws.{outcome_of, TestPasses, TestFails}
use Rattle.code_scope.proofs.paired_code_laws.Small.{runs_empty, runs_single}
use Rattle.code_scope.proofs.paired_code_laws.Checks.{runs_passes, runs_fails}
use Rattle.code_scope.proofs.paired_code_laws.Contract.{seq_law, mirror_law}
use Rattle.register_expressions.specs.Code.{around}

-- there along the line and back against it, in k steps
pub record Goes (w : List Symbol) (k : ℕ) (m m' : Memory) : Type 0 where
  pub ahead : (im : Image) → Runs im w false m (Done m' k)
  pub back : (im : Image) → Runs im w true m' (Done m k)

-- a trap, in at most n steps, along the line
pub record Traps (w : List Symbol) (n code : ℕ) (m : Memory) : Type 0 where
  pub ahead : (im : Image) → (k : ℕ) × (k ≤ n) × Runs im w false m (Trapped code k)

done_memory : {m m' : Memory} {k k' : ℕ} → Done m k ≡ Done m' k' → m ≡ m'
done_memory e = cc

at_memory : {im : Image} {q : List Symbol} {d : Bool} {m1 : Memory} {k1 : ℕ} {o : Outcome} → Runs im q d m1 o
    → (m' : Memory) (k : ℕ) → Done m1 k1 ≡ Done m' k → Runs im q d m' o
at_memory {im = im} {q = q} {d = d} {o = o} r m' k e = subst (λ z. Runs im q d z o) (done_memory e) r

seq_runs : (im : Image) (p q : List Symbol) (m m1 : Memory) (k1 : ℕ) (o : Outcome) → Runs im p false m (Done m1 k1)
    → Runs im q false m1 o → Runs im (p ++ q) false m (outcome_after k1 o)
seq_runs im p q m m1 k1 o r s = (seq_law p q).ahead im m (Done m1 k1) (λ z. o) r (λ m' k e. at_memory s m' k e)

seq_back : (im : Image) (p q : List Symbol) (m m1 : Memory) (k1 : ℕ) (o : Outcome) → Runs im q true m (Done m1 k1)
    → Runs im p true m1 o → Runs im (p ++ q) true m (outcome_after k1 o)
seq_back im p q m m1 k1 o r s = (seq_law p q).back im m (Done m1 k1) (λ z. o) r (λ m' k e. at_memory s m' k e)

seq_traps : (im : Image) (p q : List Symbol) (m : Memory) (w k : ℕ) → Runs im p false m (Trapped w k)
    → Runs im (p ++ q) false m (Trapped w k)
seq_traps im p q m w k r = (seq_law p q).ahead im m (Trapped w k) (λ z. Trapped w k) r (λ m' k' e. cc)

seq_traps_back : (im : Image) (p q : List Symbol) (m : Memory) (w k : ℕ) → Runs im q true m (Trapped w k)
    → Runs im (p ++ q) true m (Trapped w k)
seq_traps_back im p q m w k r = (seq_law p q).back im m (Trapped w k) (λ z. Trapped w k) r (λ m' k' e. cc)

steps_are : {im : Image} {w : List Symbol} {d : Bool} {m m' : Memory} {j k : ℕ} → j ≡ k → Runs im w d m (Done m' j)
    → Runs im w d m (Done m' k)
steps_are {im = im} {w = w} {d = d} {m = m} {m' = m'} e r = subst (λ z. Runs im w d m (Done m' z)) e r

-- ---- in a row

pub nothing : (m : Memory) → Goes [] 0 m m
nothing m = record { ahead = λ im. runs_empty im false m; back = λ im. runs_empty im true m }

pub goes_seq : {p q : List Symbol} {j k : ℕ} {m m1 m2 : Memory} → Goes p j m m1 → Goes q k m1 m2
    → Goes (p ++ q) (j + k) m m2
goes_seq {p = p} {q = q} {j = j} {k = k} {m = m} {m1 = m1} {m2 = m2} a b = record {
  ahead = λ im. seq_runs im p q m m1 j (Done m2 k) (a.ahead im) (b.ahead im);
  back = λ im. let e : k + j ≡ j + k = omega arith in steps_are e
      (seq_back im p q m2 m1 k (Done m j) (b.back im) (a.back im));
}

pub goes_cons : {c : Symbol} {q : List Symbol} {k : ℕ} {m m1 m2 : Memory} → Goes (c ∷ []) 1 m m1 → Goes q k m1 m2
    → Goes (c ∷ q) (1 + k) m m2
goes_cons {c = c} {q = q} a b = goes_seq {p = c ∷ []} {q = q} a b

pub goes_mirror : {w : List Symbol} {k : ℕ} {m m' : Memory} → Goes w k m m' → Goes (mirror_cells w) k m' m
goes_mirror {w = w} {k = k} {m = m} {m' = m'} a = record {
  ahead = λ im. (mirror_law w).turns im false m' (Done m k) (a.back im);
  back = λ im. (mirror_law w).turns im true m (Done m' k) (a.ahead im);
}

pub goes_around : {w mid : List Symbol} {j k : ℕ} {m m1 m2 m' : Memory} → Goes w j m m1 → Goes mid k m1 m2
    → Goes w j m' m2 → Goes (around w mid) (j + (k + j)) m m'
goes_around a b c = goes_seq a (goes_seq b (goes_mirror c))

pub goes_to : {w : List Symbol} {j k : ℕ} {m m1 m' m1' : Memory} → j ≡ k → m ≡ m1 → m' ≡ m1' → Goes w j m m'
    → Goes w k m1 m1'
goes_to {w = w} {j = j} {k = k} {m = m} {m1 = m1} {m' = m'} {m1' = m1'} ek e e' g =
    subst (λ z. Goes w k m1 z) e' (subst (λ z. Goes w k z m') e (subst (λ z. Goes w z m m') ek g))

-- ---- traps

pub traps_first : {p : List Symbol} {n code : ℕ} {m : Memory} (q : List Symbol) → Traps p n code m
    → Traps (p ++ q) n code m
traps_first {p = p} {code = code} {m = m} q t = record {
  ahead = λ im. let a = t.ahead im in (a.0, a.1, seq_traps im p q m code a.0 a.2);
}

pub traps_then : {p q : List Symbol} {j n code : ℕ} {m m1 : Memory} → Goes p j m m1 → Traps q n code m1
    → Traps (p ++ q) (j + n) code m
traps_then {p = p} {q = q} {j = j} {n = n} {code = code} {m = m} {m1 = m1} g t = record {
  ahead = λ im. let a = t.ahead im in let l = a.1 in (
    j + a.0,
    omega arith,
    seq_runs im p q m m1 j (Trapped code a.0) (g.ahead im) a.2,
  );
}

pub traps_more : {p : List Symbol} {n n' code : ℕ} {m : Memory} → n ≤ n' → Traps p n code m → Traps p n' code m
traps_more h t = record { ahead = λ im. let a = t.ahead im in let l = a.1 in (a.0, omega arith, a.2) }

-- a trap, in at most n steps, in either direction
pub record TrapsBoth (w : List Symbol) (n code : ℕ) (m : Memory) : Type 0 where
  pub runs : (im : Image) (d : Bool) → (k : ℕ) × (k ≤ n) × Runs im w d m (Trapped code k)

-- a fragment that begins with its trap traps in either direction
pub traps_around : {w : List Symbol} {n code : ℕ} {m : Memory} (mid : List Symbol) → Traps w n code m
    → TrapsBoth (around w mid) n code m
traps_around {w = w} {n = n} {code = code} {m = m} mid t = record { runs = go }
  where
    go : (im : Image) (d : Bool) → (k : ℕ) × (k ≤ n) × Runs im (around w mid) d m (Trapped code k)
    go im false = let a = t.ahead im in (a.0, a.1, seq_traps im w (mid ++ mirror_cells w) m code a.0 a.2)
    go im true =
        let a = t.ahead im in (
          a.0,
          a.1,
          seq_traps_back im w (mid ++ mirror_cells w) m code a.0
              (seq_traps_back im mid (mirror_cells w) m code a.0
              ((mirror_law w).turns im true m (Trapped code a.0) a.2)),
        )

-- and so does one whose middle traps in either direction
pub traps_inside : {w mid : List Symbol} {j n code : ℕ} {m m1 : Memory} → Goes w j m m1 → TrapsBoth mid n code m1
    → TrapsBoth (around w mid) (j + n) code m
traps_inside {w = w} {mid = mid} {j = j} {n = n} {code = code} {m = m} {m1 = m1} g t = record { runs = go }
  where
    go : (im : Image) (d : Bool) → (k : ℕ) × (k ≤ j + n) × Runs im (around w mid) d m (Trapped code k)
    go im false =
        let a = t.runs im false in
        let l = a.1 in (
          j + a.0,
          omega arith,
          seq_runs im w (mid ++ mirror_cells w) m m1 j (Trapped code a.0) (g.ahead im)
              (seq_traps im mid (mirror_cells w) m1 code a.0 a.2),
        )
    go im true =
        let a = t.runs im true in
        let l = a.1 in (
          j + a.0,
          omega arith,
          seq_traps_back im w (mid ++ mirror_cells w) m code (j + a.0)
              (seq_back im mid (mirror_cells w) m m1 j (Trapped code a.0)
              ((mirror_law w).turns im true m (Done m1 j) (g.ahead im)) a.2),
        )

pub both_more : {w : List Symbol} {n n' code : ℕ} {m : Memory} → n ≤ n' → TrapsBoth w n code m → TrapsBoth w n' code m
both_more h t = record { runs = λ im d. let a = t.runs im d in let l = a.1 in (a.0, omega arith, a.2) }

pub traps_mid : {w mid : List Symbol} {j n code : ℕ} {m m1 : Memory} → Goes w j m m1 → Traps mid n code m1
    → Traps (around w mid) (j + n) code m
traps_mid {w = w} {mid = mid} g t = traps_then g (traps_first (mirror_cells w) t)

-- in a given direction, between the memories of a fragment that goes
pub runs_along : {w : List Symbol} {k : ℕ} {m m' : Memory} → Goes w k m m' → Goes w k m' m → (im : Image) (d : Bool)
    → Runs im w d m (Done m' k)
runs_along a b im false = a.ahead im
runs_along a b im true = b.back im

-- ---- one cell

pub goes_cell : (c : Cell) (m m' : Memory) → is_single c ≡ true → c.imm < 2 ^ 32 → outcome_of false c m ≡ Done m' 1
    → outcome_of true c m' ≡ Done m 1 → Goes (Own c ∷ []) 1 m m'
goes_cell c m m' s w e e' = record {
  ahead = λ im. subst (λ o. Runs im (Own c ∷ []) false m o) e (runs_single im c false m s w);
  back = λ im. subst (λ o. Runs im (Own c ∷ []) true m' o) e' (runs_single im c true m' s w);
}

-- one that xors y into what x denotes
pub goes_xor : (c : Cell) (put : ℕ → Memory) (x y : ℕ) → is_single c ≡ true → c.imm < 2 ^ 32
    → ((x : ℕ) → outcome_of false c (put x) ≡ Done (put (bit_xor x y)) 1)
    → ((x : ℕ) → outcome_of true c (put x) ≡ Done (put (bit_xor x y)) 1)
    → Goes (Own c ∷ []) 1 (put x) (put (bit_xor x y))
goes_xor c put x y s w e e' = goes_cell c (put x) (put (bit_xor x y)) s w (e x)
    (e' (bit_xor x y) ∙ ap (λ z. Done (put z) 1) (xor-twice x y))

-- one into a register that is 0
pub goes_set : (c : Cell) (put : ℕ → Memory) (y : ℕ) → is_single c ≡ true → c.imm < 2 ^ 32
    → ((x : ℕ) → outcome_of false c (put x) ≡ Done (put (bit_xor x y)) 1)
    → ((x : ℕ) → outcome_of true c (put x) ≡ Done (put (bit_xor x y)) 1) → Goes (Own c ∷ []) 1 (put 0) (put y)
goes_set c put y s w e e' = goes_to refl refl (ap put (xor_zero_l y)) (goes_xor c put 0 y s w e e')

-- and one more after it
pub goes_xor_to : (c : Cell) (put : ℕ → Memory) (x y z : ℕ) → bit_xor x y ≡ z → is_single c ≡ true → c.imm < 2 ^ 32
    → ((x : ℕ) → outcome_of false c (put x) ≡ Done (put (bit_xor x y)) 1)
    → ((x : ℕ) → outcome_of true c (put x) ≡ Done (put (bit_xor x y)) 1) → Goes (Own c ∷ []) 1 (put x) (put z)
goes_xor_to c put x y z h s w e e' = goes_to refl refl (ap put h) (goes_xor c put x y s w e e')

pub goes_addi_word : (c : Cell) (put : ℕ → Memory) (x i : ℕ) → x < 2 ^ 32 → i < 2 ^ 32 → is_single c ≡ true
    → c.imm < 2 ^ 32
    → ((x : ℕ) → outcome_of false c (put x) ≡ Done (put (sum_of x i)) 1)
    → ((x : ℕ) → outcome_of true c (put x) ≡ Done (put (sum_of x (negated i))) 1)
    → Goes (Own c ∷ []) 1 (put x) (put (sum_of x i))
goes_addi_word c put x i h k s w e e' = goes_cell c (put x) (put (sum_of x i)) s w (e x)
    (e' (sum_of x i) ∙ ap (λ z. Done (put z) 1) (sum_of-negated x i h k))

-- if nothing wraps
pub goes_addi : (c : Cell) (put : ℕ → Memory) (x i : ℕ) → x + i < 2 ^ 32 → is_single c ≡ true → c.imm < 2 ^ 32
    → ((x : ℕ) → outcome_of false c (put x) ≡ Done (put (sum_of x i)) 1)
    → ((x : ℕ) → outcome_of true c (put x) ≡ Done (put (sum_of x (negated i))) 1)
    → Goes (Own c ∷ []) 1 (put x) (put (x + i))
goes_addi c put x i h s w e e' =
    let there : sum_of x i ≡ x + i = omega arith in
    goes_to refl refl (ap put there) (goes_addi_word c put x i (omega arith) (omega arith) s w e e')

pub goes_add : (c : Cell) (put : ℕ → Memory) (x y : ℕ) → x < 2 ^ 32 → y < 2 ^ 32 → is_single c ≡ true → c.imm < 2 ^ 32
    → ((x : ℕ) → outcome_of false c (put x) ≡ Done (put (sum_of x y)) 1)
    → ((x : ℕ) → outcome_of true c (put x) ≡ Done (put (difference_of x y)) 1)
    → Goes (Own c ∷ []) 1 (put x) (put (sum_of x y))
goes_add c put x y h k s w e e' = goes_cell c (put x) (put (sum_of x y)) s w (e x)
    (e' (sum_of x y) ∙ ap (λ z. Done (put z) 1) (difference_of-sum_of x y h k))

pub goes_sub : (c : Cell) (put : ℕ → Memory) (x y : ℕ) → x < 2 ^ 32 → y < 2 ^ 32 → is_single c ≡ true → c.imm < 2 ^ 32
    → ((x : ℕ) → outcome_of false c (put x) ≡ Done (put (difference_of x y)) 1)
    → ((x : ℕ) → outcome_of true c (put x) ≡ Done (put (sum_of x y)) 1)
    → Goes (Own c ∷ []) 1 (put x) (put (difference_of x y))
goes_sub c put x y h k s w e e' = goes_cell c (put x) (put (difference_of x y)) s w (e x)
    (e' (difference_of x y) ∙ ap (λ z. Done (put z) 1) (sum_of-difference_of x y h k))

by_test : (t : Bool) (o o' : Outcome) → t ≡ true → (if t then o else o') ≡ o
by_test true o o' e = refl
by_test false o o' e = cc

-- a register and the word at an address are exchanged
pub goes_exch : (c : Cell) (put : ℕ → List ℕ → Memory) (a x : ℕ) (cells : List ℕ) → a < length cells
    → is_single c ≡ true → c.imm < 2 ^ 32
    → ((x : ℕ) (zs : List ℕ) → outcome_of false c (put x zs)
    ≡ (if nat_lt a (length zs) then Done (put (slice_index zs a) (slice_set zs a x)) 1 else Bad a 0))
    → ((x : ℕ) (zs : List ℕ) → outcome_of true c (put x zs)
    ≡ (if nat_lt a (length zs) then Done (put (slice_index zs a) (slice_set zs a x)) 1 else Bad a 0))
    → Goes (Own c ∷ []) 1 (put x cells) (put (slice_index cells a) (slice_set cells a x))
goes_exch c put a x cells h s w e e' =
    let t : nat_lt a (length cells) ≡ true = grind (arith, nat_tests) in
    let t' : nat_lt a (length (slice_set cells a x)) ≡ true = rw (length-set cells a x) t in
    let same : slice_index (slice_set cells a x) a ≡ x = get_or-set_same cells a x 0 h in
    let back : slice_set (slice_set cells a x) a (slice_index cells a) ≡ cells = set-set cells a x (slice_index cells a)
    ∙ set-get_or cells a 0 in
    goes_cell c (put x cells) (put (slice_index cells a) (slice_set cells a x)) s w
    (e x cells ∙ by_test _ _ _ t)
    (e' (slice_index cells a) (slice_set cells a x) ∙ by_test _ _ _ t'
    ∙ ap (λ z. Done (put z (slice_set (slice_set cells a x) a (slice_index cells a))) 1) same
    ∙ ap (λ z. Done (put x z) 1) back)

-- a check passes if its test holds, and else stops at once
pub goes_check : (t : Test) (code : ℕ) (m : Memory) → TestPasses t m → Goes (test_cells t code) 2 m m
goes_check t code m h = record {
  ahead = λ im. runs_passes im false t code m h;
  back = λ im. runs_passes im true t code m h;
}

pub traps_check : (t : Test) (code : ℕ) (m : Memory) → TestFails t m → Traps (test_cells t code) 1 code m
traps_check t code m h = record { ahead = λ im. (1, omega arith, runs_fails im false t code m h) }
