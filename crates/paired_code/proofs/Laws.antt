-- The laws of the fragments.
use Rattle.std.proofs.Common.{◌≡◌, ℕ, ◌+◌, Bool, true, false, List, ◌++◌, length, refl, subst, arith, length-append}
use Rattle.code_conventions.specs.pisa_isa.Machine.{Memory}
use Rattle.paired_code.specs.declared.part.Symbol.{Symbol}
use Rattle.paired_code.specs.Machine.{Image}
use Rattle.paired_code.specs.Layout.{Frame}
use Rattle.paired_code.specs.Pieces.{Outcome, Done, Trapped, Bad, Still, Ends, finishes, traps, bad, still, Runs, Will}
use Rattle.paired_code.specs.Pieces.{outcome_after, near_end, far_end}
use Rattle.paired_code.proofs.Ways.{front, rest, ends_wider, ends_after}

pub ends_at : {im : Image} {f : Frame} {d : Bool} {a b i i' j j' : ℕ} {m : Memory} {o : Outcome} → i ≡ i' → j ≡ j'
    → Ends im f d a b i m j o → Ends im f d a b i' m j' o
ends_at {im = im} {f = f} {d = d} {a = a} {b = b} {i = i} {i' = i'} {j = j} {m = m} {o = o} e k r =
    subst (λ z. Ends im f d a b i' m z o) k (subst (λ z. Ends im f d a b z m j o) e r)

-- a run that is known is one of the ways, and one way is the run
pub will_of : (im : Image) (p : List Symbol) (d : Bool) (m : Memory) (o : Outcome) (Q : Outcome → Type 0)
    → Runs im p d m o → Q o → Will im p d m Q
will_of im p d m o Q r q = record { will = λ f i h st. (o, r.run f i h st, q) }

pub runs_of : (im : Image) (p : List Symbol) (d : Bool) (m : Memory) (o : Outcome) → Will im p d m (λ x. x ≡ o)
    → Runs im p d m o
runs_of im p d m o w = record {
  run = λ f i h st. let a = w.will f i h st in
      subst (λ x. Ends im f d i (i + length p) (near_end d i (i + length p)) m (far_end d i (i + length p)) x) a.2 a.1;
}

pub will_more : (im : Image) (p : List Symbol) (d : Bool) (m : Memory) (Q Q' : Outcome → Type 0)
    → ((o : Outcome) → Q o → Q' o) → Will im p d m Q → Will im p d m Q'
will_more im p d m Q Q' t w = record { will = λ f i h st. let a = w.will f i h st in (a.0, a.1, t a.0 a.2) }

-- what is to hold for a run, if the next one is to come
abbrev pub Next : (Memory → ℕ → Type 0) → (Outcome → Type 0) → Outcome → Type 0
Next W Q (Done m k) = W m k
Next W Q (Trapped w k) = Q (Trapped w k)
Next W Q (Bad w k) = Q (Bad w k)
Next W Q (Still k) = Q (Still k)

join_two : {im : Image} {f : Frame} {d : Bool} {a b i j l : ℕ} {m : Memory} {o : Outcome} (W : Memory → ℕ → Type 0)
    (Q : Outcome → Type 0) → Ends im f d a b i m j o → Next W Q o
    → ((m1 : Memory) (k : ℕ) → W m1 k → (o : Outcome) × Ends im f d a b j m1 l o × Q (outcome_after k o))
    → (o : Outcome) × Ends im f d a b i m l o × Q o
join_two W Q (finishes {m' = m'} {k = k} w) n r = let z = r m' k n in (outcome_after k z.0, ends_after w z.1, z.2)
join_two W Q (traps {w = w} {k = k} h) n r = (Trapped w k, traps h, n)
join_two W Q (bad {w = w} {k = k} h) n r = (Bad w k, bad h, n)
join_two W Q (still {k = k} g) n r = (Still k, still g, n)

pub will_seq : (im : Image) (p q : List Symbol) (m : Memory) (Q : Outcome → Type 0)
    → Will im p false m (Next (λ m1 k. Will im q false m1 (λ o. Q (outcome_after k o))) Q) → Will im (p ++ q) false m Q
will_seq im p q m Q r = record {
  will = λ f i h st.
      let l : i + length p + length q ≡ i + length (p ++ q) = omega (arith, length-append p q) in
      let a = r.will f i (omega arith) (front im f i p q st) in
      join_two _ Q (ends_wider i (i + length (p ++ q)) (omega arith) (omega arith) a.1) a.2 (λ m1 k w.
      let z = w.will f (i + length p) (omega arith) (rest im f i p q st) in
      (z.0, ends_at refl l (ends_wider i (i + length (p ++ q)) (omega arith) (omega arith) z.1), z.2));
}

pub will_seq_back : (im : Image) (p q : List Symbol) (m : Memory) (Q : Outcome → Type 0)
    → Will im q true m (Next (λ m1 k. Will im p true m1 (λ o. Q (outcome_after k o))) Q) → Will im (p ++ q) true m Q
will_seq_back im p q m Q r = record {
  will = λ f i h st.
      let l : i + length p + length q ≡ i + length (p ++ q) = omega (arith, length-append p q) in
      let a = r.will f (i + length p) (omega arith) (rest im f i p q st) in
      join_two _ Q (ends_at l refl (ends_wider i (i + length (p ++ q)) (omega arith) (omega arith) a.1)) a.2 (λ m1 k w.
      let z = w.will f i (omega arith) (front im f i p q st) in
      (z.0, ends_wider i (i + length (p ++ q)) (omega arith) (omega arith) z.1, z.2));
}
