-- The law of branch_if.
use Rattle.std.proofs.Common.{◌≡◌, ◌≢◌, ℕ, ◌+◌, ◌^◌, ◌<◌, Bool, true, false, List, length, refl, sym, subst, arith}
use Rattle.std.proofs.Common.{length-append}
use Rattle.code_conventions.specs.pisa_isa.Machine.{Memory}
use Rattle.code_conventions.specs.Cells.{bra}
use Rattle.paired_code.specs.declared.part.Symbol.{Symbol}
use Rattle.paired_code.specs.Machine.{Image, memory_reg}
use Rattle.paired_code.specs.Layout.{Frame, Stands, between, branch_cells}
use Rattle.paired_code.specs.Pieces.{Outcome, Done, Will, outcome_around, around_no}
use Rattle.paired_code.proofs.Steps.{Has}
use Rattle.paired_code.proofs.Ways.{front, rest, has, and_then, ends_wider, ends_around, Fork, fork_at, fork_passed}
use Rattle.paired_code.proofs.Ways.{fork_taken, jump}
use Rattle.paired_code.proofs.Laws.{ends_at}

pub between_same : (i j x y : ℕ) → i + y ≡ j + x → i < 2 ^ 30 → j < 2 ^ 30 → x < 2 ^ 30 → y < 2 ^ 30
    → between i j ≡ between x y
between_same i j x y e h1 h2 h3 h4 = omega arith

pub fork_by : {im : Image} {f : Frame} {r x : ℕ} (w w' : ℕ) → w ≡ w' → Fork im f r x w → Fork im f r x w'
fork_by {im = im} {f = f} {r = r} {x = x} w w' e k = subst (λ z. Fork im f r x z) e k

pub bra_by : (im : Image) (f : Frame) (x w w' : ℕ) → w ≡ w' → Has im f x (bra w) → Has im f x (bra w')
bra_by im f x w w' e k = subst (λ z. Has im f x (bra z)) e k

module _ (im : Image) (f : Frame) (r : ℕ) (p q : List Symbol) (i : ℕ) where
  abbrev at_q : ℕ
  at_q = i + 1 + 1

  abbrev at_n : ℕ
  at_n = at_q + length q

  abbrev at_y : ℕ
  at_y = at_n + 1

  abbrev at_p : ℕ
  at_p = at_y + 1 + 1

  abbrev at_u : ℕ
  at_u = at_p + length p

  abbrev at_e : ℕ
  at_e = at_u + 1 + 1

  abbrev at_v : ℕ
  at_v = at_e + 1

  record Parts : Type 0 where
    t : Fork im f r i (between i at_y)
    q_there : Stands im f at_q q
    n : Has im f at_n (bra (between at_n at_e))
    y : Fork im f r at_y (between at_y i)
    p_there : Stands im f at_p p
    u : Fork im f r at_u (between at_u at_v)
    e : Has im f at_e (bra (between at_e at_n))
    v : Fork im f r at_v (between at_v at_u)

  branch_length : length (branch_cells r p q) ≡ 10 + length p + length q
  branch_length = simp length-append (omega arith)

  parts : i + length (branch_cells r p q) < 2 ^ 30 → Stands im f i (branch_cells r p q) → Parts
  parts h s =
      let len : length (branch_cells r p q) ≡ 10 + length p + length q = branch_length in
      let s1 = s.1.1 in
      let s2 = rest im f at_q q _ s1 in
      let s3 = s2.1 in
      let s4 = s3.1.1 in
      let s5 = rest im f at_p p _ s4 in
      let s6 = s5.1.1 in
      let s7 = s6.1 in
      record {
        t = fork_by _ _ (between_same 0 (3 + length q) i at_y (omega arith) (omega arith) (omega arith) (omega arith)
            (omega arith)) (fork_at im f r i _ s.0 s.1.0);
        q_there = front im f at_q q _ s1;
        n = bra_by im f at_n _ _ (between_same 0 (5 + length p) at_n at_e (omega arith) (omega arith) (omega arith)
            (omega arith) (omega arith)) (has im f at_n _ s2.0);
        y = fork_by _ _ (between_same (3 + length q) 0 at_y i (omega arith) (omega arith) (omega arith) (omega arith)
            (omega arith)) (fork_at im f r at_y _ s3.0 s3.1.0);
        p_there = front im f at_p p _ s4;
        u = fork_by _ _ (between_same 0 3 at_u at_v (omega arith) (omega arith) (omega arith) (omega arith)
            (omega arith)) (fork_at im f r at_u _ s5.0 s5.1.0);
        e = bra_by im f at_e _ _ (between_same (5 + length p) 0 at_e at_n (omega arith) (omega arith) (omega arith)
            (omega arith) (omega arith)) (has im f at_e _ s6.0);
        v = fork_by _ _ (between_same 3 0 at_v at_u (omega arith) (omega arith) (omega arith) (omega arith)
            (omega arith)) (fork_at im f r at_v _ s7.0 s7.1.0);
      }

  -- the whole, as the sum of its parts
  whole : i + length (branch_cells r p q) ≡ at_v + 1 + 1
  whole = let len = branch_length in omega arith

pub will_branch_yes : (im : Image) (d : Bool) (r : ℕ) (p q : List Symbol) (m : Memory) (Q Q' : Outcome → Type 0)
    → memory_reg m r ≢ 0 → Will im p d m Q → ((m1 : Memory) (k : ℕ) → Q (Done m1 k) → memory_reg m1 r ≢ 0)
    → ((o : Outcome) → Q o → Q' (outcome_around 3 3 o)) → Will im (branch_cells r p q) d m Q'
will_branch_yes im false r p q m Q Q' nz run keeps t = record {
  will = λ f i h st.
      let w : i + length (branch_cells r p q) ≡ at_v im f r p q i + 1 + 1 = whole im f r p q i in
      let b = i + length (branch_cells r p q) in
      let c = parts im f r p q i h st in
      let a = run.will f (at_p im f r p q i) (omega arith) c.p_there in
      let x = fork_taken im f false i b r i (at_y im f r p q i) m (omega arith) (omega arith) (omega arith)
      (omega arith) (omega arith) (omega arith) (omega arith) nz c.t c.y in (
        outcome_around 3 3 a.0,
        ends_at refl (sym w) (ends_around x (ends_wider i b (omega arith) (omega arith) a.1)
            (λ m1 k e. fork_taken im f false i b r (at_u im f r p q i) (at_v im f r p q i) m1 (omega arith)
            (omega arith) (omega arith) (omega arith) (omega arith) (omega arith) (omega arith)
            (keeps m1 k (subst Q e a.2)) c.u c.v)),
        t a.0 a.2,
      );
}
will_branch_yes im true r p q m Q Q' nz run keeps t = record {
  will = λ f i h st.
      let w : i + length (branch_cells r p q) ≡ at_v im f r p q i + 1 + 1 = whole im f r p q i in
      let b = i + length (branch_cells r p q) in
      let c = parts im f r p q i h st in
      let a = run.will f (at_p im f r p q i) (omega arith) c.p_there in
      let x = fork_taken im f true i b r (at_v im f r p q i) (at_u im f r p q i) m (omega arith) (omega arith)
      (omega arith) (omega arith) (omega arith) (omega arith) (omega arith) nz c.v c.u in (
        outcome_around 3 3 a.0,
        ends_at (sym w) refl (ends_around x (ends_wider i b (omega arith) (omega arith) a.1)
            (λ m1 k e. fork_taken im f true i b r (at_y im f r p q i) i m1 (omega arith) (omega arith) (omega arith)
            (omega arith) (omega arith) (omega arith) (omega arith) (keeps m1 k (subst Q e a.2)) c.y c.t)),
        t a.0 a.2,
      );
}

pub will_branch_no : (im : Image) (d : Bool) (r : ℕ) (p q : List Symbol) (m : Memory) (Q Q' : Outcome → Type 0)
    → memory_reg m r ≡ 0 → Will im q d m Q → ((m1 : Memory) (k : ℕ) → Q (Done m1 k) → memory_reg m1 r ≡ 0)
    → ((o : Outcome) → Q o → Q' (around_no d o)) → Will im (branch_cells r p q) d m Q'
will_branch_no im false r p q m Q Q' z run keeps t = record {
  will = λ f i h st.
      let w : i + length (branch_cells r p q) ≡ at_v im f r p q i + 1 + 1 = whole im f r p q i in
      let b = i + length (branch_cells r p q) in
      let c = parts im f r p q i h st in
      let a = run.will f (at_q im f r p q i) (omega arith) c.q_there in
      let x = fork_passed im f false i b r i _ m (omega arith) (omega arith) z c.t in (
        outcome_around 2 4 a.0,
        ends_at refl (sym w) (ends_around x (ends_wider i b (omega arith) (omega arith) a.1)
            (λ m1 k e. and_then (jump im f false i b (at_n im f r p q i) (at_e im f r p q i) m1 (omega arith)
            (omega arith) (omega arith) (omega arith) (omega arith) (omega arith) (omega arith) c.n c.e)
            (fork_passed im f false i b r (at_v im f r p q i) _ m1 (omega arith) (omega arith)
            (keeps m1 k (subst Q e a.2)) c.v))),
        t a.0 a.2,
      );
}
will_branch_no im true r p q m Q Q' z run keeps t = record {
  will = λ f i h st.
      let w : i + length (branch_cells r p q) ≡ at_v im f r p q i + 1 + 1 = whole im f r p q i in
      let b = i + length (branch_cells r p q) in
      let c = parts im f r p q i h st in
      let a = run.will f (at_q im f r p q i) (omega arith) c.q_there in
      let x = and_then (fork_passed im f true i b r (at_v im f r p q i) _ m (omega arith) (omega arith) z c.v)
      (jump im f true i b (at_e im f r p q i) (at_n im f r p q i) m (omega arith) (omega arith) (omega arith)
      (omega arith) (omega arith) (omega arith) (omega arith) c.e c.n) in (
        outcome_around 4 2 a.0,
        ends_at (sym w) refl (ends_around x (ends_wider i b (omega arith) (omega arith) a.1)
            (λ m1 k e. fork_passed im f true i b r i _ m1 (omega arith) (omega arith) (keeps m1 k (subst Q e a.2))
            c.t)),
        t a.0 a.2,
      );
}
