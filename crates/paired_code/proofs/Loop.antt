-- The law of turn_while.
use Rattle.std.proofs.Common.{◌≡◌, ◌≢◌, ℕ, ◌+◌, ◌^◌, ◌<◌, ◌⊎◌, ⊎_elim, Bool, true, false, List, length, refl, sym}
use Rattle.std.proofs.Common.{arith, length-append}
use Rattle.code_conventions.specs.pisa_isa.Machine.{Memory}
use Rattle.code_conventions.specs.Cells.{bra}
use Rattle.paired_code.specs.declared.part.Symbol.{Symbol}
use Rattle.paired_code.specs.Machine.{Image, memory_reg}
use Rattle.paired_code.specs.Layout.{Frame, at, Stands, between, loop_cells}
use Rattle.paired_code.specs.Pieces.{Outcome, Done, Trapped, Bad, Still, Ends, finishes, traps, bad, still, Will, Way}
use Rattle.paired_code.specs.Pieces.{outcome_after, stay, to_tail, to_head}
use Rattle.paired_code.proofs.Steps.{Has}
use Rattle.paired_code.proofs.Ways.{front, rest, has, and_then, ends_wider, ends_after, Fork, fork_at, fork_passed}
use Rattle.paired_code.proofs.Ways.{fork_taken, jump}
use Rattle.paired_code.proofs.Laws.{ends_at, Next}
use Rattle.paired_code.proofs.Branch.{between_same, fork_by, bra_by}

module _ (im : Image) (f : Frame) (r : ℕ) (head tail : List Symbol) (i : ℕ) where
  abbrev at_t : ℕ
  at_t = i + 1 + 1

  abbrev at_tail : ℕ
  at_tail = at_t + 1

  abbrev at_y : ℕ
  at_y = at_tail + length tail

  abbrev at_head : ℕ
  at_head = at_y + 1 + 1

  abbrev at_u : ℕ
  at_u = at_head + length head

  abbrev at_e : ℕ
  at_e = at_u + 1 + 1

  abbrev at_v : ℕ
  at_v = at_e + 1

  abbrev end : ℕ
  end = at_v + 1 + 1

  record Parts : Type 0 where
    x : Fork im f r i (between i at_y)
    t : Has im f at_t (bra (between at_t at_e))
    tail_there : Stands im f at_tail tail
    y : Fork im f r at_y (between at_y i)
    head_there : Stands im f at_head head
    u : Fork im f r at_u (between at_u at_v)
    e : Has im f at_e (bra (between at_e at_t))
    v : Fork im f r at_v (between at_v at_u)

  loop_length : length (loop_cells r head tail) ≡ 10 + length tail + length head
  loop_length = simp length-append (omega arith)

  whole : i + length (loop_cells r head tail) ≡ end
  whole = let len = loop_length in omega arith

  parts : i + length (loop_cells r head tail) < 2 ^ 30 → Stands im f i (loop_cells r head tail) → Parts
  parts h s =
      let len : length (loop_cells r head tail) ≡ 10 + length tail + length head = loop_length in
      let s1 = s.1.1 in
      let s2 = s1.1 in
      let s3 = rest im f at_tail tail _ s2 in
      let s4 = s3.1.1 in
      let s5 = rest im f at_head head _ s4 in
      let s6 = s5.1.1 in
      let s7 = s6.1 in
      record {
        x = fork_by _ _ (between_same 0 (3 + length tail) i at_y (omega arith) (omega arith) (omega arith) (omega arith)
            (omega arith)) (fork_at im f r i _ s.0 s.1.0);
        t = bra_by im f at_t _ _ (between_same 0 (5 + length tail + length head) at_t at_e (omega arith) (omega arith)
            (omega arith) (omega arith) (omega arith)) (has im f at_t _ s1.0);
        tail_there = front im f at_tail tail _ s2;
        y = fork_by _ _ (between_same (3 + length tail) 0 at_y i (omega arith) (omega arith) (omega arith) (omega arith)
            (omega arith)) (fork_at im f r at_y _ s3.0 s3.1.0);
        head_there = front im f at_head head _ s4;
        u = fork_by _ _ (between_same 0 3 at_u at_v (omega arith) (omega arith) (omega arith) (omega arith)
            (omega arith)) (fork_at im f r at_u _ s5.0 s5.1.0);
        e = bra_by im f at_e _ _ (between_same (5 + length tail + length head) 0 at_e at_t (omega arith) (omega arith)
            (omega arith) (omega arith) (omega arith)) (has im f at_e _ s6.0);
        v = fork_by _ _ (between_same 3 0 at_v at_u (omega arith) (omega arith) (omega arith) (omega arith)
            (omega arith)) (fork_at im f r at_v _ s7.0 s7.1.0);
      }

  module _ (h : end < 2 ^ 30) (c : Parts) where
    -- where head begins and ends, and where the loop is left, in the direction
    abbrev head_from : Bool → ℕ
    head_from false = at_head
    head_from true = at_u

    abbrev head_to : Bool → ℕ
    head_to false = at_u
    head_to true = at_head

    abbrev tail_from : Bool → ℕ
    tail_from false = at_tail
    tail_from true = at_y

    abbrev tail_to : Bool → ℕ
    tail_to false = at_y
    tail_to true = at_tail

    abbrev out : Bool → ℕ
    out false = end
    out true = i

    run_head : (d : Bool) (m : Memory) (Q : Outcome → Type 0) → Will im head d m Q
        → (o : Outcome) × Ends im f d i end (head_from d) m (head_to d) o × Q o
    run_head false m Q r = let a = r.will f at_head (omega arith) c.head_there in
        (a.0, ends_wider i end (omega arith) (omega arith) a.1, a.2)
    run_head true m Q r = let a = r.will f at_head (omega arith) c.head_there in
        (a.0, ends_wider i end (omega arith) (omega arith) a.1, a.2)

    run_tail : (d : Bool) (m : Memory) (Q : Outcome → Type 0) → Will im tail d m Q
        → (o : Outcome) × Ends im f d i end (tail_from d) m (tail_to d) o × Q o
    run_tail false m Q r = let a = r.will f at_tail (omega arith) c.tail_there in
        (a.0, ends_wider i end (omega arith) (omega arith) a.1, a.2)
    run_tail true m Q r = let a = r.will f at_tail (omega arith) c.tail_there in
        (a.0, ends_wider i end (omega arith) (omega arith) a.1, a.2)

    exit : (d : Bool) (m : Memory) → memory_reg m r ≢ 0 → Way im f d i end 3 (head_to d) m (out d) m
    exit false m nz = fork_taken im f false i end r at_u at_v m (omega arith) (omega arith) (omega arith) (omega arith)
        (omega arith) (omega arith) (omega arith) nz c.u c.v
    exit true m nz = fork_taken im f true i end r at_y i m (omega arith) (omega arith) (omega arith) (omega arith)
        (omega arith) (omega arith) (omega arith) nz c.y c.x

    go_tail : (d : Bool) (m : Memory) → memory_reg m r ≡ 0 → Way im f d i end (to_tail d) (head_to d) m (tail_from d) m
    go_tail false m z = and_then (fork_passed im f false i end r at_u _ m (omega arith) (omega arith) z c.u)
        (jump im f false i end at_e at_t m (omega arith) (omega arith) (omega arith) (omega arith) (omega arith)
        (omega arith) (omega arith) c.e c.t)
    go_tail true m z = fork_passed im f true i end r at_y _ m (omega arith) (omega arith) z c.y

    go_head : (d : Bool) (m : Memory) → memory_reg m r ≡ 0 → Way im f d i end (to_head d) (tail_to d) m (head_from d) m
    go_head false m z = fork_passed im f false i end r at_y _ m (omega arith) (omega arith) z c.y
    go_head true m z = and_then (jump im f true i end at_t at_e m (omega arith) (omega arith) (omega arith)
        (omega arith) (omega arith) (omega arith) (omega arith) c.t c.e)
        (fork_passed im f true i end r at_u _ m (omega arith) (omega arith) z c.u)

    entry : (d : Bool) (m : Memory) → memory_reg m r ≢ 0 → Way im f d i end 3 (out (Rattle.std.specs.Prelude.not d)) m
        (head_from d) m
    entry false m nz = fork_taken im f false i end r i at_y m (omega arith) (omega arith) (omega arith) (omega arith)
        (omega arith) (omega arith) (omega arith) nz c.x c.y
    entry true m nz = fork_taken im f true i end r at_v at_u m (omega arith) (omega arith) (omega arith) (omega arith)
        (omega arith) (omega arith) (omega arith) nz c.v c.u

-- from the beginning of head, the loop goes in one of these ways
pub record Turns (im : Image) (r : ℕ) (head tail : List Symbol) (d : Bool) (m : Memory) (Q : Outcome → Type 0) : Type 0
  where
    turns : (f : Frame) (i : ℕ) → (h : end im f r head tail i < 2 ^ 30) → (c : Parts im f r head tail i)
        → (o : Outcome) × Ends im f d i (end im f r head tail i) (head_from im f r head tail i h c d) m
        (out im f r head tail i h c d) o × Q o

-- where the loop begins
pub will_loop : (im : Image) (d : Bool) (r : ℕ) (head tail : List Symbol) (m : Memory) (Q : Outcome → Type 0)
    → memory_reg m r ≢ 0 → Turns im r head tail d m (λ o. Q (outcome_after 3 o)) → Will im (loop_cells r head tail) d m Q
will_loop im false r head tail m Q nz t = record {
  will = λ f i h st.
      let w : i + length (loop_cells r head tail) ≡ end im f r head tail i = whole im f r head tail i in
      let c = parts im f r head tail i h st in
      let l : end im f r head tail i < 2 ^ 30 = omega arith in
      let a = t.turns f i l c in (
        outcome_after 3 a.0,
        ends_at refl (sym w) (ends_wider i (i + length (loop_cells r head tail)) (omega arith) (omega arith)
            (ends_after (entry im f r head tail i l c false m nz) a.1)),
        a.2,
      );
}
will_loop im true r head tail m Q nz t = record {
  will = λ f i h st.
      let w : i + length (loop_cells r head tail) ≡ end im f r head tail i = whole im f r head tail i in
      let c = parts im f r head tail i h st in
      let l : end im f r head tail i < 2 ^ 30 = omega arith in
      let a = t.turns f i l c in (
        outcome_after 3 a.0,
        ends_at (sym w) refl (ends_wider i (i + length (loop_cells r head tail)) (omega arith) (omega arith)
            (ends_after (entry im f r head tail i l c true m nz) a.1)),
        a.2,
      );
}

-- what is to hold after head: the loop is left, or tail comes and then head again
abbrev pub After_head : Image → ℕ → List Symbol → List Symbol → Bool → (Outcome → Type 0) → Memory → ℕ → Type 0
After_head im r head tail d Q m1 k =
    ((memory_reg m1 r ≢ 0) × Q (Done m1 (k + 3)))
    ⊎ ((memory_reg m1 r ≡ 0) × Will im tail d m1 (Next (λ m2 k2. (memory_reg m2 r ≡ 0)
    × Turns im r head tail d m2 (λ o. Q (outcome_after (k + to_tail d + (k2 + to_head d)) o)))
    (λ o. Q (outcome_after (k + to_tail d) o))))

module _ (im : Image) (r : ℕ) (head tail : List Symbol) (d : Bool) (Q : Outcome → Type 0) where
  after_tail : (f : Frame) (i : ℕ) (h : end im f r head tail i < 2 ^ 30) (c : Parts im f r head tail i) (n : ℕ)
      (m : Memory) (m1 : Memory) (o : Outcome) → Way im f d i (end im f r head tail i) n
      (head_from im f r head tail i h c d) m (tail_from im f r head tail i h c d) m1
      → Ends im f d i (end im f r head tail i) (tail_from im f r head tail i h c d) m1
      (tail_to im f r head tail i h c d) o → Next (λ m2 k2. (memory_reg m2 r ≡ 0)
      × Turns im r head tail d m2 (λ o. Q (outcome_after (n + (k2 + to_head d)) o))) (λ o. Q (outcome_after n o)) o
      → (o : Outcome) × Ends im f d i (end im f r head tail i) (head_from im f r head tail i h c d) m
      (out im f r head tail i h c d) o × Q o
  after_tail f i h c n m m1 (Done m2 k2) w (finishes v) q =
      let a = q.1.turns f i h c in (
        outcome_after (n + (k2 + to_head d)) a.0,
        ends_after (and_then w (and_then v (go_head im f r head tail i h c d m2 q.0)))
            a.1,
        a.2,
      )
  after_tail f i h c n m m1 (Trapped x k) w (traps t) q = (Trapped x (n + k), ends_after w (traps t), q)
  after_tail f i h c n m m1 (Bad x k) w (bad t) q = (Bad x (n + k), ends_after w (bad t), q)
  after_tail f i h c n m m1 (Still k) w (still g) q = (Still (n + k), ends_after w (still g), q)

  after_head : (f : Frame) (i : ℕ) (h : end im f r head tail i < 2 ^ 30) (c : Parts im f r head tail i) (m : Memory)
      (o : Outcome) → Ends im f d i (end im f r head tail i) (head_from im f r head tail i h c d) m
      (head_to im f r head tail i h c d) o → Next (After_head im r head tail d Q) Q o
      → (o : Outcome) × Ends im f d i (end im f r head tail i) (head_from im f r head tail i h c d) m
      (out im f r head tail i h c d) o × Q o
  after_head f i h c m (Done m1 k) (finishes v) q =
      ⊎_elim
      (λ (l : (memory_reg m1 r ≢ 0) × Q (Done m1 (k + 3))). (
        Done m1 (k + 3),
        finishes (and_then v (exit im f r head tail i h c d m1 l.0)),
        l.1,
      ))
      (λ (l : (memory_reg m1 r ≡ 0) × Will im tail d m1 (Next (λ m2 k2. (memory_reg m2 r ≡ 0)
      × Turns im r head tail d m2 (λ o. Q (outcome_after (k + to_tail d + (k2 + to_head d)) o)))
      (λ o. Q (outcome_after (k + to_tail d) o)))).
      let a = run_tail im f r head tail i h c d m1 _ l.1 in
      after_tail f i h c (k + to_tail d) m m1 a.0 (and_then v (go_tail im f r head tail i h c d m1 l.0)) a.1 a.2)
      q
  after_head f i h c m (Trapped x k) (traps t) q = (Trapped x k, traps t, q)
  after_head f i h c m (Bad x k) (bad t) q = (Bad x k, bad t, q)
  after_head f i h c m (Still k) (still g) q = (Still k, still g, q)

-- one turn
pub turn : (im : Image) (d : Bool) (r : ℕ) (head tail : List Symbol) (m : Memory) (Q : Outcome → Type 0)
    → Will im head d m (Next (After_head im r head tail d Q) Q) → Turns im r head tail d m Q
turn im d r head tail m Q w = record {
  turns = λ f i h c.
      let a = run_head im f r head tail i h c d m _ w in
      after_head im r head tail d Q f i h c m a.0 a.1 a.2;
}

-- and none
pub no_turn : (im : Image) (d : Bool) (r : ℕ) (head tail : List Symbol) (m : Memory) (Q : Outcome → Type 0)
    → Q (Still 0) → Turns im r head tail d m Q
no_turn im d r head tail m Q q = record {
  turns = λ f i h c.
      (Still 0, still (record { last = at f d _ m; depth = 0; path = stay }), q);
}

pub turns_more : (im : Image) (d : Bool) (r : ℕ) (head tail : List Symbol) (m : Memory) (Q Q' : Outcome → Type 0)
    → ((o : Outcome) → Q o → Q' o) → Turns im r head tail d m Q → Turns im r head tail d m Q'
turns_more im d r head tail m Q Q' t w = record { turns = λ f i h c. let a = w.turns f i h c in (a.0, a.1, t a.0 a.2) }
