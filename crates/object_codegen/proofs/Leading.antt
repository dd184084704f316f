-- A fragment that leads from one memory to another and back, in an image, within so many steps; and
-- one that traps.
use Rattle.std.proofs.Common.{ℕ, ◌+◌, ◌≤◌, true, false, List, ◌++◌, arith}
use Rattle.refine_heap.specs.pisa_isa.Machine.{Memory}
use Rattle.refine_heap.specs.paired_code.declared.part.Symbol.{Symbol}
use Rattle.refine_heap.specs.paired_code.Machine.{Image}
use Rattle.refine_heap.specs.paired_code.Layout.{mirror_cells}
use Rattle.refine_heap.specs.paired_code.Pieces.{Outcome, Trapped, Will, outcome_after}
use Rattle.refine_heap.proofs.paired_code_laws.Laws.{Next, will_of, will_more, will_seq, will_seq_back}
use Rattle.refine_heap.proofs.paired_code_laws.Mirrored.{will_mirror}
use Rattle.expr_uncompute.specs.register_expressions.Code.{around}
use Rattle.expr_uncompute.specs.Found.{LeavesWithin, leaves_within, TrapsWithin, traps_within}
use Rattle.expr_uncompute.proofs.register_expressions_laws.Goes.{Goes, Traps}

pub record Leads (im : Image) (p : List Symbol) (lo hi : ℕ) (m m' : Memory) : Type 0 where
  pub ahead : Will im p false m (LeavesWithin m' lo hi)
  pub back : Will im p true m' (LeavesWithin m lo hi)

pub goes_leads : {p : List Symbol} {k : ℕ} {m m' : Memory} (im : Image) → Goes p k m m' → Leads im p k k m m'
goes_leads {p = p} {k = k} {m = m} {m' = m'} im g = record {
  ahead = will_of im p false m _ _ (g.ahead im) (leaves_within k (omega arith) (omega arith));
  back = will_of im p true m' _ _ (g.back im) (leaves_within k (omega arith) (omega arith));
}

later : (m2 : Memory) (a b c d j : ℕ) (o : Outcome) → a ≤ j → j ≤ b → LeavesWithin m2 c d o
    → LeavesWithin m2 (a + c) (b + d) (outcome_after j o)
later m2 a b c d j _ l h (leaves_within k lo hi) = leaves_within (j + k) (omega arith) (omega arith)

joined_ahead : {im : Image} {q : List Symbol} {m1 m2 : Memory} {a b c d : ℕ} (o : Outcome)
    → Will im q false m1 (LeavesWithin m2 c d) → LeavesWithin m1 a b o
    → Next (λ m k. Will im q false m (λ o. LeavesWithin m2 (a + c) (b + d) (outcome_after k o)))
    (LeavesWithin m2 (a + c) (b + d)) o
joined_ahead {im = im} {q = q} {m1 = m1} {m2 = m2} {a = a} {b = b} {c = c} {d = d} _ w (leaves_within k lo hi) =
    will_more im q false m1 _ _ (λ o r. later m2 a b c d k o lo hi r) w

joined_back : {im : Image} {q : List Symbol} {m1 m2 : Memory} {a b c d : ℕ} (o : Outcome)
    → Will im q true m1 (LeavesWithin m2 c d) → LeavesWithin m1 a b o
    → Next (λ m k. Will im q true m (λ o. LeavesWithin m2 (a + c) (b + d) (outcome_after k o)))
    (LeavesWithin m2 (a + c) (b + d)) o
joined_back {im = im} {q = q} {m1 = m1} {m2 = m2} {a = a} {b = b} {c = c} {d = d} _ w (leaves_within k lo hi) =
    will_more im q true m1 _ _ (λ o r. later m2 a b c d k o lo hi r) w

wider : (m : Memory) (a b c d : ℕ) → c ≤ a → b ≤ d → (o : Outcome) → LeavesWithin m a b o → LeavesWithin m c d o
wider m a b c d l h _ (leaves_within k lo hi) = leaves_within k (omega arith) (omega arith)

pub leads_seq : {im : Image} {p q : List Symbol} {a b c d : ℕ} {m m1 m2 : Memory} → Leads im p a b m m1
    → Leads im q c d m1 m2 → Leads im (p ++ q) (a + c) (b + d) m m2
leads_seq {im = im} {p = p} {q = q} {a = a} {b = b} {c = c} {d = d} {m = m} {m1 = m1} {m2 = m2} g h = record {
  ahead = will_seq im p q m _ (will_more im p false m _ _ (λ o r. joined_ahead o h.ahead r) g.ahead);
  back = will_more im (p ++ q) true m2 _ _ (wider m (c + a) (d + b) (a + c) (b + d) (omega arith) (omega arith))
      (will_seq_back im p q m2 _ (will_more im q true m2 _ _ (λ o r. joined_back o g.back r) h.back));
}

pub leads_mirror : {im : Image} {p : List Symbol} {a b : ℕ} {m m' : Memory} → Leads im p a b m m'
    → Leads im (mirror_cells p) a b m' m
leads_mirror {im = im} {p = p} {m = m} {m' = m'} g = record {
  ahead = will_mirror im p false m' _ g.back;
  back = will_mirror im p true m _ g.ahead;
}

pub leads_around : {im : Image} {w mid : List Symbol} {j a b : ℕ} {m m1 m2 m' : Memory} → Goes w j m m1
    → Leads im mid a b m1 m2 → Goes w j m' m2 → Leads im (around w mid) (j + (a + j)) (j + (b + j)) m m'
leads_around {im = im} g l h = leads_seq (goes_leads im g) (leads_seq l (leads_mirror (goes_leads im h)))

-- ---- traps along the line

pub falls_first : {im : Image} {p : List Symbol} {code hi : ℕ} {m : Memory} (q : List Symbol)
    → Will im p false m (TrapsWithin code hi) → Will im (p ++ q) false m (TrapsWithin code hi)
falls_first {im = im} {p = p} {code = code} {hi = hi} {m = m} q w =
    will_seq im p q m _ (will_more im p false m _ _ over w)
  where
    over : (o : Outcome) → TrapsWithin code hi o → Next (λ m1 k. Will im q false m1
        (λ o. TrapsWithin code hi (outcome_after k o))) (TrapsWithin code hi) o
    over _ (traps_within k l) = traps_within k l

pub goes_falls : {im : Image} {p q : List Symbol} {j code hi : ℕ} {m m1 : Memory} → Goes p j m m1
    → Will im q false m1 (TrapsWithin code hi) → Will im (p ++ q) false m (TrapsWithin code (j + hi))
goes_falls {im = im} {p = p} {q = q} {j = j} {code = code} {hi = hi} {m = m} {m1 = m1} g w =
    will_seq im p q m _ (will_of im p false m _ _ (g.ahead im) (will_more im q false m1 _ _ more w))
  where
    more : (o : Outcome) → TrapsWithin code hi o → TrapsWithin code (j + hi) (outcome_after j o)
    more _ (traps_within k l) = traps_within (j + k) (omega arith)

-- ---- the checks of a statement and of its inverse

pub falls_last : {im : Image} {q : List Symbol} {code hi : ℕ} {m : Memory} (p : List Symbol)
    → Will im q true m (TrapsWithin code hi) → Will im (p ++ q) true m (TrapsWithin code hi)
falls_last {im = im} {q = q} {code = code} {hi = hi} {m = m} p w =
    will_seq_back im p q m _ (will_more im q true m _ _ over w)
  where
    over : (o : Outcome) → TrapsWithin code hi o → Next (λ m1 k. Will im p true m1
        (λ o. TrapsWithin code hi (outcome_after k o))) (TrapsWithin code hi) o
    over _ (traps_within k l) = traps_within k l

pub traps_falls : {p : List Symbol} {code n : ℕ} {m : Memory} (im : Image) → Traps p n code m
    → Will im p false m (TrapsWithin code n)
traps_falls {p = p} {code = code} {m = m} im t = let a = t.ahead im in
    will_of im p false m (Trapped code a.0) _ a.2 (traps_within a.0 a.1)

-- forward, a check of the statement
pub fault_ahead : {front : List Symbol} {code n : ℕ} {m : Memory} (rest : List Symbol) → Traps front n code m
    → (im : Image) → Will im (front ++ rest) false m (TrapsWithin code n)
fault_ahead rest t im = falls_first rest (traps_falls im t)

-- backward, a check of the inverse statement
pub fault_back : {front : List Symbol} {code n : ℕ} {m : Memory} (before alter : List Symbol) → Traps front n code m
    → (im : Image) → Will im (before ++ (alter ++ mirror_cells front)) true m (TrapsWithin code n)
fault_back {front = front} {m = m} before alter t im =
    falls_last before (falls_last alter (will_mirror im front true m _ (traps_falls im t)))
