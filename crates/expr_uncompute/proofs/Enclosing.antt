-- A fragment that leads on, around a middle whose run ends within bounds.
use Rattle.std.proofs.Common.{ℕ, ◌+◌, Bool, true, false, List, ◌++◌, arith}
use Rattle.register_expressions.specs.pisa_isa.Machine.{Memory}
use Rattle.register_expressions.specs.paired_code.declared.part.Symbol.{Symbol}
use Rattle.register_expressions.specs.paired_code.Machine.{Image}
use Rattle.register_expressions.specs.paired_code.Layout.{mirror_cells}
use Rattle.register_expressions.specs.paired_code.Pieces.{Outcome, Done, Will, outcome_after}
use Rattle.register_expressions.proofs.paired_code_laws.Laws.{Next, will_of, will_more, will_seq, will_seq_back}
use Rattle.register_expressions.proofs.paired_code_laws.Contract.{mirror_law}
use Rattle.register_expressions.specs.Code.{around}
use Rattle.expr_uncompute.specs.Found.{LeavesWithin, leaves_within, TrapsWithin, traps_within}
use Rattle.register_expressions.proofs.Goes.{Goes}

-- the middle leaves, and so does the whole
module _ (im : Image) (w mid : List Symbol) (j least most : ℕ) (m m1 m2 m' : Memory) (g : Goes w j m m1)
    (h : Goes w j m' m2) where
  away : (o : Outcome) → LeavesWithin m2 least most o → Next
      (λ z k. Will im (mirror_cells w) false z (λ o. LeavesWithin m' (j + (least + j)) (j + (most + j))
      (outcome_after j (outcome_after k o)))) (λ o. LeavesWithin m' (j + (least + j)) (j + (most + j))
      (outcome_after j o)) o
  away _ (leaves_within k lo hi) = will_of im (mirror_cells w) false m2 (Done m' j) _
      ((mirror_law w).turns im false m2 (Done m' j) (h.back im))
      (leaves_within (j + (k + j)) (omega arith) (omega arith))

  away_back : (o : Outcome) → LeavesWithin m2 least most o
      → Next (λ z k. Will im w true z (λ o. LeavesWithin m' (j + (least + j)) (j + (most + j)) (outcome_after k o)))
      (LeavesWithin m' (j + (least + j)) (j + (most + j))) (outcome_after j o)
  away_back _ (leaves_within k lo hi) = will_of im w true m2 (Done m' j) _ (h.back im)
      (leaves_within (j + k + j) (omega arith) (omega arith))

  pub leaves_around : (d : Bool) → Will im mid d m1 (LeavesWithin m2 least most)
      → Will im (around w mid) d m (LeavesWithin m' (j + (least + j)) (j + (most + j)))
  leaves_around false r =
      will_seq im w (mid ++ mirror_cells w) m _ (will_of im w false m (Done m1 j) _ (g.ahead im)
      (will_seq im mid (mirror_cells w) m1 _ (will_more im mid false m1 _ _ away r)))
  leaves_around true r =
      will_seq_back im w (mid ++ mirror_cells w) m _ (will_seq_back im mid (mirror_cells w) m _
      (will_of im (mirror_cells w) true m (Done m1 j) _ ((mirror_law w).turns im true m (Done m1 j) (g.ahead im))
      (will_more im mid true m1 _ _ away_back r)))

-- it traps, and so does the whole
module _ (im : Image) (w mid : List Symbol) (j code most : ℕ) (m m1 : Memory) (g : Goes w j m m1) where
  stop : (o : Outcome) → TrapsWithin code most o → Next (λ z k. Will im (mirror_cells w) false z
      (λ o. TrapsWithin code (j + most) (outcome_after j (outcome_after k o))))
      (λ o. TrapsWithin code (j + most) (outcome_after j o)) o
  stop _ (traps_within k hi) = traps_within (j + k) (omega arith)

  stop_back : (o : Outcome) → TrapsWithin code most o → Next
      (λ z k. Will im w true z (λ o. TrapsWithin code (j + most) (outcome_after k o))) (TrapsWithin code (j + most))
      (outcome_after j o)
  stop_back _ (traps_within k hi) = traps_within (j + k) (omega arith)

  pub traps_in_middle : (d : Bool) → Will im mid d m1 (TrapsWithin code most)
      → Will im (around w mid) d m (TrapsWithin code (j + most))
  traps_in_middle false r =
      will_seq im w (mid ++ mirror_cells w) m _ (will_of im w false m (Done m1 j) _ (g.ahead im)
      (will_seq im mid (mirror_cells w) m1 _ (will_more im mid false m1 _ _ stop r)))
  traps_in_middle true r =
      will_seq_back im w (mid ++ mirror_cells w) m _ (will_seq_back im mid (mirror_cells w) m _
      (will_of im (mirror_cells w) true m (Done m1 j) _ ((mirror_law w).turns im true m (Done m1 j) (g.ahead im))
      (will_more im mid true m1 _ _ stop_back r)))
