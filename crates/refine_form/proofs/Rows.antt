-- Instructions in a row, on registers that are known one by one.
use Rattle.std.proofs.Common.{◌≡◌, ℕ, suc, ◌+◌, ◌^◌, ◌<◌, Bool, true, false, List, [], ◌∷◌, ◌++◌, refl, sym, ap, ◌∙◌}
use Rattle.std.proofs.Common.{subst, arith, append-nil, append_assoc}
use Rattle.refine_frame.specs.pisa_isa.declared.cell.Cell.{Cell}
use Rattle.refine_frame.specs.pisa_isa.Machine.{Memory}
use Rattle.paired_code.specs.declared.part.Symbol.{Symbol}
use Rattle.paired_code.specs.declared.part.Symbol.TheVariants.{Own}
use Rattle.paired_code.specs.Machine.{Image, is_single}
use Rattle.paired_code.specs.Pieces.{Done, Will, outcome_after}
use Rattle.paired_code.specs.Laws.{outcome_of}
use Rattle.paired_code.specs.Does.{in_order}
use Rattle.paired_code.proofs.Laws.{will_of, will_more}
use Rattle.paired_code.proofs.Small.{runs_single, runs_empty}
use Rattle.paired_code.specs.Rows.{line}
use Rattle.refine_form.proofs.Rules.{will_next}

-- so many cells, in the order in which they are run, lead from a memory to another
pub data Ran (d : Bool) : List Cell → ℕ → Memory → Memory → Type 0 where
  here : {m : Memory} → Ran d [] 0 m m
  next : {c : Cell} {cs : List Cell} {k : ℕ} {m m1 m2 : Memory} → is_single c ≡ true → c.imm < 2 ^ 32
      → outcome_of d c m ≡ Done m1 1 → Ran d cs k m1 m2 → Ran d (c ∷ cs) (suc k) m m2

abbrev pub onto : List Cell → List Cell → List Cell
onto [] done = done
onto (c ∷ cs) done = onto cs (c ∷ done)

-- the cells in the order of a direction
abbrev pub ordered : Bool → List Cell → List Cell
ordered false cs = cs
ordered true cs = onto cs []

abbrev pub singles : List Cell → List (List Symbol)
singles [] = []
singles (c ∷ cs) = (Own c ∷ []) ∷ singles cs

will_singles : (im : Image) (d : Bool) (cs : List Cell) (k : ℕ) (m m2 : Memory) → Ran d cs k m m2
    → Will im (in_order d (singles cs)) d m (λ o. o ≡ Done m2 k)
will_singles im false _ _ m _ here = will_of im [] false m (Done m 0) _ (runs_empty im false m) refl
will_singles im true _ _ m _ here = will_of im [] true m (Done m 0) _ (runs_empty im true m) refl
will_singles im d _ _ m _ (next {c = c} {cs = cs} {k = k} {m1 = m1} {m2 = m2} s w e r) =
    will_next im d (Own c ∷ []) (singles cs) m m1 1 _ (will_of im (Own c ∷ []) d m (outcome_of d c m) _
    (runs_single im c d m s w) e)
    (will_more im (in_order d (singles cs)) d m1 _ _ (λ o q. ap (outcome_after 1) q
    ∙ (let z : 1 + k ≡ suc k = omega arith in ap (Done m2) z)) (will_singles im d cs k m1 m2 r))

ahead_same : (cs : List Cell) → in_order false (singles cs) ≡ line cs
ahead_same [] = refl
ahead_same (c ∷ cs) = ap (λ z. Own c ∷ z) (ahead_same cs)

back_same : (cs done : List Cell) → in_order true (singles cs) ++ line done ≡ line (onto cs done)
back_same [] done = refl
back_same (c ∷ cs) done = append_assoc (in_order true (singles cs)) (Own c ∷ []) (line done) ∙ back_same cs (c ∷ done)

-- a row of cells, given in the order of the direction
pub will_row : (im : Image) (d : Bool) (cs : List Cell) (k : ℕ) (m m2 : Memory) → Ran d cs k m m2
    → Will im (line (ordered d cs)) d m (λ o. o ≡ Done m2 k)
will_row im false cs k m m2 r = subst (λ z. Will im z false m (λ o. o ≡ Done m2 k)) (ahead_same cs)
    (will_singles im false cs k m m2 r)
will_row im true cs k m m2 r = subst (λ z. Will im z true m (λ o. o ≡ Done m2 k))
    (sym (append-nil (in_order true (singles cs))) ∙ back_same cs []) (will_singles im true cs k m m2 r)
