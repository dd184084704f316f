-- A closed fragment does one of four things.
use Rattle.std.proofs.Common.{◌≡◌, ◌≢◌, ℕ, zero, suc, ◌+◌, ◌^◌, ◌<◌, ◌≤◌, ◌⊎◌, inl, inr, ⊎_elim, Bool, true, false}
use Rattle.std.proofs.Common.{List, [], ◌∷◌, length, refl, arith}
use Rattle.std.specs.Prelude.{not, ℤ, if◌then◌else◌}
use Rattle.code_conventions.specs.pisa_isa.declared.cell.Cell.{Cell}
use Rattle.paired_code.specs.declared.part.Symbol.{Symbol}
use Rattle.paired_code.specs.declared.part.Symbol.TheVariants.{Own}
use Rattle.code_conventions.specs.pisa_isa.Machine.{State, Memory}
use Rattle.paired_code.specs.Machine.{Image, effect_along, memory_reg}
use Rattle.paired_code.specs.Layout.{bool_xor, code_line, at, Stands}
use Rattle.paired_code.specs.Pieces.{Outcome, Done, Trapped, Bad, Still, Ends, finishes, traps, bad, still, Will}
use Rattle.paired_code.specs.Pieces.{outcome_after}
use Rattle.paired_code.specs.Pieces.{outcome_around, around_no, to_tail, to_head, near_end, far_end}
use Rattle.paired_code.specs.Laws.{outcome_of, TestPasses, TestFails, lead}
use Rattle.paired_code.specs.Literal.{LiteralStays}
use Rattle.paired_code.specs.Closed as four
use Rattle.paired_code.specs.Closed.{Shape, Nothing, One, Then, Turned, Choose, Loop, Check, Try, Call, Call_at}
use Rattle.paired_code.specs.Closed.{cells_of_shape, IsShapeMade, Routines, RoutinesStand, And_next, Left, Back}
use Rattle.paired_code.specs.Closed.{Back_at}
use Rattle.paired_code.specs.Closed.{rounds_fine, fine_with, fine, any, One_of_four, Closed}
use Rattle.code_conventions.proofs.pisa_isa_laws.Ranges.{imm_word}
use Rattle.paired_code.proofs.Steps.{has_its_cell}
use Rattle.paired_code.proofs.Laws.{Next, will_of, will_more, will_seq, will_seq_back}
use Rattle.paired_code.proofs.Mirrored.{will_mirror}
use Rattle.paired_code.proofs.Branch.{will_branch_yes, will_branch_no}
use Rattle.paired_code.proofs.Loop.{Turns, turn, no_turn, turns_more, will_loop, After_head}
use Rattle.paired_code.proofs.Small.{runs_still, runs_empty, runs_single, runs_check_zero, runs_check_other}
use Rattle.paired_code.proofs.Checks.{runs_passes, runs_fails}
use Rattle.paired_code.proofs.Call.{Returns, will_enter}
use Rattle.paired_code.proofs.EnterAt.{Returns_any, will_enter_place}
use Rattle.paired_code.proofs.Literal.{path_comes, path_stops, path_stays}

-- a run that goes on has made n steps
abbrev pub Sure : ℕ → Outcome → Type 0
Sure n (Done m k) = Unit {0}
Sure n (Trapped w k) = Unit {0}
Sure n (Bad a k) = Unit {0}
Sure n (Still k) = n ≤ k

abbrev pub Both : (Outcome → Type 0) → ℕ → Outcome → Type 0
Both Q n o = Q o × Sure n o

sure_after : (j n c : ℕ) (o : Outcome) → j ≤ n + c → Sure n o → Sure j (outcome_after c o)
sure_after j n c (Done m k) h s = tt
sure_after j n c (Trapped w k) h s = tt
sure_after j n c (Bad a k) h s = tt
sure_after j n c (Still k) h s = omega arith

sure_around : (n x y : ℕ) (o : Outcome) → Sure n o → Sure n (outcome_around x y o)
sure_around n x y (Done m k) s = tt
sure_around n x y (Trapped w k) s = tt
sure_around n x y (Bad a k) s = tt
sure_around n x y (Still k) s = omega arith

sure_around_no : (n : ℕ) (d : Bool) (o : Outcome) → Sure n o → Sure n (around_no d o)
sure_around_no n false o s = sure_around n 2 4 o s
sure_around_no n true o s = sure_around n 4 2 o s

sure_choice : (n : ℕ) (t : Bool) (m : Memory) (k a : ℕ) → Sure n (if t then Done m k else Bad a 0)
sure_choice n true m k a = tt
sure_choice n false m k a = tt

sure_single : (n : ℕ) (d : Bool) (c : Cell) (m : Memory) → Sure n (outcome_of d c m)
sure_single n d c m = sure_choice n (has_its_cell c m) (effect_along d c m) 1 (memory_reg m c.b)

next_sure : (n : ℕ) (im : Image) (q : List Symbol) (d : Bool) (W : Memory → ℕ → Type 0) (Q : Outcome → Type 0)
    → ((m : Memory) (k : ℕ) → W m k → Will im q d m (Both (λ o. Q (outcome_after k o)) n)) → (o : Outcome)
    → Both (And_next W Q) n o → Next (λ m1 k. Will im q d m1 (λ o. Both Q n (outcome_after k o))) (Both Q n) o
next_sure n im q d W Q t (Done m k) h = will_more im q d m _ _ (λ o b. (b.0, sure_after n n k o (omega arith) b.1))
    (t m k h.0)
next_sure n im q d W Q t (Trapped w k) h = h
next_sure n im q d W Q t (Bad a k) h = h
next_sure n im q d W Q t (Still k) h = h

lead_some : (d : Bool) → 1 ≤ lead d
lead_some false = omega arith
lead_some true = omega arith

back_sure : (n w : ℕ) (d : Bool) (Q : Outcome → Type 0) (o : Outcome) → Both (Back w d Q) n o
    → Returns w d (Both Q (suc n)) o
back_sure n w d Q (Done m k) h = (h.0.0, (h.0.1, tt))
back_sure n w d Q (Trapped v k) h = (h.0, tt)
back_sure n w d Q (Bad v k) h = (h.0, tt)
back_sure n w d Q (Still k) h = (h.0, let l = lead_some d in omega arith)

back_at_sure : (n a s w : ℕ) (d : Bool) (Q : Outcome → Type 0) (o : Outcome) → Both (Back_at a s w d Q) n o
    → Returns_any a s w d (Both Q (suc n)) o
back_at_sure n a s w d Q (Done m k) h = (h.0.0, λ e lo hi. (h.0.1 e lo hi, tt))
back_at_sure n a s w d Q (Trapped v k) h = λ e lo hi. (h.0 e lo hi, tt)
back_at_sure n a s w d Q (Bad v k) h = λ e lo hi. (h.0 e lo hi, tt)
back_at_sure n a s w d Q (Still k) h = λ e lo hi. (h.0 e lo hi, omega arith)

module _ (im : Image) (rs : Routines) (there : RoutinesStand im rs) where
  abbrev Holds : ℕ → (Shape → Bool → Memory → (Outcome → Type 0) → Type 0) → Type 1
  Holds n f = (s : Shape) → IsShapeMade s → (d : Bool) (m : Memory) (Q : Outcome → Type 0) → f s d m Q
      → Will im (cells_of_shape s) d m (Both Q n)

  -- ---- a loop

  module _ (n r : ℕ) (p q : Shape) (d : Bool) (fp fq : Bool → Memory → (Outcome → Type 0) → Type 0)
      (head : (m : Memory) (Q : Outcome → Type 0) → fp d m Q → Will im (cells_of_shape p) d m (Both Q n))
      (tail : (m : Memory) (Q : Outcome → Type 0) → fq d m Q → Will im (cells_of_shape q) d m (Both Q n)) where
    abbrev turns : Memory → (Outcome → Type 0) → Type 0
    turns m Q = Turns im r (cells_of_shape p) (cells_of_shape q) d m Q

    tail_next : (j k : ℕ) (Q : Outcome → Type 0) → suc j ≤ n
        → ((m : Memory) (Q : Outcome → Type 0) → rounds_fine r fp fq j d m Q → turns m (Both Q j)) → (o : Outcome)
        → Both (And_next (λ m2 k2. (memory_reg m2 r ≡ 0) × rounds_fine r fp fq j d m2
        (λ o. Q (outcome_after (k + to_tail d + (k2 + to_head d)) o))) (λ o. Q (outcome_after (k + to_tail d) o))) n o
        → Next (λ m2 k2. (memory_reg m2 r ≡ 0) × turns m2 (λ o. Both Q (suc j)
        (outcome_after (k + to_tail d + (k2 + to_head d)) o)))
        (λ o. Both Q (suc j) (outcome_after (k + to_tail d) o)) o
    tail_next j k Q le ih (Done m2 k2) h =
        let c : 1 ≤ to_head d = some d in (
          h.0.0,
          turns_more im d r (cells_of_shape p) (cells_of_shape q) m2 _ _
              (λ o b. (b.0, sure_after (suc j) j (k + to_tail d + (k2 + to_head d)) o (omega arith) b.1))
              (ih m2 _ h.0.1),
        )
      where
        some : (d : Bool) → 1 ≤ to_head d
        some false = omega arith
        some true = omega arith
    tail_next j k Q le ih (Trapped w k2) h = (h.0, tt)
    tail_next j k Q le ih (Bad a k2) h = (h.0, tt)
    tail_next j k Q le ih (Still k2) h = (h.0, omega arith)

    head_next : (j : ℕ) (Q : Outcome → Type 0) → suc j ≤ n
        → ((m : Memory) (Q : Outcome → Type 0) → rounds_fine r fp fq j d m Q → turns m (Both Q j)) → (o : Outcome)
        → Both (And_next (λ m1 k. ((memory_reg m1 r ≢ 0) × Q (Done m1 (k + 3)))
        ⊎ ((memory_reg m1 r ≡ 0) × fq d m1 (And_next (λ m2 k2. (memory_reg m2 r ≡ 0)
        × rounds_fine r fp fq j d m2 (λ o. Q (outcome_after (k + to_tail d + (k2 + to_head d)) o)))
        (λ o. Q (outcome_after (k + to_tail d) o))))) Q) n o → Next
        (After_head im r (cells_of_shape p) (cells_of_shape q) d (Both Q (suc j))) (Both Q (suc j)) o
    head_next j Q le ih (Done m1 k) h =
        ⊎_elim
        (λ (l : (memory_reg m1 r ≢ 0) × Q (Done m1 (k + 3))). inl (l.0, (l.1, tt)))
        (λ (l : (memory_reg m1 r ≡ 0) × fq d m1 (And_next (λ m2 k2. (memory_reg m2 r ≡ 0)
        × rounds_fine r fp fq j d m2 (λ o. Q (outcome_after (k + to_tail d + (k2 + to_head d)) o)))
        (λ o. Q (outcome_after (k + to_tail d) o)))). inr (
          l.0,
          will_more im (cells_of_shape q) d m1 _ _ (λ o b. tail_next j k Q le ih o b) (tail m1 _ l.1),
        ))
        h.0
    head_next j Q le ih (Trapped w k) h = (h.0, tt)
    head_next j Q le ih (Bad a k) h = (h.0, tt)
    head_next j Q le ih (Still k) h = (h.0, omega arith)

    rounds : (j : ℕ) → j ≤ n → (m : Memory) (Q : Outcome → Type 0) → rounds_fine r fp fq j d m Q → turns m (Both Q j)
    rounds zero le m Q h = no_turn im d r (cells_of_shape p) (cells_of_shape q) m _ (h, omega arith)
    rounds (suc j) le m Q h = turn im d r (cells_of_shape p) (cells_of_shape q) m _
        (will_more im (cells_of_shape p) d m _ _ (λ o b. head_next j Q le (λ m Q h. rounds j (omega arith) m Q h) o b)
        (head m _ h))

  -- ---- any shape

  module _ (n : ℕ) (calls : Holds n (fine rs n)) where
    holds : (s : Shape) → IsShapeMade s → (d : Bool) (m : Memory) (Q : Outcome → Type 0)
        → fine_with rs (suc n) (fine rs n) s d m Q → Will im (cells_of_shape s) d m (Both Q (suc n))
    holds Nothing g d m Q h = will_of im [] d m (Done m 0) _ (runs_empty im d m) (h, tt)
    holds (One c) g d m Q h = will_of im (Own c ∷ []) d m (outcome_of d c m) _
        (runs_single im c d m g.0 (imm_word c g.1.in_range)) (h, sure_single (suc n) d c m)
    holds (Then p q) g false m Q h = will_seq im (cells_of_shape p) (cells_of_shape q) m _
        (will_more im (cells_of_shape p) false m _ _ (λ o b. next_sure (suc n) im (cells_of_shape q) false _ Q
        (λ m1 k f. holds q g.1 false m1 _ f) o b) (holds p g.0 false m _ h))
    holds (Then p q) g true m Q h = will_seq_back im (cells_of_shape p) (cells_of_shape q) m _
        (will_more im (cells_of_shape q) true m _ _ (λ o b. next_sure (suc n) im (cells_of_shape p) true _ Q
        (λ m1 k f. holds p g.0 true m1 _ f) o b) (holds q g.1 true m _ h))
    holds (Turned p) g d m Q h = will_mirror im (cells_of_shape p) d m _ (holds p g (not d) m Q h)
    holds (Choose r p q) g d m Q h =
        ⊎_elim
        (λ (l : (memory_reg m r ≢ 0) × fine_with rs (suc n) (fine rs n) p d m
        (λ o. Left (λ m1. memory_reg m1 r ≢ 0) o × Q (outcome_around 3 3 o))). will_branch_yes im d r (cells_of_shape p)
        (cells_of_shape q) m _ _ l.0 (holds p g.0 d m _ l.1) (λ m1 k b. b.0.0)
        (λ o b. (b.0.1, sure_around (suc n) 3 3 o b.1)))
        (λ (l : (memory_reg m r ≡ 0) × fine_with rs (suc n) (fine rs n) q d m
        (λ o. Left (λ m1. memory_reg m1 r ≡ 0) o × Q (around_no d o))). will_branch_no im d r (cells_of_shape p)
        (cells_of_shape q) m _ _ l.0 (holds q g.1 d m _ l.1) (λ m1 k b. b.0.0)
        (λ o b. (b.0.1, sure_around_no (suc n) d o b.1)))
        h
    holds (Loop r p q) g d m Q h =
        will_loop im d r (cells_of_shape p) (cells_of_shape q) m _ h.0
        (turns_more im d r (cells_of_shape p) (cells_of_shape q) m _ _
        (λ o b. (b.0, sure_after (suc n) (suc n) 3 o (omega arith) b.1))
        (rounds (suc n) r p q d (fine_with rs (suc n) (fine rs n) p) (fine_with rs (suc n) (fine rs n) q)
        (λ m Q f. holds p g.0 d m Q f) (λ m Q f. holds q g.1 d m Q f) (suc n) (omega arith) m _ h.1))
    holds (Check r code) g d m Q h =
        ⊎_elim
        (λ (l : (memory_reg m r ≡ 0) × Q (Done m 4)). will_of im _ d m (Done m 4) _ (runs_check_zero im d r code m l.0)
        (l.1, tt))
        (λ (l : (memory_reg m r ≢ 0) × ((k : ℕ) → k ≤ 4 → Q (Trapped code k))). let k = runs_check_other im d r code m
        l.0 in
        will_of im _ d m (Trapped code k.0) _ k.2 (l.1 k.0 k.1, tt))
        h
    holds (Try t code) g d m Q h =
        ⊎_elim
        (λ (l : TestPasses t m × Q (Done m 2)). will_of im _ d m (Done m 2) _ (runs_passes im d t code m l.0) (l.1, tt))
        (λ (l : TestFails t m × Q (Trapped code 1)). will_of im _ d m (Trapped code 1) _ (runs_fails im d t code m l.0)
        (l.1, tt))
        h
    holds (Call r b) g d m Q h =
        will_enter im r (rs.top r) (cells_of_shape (rs.body r)) b d m _ (there.placed r h.0) there.tidy.short h.1 h.2
        (λ w pw is. will_more im (cells_of_shape (rs.body r)) (bool_xor b d) _ _ _
        (λ o k. back_sure n w (bool_xor b d) Q o k)
        (calls (rs.body r) (there.made r h.0) (bool_xor b d) _ _ (h.3 w pw is)))
    holds (Call_at a b) g d m Q h =
        will_enter_place im h.0 (rs.top h.0) (cells_of_shape (rs.body h.0)) a b d m _ there.tidy (there.placed h.0 h.1)
        h.2 h.3 h.4 (λ w pw is. will_more im (cells_of_shape (rs.body h.0)) (bool_xor b d) _ _ _
        (λ o k. back_at_sure n a (rs.top h.0 + 1) w (bool_xor b d) Q o k)
        (calls (rs.body h.0) (there.made h.0 h.1) (bool_xor b d) _ _ (h.5 w pw is)))

  pub will_fine : (n : ℕ) (s : Shape) → IsShapeMade s → (d : Bool) (m : Memory) (Q : Outcome → Type 0)
      → fine rs n s d m Q
      → Will im (cells_of_shape s) d m (Both Q n)
  will_fine zero s g d m Q h = will_of im (cells_of_shape s) d m (Still 0) _ (runs_still im (cells_of_shape s) d m)
      (h, omega arith)
  will_fine (suc n) s g d m Q h = holds n (will_fine n) s g d m Q h

-- ---- in the words of the machine

fewer : (im : Image) (far : ℤ) (d : Bool) (k n e : ℕ) (s : State) → n ≤ k → LiteralStays im far d k e s
    → LiteralStays im far d n e s
fewer im far d k zero e s h t = tt
fewer im far d zero (suc n) e s h t = absurd (omega arith)
fewer im far d (suc k) (suc n) e s h t = (t.0, t.1, fewer im far d k n _ _ (omega arith) t.2)

four_of : (im : Image) (a b n : ℕ) (d : Bool) (m : Memory) (o : Outcome)
    → Ends im code_line d a b (near_end d a b) m (far_end d a b) o → Sure n o
    → One_of_four im (at code_line d (far_end d a b) m).pc d n (at code_line d (near_end d a b) m)
four_of im a b n d m (Done m' k) (finishes w) s = four.leaves m' k
    (path_comes im code_line d a b d m' w.path (
      record { closed = refl; place = refl; direction = refl; free = refl },
      refl,
    ))
four_of im a b n d m (Trapped w k) (traps h) s = four.traps w k
    (path_stops im code_line d a b d _ h.path h.inside h.stops)
four_of im a b n d m (Bad w k) (bad h) s = four.stops w k (path_stops im code_line d a b d _ h.path h.inside h.stops)
four_of im a b n d m (Still k) (still g) s = four.stays
    (fewer im _ d k n 0 _ s (path_stays im code_line d a b d g.path))

-- the conditions are asked of n rounds and calls, and the run is known for n steps
pub closed : (im : Image) (rs : Routines) (s : Shape) (a : ℕ) (d : Bool) (m : Memory) (n : ℕ) → RoutinesStand im rs
    → IsShapeMade s
    → Stands im code_line a (cells_of_shape s) → a + length (cells_of_shape s) < 2 ^ 30 → fine rs n s d m any
    → Closed im s a d m n
closed im rs s a d m n there g st l h =
    let r = (will_fine im rs there n s g d m any h).will code_line a l st in
    four_of im a (a + length (cells_of_shape s)) n d m r.0 r.1 r.2.1
