-- Steps of two processors that touch no cell both can change places.
use Rattle.std.proofs.Common.{◌≡◌, ◌≢◌, ◌∙◌, sym, ap, ap₂, subst, refl, ℕ, zero, suc, Bool, true, false, cond, List, []}
use Rattle.std.proofs.Common.{◌∷◌, ◌++◌, length, set, slice_get, slice_set, Option, Some, None, All, subst₂, ne_eqb}
use Rattle.std.proofs.lemmas.List.Elements.{All-head, All-tail}
use Rattle.std.proofs.lemmas.Option.{same_Some}
use lib.Seq.{set_comm}
use borrow.Author.Tests.{eqb-false}
use Rattle.pisa_isa.specs.Machine.{stop, next}
use Rattle.pisa_cluster.specs.declared.processor.Processor.{Processor}
use Rattle.pisa_cluster.specs.declared.processor.Kept.{Kept}
use Rattle.pisa_cluster.specs.Replay.{Joint, processor_at, processor_state, in_state, touches, step_of, cstep, replay}
use Rattle.pisa_cluster.specs.Replay.{StepGoes, AllGo}
use Rattle.pisa_cluster.specs.Replay.{makers}
use Rattle.pisa_cluster.specs.Schedules.{is_same_cell, next_touch}
use Rattle.pisa_cluster.proofs.Locality.{written, put_by, next-same, stop-same, next-cells, length-written}
use Rattle.pisa_cluster.proofs.Locality.{read-written, written-written}

-- look-ups after a change of a list
module _ {X : Type 0} where
  none-some : (x : X) → None ≡ Some x → ⊥
  none-some x e = cc

  pub slice_get-set_other : (xs : List X) (i j : ℕ) (w : X) → j ≢ i → slice_get (set xs i w) j ≡ slice_get xs j
  slice_get-set_other [] i j w apart = refl
  slice_get-set_other (x ∷ xs) zero zero w apart = absurd (apart refl)
  slice_get-set_other (x ∷ xs) zero (suc j) w apart = refl
  slice_get-set_other (x ∷ xs) (suc i) zero w apart = refl
  slice_get-set_other (x ∷ xs) (suc i) (suc j) w apart = slice_get-set_other xs i j w (λ e. apart (ap suc e))

  pub slice_get-set_same : (xs : List X) (i : ℕ) (x w : X) → slice_get xs i ≡ Some x → slice_get (set xs i w) i ≡ Some w
  slice_get-set_same [] i x w h = absurd (none-some x h)
  slice_get-set_same (y ∷ xs) zero x w h = refl
  slice_get-set_same (y ∷ xs) (suc i) x w h = slice_get-set_same xs i x w h

  pub set_there : (xs : List X) (i : ℕ) (x : X) → slice_get xs i ≡ Some x → set xs i x ≡ xs
  set_there [] i x h = refl
  set_there (y ∷ xs) zero x h = ap (λ (z : X). z ∷ xs) (sym (same_Some y x h))
  set_there (y ∷ xs) (suc i) x h = ap (λ (zs : List X). y ∷ zs) (set_there xs i x h)

-- the next state of a processor, whatever the cells that it does not touch hold
in_next : (p : Processor) (t : Option ℕ) (w : ℕ) (cells : List ℕ) → is_same_cell (touches p) t ≡ false
    → in_state p (next p.image.code (processor_state p (written t w cells)))
    ≡ in_state p (next p.image.code (processor_state p cells))
in_next p t w cells apart = ap (in_state p) (next-same p (written t w cells) cells
    (read-written (touches p) t w cells apart))

same_turned : (t u : Option ℕ) → is_same_cell t u ≡ false → is_same_cell u t ≡ false
same_turned None None h = refl
same_turned None (Some b) h = refl
same_turned (Some a) None h = refl
same_turned (Some a) (Some b) h = ne_eqb b a (λ e. eqb-false a b h (sym e))

-- two processors
module _ (s : Joint) (i k : ℕ) (p q : Processor) where
  others : is_same_cell (touches p) (touches q) ≡ false → i ≢ k
      → step_of (step_of s i (Some p)) k (Some q) ≡ step_of (step_of s k (Some q)) i (Some p)
  others free apart =
      let turned = same_turned (touches p) (touches q) free in
      let first = next-cells p s.cells in
      let second = next-cells q s.cells in
      let p1 = in_state p (next p.image.code (processor_state p s.cells)) in
      let q1 = in_state q (next q.image.code (processor_state q s.cells)) in
      let left_cells : (next q.image.code (processor_state q
      (next p.image.code (processor_state p s.cells)).cells)).cells
      ≡ written (touches q) (put_by q) (written (touches p) (put_by p) s.cells)
      = next-cells q (next p.image.code (processor_state p s.cells)).cells
      ∙ ap (written (touches q) (put_by q)) first in
      let right_cells : (next p.image.code (processor_state p
      (next q.image.code (processor_state q s.cells)).cells)).cells
      ≡ written (touches p) (put_by p) (written (touches q) (put_by q) s.cells)
      = next-cells p (next q.image.code (processor_state q s.cells)).cells
      ∙ ap (written (touches p) (put_by p)) second in
      let q2 : in_state q (next q.image.code (processor_state q (next p.image.code (processor_state p s.cells)).cells))
      ≡ q1
      = ap (λ c. in_state q (next q.image.code (processor_state q c))) first
      ∙ in_next q (touches p) (put_by p) s.cells turned in
      let p2 : in_state p (next p.image.code (processor_state p (next q.image.code (processor_state q s.cells)).cells))
      ≡ p1
      = ap (λ c. in_state p (next p.image.code (processor_state p c))) second
      ∙ in_next p (touches q) (put_by q) s.cells free in
      ap₂ (λ x c. record { processors = slice_set (slice_set s.processors i p1) k x; cells = c }) q2 left_cells
      ∙ ap₂ (λ ps c. record { processors = ps; cells = c }) (set_comm s.processors i k p1 q1 apart)
      (written-written (touches q) (touches p) (put_by q) (put_by p) s.cells turned)
      ∙ sym (ap₂ (λ x c. record { processors = slice_set (slice_set s.processors k q1) i x; cells = c }) p2 right_cells)

-- a step, and a step of another processor after it
pub record Swapped (s : Joint) (step later : Kept) : Type 0 where
  pub first : StepGoes s later
  pub second : StepGoes (cstep s later.who) step
  pub same : cstep (cstep s step.who) later.who ≡ cstep (cstep s later.who) step.who

swapped_at : (s : Joint) (i k : ℕ) (step later : Kept) → step.who ≡ suc i → later.who ≡ suc k → i ≢ k
    → (g : StepGoes s step) → (h : StepGoes (cstep s step.who) later)
    → is_same_cell step.touched later.touched ≡ false → Swapped s step later
swapped_at s i k step later mine its apart g h free =
    let p = g.processor in
    let q = h.processor in
    let there : slice_get s.processors i ≡ Some p = subst (λ n. processor_at s n ≡ Some p) mine g.there in
    let led : cstep s step.who ≡ step_of s i (Some p) = ap (cstep s) mine ∙ ap (step_of s i) there in
    let found : slice_get (step_of s i (Some p)).processors k ≡ Some q =
    subst (λ (t : Joint). slice_get t.processors k ≡ Some q) led
    (subst (λ n. processor_at (cstep s step.who) n ≡ Some q) its h.there) in
    let its_there : slice_get s.processors k ≡ Some q = sym
    (slice_get-set_other s.processors i k (in_state p (next p.image.code (processor_state p s.cells)))
    (λ e. apart (sym e)))
    ∙ found in
    let its_led : cstep s later.who ≡ step_of s k (Some q) = ap (cstep s) its ∙ ap (step_of s k) its_there in
    let free_now : is_same_cell (touches p) (touches q) ≡ false =
    subst₂ (λ t u. is_same_cell t u ≡ false) g.touched h.touched free in
    let long : length (step_of s i (Some p)).cells ≡ length s.cells = ap length (next-cells p s.cells)
    ∙ length-written (touches p) (put_by p) s.cells in
    let its_long : length (step_of s k (Some q)).cells ≡ length s.cells = ap length (next-cells q s.cells)
    ∙ length-written (touches q) (put_by q) s.cells in
    let goes_first : stop q.image.code (processor_state q s.cells) ≡ None =
    stop-same q s.cells (step_of s i (Some p)).cells (sym long)
    ∙ subst (λ (t : Joint). stop q.image.code (processor_state q t.cells) ≡ None) led h.goes in
    let goes_second : stop p.image.code (processor_state p (step_of s k (Some q)).cells) ≡ None =
    stop-same p (step_of s k (Some q)).cells s.cells its_long ∙ g.goes in
    let there_second : slice_get (step_of s k (Some q)).processors i ≡ Some p =
    slice_get-set_other s.processors k i (in_state q (next q.image.code (processor_state q s.cells))) apart ∙ there in
    let second_led : cstep (step_of s k (Some q)) step.who ≡ step_of (step_of s k (Some q)) i (Some p) =
    ap (cstep (step_of s k (Some q))) mine ∙ ap (step_of (step_of s k (Some q)) i) there_second in
    let first_led : cstep (step_of s i (Some p)) later.who ≡ step_of (step_of s i (Some p)) k (Some q) =
    ap (cstep (step_of s i (Some p))) its ∙ ap (step_of (step_of s i (Some p)) k) found in
    record {
      first = record {
        processor = q;
        there = subst (λ n. processor_at s n ≡ Some q) (sym its) its_there;
        goes = goes_first;
        touched = h.touched;
      };
      second = subst (λ (t : Joint). StepGoes t step) (sym its_led) (record {
        processor = p;
        there = subst (λ n. processor_at (step_of s k (Some q)) n ≡ Some p) (sym mine) there_second;
        goes = goes_second;
        touched = g.touched;
      });
      same =
          ap (λ (t : Joint). cstep t later.who) led ∙ first_led ∙ others s i k p q free_now apart ∙ sym second_led
          ∙ ap (λ (t : Joint). cstep t step.who) (sym its_led);
    }

-- numbers of processors are not 0
numbered : (s : Joint) (who : ℕ) (p : Processor) → processor_at s who ≡ Some p → (i : ℕ) × (who ≡ suc i)
numbered s zero p h = absurd (none-some p h)
numbered s (suc i) p h = (i, refl)

pub swapped : (s : Joint) (step later : Kept) → later.who ≢ step.who → StepGoes s step
    → StepGoes (cstep s step.who) later
    → is_same_cell step.touched later.touched ≡ false → Swapped s step later
swapped s step later apart g h free =
    let mine = numbered s step.who g.processor g.there in
    let its = numbered (cstep s step.who) later.who h.processor h.there in
    swapped_at s mine.0 its.0 step later mine.1 its.1 (λ e. apart (its.1 ∙ ap suc (sym e) ∙ sym mine.1)) g h free

-- a step made after all later ones
pub record Behind (s : Joint) (step : Kept) (later : List Kept) : Type 0 where
  pub follows : AllGo s later
  pub goes : StepGoes (replay s (makers later)) step
  pub leads : replay (cstep s step.who) (makers later) ≡ cstep (replay s (makers later)) step.who

not_found : {X : Type 0} (found : Bool) (x : X) (rest : Option X) → cond found (Some x) rest ≡ None
    → (found ≡ false) × (rest ≡ None)
not_found true x rest h = absurd (none-some x (sym h))
not_found false x rest h = (refl, h)

pub behind : (later : List Kept) (s : Joint) (step : Kept) → StepGoes s step → AllGo (cstep s step.who) later
    → All (λ (k : Kept). k.who ≢ step.who) later → next_touch step later ≡ None → Behind s step later
behind [] s step g follows others_all free = record { follows = tt; goes = g; leads = refl }
behind (k ∷ later) s step g follows others_all free =
    let test = not_found (is_same_cell step.touched k.touched) k (next_touch step later) free in
    let swap = swapped s step k (All-head (λ (x : Kept). x.who ≢ step.who) k later others_all) g follows.0 test.0 in
    let rest = behind later (cstep s k.who) step swap.second (subst (λ t. AllGo t later) swap.same follows.1)
    (All-tail (λ (x : Kept). x.who ≢ step.who) k later others_all) test.1 in
    record {
      follows = (swap.first, rest.follows);
      goes = rest.goes;
      leads = ap (λ t. replay t (makers later)) swap.same ∙ rest.leads;
    }

-- lists of steps in two parts
pub replay-append : (xs ys : List Kept) (s : Joint) → replay s (makers (xs ++ ys))
    ≡ replay (replay s (makers xs)) (makers ys)
replay-append [] ys s = refl
replay-append (x ∷ xs) ys s = replay-append xs ys (cstep s x.who)

pub all_go-append : (xs ys : List Kept) (s : Joint) → AllGo s xs → AllGo (replay s (makers xs)) ys → AllGo s (xs ++ ys)
all_go-append [] ys s left right = right
all_go-append (x ∷ xs) ys s left right = (left.0, all_go-append xs ys (cstep s x.who) left.1 right)

pub all_go-split : (xs ys : List Kept) (s : Joint) → AllGo s (xs ++ ys) → AllGo s xs × AllGo (replay s (makers xs)) ys
all_go-split [] ys s all = (tt, all)
all_go-split (x ∷ xs) ys s all = let rest = all_go-split xs ys (cstep s x.who) all.1 in ((all.0, rest.0), rest.1)
