-- The laws of the loop, the check and the calls, as contracts state them.
use Rattle.std.proofs.Common.{◌≡◌, ◌≢◌, ℕ, ◌+◌, ◌^◌, ◌<◌, ◌≤◌, inl, inr, Bool, List, [], ◌∷◌, length, refl, ap, subst}
use Rattle.code_conventions.specs.pisa_isa.Machine.{Memory}
use Rattle.paired_code.specs.declared.part.Symbol.{Symbol}
use Rattle.paired_code.specs.declared.part.Symbol.TheVariants.{Enter}
use Rattle.paired_code.specs.Machine.{Image, memory_with_reg}
use Rattle.paired_code.specs.Layout.{bool_xor, loop_cells, check_cells, Test, test_cells, place_register}
use Rattle.paired_code.specs.Layout.{enter_at_cells}
use Rattle.paired_code.specs.Pieces.{Outcome, Done, Trapped, Bad, Still, Ends, outcome_after, IsOutcomeOver, to_tail}
use Rattle.paired_code.specs.Pieces.{to_head}
use Rattle.paired_code.specs.Pieces.{near_end, far_end}
use Rattle.paired_code.specs.Laws.{Rounds, pause, ends_in_head, leaves, ends_in_tail, again, WhileLaw, CheckLaw}
use Rattle.paired_code.specs.Laws.{BranchTestLaw, EnterLaw, EnterAtLaw, came_back, called, called_at}
use Rattle.paired_code.proofs.Laws.{Next, will_of, runs_of}
use Rattle.paired_code.proofs.Loop.{Turns, turn, no_turn, turns_more, will_loop}
use Rattle.paired_code.proofs.Small.{runs_check_zero, runs_check_other}
use Rattle.paired_code.proofs.Checks.{runs_passes, runs_fails}
use Rattle.paired_code.proofs.Call.{Returns, will_enter}
use Rattle.paired_code.proofs.EnterAt.{Returns_any, will_enter_at_any, not_two, other_register}

over_is : (W : Memory → ℕ → Type 0) (Q : Outcome → Type 0) (o : Outcome) → IsOutcomeOver o → Q o → Next W Q o
over_is W Q (Done m k) v q = absurd v
over_is W Q (Trapped w k) v q = q
over_is W Q (Bad w k) v q = q
over_is W Q (Still k) v q = q

rounds_turn : {im : Image} {r : ℕ} {head tail : List Symbol} {d : Bool} {m : Memory} {o : Outcome}
    → Rounds im r head tail d m o → Turns im r head tail d m (λ x. x ≡ o)
rounds_turn {im = im} {r = r} {head = head} {tail = tail} {d = d} {m = m} pause = no_turn im d r head tail m _ refl
rounds_turn {im = im} {r = r} {head = head} {tail = tail} {d = d} {m = m} (ends_in_head {o = o} h v) =
    turn im d r head tail m _ (will_of im head d m o _ h (over_is _ (λ x. x ≡ o) o v refl))
rounds_turn {im = im} {r = r} {head = head} {tail = tail} {d = d} {m = m} (leaves {m1 = m1} {k = k} h nz) =
    turn im d r head tail m _ (will_of im head d m (Done m1 k) _ h (inl (nz, refl)))
rounds_turn {im = im} {r = r} {head = head} {tail = tail} {d = d} {m = m}
    (ends_in_tail {m1 = m1} {k = k} {o = o} h z t v) =
    turn im d r head tail m _ (will_of im head d m (Done m1 k) _ h
    (inr (
      z,
      will_of im tail d m1 o _ t (over_is _ (λ x. outcome_after (k + to_tail d) x ≡ outcome_after (k + to_tail d) o) o v
          refl),
    )))
rounds_turn {im = im} {r = r} {head = head} {tail = tail} {d = d} {m = m}
    (again {m1 = m1} {m2 = m2} {k = k} {k2 = k2} {o = o} h z t z2 more) =
    turn im d r head tail m _ (will_of im head d m (Done m1 k) _ h
    (inr (
      z,
      will_of im tail d m1 (Done m2 k2) _ t (
        z2,
        turns_more im d r head tail m2 _ _ (λ x e. ap (outcome_after (k + to_tail d + (k2 + to_head d))) e)
            (rounds_turn more),
      ),
    )))

pub while_law : (r : ℕ) (head tail : List Symbol) → WhileLaw r head tail (loop_cells r head tail)
while_law r head tail = record {
  turns = λ im d m o nz h. runs_of im (loop_cells r head tail) d m (outcome_after 3 o)
      (will_loop im d r head tail m _ nz (turns_more im d r head tail m _ _ (λ x e. ap (outcome_after 3) e)
      (rounds_turn h)));
}

pub check_law : (r code : ℕ) → CheckLaw r code (check_cells r code)
check_law r code = record {
  zero_part = λ im d m z. runs_check_zero im d r code m z;
  other_part = λ im d m nz. runs_check_other im d r code m nz;
}

pub test_law : (t : Test) (code : ℕ) → BranchTestLaw t code (test_cells t code)
test_law t code = record {
  passes_part = λ im d m h. runs_passes im d t code m h;
  fails_part = λ im d m h. runs_fails im d t code m h;
}

-- ---- calls

returns_of : (w : ℕ) (d : Bool) (Q : Outcome → Type 0) (x : Outcome) → came_back w x → Q (called d x) → Returns w d Q x
returns_of w d Q (Done m k) h q = (h, q)
returns_of w d Q (Trapped v k) h q = q
returns_of w d Q (Bad v k) h q = q
returns_of w d Q (Still k) h q = q

pub enter_law : (r : ℕ) (b : Bool) → EnterLaw r b (Enter r b ∷ [])
enter_law r b = record {
  enters = λ im top body d m o t tidy room z h f i l st.
      let Q : Outcome → Type 0 = λ x. (w : ℕ) × (0 < w) × (w < 2 ^ 32) × (x ≡ called (bool_xor b d) (o w)) in
      let a = (will_enter im r top body b d m Q t tidy.short room z
      (λ w pw is. let c = h w pw is in will_of im body (bool_xor b d) (memory_with_reg m 2 w) (o w) _ c.0
      (returns_of w (bool_xor b d) Q (o w) c.1 (w, pw, is, refl)))).will f i l st in
      let q = a.2 in
      (q.0, q.1, q.2, subst (λ x. Ends im f d i (i + 1) (near_end d i (i + 1)) m (far_end d i (i + 1)) x) q.3 a.1);
}

returns_any_of : (a s w : ℕ) (d : Bool) (Q : Outcome → Type 0) (x : Outcome) → came_back w x
    → ((e : ℕ) → 6 ≤ e → e ≤ 15 → Q (called_at a s d e x)) → Returns_any a s w d Q x
returns_any_of a s w d Q (Done m k) h q = (h, q)
returns_any_of a s w d Q (Trapped v k) h q = q
returns_any_of a s w d Q (Bad v k) h q = q
returns_any_of a s w d Q (Still k) h q = q

at_other : (a a' : ℕ) (b : Bool) → (a ≢ 2 → a ≡ a') → ((a ≢ 2) → EnterAtLaw a b (enter_at_cells a b))
    → EnterAtLaw a b (enter_at_cells a' b)
at_other a a' b e law = record {
  enters = λ im r top body d m o t tidy room z v h. let na = not_two m a top z v in
      (subst (λ x. EnterAtLaw a b (enter_at_cells x b)) (e na) (law na)).enters im r top body d m o t tidy room z v h;
}

enter_at_one : (a : ℕ) (b : Bool) → a ≢ 2 → EnterAtLaw a b (enter_at_cells a b)
enter_at_one a b na = record {
  enters = λ im r top body d m o t tidy room z v h f i l st.
      let Q : Outcome → Type 0 = λ x. (w : ℕ) × (e : ℕ) × (0 < w) × (w < 2 ^ 32) × (6 ≤ e) × (e ≤ 15)
      × (x ≡ called_at a (top + 1) (bool_xor b d) e (o w)) in
      let c = (will_enter_at_any im r top body a b d m Q tidy t na room z v
      (λ w pw is. let c = h w pw is in will_of im body (bool_xor b d) (memory_with_reg m 2 w) (o w) _ c.0
      (returns_any_of a (top + 1) w (bool_xor b d) Q (o w) c.1 (λ e lo hi. (w, e, pw, is, lo, hi, refl))))).will f i
      l st in
      let q = c.2 in (
        q.0,
        q.1,
        q.2,
        q.3,
        q.4,
        q.5,
        subst (λ x. Ends im f d i (i + length (enter_at_cells a b))
            (near_end d i (i + length (enter_at_cells a b))) m (far_end d i (i + length (enter_at_cells a b))) x) q.6
            c.1,
      );
}

pub enter_at_law : (a : ℕ) (b : Bool) → EnterAtLaw a b (enter_at_cells (place_register a) b)
enter_at_law a b = at_other a (place_register a) b (λ h. other_register a h) (λ h. enter_at_one a b h)
