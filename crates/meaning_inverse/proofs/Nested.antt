-- Conditionals and loops undone.
use Rattle.std.proofs.Common.{◌≡◌, ℕ, zero, suc, ◌+◌, ◌≤◌, refl, sym, ap, subst, ◌∙◌, arith, true, false, Bool}
use Rattle.std.proofs.Common.{not, if◌then◌else◌, Ok}
use Rattle.meaning_reached.specs.rpp_tree.Tree.{Expression, Statements, If, From, End, Then}
use Rattle.meaning_reached.specs.rpp_tree.Tree.{nodes}
use Rattle.meaning_reached.specs.inverse_rules.Inverse.{inverse}
use Rattle.meaning_reached.specs.roopl_semantics.Run.{Run, Done, ◌>>=◌, give, fault_if}
use Rattle.meaning_reached.specs.roopl_semantics.Store.{Value, State}
use Rattle.meaning_reached.specs.roopl_semantics.Value.{value as value_in, evaluated}
use Rattle.meaning_reached.specs.roopl_semantics.Execution.{Setting, statement, exec, holds, turns, turn_end, FI, LOOP}
use Rattle.meaning_reached.specs.roopl_semantics.Agreement.{renamed}
use Rattle.meaning_inverse.proofs.Runs.{in_parts, done_then, done_result, done_cost, given_done, passed_check, passes}
use Rattle.meaning_inverse.proofs.Runs.{Runs}
use Rattle.meaning_inverse.proofs.Later.{IsSound, Later, later_itself, later_then, exec_later}
use Rattle.meaning_inverse.proofs.Seen.{Names, Sees, evaluated_seen, same_truth}
use Rattle.meaning_inverse.proofs.Ground.{Ground}
use Rattle.meaning_inverse.proofs.Undone.{SameOn, same_then, Undone, BlockUndone}
use Rattle.meaning_reached.proofs.roopl_semantics_laws.CostBound.{some_nodes}

fi_checks : (p q : Bool) → (if p then not q else q) ≡ false → q ≡ p
fi_checks true true e = refl
fi_checks true false e = cc
fi_checks false true e = cc
fi_checks false false e = refl

fi_passes : (p q : Bool) → q ≡ p → (if q then not p else p) ≡ false
fi_passes true true e = refl
fi_passes true false e = cc
fi_passes false true e = cc
fi_passes false false e = refl

not_true : (t : Bool) → not t ≡ false → t ≡ true
not_true true e = refl
not_true false e = cc

chosen_inverse : (p q : Bool) (taken other : Statements) → q ≡ p
    → (if q then inverse taken else inverse other) ≡ inverse (if p then taken else other)
chosen_inverse true true taken other e = refl
chosen_inverse true false taken other e = cc
chosen_inverse false true taken other e = cc
chosen_inverse false false taken other e = refl

module _ (setting : Setting) (G : Ground setting) where
  -- blocks of so much fuel are undone
  abbrev pub Undoes : ℕ → Type 0
  Undoes n =
      (C : G.Context) (body : Statements) (a b : State) (c : ℕ) → G.Typed C body → G.Good C a
      → exec setting n body a ≡ Done b c
      → (f : Names) (b' : State) → Sees setting.limits.heap f b b' → BlockUndone setting body f a b b' c

  chosen_typed : (C : G.Context) (t : Bool) (taken other : Statements) → G.Typed C taken × G.Typed C other
      → G.Typed C (if t then taken else other)
  chosen_typed C true taken other k = k.0
  chosen_typed C false taken other k = k.1

  pub undo_if : (n : ℕ) → Undoes n → (C : G.Context) (at : ℕ) (test : Expression) (taken other : Statements)
      (after : Expression) (a b : State) (c : ℕ) → G.Typed C (Then (If at test taken other after) End) → G.Good C a
      → G.Good C b
      → statement setting n (exec setting n) (If at test taken other after) a ≡ Done b c → (f : Names) (b' : State)
      → Sees setting.limits.heap f b b' → Undone setting (If at test taken other after) f a b b' c
  undo_if n ih C at test taken other after a b c typed good good_b e f b' sees =
      let one = in_parts (evaluated setting.program test a)
      (λ v. exec setting n (if holds v then taken else other) a >>=
      (λ end. evaluated setting.program after end >>= (λ w. fault_if FI
      (if holds v then not (holds w) else holds w) >>= (λ u. give end)))) b c e in
      let v = one.middle in
      let body = if holds v then taken else other in
      let two = in_parts (exec setting n body a) (λ end. evaluated setting.program after end >>=
      (λ w. fault_if FI (if holds v then not (holds w) else holds w) >>= (λ u. give end))) b one.after
      one.second in
      let end = two.middle in
      let three = in_parts (evaluated setting.program after end)
      (λ w. fault_if FI (if holds v then not (holds w) else holds w) >>= (λ u. give end)) b two.after
      two.second in
      let w = three.middle in
      let four = in_parts (fault_if FI (if holds v then not (holds w) else holds w)) (λ u. give end) b three.after
      three.second in
      let is : end ≡ b = done_result end b 0 four.after four.second in
      let check = passed_check FI (if holds v then not (holds w) else holds w) four.middle four.before four.first
      in
      let agree : holds w ≡ holds v = fi_checks (holds v) (holds w) check.0 in
      let first = given_done (nodes test) (value_in setting.program a test) v one.before one.first in
      let last = given_done (nodes after) (value_in setting.program end after) w three.before three.first in
      let P : State → Type 0 = λ s. value_in setting.program s after ≡ Ok w in
      let Q : State → Type 0 = λ s. exec setting n body a ≡ Done s two.before in
      let inner = ih C body a b two.before (chosen_typed C (holds v) taken other
      (G.branches C at test taken other after typed)) good (subst Q is two.first) f b' sees in
      let clean_a = G.clean C (If at test taken other after) a typed good in
      let clean_b = G.clean C (If at test taken other after) b typed good_b in
      let back = inner.back in
      let g = inner.names in
      let w' = renamed f.there w in
      let v' = renamed g.there v in
      let truth : holds w' ≡ holds v = same_truth f w ∙ agree in
      let turn : holds w' ≡ holds v' = truth ∙ sym (same_truth g v) in
      let R : Statements → Type 0 = λ s. Runs setting s b' back two.before in
      let runs = subst R (sym (chosen_inverse (holds v) (holds w') taken other truth)) inner.runs in
      record {
        back = back;
        names = g;
        does = record {
          by = λ m h.
              done_then (evaluated setting.program after b') _ w' back (nodes after) (two.before + nodes test) c
              (evaluated_seen setting.limits.heap f b b' sees setting.program after w clean_b.1 (subst P is last.0))
              (done_then (exec setting m (if holds w' then inverse taken else inverse other) b') _ back back two.before
              (nodes test) (two.before + nodes test)
              (runs.by m (let i = one.sum in let j = two.sum in omega arith))
              (done_then (evaluated setting.program test back) _ v' back (nodes test) 0 (nodes test)
              (evaluated_seen setting.limits.heap g a back inner.sees setting.program test v clean_a.0 first.0)
              (done_then (fault_if FI (if holds w' then not (holds v') else holds v')) _ tt back 0 0 0
              (passes FI (if holds w' then not (holds v') else holds v')
              (fi_passes (holds v') (holds w') turn)) refl refl) (omega arith)) refl)
              (let z = done_cost end b 0 four.after four.second in let s1 = one.sum in let s2 = two.sum in
              let s3 = three.sum in let s4 = four.sum in let k1 = first.1 in let k2 = last.1 in
              let k4 = check.1 in omega arith);
        };
        sees = inner.sees;
        same = inner.same;
      }

  -- the rest of a loop's inverse, at the state before an iteration of the loop
  pub record TurnsBack (entry : Expression) (first again : Statements) (exit : Expression) (f : Names)
      (start y y' : State) (cost : ℕ) : Type 0 where
    pub back : State
    pub names : Names
    pub goes : (m k : ℕ) → cost ≤ m → cost ≤ k → (evaluated setting.program entry y' >>=
        (λ v. turn_end setting (exec setting m) exit (inverse again)
        (turns setting k (exec setting m) exit (inverse first) (inverse again) entry) (holds v) y'))
        ≡ Done back cost
    pub sees : Sees setting.limits.heap names start back
    pub same : SameOn f names start y

  pub record LoopUndone (entry : Expression) (first again : Statements) (exit : Expression) (f : Names)
      (start b b' : State) (cost : ℕ) : Type 0 where
    pub back : State
    pub names : Names
    pub exit_value : Value
    pub is_exit : evaluated setting.program exit b' ≡ Done exit_value (nodes exit)
    pub holds_there : holds exit_value ≡ true
    pub less : ℕ
    pub goes : (m k : ℕ) → cost ≤ m → cost ≤ k → turns setting k (exec setting m) exit (inverse first) (inverse again)
        entry b' ≡ Done back less
    pub sum : nodes exit + less ≡ cost
    pub sees : Sees setting.limits.heap names start back
    pub same : SameOn f names start b

  module _ (C : G.Context) (n : ℕ) (ih : Undoes n) (at : ℕ) (entry : Expression) (first again : Statements)
      (exit : Expression) (typed : G.Typed C (Then (From at entry first again exit) End)) where
    -- one more part of the inverse's iterations
    turn_back : (f : Names) (start y y' x x' : State) (c1 d cost : ℕ) (k m : ℕ)
        → (back : TurnsBack entry first again exit f start y y' d) → Runs setting (inverse first) x' y' c1
        → c1 + d ≡ cost → cost ≤ m → cost ≤ k → turns setting (suc k) (exec setting m) exit (inverse first)
        (inverse again) entry x' ≡ Done back.back cost
    turn_back f start y y' x x' c1 d cost k m back runs sum h l =
        done_then (exec setting m (inverse first) x') (λ end. evaluated setting.program entry end >>=
        (λ v. turn_end setting (exec setting m) exit (inverse again)
        (turns setting k (exec setting m) exit (inverse first) (inverse again) entry) (holds v) end)) y'
        back.back c1 d cost (runs.by m (omega arith)) (back.goes m k (omega arith) (omega arith)) sum

    -- the inverse's way from after an iteration to before it
    turns_path : (start y : State) (i : Names) (y' z' x' : State) (w' v' : Value) (c3 c1 d : ℕ)
        (rest : TurnsBack entry first again exit i start y y' d) → Runs setting (inverse again) z' x' c3
        → Runs setting (inverse first) x' y' c1
        → evaluated setting.program entry z' ≡ Done w' (nodes entry) → holds w' ≡ false
        → evaluated setting.program exit x' ≡ Done v' (nodes exit) → holds v' ≡ false
        → (m k : ℕ) → nodes entry + (c3 + (nodes exit + (c1 + d))) ≤ m
        → nodes entry + (c3 + (nodes exit + (c1 + d))) ≤ k
        → (evaluated setting.program entry z' >>= (λ v. turn_end setting (exec setting m) exit (inverse again)
        (turns setting k (exec setting m) exit (inverse first) (inverse again) entry) (holds v) z'))
        ≡ Done rest.back (nodes entry + (c3 + (nodes exit + (c1 + d))))
    turns_path start y i y' z' x' w' v' c3 c1 d rest runs_again runs_first enters out exits on m k h l =
        let next : State → Run State = turns setting k (exec setting m) exit (inverse first) (inverse again) entry in
        let done : next x' ≡ Done rest.back (c1 + d) = by k l in
        done_then (evaluated setting.program entry z') (λ v. turn_end setting (exec setting m) exit (inverse again) next
        (holds v) z') w' rest.back (nodes entry) (c3 + (nodes exit + (c1 + d)))
        (nodes entry + (c3 + (nodes exit + (c1 + d)))) enters
        (ap (λ t. turn_end setting (exec setting m) exit (inverse again) next t z') out
        ∙ done_then (exec setting m (inverse again) z') (λ end. evaluated setting.program exit end >>=
        (λ v. fault_if LOOP (holds v) >>= (λ u. next end))) x' rest.back c3 (nodes exit + (c1 + d))
        (c3 + (nodes exit + (c1 + d))) (runs_again.by m (omega arith))
        (done_then (evaluated setting.program exit x') (λ v. fault_if LOOP (holds v) >>= (λ u. next x')) v'
        rest.back (nodes exit) (c1 + d) (nodes exit + (c1 + d)) exits
        (done_then (fault_if LOOP (holds v')) (λ u. next x') tt rest.back 0 (c1 + d) (c1 + d)
        (passes LOOP (holds v') on) done (omega arith)) refl) refl)
        refl
      where
        by : (k : ℕ) → nodes entry + (c3 + (nodes exit + (c1 + d))) ≤ k
            → turns setting k (exec setting m) exit (inverse first) (inverse again) entry x' ≡ Done rest.back (c1 + d)
        by zero l = let p = some_nodes exit in absurd (omega arith)
        by (suc k) l = let p = some_nodes exit in turn_back i start y y' x' x' c1 d (c1 + d) k m rest runs_first refl
            (omega arith) (omega arith)

    loop_undone : (j : ℕ) (start y b : State) (c d : ℕ) → IsSound start → Later start y → G.Good C y
        → ((f : Names) (y' : State) → Sees setting.limits.heap f y y' → TurnsBack entry first again exit f start y y' d)
        → turns setting j (exec setting n) entry first again exit y ≡ Done b c
        → (f : Names) (b' : State) → Sees setting.limits.heap f b b'
        → LoopUndone entry first again exit f start b b' (c + d)
    loop_undone zero start y b c d sound later good back e f b' sees = cc
    loop_undone (suc j) start y b c d sound later good back e f b' sees =
        let one = in_parts (exec setting n first y) (λ end. evaluated setting.program exit end >>=
        (λ v. turn_end setting (exec setting n) entry again
        (turns setting j (exec setting n) entry first again exit) (holds v) end)) b c e in
        let x = one.middle in
        let two = in_parts (evaluated setting.program exit x)
        (λ v. turn_end setting (exec setting n) entry again
        (turns setting j (exec setting n) entry first again exit) (holds v) x) b one.after one.second in
        let v = two.middle in
        let val = given_done (nodes exit) (value_in setting.program x exit) v two.before two.first in
        let blocks = G.turns C at entry first again exit typed in
        let good_x = G.keeps C n first y x one.before blocks.0 good one.first in
        let sound_y = G.sound C y good in
        let later_x = exec_later setting n first y x one.before sound_y one.first in
        by x v one.before two.after good_x (λ g x' s. ih C first y x one.before blocks.0 good one.first g x' s) later_x
        val.0 (holds v) refl two.second (let s1 = one.sum in let s2 = two.sum in let k2 = val.1 in omega arith)
        (λ z c' d' later' good' back' run g s. loop_undone j start z b c' d' sound later' good' back' run f b' s)
      where
        by : (x : State) (v : Value) (c1 c2 : ℕ) → G.Good C x
            → ((g : Names) (x' : State) → Sees setting.limits.heap g x x' → BlockUndone setting first g y x x' c1)
            → Later y x → value_in setting.program x exit ≡ Ok v → (t : Bool) → holds v ≡ t
            → turn_end setting (exec setting n) entry again (turns setting j (exec setting n) entry first again exit)
            (holds v) x ≡ Done b c2 → c1 + (nodes exit + c2) ≡ c
            → ((z : State) (c' d' : ℕ) → Later start z → G.Good C z
            → ((g : Names) (z' : State) → Sees setting.limits.heap g z z'
            → TurnsBack entry first again exit g start z z' d')
            → turns setting j (exec setting n) entry first again exit z ≡ Done b c' → (g : Names)
            → Sees setting.limits.heap f b b' → LoopUndone entry first again exit f start b b' (c' + d'))
            → LoopUndone entry first again exit f start b b' (c + d)
        by x v c1 c2 good_x undo later_x val true truth run sum more =
            let ends : Done x 0 ≡ Done b c2 = ap (λ t. turn_end setting (exec setting n) entry again
            (turns setting j (exec setting n) entry first again exit) t x) (sym truth) ∙ run in
            let is : x ≡ b = done_result x b 0 c2 ends in
            let P : State → Type 0 = λ s. Sees setting.limits.heap f s b' in
            let sees_x = subst P (sym is) sees in
            let inner = undo f b' sees_x in
            let rest = back inner.names inner.back inner.sees in
            let Q : State → Type 0 = λ s. SameOn f rest.names start s in
            record {
              back = rest.back;
              names = rest.names;
              exit_value = renamed f.there v;
              is_exit = evaluated_seen setting.limits.heap f x b' sees_x setting.program exit v
                  (G.clean C (From at entry first again exit) x typed good_x).1 val;
              holds_there = same_truth f v ∙ truth;
              less = c1 + d;
              goes = λ m k h l. last inner.names inner.back rest inner.runs m k h l;
              sum = let z = done_cost x b 0 c2 ends in omega arith;
              sees = rest.sees;
              same = subst Q is (same_then f inner.names rest.names start y x sound later later_x inner.same rest.same);
            }
          where
            last : (g : Names) (y' : State) (rest : TurnsBack entry first again exit g start y y' d)
                → Runs setting (inverse first) b' y' c1 → (m k : ℕ) → c + d ≤ m → c + d ≤ k
                → turns setting k (exec setting m) exit (inverse first) (inverse again) entry b'
                ≡ Done rest.back (c1 + d)
            last g y' rest runs m zero h l = let p = some_nodes exit in absurd (omega arith)
            last g y' rest runs m (suc k) h l = let p = some_nodes exit in
                turn_back g start y y' x b' c1 d (c1 + d) k m rest runs refl (omega arith) (omega arith)
        by x v c1 c2 good_x undo later_x val false truth run sum more =
            let goes : (exec setting n again x >>= (λ end. evaluated setting.program entry end >>=
            (λ w. fault_if LOOP (holds w) >>= (λ u. turns setting j (exec setting n) entry first again
            exit end)))) ≡ Done b c2 =
            ap (λ t. turn_end setting (exec setting n) entry again
            (turns setting j (exec setting n) entry first again exit) t x) (sym truth) ∙ run in
            let one = in_parts (exec setting n again x) (λ end. evaluated setting.program entry end >>=
            (λ w. fault_if LOOP (holds w) >>= (λ u. turns setting j (exec setting n) entry first again exit
            end))) b c2 goes in
            let z = one.middle in
            let two = in_parts (evaluated setting.program entry z)
            (λ w. fault_if LOOP (holds w) >>= (λ u. turns setting j (exec setting n) entry first again exit
            z)) b one.after one.second in
            let w = two.middle in
            let three = in_parts (fault_if LOOP (holds w))
            (λ u. turns setting j (exec setting n) entry first again exit z) b two.after two.second in
            let check = passed_check LOOP (holds w) three.middle three.before three.first in
            let enter = given_done (nodes entry) (value_in setting.program z entry) w two.before two.first in
            let blocks = G.turns C at entry first again exit typed in
            let good_z = G.keeps C n again x z one.before blocks.1 good_x one.first in
            let later_z = exec_later setting n again x z one.before (G.sound C x good_x) one.first in
            let d' = nodes entry + (one.before + (nodes exit + (c1 + d))) in
            let result = more z three.after d' (later_then start x z (later_then start y x later later_x) later_z)
            good_z
            (λ g z' s. step z w one.before (λ g' z'' s'. ih C again x z one.before blocks.1 good_x one.first g' z'' s')
            later_z good_z enter.0 check.0 g z' s) three.second f sees in
            let R : ℕ → Type 0 = λ q. LoopUndone entry first again exit f start b b' q in
            subst R (let s1 = one.sum in let s2 = two.sum in let s3 = three.sum in let k2 = enter.1 in
            let k3 = check.1 in omega arith) result
          where
            step : (z : State) (w : Value) (c3 : ℕ) → ((g : Names) (z' : State) → Sees setting.limits.heap g z z'
                → BlockUndone setting again g x z z' c3) → Later x z → G.Good C z
                → value_in setting.program z entry ≡ Ok w → holds w ≡ false → (g : Names) (z' : State)
                → Sees setting.limits.heap g z z' → TurnsBack entry first again exit g start z z'
                (nodes entry + (c3 + (nodes exit + (c1 + d))))
            step z w c3 undo_again later_z good_z enter out g z' s =
                let outer = undo_again g z' s in
                let inner = undo outer.names outer.back outer.sees in
                let rest = back inner.names inner.back inner.sees in
                let w' = renamed g.there w in
                let v' = renamed outer.names.there v in
                let enters = evaluated_seen setting.limits.heap g z z' s setting.program entry w
                (G.clean C (From at entry first again exit) z typed good_z).0 enter in
                let exits = evaluated_seen setting.limits.heap outer.names x outer.back outer.sees setting.program exit
                v (G.clean C (From at entry first again exit) x typed good_x).1 val in
                record {
                  back = rest.back;
                  names = rest.names;
                  goes = turns_path start y inner.names inner.back z' outer.back w' v' c3 c1 d rest outer.runs
                      inner.runs enters (same_truth g w ∙ out) exits (same_truth outer.names v ∙ truth);
                  sees = rest.sees;
                  same = same_then g outer.names rest.names start x z sound (later_then start y x later later_x) later_z
                      outer.same (same_then outer.names inner.names rest.names start y x sound later later_x inner.same
                      rest.same);
                }

    pub undo_from : (a b : State) (c : ℕ) → G.Good C a → statement setting n (exec setting n)
        (From at entry first again exit) a ≡ Done b c → (f : Names) (b' : State) → Sees setting.limits.heap f b b'
        → Undone setting (From at entry first again exit) f a b b' c
    undo_from a b c good e f b' sees =
        let one = in_parts (evaluated setting.program entry a)
        (λ v. fault_if LOOP (not (holds v)) >>= (λ u. turns setting n (exec setting n) entry first again exit
        a)) b c e in
        let v = one.middle in
        let two = in_parts (fault_if LOOP (not (holds v)))
        (λ u. turns setting n (exec setting n) entry first again exit a) b one.after one.second in
        let check = passed_check LOOP (not (holds v)) two.middle two.before two.first in
        let enter = given_done (nodes entry) (value_in setting.program a entry) v one.before one.first in
        let sound = G.sound C a good in
        let loop = loop_undone n a a b two.after (nodes entry) sound (later_itself a sound) good
        (λ g a' s. (let v' = renamed g.there v in let again_in = evaluated_seen setting.limits.heap g a a' s
        setting.program entry v (G.clean C (From at entry first again exit) a typed good).0 enter.0 in record {
          back = a';
          names = g;
          goes = λ m k h l. done_then (evaluated setting.program entry a')
              (λ v. turn_end setting (exec setting m) exit (inverse again)
              (turns setting k (exec setting m) exit (inverse first) (inverse again) entry) (holds v) a') v' a'
              (nodes entry) 0 (nodes entry) again_in
              (ap (λ t. turn_end setting (exec setting m) exit (inverse again)
              (turns setting k (exec setting m) exit (inverse first) (inverse again) entry) t a')
              (same_truth g v ∙ not_true (holds v) check.0)) (omega arith);
          sees = s;
          same = λ name o p h k. refl;
        })) two.second f b' sees in
        record {
          back = loop.back;
          names = loop.names;
          does = record {
            by = λ m h.
                done_then (evaluated setting.program exit b') (λ v. fault_if LOOP (not (holds v)) >>=
                (λ u. turns setting m (exec setting m) exit (inverse first) (inverse again) entry b'))
                loop.exit_value loop.back (nodes exit) loop.less c loop.is_exit
                (done_then (fault_if LOOP (not (holds loop.exit_value)))
                (λ u. turns setting m (exec setting m) exit (inverse first) (inverse again) entry b') tt loop.back
                0 loop.less loop.less (passes LOOP (not (holds loop.exit_value)) (ap not loop.holds_there))
                (loop.goes m m (let s1 = one.sum in let s2 = two.sum in let k1 = enter.1 in let k2 = check.1 in
                omega arith) (let s1 = one.sum in let s2 = two.sum in let k1 = enter.1 in let k2 = check.1 in
                omega arith)) (omega arith))
                (let s = loop.sum in let s1 = one.sum in let s2 = two.sum in let k1 = enter.1 in let k2 = check.1 in
                omega arith);
          };
          sees = loop.sees;
          same = loop.same;
        }
