-- Choices and loops, each of their steps undone.
use Rattle.std.proofs.Common.{◌≡◌, ℕ, zero, suc, ◌+◌, ◌≤◌, ◌∙◌, arith, refl, ap, Bool, true, false, not, List, ◌∷◌}
use Rattle.std.proofs.Common.{if◌then◌else◌}
use Rattle.meaning_machine.specs.rpp_tree.Tree.{Expression, Statement, Statements, If, From, End, Then, nodes}
use Rattle.meaning_machine.specs.roopl_semantics.Run.{Done, ◌>>=◌, give, fault_if}
use Rattle.meaning_machine.specs.roopl_semantics.Store.{Value, State}
use Rattle.meaning_machine.specs.roopl_semantics.Value.{evaluated}
use Rattle.meaning_machine.specs.roopl_semantics.Execution.{Setting, exec, holds, FI, LOOP, turn_end, turns}
use Rattle.meaning_machine.specs.Machine.{Open, Chosen, First, Again, inside, turned_first, left, begun}
use Rattle.meaning_machine.specs.MachineLaws.{gone_past, config_before}
use Rattle.meaning_machine.proofs.Back.{if_entered, if_left, loop_entered, loop_left, loop_again, loop_turned}
use Rattle.meaning_inverse.proofs.Runs.{Runs, Does, done_then, passes}
use Rattle.meaning_inverse.proofs.Later.{Ends, ends_on, ends_done}
use Rattle.meaning_inverse.proofs.Ground.{Ground}
use Rattle.meaning_reversed.proofs.Undoing.{ends_valued, unwound_gone, leads, AllBack, Leads, step_by_step, OnPast}
use Rattle.meaning_reversed.proofs.Undoing.{BlocksBack, good_behind}
use Rattle.std.proofs.lemmas.Bool.{not-false}
use Rattle.meaning_machine.proofs.roopl_semantics_laws.CostBound.{some_nodes}
use Rattle.meaning_inverse.proofs.ElementsKept.{checked_ends}

module _ (setting : Setting) where
  -- what a choice does, put together
  if_does : (at : ℕ) (test : Expression) (taken other : Statements) (last : Expression) (st end : State) (v w : Value)
      (cost : ℕ) → evaluated setting.program test st ≡ Done v (nodes test)
      → Runs setting (if holds v then taken else other) st end cost
      → evaluated setting.program last end ≡ Done w (nodes last)
      → (if holds v then not (holds w) else holds w) ≡ false
      → Does setting (If at test taken other last) st end (nodes test + (cost + nodes last))
  if_does at test taken other last st end v w cost e runs f agree = record {
    by = λ m le.
        done_then (evaluated setting.program test st) _ v end (nodes test) (cost + nodes last)
        (nodes test + (cost + nodes last)) e
        (done_then (exec setting m (if holds v then taken else other) st) _ end end cost (nodes last)
        (cost + nodes last) (runs.by m (omega arith))
        (done_then (evaluated setting.program last end) _ w end (nodes last) 0 (nodes last) f
        (done_then (fault_if FI (if holds v then not (holds w) else holds w)) _ tt end 0 0 0
        (passes FI (if holds v then not (holds w) else holds w) agree) refl refl) (omega arith)) refl) refl;
  }

  -- iterations of a loop with any fuel from their cost on
  record Turns (entry : Expression) (one two : Statements) (exit : Expression) (st end : State) (cost : ℕ) : Type 0
    where
      by : (m i : ℕ) → cost ≤ m → cost ≤ i → turns setting i (exec setting m) entry one two exit st ≡ Done end cost

  module _ (entry : Expression) (one two : Statements) (exit : Expression) where
    -- the last iteration
    turn_last : (st end : State) (v : Value) (cost : ℕ) → Runs setting one st end cost
        → evaluated setting.program exit end ≡ Done v (nodes exit) → holds v ≡ true
        → Turns entry one two exit st end (cost + nodes exit)
    turn_last st end v cost runs e out = record { by = λ m i le li. by m i le li }
      where
        by : (m i : ℕ) → cost + nodes exit ≤ m → cost + nodes exit ≤ i
            → turns setting i (exec setting m) entry one two exit st ≡ Done end (cost + nodes exit)
        by m zero le li = let p = some_nodes exit in absurd (omega arith)
        by m (suc i) le li =
            done_then (exec setting m one st) _ end end cost (nodes exit) (cost + nodes exit) (runs.by m (omega arith))
            (done_then (evaluated setting.program exit end) _ v end (nodes exit) 0 (nodes exit) e
            (ap (λ t. turn_end setting (exec setting m) entry two
            (turns setting i (exec setting m) entry one two exit) t end) out) (omega arith)) refl

    -- one iteration more
    turn_more : (st mid next end : State) (v w : Value) (c d cost : ℕ) → Runs setting one st mid c
        → evaluated setting.program exit mid ≡ Done v (nodes exit) → holds v ≡ false → Runs setting two mid next d
        → evaluated setting.program entry next ≡ Done w (nodes entry) → holds w ≡ false
        → Turns entry one two exit next end cost
        → Turns entry one two exit st end (c + (nodes exit + (d + (nodes entry + cost))))
    turn_more st mid next end v w c d cost runs e stay again f on more = record { by = λ m i le li. by m i le li }
      where
        by : (m i : ℕ) → c + (nodes exit + (d + (nodes entry + cost))) ≤ m
            → c + (nodes exit + (d + (nodes entry + cost))) ≤ i
            → turns setting i (exec setting m) entry one two exit st
            ≡ Done end (c + (nodes exit + (d + (nodes entry + cost))))
        by m zero le li = let p = some_nodes exit in absurd (omega arith)
        by m (suc i) le li =
            done_then (exec setting m one st) _ mid end c (nodes exit + (d + (nodes entry + cost)))
            (c + (nodes exit + (d + (nodes entry + cost)))) (runs.by m (omega arith))
            (done_then (evaluated setting.program exit mid) _ v end (nodes exit) (d + (nodes entry + cost))
            (nodes exit + (d + (nodes entry + cost))) e
            (ap (λ t. turn_end setting (exec setting m) entry two
            (turns setting i (exec setting m) entry one two exit) t mid) stay
            ∙ done_then (exec setting m two mid) _ next end d (nodes entry + cost) (d + (nodes entry + cost))
            (again.by m (omega arith))
            (done_then (evaluated setting.program entry next) _ w end (nodes entry) cost (nodes entry + cost) f
            (done_then (fault_if LOOP (holds w)) _ tt end 0 cost cost (passes LOOP (holds w) on)
            (more.by m i (omega arith) (let p = some_nodes exit in omega arith)) (omega arith)) refl) refl) refl) refl

  -- what a loop does, put together
  from_does : (at : ℕ) (entry : Expression) (one two : Statements) (exit : Expression) (st end : State) (v : Value)
      (cost : ℕ) → evaluated setting.program entry st ≡ Done v (nodes entry) → not (holds v) ≡ false
      → Turns entry one two exit st end cost → Does setting (From at entry one two exit) st end (nodes entry + cost)
  from_does at entry one two exit st end v cost e enters more = record {
    by = λ m le.
        done_then (evaluated setting.program entry st) _ v end (nodes entry) cost (nodes entry + cost) e
        (done_then (fault_if LOOP (not (holds v))) _ tt end 0 cost cost
        (passes LOOP (not (holds v)) enters) (more.by m m (omega arith) (omega arith)) (omega arith)) refl;
  }

  module _ (G : Ground setting) (n : ℕ) (ih : BlocksBack setting G n) (C : G.Context) (past rest : Statements)
      (params : ℕ) (around : List Open) where
    chosen_typed : (t : Bool) (taken other : Statements) → G.Typed C taken × G.Typed C other
        → G.Typed C (if t then taken else other)
    chosen_typed true taken other k = k.0
    chosen_typed false taken other k = k.1

    -- a choice, and all that comes after it
    pub if_back : (k : ℕ) → k ≤ n → (st : State) (at : ℕ) (test : Expression) (taken other : Statements)
        (last : Expression)
        → let s = If at test taken other last in let x = config_before past (Then s rest) params around st in
        G.Typed C (Then s End) → G.Good C st
        → OnPast setting k s st (config_before (Then s past) rest params around)
        → Ends (begun setting x s rest) (Leads setting k x)
    if_back k le st at test taken other last typed good on =
        let s = If at test taken other last in
        let x = config_before past (Then s rest) params around st in
        ends_on (evaluated setting.program test st) (λ v. give (inside x s rest (Chosen (holds v) test last)
        (if holds v then taken else other) st)) _ (Leads setting k x) (ends_valued setting test st) (λ v e.
        let b = if holds v then taken else other in
        let o : Open = record { past = past; here = s; rest = rest; part = Chosen (holds v) test last } in
        ends_done (inside x s rest (Chosen (holds v) test last) b st) 0 (Leads setting k x) (
          leads setting x (inside x s rest (Chosen (holds v) test last) b st) refl
              (if_entered setting past rest params around st at test taken other last v (nodes test) e),
          ih k le C End b params (o ∷ around) st (chosen_typed (holds v) taken other
              (G.branches C at test taken other last typed)) good (λ j lj end cost runs.
              let z = config_before (gone_past b End) End params (o ∷ around) end in
              let y = left o around params end in
              step_by_step setting j z (λ i li.
              ends_on (evaluated setting.program last end) (λ w. fault_if FI
              (if holds v then not (holds w) else holds w) >>= (λ u. give y)) _ (Leads setting i z)
              (ends_valued setting last end) (λ w f.
              ends_on (fault_if FI (if holds v then not (holds w) else holds w)) (λ u. give y) _
              (Leads setting i z) (checked_ends FI (if holds v then not (holds w) else holds w)) (λ u agree.
              ends_done y 0 (Leads setting i z) (
                leads setting z y refl (if_left setting (gone_past b End) past rest params around end at test taken
                    other
                    last (holds v) w (nodes last) (unwound_gone b End) f agree),
                on i (omega arith) end (nodes test + (cost + nodes last))
                    (if_does at test taken other last st end v w cost e runs f agree),
              ))))),
        ))

    module _ (at : ℕ) (entry : Expression) (one two : Statements) (exit : Expression)
        (typed : G.Typed C (Then (From at entry one two exit) End)) where
      abbrev loop : Statement
      loop = From at entry one two exit

      abbrev in_one : Open
      in_one = record { past = past; here = loop; rest = rest; part = First entry one two exit }

      abbrev in_two : Open
      in_two = record { past = past; here = loop; rest = rest; part = Again entry one two exit }

      -- the iterations of a loop, and all that comes after it
      loop_back : (bound : ℕ) (k : ℕ) → k ≤ bound → k ≤ n → (st : State) → G.Good C st
          → ((i : ℕ) → i ≤ k → (end : State) (cost : ℕ) → Turns entry one two exit st end cost
          → AllBack setting i (config_before (Then loop past) rest params around end))
          → AllBack setting k (config_before End one params (in_one ∷ around) st)
      loop_back zero zero lb le st good on = tt
      loop_back zero (suc k) lb le st good on = absurd (omega arith)
      loop_back (suc bound) k lb le st good on =
          ih k le C End one params (in_one ∷ around) st (G.turns C at entry one two exit typed).0 good
          (λ j lj mid c runs.
          let z = config_before (gone_past one End) End params (in_one ∷ around) mid in
          step_by_step setting j z (λ i li.
          ends_on (evaluated setting.program exit mid) (λ v. give (turned_first setting z in_one around
          (Again entry one two exit) two (holds v))) _ (Leads setting i z) (ends_valued setting exit mid)
          (λ v e. ends_done (turned_first setting z in_one around (Again entry one two exit) two (holds v)) 0
          (Leads setting i z)
          (turned j i mid c v lj li runs (good_behind setting G C one st mid c
          (G.turns C at entry one two exit typed).0 good runs) e (loop_back bound) (holds v) refl))))
        where
          turned : (j i : ℕ) (mid : State) (c : ℕ) (v : Value) → j ≤ k → suc i ≤ j → Runs setting one st mid c
              → G.Good C mid → evaluated setting.program exit mid ≡ Done v (nodes exit)
              → ((k : ℕ) → k ≤ bound → k ≤ n → (st : State) → G.Good C st
              → ((i : ℕ) → i ≤ k → (end : State) (cost : ℕ) → Turns entry one two exit st end cost
              → AllBack setting i (config_before (Then loop past) rest params around end))
              → AllBack setting k (config_before End one params (in_one ∷ around) st))
              → (t : Bool) → holds v ≡ t
              → let z = config_before (gone_past one End) End params (in_one ∷ around) mid in
              Leads setting i z (turned_first setting z in_one around (Again entry one two exit) two t)
          turned j i mid c v lj li runs good_mid e more true out =
              let z = config_before (gone_past one End) End params (in_one ∷ around) mid in (
                leads setting z (left in_one around params mid) refl
                    (loop_left setting past rest params around mid at entry one two exit (gone_past one End) v
                    (nodes exit)
                    (unwound_gone one End) e out),
                on i (omega arith) mid (c + nodes exit) (turn_last entry one two exit st mid v c runs e out),
              )
          turned j i mid c v lj li runs good_mid e more false stay =
              let z = config_before (gone_past one End) End params (in_one ∷ around) mid in (
                leads setting z (config_before End two params (in_two ∷ around) mid) refl
                    (loop_again setting past rest params around mid at entry one two exit (gone_past one End) v
                    (nodes exit)
                    (unwound_gone one End) e stay),
                ih i (omega arith) C End two params (in_two ∷ around) mid (G.turns C at entry one two exit typed).1
                    good_mid (λ p lp next d again.
                    let q = config_before (gone_past two End) End params (in_two ∷ around) next in
                    let y = config_before End one params (in_one ∷ around) next in
                    step_by_step setting p q (λ r lr.
                    ends_on (evaluated setting.program entry next) (λ w. fault_if LOOP (holds w) >>=
                    (λ u. give y)) _ (Leads setting r q) (ends_valued setting entry next) (λ w f.
                    ends_on (fault_if LOOP (holds w)) (λ u. give y) _ (Leads setting r q)
                    (checked_ends LOOP (holds w)) (λ u enters.
                    ends_done y 0 (Leads setting r q) (
                      leads setting q y refl (loop_turned setting past rest params around next at entry one two exit
                          (gone_past two End) w (nodes entry) (unwound_gone two End) f enters),
                      more r (omega arith) (omega arith) next
                          (good_behind setting G C two mid next d (G.turns C at entry one two exit typed).1 good_mid
                          again) (λ a la end cost turns.
                          on a (omega arith) end (c + (nodes exit + (d + (nodes entry + cost))))
                          (turn_more entry one two exit st mid next end v w c d cost runs e stay again f enters
                          turns)),
                    ))))),
              )

      -- a loop, and all that comes after it
      pub from_back : (k : ℕ) → k ≤ n → (st : State) → G.Good C st
          → OnPast setting k loop st (config_before (Then loop past) rest params around)
          → let x = config_before past (Then loop rest) params around st in
          Ends (begun setting x loop rest) (Leads setting k x)
      from_back k le st good on =
          let x = config_before past (Then loop rest) params around st in
          let y = config_before End one params (in_one ∷ around) st in
          ends_on (evaluated setting.program entry st) (λ v. fault_if LOOP (not (holds v)) >>= (λ u. give y)) _
          (Leads setting k x) (ends_valued setting entry st) (λ v e.
          ends_on (fault_if LOOP (not (holds v))) (λ u. give y) _ (Leads setting k x)
          (checked_ends LOOP (not (holds v))) (λ u enters.
          ends_done y 0 (Leads setting k x) (
            leads setting x y refl (loop_entered setting past rest params around st at entry one two exit v
                (nodes entry) e (not-false (holds v) enters)),
            loop_back k k (let z : k ≤ k = omega arith in z) le st good (λ i li end cost turns.
                on i li end (nodes entry + cost) (from_does at entry one two exit st end v cost e enters turns)),
          )))
