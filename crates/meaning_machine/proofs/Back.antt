-- A step of the reversed machine undoes a step.
use Rattle.std.proofs.Common.{◌≡◌, ℕ, ◌+◌, refl, sym, ap, ◌∙◌, Bool, true, false, not, List, ◌∷◌, ◌++◌, map}
use Rattle.std.proofs.Common.{if◌then◌else◌}
use Rattle.meaning_points.specs.rpp_tree.Tree.{Expression, Statement, Statements, If, From, End, Then, joined}
use Rattle.meaning_points.specs.rpp_tree.Tree.{Procedure}
use Rattle.meaning_points.specs.inverse_rules.Inverse.{inverse_statement, inverse}
use Rattle.meaning_points.specs.roopl_semantics.Run.{Done, More, after_cost, ◌>>=◌, give, fault_if}
use Rattle.meaning_points.specs.roopl_semantics.Store.{Value, State}
use Rattle.meaning_points.specs.roopl_semantics.Value.{Cell, read, evaluated}
use Rattle.meaning_points.specs.roopl_semantics.Execution.{Setting, holds, bound, moved_out, moved_back, FI}
use Rattle.meaning_points.specs.roopl_semantics.Execution.{LOOP, statement}
use Rattle.meaning_machine.specs.Machine.{Config, Open, Chosen, First, Again, past_it, inside, turned_to}
use Rattle.meaning_machine.specs.Machine.{turned_first, left, simply, entered, begun}
use Rattle.meaning_machine.specs.MachineLaws.{config_before}
use Rattle.meaning_machine.specs.Turned.{each_undone, turned_open, turn, unwound, StepsBack}
use Rattle.meaning_points.proofs.inverse_rules_laws.Inverses.{joined-end, joined_assoc}

pub undone_from : (past rest : Statements) → inverse (unwound past rest) ≡ joined (inverse rest) (each_undone past)
undone_from End rest = sym (joined-end (inverse rest))
undone_from (Then s past) rest = undone_from past (Then s rest)
    ∙ joined_assoc (inverse rest) (Then (inverse_statement s) End) (each_undone past)

-- the statements past, undone, are the block undone
pub undone_block : (past block : Statements) → unwound past End ≡ block → inverse block ≡ each_undone past
undone_block past block e = ap inverse (sym e) ∙ undone_from past End

same_side : (b : Bool) → (if b then not b else b) ≡ false
same_side true = refl
same_side false = refl

kept_side : (b c : Bool) → (if b then not c else c) ≡ false → c ≡ b
kept_side true true e = refl
kept_side true false e = sym e
kept_side false c e = e

module _ (setting : Setting) where
  -- a choice is entered: its last condition finds the side
  pub if_entered : (past rest : Statements) (params : ℕ) (around : List Open) (st : State) (at : ℕ) (test : Expression)
      (taken other : Statements) (after : Expression) (v : Value) (c : ℕ)
      → evaluated setting.program test st ≡ Done v c
      → let s : Statement = If at test taken other after in
      let x : Config = config_before past (Then s rest) params around st in
      StepsBack setting x (inside x s rest (Chosen (holds v) test after) (if holds v then taken else other) st)
  if_entered past rest params around st at test taken other after v c e =
      let s : Statement = If at test taken other after in
      let x : Config = config_before past (Then s rest) params around st in
      record {
        cost = c + (0 + 0);
        steps =
            ap (λ q. q >>= (λ w. fault_if FI (if holds v then not (holds w) else holds w) >>=
            (λ u. give (turn x)))) e
            ∙ ap (λ b. after_cost c (fault_if FI b >>= (λ u. give (turn x)))) (same_side (holds v));
      }

  -- a choice is left: the assertion after it finds the side
  pub if_left : (p past rest : Statements) (params : ℕ) (around : List Open) (st : State) (at : ℕ) (test : Expression)
      (taken other : Statements) (after : Expression) (side : Bool) (w : Value) (c : ℕ)
      → unwound p End ≡ (if side then taken else other)
      → evaluated setting.program after st ≡ Done w c → (if side then not (holds w) else holds w) ≡ false
      → let o : Open = record {
        past = past;
        here = If at test taken other after;
        rest = rest;
        part = Chosen side test after;
      } in
      StepsBack setting (config_before p End params (o ∷ around) st) (left o around params st)
  if_left p past rest params around st at test taken other after side w c placed e stays =
      let o : Open = record {
        past = past;
        here = If at test taken other after;
        rest = rest;
        part = Chosen side test after;
      } in
      let y : Config = left o around params st in
      let into : Bool → Statements → Config = λ b block. inside (turn y)
      (If at after (inverse taken) (inverse other) test) (each_undone past) (Chosen b after test) block st in
      record {
        cost = 1 + (c + 0);
        steps =
            ap (λ q. after_cost 1 (q >>= (λ v. give (into (holds v)
            (if holds v then inverse taken else inverse other))))) e
            ∙ ap (λ b. Done (into b (if b then inverse taken else inverse other)) (1 + (c + 0)))
            (kept_side side (holds w) stays)
            ∙ ap (λ block. Done (into side block) (1 + (c + 0))) (chosen side placed);
      }
    where
      chosen : (b : Bool) → unwound p End ≡ (if b then taken else other)
          → (if b then inverse taken else inverse other) ≡ each_undone p
      chosen true h = undone_block p taken h
      chosen false h = undone_block p other h

  module _ (past rest : Statements) (params : ℕ) (around : List Open) (st : State) (at : ℕ) (entry : Expression)
      (first again : Statements) (exit : Expression) where
    abbrev again_and_again : Statement
    again_and_again = From at entry first again exit

    abbrev loop_back : Statement
    loop_back = From at exit (inverse first) (inverse again) entry

    abbrev one : Open
    one = record { past = past; here = again_and_again; rest = rest; part = First entry first again exit }

    abbrev two : Open
    two = record { past = past; here = again_and_again; rest = rest; part = Again entry first again exit }

    -- a loop is entered
    pub loop_entered : (v : Value) (c : ℕ) → evaluated setting.program entry st ≡ Done v c → holds v ≡ true
        → let x : Config = config_before past (Then again_and_again rest) params around st in
        StepsBack setting x (inside x again_and_again rest (First entry first again exit) first st)
    loop_entered v c e h =
        let x : Config = config_before past (Then again_and_again rest) params around st in
        let y : Config = inside x again_and_again rest (First entry first again exit) first st in
        let f : Bool → Config = turned_first setting (turn y) (turned_open one) (map turned_open around)
        (Again exit (inverse first) (inverse again) entry) (inverse again) in
        record { cost = c + 0; steps = ap (λ q. q >>= (λ v. give (f (holds v)))) e ∙ ap (λ b. Done (f b) (c + 0)) h }

    -- a loop is left
    pub loop_left : (p : Statements) (v : Value) (c : ℕ) → unwound p End ≡ first
        → evaluated setting.program exit st ≡ Done v c → holds v ≡ true
        → StepsBack setting (config_before p End params (one ∷ around) st) (left one around params st)
    loop_left p v c placed e h =
        let y : Config = left one around params st in
        let into : Statements → Config = λ block. inside (turn y) loop_back (each_undone past)
        (First exit (inverse first) (inverse again) entry) block st in
        record {
          cost = 1 + (c + (0 + 0));
          steps =
              ap (λ q. after_cost 1 (q >>= (λ v. fault_if LOOP (not (holds v)) >>=
              (λ u. give (into (inverse first)))))) e
              ∙ ap (λ b. after_cost 1 (after_cost c (fault_if LOOP (not b) >>=
              (λ u. give (into (inverse first)))))) h
              ∙ ap (λ block. Done (into block) (1 + (c + (0 + 0)))) (undone_block p first placed);
        }

    -- from the first part of an iteration to the second
    pub loop_again : (p : Statements) (v : Value) (c : ℕ) → unwound p End ≡ first
        → evaluated setting.program exit st ≡ Done v c → holds v ≡ false
        → let x : Config = config_before p End params (one ∷ around) st in
        StepsBack setting x (turned_to x one around (Again entry first again exit) again)
    loop_again p v c placed e h =
        let into : Statements → Config = λ block. record {
          past = End;
          rest = block;
          params = params;
          state = st;
          around = turned_open one ∷ map turned_open around;
        } in
        record {
          cost = c + (0 + 0);
          steps =
              ap (λ q. q >>= (λ v. fault_if LOOP (holds v) >>= (λ u. give (into (inverse first))))) e
              ∙ ap (λ b. after_cost c (fault_if LOOP b >>= (λ u. give (into (inverse first))))) h
              ∙ ap (λ block. Done (into block) (c + (0 + 0))) (undone_block p first placed);
        }

    -- from the second part of an iteration to the next iteration
    pub loop_turned : (p : Statements) (v : Value) (c : ℕ) → unwound p End ≡ again
        → evaluated setting.program entry st ≡ Done v c → holds v ≡ false
        → let x : Config = config_before p End params (two ∷ around) st in
        StepsBack setting x (turned_to x two around (First entry first again exit) first)
    loop_turned p v c placed e h =
        let x : Config = config_before p End params (two ∷ around) st in
        let y : Config = turned_to x two around (First entry first again exit) first in
        let into : Statements → Config = λ block. record {
          past = End;
          rest = block;
          params = params;
          state = st;
          around = turned_open two ∷ map turned_open around;
        } in
        let f : Bool → Config = turned_first setting (turn y) (turned_open one) (map turned_open around)
        (Again exit (inverse first) (inverse again) entry) (inverse again) in
        record {
          cost = c + 0;
          steps =
              ap (λ q. q >>= (λ v. give (f (holds v)))) e
              ∙ ap (λ b. Done (f b) (c + 0)) h
              ∙ ap (λ block. Done (into block) (c + 0)) (undone_block p again placed);
        }

  -- a statement that holds no block, if its inverse undoes it
  pub simple_done : (s : Statement) (past rest : Statements) (params : ℕ) (around : List Open) (st end : State) (c : ℕ)
      → ((x : Config) (rest : Statements) → begun setting x (inverse_statement s) rest
      ≡ simply setting x (inverse_statement s) rest)
      → statement setting 0 (λ body st. More) (inverse_statement s) end ≡ Done st c
      → StepsBack setting (config_before past (Then s rest) params around st)
      (config_before (Then s past) rest params around end)
  simple_done s past rest params around st end c simple e =
      let x : Config = config_before past (Then s rest) params around st in
      let y : Config = config_before (Then s past) rest params around end in
      record {
        cost = 1 + (c + 0);
        steps =
            ap (after_cost 1) (simple (turn y) (each_undone past))
            ∙ ap (λ q. after_cost 1 (q >>= (λ st. give (past_it (turn y) (inverse_statement s) (each_undone past) st))))
            e;
      }

  -- a call begins, if the values that moved in can move back
  pub call_entered : (s : Statement) (past rest : Statements) (params : ℕ) (around : List Open) (st : State)
      (back : Bool) (method : Procedure) (self : ℕ) (receiver args : List Cell) (c : ℕ)
      → (let caller : State = moved_out (receiver ++ args) st in
      moved_back (receiver ++ args) (map (read st) receiver
      ++ map (λ binding. binding.value) (bound method.params (map (read st) args))) caller ≡ Done st c)
      → let x : Config = config_before past (Then s rest) params around st in
      StepsBack setting x (entered setting x s rest back method self receiver args)
  call_entered s past rest params around st back method self receiver args c e =
      let x : Config = config_before past (Then s rest) params around st in
      record {
        cost = c + 0;
        steps = ap (λ q. q >>= (λ st. give
            (config_before (Then (inverse_statement s) (each_undone rest)) (each_undone past) params
            (map turned_open around) st))) e;
      }
