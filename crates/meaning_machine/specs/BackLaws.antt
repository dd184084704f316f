-- Laws of steps back.
use Rattle.std.specs.Prelude.{◌≡◌, ℕ, Bool, true, false, not, List, ◌∷◌, if◌then◌else◌}
use Rattle.meaning_points.specs.rpp_tree.Tree.{Expression, Statements, If, From, End, Then}
use Rattle.meaning_points.specs.roopl_semantics.Run.{Done}
use Rattle.meaning_points.specs.roopl_semantics.Store.{Value, State}
use Rattle.meaning_points.specs.roopl_semantics.Value.{evaluated}
use Rattle.meaning_points.specs.roopl_semantics.Execution.{Setting, holds}
use Rattle.meaning_machine.specs.Machine.{Open, Chosen, First, Again, inside, turned_to, left}
use Rattle.meaning_machine.specs.MachineLaws.{config_before}
use Rattle.meaning_machine.specs.Turned.{unwound, StepsBack}

-- choices are undone with no note of them: the condition at the other end finds the side
pub record ChoicesStepBack : Type 0 where
  pub entered : (setting : Setting) (past rest : Statements) (params : ℕ) (around : List Open)
      (st : State)
      (at : ℕ) (test : Expression) (taken other : Statements) (after : Expression) (v : Value)
      (c : ℕ)
      → evaluated setting.program test st ≡ Done v c
      → StepsBack setting (config_before past (Then (If at test taken other after) rest) params around st)
      (inside (config_before past (Then (If at test taken other after) rest) params around st)
      (If at test taken other after) rest (Chosen (holds v) test after)
      (if holds v then taken else other) st)
  pub left : (setting : Setting) (p past rest : Statements) (params : ℕ) (around : List Open)
      (st : State)
      (at : ℕ) (test : Expression) (taken other : Statements) (after : Expression) (side : Bool)
      (w : Value) (c : ℕ)
      → unwound p End ≡ (if side then taken else other)
      → evaluated setting.program after st ≡ Done w c
      → (if side then not (holds w) else holds w) ≡ false
      → StepsBack setting
      (config_before p End params (record {
        past = past;
        here = If at test taken other after;
        rest = rest;
        part = Chosen side test after;
      } ∷ around) st)
      (left (record {
        past = past;
        here = If at test taken other after;
        rest = rest;
        part = Chosen side test after;
      }) around params st)

module _ (past rest : Statements) (at : ℕ) (entry : Expression) (first again : Statements)
    (exit : Expression) where
  -- a loop that is open in its first part, or in its second
  abbrev pub in_first : Open
  in_first = record {
    past = past;
    here = From at entry first again exit;
    rest = rest;
    part = First entry first again exit;
  }

  abbrev pub in_second : Open
  in_second = record {
    past = past;
    here = From at entry first again exit;
    rest = rest;
    part = Again entry first again exit;
  }

-- and so are the iterations of loops
pub record LoopsStepBack (setting : Setting) (past rest : Statements) (params : ℕ)
    (around : List Open)
    (st : State) (at : ℕ) (entry : Expression) (first again : Statements)
    (exit : Expression) : Type 0 where
  pub entered : (v : Value) (c : ℕ) → evaluated setting.program entry st ≡ Done v c → holds v ≡ true
      → StepsBack setting (config_before past (Then (From at entry first again exit) rest) params around
      st)
      (inside (config_before past (Then (From at entry first again exit) rest) params around st)
      (From at entry first again exit) rest (First entry first again exit) first st)
  pub over : (p : Statements) (v : Value) (c : ℕ) → unwound p End ≡ first
      → evaluated setting.program exit st ≡ Done v c → holds v ≡ true
      → StepsBack setting (config_before p End params (in_first past rest at entry first again exit
      ∷ around) st)
      (left (in_first past rest at entry first again exit) around params st)
  pub second : (p : Statements) (v : Value) (c : ℕ) → unwound p End ≡ first
      → evaluated setting.program exit st ≡ Done v c → holds v ≡ false
      → StepsBack setting (config_before p End params (in_first past rest at entry first again exit
      ∷ around) st)
      (turned_to (config_before p End params (in_first past rest at entry first again exit ∷ around) st)
      (in_first past rest at entry first again exit) around (Again entry first again exit) again)
  pub next_turn : (p : Statements) (v : Value) (c : ℕ) → unwound p End ≡ again
      → evaluated setting.program entry st ≡ Done v c → holds v ≡ false
      → StepsBack setting (config_before p End params (in_second past rest at entry first again exit
      ∷ around) st)
      (turned_to (config_before p End params (in_second past rest at entry first again exit ∷ around) st)
      (in_second past rest at entry first again exit) around (First entry first again exit) first)

abbrev pub TurnsStepBack : Type 0
TurnsStepBack =
    (setting : Setting) (past rest : Statements) (params : ℕ) (around : List Open) (st : State)
    (at : ℕ)
    (entry : Expression) (first again : Statements) (exit : Expression)
    → LoopsStepBack setting past rest params around st at entry first again exit
