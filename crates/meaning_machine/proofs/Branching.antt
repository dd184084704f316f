-- Steps of choices and loops are undone.
use Rattle.std.proofs.Common.{◌≡◌, ℕ, refl, Bool, true, false, not, List, [], ◌∷◌, if◌then◌else◌}
use Rattle.meaning_points.specs.rpp_tree.Tree.{Statement, Statements, If, From, End, Then, Expression}
use Rattle.meaning_points.specs.roopl_semantics.Run.{Run, Done, Fault, More, ◌>>=◌, fault_if}
use Rattle.meaning_points.specs.roopl_semantics.Store.{Value, State}
use Rattle.meaning_points.specs.roopl_semantics.Value.{evaluated}
use Rattle.meaning_points.specs.roopl_semantics.Execution.{Setting, FI, LOOP, holds}
use Rattle.meaning_machine.specs.Machine.{OpenPart, Chosen, First, Again, Open, Config, turned_first, begun, ended}
use Rattle.meaning_machine.specs.Machine.{next}
use Rattle.meaning_machine.specs.MachineLaws.{config_before}
use Rattle.meaning_machine.specs.Turned.{unwound, StepsBack}
use Rattle.meaning_machine.specs.Placed.{RunsIn, side, first, again, object, local, element, body, IsBodyPlaced}
use Rattle.meaning_machine.specs.Placed.{IsBranch}
use Rattle.meaning_machine.specs.Placed.{IsBranchPart, Branches, BranchesStepBack}
use Rattle.meaning_machine.proofs.Back.{if_entered, if_left, loop_entered, loop_left, loop_again, loop_turned}
use Rattle.meaning_machine.proofs.Placing.{Ends, ends_after, ends_done}
use Rattle.std.proofs.lemmas.Bool.{not-false}

-- what holds after a run that is done
ends_with : {A B : Type 0} (P : B → Type 0) (r : Run A) (f : A → Run B)
    → ((a : A) (c : ℕ) → r ≡ Done a c → Ends P (f a)) → Ends P (r >>= f)
ends_with P (Done a cost) f h = ends_after P cost (f a) (h a cost refl)
ends_with P (Fault code cost) f h = tt
ends_with P More f h = tt

-- and after a condition that finds no fault
ends_past : {B : Type 0} (P : B → Type 0) (code : ℕ) (b : Bool) (f : Unit {0} → Run B) → (b ≡ false → Ends P (f tt))
    → Ends P (fault_if code b >>= f)
ends_past P code true f h = tt
ends_past P code false f h = ends_after P 0 (f tt) (h refl)

module _ (setting : Setting) (past : Statements) (params : ℕ) (around : List Open) (st : State) where
  -- a choice or a loop begins
  branch_begins : (s : Statement) (rest : Statements) → IsBranch s
      → Ends (StepsBack setting (config_before past (Then s rest) params around st))
      (begun setting (config_before past (Then s rest) params around st) s rest)
  branch_begins (If at test taken other after) rest h =
      ends_with (StepsBack setting (config_before past (Then (If at test taken other after) rest) params around st))
      (evaluated setting.program test st) _
      (λ v c e. if_entered setting past rest params around st at test taken other after v c e)
  branch_begins (From at entry one two exit) rest h =
      ends_with (StepsBack setting (config_before past (Then (From at entry one two exit) rest) params around st))
      (evaluated setting.program entry st) _
      (λ v c e. ends_past (StepsBack setting (config_before past (Then (From at entry one two exit) rest) params around
      st))
      LOOP (not (holds v)) _
      (λ no. loop_entered setting past rest params around st at entry one two exit v c e (not-false (holds v) no)))
  branch_begins _ rest h = absurd h

  -- the block of a choice or a loop is past
  module _ (opened rest : Statements) where
    abbrev open_at : Statement → OpenPart → Open
    open_at s part = record { past = opened; here = s; rest = rest; part = part }

    abbrev end_in : Statement → OpenPart → Config
    end_in s part = config_before past End params (open_at s part ∷ around) st

    abbrev Back : Statement → OpenPart → Config → Type 0
    Back s part = StepsBack setting (end_in s part)

    -- out of the loop, or to its second part
    loop_by : (at : ℕ) (entry : Expression) (one two : Statements) (exit : Expression) → unwound past End ≡ one
        → (v : Value) (c : ℕ) → evaluated setting.program exit st ≡ Done v c → (b : Bool) → holds v ≡ b
        → Back (From at entry one two exit) (First entry one two exit)
        (turned_first setting (end_in (From at entry one two exit) (First entry one two exit))
        (open_at (From at entry one two exit) (First entry one two exit)) around (Again entry one two exit) two b)
    loop_by at entry one two exit placed v c e true is =
        loop_left setting opened rest params around st at entry one two exit past v c placed e is
    loop_by at entry one two exit placed v c e false is =
        loop_again setting opened rest params around st at entry one two exit past v c placed e is

    branch_ends : (s : Statement) (part : OpenPart) (block : Statements) → RunsIn s part block
        → unwound past End ≡ block
        → IsBranchPart part → Ends (Back s part) (ended setting (end_in s part) (open_at s part) around part)
    branch_ends _ _ _ (side at test taken other after b) placed h =
        ends_with (Back (If at test taken other after) (Chosen b test after)) (evaluated setting.program after st) _
        (λ w c e. ends_past (Back (If at test taken other after) (Chosen b test after)) FI
        (if b then not (holds w) else holds w) _
        (λ no. if_left setting past opened rest params around st at test taken other after b w c placed e no))
    branch_ends _ _ _ (first at entry one two exit) placed h =
        ends_with (Back (From at entry one two exit) (First entry one two exit)) (evaluated setting.program exit st) _
        (λ v c e. loop_by at entry one two exit placed v c e (holds v) refl)
    branch_ends _ _ _ (again at entry one two exit) placed h =
        ends_with (Back (From at entry one two exit) (Again entry one two exit)) (evaluated setting.program entry st) _
        (λ v c e. ends_past (Back (From at entry one two exit) (Again entry one two exit)) LOOP (holds v) _
        (λ no. loop_turned setting opened rest params around st at entry one two exit past v c placed e no))
    branch_ends _ _ _ (object at class name block end) placed h = absurd h
    branch_ends _ _ _ (local at var value block end_var end_value name) placed h = absurd h
    branch_ends _ _ _ (element at back name index method args) placed h = absurd h
    branch_ends _ _ _ (body at back receiver method args caller cells others held block) placed h = absurd h

-- the step, by what is left of the block and what is open
goes_back : (setting : Setting) (past rest : Statements) (params : ℕ) (around : List Open) (st : State)
    → IsBodyPlaced (unwound past rest) around → Branches rest around
    → Ends (StepsBack setting (config_before past rest params around st))
    (next setting (config_before past rest params around st))
goes_back setting past (Then s rest) params around st p h =
    ends_after (StepsBack setting (config_before past (Then s rest) params around st)) 1
    (begun setting (config_before past (Then s rest) params around st) s rest)
    (branch_begins setting past params around st s rest h)
goes_back setting past End params [] st p h = absurd h
goes_back setting past End params (o ∷ around) st p h =
    branch_ends setting past params around st o.past o.rest o.here o.part (unwound past End) p.0 refl h

pub branches_back : BranchesStepBack
branches_back setting x y cost placed e h =
    ends_done (StepsBack setting x) (next setting x) y cost e
    (goes_back setting x.past x.rest x.params x.around x.state placed.stands h)
