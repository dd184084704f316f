-- The step into a method is undone, and so is the step out of it, given that the call's inverse
-- enters it again.
use Rattle.std.proofs.Common.{◌≡◌, ℕ, ◌+◌, refl, sym, ap, subst, ◌∙◌, arith, true, false, Bool, not}
use Rattle.std.proofs.Common.{List}
use Rattle.std.proofs.Common.{◌∷◌, ◌++◌, length, map, take, length-append}
use Rattle.std.proofs.lemmas.List.{length-map, map-append, append_cancel_left}
use Rattle.std.proofs.Math.Seq.{take-append_seam}
use Rattle.meaning_machine.specs.rpp_tree.Tree.{Statement, Statements, End, Then, Procedure}
use Rattle.meaning_inverse.specs.inverse_rules.Inverse.{inverse_statement, inverse}
use Rattle.meaning_machine.proofs.inverse_rules_laws.Inverses.{inverse-twice}
use Rattle.meaning_machine.specs.roopl_semantics.Run.{Done, after_cost, give}
use Rattle.meaning_machine.specs.roopl_semantics.Store.{Value, Binding, State}
use Rattle.meaning_machine.specs.roopl_semantics.Value.{Cell, read}
use Rattle.meaning_machine.specs.roopl_semantics.Execution.{Setting, statement, exec, bound, moved_out, moved_back}
use Rattle.meaning_machine.specs.roopl_semantics.Execution.{in_direction}
use Rattle.meaning_machine.specs.roopl_semantics.Execution.{invoked}
use Rattle.meaning_machine.specs.Machine.{Config, Open, Calling, entered, next}
use Rattle.meaning_machine.specs.MachineLaws.{config_before}
use Rattle.meaning_machine.specs.Turned.{each_undone, turned_open, turn, unwound}
use Rattle.meaning_machine.proofs.Back.{call_entered, undone_block}
use Rattle.meaning_inverse.proofs.Runs.{in_parts, done_then, done_result, Runs, Does, does_of}
use Rattle.meaning_inverse.proofs.Runs.{runs_then, runs_end}
use Rattle.meaning_inverse.proofs.Later.{Later, exec_later, statement_later, frame_names}
use Rattle.meaning_inverse.proofs.Ground.{Ground, CallFacts, returned}
use Rattle.meaning_inverse.proofs.Moves.{MovedBack, moved_back_does, moved_there_and_back}
use Rattle.meaning_inverse.proofs.Moves.{bound_names, bound_values}
use Rattle.meaning_inverse.proofs.Moves.{rebound}
use Rattle.meaning_machine.specs.Reversed.{begun_back}
use Rattle.meaning_reversed.specs.ReverseLaws.{LeadsTo, is_over}

-- the step out of a method: it leads past the call, which has run, and is undone
pub record CallLeft (setting : Setting) (past rest : Statements) (params : ℕ) (around : List Open)
    (st : State)
    (s : Statement) (x z : Config) : Type 0 where
  pub end : State
  pub cost : ℕ
  pub is : z ≡ config_before (Then s past) rest params around end
  pub does : Does setting s st end cost
  pub undone : LeadsTo setting x z

-- the step into a method: it leads to the beginning of a typed block in a good state, and is
-- undone; and so is the step from after that block
pub record CallOpened (setting : Setting) (G : Ground setting) (past rest : Statements) (params : ℕ)
    (around : List Open) (st : State) (s : Statement) (y : Config) : Type 0 where
  pub undone : LeadsTo setting (config_before past (Then s rest) params around st) y
  pub fresh : y.past ≡ End
  pub within : is_over End y.around ≡ false
  pub inner : G.Context
  pub typed : G.Typed inner y.rest
  pub good : G.Good inner y.state
  pub leaves : (p : Statements) (end : State) (cost : ℕ) → unwound p End ≡ y.rest
      → Runs setting y.rest y.state end cost
      → (z : Config) (c : ℕ) → next setting (config_before p End y.params y.around end) ≡ Done z c
      → CallLeft setting past rest params around st s (config_before p End y.params y.around end) z

-- a call runs a method, and its inverse enters the same method of the same object with the same
-- cells, wherever those of the receiver hold what they held
pub record Enters (setting : Setting) (G : Ground setting) (C : G.Context) (st : State)
    (s : Statement)
    (direction : Bool) (method : Procedure) (self : ℕ) (receiver args : List Cell) : Type 0 where
  pub pays : ℕ
  pub runs : (m : ℕ) (end : State) (cost : ℕ)
      → invoked setting (exec setting m) direction method self receiver args st ≡ Done end cost
      → statement setting m (exec setting m) s st ≡ Done end (pays + cost)
  pub again : (z : Config) → G.Good C z.state → Later st z.state
      → map (read z.state) receiver ≡ map (read st) receiver → (rest : Statements)
      → begun_back setting z (inverse_statement s) rest
      ≡ Done (entered setting z (inverse_statement s) rest (not direction) method self receiver
      args) pays

-- the block of a method, in the other direction, is what is past of it, undone
turned_body : (direction : Bool) (body p : Statements) → unwound p End ≡ in_direction direction body
    → in_direction (not direction) body ≡ each_undone p
turned_body false body p e = undone_block p body e
turned_body true body p e = sym (inverse-twice true body) ∙ undone_block p (inverse body) e

module _ (setting : Setting) (G : Ground setting) (C : G.Context) (past rest : Statements)
    (params : ℕ)
    (around : List Open) (st : State) (s : Statement) (direction : Bool) (method : Procedure)
    (self : ℕ)
    (receiver args : List Cell)
    (facts : CallFacts setting G.Context G.Good G.Typed C st direction method self receiver args)
  where
    abbrev here : Config
    here = config_before past (Then s rest) params around st

    abbrev there : Config
    there = entered setting here s rest direction method self receiver args

    many_args : length (map (read st) args) ≡ length method.params
    many_args = length-map args (read st) ∙ facts.arity

    -- what moved in can move back
    values_return : moved_back (receiver ++ args) (map (read st) receiver
        ++ map (λ binding. binding.value) (bound method.params (map (read st) args)))
        (moved_out (receiver ++ args) st)
        ≡ Done st 0
    values_return =
        ap (λ (l : List Value). moved_back (receiver ++ args) (map (read st) receiver ++ l)
        (moved_out (receiver ++ args) st)) (bound_values method.params (map (read st) args) many_args)
        ∙ ap (λ (l : List Value). moved_back (receiver ++ args) l (moved_out (receiver ++ args) st))
        (sym (map-append (read st) receiver args))
        ∙ moved_there_and_back (receiver ++ args) st facts.distinct facts.there

    into_undone : LeadsTo setting here there
    into_undone =
        let step = call_entered setting s past rest params around st direction method self receiver
        args 0 values_return
        in record { cost = step.cost; steps = step.steps }

    module _ (typed : G.Typed C (Then s End)) (good : G.Good C st)
        (enters : Enters setting G C st s direction method self receiver args) (p : Statements)
        (end : State) (cost : ℕ)
        (placed : unwound p End ≡ in_direction direction method.body)
        (runs : Runs setting (in_direction direction method.body) there.state end cost) where
      abbrev leaving : Config
      leaving = config_before p End there.params there.around end

      abbrev values : List Value
      values = map (read st) receiver ++ map (λ binding. binding.value) end.frame

      abbrev mid : State
      mid = returned (receiver ++ args) st end

      later_in : Later there.state end
      later_in = exec_later setting cost (in_direction direction method.body) there.state end cost
          (G.sound facts.inner there.state facts.good) (runs.by cost (omega arith))

      names_end : frame_names end.frame ≡ map (λ var. var.name.text) method.params
      names_end = later_in.names ∙ bound_names method.params (map (read st) args) many_args

      many_end : length end.frame ≡ length there.state.frame
      many_end = sym (length-map end.frame (λ binding. binding.name)) ∙ ap length later_in.names
          ∙ length-map there.state.frame (λ binding. binding.name)

      many : length values ≡ length (receiver ++ args)
      many = length-append (map (read st) receiver) (map (λ binding. binding.value) end.frame)
          ∙ ap (λ k. k + length (map (λ binding. binding.value) end.frame))
          (length-map receiver (read st))
          ∙ ap (λ k. length receiver + k) (length-map end.frame (λ binding. binding.value)
          ∙ sym (length-map end.frame (λ binding. binding.name)) ∙ ap length names_end
          ∙ length-map method.params (λ var. var.name.text) ∙ sym facts.arity)
          ∙ sym (length-append receiver args)

      -- the values have moved back
      module _ (b : State) (d : ℕ) (moved : moved_back (receiver ++ args) values mid ≡ Done b d) where
        abbrev total : ℕ
        total = enters.pays + (cost + d)

        whole : statement setting cost (exec setting cost) s st ≡ Done b total
        whole = enters.runs cost b (cost + d) (done_then
            (exec setting cost (in_direction direction method.body) there.state)
            (λ last. moved_back (receiver ++ args) (map (read st) receiver
            ++ map (λ binding. binding.value) last.frame) (returned (receiver ++ args) st last)) end b
            cost d (cost + d)
            (runs.by cost (omega arith)) moved refl)

        does : Does setting s st b total
        does = does_of setting cost s st b total whole

        later : Later st b
        later = statement_later setting cost s st b total (G.sound C st good) whole

        good_b : G.Good C b
        good_b = G.keeps C (1 + (total + 0)) (Then s End) st b (1 + (total + 0)) typed good
            ((runs_then setting s End st b b total 0 (1 + (total + 0)) does (runs_end setting b)
            refl).by
            (1 + (total + 0)) (omega arith))

        good_end : G.Good facts.inner end
        good_end = G.keeps facts.inner cost (in_direction direction method.body) there.state end cost
            facts.typed facts.good
            (runs.by cost (omega arith))

        back_again : MovedBack (receiver ++ args) values mid b d
        back_again = moved_back_does (receiver ++ args) values mid b d many facts.distinct
            (facts.still end b d good_end later_in good_b moved) moved
            (facts.sorts end b d good_end later_in good_b moved)

        joined : map (read b) receiver ++ map (read b) args ≡ values
        joined = sym (map-append (read b) receiver args) ∙ back_again.holds

        held : map (read b) receiver ≡ map (read st) receiver
        held =
            let l = map (λ binding. binding.value) end.frame in
            sym (take-append_seam (map (read b) receiver) (map (read b) args))
            ∙ ap (λ k. take k (map (read b) receiver ++ map (read b) args))
            (length-map receiver (read b) ∙ sym (length-map receiver (read st)))
            ∙ ap (take (length (map (read st) receiver))) joined
            ∙ take-append_seam (map (read st) receiver) l

        given : map (read b) args ≡ map (λ binding. binding.value) end.frame
        given = append_cancel_left (map (read st) receiver) (map (read b) args)
            (map (λ binding. binding.value) end.frame)
            (ap (λ (l : List Value). l ++ map (read b) args) (sym held) ∙ joined)

        frame_again : bound method.params (map (read b) args) ≡ end.frame
        frame_again = ap (bound method.params) given ∙ rebound method.params end.frame names_end

        abbrev behind : Config
        behind = config_before (Then s past) rest params around b

        -- where the inverse call enters, by what it makes of the caller
        abbrev into : Statements → ℕ → List Binding → ℕ → ℕ → State → List Value → Config
        into block count frame object depth caller kept = record {
          past = End;
          rest = block;
          params = count;
          state = record {
            frame = frame;
            self = object;
            depth = depth;
            store = caller.store;
            log = caller.log;
          };
          around = record {
            past = each_undone rest;
            here = inverse_statement s;
            rest = each_undone past;
            part = Calling (record {
              frame = caller.frame;
              self = caller.self;
              depth = caller.depth;
              params = params;
            }) receiver args kept;
          } ∷ map turned_open around;
        }

        same_place : entered setting (turn behind) (inverse_statement s) (each_undone past)
            (not direction) method self
            receiver args ≡ turn leaving
        same_place =
            let block = each_undone p in
            let frame = bound method.params (map (read b) args) in
            let caller = moved_out (receiver ++ args) b in
            let kept = map (read b) receiver in
            ap (λ x. into x (length frame) frame self (1 + b.depth) caller kept)
            (turned_body direction method.body p placed)
            ∙ ap (λ (x : List Binding). into block (length x) x self (1 + b.depth) caller kept)
            frame_again
            ∙ ap (λ x. into block x end.frame self (1 + b.depth) caller kept) many_end
            ∙ ap (λ x. into block there.params end.frame x (1 + b.depth) caller kept)
            (sym later_in.self)
            ∙ ap (λ x. into block there.params end.frame end.self x caller kept)
            (ap (λ x. 1 + x) later.depth ∙ sym later_in.depth)
            ∙ ap (λ x. into block there.params end.frame end.self end.depth x kept) back_again.undone
            ∙ ap (λ x. into block there.params end.frame end.self end.depth mid x) held

        out_undone : LeadsTo setting leaving behind
        out_undone = record {
          cost = 1 + enters.pays;
          steps = ap (after_cost 1) (enters.again (turn behind) good_b later held (each_undone past))
              ∙ ap (λ (x : Config). Done x (1 + enters.pays)) same_place;
        }

      leaves : (z : Config) (c : ℕ) → next setting leaving ≡ Done z c
          → CallLeft setting past rest params around st s leaving z
      leaves z c e =
          let behind_it : State → Config = λ b. config_before (Then s past) rest params around b in
          let one = in_parts (moved_back (receiver ++ args) values mid) (λ b. give (behind_it b)) z c
          e in
          let is : behind_it one.middle ≡ z = done_result (behind_it one.middle) z 0 one.after
          one.second in
          record {
            end = one.middle;
            cost = total one.middle one.before one.first;
            is = sym is;
            does = does one.middle one.before one.first;
            undone = subst (λ (x : Config). LeadsTo setting leaving x) is
                (out_undone one.middle one.before one.first);
          }

    pub call_opened : G.Typed C (Then s End) → G.Good C st
        → Enters setting G C st s direction method self receiver args
        → CallOpened setting G past rest params around st s there
    call_opened typed good enters = record {
      undone = into_undone;
      fresh = refl;
      within = refl;
      inner = facts.inner;
      typed = facts.typed;
      good = facts.good;
      leaves = leaves typed good enters;
    }
