-- Statements that begin, with so much fuel.
use Rattle.std.proofs.Common.{◌≡◌, ℕ, refl, sym, ap, subst, ◌∙◌, List, Bool, if◌then◌else◌}
use Rattle.std.specs.Prelude.{not, Option, Result, Ok, Err, MatchResult}
use Rattle.source_blocks.specs.rpp_tree.declared.tree.Ident.{Ident}
use Rattle.source_blocks.specs.rpp_tree.declared.tree.Var.{Var}
use Rattle.source_blocks.specs.rpp_tree.Tree.{Expression, Null, Lvalue, Statement, Statements, Update, Swap, If, From, Construct}
use Rattle.source_blocks.specs.rpp_tree.Tree.{Local, New, Delete, Copy, Uncopy, Call, Skip}
use Rattle.source_blocks.specs.roopl_semantics.Run.{Run as Run', More, ◌>>=◌, give, fault_if}
use Rattle.source_blocks.specs.roopl_semantics.Store.{Value, State}
use Rattle.source_blocks.specs.roopl_semantics.Value.{evaluated}
use Rattle.source_blocks.specs.roopl_semantics.Execution.{Setting, holds, LOOP, opened, constructed, statement}
use Rattle.source_blocks.specs.meaning_machine.Machine.{Config, Chosen, First, Holding, past_it, inside, simply, begun}
use Rattle.source_blocks.specs.meaning_machine.Machine.{held_local, called}
use Rattle.source_blocks.specs.source_steps.StateView.{setting_of}
use Rattle.source_blocks.specs.declared.run.Run.{Run}
use Rattle.source_blocks.specs.Runs.{IsSimple, config_of, state_in, here_in, rest_in}
use Rattle.source_blocks.specs.source_steps.declared.stop.Stop.{Stop}
use Rattle.source_blocks.specs.source_steps.Metered.{Went, metered, Failed, MeteredGives}
use Rattle.source_blocks.proofs.source_steps_laws.Fuelled.{goes, fails, gives}
use Rattle.source_blocks.specs.source_steps.declared.stop.Stop.TheVariants as stop
use Rattle.source_blocks.specs.source_store.declared.lack.Lack.TheVariants as lacking

-- a call whose only error is `NoMemory` leads to what is given
pub given_as : {E : Type 0} (result : Result E Stop) (left : ℕ) (x y : Config)
    → MatchResult result (λ u. x ≡ y) (λ why. why ≡ stop.Lacks lacking.NoMemory)
    → MeteredGives (λ (e : E). x) result left (metered left (give y))
given_as (Ok e) left x y m = gives left y ∙ ap (λ z. Went z left) (sym m)
given_as (Err why) left x y m = subst (λ w. Failed w left (metered left (give y))) (sym m) tt

-- goes on after a part that went well
pub through : {A B E : Type 0} (f : E → B) (result : Result E Stop) (fuel g left : ℕ) (run : Run' A) (a : A)
    (next : A → Run' B) → metered fuel run ≡ Went a g → MeteredGives f result left (metered g (next a))
    → MeteredGives f result left (metered fuel (run >>= next))
through f result fuel g left run a next e k =
    subst (λ m. MeteredGives f result left m) (sym (goes fuel g run a next e)) k

module _ (setting : Setting) (x : Config) (s : Statement) (rest : Statements) (fuel : ℕ) where
  -- a choice
  module _ (at : ℕ) (test : Expression) (taken other : Statements) (after : Expression)
      (here : s ≡ If at test taken other after)
    where
      abbrev choice_run : Statement → Run' Config
      choice_run s' = evaluated setting.program test x.state >>= (λ v. give (inside x s' rest
          (Chosen (holds v) test after) (if holds v then taken else other) x.state))

      choice_is : begun setting x s rest ≡ choice_run s
      choice_is = ap (λ s'. begun setting x s' rest) here ∙ ap choice_run (sym here)

      pub choice_fails : (left : ℕ) (why : Stop) → Failed why left
          (metered fuel (evaluated setting.program test x.state))
          → Failed why left (metered fuel (begun setting x s rest))
      choice_fails left why e = subst (λ r. Failed why left (metered fuel r)) (sym choice_is)
          (fails fuel left (evaluated setting.program test x.state) _ why e)

      pub choice_goes : {E : Type 0} (result : Result E Stop) (g : ℕ) (v : Value) (side : Bool) (y : Config)
          → metered fuel (evaluated setting.program test x.state) ≡ Went v g → side ≡ holds v
          → MatchResult result (λ u. y ≡ inside x s rest (Chosen side test after)
          (if side then taken else other) x.state) (λ why. why ≡ stop.Lacks lacking.NoMemory)
          → MeteredGives (λ (e : E). y) result g (metered fuel (begun setting x s rest))
      choice_goes {E = E} result g v side y e which m =
          let opens : Bool → Type 0 = λ b. MatchResult result (λ (u : E). y ≡ inside x s rest (Chosen b test after)
          (if b then taken else other) x.state) (λ why. why ≡ stop.Lacks lacking.NoMemory) in
          subst (λ r. MeteredGives (λ e. y) result g (metered fuel r)) (sym choice_is)
          (through (λ e. y) result fuel g g (evaluated setting.program test x.state) v _ e
          (given_as result g y _ (subst opens which m)))

  -- a loop
  module _ (at : ℕ) (entry : Expression) (first again : Statements) (exit : Expression)
      (here : s ≡ From at entry first again exit) where
    abbrev after_entry : Statement → Value → Run' Config
    after_entry s' v = fault_if LOOP (not (holds v)) >>= (λ u. give (inside x s' rest
        (First entry first again exit) first x.state))

    abbrev loop_run : Statement → Run' Config
    loop_run s' = evaluated setting.program entry x.state >>= after_entry s'

    loop_is : begun setting x s rest ≡ loop_run s
    loop_is = ap (λ s'. begun setting x s' rest) here ∙ ap loop_run (sym here)

    pub loop_fails : (left : ℕ) (why : Stop)
        → Failed why left (metered fuel (evaluated setting.program entry x.state))
        → Failed why left (metered fuel (begun setting x s rest))
    loop_fails left why e = subst (λ r. Failed why left (metered fuel r)) (sym loop_is)
        (fails fuel left (evaluated setting.program entry x.state) (after_entry s) why e)

    pub loop_refused : (g left : ℕ) (v : Value) (why : Stop) (t : Bool)
        → metered fuel (evaluated setting.program entry x.state) ≡ Went v g → t ≡ not (holds v)
        → Failed why left (metered g (fault_if LOOP t))
        → Failed why left (metered fuel (begun setting x s rest))
    loop_refused g left v why t e is f = subst (λ r. Failed why left (metered fuel r)) (sym loop_is)
        (subst (λ m. Failed why left m) (sym (goes fuel g (evaluated setting.program entry x.state) v (after_entry s)
        e))
        (fails g left (fault_if LOOP (not (holds v))) _ why
        (subst (λ b. Failed why left (metered g (fault_if LOOP b))) is f)))

    pub loop_goes : {E : Type 0} (result : Result E Stop) (g left : ℕ) (v : Value) (t : Bool) (y : Config)
        → metered fuel (evaluated setting.program entry x.state) ≡ Went v g → t ≡ not (holds v)
        → metered g (fault_if LOOP t) ≡ Went tt left
        → MatchResult result (λ u. y ≡ inside x s rest (First entry first again exit) first x.state)
        (λ why. why ≡ stop.Lacks lacking.NoMemory)
        → MeteredGives (λ (e : E). y) result left (metered fuel (begun setting x s rest))
    loop_goes result g left v t y e is f m = subst (λ r. MeteredGives (λ e. y) result left (metered fuel r)) (sym loop_is)
        (through (λ e. y) result fuel g left (evaluated setting.program entry x.state) v (after_entry s) e
        (through (λ e. y) result g left left (fault_if LOOP (not (holds v))) tt _
        (ap (λ b. metered g (fault_if LOOP b)) (sym is) ∙ f) (given_as result left y _ m)))

  -- a local variable
  module _ (name : List ℕ) (value : Expression) (body : Statements) (end_value : Expression) where
    pub local_fails : (left : ℕ) (why : Stop)
        → Failed why left (metered fuel (evaluated setting.program value x.state))
        → Failed why left (metered fuel (held_local setting x s rest name value body end_value))
    local_fails left why e = fails fuel left (evaluated setting.program value x.state) _ why e

    pub local_goes : {E : Type 0} (result : Result E Stop) (g : ℕ) (v : Value) (y : Config)
        → metered fuel (evaluated setting.program value x.state) ≡ Went v g
        → MatchResult result (λ u. y ≡ inside x s rest (Holding name value end_value) body (opened name v x.state))
        (λ why. why ≡ stop.Lacks lacking.NoMemory)
        → MeteredGives (λ (e : E). y) result g (metered fuel (held_local setting x s rest name value body end_value))
    local_goes result g v y e m =
        through (λ e. y) result fuel g g (evaluated setting.program value x.state) v _ e (given_as result g y _ m)

-- ---- statements that mean a local variable, and calls

module _ (setting : Setting) (x : Config) (s : Statement) (rest : Statements) where
  pub local_begun : (at : ℕ) (var : Var) (value : Expression) (body : Statements) (end_var : Var)
      (end_value : Expression) → s ≡ Local at var value body end_var end_value
      → held_local setting x s rest var.name.text value body end_value ≡ begun setting x s rest
  local_begun at var value body end_var end_value e =
      ap (λ s'. held_local setting x s' rest var.name.text value body end_value) e
      ∙ sym (ap (λ s'. begun setting x s' rest) e)

  pub construct_begun : (at : ℕ) (class name : Ident) (body : Statements) (end : Ident)
      → s ≡ Construct at class name body end
      → held_local setting x s rest name.text (Null at) (constructed at class name body) (Null at)
      ≡ begun setting x s rest
  construct_begun at class name body end e =
      ap (λ s'. held_local setting x s' rest name.text (Null at) (constructed at class name body) (Null at)) e
      ∙ sym (ap (λ s'. begun setting x s' rest) e)

  pub call_begun : (at : ℕ) (back : Bool) (receiver : Option Lvalue) (method : Ident) (args : List Ident)
      → s ≡ Call at back receiver method args
      → called setting x s rest at back receiver method args ≡ begun setting x s rest
  call_begun at back receiver method args e =
      ap (λ s'. called setting x s' rest at back receiver method args) e ∙ sym (ap (λ s'. begun setting x s' rest) e)

-- what gives one run gives an equal one
pub same_gives : {A E : Type 0} (f : E → A) (result : Result E Stop) (left fuel : ℕ) (r r' : Run' A) → r ≡ r'
    → MeteredGives f result left (metered fuel r) → MeteredGives f result left (metered fuel r')
same_gives f result left fuel r r' e g = subst (λ q. MeteredGives f result left (metered fuel q)) e g

-- ---- statements that hold no block, and are no calls

begun_simply : (setting : Setting) (x : Config) (s : Statement) (rest : Statements) → IsSimple s
    → begun setting x s rest ≡ simply setting x s rest
begun_simply setting x (Update at op target value) rest i = refl
begun_simply setting x (Swap at l r) rest i = refl
begun_simply setting x (If at test taken other after) rest i = absurd i
begun_simply setting x (From at entry first again exit) rest i = absurd i
begun_simply setting x (Construct at class name body end) rest i = absurd i
begun_simply setting x (Local at var value body end_var end_value) rest i = absurd i
begun_simply setting x (New at made target) rest i = refl
begun_simply setting x (Delete at made target) rest i = refl
begun_simply setting x (Copy at kind source target) rest i = refl
begun_simply setting x (Uncopy at kind source target) rest i = refl
begun_simply setting x (Call at back receiver method args) rest i = absurd i
begun_simply setting x (Skip at) rest i = refl

changed : (old mid : Run) (st : State) → mid ≡ record old { heap = mid.heap; values = mid.values }
    → past_it (config_of mid) (here_in mid) (rest_in mid) st ≡ past_it (config_of old) (here_in old) (rest_in old) st
changed old mid st e = ap (λ r. past_it (config_of r) (here_in r) (rest_in r) st) e

-- a statement that changes only the state, and is past
module _ (old : Run) (fuel : ℕ) (ran : Run' State) (whole : Run' Config)
    (is : whole ≡ ran >>= (λ st. give (past_it (config_of old) (here_in old) (rest_in old) st))) where
  pub alone_fails : (left : ℕ) (why : Stop) → Failed why left (metered fuel ran)
      → Failed why left (metered fuel whole)
  alone_fails left why e = subst (λ r. Failed why left (metered fuel r)) (sym is) (fails fuel left ran _ why e)

  pub alone_goes : (mid : Run) (left : ℕ) (y : Config) → metered fuel ran ≡ Went (state_in mid) left
      → mid ≡ record old { heap = mid.heap; values = mid.values }
      → y ≡ past_it (config_of mid) (here_in mid) (rest_in mid) (state_in mid)
      → metered fuel whole ≡ Went y left
  alone_goes mid left y e same passed =
      ap (metered fuel) is ∙ goes fuel left ran (state_in mid) _ e
      ∙ gives left (past_it (config_of old) (here_in old) (rest_in old) (state_in mid))
      ∙ ap (λ z. Went z left) (sym (passed ∙ changed old mid (state_in mid) same))

module _ (old : Run) (t : Statement) (here : here_in old ≡ t) (simple : IsSimple t) where
  abbrev place : Setting
  place = setting_of old.setting

  abbrev ran : Statement → Run' State
  ran s = statement place 0 (λ body st. More) s (state_in old)

  pub simple_is : begun place (config_of old) (here_in old) (rest_in old)
      ≡ ran t >>= (λ st. give (past_it (config_of old) (here_in old) (rest_in old) st))
  simple_is = begun_simply place (config_of old) (here_in old) (rest_in old) (subst IsSimple (sym here) simple)
      ∙ ap (λ s. ran s >>= (λ st. give (past_it (config_of old) (here_in old) (rest_in old) st))) here
