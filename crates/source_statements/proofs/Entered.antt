-- Calls that begin, with so much fuel.
use Rattle.std.proofs.Common.{◌≡◌, ℕ, ◌+◌, sym, ap, subst, ◌∙◌, List, [], ◌∷◌, ◌++◌, map, length, Bool, None}
use Rattle.std.specs.Prelude.{Result, MatchResult}
use Rattle.source_blocks.specs.rpp_tree.declared.tree.Ident.{Ident}
use Rattle.source_blocks.specs.rpp_tree.Tree.{Statement, Statements, End, Procedure}
use Rattle.source_blocks.specs.class_rules.Classes.{method_named}
use Rattle.source_blocks.specs.roopl_semantics.Run.{Run, ◌>>=◌, give, spend, fault_if}
use Rattle.source_blocks.specs.roopl_semantics.Store.{State, Value, Binding}
use Rattle.source_blocks.specs.roopl_semantics.Value.{Cell, cell_named, own_class, read}
use Rattle.source_blocks.specs.roopl_semantics.Execution.{Setting, is_too_deep, cells_named, bound, moved_out, in_direction}
use Rattle.source_blocks.specs.roopl_semantics.Execution.{TOO_DEEP}
use Rattle.source_blocks.specs.meaning_machine.Machine.{Config, Calling, called, entered}
use Rattle.source_blocks.specs.meaning_machine.Machine.{Caller as From}
use Rattle.source_blocks.specs.source_steps.declared.stop.Stop.{Stop}
use Rattle.source_blocks.specs.source_steps.declared.stop.Stop.TheVariants as stop
use Rattle.source_blocks.specs.source_store.declared.lack.Lack.TheVariants as lacking
use Rattle.source_blocks.specs.source_steps.Metered.{Went, metered, Failed, MeteredGives}
use Rattle.source_blocks.proofs.source_steps_laws.Fuelled.{goes, fails}
use Rattle.source_blocks.proofs.source_steps_laws.Moves.{moved_out_both}
use Rattle.source_statements.proofs.Begun.{given_as, through}

module _ (setting : Setting) (x : Config) (s : Statement) (rest : Statements) (at : ℕ) (back : Bool) (method : Ident)
    (args : List Ident) (fuel cost : ℕ) (paid : cost ≡ length args) where
  abbrev st : State
  st = x.state

  -- a call on the current object
  abbrev own_call : Run Config
  own_call = called setting x s rest at back None method args

  abbrev own_entered : Config
  own_entered = entered setting x s rest back (method_named setting.program (own_class st) method.text) st.self []
      (cells_named setting st args)

  abbrev own_deep : Run Config
  own_deep = fault_if TOO_DEEP (is_too_deep setting st) >>= (λ v. give own_entered)

  pub own_unpaid : (left : ℕ) (why : Stop) → Failed why left (metered fuel (spend cost))
      → Failed why left (metered fuel own_call)
  own_unpaid left why e = fails fuel left (spend (length args)) (λ u. own_deep) why
      (subst (λ k. Failed why left (metered fuel (spend k))) paid e)

  pub own_too_deep : (one left : ℕ) (why : Stop) (deep : Bool) → metered fuel (spend cost) ≡ Went tt one
      → Failed why left (metered one (fault_if TOO_DEEP deep)) → deep ≡ is_too_deep setting st
      → Failed why left (metered fuel own_call)
  own_too_deep one left why deep p e d =
      subst (λ m. Failed why left m)
      (sym (goes fuel one (spend (length args)) tt (λ u. own_deep) (ap (λ k. metered fuel (spend k)) (sym paid) ∙ p)))
      (fails one left (fault_if TOO_DEEP (is_too_deep setting st)) (λ v. give own_entered) why
      (subst (λ t. Failed why left (metered one (fault_if TOO_DEEP t))) d e))

  pub own_goes : {E : Type 0} (result : Result E Stop) (one two : ℕ) (deep : Bool) (y : Config)
      → metered fuel (spend cost) ≡ Went tt one → metered one (fault_if TOO_DEEP deep) ≡ Went tt two
      → deep ≡ is_too_deep setting st
      → MatchResult result (λ u. y ≡ own_entered) (λ why. why ≡ stop.Lacks lacking.NoMemory)
      → MeteredGives (λ (e : E). y) result two (metered fuel own_call)
  own_goes result one two deep y p q d m =
      through (λ e. y) result fuel one two (spend (length args)) tt (λ u. own_deep)
      (ap (λ k. metered fuel (spend k)) (sym paid) ∙ p)
      (through (λ e. y) result one two two (fault_if TOO_DEEP (is_too_deep setting st)) tt (λ v. give own_entered)
      (ap (λ t. metered one (fault_if TOO_DEEP t)) (sym d) ∙ q) (given_as result two y own_entered m))

  -- a call on what a variable or field refers to
  module _ (name : Ident) where
    abbrev cell : Cell
    cell = cell_named setting.program st name.text

-- ---- what a call leads to

module _ (setting : Setting) (x : Config) (s : Statement) (rest : Statements) (back : Bool) (method : Procedure)
    (self : ℕ) (receiver args : List Cell) where
  abbrev at_entry : Statements → ℕ → State → From → List Value → Config
  at_entry body params inner caller held = record {
    past = End;
    rest = body;
    params = params;
    state = inner;
    around = record { past = x.past; here = s; rest = rest; part = Calling caller receiver args held } ∷ x.around;
  }

  abbrev frame_in : List Binding
  frame_in = bound method.params (map (read x.state) args)

  abbrev state_with : State → State
  state_with mid = record {
    frame = frame_in;
    self = self;
    depth = 1 + x.state.depth;
    store = mid.store;
    log = mid.log;
  }

  abbrev caller_with : State → From
  caller_with mid = record { frame = mid.frame; self = mid.self; depth = mid.depth; params = x.params }

  pub entered_as : (y : Config) (body : Statements) (params : ℕ) (mid inner : State) (caller : From) (held : List Value)
      → y ≡ at_entry body params inner caller held → body ≡ in_direction back method.body → params ≡ length frame_in
      → mid ≡ moved_out args (moved_out receiver x.state) → inner ≡ state_with mid → caller ≡ caller_with mid
      → held ≡ map (read x.state) receiver
      → y ≡ entered setting x s rest back method self receiver args
  entered_as y body params mid inner caller held e b p m i c h =
      let all : mid ≡ moved_out (receiver ++ args) x.state = m ∙ sym (moved_out_both receiver args x.state) in
      e ∙ ap (λ z. at_entry z params inner caller held) b
      ∙ ap (λ z. at_entry (in_direction back method.body) z inner caller held) p
      ∙ ap (λ z. at_entry (in_direction back method.body) (length frame_in) z caller held)
      (i ∙ ap state_with all)
      ∙ ap (λ z. at_entry (in_direction back method.body) (length frame_in)
      (state_with (moved_out (receiver ++ args) x.state)) z held) (c ∙ ap caller_with all)
      ∙ ap (λ z. at_entry (in_direction back method.body) (length frame_in)
      (state_with (moved_out (receiver ++ args) x.state)) (caller_with (moved_out (receiver ++ args) x.state)) z) h
