-- Blocks that end, with so much fuel.
use Rattle.std.proofs.Common.{◌≡◌, ℕ, refl, sym, ap, subst, ◌∙◌, arith, List, [], ◌∷◌, ◌++◌, map, length, Bool, true}
use Rattle.std.proofs.Common.{false, if◌then◌else◌}
use Rattle.std.specs.Prelude.{not}
use Rattle.source_blocks.specs.rpp_tree.Tree.{Expression, Statements}
use Rattle.source_blocks.specs.roopl_semantics.Run.{Run, ◌>>=◌, give, fault_if}
use Rattle.source_blocks.specs.roopl_semantics.Store.{Value, State, same_value}
use Rattle.source_blocks.specs.roopl_semantics.Value.{Cell, Slot, evaluated, read}
use Rattle.source_blocks.specs.roopl_semantics.Execution.{Setting, holds, FI, LOOP, DELOCAL, closed, moved_back}
use Rattle.source_blocks.specs.meaning_machine.Machine.{Config, OpenPart, Chosen, First, Again, Holding, Calling, closing}
use Rattle.source_blocks.specs.meaning_machine.Machine.{ended, left, Caller as From, turned_to, turned_first}
use Rattle.source_blocks.specs.source_steps.declared.stop.Stop.{Stop}
use Rattle.source_blocks.specs.source_steps.Metered.{Went, metered, Failed}
use Rattle.source_blocks.specs.source_steps.StateView.{bindings}
use Rattle.source_blocks.proofs.source_steps_laws.Fuelled.{goes, fails, gives}
use Rattle.source_blocks.specs.Runs.{leaving}
use Rattle.source_blocks.specs.Opens.{HasPart}
use Rattle.source_blocks.specs.Turns.{loop_part, loop_block, gone_over}

module _ (setting : Setting) (x : Config) (fuel : ℕ) where
  closing_is : (part : OpenPart) (in_part : HasPart x.around part)
      → closing setting x x.around ≡ ended setting x in_part.inmost in_part.others part
  closing_is part in_part = ap (closing setting x) in_part.is
      ∙ ap (ended setting x in_part.inmost in_part.others) in_part.same

  goes_over : (second : Bool) (part : OpenPart) (in_part : HasPart x.around part)
      → gone_over second x x.around
      ≡ turned_to x in_part.inmost in_part.others (loop_part second part) (loop_block second part)
  goes_over second part in_part = ap (gone_over second x) in_part.is
      ∙ ap (λ p. turned_to x in_part.inmost in_part.others (loop_part second p) (loop_block second p)) in_part.same

  -- a side of a choice
  module _ (side : Bool) (test after : Expression) (in_part : HasPart x.around (Chosen side test after)) where
    abbrev side_test : Value → Run Config
    side_test w = fault_if FI (if side then not (holds w) else holds w)
        >>= (λ u. give (left in_part.inmost in_part.others x.params x.state))

    pub side_fails : (l : ℕ) (why : Stop) → Failed why l (metered fuel (evaluated setting.program after x.state))
        → Failed why l (metered fuel (closing setting x x.around))
    side_fails l why e = subst (λ r. Failed why l (metered fuel r)) (sym (closing_is _ in_part))
        (fails fuel l (evaluated setting.program after x.state) side_test why e)

    pub side_differs : (g l : ℕ) (w : Value) (why : Stop) (t : Bool)
        → metered fuel (evaluated setting.program after x.state) ≡ Went w g
        → t ≡ (if side then not (holds w) else holds w) → Failed why l (metered g (fault_if FI t))
        → Failed why l (metered fuel (closing setting x x.around))
    side_differs g l w why t e d f = subst (λ r. Failed why l (metered fuel r)) (sym (closing_is _ in_part))
        (subst (λ m. Failed why l m) (sym (goes fuel g (evaluated setting.program after x.state) w side_test e))
        (fails g l (fault_if FI (if side then not (holds w) else holds w)) _ why
        (subst (λ b. Failed why l (metered g (fault_if FI b))) d f)))

    pub side_goes : (g l : ℕ) (w : Value) (t : Bool) (y : Config)
        → metered fuel (evaluated setting.program after x.state) ≡ Went w g
        → t ≡ (if side then not (holds w) else holds w) → metered g (fault_if FI t) ≡ Went tt l
        → y ≡ leaving x x.around → metered fuel (closing setting x x.around) ≡ Went y l
    side_goes g l w t y e d f m =
        ap (metered fuel) (closing_is _ in_part)
        ∙ goes fuel g (evaluated setting.program after x.state) w side_test e
        ∙ goes g l (fault_if FI (if side then not (holds w) else holds w)) tt _
        (ap (λ b. metered g (fault_if FI b)) (sym d) ∙ f)
        ∙ gives l (left in_part.inmost in_part.others x.params x.state)
        ∙ ap (λ z. Went z l) (sym (m ∙ ap (leaving x) in_part.is))

  -- a local variable
  module _ (name : List ℕ) (value end_value : Expression) (in_part : HasPart x.around (Holding name value end_value))
    where
      abbrev local_test : Value → Run Config
      local_test w = fault_if DELOCAL (not (same_value (read x.state (Slot 0)) w))
          >>= (λ u. give (left in_part.inmost in_part.others x.params (closed x.state)))

      pub close_fails : (l : ℕ) (why : Stop)
          → Failed why l (metered fuel (evaluated setting.program end_value x.state))
          → Failed why l (metered fuel (closing setting x x.around))
      close_fails l why e = subst (λ r. Failed why l (metered fuel r)) (sym (closing_is _ in_part))
          (fails fuel l (evaluated setting.program end_value x.state) local_test why e)

      pub close_differs : (g l : ℕ) (w : Value) (why : Stop) (t : Bool)
          → metered fuel (evaluated setting.program end_value x.state) ≡ Went w g
          → t ≡ not (same_value (read x.state (Slot 0)) w) → Failed why l (metered g (fault_if DELOCAL t))
          → Failed why l (metered fuel (closing setting x x.around))
      close_differs g l w why t e d f = subst (λ r. Failed why l (metered fuel r)) (sym (closing_is _ in_part))
          (subst (λ m. Failed why l m) (sym (goes fuel g (evaluated setting.program end_value x.state) w local_test e))
          (fails g l (fault_if DELOCAL (not (same_value (read x.state (Slot 0)) w))) _ why
          (subst (λ b. Failed why l (metered g (fault_if DELOCAL b))) d f)))

      pub close_goes : (g l : ℕ) (w : Value) (t : Bool) (mid y : Config)
          → metered fuel (evaluated setting.program end_value x.state) ≡ Went w g
          → t ≡ not (same_value (read x.state (Slot 0)) w) → metered g (fault_if DELOCAL t) ≡ Went tt l
          → mid ≡ record x { state = closed x.state } → y ≡ leaving mid mid.around
          → metered fuel (closing setting x x.around) ≡ Went y l
      close_goes g l w t mid y e d f m n =
          let gone : y ≡ leaving (record x { state = closed x.state }) x.around = n
          ∙ ap (λ (z : Config). leaving z z.around) m in
          ap (metered fuel) (closing_is _ in_part)
          ∙ goes fuel g (evaluated setting.program end_value x.state) w local_test e
          ∙ goes g l (fault_if DELOCAL (not (same_value (read x.state (Slot 0)) w))) tt _
          (ap (λ b. metered g (fault_if DELOCAL b)) (sym d) ∙ f)
          ∙ gives l (left in_part.inmost in_part.others x.params (closed x.state))
          ∙ ap (λ z. Went z l) (sym (gone ∙ ap (leaving (record x { state = closed x.state })) in_part.is))

  -- the parts of a loop's iteration
  module _ (entry : Expression) (first again : Statements) (exit : Expression) where
    abbrev first_then : HasPart x.around (First entry first again exit) → Value → Run Config
    first_then in_part v = give (turned_first setting x in_part.inmost in_part.others
        (Again entry first again exit) again (holds v))

    pub first_fails : (l : ℕ) (why : Stop) → HasPart x.around (First entry first again exit)
        → Failed why l (metered fuel (evaluated setting.program exit x.state))
        → Failed why l (metered fuel (closing setting x x.around))
    first_fails l why in_part e = subst (λ r. Failed why l (metered fuel r)) (sym (closing_is _ in_part))
        (fails fuel l (evaluated setting.program exit x.state) (first_then in_part) why e)

    pub first_over : (g : ℕ) (v : Value) (y : Config) (in_part : HasPart x.around (First entry first again exit))
        → metered fuel (evaluated setting.program exit x.state) ≡ Went v g → true ≡ holds v
        → y ≡ leaving x x.around → metered fuel (closing setting x x.around) ≡ Went y g
    first_over g v y in_part e t m =
        ap (metered fuel) (closing_is _ in_part)
        ∙ goes fuel g (evaluated setting.program exit x.state) v (first_then in_part) e
        ∙ ap (λ b. metered g (give (turned_first setting x in_part.inmost in_part.others
        (Again entry first again exit) again b))) (sym t)
        ∙ gives g (left in_part.inmost in_part.others x.params x.state)
        ∙ ap (λ z. Went z g) (sym (m ∙ ap (leaving x) in_part.is))

    pub first_again : (g : ℕ) (v : Value) (y : Config)
        (in_part : HasPart x.around (First entry first again exit))
        → metered fuel (evaluated setting.program exit x.state) ≡ Went v g → false ≡ holds v
        → y ≡ gone_over true x x.around
        → metered fuel (closing setting x x.around) ≡ Went y g
    first_again g v y in_part e t m =
        ap (metered fuel) (closing_is _ in_part)
        ∙ goes fuel g (evaluated setting.program exit x.state) v (first_then in_part) e
        ∙ ap (λ b. metered g (give (turned_first setting x in_part.inmost in_part.others
        (Again entry first again exit) again b))) (sym t)
        ∙ gives g (turned_to x in_part.inmost in_part.others (Again entry first again exit) again)
        ∙ ap (λ z. Went z g) (sym (m ∙ goes_over true (First entry first again exit) in_part))

    abbrev again_then : HasPart x.around (Again entry first again exit) → Value → Run Config
    again_then in_part v = fault_if LOOP (holds v) >>= (λ u. give (turned_to x in_part.inmost in_part.others
        (First entry first again exit) first))

    pub again_fails : (l : ℕ) (why : Stop) → HasPart x.around (Again entry first again exit)
        → Failed why l (metered fuel (evaluated setting.program entry x.state))
        → Failed why l (metered fuel (closing setting x x.around))
    again_fails l why in_part e = subst (λ r. Failed why l (metered fuel r)) (sym (closing_is _ in_part))
        (fails fuel l (evaluated setting.program entry x.state) (again_then in_part) why e)

    pub again_refused : (g l : ℕ) (v : Value) (why : Stop) (t : Bool)
        (in_part : HasPart x.around (Again entry first again exit))
        → metered fuel (evaluated setting.program entry x.state) ≡ Went v g → t ≡ holds v
        → Failed why l (metered g (fault_if LOOP t)) → Failed why l (metered fuel (closing setting x x.around))
    again_refused g l v why t in_part e d f = subst (λ r. Failed why l (metered fuel r)) (sym (closing_is _ in_part))
        (subst (λ m. Failed why l m)
        (sym (goes fuel g (evaluated setting.program entry x.state) v (again_then in_part) e))
        (fails g l (fault_if LOOP (holds v)) _ why (subst (λ b. Failed why l (metered g (fault_if LOOP b))) d f)))

    pub again_goes : (g l : ℕ) (v : Value) (t : Bool) (y : Config)
        (in_part : HasPart x.around (Again entry first again exit))
        → metered fuel (evaluated setting.program entry x.state) ≡ Went v g → t ≡ holds v
        → metered g (fault_if LOOP t) ≡ Went tt l
        → y ≡ gone_over false x x.around
        → metered fuel (closing setting x x.around) ≡ Went y l
    again_goes g l v t y in_part e d f m =
        ap (metered fuel) (closing_is _ in_part)
        ∙ goes fuel g (evaluated setting.program entry x.state) v (again_then in_part) e
        ∙ goes g l (fault_if LOOP (holds v)) tt (λ u. give (turned_to x in_part.inmost in_part.others
        (First entry first again exit) first)) (ap (λ b. metered g (fault_if LOOP b)) (sym d) ∙ f)
        ∙ gives l (turned_to x in_part.inmost in_part.others (First entry first again exit) first)
        ∙ ap (λ z. Went z l) (sym (m ∙ goes_over false (Again entry first again exit) in_part))

  -- a call
  module _ (caller : From) (receiver args : List Cell) (held : List Value)
      (in_part : HasPart x.around (Calling caller receiver args held)) where
    abbrev back_in : State
    back_in = record {
      frame = caller.frame;
      self = caller.self;
      depth = caller.depth;
      store = x.state.store;
      log = x.state.log;
    }

    abbrev call_then : State → Run Config
    call_then st = give (left in_part.inmost in_part.others caller.params st)

    call_is : (inside : List Value) → map (λ binding. binding.value) x.state.frame ≡ inside
        → closing setting x x.around ≡ moved_back (receiver ++ args) (held ++ inside) back_in >>= call_then
    call_is inside e = closing_is _ in_part
        ∙ ap (λ vs. moved_back (receiver ++ args) (held ++ vs) back_in >>= call_then) e

    pub call_fails : (l : ℕ) (why : Stop) (inside : List Value) → map (λ binding. binding.value) x.state.frame ≡ inside
        → Failed why l (metered fuel (moved_back (receiver ++ args) (held ++ inside) back_in))
        → Failed why l (metered fuel (closing setting x x.around))
    call_fails l why inside e f = subst (λ r. Failed why l (metered fuel r)) (sym (call_is inside e))
        (fails fuel l (moved_back (receiver ++ args) (held ++ inside) back_in) call_then why f)

    pub call_goes : (l : ℕ) (st : State) (inside : List Value) (y : Config)
        → map (λ binding. binding.value) x.state.frame ≡ inside
        → metered fuel (moved_back (receiver ++ args) (held ++ inside) back_in) ≡ Went st l
        → y ≡ left in_part.inmost in_part.others caller.params st
        → metered fuel (closing setting x x.around) ≡ Went y l
    call_goes l st inside y e f m =
        ap (metered fuel) (call_is inside e)
        ∙ goes fuel l (moved_back (receiver ++ args) (held ++ inside) back_in) st call_then f
        ∙ gives l (left in_part.inmost in_part.others caller.params st) ∙ ap (λ z. Went z l) (sym m)

-- the values of variables that have one each
pub binding_values : (names : List (List ℕ)) (values : List Value) → length values ≡ length names
    → map (λ binding. binding.value) (bindings names values) ≡ values
binding_values [] [] e = refl
binding_values [] (v ∷ values) e = absurd (omega arith)
binding_values (name ∷ names) [] e = refl
binding_values (name ∷ names) (v ∷ values) e = ap (λ vs. v ∷ vs) (binding_values names values (omega arith))
