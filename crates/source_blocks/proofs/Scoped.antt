-- The state of a run, by the scope of its variables.
use Rattle.std.proofs.Common.{◌≡◌, ◌<◌, ℕ, suc, sym, ap, ap₂, subst, ◌∙◌, List, ◌∷◌, ◌++◌, map, length, Bor}
use Rattle.std.proofs.Common.{arith, [], slice_index_or, remove, Vec, Global}
use Rattle.std.specs.Prelude.{Result, Ok, Err, OnOk, MatchResult}
use Rattle.source_steps.specs.roopl_semantics.Store.{State}
use Rattle.source_steps.specs.roopl_semantics.Execution.{opened, closed}
use Rattle.source_steps.specs.rpp_tree.Tree.{Statements}
use Rattle.source_steps.specs.meaning_machine.Machine.{Config, OpenPart, inside}
use Rattle.source_steps.specs.source_store.declared.value.Value.{Value as Held}
use Rattle.source_steps.specs.source_store.HeapView.{Kept}
use Rattle.source_steps.specs.source_store.ValueView.{value_of, values_of}
use Rattle.source_steps.specs.declared.scope.Scope.{Scope as Chain}
use Rattle.source_steps.specs.declared.stop.Stop.{Stop}
use Rattle.source_steps.specs.declared.stop.Stop.TheVariants as stop
use Rattle.source_steps.specs.source_store.declared.lack.Lack.TheVariants as lacking
use Rattle.source_steps.specs.Metered.{Metered, MeteredGives, OnFault}
use Rattle.source_steps.specs.Marks.{with_mark, AreMarked}
use Rattle.source_steps.proofs.Marked.{marked_more}
use Rattle.source_steps.specs.StateView.{IsFramed, names_of, bindings, state_of}
use Rattle.source_blocks.specs.declared.run.Run.{Run}
use Rattle.source_blocks.specs.Runs.{IsSound, names_in, state_in, config_of, here_in, rest_in}

-- the state of a run with these names, heap and values
abbrev state_by : Run → List (List ℕ) → Kept → List Held → State
state_by run names heap values = record {
  frame = bindings names (values_of values);
  self = run.setting.object;
  depth = run.setting.depth;
  store = heap.store;
  log = heap.log;
}

module _ (run : Run) (scope : Chain) (is : (names_of scope ≡ names_in run) × (scope.marks ≡ run.marks)) where
  names : names_of scope ≡ names_in run
  names = is.0

  pub framed_in : IsSound run → IsFramed run.setting scope run.heap run.values.items
  framed_in s = record {
    each = s.each ∙ ap (λ ns. length ns) (sym names);
    order = s.order;
    marked = subst (λ (ns : List (List ℕ)). AreMarked scope.marks ns) (sym names)
        (subst (λ (m : ℕ). AreMarked m (names_in run)) (sym is.1) s.marked);
  }

  pub state_is : state_of run.setting scope run.heap run.values.items ≡ state_in run
  state_is = ap (λ ns. state_by run ns run.heap run.values.items) names

  -- what holds at the state by the scope holds at the state of the run
  pub at_state : (P : State → Type 0) → P (state_of run.setting scope run.heap run.values.items) → P (state_in run)
  at_state P p = subst P state_is p

  -- the same of its values as a slice
  pub framed_by : (values : List Held) → values ≡ run.values.items → IsSound run
      → IsFramed run.setting scope run.heap values
  framed_by values own s = subst (λ (vs : List Held). IsFramed run.setting scope run.heap vs) (sym own) (framed_in s)

  pub slice_is : (values : List Held) → values ≡ run.values.items
      → state_of run.setting scope run.heap values ≡ state_in run
  slice_is values own = ap (λ (vs : List Held). state_of run.setting scope run.heap vs) own ∙ state_is

  -- a run of which only the heap and the values have changed
  module _ (new : Run) (same : new ≡ record run { heap = new.heap; values = new.values }) where
    new_state : state_of run.setting scope new.heap new.values.items ≡ state_in new
    new_state = ap (λ ns. state_by run ns new.heap new.values.items) names ∙ sym (ap state_in same)

    pub moved_is : (f : State → State)
        → state_of run.setting scope new.heap new.values.items
        ≡ f (state_of run.setting scope run.heap run.values.items)
        → state_in new ≡ f (state_in run)
    moved_is f e = sym new_state ∙ e ∙ ap f state_is

    pub changed_gives : {E : Type 0} (result : Result E Stop) (left : ℕ) (m : State → Metered State)
        → MeteredGives (λ (u : E). state_of run.setting scope new.heap new.values.items) result left
        (m (state_of run.setting scope run.heap run.values.items))
        → MeteredGives (λ (u : E). state_in new) result left (m (state_in run))
    changed_gives {E = E} result left m g =
        let there : (st : State) → Type 0 = λ st. MeteredGives (λ (u : E). st) result left (m (state_in run)) in
        let here : (st : State) → Type 0 = λ st.
        MeteredGives (λ (u : E). state_of run.setting scope new.heap new.values.items) result left (m st) in
        subst there new_state (subst here state_is g)

    pub still_sound : IsSound run → IsFramed run.setting scope new.heap new.values.items → IsSound new
    still_sound s f = subst IsSound (sym same) (record {
      each = f.each ∙ ap (λ ns. length ns) names;
      order = f.order;
      marked = s.marked;
      opens = s.opens;
      within = s.within;
    })

    pub sound_after : {E : Type 0} (result : Result E Stop) → IsSound run
        → OnOk result (IsFramed run.setting scope new.heap new.values.items) → OnOk result (IsSound new)
    sound_after (Ok u) s f = still_sound s f
    sound_after (Err why) s f = tt

-- its heap and its values are as they were, and so is all of it
pub as_it_was : {E : Type 0} (result : Result E Stop) (run new : Run)
    → new ≡ record run { heap = new.heap; values = new.values }
    → OnFault result ((new.heap ≡ run.heap) × (new.values ≡ run.values)) → OnFault result (new ≡ run)
as_it_was (Ok u) run new same h = tt
as_it_was (Err why) run new same h = λ fault.
    same ∙ ap₂ (λ (heap : Kept) (values : Vec Held Global). record run { heap = heap; values = values })
    (h fault).0 (h fault).1

-- ---- one more variable, and one less

module _ (run new : Run)
    (same : new ≡ record run { locals = new.locals; marks = new.marks; values = new.values }) where
  abbrev frame_with : List (Bor (List ℕ)) → List Held → State
  frame_with locals values =
      state_by run (map (λ own. own.now) locals ++ map (λ var. var.name.text) run.params.now) run.heap values

  frame_is : state_in new ≡ frame_with new.locals.items new.values.items
  frame_is = ap state_in same

  abbrev counted : List (Bor (List ℕ)) → ℕ
  counted locals = length (map (λ own. own.now) locals ++ map (λ var. var.name.text) run.params.now)

  pub variable_state : (name : Bor (List ℕ)) (v : Held) → new.locals.items ≡ name ∷ run.locals.items
      → new.values.items ≡ v ∷ run.values.items → state_in new ≡ opened name.now (value_of v) (state_in run)
  variable_state name v l e = frame_is ∙ ap₂ frame_with l e

  abbrev named_by : List (Bor (List ℕ)) → List (List ℕ)
  named_by locals = map (λ own. own.now) locals ++ map (λ var. var.name.text) run.params.now

  pub variable_sound : (name : Bor (List ℕ)) (v : Held) → new.locals.items ≡ name ∷ run.locals.items
      → new.values.items ≡ v ∷ run.values.items → new.marks ≡ with_mark run.marks name.now → IsSound run
      → IsSound new
  variable_sound name v l e m s = subst IsSound (sym same) (record {
    each = ap (λ (vs : List Held). length vs) e ∙ ap suc s.each ∙ sym (ap counted l);
    order = s.order;
    marked = subst (λ (ls : List (Bor (List ℕ))). AreMarked new.marks (named_by ls)) (sym l)
        (subst (λ (k : ℕ). AreMarked k (name.now ∷ names_in run)) (sym m)
        (marked_more run.marks name.now (names_in run) s.marked));
    opens = s.opens;
    within = s.within;
  })

  -- the innermost variable goes
  pub gone_state : (name : Bor (List ℕ)) (v : Held) → run.locals.items ≡ name ∷ new.locals.items
      → run.values.items ≡ v ∷ new.values.items → state_in new ≡ closed (state_in run)
  gone_state name v l e = frame_is ∙ sym (ap (λ st. closed st) (ap₂ frame_with l e))

  pub gone_sound : (name : Bor (List ℕ)) (v : Held) → run.locals.items ≡ name ∷ new.locals.items
      → run.values.items ≡ v ∷ new.values.items → new.marks ≡ run.marks → IsSound run → IsSound new
  gone_sound name v l e m s =
      let more : length run.values.items ≡ suc (length new.values.items) = ap (λ (vs : List Held). length vs) e in
      let fewer : counted run.locals.items ≡ suc (counted new.locals.items) = ap counted l in
      let each : length run.values.items ≡ counted run.locals.items = s.each in
      let marked : AreMarked run.marks (name.now ∷ named_by new.locals.items) =
      subst (λ (ls : List (Bor (List ℕ))). AreMarked run.marks (named_by ls)) l s.marked in
      subst IsSound (sym same) (record {
        each = omega arith;
        order = s.order;
        marked = subst (λ (k : ℕ). AreMarked k (named_by new.locals.items)) (sym m) marked.1;
        opens = s.opens;
        within = s.within;
      })

  pub state_config : (st : State) → state_in new ≡ st → config_of new ≡ record (config_of run) { state = st }
  state_config st e =
      let there : State → Config = λ (s : State). record (config_of run) { state = s } in
      ap config_of same ∙ ap there (sym frame_is ∙ e)

-- a block that begins inside of the same statement
pub inside_same : (run mid : Run)
    → mid ≡ record run { locals = mid.locals; marks = mid.marks; values = mid.values } → (part : OpenPart)
    (body : Statements) (st : State) → state_in mid ≡ st
    → inside (config_of mid) (here_in mid) (rest_in mid) part body (state_in mid)
    ≡ inside (config_of run) (here_in run) (rest_in run) part body st
inside_same run mid same part body st e =
    ap (λ (s : State). inside (config_of mid) (here_in mid) (rest_in mid) part body s) e
    ∙ ap (λ (r : Run). inside (config_of r) (here_in r) (rest_in r) part body st) same

pub inside_as : {E : Type 0} (result : Result E Stop) (y a b : Config) → a ≡ b
    → MatchResult result (λ u. y ≡ a) (λ why. why ≡ stop.Lacks lacking.NoMemory)
    → MatchResult result (λ u. y ≡ b) (λ why. why ≡ stop.Lacks lacking.NoMemory)
inside_as {E = E} result y a b e m =
    let comes : Config → Type 0 = λ z. MatchResult result (λ (u : E). y ≡ z) (λ why. why ≡ stop.Lacks lacking.NoMemory)
    in
    subst comes e m

-- the first of a list goes
pub first_gone : {A : Type 0} (xs ys : List A) (x : A) → 0 < length xs → x ≡ slice_index_or xs 0 x → ys ≡ remove xs 0
    → xs ≡ x ∷ ys
first_gone [] ys x h e r = absurd (omega arith)
first_gone (y ∷ xs) ys x h e r = ap₂ (λ z zs. z ∷ zs) (sym e) (sym r)
