-- The method that a call opens.
use Rattle.std.proofs.Common.{◌≡◌, ◌≤◌, ℕ, zero, suc, ◌+◌, refl, sym, ap, ap₂, subst, ◌∙◌, arith, List, [], ◌∷◌, ◌++◌}
use Rattle.std.proofs.Common.{map}
use Rattle.std.proofs.Common.{length, take, min, All, Bool, Bor}
use Rattle.std.proofs.lemmas.List.{length-map}
use Rattle.std.specs.Prelude.{Result, Ok, Err, MatchResult}
use Rattle.source_blocks.specs.rpp_tree.declared.tree.Var.{Var}
use Rattle.source_blocks.specs.rpp_tree.Tree.{Statements, End, Procedure}
use Rattle.source_blocks.specs.roopl_semantics.Store.{State, Value, Binding}
use Rattle.source_blocks.specs.roopl_semantics.Value.{Cell, read}
use Rattle.source_blocks.specs.roopl_semantics.Execution.{bound, moved_out, in_direction}
use Rattle.source_blocks.specs.meaning_machine.Machine.{Config, OpenPart as Runs, Calling, inside, entered}
use Rattle.source_blocks.specs.meaning_machine.Machine.{Caller as From}
use Rattle.source_blocks.specs.source_store.declared.value.Value.{Value as Held}
use Rattle.source_blocks.specs.source_store.ValueView.{value_of, values_of}
use Rattle.source_blocks.specs.source_steps.declared.stop.Stop.{Stop}
use Rattle.source_blocks.specs.source_steps.declared.stop.Stop.TheVariants as stop
use Rattle.source_blocks.specs.source_store.declared.lack.Lack.TheVariants as lacking
use Rattle.source_blocks.specs.source_steps.CellView.{cell_view}
use Rattle.source_blocks.specs.source_steps.Marks.{with_marks, AreMarked}
use Rattle.source_blocks.proofs.source_steps_laws.Marked.{params_marked}
use Rattle.source_blocks.specs.source_steps.StateView.{bindings, setting_of}
use Rattle.source_blocks.proofs.source_steps_laws.Moves.{bound_cut}
use Rattle.source_blocks.specs.declared.frames.Caller.{Caller}
use Rattle.source_blocks.specs.declared.frames.Part.TheVariants as runs
use Rattle.source_blocks.specs.declared.run.Run.{Run}
use Rattle.source_blocks.specs.Blocks.{statement_count}
use Rattle.source_blocks.specs.Tasks.{task_of}
use Rattle.source_blocks.specs.Opens.{caller_of, cells_in, values_in, part_of, IsOpen}
use Rattle.source_blocks.specs.Runs.{IsSound, names_in, config_of, state_in, here_in, rest_in}
use Rattle.source_statements.proofs.Entered.{entered_as}

-- ---- as many variables as there are values, and as many values as there are variables

pub take_values : (count : ℕ) (items : List Held) → values_of (take count items) ≡ take count (values_of items)
take_values zero items = refl
take_values (suc count) [] = refl
take_values (suc count) (v ∷ items) = ap (λ r. value_of v ∷ r) (take_values count items)

pub take_length : {A : Type 0} (count : ℕ) (xs : List A) → count ≤ length xs → length (take count xs) ≡ count
take_length zero xs h = refl
take_length (suc count) [] h = absurd (omega arith)
take_length (suc count) (x ∷ xs) h = ap suc (take_length count xs (omega arith))

bound_length : (params : List Var) (values : List Value)
    → length (bound params values) ≡ min (length params) (length values)
bound_length [] values = omega arith
bound_length (var ∷ params) [] = omega arith
bound_length (var ∷ params) (v ∷ values) = let e = bound_length params values in omega arith

-- the frame of a method that begins with these values
pub callee_frame : (params cut : List Var) (values kept : List Held) (count : ℕ)
    → count ≡ min (length params) (length values) → cut ≡ take count params → kept ≡ take count values
    → bindings (map (λ var. var.name.text) cut) (values_of kept) ≡ bound params (values_of values)
callee_frame params cut values kept count m c k =
    let same : count ≡ min (length params) (length (values_of values)) = m
    ∙ ap (min (length params)) (sym (length-map values value_of)) in
    ap₂ (λ (vs : List Var) (xs : List Value). bindings (map (λ var. var.name.text) vs) xs) c
    (ap values_of k ∙ take_values count values)
    ∙ sym (bound_cut params (values_of values) count same)

pub callee_params : (params cut : List Var) (values : List Held) (count : ℕ)
    → count ≡ min (length params) (length values) → cut ≡ take count params
    → length cut ≡ length (bound params (values_of values))
callee_params params cut values count m c =
    let all = length-map values value_of in
    let bounds = bound_length params (values_of values) in
    let few : length (take count params) ≡ count = take_length count params (omega arith) in
    let cuts : length cut ≡ length (take count params) = ap (λ (vs : List Var). length vs) c in
    omega arith

pub callee_each : (params cut : List Var) (values kept : List Held) (count : ℕ)
    → count ≡ min (length params) (length values) → cut ≡ take count params → kept ≡ take count values
    → length kept ≡ length cut
callee_each params cut values kept count m c k =
    let few : length (take count params) ≡ count = take_length count params (omega arith) in
    let less : length (take count values) ≡ count = take_length count values (omega arith) in
    let cuts : length cut ≡ length (take count params) = ap (λ (vs : List Var). length vs) c in
    let keeps : length kept ≡ length (take count values) = ap (λ (vs : List Held). length vs) k in
    omega arith

-- ---- the run of a method that begins

module _ (run mid callee : Run) (same : mid ≡ record run { heap = mid.heap; values = mid.values }) (object : ℕ)
    (call : callee ≡ record mid {
      setting = record mid.setting { object = object; depth = 1 + mid.setting.depth };
      params = callee.params;
      locals = callee.locals;
      marks = callee.marks;
      values = callee.values;
    }) (bare : callee.locals.items ≡ []) where
  -- what it opens is enclosed by what enclosed the caller
  abbrev opens_at : Run → Runs → Statements → State → Config
  opens_at r part body st = inside (config_of r) (here_in r) (rest_in r) part body st

  abbrev entry_of : ℕ → Runs → Statements → State → Config
  entry_of params part body st = record {
    past = End;
    rest = body;
    params = params;
    state = st;
    around = record { past = (config_of run).past; here = here_in run; rest = rest_in run; part = part }
        ∷ (config_of run).around;
  }

  opens_there : (part : Runs) (body : Statements) (st : State)
      → opens_at callee part body st ≡ entry_of (length callee.params.now) part body st
  opens_there part body st =
      let inner : Run → Run = λ (r : Run). record r {
        setting = record mid.setting { object = object; depth = 1 + mid.setting.depth };
        params = callee.params;
        locals = callee.locals;
        marks = callee.marks;
        values = callee.values;
      } in
      ap (λ r. opens_at r part body st) call ∙ ap (λ r. opens_at (inner r) part body st) same

  -- its state
  module _ (params : List Var) (values : List Held) (count : ℕ)
      (m : count ≡ min (length params) (length values)) (c : callee.params.now ≡ take count params)
      (k : callee.values.items ≡ take count values) where
    callee_state : state_in callee ≡ record {
      frame = bound params (values_of values);
      self = object;
      depth = 1 + run.setting.depth;
      store = mid.heap.store;
      log = mid.heap.log;
    }
    callee_state =
        let one : List (Bor (List ℕ)) → State = λ (locals : List (Bor (List ℕ))). record {
          frame = bindings (map (λ own. own.now) locals ++ map (λ var. var.name.text) callee.params.now)
              (values_of callee.values.items);
          self = object;
          depth = 1 + mid.setting.depth;
          store = mid.heap.store;
          log = mid.heap.log;
        } in
        let two : List Binding → ℕ → State = λ (frame : List Binding) (depth : ℕ). record {
          frame = frame;
          self = object;
          depth = 1 + depth;
          store = mid.heap.store;
          log = mid.heap.log;
        } in
        ap state_in call ∙ ap one bare
        ∙ ap₂ two (callee_frame params callee.params.now values callee.values.items count m c k)
        (ap (λ (r : Run). r.setting.depth) same)

    pub callee_sound : callee.marks ≡ with_marks 0 callee.params.now → IsSound mid → IsSound callee
    callee_sound marks s = record {
      each = callee_each params callee.params.now values callee.values.items count m c k
          ∙ sym (ap (λ (locals : List (Bor (List ℕ))). length (map (λ own. own.now) locals
          ++ map (λ var. var.name.text) callee.params.now)) bare
          ∙ length-map callee.params.now (λ var. var.name.text));
      order = ap (λ (r : Run). r.heap.order) call ∙ s.order ∙ sym (ap (λ (r : Run). r.setting.limits.heap) call);
      marked = subst (λ (m : ℕ). AreMarked m (names_in callee)) (sym marks)
          (subst (λ (locals : List (Bor (List ℕ))). AreMarked (with_marks 0 callee.params.now)
          (map (λ own. own.now) locals ++ map (λ var. var.name.text) callee.params.now)) (sym bare)
          (params_marked 0 callee.params.now));
      opens = subst (λ (r : Run). All IsOpen r.frames.items) (sym call) s.opens;
      within = subst (λ (r : Run). r.at ≤ statement_count (task_of r.task)) (sym call) s.within;
    }

    -- the whole of it
    module _ (method : Procedure) (back : Bool) (cell : List Cell) (args : List Cell) (caller : Caller)
        (own : params ≡ method.params) (held : values_of values ≡ map (read (state_in run)) args)
        (moved : state_in mid ≡ moved_out args (moved_out cell (state_in run)))
        (is : caller_of caller ≡ record {
          frame = (state_in mid).frame;
          self = (state_in mid).self;
          depth = (state_in mid).depth;
          params = length mid.params.now;
        }) (receiver : cells_in caller.receiver ≡ cell)
        (given : values_in caller.receiver ≡ map (read (state_in run)) cell)
        (cells : map cell_view caller.args.items ≡ args) where
      pub entered_by : (y : Config) (body : Statements)
          → y ≡ opens_at callee (part_of (runs.Calling caller)) body (state_in callee)
          → body ≡ in_direction back method.body
          → y ≡ entered (setting_of run.setting) (config_of run) (here_in run) (rest_in run) back method object cell
          args
      entered_by y body e b =
          let part : List Cell → List Cell → Runs = λ (xs ys : List Cell). Calling (caller_of caller) xs ys
          (values_in caller.receiver) in
          let frame : bound params (values_of values) ≡ bound method.params (map (read (state_in run)) args) =
          ap₂ bound own held in
          let frame_is : List Binding → State = λ (fs : List Binding). record {
            frame = fs;
            self = object;
            depth = 1 + run.setting.depth;
            store = mid.heap.store;
            log = mid.heap.log;
          } in
          let from_is : ℕ → From = λ (n : ℕ). record {
            frame = (state_in mid).frame;
            self = (state_in mid).self;
            depth = (state_in mid).depth;
            params = n;
          } in
          entered_as (setting_of run.setting) (config_of run) (here_in run) (rest_in run) back method object cell args
          y body (length callee.params.now) (state_in mid) (state_in callee) (caller_of caller)
          (values_in caller.receiver)
          (e ∙ opens_there (part_of (runs.Calling caller)) body (state_in callee)
          ∙ ap (λ (p : Runs). entry_of (length callee.params.now) p body (state_in callee))
          (ap₂ part receiver cells))
          b
          (callee_params params callee.params.now values count m c ∙ ap (λ (fs : List Binding). length fs) frame)
          moved (callee_state ∙ ap frame_is frame)
          (is ∙ ap from_is (ap (λ (r : Run). length r.params.now) same))
          given

      pub entered_result : {E : Type 0} (result : Result E Stop) (y : Config) (body : Statements)
          → MatchResult result (λ u. y ≡ opens_at callee (part_of (runs.Calling caller)) body (state_in callee))
          (λ why. why ≡ stop.Lacks lacking.NoMemory)
          → body ≡ in_direction back method.body
          → MatchResult result (λ u. y ≡ entered (setting_of run.setting) (config_of run) (here_in run) (rest_in run)
          back method object cell args) (λ why. why ≡ stop.Lacks lacking.NoMemory)
      entered_result (Ok e) y body m b = entered_by y body m b
      entered_result (Err why) y body m b = m
