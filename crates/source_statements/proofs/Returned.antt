-- The end of a call: the values move back, and the caller goes on.
use Rattle.std.proofs.Common.{◌≡◌, ℕ, suc, sym, ap, ap₂, subst, ◌∙◌, List, [], ◌∷◌, ◌++◌, map, reverse}
use Rattle.std.proofs.Common.{length, All, Some}
use Rattle.std.proofs.lemmas.List.{length-map}
use Rattle.std.proofs.lemmas.List.Elements.{All-pop, All-push}
use Rattle.source_blocks.specs.roopl_semantics.Store.{State, Binding}
use Rattle.source_blocks.specs.roopl_semantics.Execution.{moved_back}
use Rattle.source_blocks.specs.meaning_machine.Machine.{Config, Open, OpenPart, Calling, closing, left}
use Rattle.source_blocks.specs.source_store.declared.value.Value.{Value as Held}
use Rattle.source_blocks.specs.source_store.HeapView.{Kept}
use Rattle.source_blocks.specs.source_store.ValueView.{value_of, values_of}
use Rattle.source_blocks.specs.source_steps.declared.expressions.Setting.{Setting as Here}
use Rattle.source_blocks.specs.source_steps.declared.stop.Stop.{Stop}
use Rattle.source_blocks.specs.source_steps.CellView.{cell_view}
use Rattle.source_blocks.specs.source_steps.Metered.{Went, metered, Failed}
use Rattle.source_blocks.specs.source_steps.StateView.{setting_of, bindings}
use Rattle.source_blocks.specs.declared.frames.Caller.{Caller}
use Rattle.source_blocks.specs.declared.frames.Frame.{Frame}
use Rattle.source_blocks.specs.declared.frames.Part.TheVariants as runs
use Rattle.source_blocks.specs.declared.run.Run.{Run}
use Rattle.source_blocks.specs.declared.task.Task.{Task}
use Rattle.source_blocks.specs.Blocks.{rest_at, past_at}
use Rattle.source_blocks.specs.Tasks.{task_of}
use Rattle.source_blocks.specs.Opens.{open_of, part_of, caller_of, caller_names, cells_in, values_in, IsOpen}
use Rattle.source_blocks.specs.Runs.{IsSound, RunStays, names_in, config_of, state_in}
use Rattle.source_statements.specs.Endings.{caller_state, HasCallSpace}
use Rattle.source_blocks.proofs.Opened.{in_front, around_more}
use Rattle.source_statements.proofs.Ended.{call_fails, call_goes, binding_values}

module _ (run : Run) (sound : IsSound run) (front : List Frame) (task : Task) (at : ℕ) (caller : Caller)
    (f : run.frames.items ≡ front ++ record { task = task; at = at; part = runs.Calling caller } ∷ [])
    (here : Here) (is : here ≡ record run.setting { object = caller.object; depth = caller.depth }) where
  abbrev call : Frame
  call = record { task = task; at = at; part = runs.Calling caller }

  call_open : IsOpen call
  call_open = (All-pop IsOpen run.frames.items front (Some call) f sound.opens).1

  pub call_room : HasCallSpace here caller run.heap
  call_room = record {
    each = call_open.caller.0;
    order = sound.order ∙ sym (ap (λ (h : Here). h.limits.heap) is);
    marked = call_open.caller.1;
  }

  abbrev resumed : State
  resumed = record {
    frame = (caller_of caller).frame;
    self = caller.object;
    depth = caller.depth;
    store = run.heap.store;
    log = run.heap.log;
  }

  resumes : caller_state here caller run.heap ≡ resumed
  resumes = ap (λ (h : Here). caller_state h caller run.heap) is

  module _ (inside : List Held) (own : inside ≡ run.values.items) (fuel : ℕ) where
    own_values : map (λ binding. binding.value) (state_in run).frame ≡ values_of inside
    own_values = binding_values (names_in run) (values_of run.values.items)
        (length-map run.values.items value_of ∙ sound.each) ∙ sym (ap values_of own)

    pub returned_fails : (l : ℕ) (why : Stop)
        → Failed why l (metered fuel (moved_back (cells_in caller.receiver ++ map cell_view caller.args.items)
        (values_in caller.receiver ++ values_of inside) (caller_state here caller run.heap)))
        → Failed why l (metered fuel (closing (setting_of run.setting) (config_of run) (config_of run).around))
    returned_fails l why e =
        call_fails (setting_of run.setting) (config_of run) fuel (caller_of caller) (cells_in caller.receiver)
        (map cell_view caller.args.items) (values_in caller.receiver) (in_front run front call f) l why (values_of inside)
        own_values
        (subst (λ (st : State). Failed why l (metered fuel
        (moved_back (cells_in caller.receiver ++ map cell_view caller.args.items)
        (values_in caller.receiver ++ values_of inside) st))) resumes e)

    -- where they have moved back
    module _ (after : Caller) (heap : Kept) (new : Run) (same : after ≡ record caller { values = after.values }) where
      abbrev caller_after : State
      caller_after = record {
        frame = (caller_of after).frame;
        self = after.object;
        depth = after.depth;
        store = heap.store;
        log = heap.log;
      }

      state_after : caller_state here after heap ≡ caller_after
      state_after = ap (λ (h : Here). caller_state h after heap) is
          ∙ ap (λ (k : Caller). record caller_after { self = k.object; depth = k.depth }) (sym same)

      pub returned_goes : (l : ℕ) (around : List Open) → around ≡ map open_of (reverse front)
          → state_in new ≡ caller_after
          → config_of new ≡ record {
            past = past_at (suc at) (task_of task);
            rest = rest_at (suc at) (task_of task);
            params = length after.params.now;
            state = state_in new;
            around = around;
          }
          → metered fuel (moved_back (cells_in caller.receiver ++ map cell_view caller.args.items)
          (values_in caller.receiver ++ values_of inside) (caller_state here caller run.heap))
          ≡ Went (caller_state here after heap) l
          → metered fuel (closing (setting_of run.setting) (config_of run) (config_of run).around)
          ≡ Went (config_of new) l
      returned_goes l around outer st place e =
          let behind : ℕ → State → List Open → Config = λ (n : ℕ) (s : State) (os : List Open). record {
            past = past_at (suc at) (task_of task);
            rest = rest_at (suc at) (task_of task);
            params = n;
            state = s;
            around = os;
          } in
          let goes_on : config_of new ≡ left (open_of call) (map open_of (reverse front)) (length caller.params.now)
          (caller_state here after heap) =
          place ∙ ap (λ (os : List Open). behind (length after.params.now) (state_in new) os) outer
          ∙ ap₂ (λ (n : ℕ) (s : State). behind n s (map open_of (reverse front)))
          (ap (λ (k : Caller). length k.params.now) same) (st ∙ sym state_after) in
          call_goes (setting_of run.setting) (config_of run) fuel (caller_of caller) (cells_in caller.receiver)
          (map cell_view caller.args.items) (values_in caller.receiver) (in_front run front call f) l
          (caller_state here after heap) (values_of inside) (config_of new) own_values
          (ap (λ (s : State). metered fuel (moved_back (cells_in caller.receiver ++ map cell_view caller.args.items)
          (values_in caller.receiver ++ values_of inside) s)) (sym resumes) ∙ e)
          goes_on

  -- where they have not moved back
  module _ (after : Caller) (heap : Kept) (new : Run) (same : after ≡ record caller { values = after.values })
      (room : HasCallSpace here after heap) (kept : caller_state here after heap ≡ caller_state here caller run.heap)
      (again : new ≡ record run { heap = heap; frames = new.frames }) where
    abbrev call_after : Frame
    call_after = record { task = task; at = at; part = runs.Calling after }

    frame_back : bindings (caller_names caller) (values_of after.values.items) ≡ (caller_of caller).frame
    frame_back = ap (λ (k : Caller). bindings (caller_names k) (values_of after.values.items)) (sym same)
        ∙ ap (λ (st : State). st.frame) kept

    part_back : part_of (runs.Calling after) ≡ part_of (runs.Calling caller)
    part_back = ap (λ (k : Caller). part_of (runs.Calling k)) same
        ∙ ap (λ (frame : List Binding). Calling (record (caller_of caller) { frame = frame }) (cells_in caller.receiver)
        (map cell_view caller.args.items) (values_in caller.receiver)) frame_back

    abbrev with_around : State → List Open → Config
    with_around st around =
        record (config_of run) { state = record (state_in run) { store = st.store; log = st.log }; around = around }

    pub returned_stays : new.frames.items ≡ front ++ record { task = task; at = at; part = runs.Calling after } ∷ []
        → RunStays run new
    returned_stays one =
        let around_back : (config_of new).around ≡ (config_of run).around =
        ap (λ (fs : List Frame). map open_of (reverse fs)) one ∙ around_more front call_after
        ∙ ap (λ (p : OpenPart). record (open_of call) { part = p } ∷ map open_of (reverse front)) part_back
        ∙ sym (ap (λ (fs : List Frame). map open_of (reverse fs)) f ∙ around_more front call) in
        record {
          place = ap config_of again
              ∙ ap (λ (st : State). with_around st (config_of new).around) kept
              ∙ ap (with_around (caller_state here caller run.heap)) around_back;
          sound = subst IsSound (sym again) (record {
            each = sound.each;
            order = room.order ∙ ap (λ (h : Here). h.limits.heap) is;
            marked = sound.marked;
            opens = subst (All IsOpen) (sym one) (All-push IsOpen front call_after
                (All-pop IsOpen run.frames.items front (Some call) f sound.opens).0
                (record { within = call_open.within; caller = (room.each, room.marked) }));
            within = sound.within;
          });
        }
