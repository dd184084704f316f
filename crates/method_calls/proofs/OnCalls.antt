-- A call or uncall on the object of a variable, in both directions.
use Rattle.std.proofs.Common.{◌≡◌, ℕ, suc, ◌+◌, ◌-◌, ◌*◌, ◌^◌, ◌<◌, ◌≤◌, Bool, true, false, List, [], ◌∷◌, ◌++◌, length}
use Rattle.std.proofs.Common.{map, refl, sym, ap, ◌∙◌, subst, arith}
use Rattle.std.specs.Prelude.{not, nat_lt, slice_index, slice_set, Some}
use Rattle.std.proofs.lemmas.List.{get_or-set_other}
use Rattle.std.proofs.Math.ListN.{length-set}
use Rattle.refine_form.specs.rpp_words.declared.input.TheConstants.{FRAME_WORDS}
use Rattle.refine_form.specs.rpp_tree.declared.tree.Ident.{Ident}
use Rattle.refine_form.specs.rpp_tree.Tree.{Call, Whole, Procedure}
use Rattle.refine_form.specs.class_rules.Classes.{method_named}
use Rattle.refine_form.specs.pisa_isa.Machine.{Memory}
use Rattle.refine_form.specs.pisa_isa.declared.fixed.TheConstants.{END_CELL}
use Rattle.refine_form.specs.code_conventions.declared.registers.TheConstants.{FRAME, VALUE}
use Rattle.refine_form.specs.paired_code.declared.part.Symbol.{Symbol}
use Rattle.refine_form.specs.paired_code.Layout.{bool_xor, enter_at_cells}
use Rattle.refine_form.specs.paired_code.Pieces.{Outcome, Done, Trapped, Will, outcome_after}
use Rattle.refine_form.specs.paired_code.Does.{RunResult, Fine, Fault, plus, told_then, Meets, faults}
use Rattle.refine_form.proofs.paired_code_laws.Laws.{Next, will_more, will_seq, will_seq_back}
use Rattle.refine_form.proofs.paired_code_laws.Does.{Quiet, quiet, then_quiet}
use Rattle.refine_form.specs.roopl_semantics.Run.{Run, ◌>>=◌, after_cost, fault_if}
use Rattle.refine_form.specs.roopl_semantics.Store.{Value, Name, State, is_zero, is_nil, number_of, cleared}
use Rattle.refine_form.specs.roopl_semantics.Value.{Cell, read, written, cell_named, NIL}
use Rattle.refine_form.specs.roopl_semantics.Execution.{Setting, exec, in_direction, invoked, moved_out, moved_back}
use Rattle.refine_form.specs.roopl_semantics.Execution.{bound, cells_named, class_of, is_too_deep, TOO_DEEP, TOUCHED}
use Rattle.refine_form.specs.Form.{World, Scope, pairs, HasOpenFrame, Owes, StmtLaw, registers, run_result, one}
use Rattle.refine_form.specs.Form.{turned_statement}
use Rattle.refine_form.specs.code_conventions.Cells.{addi}
use Rattle.method_calls.specs.CallCode.{depth_code, moves_code, fetch_row, nil_code, take_code, onto_code}
use Rattle.method_calls.specs.CallCode.{front_on_code, call_on_code}
use Rattle.method_calls.specs.Facts.{KnownCalls, FrameFacts, Receivers, ReceiverFacts, HasPlace, ReceiverGoesOn}
use Rattle.method_calls.specs.Facts.{ReturnsReceiver, address}
use Rattle.method_calls.specs.Facts.{ReceiverWord, FindsMethod, callee_on, out_from, vals_from}
use Rattle.refine_form.proofs.Told.{told_after, told_bind, plus_none, plus_plus}
use Rattle.refine_form.proofs.Rules.{wraps_spent, will_around, meets_told, meets_less, meets_later, meets_as, as_known}
use Rattle.refine_form.proofs.Rules.{will_two, will_two_back}
use Rattle.refine_form.proofs.Rows.{here, next, will_row}
use Rattle.method_calls.proofs.Addresses.{less_is}
use Rattle.method_calls.proofs.Moves.{cells_of, AllVariables, AllUp, all_up, all_back, spot_in}
use Rattle.method_calls.proofs.Depth.{depth_passes, depth_traps, will_fetch, will_unfetch}
use Rattle.method_calls.proofs.OwnCalls.{InCall, enters_body}
use Rattle.method_calls.proofs.ApartCells.{out_reads, read_other, moves_out, same_values}
use Rattle.method_calls.specs.Laws.{NotAmong, AllApart}
use Rattle.method_calls.proofs.ReceiverParts.{nil_passes, nil_traps, takes, gives_back, finds_touched, turns_to}
use Rattle.method_calls.proofs.ReceiverParts.{turns_from}
use Rattle.refine_form.specs.paired_code.Rows.{line}
use Rattle.refine_form.proofs.Memories.{mk}

-- values that move back do not change the other cells
stays : (cells : List Cell) (values : List Value) (st end : State) (k : ℕ) (c : Cell) → NotAmong c cells
    → run_result (moved_back cells values st) ≡ Fine end k → read end c ≡ read st c
stays [] values st end k c n e = let q : st ≡ end = cc in ap (λ z. read z c) (sym q)
stays (b ∷ cells) [] st end k c n e = let q : st ≡ end = cc in ap (λ z. read z c) (sym q)
stays (b ∷ cells) (v ∷ values) st end k c n e = by (is_zero (read st b)) refl
    (λ k e. stays cells values (written st b v) end k c n.1 e)
  where
    by : (z : Bool) → is_zero (read st b) ≡ z → ((k : ℕ) → run_result (moved_back cells values (written st b v))
        ≡ Fine end k
        → read end c ≡ read (written st b v) c) → read end c ≡ read st c
    by true z ih =
        let said : run_result (moved_back (b ∷ cells) (v ∷ values) st)
        ≡ run_result (moved_back cells values (written st b v)) =
        ap (λ x. run_result (fault_if TOUCHED (not x) >>= λ t. moved_back cells values (written st b v))) z
        ∙ told_after 0 (moved_back cells values (written st b v))
        ∙ plus_none (run_result (moved_back cells values (written st b v))) in
        ih k (sym said ∙ e) ∙ read_other st b c v (λ q. n.0 (sym q))
    by false z ih =
        let said : run_result (moved_back (b ∷ cells) (v ∷ values) st) ≡ Fault TOUCHED 0 =
        ap (λ x. run_result (fault_if TOUCHED (not x) >>= λ t. moved_back cells values (written st b v))) z in
        let q : Fault TOUCHED 0 ≡ Fine end k = sym said ∙ e in absurd (cc)

-- ---- what the source says of it

module _ (setting : Setting) (n : ℕ) (back : Bool) (at : ℕ) (x name : Ident) (args : List Ident) (st : State) where
  -- the call, once it is known which method, cells and values
  abbrev pub InvokedOn : Procedure → ℕ → Cell → List Cell → State → List Value → Value → RunResult State
  InvokedOn method self c cells caller vals v =
      told_then (run_result (exec setting n (in_direction back method.body)
      (record {
        frame = bound method.params vals;
        self = self;
        depth = 1 + caller.depth;
        store = caller.store;
        log = caller.log;
      })))
      (λ k end. run_result (moved_back (c ∷ cells) (v ∷ map (λ binding. binding.value) end.frame)
      (record caller { store = end.store; log = end.log })))

  abbrev the_cell : Cell
  the_cell = cell_named setting.program st x.text

  abbrev call_run : Run State
  call_run = invoked setting (exec setting n) back (method_named setting.program
      (class_of setting st (number_of (read st the_cell))) name.text) (number_of (read st the_cell)) (the_cell ∷ [])
      (cells_named setting st args) st

  abbrev deep_run : Run State
  deep_run = fault_if TOO_DEEP (is_too_deep setting st) >>= λ z. call_run

  counted : run_result (one setting n (Call at back (Some (Whole x)) name args) st)
      ≡ plus (1 + length args) (run_result (fault_if NIL (is_nil (read st the_cell)) >>= λ z. deep_run))
  counted =
      told_after 1 (after_cost (length args) (fault_if NIL (is_nil (read st the_cell)) >>= λ z. deep_run))
      ∙ ap (plus 1) (told_after (length args) (fault_if NIL (is_nil (read st the_cell)) >>= λ z. deep_run))
      ∙ plus_plus 1 (length args) (run_result (fault_if NIL (is_nil (read st the_cell)) >>= λ z. deep_run))

  zero_more : 1 + length args + 0 ≡ 1 + length args
  zero_more = omega arith

  pub says_nil : is_nil (read st the_cell) ≡ true → run_result
      (one setting n (Call at back (Some (Whole x)) name args) st)
      ≡ Fault NIL (1 + length args)
  says_nil e = counted ∙ ap (λ b. plus (1 + length args) (run_result (fault_if NIL b >>= λ z. deep_run))) e
      ∙ ap (Fault NIL) zero_more

  past_nil : is_nil (read st the_cell) ≡ false → run_result (one setting n (Call at back (Some (Whole x)) name args) st)
      ≡ plus (1 + length args) (run_result deep_run)
  past_nil e = counted ∙ ap (λ b. plus (1 + length args) (run_result (fault_if NIL b >>= λ z. deep_run))) e
      ∙ ap (plus (1 + length args)) (told_after 0 deep_run ∙ plus_none (run_result deep_run))

  pub says_deep : is_nil (read st the_cell) ≡ false → is_too_deep setting st ≡ true
      → run_result (one setting n (Call at back (Some (Whole x)) name args) st) ≡ Fault TOO_DEEP (1 + length args)
  says_deep e d = past_nil e ∙ ap (λ b. plus (1 + length args) (run_result (fault_if TOO_DEEP b >>= λ z. call_run))) d
      ∙ ap (Fault TOO_DEEP) zero_more

  pub says_on : (method : Procedure) (self : ℕ) (c : Cell) (cells : List Cell) (caller : State) (vals : List Value)
      (v : Value) → is_nil (read st the_cell) ≡ false → is_too_deep setting st ≡ false → the_cell ≡ c → read st c ≡ v
      → number_of (read st c) ≡ self → method_named setting.program (class_of setting st (number_of (read st c)))
      name.text ≡ method → cells_named setting st args ≡ cells → moved_out (c ∷ cells) st ≡ caller
      → map (read st) cells ≡ vals → st.depth ≡ caller.depth
      → run_result (one setting n (Call at back (Some (Whole x)) name args) st)
      ≡ plus (1 + length args) (InvokedOn method self c cells caller vals v)
  says_on method self c cells caller vals v e open_yet ec ev es em ecs eo evs ed =
      let Inv : Procedure → ℕ → Cell → List Cell → State → List Value → Value → ℕ
      → Run State = λ method self c cells caller vals v depth.
      exec setting n (in_direction back method.body) (record {
        frame = bound method.params vals;
        self = self;
        depth = 1 + depth;
        store = caller.store;
        log = caller.log;
      })
      >>= λ end. moved_back (c ∷ cells) (v ∷ map (λ binding. binding.value) end.frame)
      (record caller { store = end.store; log = end.log }) in
      let M : Cell → Procedure = λ c. method_named setting.program (class_of setting st (number_of (read st c)))
      name.text in
      past_nil e ∙ ap (plus (1 + length args)) (
      ap (λ b. run_result (fault_if TOO_DEEP b >>= λ z. call_run)) open_yet
      ∙ told_after 0 call_run
      ∙ plus_none (run_result call_run)
      ∙ ap (λ k. run_result (Inv (M k) (number_of (read st k)) k (cells_named setting st args)
      (moved_out (k ∷ cells_named setting st args) st) (map (read st) (cells_named setting st args)) (read st k)
      st.depth)) ec
      ∙ ap (λ m. run_result (Inv m (number_of (read st c)) c (cells_named setting st args)
      (moved_out (c ∷ cells_named setting st args) st) (map (read st) (cells_named setting st args)) (read st c)
      st.depth)) em
      ∙ ap (λ i. run_result (Inv method i c (cells_named setting st args)
      (moved_out (c ∷ cells_named setting st args) st)
      (map (read st) (cells_named setting st args)) (read st c) st.depth)) es
      ∙ ap (λ l. run_result (Inv method self c l (moved_out (c ∷ l) st) (map (read st) l) (read st c) st.depth)) ecs
      ∙ ap (λ z. run_result (Inv method self c cells z (map (read st) cells) (read st c) st.depth)) eo
      ∙ ap (λ l. run_result (Inv method self c cells caller l (read st c) st.depth)) evs
      ∙ ap (λ z. run_result (Inv method self c cells caller vals z st.depth)) ev
      ∙ ap (λ z. run_result (Inv method self c cells caller vals v z)) ed
      ∙ told_bind (exec setting n (in_direction back method.body)
      (record {
        frame = bound method.params vals;
        self = self;
        depth = 1 + caller.depth;
        store = caller.store;
        log = caller.log;
      })) (λ end. moved_back (c ∷ cells) (v ∷ map (λ binding. binding.value) end.frame)
      (record caller { store = end.store; log = end.log }))
      )

-- ---- the fragment

module _ (w : World) (knows : KnownCalls w) (f : FrameFacts w knows) (on : Receivers w) (g : ReceiverFacts w knows on)
    (s : Scope) (x name : Ident) (args : List Ident) (is : on.IsReceiver s x name args) (few : length args ≤ 32)
    (u : w.Under) (vars : AllVariables w knows f s u args)
    (not_arg : NotAmong (knows.cell_of s u x) (cells_of w knows f s u args)) (st : State) (cs : List ℕ)
    (h : w.opens s u [] st cs) where
  abbrev ob : ℕ
  ob = w.object_of u

  abbrev fr : ℕ
  fr = w.frame_of u

  abbrev c : Cell
  c = knows.cell_of s u x

  abbrev sp : package.Rattle.refine_form.specs.declared.spot.Spot.Spot
  sp = knows.spot s x

  abbrev at : ℕ
  at = address ob fr sp

  abbrev up : ℕ
  up = fr + (FRAME_WORDS + 1)

  abbrev slot : ℕ
  slot = on.slot_on s x name

  abbrev cells : List Cell
  cells = cells_of w knows f s u args

  abbrev moved_st : State
  moved_st = out_from cells st

  abbrev caller : State
  caller = out_from (c ∷ cells) st

  abbrev vals : List Value
  vals = vals_from cells st

  abbrev n_of : ℕ
  n_of = number_of (read st c)

  abbrev deep : w.Under
  deep = on.deeper_on s u caller n_of

  abbrev r : ℕ
  r = knows.routine (knows.class_of deep) name

  abbrev place : ℕ
  place = w.routines.top r + 1

  abbrev callee : State
  callee = record {
    frame = bound (w.routines.method r).params vals;
    self = n_of;
    depth = 1 + moved_st.depth;
    store = caller.store;
    log = moved_st.log;
  }

  abbrev is_full : Bool
  is_full = not (nat_lt (knows.depth_of u) w.setting.limits.deep)

  peeked : ReceiverWord w knows s u st cs x
  peeked = g.words.word s u st cs x name args h is

  frame_small : fr < 2 ^ 23
  frame_small = (f.steady s u [] st cs h).frame_small

  object_small : ob < 2 ^ 23
  object_small = (f.steady s u [] st cs h).object_small

  low : at < 2 ^ 32
  low = spot_in w knows f s u sp (f.near s x (g.words.is_variable s x name args is)) object_small frame_small

  end_fits : (st : State) (cs : List ℕ) → w.opens s u [] st cs → (b : Bool) → is_full ≡ b
      → fr + FRAME_WORDS ≤ slice_index cs END_CELL
  end_fits st cs h true e = let t = (f.has_end s u st cs h).at_end e in omega arith
  end_fits st cs h false e = let t = (f.has_end s u st cs h).room e in omega arith

  long_vals : (cells : List Cell) → length (vals_from cells st) ≡ length cells
  long_vals [] = refl
  long_vals (b ∷ cells) = ap suc (long_vals cells)

  as_many_cells : (names : List Ident) → length (cells_of w knows f s u names) ≡ length names
  as_many_cells [] = refl
  as_many_cells (y ∷ names) = ap suc (as_many_cells names)

  module _ (there : is_nil (read st c) ≡ false) (room : is_full ≡ false) where
    finds : FindsMethod w knows on s st x n_of (callee_on w knows on s u caller n_of name)
    finds = g.calls.dispatches s u st caller cs x name args h is there refl

    known_routine : r < w.routines.count
    known_routine = finds.runs.is_routine

    suits : on.IsFor s x (knows.class_of deep)
    suits = finds.suits

    place_small : place < 2 ^ 32
    place_small = let t = (f.image.placed r known_routine).small in omega arith

    moved : AllUp w knows f s u args st cs
    moved = all_up w knows f s u args vars few room st cs h

    same_read : read moved_st c ≡ read st c
    same_read = out_reads cells c st not_arg

    goes : ReceiverGoesOn moved.cells at up ob (w.object_of deep) (w.opens (w.routines.scope r) deep [] callee)
    goes = g.calls.enters s u vals moved_st moved.cells x name args n_of moved.up is
        (long_vals cells ∙ as_many_cells args) room (ap is_nil same_read ∙ there) (ap number_of same_read)

    abbrev in_cells : List ℕ
    in_cells = slice_set (slice_set moved.cells at 0) up ob

    entered : w.opens (w.routines.scope r) deep [] callee in_cells
    entered = goes.moved

    rw_small : w.object_of deep < 2 ^ 23
    rw_small = (f.steady (w.routines.scope r) deep [] callee in_cells entered).object_small

    has_place : HasPlace in_cells (w.object_of deep) slot place
    has_place = (g.calls.tells s u caller callee in_cells x name args n_of entered is suits).has_place

    fetched : (cs2 : List ℕ) → HasPlace cs2 (w.object_of deep) slot place
        → Will w.im (line (fetch_row slot)) false (mk 0 (w.object_of deep) (fr + FRAME_WORDS) 0 0 0 0 0 cs2)
        (λ o. o ≡ Done (mk 0 (w.object_of deep) (fr + FRAME_WORDS) 0 0 0 0 place cs2) 7)
    fetched cs2 p = will_fetch w.im (w.object_of deep) (fr + FRAME_WORDS) slot place cs2 p.object_in p.small
        (g.calls.slot_small s x name args is) p.entry_in p.apart p.entry place_small

    unfetched : (cs2 : List ℕ) → HasPlace cs2 (w.object_of deep) slot place
        → Will w.im (line (fetch_row slot)) true (mk 0 (w.object_of deep) (fr + FRAME_WORDS) 0 0 0 0 place cs2)
        (λ o. o ≡ Done (mk 0 (w.object_of deep) (fr + FRAME_WORDS) 0 0 0 0 0 cs2) 7)
    unfetched cs2 p = will_unfetch w.im (w.object_of deep) (fr + FRAME_WORDS) slot place cs2 p.object_in p.small
        (g.calls.slot_small s x name args is) p.entry_in p.apart p.entry place_small

    front_in : Will w.im (front_on_code (knows.spot s) x slot args) false (mk 0 ob fr 0 0 0 0 0 cs)
        (λ o. o ≡ Done (mk 0 (w.object_of deep) (fr + FRAME_WORDS) 0 0 0 0 place in_cells)
        (6 + (8 + (8 * length args + (5 + (5 + 8))))))
    front_in =
        let e = f.has_end s u st cs h in
        let cs1 = moved.cells in
        let gone = slice_set cs1 at 0 in
        let word = w.object_of deep in
        let take : Will w.im (take_code sp) false (mk 0 ob fr 0 0 0 0 0 cs1)
        (λ o. o ≡ Done (mk 0 ob fr 0 0 word 0 0 gone) 5) =
        will_more w.im _ false _ _ _ (λ o q. q ∙ ap (λ v. Done (mk 0 ob fr 0 0 v 0 0 gone) 5) goes.word_is)
        (takes w.im ob fr sp cs1 goes.words.at_in low) in
        let empty : slice_index gone up ≡ 0 = get_or-set_other cs1 at up 0 0 (λ q. goes.words.apart (sym q))
        ∙ goes.empty in
        let onto = turns_to w.im ob fr word gone (let l = goes.words.up_in in omega (arith, length-set cs1 at 0))
        (omega (arith, object_small)) frame_small (omega (arith, rw_small)) empty in
        let raise : Will w.im (line (addi FRAME FRAME_WORDS ∷ [])) false (mk 0 word fr 0 0 0 0 0 in_cells)
        (λ o. o ≡ Done (mk 0 word (fr + FRAME_WORDS) 0 0 0 0 0 in_cells) 1) =
        will_row w.im false (addi FRAME FRAME_WORDS ∷ []) 1 _ _ (next refl (omega arith)
        (ap (λ v. Done (mk 0 word v 0 0 0 0 0 in_cells) 1)
        (let z : package.Rattle.refine_form.specs.rpp_words.Words.sum_of fr FRAME_WORDS
        ≡ fr + FRAME_WORDS = (let t = frame_small in omega arith) in z)) here) in
        will_two w.im (nil_code sp) _ _ _ 6 _ (nil_passes w.im ob fr sp cs peeked.at_in low peeked.small false
        (peeked.name_word there))
        (will_two w.im depth_code _ _ _ 8 _ (depth_passes w.im ob fr cs e.cell_in e.small (end_fits st cs h false room)
        false (e.room room))
        (will_two w.im (moves_code (knows.spot s) args) _ _ _ (8 * length args) _ moved.goes
        (will_two w.im (take_code sp) _ _ _ 5 _ take
        (will_two w.im onto_code _ _ _ 5 _ onto
        (will_two w.im (line (addi FRAME FRAME_WORDS ∷ [])) (line (fetch_row slot)) _ _ 1 _ raise
        (will_more w.im (line (fetch_row slot)) false _ _ _
        (λ o q. ap (λ o. outcome_after 6 (outcome_after 8 (outcome_after (8 * length args)
        (outcome_after 5 (outcome_after 5 (outcome_after 1 o)))))) q)
        (fetched in_cells has_place)))))))

    -- what the source says when the body has ended
    abbrev home : State → State
    home end = record caller { store = end.store; log = end.log }

    abbrev values : State → List Value
    values end = map (λ binding. binding.value) end.frame

    abbrev moves_home : State → RunResult State
    moves_home end = run_result (moved_back (c ∷ cells) (Name n_of ∷ values end) (home end))

    -- the receiver is there again
    record Home (a : State) (m : Memory) : Type 0 where
      opened_again : HasOpenFrame w s u a m
      receiver : read a c ≡ Name n_of

    abbrev last_row : List Symbol
    last_row = line (addi FRAME FRAME_WORDS ∷ fetch_row slot)

    abbrev out_cells : List ℕ → List ℕ
    out_cells cs2 = slice_set cs2 up 0

    module _ (n : ℕ) (end : State) (cs2 : List ℕ) (o : w.opens (w.routines.scope r) deep [] end cs2) where
      abbrev m0 : Memory
      m0 = mk 0 (w.object_of deep) (fr + FRAME_WORDS) 0 0 0 0 place cs2

      comes : ReturnsReceiver cs2 at up ob (w.object_of deep) (is_zero (read (home end) c))
          (w.opens s u (pairs args (values end)) (written (home end) c (Name n_of)))
      comes = g.calls.leaves s u moved_st caller end cs2 x name args n_of (pairs args vals) moved.cells moved.up refl o
          is suits

      still_in : at < length (out_cells cs2)
      still_in = let l = comes.words.at_in in omega (arith, length-set cs2 up 0)

      same_word : slice_index (out_cells cs2) at ≡ slice_index cs2 at
      same_word = get_or-set_other cs2 up at 0 0 comes.words.apart

      -- the place, the frame and OBJECT
      lowered : Will w.im (onto_code ++ last_row) true m0 (λ q. q
          ≡ Done (mk 0 ob fr 0 0 (w.object_of deep) 0 0 (out_cells cs2)) 13)
      lowered =
          let word = w.object_of deep in
          let p = (g.calls.tells s u caller end cs2 x name args n_of o is suits).has_place in
          let down : Will w.im (line (addi FRAME FRAME_WORDS ∷ [])) true (mk 0 word (fr + FRAME_WORDS) 0 0 0 0 0 cs2)
          (λ q. q ≡ Done (mk 0 word fr 0 0 0 0 0 cs2) 1) =
          will_row w.im true (addi FRAME FRAME_WORDS ∷ []) 1 _ _ (next refl (omega arith)
          (ap (λ v. Done (mk 0 word v 0 0 0 0 0 cs2) 1) (less_is (fr + FRAME_WORDS) FRAME_WORDS fr refl
          (let t = frame_small in omega arith))) here) in
          let both : Will w.im last_row true m0 (λ q. q ≡ Done (mk 0 word fr 0 0 0 0 0 cs2) 8) =
          will_two_back w.im (line (addi FRAME FRAME_WORDS ∷ [])) (line (fetch_row slot)) _ _ 7 _ (unfetched cs2 p)
          (will_more w.im _ true _ _ _ (λ o q. ap (outcome_after 7) q) down) in
          will_two_back w.im onto_code last_row m0 (mk 0 word fr 0 0 0 0 0 cs2) 8 _ both
          (will_more w.im _ true _ _ _ (λ o q. ap (outcome_after 8) q)
          (turns_from w.im ob fr word cs2 comes.words.up_in (let t = object_small in omega arith) frame_small
          (let t = rw_small in omega arith) comes.saved))

      abbrev Moved : Outcome → Type 0
      Moved q = Meets Home w.rates n (18 + 8 * length args) (moves_home end) q

      arguments : (b : Bool) → is_zero (read (home end) c) ≡ b
          → Will w.im (moves_code (knows.spot s) args ++ (take_code sp ++ (onto_code ++ last_row))) true m0 Moved
      arguments true z =
          let word = w.object_of deep in
          let cs3 = slice_set (out_cells cs2) at word in
          let home1 = written (home end) c (Name n_of) in
          let opens1 : w.opens s u (pairs args (values end)) home1 cs3 = comes.back z in
          let said : moves_home end ≡ run_result (moved_back cells (values end) home1) =
          ap (λ b. run_result (fault_if TOUCHED (not b) >>= λ t. moved_back cells (values end) home1)) z
          ∙ told_after 0 (moved_back cells (values end) home1)
          ∙ plus_none (run_result (moved_back cells (values end) home1)) in
          let taken : Will w.im (take_code sp ++ (onto_code ++ last_row)) true m0
          (λ q. q ≡ Done (mk 0 ob fr 0 0 0 0 0 cs3) 18) =
          will_two_back w.im (take_code sp) (onto_code ++ last_row) m0 (mk 0 ob fr 0 0 word 0 0 (out_cells cs2)) 13 _
          lowered
          (will_more w.im _ true _ _ _ (λ o q. ap (outcome_after 13) q)
          (gives_back w.im ob fr sp (out_cells cs2) still_in low word (same_word ∙ comes.cell.untouched z))) in
          let many = (g.calls.tells s u caller end cs2 x name args n_of o is suits).as_many in
          let there_again = g.words.is_there s u (pairs args (values end)) (home end) (Name n_of) cs3 x name args opens1
          is in
          will_two_back w.im (moves_code (knows.spot s) args) (take_code sp ++ (onto_code ++ last_row)) m0
          (mk 0 ob fr 0 0 0 0 0 cs3) 18 Moved taken
          (will_more w.im _ true _ _ _ (λ o q. meets_told _ _ (sym said)
          (meets_later 18 (meets_as (λ a m k e i. record
          { opened_again = i; receiver = stays cells (values end) home1 a k c not_arg e ∙ there_again })
          q)))
          (all_back w knows f s u n args vars (values end) home1 cs3 many few opens1))
      arguments false z =
          let word = w.object_of deep in
          let home1 = written (home end) c (Name n_of) in
          let said : moves_home end ≡ Fault TOUCHED 0 = ap (λ b. run_result
          (fault_if TOUCHED (not b) >>= λ t. moved_back cells (values end) home1)) z in
          let found = finds_touched w.im ob fr sp (out_cells cs2) still_in low word
          (λ e. comes.cell.touched z (sym same_word ∙ e)) in
          let taken : Will w.im (take_code sp ++ (onto_code ++ last_row)) true m0
          (λ q. (k : ℕ) × (k ≤ 18) × (q ≡ Trapped TOUCHED k)) =
          will_two_back w.im (take_code sp) (onto_code ++ last_row) m0 (mk 0 ob fr 0 0 word 0 0 (out_cells cs2)) 13 _
          lowered
          (will_more w.im _ true _ _ _ (λ o t. (13 + t.0, (let l = t.1 in omega arith), ap (outcome_after 13) t.2))
          found) in
          let W : Memory → ℕ → Type 0 = λ m1 k. Will w.im (moves_code (knows.spot s) args) true m1
          (λ o. Moved (outcome_after k o)) in
          will_seq_back w.im (moves_code (knows.spot s) args) (take_code sp ++ (onto_code ++ last_row)) m0 Moved
          (will_more w.im _ true _ _ _ (λ o t. subst (Next W Moved) (sym t.2)
          (meets_told (Fault TOUCHED 0) _ (sym said) (faults (let l = t.1 in omega arith)))) taken)

      front_back : Will w.im (front_on_code (knows.spot s) x slot args) true m0
          (Meets (HasOpenFrame w s u) w.rates n (18 + 8 * length args + 8 + 6) (moves_home end))
      front_back =
          let rest1 = moves_code (knows.spot s) args ++ (take_code sp ++ (onto_code ++ last_row)) in
          let inner = then_quiet w.im true Home Home w.rates n 8 (18 + 8 * length args) rest1 depth_code m0
          (moves_home end) (arguments (is_zero (read (home end) c)) refl) (λ a m i. deep_ok a m i) in
          then_quiet w.im true Home (HasOpenFrame w s u) w.rates n 6 (18 + 8 * length args + 8) (depth_code ++ rest1)
          (nil_code sp) m0 (moves_home end) inner (λ a m i. nil_ok a m i)
        where
          deep_ok : (a : State) (m : Memory) → Home a m → Will w.im depth_code true m (Quiet (Home a) 8)
          deep_ok a m i =
              let e = f.has_end s u a m.cells i.opened_again.open_frame in
              subst (λ z. Will w.im depth_code true z (Quiet (Home a) 8)) (sym (as_known m _ i.opened_again.regs_are))
              (will_more w.im depth_code true _ _ _ (λ o q. subst (Quiet (Home a) 8) (sym q)
              (quiet (record {
                opened_again = record {
                  regs_are = refl;
                  open_frame = i.opened_again.open_frame;
                };
                receiver = i.receiver;
              }) (omega arith)))
              (depth_passes w.im ob fr m.cells e.cell_in e.small
              (end_fits a m.cells i.opened_again.open_frame false room) true (e.room room)))

          nil_ok : (a : State) (m : Memory) → Home a m → Will w.im (nil_code sp) true m (Quiet (HasOpenFrame w s u a) 6)
          nil_ok a m i =
              let oa = i.opened_again.open_frame in
              let again = g.words.word s u a m.cells x name args oa is in
              let pos = again.name_word (ap is_nil i.receiver) in
              subst (λ z. Will w.im (nil_code sp) true z (Quiet (HasOpenFrame w s u a) 6))
              (sym (as_known m _ i.opened_again.regs_are))
              (will_more w.im (nil_code sp) true _ _ _ (λ o q. subst (Quiet (HasOpenFrame w s u a) 6) (sym q)
              (quiet (record { regs_are = refl; open_frame = oa }) (omega arith)))
              (nil_passes w.im ob fr sp m.cells again.at_in low again.small true pos))

    called : (n : ℕ) → Owes w (suc n) → (kind d : Bool) → Will w.im (call_on_code (knows.spot s) kind x slot args) d
        (mk 0 ob fr 0 0 0 0 0 cs) (Meets (HasOpenFrame w s u) w.rates (n + (1 + length args)) 0
        (plus (1 + length args) (told_then (run_result (exec w.setting n
        (in_direction (bool_xor kind d) (w.routines.method r).body) callee)) (λ k end. moves_home end))))
    called n owes kind d =
        let t = run_result (exec w.setting n (in_direction (bool_xor kind d) (w.routines.method r).body) callee) in
        let nf = (g.calls.next s u caller n_of).above in
        let body = enters_body w (w.routines.scope r) deep place r n (f.image.placed r known_routine) f.image.tidy refl
        (owes n (omega arith) r known_routine) (g.calls.next s u caller n_of).fresh kind d callee in_cells entered in
        let mid : Will w.im (enter_at_cells VALUE kind) d (mk 0 (w.object_of deep) (fr + FRAME_WORDS) 0 0 0 0 place
        in_cells)
        (Meets (InCall w (w.routines.scope r) deep place) w.rates n 55 t) =
        subst (λ y. Will w.im (enter_at_cells VALUE kind) d (mk 0 (w.object_of deep) y 0 0 0 0 place in_cells)
        (Meets (InCall w (w.routines.scope r) deep place) w.rates n 55 t)) nf body in
        wraps_spent w.im d (front_on_code (knows.spot s) x slot args) (enter_at_cells VALUE kind) _ _
        (InCall w (w.routines.scope r) deep place) (HasOpenFrame w s u) w.rates n 55 (18 + 8 * length args + 8 + 6)
        (6 + (8 + (8 * length args + (5 + (5 + 8))))) (1 + length args) 0 t moves_home
        f.image.counts (omega arith) (enough w.rates.steps (length args) f.image.thousand few) front_in mid
        (λ a m2 k e i.
        let known = as_known m2 _ (i.regs_are ∙ ap (λ y. registers 0 (w.object_of deep) y 0 0 0 0 place) nf) in
        subst (λ z. Will w.im (front_on_code (knows.spot s) x slot args) true z
        (Meets (HasOpenFrame w s u) w.rates (n - k) (18 + 8 * length args + 8 + 6) (moves_home a))) (sym known)
        (front_back (n - k) a m2.cells i.open_frame))
      where
        enough : (steps k : ℕ) → steps ≡ 1000 → k ≤ 32 → 6 + (8 + (8 * k + (5 + (5 + 8)))) +
            (55 + (18 + 8 * k + 8 + 6)) ≤ steps * (1 + k) + 0
        enough steps k e few = let z : steps * (1 + k) ≡ 1000 * (1 + k) = ap (λ y. y * (1 + k)) e in omega (arith, z)

  -- a trap before anything has moved
  early : (n code : ℕ) (kind d : Bool) → Will w.im (front_on_code (knows.spot s) x slot args) false
      (mk 0 ob fr 0 0 0 0 0 cs) (λ o. (k : ℕ) × (k ≤ 40) × (o ≡ Trapped code k))
      → Will w.im (call_on_code (knows.spot s) kind x slot args) d (mk 0 ob fr 0 0 0 0 0 cs)
      (Meets (HasOpenFrame w s u) w.rates (suc n) 0 (Fault code (1 + length args)))
  early n code kind d t =
      let Q : Outcome → Type 0 = Meets (HasOpenFrame w s u) w.rates (suc n) 0 (Fault code (1 + length args)) in
      let W : Memory → ℕ → Type 0 = λ m1 k1. Will w.im (enter_at_cells VALUE kind) d m1
      (Next (λ m2 k2. Will w.im (front_on_code (knows.spot s) x slot args) true m2
      (λ o. Q (outcome_after k1 (outcome_after k2 o))))
      (λ o. Q (outcome_after k1 o))) in
      will_around w.im d (front_on_code (knows.spot s) x slot args) (enter_at_cells VALUE kind) _ Q
      (will_more w.im _ false _ _ _ (λ o q. subst (Next W Q) (sym q.2)
      (faults (few_steps w.rates.steps (length args) q.0 f.image.thousand q.1))) t)
    where
      few_steps : (steps k j : ℕ) → steps ≡ 1000 → j ≤ 40 → j ≤ steps * (1 + k) + 0
      few_steps steps k j e l = let z : steps * (1 + k) ≡ 1000 * (1 + k) = ap (λ y. y * (1 + k)) e in omega (arith, z)

  trap_first : (p q : List Symbol) (m : Memory) (code K : ℕ)
      → Will w.im p false m (λ o. (k : ℕ) × (k ≤ K) × (o ≡ Trapped code k))
      → Will w.im (p ++ q) false m (λ o. (k : ℕ) × (k ≤ K) × (o ≡ Trapped code k))
  trap_first p q m code K t =
      let Q : Outcome → Type 0 = λ o. (k : ℕ) × (k ≤ K) × (o ≡ Trapped code k) in
      let W : Memory → ℕ → Type 0 = λ m1 k. Will w.im q false m1 (λ o. Q (outcome_after k o)) in
      will_seq w.im p q m Q (will_more w.im p false m _ _ (λ o y. subst (Next W Q) (sym y.2) (y.0, y.1, refl)) t)

  on_nil : (n : ℕ) (kind d : Bool) → is_nil (read st c) ≡ true
      → Will w.im (call_on_code (knows.spot s) kind x slot args) d (mk 0 ob fr 0 0 0 0 0 cs)
      (Meets (HasOpenFrame w s u) w.rates (suc n) 0 (Fault NIL (1 + length args)))
  on_nil n kind d z =
      early n 5 kind d (will_more w.im _ false _ _ _ (λ o q. (q.0, (let l = q.1 in omega arith), q.2))
      (trap_first (nil_code sp) _ _ 5 3 (nil_traps w.im ob fr sp cs peeked.at_in low peeked.small
      (peeked.nil_word z))))

  too_deep : (n : ℕ) (kind d : Bool) → is_nil (read st c) ≡ false → is_full ≡ true
      → Will w.im (call_on_code (knows.spot s) kind x slot args) d (mk 0 ob fr 0 0 0 0 0 cs)
      (Meets (HasOpenFrame w s u) w.rates (suc n) 0 (Fault TOO_DEEP (1 + length args)))
  too_deep n kind d there e =
      let he = f.has_end s u st cs h in
      early n 14 kind d (will_two w.im (nil_code sp) _ _ _ 6 _
      (nil_passes w.im ob fr sp cs peeked.at_in low peeked.small false (peeked.name_word there))
      (will_more w.im _ false _ _ _ (λ o q. (6 + q.0, (let l = q.1 in omega arith), ap (outcome_after 6) q.2))
      (trap_first depth_code _ _ 14 4 (depth_traps w.im ob fr cs he.cell_in he.small (end_fits st cs h true e)
      (he.at_end e)))))

-- ---- the law

turned_on : (d back : Bool) (at : ℕ) (x name : Ident) (args : List Ident)
    → turned_statement d (Call at back (Some (Whole x)) name args)
    ≡ Call at (bool_xor d back) (Some (Whole x)) name args
turned_on false back at x name args = refl
turned_on true back at x name args = refl

same_way : (d back : Bool) → bool_xor back d ≡ bool_xor d back
same_way false false = refl
same_way false true = refl
same_way true false = refl
same_way true true = refl

module _ (w : World) (knows : KnownCalls w) (f : FrameFacts w knows) (on : Receivers w) (g : ReceiverFacts w knows on)
    (s : Scope) (at : ℕ) (back : Bool) (x name : Ident) (args : List Ident) (is : on.IsReceiver s x name args)
    (few : length args ≤ 32) (vars : (u : w.Under) → AllVariables w knows f s u args)
    (apart : (u : w.Under) (st : State) (cells : List ℕ) → w.opens s u [] st cells
    → AllApart (knows.cell_of s u x ∷ cells_of w knows f s u args)) where
  named : (u : w.Under) (st : State) (cs : List ℕ) (names : List Ident) → w.opens s u [] st cs
      → AllVariables w knows f s u names → cells_named w.setting st names ≡ cells_of w knows f s u names
  named u st cs [] h all = refl
  named u st cs (y ∷ names) h all = ap (λ c. c ∷ cells_named w.setting st names)
      ((f.steady s u [] st cs h).means y all.0)
      ∙ ap (λ l. knows.cell_of s u y ∷ l) (named u st cs names h all.1)

  abbrev Goal : ℕ → Bool → (u : w.Under) → State → Memory → Type 0
  Goal n d u st m = Will w.im (call_on_code (knows.spot s) back x (on.slot_on s x name) args) d m
      (Meets (HasOpenFrame w s u) w.rates (suc n) 0 (run_result
      (one w.setting n (turned_statement d (Call at back (Some (Whole x)) name args))
      st)))

  law_by : (n : ℕ) → Owes w (suc n) → (d : Bool) (u : w.Under) (st : State) (m : Memory) → HasOpenFrame w s u st m
      → (z b : Bool) → is_nil (read st (knows.cell_of s u x)) ≡ z
      → not (nat_lt (knows.depth_of u) w.setting.limits.deep) ≡ b → Goal n d u st m
  law_by n owes d u st m h true b ez e =
      let mean = (f.steady s u [] st m.cells h.open_frame).means x (g.words.is_variable s x name args is) in
      let said = ap (λ z. run_result (one w.setting n z st)) (turned_on d back at x name args)
      ∙ says_nil w.setting n (bool_xor d back) at x name args st (ap (λ k. is_nil (read st k)) mean ∙ ez) in
      subst (λ z. Goal n d u st z) (sym (as_known m _ h.regs_are))
      (will_more w.im _ d _ _ _ (λ o q. meets_told _ _ (sym said) q)
      (on_nil w knows f on g s x name args is few u (vars u) (apart u st m.cells h.open_frame).0 st m.cells
      h.open_frame n back d ez))
  law_by n owes d u st m h false true ez e =
      let mean = (f.steady s u [] st m.cells h.open_frame).means x (g.words.is_variable s x name args is) in
      let deep : is_too_deep w.setting st ≡ true = ap (λ k. not (nat_lt k w.setting.limits.deep))
      (f.steady s u [] st m.cells h.open_frame).depth_is ∙ e in
      let said = ap (λ z. run_result (one w.setting n z st)) (turned_on d back at x name args)
      ∙ says_deep w.setting n (bool_xor d back) at x name args st (ap (λ k. is_nil (read st k)) mean ∙ ez) deep in
      subst (λ z. Goal n d u st z) (sym (as_known m _ h.regs_are))
      (will_more w.im _ d _ _ _ (λ o q. meets_told _ _ (sym said) q)
      (too_deep w knows f on g s x name args is few u (vars u) (apart u st m.cells h.open_frame).0 st m.cells
      h.open_frame n back d ez e))
  law_by n owes d u st m h false false ez e =
      let c = knows.cell_of s u x in
      let cells = cells_of w knows f s u args in
      let n_of = number_of (read st c) in
      let caller = out_from (c ∷ cells) st in
      let vals = vals_from cells st in
      let deep = on.deeper_on s u caller n_of in
      let method = w.routines.method (knows.routine (knows.class_of deep) name) in
      let mean = (f.steady s u [] st m.cells h.open_frame).means x (g.words.is_variable s x name args is) in
      let moving : AllUp w knows f s u args st m.cells = moved w knows f on g s x name args is few u (vars u)
      (apart u st m.cells h.open_frame).0 st m.cells h.open_frame ez e in
      let depth = (f.steady s u [] st m.cells h.open_frame).depth_is in
      let open_yet : is_too_deep w.setting st ≡ false = ap (λ k. not (nat_lt k w.setting.limits.deep)) depth ∙ e in
      let em = ap (λ k. method_named w.setting.program k name.text)
      (g.calls.dispatches s u st caller m.cells x name args h.open_frame is ez refl).class_is
      ∙ (g.calls.dispatches s u st caller m.cells x name args h.open_frame is ez refl).runs.is_method in
      let ed : st.depth ≡ caller.depth = depth
      ∙ sym (f.steady s u (pairs args vals) (out_from cells st) moving.cells moving.up).depth_is
      ∙ same_depth c (out_from cells st) (cleared (read (out_from cells st) c)) in
      let said = ap (λ z. run_result (one w.setting n z st)) (turned_on d back at x name args)
      ∙ ap (λ z. run_result (one w.setting n (Call at z (Some (Whole x)) name args) st)) (sym (same_way d back))
      ∙ says_on w.setting n (bool_xor back d) at x name args st method n_of c cells caller vals (Name n_of)
      (ap (λ k. is_nil (read st k)) mean ∙ ez) open_yet mean
      ((g.words.word s u st m.cells x name args h.open_frame is).is_name ez) refl em
      (named u st m.cells args h.open_frame (vars u)) (moves_out (c ∷ cells) st (apart u st m.cells h.open_frame))
      (same_values cells st (apart u st m.cells h.open_frame).1) ed in
      let ec : caller.depth ≡ (out_from cells st).depth = sym
      (same_depth c (out_from cells st) (cleared (read (out_from cells st) c))) in
      let el : caller.log ≡ (out_from cells st).log = same_log c (out_from cells st)
      (cleared (read (out_from cells st) c)) in
      let run : ℕ → package.Rattle.refine_form.specs.buddy_book.Place.Log
      → RunResult State = λ deepness log. plus (1 + length args)
      (told_then (run_result (exec w.setting n (in_direction (bool_xor back d) method.body)
      (record {
        frame = bound method.params vals;
        self = n_of;
        depth = 1 + deepness;
        store = caller.store;
        log = log;
      }))) (λ k end. run_result (moved_back (c ∷ cells)
      (Name n_of ∷ map (λ binding. binding.value) end.frame)
      (record caller { store = end.store; log = end.log })))) in
      subst (λ z. Goal n d u st z) (sym (as_known m _ h.regs_are))
      (will_more w.im _ d _ _ _ (λ o q. meets_told _ _ (sym
      (said ∙ ap (λ k. run k caller.log) ec ∙ ap (λ k. run (out_from cells st).depth k) el))
      (meets_less (suc n) (omega arith) q)) (called w knows f on g s x name args is few u (vars u)
      (apart u st m.cells h.open_frame).0 st m.cells h.open_frame ez e n owes back d))
    where
      same_depth : (c : Cell) (st : State) (v : Value) → st.depth ≡ (written st c v).depth
      same_depth (package.Rattle.refine_form.specs.roopl_semantics.Value.Slot i) st v = refl
      same_depth (package.Rattle.refine_form.specs.roopl_semantics.Value.Part k i) st v = refl

      same_log : (c : Cell) (st : State) (v : Value) → (written st c v).log ≡ st.log
      same_log (package.Rattle.refine_form.specs.roopl_semantics.Value.Slot i) st v = refl
      same_log (package.Rattle.refine_form.specs.roopl_semantics.Value.Part k i) st v = refl

  -- the code of a call on the object of a variable
  pub call_on_law : StmtLaw w s (Call at back (Some (Whole x)) name args)
      (call_on_code (knows.spot s) back x (on.slot_on s x name) args)
  call_on_law n owes d u = record {
    does = λ st m h. law_by n owes d u st m h (is_nil (read st (knows.cell_of s u x)))
        (not (nat_lt (knows.depth_of u) w.setting.limits.deep)) refl refl;
  }
