-- A call or uncall on the current object, in both directions.
use Rattle.std.proofs.Common.{◌≡◌, ℕ, suc, ◌+◌, ◌-◌, ◌*◌, ◌^◌, ◌<◌, ◌≤◌, Bool, true, false, List, [], ◌∷◌, ◌++◌, length}
use Rattle.std.proofs.Common.{map, refl, sym, ap, ◌∙◌, subst, arith}
use Rattle.std.specs.Prelude.{not, nat_lt, slice_index, None}
use Rattle.refine_form.specs.rpp_words.declared.input.TheConstants.{FRAME_WORDS}
use Rattle.refine_form.specs.rpp_tree.declared.tree.Ident.{Ident}
use Rattle.refine_form.specs.rpp_tree.Tree.{Call, Procedure}
use Rattle.refine_form.specs.class_rules.Classes.{method_named}
use Rattle.refine_form.specs.pisa_isa.Machine.{Memory}
use Rattle.refine_form.specs.pisa_isa.declared.fixed.TheConstants.{END_CELL}
use Rattle.refine_form.specs.code_conventions.declared.registers.TheConstants.{FRAME, LINK, VALUE}
use Rattle.refine_form.specs.paired_code.Machine.{memory_reg, memory_with_reg}
use Rattle.refine_form.specs.paired_code.Layout.{bool_xor, Routine, Tidy, enter_at_cells}
use Rattle.refine_form.specs.paired_code.Pieces.{Outcome, Done, Trapped, Will, outcome_after}
use Rattle.refine_form.specs.paired_code.Does.{RunResult, Fault, plus, told_then, Meets, fine, faults, more}
use Rattle.refine_form.proofs.paired_code_laws.Laws.{Next, will_more, will_seq}
use Rattle.refine_form.proofs.paired_code_laws.EnterAt.{Returns_at, will_enter_at}
use Rattle.refine_form.proofs.paired_code_laws.Does.{Quiet, quiet, then_quiet}
use Rattle.refine_form.specs.roopl_semantics.Run.{Run, ◌>>=◌, after_cost, fault_if}
use Rattle.refine_form.specs.roopl_semantics.Store.{Value, State}
use Rattle.refine_form.specs.roopl_semantics.Value.{Cell, read, own_class}
use Rattle.refine_form.specs.roopl_semantics.Execution.{Setting, exec, in_direction, invoked, moved_out, moved_back}
use Rattle.refine_form.specs.roopl_semantics.Execution.{bound, cells_named, is_too_deep, TOO_DEEP}
use Rattle.refine_form.specs.Form.{World, Scope, pairs, HasOpenFrame, Entered, Owes, StmtLaw, RunsBody, registers}
use Rattle.refine_form.specs.Form.{run_result, one}
use Rattle.refine_form.specs.Form.{turned_statement}
use Rattle.refine_form.specs.code_conventions.Cells.{addi}
use Rattle.method_calls.specs.CallCode.{depth_code, moves_code, fetch_row, front_code, call_code}
use Rattle.method_calls.specs.Facts.{KnownCalls, FrameFacts, HasPlace, out_from, vals_from}
use Rattle.refine_form.proofs.Told.{told_after, told_bind, plus_none, plus_plus}
use Rattle.refine_form.proofs.Rules.{wraps_spent, will_around, meets_told, meets_slack, meets_less, meets_later}
use Rattle.refine_form.proofs.Rules.{as_known, will_two, will_two_back}
use Rattle.refine_form.proofs.Rows.{here, next, will_row}
use Rattle.method_calls.proofs.Addresses.{less_is}
use Rattle.method_calls.proofs.Moves.{cells_of, AllVariables, AllUp, all_up, all_back}
use Rattle.method_calls.proofs.Depth.{depth_passes, depth_traps, will_fetch, will_unfetch}
use Rattle.refine_form.specs.paired_code.Rows.{line}
use Rattle.refine_form.proofs.Memories.{mk}

-- ---- a routine by its place: its body as it is met from the call

module _ (w : World) (s : Scope) (u : w.Under) (place : ℕ) where
  -- in the call, around the body: $2 is 0, and the code address is in its register
  pub record InCall (st : State) (m : Memory) : Type 0 where
    pub regs_are : m.regs ≡ registers 0 (w.object_of u) (w.frame_of u) 0 0 0 0 place
    pub open_frame : w.opens s u [] st m.cells

  returns : {n : ℕ} {t : RunResult State} {o : Outcome} (link : ℕ) → Meets (Entered w s u link place) w.rates n 40 t o
      → Returns_at 12 place link (Meets InCall w.rates n 55 t) o
  returns link (fine {a = a} {m = m} {c = c} {k = k} r l x) =
      let known = as_known m _ r.regs_are in (
        ap (λ z. memory_reg z LINK) known,
        ap (λ z. memory_reg z VALUE) known,
        λ e lo hi. fine (record {
          regs_are = ap (λ z. (memory_with_reg z LINK 0).regs) known;
          open_frame = r.open_frame;
        })
            (grow w.rates.counts k e c l) (omega arith),
      )
    where
      grow : (b k e c : ℕ) → c ≤ b * k → c ≤ b * (k + e)
      grow b k e c h = grind arith
  returns link (faults x) = λ e lo hi. faults (omega arith)
  returns {n = n} link (more {k = k} l) = λ e lo hi. more (grow w.rates.counts k e l)
    where
      grow : (b k e : ℕ) → n ≤ b * (k + 1) → n ≤ b * (k + e + 1)
      grow b k e h = grind arith

  module _ (r n : ℕ) (stands : Routine w.im (w.routines.number r) (w.routines.top r) (w.routines.body r))
      (tidy : Tidy w.im) (place_is : place ≡ w.routines.top r + 1)
      (owed : RunsBody w s (w.routines.method r) (w.routines.body r) n) (fresh : w.IsFresh u) where
    pub enters_body : (kind d : Bool) (st : State) (cs : List ℕ) → w.opens s u [] st cs
        → Will w.im (enter_at_cells VALUE kind) d (mk 0 (w.object_of u) (w.frame_of u) 0 0 0 0 place cs)
        (Meets InCall w.rates n 55 (run_result (exec w.setting n
        (in_direction (bool_xor kind d) (w.routines.method r).body) st)))
    enters_body kind d st cs h =
        let m = mk 0 (w.object_of u) (w.frame_of u) 0 0 0 0 place cs in
        let Q : Outcome → Type 0 = Meets InCall w.rates n 55
        (run_result (exec w.setting n (in_direction (bool_xor kind d) (w.routines.method r).body) st)) in
        will_enter_at w.im (w.routines.number r) (w.routines.top r) (w.routines.body r) 12 kind d m Q tidy stands
        (λ e. omega arith) (omega arith) refl place_is (λ link pos lw.
        let inside : Entered w s u link place st (memory_with_reg m LINK link) =
        record { regs_are = refl; open_frame = h } in
        will_more w.im (w.routines.body r) (bool_xor kind d) _ _ _
        (λ o q. subst (λ z. Returns_at 12 z link Q o) place_is (returns link q))
        ((owed (bool_xor kind d) u link place fresh pos lw (let q = stands.small in omega (arith, q, place_is))).does st
        (memory_with_reg m LINK link) inside))

-- ---- what the source says of it

module _ (setting : Setting) (n : ℕ) (back : Bool) (at : ℕ) (name : Ident) (args : List Ident) (st : State) where
  -- the call, once it is known which method, cells and values
  abbrev pub Invoked : Procedure → List Cell → State → List Value → RunResult State
  Invoked method cells caller vals =
      told_then (run_result (exec setting n (in_direction back method.body)
      (record {
        frame = bound method.params vals;
        self = caller.self;
        depth = 1 + caller.depth;
        store = caller.store;
        log = caller.log;
      })))
      (λ c end. run_result (moved_back cells (map (λ binding. binding.value) end.frame)
      (record caller { store = end.store; log = end.log })))

  abbrev after_check : Run State
  after_check = invoked setting (exec setting n) back (method_named setting.program (own_class st) name.text) st.self []
      (cells_named setting st args) st

  counted : run_result (one setting n (Call at back None name args) st)
      ≡ plus (1 + length args) (run_result (fault_if TOO_DEEP (is_too_deep setting st) >>= λ x. after_check))
  counted =
      told_after 1 (after_cost (length args) (fault_if TOO_DEEP (is_too_deep setting st) >>= λ x. after_check))
      ∙ ap (plus 1) (told_after (length args) (fault_if TOO_DEEP (is_too_deep setting st) >>= λ x. after_check))
      ∙ plus_plus 1 (length args) (run_result (fault_if TOO_DEEP (is_too_deep setting st) >>= λ x. after_check))

  pub says_too_deep : is_too_deep setting st ≡ true → run_result (one setting n (Call at back None name args) st)
      ≡ Fault TOO_DEEP (1 + length args)
  says_too_deep e = counted ∙ ap (λ b. plus (1 + length args) (run_result (fault_if TOO_DEEP b >>= λ x. after_check))) e
      ∙ (let z : 1 + length args + 0 ≡ 1 + length args = omega arith in ap (Fault TOO_DEEP) z)

  pub says_called : (method : Procedure) (cells : List Cell) (caller : State) (vals : List Value)
      → is_too_deep setting st ≡ false → method_named setting.program (own_class st) name.text ≡ method
      → cells_named setting st args ≡ cells → moved_out cells st ≡ caller → map (read st) cells ≡ vals
      → st.self ≡ caller.self → st.depth ≡ caller.depth → run_result (one setting n (Call at back None name args) st)
      ≡ plus (1 + length args) (Invoked method cells caller vals)
  says_called method cells caller vals open_yet em ec eo ev es ed =
      let Inv : Procedure → List Cell → State → List Value → ℕ → ℕ → Run State = λ method cells caller vals self depth.
      exec setting n (in_direction back method.body) (record {
        frame = bound method.params vals;
        self = self;
        depth = 1 + depth;
        store = caller.store;
        log = caller.log;
      })
      >>= λ end. moved_back cells (map (λ binding. binding.value) end.frame)
      (record caller { store = end.store; log = end.log }) in
      counted ∙ ap (plus (1 + length args)) (
      ap (λ b. run_result (fault_if TOO_DEEP b >>= λ x. after_check)) open_yet
      ∙ told_after 0 after_check
      ∙ plus_none (run_result after_check)
      ∙ ap (λ m. run_result (Inv m (cells_named setting st args) (moved_out (cells_named setting st args) st)
      (map (read st) (cells_named setting st args)) st.self st.depth)) em
      ∙ ap (λ c. run_result (Inv method c (moved_out c st) (map (read st) c) st.self st.depth)) ec
      ∙ ap (λ c. run_result (Inv method cells c (map (read st) cells) st.self st.depth)) eo
      ∙ ap (λ v. run_result (Inv method cells caller v st.self st.depth)) ev
      ∙ ap (λ z. run_result (Inv method cells caller vals z st.depth)) es
      ∙ ap (λ z. run_result (Inv method cells caller vals caller.self z)) ed
      ∙ told_bind (exec setting n (in_direction back method.body)
      (record {
        frame = bound method.params vals;
        self = caller.self;
        depth = 1 + caller.depth;
        store = caller.store;
        log = caller.log;
      })) (λ end. moved_back cells
      (map (λ binding. binding.value) end.frame) (record caller { store = end.store; log = end.log }))
      )

-- ---- the fragment

module _ (w : World) (knows : KnownCalls w) (f : FrameFacts w knows) (s : Scope) (name : Ident) (args : List Ident)
    (is : knows.IsMethod s name args) (few : length args ≤ 32) (u : w.Under) (vars : AllVariables w knows f s u args)
    (st : State) (cs : List ℕ) (h : w.opens s u [] st cs) where
  abbrev ob : ℕ
  ob = w.object_of u

  abbrev fr : ℕ
  fr = w.frame_of u

  abbrev r : ℕ
  r = knows.routine (knows.class_of u) name

  abbrev place : ℕ
  place = w.routines.top r + 1

  abbrev slot : ℕ
  slot = knows.slot s name

  abbrev cells : List Cell
  cells = cells_of w knows f s u args

  abbrev caller : State
  caller = out_from cells st

  abbrev vals : List Value
  vals = vals_from cells st

  abbrev deep : w.Under
  deep = knows.deeper s u caller

  abbrev callee : State
  callee = record {
    frame = bound (w.routines.method r).params vals;
    self = caller.self;
    depth = 1 + caller.depth;
    store = caller.store;
    log = caller.log;
  }

  abbrev is_full : Bool
  is_full = not (nat_lt (knows.depth_of u) w.setting.limits.deep)

  known_routine : r < w.routines.count
  known_routine = (f.calls.dispatches s u [] st cs name args h is).is_routine

  place_small : place < 2 ^ 32
  place_small = let t = (f.image.placed r known_routine).small in omega arith

  frame_small : fr < 2 ^ 23
  frame_small = (f.steady s u [] st cs h).frame_small

  object_small : ob < 2 ^ 23
  object_small = (f.steady s u [] st cs h).object_small

  -- a current frame has space after it, or ends the stack
  end_fits : (st : State) (cs : List ℕ) → w.opens s u [] st cs → (b : Bool) → is_full ≡ b
      → fr + FRAME_WORDS ≤ slice_index cs END_CELL
  end_fits st cs h true e = let t = (f.has_end s u st cs h).at_end e in omega arith
  end_fits st cs h false e = let t = (f.has_end s u st cs h).room e in omega arith

  long_vals : (cells : List Cell) → length (vals_from cells st) ≡ length cells
  long_vals [] = refl
  long_vals (c ∷ cells) = ap suc (long_vals cells)

  as_many_cells : (names : List Ident) → length (cells_of w knows f s u names) ≡ length names
  as_many_cells [] = refl
  as_many_cells (x ∷ names) = ap suc (as_many_cells names)

  module _ (room : is_full ≡ false) where
    moved : AllUp w knows f s u args st cs
    moved = all_up w knows f s u args vars few room st cs h

    entered : w.opens (w.routines.scope r) deep [] callee moved.cells
    entered = f.calls.enters s u vals caller moved.cells name args moved.up is (long_vals cells ∙ as_many_cells args)
        room

    has_place : HasPlace moved.cells ob slot place
    has_place = (f.calls.tells s u caller callee moved.cells name args entered is).has_place

    front_in : Will w.im (front_code (knows.spot s) slot args) false (mk 0 ob fr 0 0 0 0 0 cs)
        (λ o. o ≡ Done (mk 0 ob (fr + FRAME_WORDS) 0 0 0 0 place moved.cells) (8 + (8 * length args + 8)))
    front_in =
        let e = f.has_end s u st cs h in
        let p = has_place in
        let up : Will w.im (line (addi FRAME FRAME_WORDS ∷ [])) false (mk 0 ob fr 0 0 0 0 0 moved.cells)
        (λ o. o ≡ Done (mk 0 ob (fr + FRAME_WORDS) 0 0 0 0 0 moved.cells) 1) =
        will_row w.im false (addi FRAME FRAME_WORDS ∷ []) 1 _ _ (next refl (omega arith)
        (ap (λ v. Done (mk 0 ob v 0 0 0 0 0 moved.cells) 1)
        (let z : package.Rattle.refine_form.specs.rpp_words.Words.sum_of fr FRAME_WORDS
        ≡ fr + FRAME_WORDS = (let t = frame_small in omega arith) in z)) here) in
        let fetched = will_fetch w.im ob (fr + FRAME_WORDS) slot place moved.cells p.object_in p.small
        (f.calls.slot_small s name args is) p.entry_in p.apart p.entry place_small in
        will_two w.im depth_code (moves_code (knows.spot s) args ++ line (addi FRAME FRAME_WORDS ∷ fetch_row slot)) _ _
        8 _
        (depth_passes w.im ob fr cs e.cell_in e.small (end_fits st cs h false room) false (e.room room))
        (will_two w.im (moves_code (knows.spot s) args) (line (addi FRAME FRAME_WORDS ∷ fetch_row slot)) _ _
        (8 * length args) _
        moved.goes
        (will_two w.im (line (addi FRAME FRAME_WORDS ∷ [])) (line (fetch_row slot)) _ _ 1 _ up
        (will_more w.im (line (fetch_row slot)) false _ _ _
        (λ o q. ap (λ o. outcome_after 8 (outcome_after (8 * length args) (outcome_after 1 o))) q) fetched)))

    -- what the source says when the body has ended
    abbrev moves_home : State → RunResult State
    moves_home end = run_result (moved_back cells (map (λ binding. binding.value) end.frame)
        (record caller { store = end.store; log = end.log }))

    front_back : (n : ℕ) (end : State) (cs2 : List ℕ) → w.opens (w.routines.scope r) deep [] end cs2
        → Will w.im (front_code (knows.spot s) slot args) true (mk 0 ob (fr + FRAME_WORDS) 0 0 0 0 place cs2)
        (Meets (HasOpenFrame w s u) w.rates n (8 + (8 * length args + 8)) (moves_home end))
    front_back n end cs2 g =
        let tells = f.calls.tells s u caller end cs2 name args g is in
        let p = tells.has_place in
        let left = f.calls.leaves s u caller end cs2 name args (pairs args vals) moved.cells moved.up g is in
        let unfetched = will_unfetch w.im ob (fr + FRAME_WORDS) slot place cs2 p.object_in p.small
        (f.calls.slot_small s name args is) p.entry_in p.apart p.entry place_small in
        let down : Will w.im (line (addi FRAME FRAME_WORDS ∷ [])) true (mk 0 ob (fr + FRAME_WORDS) 0 0 0 0 0 cs2)
        (λ o. o ≡ Done (mk 0 ob fr 0 0 0 0 0 cs2) 1) =
        will_row w.im true (addi FRAME FRAME_WORDS ∷ []) 1 _ _ (next refl (omega arith)
        (ap (λ v. Done (mk 0 ob v 0 0 0 0 0 cs2) 1) (less_is (fr + FRAME_WORDS) FRAME_WORDS fr refl
        (let t = frame_small in omega arith))) here) in
        let both : Will w.im (line (addi FRAME FRAME_WORDS ∷ fetch_row slot)) true
        (mk 0 ob (fr + FRAME_WORDS) 0 0 0 0 place cs2)
        (λ o. o ≡ Done (mk 0 ob fr 0 0 0 0 0 cs2) 8) =
        will_two_back w.im (line (addi FRAME FRAME_WORDS ∷ [])) (line (fetch_row slot)) _ _ 7 _ unfetched
        (will_more w.im _ true _ _ _ (λ o q. ap (outcome_after 7) q) down) in
        let values = map (λ binding. binding.value) end.frame in
        let home = record caller { store = end.store; log = end.log } in
        let inner : Will w.im (moves_code (knows.spot s) args ++ line (addi FRAME FRAME_WORDS ∷ fetch_row slot)) true
        (mk 0 ob (fr + FRAME_WORDS) 0 0 0 0 place cs2) (Meets (HasOpenFrame w s u) w.rates n (8 + 8 * length args)
        (moves_home end)) =
        will_two_back w.im (moves_code (knows.spot s) args) (line (addi FRAME FRAME_WORDS ∷ fetch_row slot)) _ _ 8 _
        both
        (will_more w.im _ true _ _ _ (λ o q. meets_later 8 q)
        (all_back w knows f s u n args vars values home cs2 tells.as_many few left)) in
        let all = then_quiet w.im true (HasOpenFrame w s u) (HasOpenFrame w s u) w.rates n 8 (8 + 8 * length args)
        (moves_code (knows.spot s) args ++ line (addi FRAME FRAME_WORDS ∷ fetch_row slot)) depth_code
        (mk 0 ob (fr + FRAME_WORDS) 0 0 0 0 place cs2) (moves_home end) inner (λ a m i. checked a m i) in
        will_more w.im (front_code (knows.spot s) slot args) true _ _ _
        (λ o q. meets_slack (8 + (8 * length args + 8)) (omega arith) q) all
      where
        checked : (a : State) (m : Memory) → HasOpenFrame w s u a m
            → Will w.im depth_code true m (Quiet (HasOpenFrame w s u a) 8)
        checked a m i =
            let e = f.has_end s u a m.cells i.open_frame in
            let known = as_known m _ i.regs_are in
            subst (λ z. Will w.im depth_code true z (Quiet (HasOpenFrame w s u a) 8)) (sym known)
            (will_more w.im depth_code true _ _ _ (λ o q. subst (Quiet (HasOpenFrame w s u a) 8) (sym q)
            (quiet (record { regs_are = refl; open_frame = i.open_frame }) (omega arith)))
            (depth_passes w.im ob fr m.cells e.cell_in e.small (end_fits a m.cells i.open_frame false room) true
            (e.room room)))

    -- the whole call
    called : (n : ℕ) → Owes w (suc n) → (kind d : Bool) → Will w.im (call_code (knows.spot s) kind slot args) d
        (mk 0 ob fr 0 0 0 0 0 cs) (Meets (HasOpenFrame w s u) w.rates (n + (1 + length args)) 0
        (plus (1 + length args) (told_then (run_result (exec w.setting n
        (in_direction (bool_xor kind d) (w.routines.method r).body) callee)) (λ c end. moves_home end))))
    called n owes kind d =
        let t = run_result (exec w.setting n (in_direction (bool_xor kind d) (w.routines.method r).body) callee) in
        let so = f.calls.same_object s u caller in
        let nf = (f.calls.next s u caller).above in
        let body = enters_body w (w.routines.scope r) deep place r n (f.image.placed r known_routine) f.image.tidy refl
        (owes n (omega arith) r known_routine) (f.calls.next s u caller).fresh kind d callee moved.cells entered in
        let mid : Will w.im (enter_at_cells VALUE kind) d (mk 0 ob (fr + FRAME_WORDS) 0 0 0 0 place moved.cells)
        (Meets (InCall w (w.routines.scope r) deep place) w.rates n 55 t) =
        subst (λ x. Will w.im (enter_at_cells VALUE kind) d (mk 0 x (fr + FRAME_WORDS) 0 0 0 0 place moved.cells)
        (Meets (InCall w (w.routines.scope r) deep place) w.rates n 55 t)) so
        (subst (λ x. Will w.im (enter_at_cells VALUE kind) d (mk 0 (w.object_of deep) x 0 0 0 0 place moved.cells)
        (Meets (InCall w (w.routines.scope r) deep place) w.rates n 55 t)) nf body) in
        wraps_spent w.im d (front_code (knows.spot s) slot args) (enter_at_cells VALUE kind) _ _
        (InCall w (w.routines.scope r) deep place) (HasOpenFrame w s u) w.rates n 55 (8 + (8 * length args + 8))
        (8 + (8 * length args + 8)) (1 + length args) 0 t moves_home
        f.image.counts (omega arith) (enough w.rates.steps (length args) f.image.thousand few) front_in mid
        (λ a m2 c e i.
        let known = as_known m2 _ (i.regs_are ∙ ap (λ o. registers 0 o (w.frame_of deep) 0 0 0 0 place) so
        ∙ ap (λ x. registers 0 ob x 0 0 0 0 place) nf) in
        subst (λ z. Will w.im (front_code (knows.spot s) slot args) true z
        (Meets (HasOpenFrame w s u) w.rates (n - c) (8 + (8 * length args + 8)) (moves_home a))) (sym known)
        (front_back (n - c) a m2.cells i.open_frame))
      where
        enough : (steps k : ℕ) → steps ≡ 1000 → k ≤ 32 → 8 + (8 * k + 8) + (55 + (8 + (8 * k + 8))) ≤ steps *
            (1 + k) + 0
        enough steps k e few = let z : steps * (1 + k) ≡ 1000 * (1 + k) = ap (λ x. x * (1 + k)) e in omega (arith, z)

  -- if too many calls are open
  refused : (n : ℕ) (kind d : Bool) → is_full ≡ true → Will w.im (call_code (knows.spot s) kind slot args) d
      (mk 0 ob fr 0 0 0 0 0 cs) (Meets (HasOpenFrame w s u) w.rates (suc n) 0 (Fault TOO_DEEP (1 + length args)))
  refused n kind d e =
      let he = f.has_end s u st cs h in
      let Q : Outcome → Type 0 = Meets (HasOpenFrame w s u) w.rates (suc n) 0 (Fault TOO_DEEP (1 + length args)) in
      let W : Memory → ℕ → Type 0 = λ m1 k1. Will w.im (enter_at_cells VALUE kind) d m1
      (Next (λ m2 k2. Will w.im (front_code (knows.spot s) slot args) true m2
      (λ o. Q (outcome_after k1 (outcome_after k2 o))))
      (λ o. Q (outcome_after k1 o))) in
      let trap : (o : Outcome) → (k : ℕ) × (k ≤ 4) × (o ≡ Trapped TOO_DEEP k)
      → Next W Q o = λ o t. subst (Next W Q) (sym t.2) (faults
      (few_steps w.rates.steps (length args) t.0 f.image.thousand t.1)) in
      let first : Will w.im (front_code (knows.spot s) slot args) false (mk 0 ob fr 0 0 0 0 0 cs) (Next W Q) =
      will_seq w.im depth_code (moves_code (knows.spot s) args ++ line (addi FRAME FRAME_WORDS ∷ fetch_row slot)) _
      (Next W Q)
      (will_more w.im depth_code false _ _ _ (λ o t. subst (Next _ (Next W Q)) (sym t.2)
      (trap (Trapped TOO_DEEP t.0) (t.0, t.1, refl))) (depth_traps w.im ob fr cs he.cell_in he.small
      (end_fits st cs h true e) (he.at_end e))) in
      will_around w.im d (front_code (knows.spot s) slot args) (enter_at_cells VALUE kind) _ Q first
    where
      few_steps : (steps k j : ℕ) → steps ≡ 1000 → j ≤ 4 → j ≤ steps * (1 + k) + 0
      few_steps steps k j e l = let z : steps * (1 + k) ≡ 1000 * (1 + k) = ap (λ x. x * (1 + k)) e in omega (arith, z)

-- ---- the law

-- the direction of the call that the fragment is, run forward or backward
turned_call : (d back : Bool) (at : ℕ) (name : Ident) (args : List Ident)
    → turned_statement d (Call at back None name args) ≡ Call at (bool_xor d back) None name args
turned_call false back at name args = refl
turned_call true back at name args = refl

same_way : (d back : Bool) → bool_xor back d ≡ bool_xor d back
same_way false false = refl
same_way false true = refl
same_way true false = refl
same_way true true = refl

-- what moves out of cells that are none of them one: the same in any order
abbrev pub MovesAlike : (w : World) (knows : KnownCalls w) → FrameFacts w knows → Scope → List Ident → Type 0
MovesAlike w knows f s args = (u : w.Under) (st : State) (cells : List ℕ) → w.opens s u [] st cells
    → (moved_out (cells_of w knows f s u args) st ≡ out_from (cells_of w knows f s u args) st)
    × (map (read st) (cells_of w knows f s u args) ≡ vals_from (cells_of w knows f s u args) st)

module _ (w : World) (knows : KnownCalls w) (f : FrameFacts w knows) (s : Scope) (at : ℕ) (back : Bool) (name : Ident)
    (args : List Ident) (is : knows.IsMethod s name args) (few : length args ≤ 32)
    (vars : (u : w.Under) → AllVariables w knows f s u args) (alike : MovesAlike w knows f s args) where
  named : (u : w.Under) (st : State) (cs : List ℕ) (names : List Ident) → w.opens s u [] st cs
      → AllVariables w knows f s u names → cells_named w.setting st names ≡ cells_of w knows f s u names
  named u st cs [] h all = refl
  named u st cs (x ∷ names) h all = ap (λ c. c ∷ cells_named w.setting st names)
      ((f.steady s u [] st cs h).means x all.0)
      ∙ ap (λ l. knows.cell_of s u x ∷ l) (named u st cs names h all.1)

  law_by : (n : ℕ) → Owes w (suc n) → (d : Bool) (u : w.Under) (st : State) (m : Memory) → HasOpenFrame w s u st m
      → (b : Bool)
      → not (nat_lt (knows.depth_of u) w.setting.limits.deep) ≡ b
      → Will w.im (call_code (knows.spot s) back (knows.slot s name) args) d m
      (Meets (HasOpenFrame w s u) w.rates (suc n) 0 (run_result
      (one w.setting n (turned_statement d (Call at back None name args)) st)))
  law_by n owes d u st m h true e =
      let depth = (f.steady s u [] st m.cells h.open_frame).depth_is in
      let deep : is_too_deep w.setting st ≡ true = ap (λ x. not (nat_lt x w.setting.limits.deep)) depth ∙ e in
      let said : run_result (one w.setting n (turned_statement d (Call at back None name args)) st)
      ≡ Fault TOO_DEEP (1 + length args) =
      ap (λ z. run_result (one w.setting n z st)) (turned_call d back at name args)
      ∙ says_too_deep w.setting n (bool_xor d back) at name args st deep in
      subst (λ z. Will w.im (call_code (knows.spot s) back (knows.slot s name) args) d z
      (Meets (HasOpenFrame w s u) w.rates (suc n) 0 (run_result
      (one w.setting n (turned_statement d (Call at back None name args)) st))))
      (sym (as_known m _ h.regs_are))
      (will_more w.im _ d _ _ _ (λ o q. meets_told _ _ (sym said) q)
      (refused w knows f s name args is few u (vars u) st m.cells h.open_frame n back d e))
  law_by n owes d u st m h false e =
      let cells = cells_of w knows f s u args in
      let caller = out_from cells st in
      let vals = vals_from cells st in
      let mine : w.opens s u (pairs args vals) caller (moved w knows f s name args is few u (vars u) st m.cells
      h.open_frame e).cells = (moved w knows f s name args is few u (vars u) st m.cells h.open_frame e).up in
      let before = f.steady s u [] st m.cells h.open_frame in
      let open_yet : is_too_deep w.setting st ≡ false = ap (λ x. not (nat_lt x w.setting.limits.deep)) before.depth_is
      ∙ e in
      let method = w.routines.method (knows.routine (knows.class_of u) name) in
      let em = ap (λ x. method_named w.setting.program x name.text) before.class_is
      ∙ (f.calls.dispatches s u [] st m.cells name args h.open_frame is).is_method in
      let outcome_after = f.steady s u (pairs args vals) caller _ mine in
      let es = before.self_is ∙ sym outcome_after.self_is in
      let ed = before.depth_is ∙ sym outcome_after.depth_is in
      let said = ap (λ z. run_result (one w.setting n z st)) (turned_call d back at name args)
      ∙ ap (λ z. run_result (one w.setting n (Call at z None name args) st)) (sym (same_way d back))
      ∙ says_called w.setting n (bool_xor back d) at name args st method cells caller vals open_yet em
      (named u st m.cells args h.open_frame (vars u)) (alike u st m.cells h.open_frame).0
      (alike u st m.cells h.open_frame).1 es ed in
      subst (λ z. Will w.im (call_code (knows.spot s) back (knows.slot s name) args) d z
      (Meets (HasOpenFrame w s u) w.rates (suc n) 0 (run_result
      (one w.setting n (turned_statement d (Call at back None name args)) st))))
      (sym (as_known m _ h.regs_are))
      (will_more w.im _ d _ _ _ (λ o q. meets_told _ _ (sym said) (meets_less (suc n) (omega arith) q))
      (called w knows f s name args is few u (vars u) st m.cells h.open_frame e n owes back d))

  -- the code of a call on the current object
  pub call_law : StmtLaw w s (Call at back None name args) (call_code (knows.spot s) back (knows.slot s name) args)
  call_law n owes d u = record {
    does = λ st m h. law_by n owes d u st m h
        (not (nat_lt (knows.depth_of u) w.setting.limits.deep)) refl;
  }
