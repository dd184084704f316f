-- Arguments move into the frame above, and back with the check.
use Rattle.std.proofs.Common.{◌≡◌, ◌≢◌, ℕ, suc, ◌+◌, ◌*◌, ◌^◌, ◌<◌, ◌≤◌, Bool, true, false, List, [], ◌∷◌, ◌++◌, length}
use Rattle.std.proofs.Common.{map, refl, sym, ap, ◌∙◌, subst, arith}
use Rattle.std.specs.Prelude.{not, nat_lt, slice_index, slice_set}
use Rattle.std.proofs.lemmas.List.{get_or-set_other}
use Rattle.std.proofs.Math.ListN.{length-set}
use Rattle.refine_form.specs.rpp_words.declared.input.TheConstants.{FRAME_WORDS}
use Rattle.refine_form.specs.rpp_tree.declared.tree.Ident.{Ident}
use Rattle.refine_form.specs.pisa_isa.Machine.{Memory}
use Rattle.refine_form.specs.paired_code.Machine.{Image}
use Rattle.refine_form.specs.paired_code.Pieces.{Outcome, Done, Trapped, Will, outcome_after}
use Rattle.refine_form.specs.paired_code.Does.{Fault, Meets, fine, faults}
use Rattle.refine_form.proofs.paired_code_laws.Laws.{Next, will_of, will_more, will_seq_back}
use Rattle.refine_form.proofs.paired_code_laws.Small.{runs_empty}
use Rattle.refine_form.specs.roopl_semantics.Run.{◌>>=◌, fault_if}
use Rattle.refine_form.specs.roopl_semantics.Store.{Value, State, is_zero}
use Rattle.refine_form.specs.roopl_semantics.Value.{Cell, read, written}
use Rattle.refine_form.specs.roopl_semantics.Execution.{moved_back, TOUCHED}
use Rattle.refine_form.specs.Form.{World, Scope, pairs, run_result}
use Rattle.method_calls.specs.CallCode.{first_frame_word, take_code, put_code, move_code, moves_code}
use Rattle.refine_form.specs.declared.spot.Spot.{Spot}
use Rattle.refine_form.specs.declared.spot.Spot.TheVariants.{Field, Frame}
use Rattle.method_calls.specs.Facts.{address, IsNear, MovesBack, KnownCalls, FrameFacts, out_from, vals_from}
use Rattle.refine_form.proofs.Told.{told_after, plus_none}
use Rattle.refine_form.proofs.Rules.{will_two, will_two_back, meets_told, meets_slack, meets_later}
use Rattle.method_calls.proofs.ReceiverParts.{takes, gives_back, finds_touched, puts}
use Rattle.refine_form.proofs.Memories.{mk}

-- the memory between statements
abbrev pub plain : (w : World) → w.Under → List ℕ → Memory
plain w u cells = mk 0 (w.object_of u) (w.frame_of u) 0 0 0 0 0 cells

-- ---- one value

module _ (im : Image) (ob fr : ℕ) (sp : Spot) (j : ℕ) (cs : List ℕ) where
  abbrev at : ℕ
  at = address ob fr sp

  abbrev up : ℕ
  up = fr + (FRAME_WORDS + (first_frame_word + j))

  -- up
  abbrev up_cells : List ℕ
  up_cells = slice_set (slice_set cs at 0) up (slice_index cs at)

  pub moves_up : at < 2 ^ 32 → up < 2 ^ 32 → at < length cs → up < length cs → at ≢ up → slice_index cs up ≡ 0
      → Will im (move_code sp j) false (mk 0 ob fr 0 0 0 0 0 cs) (λ o. o ≡ Done (mk 0 ob fr 0 0 0 0 0 up_cells) 8)
  unfolding move_code
  moves_up ha hu la lu ne z =
      let cs1 = slice_set cs at 0 in
      let e : slice_index cs1 up ≡ 0 = get_or-set_other cs at up 0 0 (λ q. ne (sym q)) ∙ z in
      let l1 : up < length cs1 = omega (arith, length-set cs at 0) in
      will_two im (take_code sp) (put_code (first_frame_word + j)) _ (mk 0 ob fr 0 0 (slice_index cs at) 0 0 cs1) 5 _
      (takes im ob fr sp cs la ha)
      (will_more im _ false _ _ _ (λ o q. ap (outcome_after 5) q)
      (puts im ob fr (first_frame_word + j) cs1 l1 hu false (slice_index cs at) 0 e))

  -- back
  abbrev back_cells : List ℕ
  back_cells = slice_set (slice_set cs up 0) at (slice_index cs up)

  abbrev lowered : Memory
  lowered = mk 0 ob fr 0 0 (slice_index cs up) 0 0 (slice_set cs up 0)

  lowers : up < 2 ^ 32 → up < length cs
      → Will im (put_code (first_frame_word + j)) true (mk 0 ob fr 0 0 0 0 0 cs) (λ o. o ≡ Done lowered 3)
  lowers hu lu = puts im ob fr (first_frame_word + j) cs lu hu true 0 (slice_index cs up) refl

  pub moves_down : at < 2 ^ 32 → up < 2 ^ 32 → at < length cs → up < length cs → at ≢ up → slice_index cs at ≡ 0
      → Will im (move_code sp j) true (mk 0 ob fr 0 0 0 0 0 cs) (λ o. o ≡ Done (mk 0 ob fr 0 0 0 0 0 back_cells) 8)
  unfolding move_code
  moves_down ha hu la lu ne z =
      let cs1 = slice_set cs up 0 in
      let e : slice_index cs1 at ≡ slice_index cs at = get_or-set_other cs up at 0 0 ne in
      let l1 : at < length cs1 = omega (arith, length-set cs up 0) in
      will_two_back im (take_code sp) (put_code (first_frame_word + j)) _ lowered 3 _ (lowers hu lu)
      (will_more im _ true _ _ _ (λ o q. ap (outcome_after 3) q)
      (gives_back im ob fr sp cs1 l1 ha (slice_index cs up) (e ∙ z)))

  pub traps_down : at < 2 ^ 32 → up < 2 ^ 32 → at < length cs → up < length cs → at ≢ up → slice_index cs at ≢ 0
      → Will im (move_code sp j) true (mk 0 ob fr 0 0 0 0 0 cs) (λ o. (k : ℕ) × (k ≤ 8) × (o ≡ Trapped TOUCHED k))
  unfolding move_code
  traps_down ha hu la lu ne nz =
      let cs1 = slice_set cs up 0 in
      let e : slice_index cs1 at ≡ slice_index cs at = get_or-set_other cs up at 0 0 ne in
      let l1 : at < length cs1 = omega (arith, length-set cs up 0) in
      will_two_back im (take_code sp) (put_code (first_frame_word + j)) _ lowered 3 _ (lowers hu lu)
      (will_more im _ true _ _ _ (λ o t. (3 + t.0, (let h = t.1 in omega arith), ap (outcome_after 3) t.2))
      (finds_touched im ob fr sp cs1 l1 ha (slice_index cs up) (λ q. nz (sym e ∙ q))))

-- ---- all values

module _ (w : World) (knows : KnownCalls w) (f : FrameFacts w knows) (s : Scope) (u : w.Under) where
  abbrev pub cells_of : List Ident → List Cell
  cells_of names = map (knows.cell_of s u) names

  abbrev pub AllVariables : List Ident → Type 0
  AllVariables [] = Unit {0}
  AllVariables (name ∷ names) = knows.IsVariable s name × AllVariables names

  abbrev full : Bool
  full = not (nat_lt (knows.depth_of u) w.setting.limits.deep)

  pub spot_in : (sp : Spot) → IsNear sp → w.object_of u < 2 ^ 23 → w.frame_of u < 2 ^ 23
      → address (w.object_of u) (w.frame_of u) sp < 2 ^ 32
  spot_in (Field i) h a b = omega arith
  spot_in (Frame j) h a b = omega arith

  length_pairs : (names : List Ident) (vals : List Value) → length vals ≡ length names
      → length (pairs names vals) ≡ length names
  length_pairs [] vals e = refl
  length_pairs (name ∷ names) [] e = absurd (omega (arith, e))
  length_pairs (name ∷ names) (v ∷ vals) e = ap suc (length_pairs names vals
      (let q : suc (length vals) ≡ suc (length names) = e in omega (arith, q)))

  long : (names : List Ident) (st : State) → length (pairs names (vals_from (cells_of names) st)) ≡ length names
  long [] st = refl
  long (name ∷ names) st = ap suc (long names st)

  -- where all have moved
  pub record AllUp (names : List Ident) (st : State) (cs : List ℕ) : Type 0 where
    pub cells : List ℕ
    pub up : w.opens s u (pairs names (vals_from (cells_of names) st)) (out_from (cells_of names) st) cells
    pub goes : Will w.im (moves_code (knows.spot s) names) false (plain w u cs)
        (λ o. o ≡ Done (plain w u cells) (8 * length names))

  pub all_up : (names : List Ident) → AllVariables names → length names ≤ 32 → full ≡ false → (st : State) (cs : List ℕ)
      → w.opens s u [] st cs → AllUp names st cs
  all_up [] all l room st cs h = record {
    cells = cs;
    up = h;
    goes = will_of w.im [] false _ _ _ (runs_empty w.im false (plain w u cs)) refl;
  }
  all_up (name ∷ names) all l room st cs h = one_more name names all.0 (omega arith) room st cs
      (all_up names all.1 (omega arith) room st cs h)
    where
      one_more : (name : Ident) (names : List Ident) → knows.IsVariable s name → length names < 32 → full ≡ false
          → (st : State) (cs : List ℕ) → AllUp names st cs → AllUp (name ∷ names) st cs
      one_more name names is l room st cs before =
          let sp = knows.spot s name in
          let vals = pairs names (vals_from (cells_of names) st) in
          let n = long names st in
          let m = f.moves.moves_in s u vals (out_from (cells_of names) st) before.cells name before.up is
          (omega (arith, n)) room in
          let steady = f.steady s u vals (out_from (cells_of names) st) before.cells before.up in
          let os = steady.object_small in
          let fs = steady.frame_small in
          let at = address (w.object_of u) (w.frame_of u) sp in
          let up = w.frame_of u + (FRAME_WORDS + (first_frame_word + length vals)) in
          let cs2 = slice_set (slice_set before.cells at 0) up (slice_index before.cells at) in
          let z : 8 * length names + 8 ≡ 8 * suc (length names) = omega arith in
          let step : Will w.im (move_code sp (length names)) false (plain w u before.cells)
          (λ o. o ≡ Done (plain w u cs2) 8) =
          subst (λ k. Will w.im (move_code sp k) false (plain w u before.cells) (λ o. o ≡ Done (plain w u cs2) 8)) n
          (moves_up w.im (w.object_of u) (w.frame_of u) sp (length vals) before.cells
          (spot_in sp (f.near s name is) os fs) (omega (arith, fs, n)) m.words.at_in m.words.up_in m.words.apart
          m.empty) in
          record {
            cells = cs2;
            up = m.moved;
            goes = will_two w.im (moves_code (knows.spot s) names) (move_code sp (length names)) (plain w u cs)
                (plain w u before.cells) (8 * length names) _ before.goes
                (will_more w.im _ false _ _ _ (λ o q. ap (outcome_after (8 * length names)) q
                ∙ ap (Done (plain w u cs2)) z)
                step);
          }

  -- where they move back, in the order of the source
  abbrev Back : State → Memory → Type 0
  Back st m = package.Rattle.refine_form.specs.Form.HasOpenFrame w s u st m

  module _ (n : ℕ) (name : Ident) (names : List Ident) (is : knows.IsVariable s name) (v : Value) (vals : List Value)
      (st : State) (cs : List ℕ) (same : length (pairs names vals) ≡ length names) (l : length names < 32)
      (h : w.opens s u (record { from = name; value = v } ∷ pairs names vals) st cs) where
    abbrev here_at : ℕ
    here_at = address (w.object_of u) (w.frame_of u) (knows.spot s name)

    abbrev up_at : ℕ
    up_at = w.frame_of u + (FRAME_WORDS + (first_frame_word + length (pairs names vals)))

    abbrev c : Cell
    c = knows.cell_of s u name

    abbrev cs2 : List ℕ
    cs2 = slice_set (slice_set cs up_at 0) here_at (slice_index cs up_at)

    m : MovesBack cs here_at up_at (is_zero (read st c)) (w.opens s u (pairs names vals) (written st c v))
    m = f.moves.moves_back s u v (pairs names vals) st cs name h is

    near : here_at < 2 ^ 32
    near = spot_in (knows.spot s name) (f.near s name is)
        (f.steady s u (record { from = name; value = v } ∷ pairs names vals) st cs h).object_small
        (f.steady s u (record { from = name; value = v } ∷ pairs names vals) st cs h).frame_small

    high : up_at < 2 ^ 32
    high = let q = (f.steady s u (record { from = name; value = v } ∷ pairs names vals) st cs h).frame_small in
        omega (arith, q, same, l)

    abbrev Q : Outcome → Type 0
    Q o = Meets Back w.rates n (8 * suc (length names)) (run_result (moved_back (c ∷ cells_of names) (v ∷ vals) st)) o

    back_step : ((cs' : List ℕ) → w.opens s u (pairs names vals) (written st c v) cs'
        → Will w.im (moves_code (knows.spot s) names) true (plain w u cs')
        (Meets Back w.rates n (8 * length names) (run_result (moved_back (cells_of names) vals (written st c v)))))
        → (z : Bool) → is_zero (read st c) ≡ z → Will w.im (moves_code (knows.spot s) names
        ++ move_code (knows.spot s name) (length names)) true (plain w u cs) Q
    back_step rest true z =
        let said : run_result (moved_back (c ∷ cells_of names) (v ∷ vals) st)
        ≡ run_result (moved_back (cells_of names) vals (written st c v)) =
        ap (λ b. run_result (fault_if TOUCHED (not b) >>= λ t. moved_back (cells_of names) vals (written st c v))) z
        ∙ told_after 0 (moved_back (cells_of names) vals (written st c v))
        ∙ plus_none (run_result (moved_back (cells_of names) vals (written st c v))) in
        let first : Will w.im (move_code (knows.spot s name) (length names)) true (plain w u cs)
        (λ o. o ≡ Done (plain w u cs2) 8) =
        subst (λ k. Will w.im (move_code (knows.spot s name) k) true (plain w u cs) (λ o. o ≡ Done (plain w u cs2) 8))
        same
        (moves_down w.im (w.object_of u) (w.frame_of u) (knows.spot s name) (length (pairs names vals)) cs near high
        m.words.at_in m.words.up_in m.words.apart (m.cell.untouched z)) in
        will_two_back w.im (moves_code (knows.spot s) names) (move_code (knows.spot s name) (length names))
        (plain w u cs) (plain w u cs2) 8 Q first
        (will_more w.im _ true _ _ _ (λ o q. meets_told _ _ (sym said)
        (meets_slack (8 * suc (length names)) (omega arith) (meets_later 8 q))) (rest cs2 (m.back z)))
    back_step rest false z =
        let said : run_result (moved_back (c ∷ cells_of names) (v ∷ vals) st) ≡ Fault TOUCHED 0 =
        ap (λ b. run_result (fault_if TOUCHED (not b) >>= λ t. moved_back (cells_of names) vals (written st c v))) z
        in
        let first = subst (λ k. Will w.im (move_code (knows.spot s name) k) true (plain w u cs)
        (λ o. (k : ℕ) × (k ≤ 8) × (o ≡ Trapped TOUCHED k))) same
        (traps_down w.im (w.object_of u) (w.frame_of u) (knows.spot s name) (length (pairs names vals)) cs near high
        m.words.at_in m.words.up_in m.words.apart (m.cell.touched z)) in
        will_seq_back w.im (moves_code (knows.spot s) names) (move_code (knows.spot s name) (length names)) _ Q
        (will_more w.im _ true _ _ _ (λ o t. subst (Next _ Q) (sym t.2)
        (meets_told _ _ (sym said) (faults (let h = t.1 in omega arith)))) first)

  pub all_back : (n : ℕ) (names : List Ident) → AllVariables names → (vals : List Value) (st : State) (cs : List ℕ)
      → length vals ≡ length names → length names ≤ 32 → w.opens s u (pairs names vals) st cs
      → Will w.im (moves_code (knows.spot s) names) true (plain w u cs)
      (Meets Back w.rates n (8 * length names) (run_result (moved_back (cells_of names) vals st)))
  all_back n [] all [] st cs e l h = will_of w.im [] true _ _ _ (runs_empty w.im true (plain w u cs))
      (fine (record { regs_are = refl; open_frame = h }) (omega arith) (omega arith))
  all_back n [] all (v ∷ vals) st cs e l h = absurd (omega (arith, e))
  all_back n (name ∷ names) all [] st cs e l h = absurd (omega (arith, e))
  all_back n (name ∷ names) all (v ∷ vals) st cs e l h =
      let same : length vals ≡ length names = (let q : suc (length vals) ≡ suc (length names) = e in omega (arith, q))
      in
      back_step n name names all.0 v vals st cs (length_pairs names vals same) (omega arith) h
      (λ cs' h'. all_back n names all.1 vals (written st (knows.cell_of s u name) v) cs' same (omega arith) h')
      (is_zero (read st (knows.cell_of s u name))) refl
