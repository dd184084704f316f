-- A block with a local variable, in both directions.
use Rattle.std.proofs.Common.{◌≡◌, ℕ, suc, ◌+◌, ◌-◌, ◌^◌, ◌<◌, ◌≤◌, Bool, true, false, List, [], ◌∷◌, ◌++◌, length}
use Rattle.std.proofs.Common.{refl, sym, ap, ◌∙◌, subst, arith, append-nil, append_assoc}
use Rattle.std.specs.Prelude.{not, bit_xor, slice_index, slice_set, Some}
use Rattle.refine_form.specs.rpp_tree.declared.tree.Var.{Var}
use Rattle.refine_form.specs.rpp_tree.declared.tree.Ident.{Ident}
use Rattle.refine_form.specs.rpp_tree.Tree.{Expression, Null, Statement, Statements, Local, Construct, Call, New}
use Rattle.refine_form.specs.rpp_tree.Tree.{Delete, Whole, Item, Object as AnObject, End, Then, joined}
use Rattle.refine_form.specs.inverse_rules.Inverse.{inverse, inverse_statement}
use Rattle.refine_form.specs.pisa_isa.Machine.{Memory}
use Rattle.refine_form.specs.code_conventions.declared.faults.TheConstants.{DELOCAL}
use Rattle.refine_form.specs.code_conventions.declared.registers.TheConstants.{FRAME, NOUGHT, VALUE}
use Rattle.refine_form.specs.paired_code.declared.part.Symbol.{Symbol}
use Rattle.refine_form.specs.paired_code.Machine.{Image}
use Rattle.refine_form.specs.paired_code.Layout.{check_equal_cells, mirror_cells, Equal}
use Rattle.refine_form.specs.paired_code.Pieces.{Done, Will}
use Rattle.refine_form.specs.paired_code.Does.{RunResult, Fine, Fault, More, plus, told_then, Meets, fine, faults, Does}
use Rattle.refine_form.specs.paired_code.Does.{in_order}
use Rattle.refine_form.proofs.paired_code_laws.Laws.{will_of, will_more}
use Rattle.refine_form.proofs.paired_code_laws.Checks.{runs_passes, runs_fails}
use Rattle.refine_form.proofs.paired_code_laws.Mirrored.{will_mirror}
use Rattle.refine_form.proofs.paired_code_laws.Does.{will_last}
use Rattle.refine_form.specs.roopl_semantics.Run.{Run, ◌>>=◌, give, fault_if, after_cost}
use Rattle.refine_form.specs.roopl_semantics.Store.{Value, State, same_value}
use Rattle.refine_form.specs.roopl_semantics.Value.{Slot, read, evaluated}
use Rattle.refine_form.specs.roopl_semantics.Execution.{exec, statement, opened, closed, with_local, constructed}
use Rattle.refine_form.specs.roopl_semantics.Execution.{element_call, element_name}
use Rattle.refine_form.specs.Form.{World, Scope, Moved, HasOpenFrame, holding, Owes, StmtLaw, BlockLaw, ValueLaw}
use Rattle.refine_form.specs.Form.{with_var}
use Rattle.refine_form.specs.Form.{run_result, one, turned_statement}
use Rattle.refine_form.specs.declared.spot.Spot.TheVariants.{Frame}
use Rattle.refine_form.specs.code_conventions.Cells.{exch}
use Rattle.method_calls.specs.CallCode.{reach_row, store_code, local_open, local_code}
use Rattle.method_calls.specs.Facts.{LocalFacts, new_word}
use Rattle.refine_form.proofs.Told.{told_after, told_bind, same_then}
use Rattle.refine_form.proofs.Rules.{meets_rate, meets_told, meets_less, meets_then, meets_later, Late, late, late_then}
use Rattle.refine_form.proofs.Rules.{late_counts, as_known, will_in, will_two, will_two_back}
use Rattle.refine_form.proofs.Rows.{here, next, will_row}
use Rattle.method_calls.proofs.Addresses.{will_find_word, will_leave_word}
use Rattle.refine_form.specs.paired_code.Rows.{line}
use Rattle.method_calls.proofs.Exchanges.{exchanges}
use Rattle.refine_form.proofs.inverse_rules_laws.Inverses.{joined-end, joined_assoc}
use Rattle.refine_form.proofs.Memories.{mk}

-- ---- a word changes places with a word of the frame

module _ (im : Image) (ob fr j : ℕ) (cs : List ℕ) (inside : fr + j < length cs) (small : fr + j < 2 ^ 32) where
  swaps : (d : Bool) (x y : ℕ) → slice_index cs (fr + j) ≡ y
      → Will im (line (exch VALUE FRAME ∷ [])) d (mk 0 ob (fr + j) 0 0 0 0 x cs)
      (λ o. o ≡ Done (mk 0 ob (fr + j) 0 0 0 0 y (slice_set cs (fr + j) x)) 1)
  swaps false x y e =
      will_row im false (exch VALUE FRAME ∷ []) 1 _ _ (next refl (omega arith)
      (exchanges false VALUE FRAME (mk 0 ob (fr + j) 0 0 0 0 x cs) inside
      ∙ ap (λ v. Done (mk 0 ob (fr + j) 0 0 0 0 v (slice_set cs (fr + j) x)) 1) e) here)
  swaps true x y e =
      will_row im true (exch VALUE FRAME ∷ []) 1 _ _ (next refl (omega arith)
      (exchanges true VALUE FRAME (mk 0 ob (fr + j) 0 0 0 0 x cs) inside
      ∙ ap (λ v. Done (mk 0 ob (fr + j) 0 0 0 0 v (slice_set cs (fr + j) x)) 1) e) here)

  pub stores : (d : Bool) (x y : ℕ) → slice_index cs (fr + j) ≡ y
      → Will im (store_code j) d (mk 0 ob fr 0 0 0 0 x cs)
      (λ o. o ≡ Done (mk 0 ob fr 0 0 0 0 y (slice_set cs (fr + j) x)) 3)
  stores d x y e =
      will_in im d (line (reach_row (Frame j))) (line (exch VALUE FRAME ∷ [])) _ _ _ _ 1 1 1
      (will_find_word im ob fr x cs j small) (swaps d x y e)
      (will_leave_word im ob fr y (slice_set cs (fr + j) x) j small)

module _ (w : World) (IsInit : Scope → Var → Expression → Type 0) (f : LocalFacts w IsInit)
    (thousand : w.rates.steps ≡ 1000) (s : Scope) (u : w.Under) (var : Var) (e : Expression) (p : List Symbol)
    (hp : ValueLaw w s e p) (is : IsInit s var e) where
  abbrev ob : ℕ
  ob = w.object_of u

  abbrev fr : ℕ
  fr = w.frame_of u

  abbrev j : ℕ
  j = new_word s

  near : (vals : List Moved) (s' : Scope) (st : State) (cs : List ℕ) → w.opens s' u vals st cs → fr + j < 2 ^ 32
  near vals s' st cs h = let a = f.frame_small s' u vals st cs h in let b = f.few_vars s var e is in omega arith

  -- the variable appears
  abbrev appears : State → RunResult State
  appears st = told_then (run_result (evaluated w.setting.program e st)) (λ c v. Fine (opened var.name.text v st) 0)

  pub opens_var : (n : ℕ) (st : State) (m : Memory) → HasOpenFrame w s u st m
      → Will w.im (local_open j p) false m (Late 2 (Meets (HasOpenFrame w (with_var s var) u) w.rates n 53
      (appears st)))
  opens_var n st m h =
      let cs = m.cells in
      let t = run_result (evaluated w.setting.program e st) in
      let rest : Will w.im (in_order false (p ∷ store_code j ∷ [])) false (mk 0 ob fr 0 0 0 0 0 cs)
      (Meets (HasOpenFrame w (with_var s var) u) w.rates n (50 + 3) (appears st)) =
      meets_then w.im false (λ v m1. m1 ≡ holding w u (bit_xor 0 (w.word_of u st v)) cs)
      (HasOpenFrame w (with_var s var) u)
      w.rates n 50 3 p (store_code j ∷ []) (mk 0 ob fr 0 0 0 0 0 cs) t (λ c v. Fine (opened var.name.text v st) 0)
      (will_more w.im p false _ _ _ (λ o q. meets_rate (omega (arith, thousand)) q)
      (hp n false u 0 st cs (w.are_read s u st cs h.open_frame))) (λ c v m1 said i.
      let x = w.word_of u st v in
      let z : bit_xor 0 x ≡ x = no_xor x in
      let known : m1 ≡ mk 0 ob fr 0 0 0 0 x cs = i ∙ ap (λ y. mk 0 ob fr 0 0 0 0 y cs) z in
      let done : HasOpenFrame w (with_var s var) u (opened var.name.text v st)
      (mk 0 ob fr 0 0 0 0 0 (slice_set cs (fr + j) x))
      = record { regs_are = refl; open_frame = f.declares s u st cs var e v c h.open_frame is said } in
      will_last w.im false (store_code j) m1 _ (subst (λ z. Will w.im (store_code j) false z
      (Meets (HasOpenFrame w (with_var s var) u) w.rates (n - c) 3 (Fine (opened var.name.text v st) 0))) (sym known)
      (will_more w.im (store_code j) false _ _ _ (λ o q. subst
      (Meets (HasOpenFrame w (with_var s var) u) w.rates (n - c) 3 (Fine (opened var.name.text v st) 0)) (sym q)
      (fine done (omega arith) (omega arith)))
      (stores w.im ob fr j cs (f.free_in s u st cs var e h.open_frame is) (near [] s st cs h.open_frame) false x 0
      (f.free_word s u st cs var e h.open_frame is))))) in
      subst (λ z. Will w.im (local_open j p) false z (Late 2
      (Meets (HasOpenFrame w (with_var s var) u) w.rates n 53 (appears st)))) (sym (as_known m _ h.regs_are))
      (will_two w.im (check_equal_cells VALUE NOUGHT DELOCAL) (p ++ store_code j) _ (mk 0 ob fr 0 0 0 0 0 cs) 2 _
      (will_of w.im _ false _ _ _ (runs_passes w.im false (Equal 12 7) 3 (mk 0 ob fr 0 0 0 0 0 cs) refl) refl)
      (will_more w.im (p ++ store_code j) false _ _ _ (λ o q. late q)
      (subst (λ z. Will w.im (p ++ z) false (mk 0 ob fr 0 0 0 0 0 cs)
      (Meets (HasOpenFrame w (with_var s var) u) w.rates n 53 (appears st))) (append-nil (store_code j)) rest)))
    where
      no_xor : (x : ℕ) → bit_xor 0 x ≡ x
      no_xor x = refl

  -- the variable goes, if it has the closing value
  abbrev pub checked : State → Value → RunResult State
  checked st v = run_result (fault_if DELOCAL (not (same_value (read st (Slot 0)) v)) >>= λ z. give (closed st))

  abbrev pub goes_away : State → RunResult State
  goes_away st = told_then (run_result (evaluated w.setting.program e st)) (λ c v. checked st v)

  abbrev gone : List ℕ → List ℕ
  gone cs = slice_set cs (fr + j) 0

  last_check : (n : ℕ) (st : State) (cs : List ℕ) (v : Value) (c : ℕ) → w.opens (with_var s var) u [] st cs
      → run_result (evaluated w.setting.program e (closed st)) ≡ Fine v c → (m1 : Memory)
      → m1 ≡ holding w u (bit_xor (w.word_of u st (read st (Slot 0))) (w.word_of u (closed st) v)) (gone cs)
      → (b : Bool) → same_value (read st (Slot 0)) v ≡ b → Will w.im (check_equal_cells VALUE NOUGHT DELOCAL) true m1
      (Meets (HasOpenFrame w s u) w.rates n 2 (checked st v))
  last_check n st cs v c h said m1 i true same =
      let z = f.same_words s u st cs var e v c h is said same in
      let known : m1 ≡ mk 0 ob fr 0 0 0 0 0 (gone cs) = i ∙ ap (λ y. mk 0 ob fr 0 0 0 0 y (gone cs)) z in
      let end : HasOpenFrame w s u (closed st) (mk 0 ob fr 0 0 0 0 0 (gone cs)) =
      record { regs_are = refl; open_frame = f.closes s u st cs var e v c h is said same } in
      let told_is : checked st v ≡ Fine (closed st) 0 = ap
      (λ b. run_result (fault_if DELOCAL (not b) >>= λ z. give (closed st))) same in
      subst (λ z. Will w.im (check_equal_cells VALUE NOUGHT DELOCAL) true z
      (Meets (HasOpenFrame w s u) w.rates n 2 (checked st v)))
      (sym known)
      (will_of w.im _ true _ _ _ (runs_passes w.im true (Equal 12 7) 3 (mk 0 ob fr 0 0 0 0 0 (gone cs)) refl)
      (meets_told _ _ (sym told_is) (fine end (omega arith) (omega arith))))
  last_check n st cs v c h said m1 i false same =
      let nz = f.other_words s u st cs var e v c h is said same in
      let x = bit_xor (w.word_of u st (read st (Slot 0))) (w.word_of u (closed st) v) in
      let told_is : checked st v ≡ Fault DELOCAL 0 = ap (λ b. run_result
      (fault_if DELOCAL (not b) >>= λ z. give (closed st)))
      same in
      let k = runs_fails w.im true (Equal 12 7) 3 (mk 0 ob fr 0 0 0 0 x (gone cs)) nz in
      subst (λ z. Will w.im (check_equal_cells VALUE NOUGHT DELOCAL) true z
      (Meets (HasOpenFrame w s u) w.rates n 2 (checked st v))) (sym i)
      (will_of w.im _ true _ _ _ k (meets_told _ _ (sym told_is) (faults (omega arith))))

  pub closes_var : (n : ℕ) (st : State) (m : Memory) → HasOpenFrame w (with_var s var) u st m
      → Will w.im (local_open j p) true m (Meets (HasOpenFrame w s u) w.rates n 55 (goes_away st))
  closes_var n st m h =
      let cs = m.cells in
      let x = w.word_of u st (read st (Slot 0)) in
      let cs1 = gone cs in
      let t = run_result (evaluated w.setting.program e (closed st)) in
      let rest : Will w.im (in_order true (p ∷ check_equal_cells VALUE NOUGHT DELOCAL ∷ [])) true
      (mk 0 ob fr 0 0 0 0 x cs1)
      (Meets (HasOpenFrame w s u) w.rates n (50 + 2) (told_then t (λ c v. checked st v))) =
      meets_then w.im true (λ v m1. m1 ≡ holding w u (bit_xor x (w.word_of u (closed st) v)) cs1) (HasOpenFrame w s u)
      w.rates n
      50 2 p (check_equal_cells VALUE NOUGHT DELOCAL ∷ []) (mk 0 ob fr 0 0 0 0 x cs1) t (λ c v. checked st v)
      (will_more w.im p true _ _ _ (λ o q. meets_rate (omega (arith, thousand)) q)
      (hp n true u x (closed st) cs1 (f.undeclares s u st cs var e h.open_frame is))) (λ c v m1 said i.
      last_check (n - c) st cs v c h.open_frame said m1 i (same_value (read st (Slot 0)) v) refl) in
      let said : goes_away st ≡ told_then t (λ c v. checked st v) =
      ap (λ r. told_then (run_result r) (λ c v. checked st v)) (f.not_named s u st cs var e h.open_frame is) in
      let all : Will w.im ((check_equal_cells VALUE NOUGHT DELOCAL ++ p) ++ store_code j) true (mk 0 ob fr 0 0 0 0 0 cs)
      (Meets (HasOpenFrame w s u) w.rates n 55 (goes_away st)) =
      will_two_back w.im (check_equal_cells VALUE NOUGHT DELOCAL ++ p) (store_code j) _ (mk 0 ob fr 0 0 0 0 x cs1) 3 _
      (stores w.im ob fr j cs (f.var_in s u st cs var e h.open_frame is)
      (near [] (with_var s var) st cs h.open_frame) true 0 x (f.var_word s u st cs var e h.open_frame is))
      (will_more w.im _ true _ _ _ (λ o q. meets_told _ _ (sym said) (meets_later 3 q)) rest) in
      subst (λ z. Will w.im (local_open j p) true z (Meets (HasOpenFrame w s u) w.rates n 55 (goes_away st)))
      (sym (as_known m _ h.regs_are))
      (subst (λ z. Will w.im z true (mk 0 ob fr 0 0 0 0 0 cs) (Meets (HasOpenFrame w s u) w.rates n 55 (goes_away st)))
      (append_assoc (check_equal_cells VALUE NOUGHT DELOCAL) p (store_code j)) all)

-- ---- the whole

module _ (w : World) (IsInit : Scope → Var → Expression → Type 0) (f : LocalFacts w IsInit)
    (thousand : w.rates.steps ≡ 1000) (counts : 1 ≤ w.rates.counts) (s : Scope) (u : w.Under) (var : Var) where
  -- what the source says of a block with a local variable
  abbrev says_local : ℕ → List ℕ → Expression → Statements → Expression → State → RunResult State
  says_local n name e body e' st =
      told_then (told_then (run_result (evaluated w.setting.program e st)) (λ c v. Fine (opened name v st) 0))
      (λ c st1. told_then (run_result (exec w.setting n body st1))
      (λ c end. told_then (run_result (evaluated w.setting.program e' end))
      (λ c v. run_result (fault_if DELOCAL (not (same_value (read end (Slot 0)) v)) >>= λ z. give
      (closed end)))))

  pub told_local : (n : ℕ) (name : List ℕ) (e : Expression) (body : Statements) (e' : Expression) (st : State)
      → run_result (with_local w.setting (exec w.setting n) name e body e' st) ≡ says_local n name e body e' st
  told_local n name e body e' st =
      let last : State → Value → Run State = λ end v. fault_if DELOCAL (not (same_value (read end (Slot 0)) v))
      >>= λ z. give (closed end) in
      let mid : State → Run State = λ end. evaluated w.setting.program e' end >>= last end in
      let H : State → RunResult State = λ st1. told_then (run_result (exec w.setting n body st1))
      (λ c end. told_then (run_result (evaluated w.setting.program e' end)) (λ c v. run_result (last end v))) in
      told_bind (evaluated w.setting.program e st) (λ v. exec w.setting n body (opened name v st) >>= mid)
      ∙ same_then (run_result (evaluated w.setting.program e st))
      (λ v. run_result (exec w.setting n body (opened name v st) >>= mid)) (λ v. H (opened name v st)) (λ v.
      told_bind (exec w.setting n body (opened name v st)) mid
      ∙ same_then (run_result (exec w.setting n body (opened name v st))) (λ end. run_result (mid end))
      (λ end. told_then (run_result (evaluated w.setting.program e' end)) (λ c v. run_result (last end v)))
      (λ end. told_bind (evaluated w.setting.program e' end) (last end)))
      ∙ sym (shift (run_result (evaluated w.setting.program e st)) (λ v. opened name v st) H)
    where
      shift : {A B C : Type 0} (t : RunResult A) (o : A → B) (G : B → RunResult C)
          → told_then (told_then t (λ c v. Fine (o v) 0)) (λ c x. G x) ≡ told_then t (λ c v. G (o v))
      shift (Fine a c) o G = let z : c + 0 ≡ c = omega arith in ap (λ k. plus k (G (o a))) z
      shift (Fault v c) o G = refl
      shift More o G = refl

  -- the three parts in the order of a direction
  in_parts : (n : ℕ) (d : Bool) (e : Expression) (body : Statements) (e' : Expression) (p1 pb p3 : List Symbol)
      (st : State) (m : Memory)
      → Will w.im p1 d m (Late 2 (Meets (HasOpenFrame w (with_var s var) u) w.rates n 53
      (told_then (run_result (evaluated w.setting.program e st)) (λ c v. Fine (opened var.name.text v st) 0))))
      → ((n' : ℕ) → n' ≤ n → Does w.im pb d (HasOpenFrame w (with_var s var) u) (HasOpenFrame w (with_var s var) u)
      w.rates n' 0
      (λ st. run_result (exec w.setting n body st)))
      → ((n' : ℕ) (st : State) (m : Memory) → HasOpenFrame w (with_var s var) u st m
      → Will w.im p3 d m (Meets (HasOpenFrame w s u) w.rates n' 55
      (told_then (run_result (evaluated w.setting.program e' st))
      (λ c v. run_result (fault_if DELOCAL (not (same_value (read st (Slot 0)) v)) >>= λ z. give
      (closed st))))))
      → Will w.im (in_order d (p1 ∷ pb ∷ p3 ∷ [])) d m (Meets (HasOpenFrame w s u) w.rates (n + 1) 0
      (plus 1 (says_local n var.name.text e body e' st)))
  in_parts n d e body e' p1 pb p3 st m first block last =
      let S = HasOpenFrame w (with_var s var) u in
      let rest : State → RunResult State = λ end. told_then (run_result (evaluated w.setting.program e' end))
      (λ c v. run_result (fault_if DELOCAL (not (same_value (read end (Slot 0)) v)) >>= λ z. give (closed end))) in
      will_more w.im _ d _ _ _ (λ o q. late_counts 1 0 counts (omega arith) (omega (arith, thousand)) q)
      (late_then w.im d S (HasOpenFrame w s u) w.rates n 53 (0 + 55) 2 p1 (pb ∷ p3 ∷ []) m _
      (λ c st1. told_then (run_result (exec w.setting n body st1)) (λ c end. rest end)) first (λ c st1 m1 said i.
      meets_then w.im d S (HasOpenFrame w s u) w.rates (n - c) 0 55 pb (p3 ∷ []) m1
      (run_result (exec w.setting n body st1))
      (λ c end. rest end) ((block (n - c) (omega arith)).does st1 m1 i) (λ c2 end m2 said2 i2.
      will_last w.im d p3 m2 _ (last (n - c - c2) end m2 i2))))

-- any statement that means a block with a local variable, and whose inverse means one too
module _ (w : World) (IsInit : Scope → Var → Expression → Type 0) (f : LocalFacts w IsInit)
    (thousand : w.rates.steps ≡ 1000) (counts : 1 ≤ w.rates.counts) (s : Scope) (var : Var) (value : Expression)
    (body : Statements) (end_value : Expression) (stmt : Statement)
    (meant : (n : ℕ) (st : State) → statement w.setting n (exec w.setting n) stmt st
    ≡ with_local w.setting (exec w.setting n) var.name.text value body end_value st)
    (meant_back : (n : ℕ) (st : State) → statement w.setting n (exec w.setting n) (turned_statement true stmt) st
    ≡ with_local w.setting (exec w.setting n) var.name.text end_value (inverse body) value st)
    (pv pb pe : List Symbol) (hv : ValueLaw w s value pv) (he : ValueLaw w s end_value pe)
    (hb : BlockLaw w (with_var s var) body pb) (is : IsInit s var value) (ie : IsInit s var end_value) where
  runs_local : (n : ℕ) → Owes w (suc n) → (d : Bool) (u : w.Under) (st : State) (m : Memory) → HasOpenFrame w s u st m
      → Will w.im (local_code (new_word s) pv pb pe) d m (Meets (HasOpenFrame w s u) w.rates (suc n) 0
      (run_result (one w.setting n (turned_statement d stmt) st)))
  runs_local n owes false u st m h =
      let less : (n' : ℕ) → n' ≤ n → Does w.im pb false (HasOpenFrame w (with_var s var) u)
      (HasOpenFrame w (with_var s var) u) w.rates
      n' 0 (λ st. run_result (exec w.setting n body st)) = λ n' l. record {
        does = λ a m1 i. will_more w.im pb false _ _ _ (λ o q. meets_less n' l q)
            ((hb n (λ k l2. owes k (omega arith)) false u).does a m1 i);
      } in
      let all = in_parts w IsInit f thousand counts s u var n false value body end_value (local_open (new_word s) pv) pb
      (mirror_cells (local_open (new_word s) pe)) st m (opens_var w IsInit f thousand s u var value pv hv is n st m
      h) less
      (λ n' a m1 i. will_mirror w.im (local_open (new_word s) pe) false m1 _
      (closes_var w IsInit f thousand s u var end_value pe he ie n' a m1 i)) in
      let said = ap (λ r. run_result (after_cost 1 r)) (meant n st)
      ∙ told_after 1 (with_local w.setting (exec w.setting n) var.name.text value body end_value st)
      ∙ ap (plus 1) (told_local w IsInit f thousand counts s u var n var.name.text value body end_value st) in
      subst (λ z. Will w.im (local_open (new_word s) pv ++ (pb ++ z)) false m
      (Meets (HasOpenFrame w s u) w.rates (suc n) 0 (run_result (one w.setting n stmt st))))
      (append-nil (mirror_cells (local_open (new_word s) pe)))
      (will_more w.im _ false _ _ _ (λ o q. meets_told _ _ (sym said) (meets_less (suc n) (omega arith) q)) all)
  runs_local n owes true u st m h =
      let less : (n' : ℕ) → n' ≤ n → Does w.im pb true (HasOpenFrame w (with_var s var) u)
      (HasOpenFrame w (with_var s var) u) w.rates
      n' 0 (λ st. run_result (exec w.setting n (inverse body) st)) =
      λ n' l. record {
        does = λ a m1 i. will_more w.im pb true _ _ _ (λ o q. meets_less n' l q)
            ((hb n (λ k l2. owes k (omega arith)) true u).does a m1 i);
      } in
      let all = in_parts w IsInit f thousand counts s u var n true end_value (inverse body) value
      (mirror_cells (local_open (new_word s) pe)) pb (local_open (new_word s) pv) st m
      (will_mirror w.im (local_open (new_word s) pe) true m _
      (opens_var w IsInit f thousand s u var end_value pe he ie n st m h)) less
      (λ n' a m1 i. closes_var w IsInit f thousand s u var value pv hv is n' a m1 i) in
      let said = ap (λ r. run_result (after_cost 1 r)) (meant_back n st)
      ∙ told_after 1 (with_local w.setting (exec w.setting n) var.name.text end_value (inverse body) value st)
      ∙ ap (plus 1) (told_local w IsInit f thousand counts s u var n var.name.text end_value (inverse body) value
      st) in
      subst (λ z. Will w.im z true m (Meets (HasOpenFrame w s u) w.rates (suc n) 0
      (run_result (one w.setting n (turned_statement true stmt) st))))
      (append_assoc (local_open (new_word s) pv) pb (mirror_cells (local_open (new_word s) pe)))
      (will_more w.im _ true _ _ _ (λ o q. meets_told _ _ (sym said) (meets_less (suc n) (omega arith) q)) all)

  pub with_local_law : StmtLaw w s stmt (local_code (new_word s) pv pb pe)
  with_local_law n owes d u = record { does = λ st m h. runs_local n owes d u st m h }

-- the code of a block with a local variable
pub local_law : (w : World) (IsInit : Scope → Var → Expression → Type 0) (f : LocalFacts w IsInit)
    → w.rates.steps ≡ 1000 → 1 ≤ w.rates.counts → (s : Scope) (at : ℕ) (var : Var) (value : Expression)
    (body : Statements) (end_var : Var) (end_value : Expression) → end_var.name.text ≡ var.name.text
    → (pv pb pe : List Symbol) → ValueLaw w s value pv → ValueLaw w s end_value pe → BlockLaw w (with_var s var) body pb
    → IsInit s var value → IsInit s var end_value → StmtLaw w s (Local at var value body end_var end_value)
    (local_code (new_word s) pv pb pe)
local_law w IsInit f thousand counts s at var value body end_var end_value same_name pv pb pe hv he hb is ie =
    with_local_law w IsInit f thousand counts s var value body end_value (Local at var value body end_var end_value)
    (λ n st. refl) (λ n st. ap (λ x. with_local w.setting (exec w.setting n) x end_value (inverse body) value st)
    same_name) pv pb pe hv he hb is ie

-- ---- statements that mean such a block

pub inverse_joined : (a b : Statements) → inverse (joined a b) ≡ joined (inverse b) (inverse a)
inverse_joined End b = sym (joined-end (inverse b))
inverse_joined (Then x a) b = ap (λ z. joined z (Then (inverse_statement x) End)) (inverse_joined a b)
    ∙ joined_assoc (inverse b) (inverse a) (Then (inverse_statement x) End)

-- the code of an object that is constructed
pub construct_law : (w : World) (IsInit : Scope → Var → Expression → Type 0) (f : LocalFacts w IsInit)
    → w.rates.steps ≡ 1000 → 1 ≤ w.rates.counts → (s : Scope) (at : ℕ) (class : Ident) (var : Var) (body : Statements)
    (end : Ident) (nil inside last : List Symbol) → ValueLaw w s (Null at) nil → ValueLaw w s (Null at) last
    → BlockLaw w (with_var s var) (constructed at class var.name body) inside → IsInit s var (Null at)
    → StmtLaw w s (Construct at class var.name body end) (local_code (new_word s) nil inside last)
construct_law w IsInit f thousand counts s at class var body end nil inside last hn hl hb is =
    with_local_law w IsInit f thousand counts s var (Null at) (constructed at class var.name body) (Null at)
    (Construct at class var.name body end) (λ n st. refl)
    (λ n st. ap (λ b. with_local w.setting (exec w.setting n) var.name.text (Null at) b (Null at) st)
    (turned_body at class var.name body)) nil inside last hn hl hb is is
  where
    turned_body : (at : ℕ) (class name : Ident) (body : Statements)
        → constructed at class name (inverse body) ≡ inverse (constructed at class name body)
    turned_body at class name body =
        let new = New at (AnObject class) (Whole name) in
        let delete = Delete at (AnObject class) (Whole name) in
        sym (ap (λ z. joined z (Then delete End)) (inverse_joined body (Then delete End)))

-- the code of a call on an element
pub element_call_law : (w : World) (IsInit : Scope → Var → Expression → Type 0) (f : LocalFacts w IsInit)
    → w.rates.steps ≡ 1000 → 1 ≤ w.rates.counts → (s : Scope) (at : ℕ) (back : Bool) (array : Ident)
    (index : Expression) (method : Ident) (args : List Ident) (var : Var) (nil inside last : List Symbol)
    → var.name ≡ element_name at → ValueLaw w s (Null at) nil → ValueLaw w s (Null at) last
    → BlockLaw w (with_var s var) (element_call at back array index method args) inside → IsInit s var (Null at)
    → StmtLaw w s (Call at back (Some (Item array index)) method args) (local_code (new_word s) nil inside last)
element_call_law w IsInit f thousand counts s at back array index method args var nil inside last named hn hl hb is =
    with_local_law w IsInit f thousand counts s var (Null at) (element_call at back array index method args) (Null at)
    (Call at back (Some (Item array index)) method args)
    (λ n st. ap (λ z. with_local w.setting (exec w.setting n) z.text (Null at)
    (element_call at back array index method args) (Null at) st) (sym named))
    (λ n st. ap (λ z. with_local w.setting (exec w.setting n) z.text (Null at)
    (inverse (element_call at back array index method args)) (Null at) st) (sym named)) nil inside last hn hl hb
    is is
