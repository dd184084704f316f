-- The laws of values and conditions, over memories.
use Rattle.std.proofs.Common.{◌≡◌, ℕ, ◌+◌, inl, inr, Bool, true, false, List, [], ◌∷◌, refl, sym, ap}
use Rattle.std.proofs.Common.{◌∙◌, subst}
use Rattle.std.proofs.Common.{arith}
use Rattle.std.specs.Prelude.{slice_index, bit_xor, if◌then◌else◌, Result, Ok, Err}
use Rattle.register_expressions.specs.rpp_tree.Tree.{Expression}
use Rattle.register_expressions.specs.pisa_isa.Machine.{Memory}
use Rattle.register_expressions.specs.code_conventions.declared.registers.TheConstants.{TRUTH, FRAME}
use Rattle.register_expressions.specs.paired_code.Machine.{Image, memory_reg, memory_with_reg}
use Rattle.register_expressions.specs.paired_code.Pieces.{Done, Trapped, Runs}
use Rattle.register_expressions.specs.paired_code.declared.part.Symbol.{Symbol}
use Rattle.register_expressions.specs.roopl_semantics.Operators.{is_true, truth_word}
use Rattle.register_expressions.specs.refine_form.declared.spot.Spot.{Spot}
use Rattle.register_expressions.specs.Code.{Target, words, xor, truth_cells}
use Rattle.expr_uncompute.specs.Code.{value_cells, test_cells, result_of}
use Rattle.register_expressions.specs.Code.{held_value_cells, held_test_cells}
use Rattle.expr_uncompute.specs.Code.{prepared_value_cells, prepared_test_cells}
use Rattle.register_expressions.specs.Held.{is_held}
use Rattle.register_expressions.proofs.HeldBounds.{held_few}
use Rattle.register_expressions.specs.Number.{Bases, number, Sees}
use Rattle.expr_uncompute.specs.Steps.{value_steps, test_steps, prepared_value_steps, prepared_test_steps}
use Rattle.register_expressions.specs.Steps.{held_value_steps, held_test_steps}
use Rattle.register_expressions.specs.Laws.{Temporary, bases_of, Ready, Xored, truth_of}
use Rattle.register_expressions.proofs.Goes.{runs_along, TrapsBoth, both_more}
use Rattle.register_expressions.proofs.HeldLaws
use Rattle.register_expressions.proofs.Known.{tabulated, tabulated_is}
use Rattle.register_expressions.proofs.Scratch.{Scratch, keeping, registers, mem}
use Rattle.register_expressions.proofs.Results.{IsTarget, at0, at1, at11, at12, at13, at14, at15, at25, at26, at27}
use Rattle.register_expressions.proofs.Results.{at28, at29, at30, at31, target_is, written}
use Rattle.expr_uncompute.proofs.Prepare.{Fit}
use Rattle.expr_uncompute.proofs.ValueLaws.{value_into, test_into, into_traps, value_traps, written_twice}

-- ---- a memory by its registers

full : (f : ℕ → ℕ) → tabulated 32 f ≡ f 0 ∷ f 1 ∷ f 2 ∷ f 3 ∷ f 4 ∷ f 5 ∷ f 6 ∷ f 7 ∷ f 8 ∷ f 9 ∷ f 10 ∷ f 11 ∷ f 12
    ∷ f 13 ∷ f 14 ∷ f 15 ∷ f 16 ∷ f 17 ∷ f 18 ∷ f 19 ∷ f 20 ∷ f 21 ∷ f 22 ∷ f 23 ∷ f 24 ∷ f 25 ∷ f 26 ∷ f 27 ∷ f 28
    ∷ f 29 ∷ f 30 ∷ f 31 ∷ []
full f = refl

cleared : (f : ℕ → ℕ) → ((r : ℕ) → Temporary r → f r ≡ 0)
    → tabulated 32 f ≡ registers (record { object = f 3; frame = f 4 }) f (keeping 0 0 0)
cleared f h =
    let h5 = h 5 (inl (omega arith, omega arith)) in
    let h6 = h 6 (inl (omega arith, omega arith)) in
    let h7 = h 7 (inl (omega arith, omega arith)) in
    let h8 = h 8 (inl (omega arith, omega arith)) in
    let h9 = h 9 (inl (omega arith, omega arith)) in
    let h10 = h 10 (inl (omega arith, omega arith)) in
    let h16 = h 16 (inr (omega arith, omega arith)) in
    let h17 = h 17 (inr (omega arith, omega arith)) in
    let h18 = h 18 (inr (omega arith, omega arith)) in
    let h19 = h 19 (inr (omega arith, omega arith)) in
    let h20 = h 20 (inr (omega arith, omega arith)) in
    let h21 = h 21 (inr (omega arith, omega arith)) in
    let h22 = h 22 (inr (omega arith, omega arith)) in
    let h23 = h 23 (inr (omega arith, omega arith)) in
    let h24 = h 24 (inr (omega arith, omega arith)) in
    full f ∙ cc

pub as_mem : (free n : ℕ) (m : Memory) → Ready free n m → m ≡ mem (bases_of m) (memory_reg m) (keeping 0 0 0) m.cells
as_mem free n m h = ap (λ r. record m { regs = r }) (tabulated_is 32 m.regs h.count
    ∙ cleared (slice_index m.regs) h.clear)

-- one of the other registers written
target_set : (b : Bases) (f : ℕ → ℕ) (s : Scratch) (zs : List ℕ) (i x : ℕ) → IsTarget i
    → memory_with_reg (mem b f s zs) i x ≡ mem b (written f i x) s zs
target_set b f s zs i x at0 = refl
target_set b f s zs i x at1 = refl
target_set b f s zs i x at11 = refl
target_set b f s zs i x at12 = refl
target_set b f s zs i x at13 = refl
target_set b f s zs i x at14 = refl
target_set b f s zs i x at15 = refl
target_set b f s zs i x at25 = refl
target_set b f s zs i x at26 = refl
target_set b f s zs i x at27 = refl
target_set b f s zs i x at28 = refl
target_set b f s zs i x at29 = refl
target_set b f s zs i x at30 = refl
target_set b f s zs i x at31 = refl

pub fit_of : (spot : List ℕ → Spot) (free : ℕ) (e : Expression) (m : Memory) → Ready free (words e) m
    → Sees spot (bases_of m) (memory_reg m FRAME + free) m.cells e → Fit spot free (bases_of m) e 0 m.cells
fit_of spot free e m h s = record {
  all = h.words;
  sees = s;
  room = record { fits = let l = h.inside in omega arith; small = h.small };
  empty = λ a lo hi. h.empty a (omega arith) (omega arith);
}

module _ (spot : List ℕ → Spot) (free into : ℕ) (e : Expression) (m : Memory) (target : Target into)
    (ready : Ready free (words e) m) (sees : Sees spot (bases_of m) (memory_reg m FRAME + free) m.cells e) (im : Image)
    (d : Bool)
  where
    abbrev b : Bases
    b = bases_of m

    abbrev seen : Memory
    seen = mem (bases_of m) (memory_reg m) (keeping 0 0 0) m.cells

    same : m ≡ mem (bases_of m) (memory_reg m) (keeping 0 0 0) m.cells
    same = as_mem free (words e) m ready

    -- a run over the registers as they are known
    run_of : (p : List Symbol) (x k : ℕ) → Runs im p d (mem (bases_of m) (memory_reg m) (keeping 0 0 0) m.cells)
        (Done (mem (bases_of m) (written (memory_reg m) into x) (keeping 0 0 0) m.cells) k)
        → Runs im p d m (Done (memory_with_reg m into x) k)
    run_of p x k r =
        let t : memory_with_reg m into x ≡ mem (bases_of m) (written (memory_reg m) into x) (keeping 0 0 0) m.cells =
        ap (λ z. memory_with_reg z into x) same ∙ target_set b (memory_reg m) (keeping 0 0 0) m.cells into x
        (target_is into target)
        in
        subst (λ z. Runs im p d z (Done (memory_with_reg m into x) k)) (sym same)
        (subst (λ z. Runs im p d seen (Done z k)) (sym t) r)

    value_by : (r : Result ℕ ℕ) → number spot (bases_of m) m.cells e ≡ r
        → Xored into (prepared_value_steps e) m r im (prepared_value_cells spot free e into) d
    value_by (Ok v) n =
        let t = target_is into target in
        let fit = fit_of spot free e m ready sees in
        let f' : ℕ → ℕ = written (memory_reg m) into (bit_xor (memory_reg m into) v) in
        let back = value_into spot free b 0 0 0 e 0 m.cells fit f' v into n t in
        let there = value_into spot free b 0 0 0 e 0 m.cells fit (memory_reg m) v into n t in
        run_of (prepared_value_cells spot free e into) _ (prepared_value_steps e)
        (runs_along there (Rattle.register_expressions.proofs.Goes.goes_to refl refl
        (written_twice b (memory_reg m) (keeping 0 0 0) m.cells into v t) back) im d)
    value_by (Err c) n =
        let a = (both_more (omega arith) (value_traps spot free b 0 0 0 e 0 m.cells (fit_of spot free e m ready sees)
        (memory_reg m) c (xor into (result_of e) ∷ []) n)).runs im d in
        (a.0, a.1, subst (λ z. Runs im (prepared_value_cells spot free e into) d z (Trapped c a.0)) (sym same) a.2)

    -- the code of an expression with words of the frame xors its number into a register, or traps, in either direction,
    -- and nothing else differs
    prepared_value : Xored into (prepared_value_steps e) m (number spot (bases_of m) m.cells e) im
        (prepared_value_cells spot free e into)
        d
    prepared_value = value_by (number spot (bases_of m) m.cells e) refl

    test_by : (r : Result ℕ ℕ) → number spot (bases_of m) m.cells e ≡ r
        → Xored into (prepared_test_steps e) m (truth_of r) im (prepared_test_cells spot free e into) d
    test_by (Ok v) n =
        let t = target_is into target in
        let fit = fit_of spot free e m ready sees in
        let f' : ℕ → ℕ = written (memory_reg m) into (bit_xor (memory_reg m into) (truth_word (is_true v))) in
        let back = test_into spot free b 0 0 0 e 0 m.cells fit f' v into n t in
        let there = test_into spot free b 0 0 0 e 0 m.cells fit (memory_reg m) v into n t in
        run_of (prepared_test_cells spot free e into) _ (prepared_test_steps e)
        (runs_along there (Rattle.register_expressions.proofs.Goes.goes_to refl refl
        (written_twice b (memory_reg m) (keeping 0 0 0) m.cells into (truth_word (is_true v)) t) back) im d)
    test_by (Err c) n =
        let a = (both_more (omega arith) (into_traps spot free b 0 0 0 e 0 m.cells (fit_of spot free e m ready sees)
        (memory_reg m) c (truth_cells TRUTH (result_of e)) (xor into TRUTH ∷ []) n)).runs im d in
        (a.0, a.1, subst (λ z. Runs im (prepared_test_cells spot free e into) d z (Trapped c a.0)) (sym same) a.2)

    prepared_test : Xored into (prepared_test_steps e) m (truth_of (number spot (bases_of m) m.cells e)) im
        (prepared_test_cells spot free e into) d
    prepared_test = test_by (number spot (bases_of m) m.cells e) refl

    -- and with its parts in registers, if there are enough
    pub value_law : Xored into (value_steps e) m (number spot (bases_of m) m.cells e) im (value_cells spot free e into)
        d
    value_law = by (is_held e) refl
      where
        by : (t : Bool) → is_held e ≡ t → Xored into (if t then held_value_steps e else prepared_value_steps e) m
            (number spot (bases_of m) m.cells e) im
            (if t then held_value_cells spot e into else prepared_value_cells spot free e into) d
        by true q = HeldLaws.held_value spot free into e m target ready sees (held_few e q) im d
        by false q = prepared_value

    pub test_law : Xored into (test_steps e) m (truth_of (number spot (bases_of m) m.cells e)) im
        (test_cells spot free e into) d
    test_law = by (is_held e) refl
      where
        by : (t : Bool) → is_held e ≡ t → Xored into (if t then held_test_steps e else prepared_test_steps e) m
            (truth_of (number spot (bases_of m) m.cells e)) im
            (if t then held_test_cells spot e into else prepared_test_cells spot free e into) d
        by true q = HeldLaws.held_test spot free into e m target ready sees (held_few e q) im d
        by false q = prepared_test
