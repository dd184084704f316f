-- The value of an expression, or its truth value, xored into a register.
use Rattle.std.proofs.Common.{◌≡◌, ◌≢◌, ℕ, ◌+◌, List, [], ◌∷◌, ◌++◌, refl, ap, ◌∙◌, arith}
use Rattle.std.specs.Prelude.{bit_xor, Ok, Err}
use Rattle.register_expressions.proofs.rpp_words_laws.Laws.{xor-twice}
use Rattle.register_expressions.specs.rpp_tree.declared.tree.BinOp.{BinOp}
use Rattle.register_expressions.specs.rpp_tree.declared.tree.BinOp.TheVariants as op
use Rattle.register_expressions.specs.rpp_tree.Tree.{Expression, Number, Null, Variable, Element, Binary}
use Rattle.register_expressions.specs.paired_code.Machine.{memory_reg}
use Rattle.register_expressions.specs.paired_code.declared.part.Symbol.{Symbol}
use Rattle.register_expressions.specs.roopl_semantics.Operators.{is_true, truth_word}
use Rattle.register_expressions.specs.refine_form.declared.spot.Spot.{Spot}
use Rattle.register_expressions.specs.Code.{around, xor, truth_cells}
use Rattle.expr_uncompute.specs.Code.{open_cells, parts_cells, result_of}
use Rattle.register_expressions.specs.Code.{operator_result}
use Rattle.register_expressions.specs.Number.{Bases, number}
use Rattle.expr_uncompute.specs.Steps.{open_steps, parts_steps, prepared_value_steps, prepared_test_steps}
use Rattle.register_expressions.proofs.Goes.{Goes, goes_seq, goes_to, goes_around, traps_first, TrapsBoth, traps_around}
use Rattle.register_expressions.proofs.Goes.{traps_inside, both_more}
use Rattle.register_expressions.proofs.Scratch.{Scratch, keeping, mem}
use Rattle.register_expressions.proofs.Reading.{in_truth}
use Rattle.register_expressions.proofs.Results.{IsTarget, at0, at1, at11, at12, at13, at14, at15, at25, at26, at27}
use Rattle.register_expressions.proofs.Results.{at28, at29, at30, at31, written, into_goes, truth_goes}
use Rattle.register_expressions.proofs.Numbers.{number_word}
use Rattle.expr_uncompute.proofs.Stored.{parted}
use Rattle.expr_uncompute.proofs.Opening.{based, emptied, opened, open_goes, open_gives, result_has}
use Rattle.expr_uncompute.proofs.Prepare.{Fit, parts_done, parted_sees, parted_number, parted_room, parts_goes}
use Rattle.expr_uncompute.proofs.Prepare.{NodeFault, early, late, node_fault}
use Rattle.register_expressions.specs.code_conventions.declared.registers.TheConstants.{TRUTH}

-- a register is as it was after the same xor again
pub written_twice : (b : Bases) (f : ℕ → ℕ) (s : Scratch) (zs : List ℕ) (i v : ℕ) → IsTarget i
    → mem b (written (written f i (bit_xor (f i) v)) i (bit_xor (written f i (bit_xor (f i) v) i) v)) s zs
    ≡ mem b f s zs
written_twice b f s zs i v at0 = ap (λ z. mem b (written f 0 z) s zs) (xor-twice (f 0) v)
written_twice b f s zs i v at1 = ap (λ z. mem b (written f 1 z) s zs) (xor-twice (f 1) v)
written_twice b f s zs i v at11 = ap (λ z. mem b (written f 11 z) s zs) (xor-twice (f 11) v)
written_twice b f s zs i v at12 = ap (λ z. mem b (written f 12 z) s zs) (xor-twice (f 12) v)
written_twice b f s zs i v at13 = ap (λ z. mem b (written f 13 z) s zs) (xor-twice (f 13) v)
written_twice b f s zs i v at14 = ap (λ z. mem b (written f 14 z) s zs) (xor-twice (f 14) v)
written_twice b f s zs i v at15 = ap (λ z. mem b (written f 15 z) s zs) (xor-twice (f 15) v)
written_twice b f s zs i v at25 = ap (λ z. mem b (written f 25 z) s zs) (xor-twice (f 25) v)
written_twice b f s zs i v at26 = ap (λ z. mem b (written f 26 z) s zs) (xor-twice (f 26) v)
written_twice b f s zs i v at27 = ap (λ z. mem b (written f 27 z) s zs) (xor-twice (f 27) v)
written_twice b f s zs i v at28 = ap (λ z. mem b (written f 28 z) s zs) (xor-twice (f 28) v)
written_twice b f s zs i v at29 = ap (λ z. mem b (written f 29 z) s zs) (xor-twice (f 29) v)
written_twice b f s zs i v at30 = ap (λ z. mem b (written f 30 z) s zs) (xor-twice (f 30) v)
written_twice b f s zs i v at31 = ap (λ z. mem b (written f 31 z) s zs) (xor-twice (f 31) v)

operator_apart : (o : BinOp) → operator_result o ≢ TRUTH
operator_apart op.Add h = omega arith
operator_apart op.Sub h = omega arith
operator_apart op.Xor h = omega arith
operator_apart _ h = omega arith

result_apart : (e : Expression) → result_of e ≢ TRUTH
result_apart (Number at word) h = omega arith
result_apart (Null at) h = omega arith
result_apart (Variable name) h = omega arith
result_apart (Element name index) h = omega arith
result_apart (Binary at o left right) h = operator_apart o h

module _ (spot : List ℕ → Spot) (free : ℕ) (b : Bases) where
  abbrev low : ℕ
  low = b.frame + free

  module _ (m p q : ℕ) (e : Expression) (i : ℕ) (zs : List ℕ) (fit : Fit spot free b e i zs) where
    abbrev whole_parts : List ℕ
    whole_parts = parted spot free b e i zs

    -- the node opened, with its parts prepared
    open_there : (f : ℕ → ℕ) (v : ℕ) → number spot b zs e ≡ Ok v
        → Goes (open_cells spot free e i) (open_steps e) (mem b f (keeping m p q) (parted spot free b e i zs))
        (mem (based spot free b e) f (opened spot free b m p q (parted spot free b e i zs) e)
        (emptied spot free b e (parted spot free b e i zs)))
    open_there f v n =
        let d = parts_done spot free b e i zs fit in
        open_goes spot free b m p q f e i v whole_parts d.all (parted_sees spot free b e i zs fit)
        (parted_room spot free b e i zs fit) d.parts (parted_number spot free b e i zs fit ∙ n)

    gives : (f : ℕ → ℕ) (v : ℕ) → number spot b zs e ≡ Ok v → (zs' : List ℕ)
        → memory_reg (mem (based spot free b e) f (opened spot free b m p q (parted spot free b e i zs) e) zs')
        (result_of e)
        ≡ v
    gives f v n zs' = open_gives spot free b m p q f e v whole_parts zs' (parted_number spot free b e i zs fit ∙ n)

    -- xored into a register that code of expressions does not use
    module _ (f : ℕ → ℕ) (v into : ℕ) (n : number spot b zs e ≡ Ok v) (t : IsTarget into) where
      abbrev f' : ℕ → ℕ
      f' = written f into (bit_xor (f into) v)

      pub value_into : Goes (around (parts_cells spot free e i)
          (around (open_cells spot free e i) (xor into (result_of e) ∷ []))) (prepared_value_steps e)
          (mem b f (keeping m p q) zs) (mem b (written f into (bit_xor (f into) v)) (keeping m p q) zs)
      value_into =
          let sink = into_goes (based spot free b e) f (opened spot free b m p q whole_parts e)
          (emptied spot free b e whole_parts)
          (result_of e) v (result_has spot free b m p q f e) (gives f v n (emptied spot free b e whole_parts)) into
          t in
          goes_around (parts_goes spot free b m p q f e i v zs fit n)
          (goes_around (open_there f v n) sink (open_there f' v n)) (parts_goes spot free b m p q f' e i v zs fit n)

    -- its truth value
    module _ (f : ℕ → ℕ) (v into : ℕ) (n : number spot b zs e ≡ Ok v) (t : IsTarget into) where
      abbrev told : ℕ
      told = truth_word (is_true v)

      abbrev with_truth : Scratch
      with_truth = record (opened spot free b m p q whole_parts e) { truth = told }

      truth_there : (g : ℕ → ℕ) → Goes (open_cells spot free e i ++ truth_cells TRUTH (result_of e)) (open_steps e + 2)
          (mem b g (keeping m p q) whole_parts) (mem (based spot free b e) g with_truth
          (emptied spot free b e whole_parts))
      truth_there g =
          let s : Scratch = opened spot free b m p q whole_parts e in
          let vw = number_word spot b low zs fit.all e fit.sees v n in
          let k = truth_goes (based spot free b e) (result_of e) (result_apart e) (result_has spot free b m p q g e) g s
          (emptied spot free b e whole_parts) v vw (gives g v n (emptied spot free b e whole_parts)) in
          goes_seq (open_there g v n) (goes_to refl (ap (λ z. mem (based spot free b e) g z
          (emptied spot free b e whole_parts))
          (no_truth e)) refl k)
        where
          no_truth : (e : Expression) → record (opened spot free b m p q whole_parts e) { truth = 0 }
              ≡ opened spot free b m p q whole_parts e
          no_truth (Number at word) = refl
          no_truth (Null at) = refl
          no_truth (Variable name) = refl
          no_truth (Element name index) = refl
          no_truth (Binary at o left right) = refl

      pub test_into : Goes (around (parts_cells spot free e i)
          (around (open_cells spot free e i ++ truth_cells TRUTH (result_of e)) (xor into TRUTH ∷ [])))
          (prepared_test_steps e)
          (mem b f (keeping m p q) zs) (mem b (written f into (bit_xor (f into) (truth_word (is_true v))))
          (keeping m p q) zs)
      test_into =
          let g : ℕ → ℕ = written f into (bit_xor (f into) told) in
          let sink = into_goes (based spot free b e) f with_truth (emptied spot free b e whole_parts) TRUTH told
          in_truth refl into t in
          goes_around (parts_goes spot free b m p q f e i v zs fit n) (goes_around (truth_there f) sink (truth_there g))
          (parts_goes spot free b m p q g e i v zs fit n)

    -- a fault of either
    pub into_traps : (f : ℕ → ℕ) (c : ℕ) (w mid : List Symbol) → number spot b zs e ≡ Err c
        → TrapsBoth (around (parts_cells spot free e i) (around (open_cells spot free e i ++ w) mid))
        (parts_steps e + open_steps e) c (mem b f (keeping m p q) zs)
    into_traps f c w mid n = by (node_fault spot free b m p q f e i c zs fit n)
      where
        by : NodeFault spot free b m p q f e i c zs → TrapsBoth
            (around (parts_cells spot free e i) (around (open_cells spot free e i ++ w) mid))
            (parts_steps e + open_steps e) c (mem b f (keeping m p q) zs)
        by (early t) = both_more (omega arith) (traps_around (around (open_cells spot free e i ++ w) mid) t)
        by (late g t) = traps_inside g (traps_around mid (traps_first w t))

    pub value_traps : (f : ℕ → ℕ) (c : ℕ) (mid : List Symbol) → number spot b zs e ≡ Err c
        → TrapsBoth (around (parts_cells spot free e i) (around (open_cells spot free e i) mid))
        (parts_steps e + open_steps e) c (mem b f (keeping m p q) zs)
    value_traps f c mid n = by (node_fault spot free b m p q f e i c zs fit n)
      where
        by : NodeFault spot free b m p q f e i c zs → TrapsBoth
            (around (parts_cells spot free e i) (around (open_cells spot free e i) mid)) (parts_steps e + open_steps e)
            c (mem b f (keeping m p q) zs)
        by (early t) = both_more (omega arith) (traps_around (around (open_cells spot free e i) mid) t)
        by (late g t) = traps_inside g (traps_around mid t)
