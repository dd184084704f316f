-- The main fragment, from the loaded memory.
use Rattle.std.proofs.Common.{◌≡◌, ℕ, suc, ◌+◌, ◌-◌, ◌*◌, ◌^◌, ◌<◌, ◌≤◌, Bool, true, false, List, [], ◌∷◌, length, refl}
use Rattle.std.proofs.Common.{sym, ap, ◌∙◌, subst, arith}
use Rattle.std.specs.Prelude.{slice_index, slice_set}
use Rattle.std.proofs.Math.ListN.{length-set}
use Rattle.refine_form.specs.rpp_words.Words.{negated}
use Rattle.refine_form.specs.rpp_words.declared.input.FieldWord.{FieldWord}
use Rattle.refine_form.specs.rpp_words.declared.input.Limits.{Limits}
use Rattle.refine_form.specs.rpp_tree.Tree.{Source}
use Rattle.refine_form.specs.pisa_isa.Loaded.{loaded}
use Rattle.refine_form.specs.pisa_isa.Machine.{Memory}
use Rattle.refine_form.specs.pisa_isa.declared.fixed.TheConstants.{STACK_CELL}
use Rattle.refine_form.specs.code_conventions.declared.memory.TheConstants.{MAIN_OBJECT}
use Rattle.refine_form.specs.code_conventions.declared.registers.TheConstants.{ADDRESS, CONTENT, FRAME, LINK, OBJECT}
use Rattle.refine_form.specs.paired_code.declared.part.Symbol.TheVariants.{Enter}
use Rattle.refine_form.specs.paired_code.Machine.{Image, memory_reg, memory_with_reg}
use Rattle.refine_form.specs.paired_code.Pieces.{Outcome, Done, Will}
use Rattle.refine_form.specs.paired_code.Does.{RunResult, Fine, Meets, fine, faults, more}
use Rattle.refine_form.specs.paired_code.Laws.{outcome_of}
use Rattle.refine_form.specs.paired_code.Rows.{line}
use Rattle.refine_form.proofs.paired_code_laws.Laws.{will_more}
use Rattle.refine_form.proofs.paired_code_laws.Call.{Returns, will_enter}
use Rattle.refine_form.specs.roopl_semantics.Store.{State}
use Rattle.refine_form.specs.roopl_semantics.Source.{starting, main_body}
use Rattle.refine_form.specs.roopl_semantics.Layout.{layout}
use Rattle.refine_form.specs.roopl_semantics.Execution.{exec}
use Rattle.refine_form.specs.Form.{World, Entered, AllMethods, registers, run_result}
use Rattle.refine_form.proofs.Told.{alone}
use Rattle.refine_form.proofs.Rules.{as_known, wraps, meets_told, meets_slack}
use Rattle.refine_form.proofs.Rows.{here, next, will_row}
use Rattle.refine_form.proofs.Blocks.{all_owe}
use Rattle.refine_form.specs.code_conventions.Cells.{add, exch, addi}
use Rattle.method_calls.specs.CallCode.{main_row, main_code}
use Rattle.method_calls.specs.Facts.{KnownCalls, FrameFacts, MainFacts}
use Rattle.method_calls.proofs.Exchanges.{exchanges}
use Rattle.method_calls.proofs.Addresses.{sum_is, difference_is}
use Rattle.method_calls.proofs.Depth.{filled, emptied}
use Rattle.refine_form.proofs.Memories.{mk}

module _ (im : Image) (fr : ℕ) (cs : List ℕ) (inside : STACK_CELL < length cs) (base : slice_index cs STACK_CELL ≡ fr)
    (small : fr < 2 ^ 23) where
  abbrev gone : List ℕ
  gone = slice_set cs STACK_CELL 0

  still_in : STACK_CELL < length gone
  still_in = omega (arith, length-set cs STACK_CELL 0, inside)

  refills : (d : Bool) (o f : ℕ) → outcome_of d (exch CONTENT ADDRESS) (mk 0 o f STACK_CELL fr 0 0 0 gone)
      ≡ Done (mk 0 o f STACK_CELL 0 0 0 0 cs) 1
  refills d o f =
      exchanges d CONTENT ADDRESS (mk 0 o f STACK_CELL fr 0 0 0 gone) still_in
      ∙ ap (λ v. Done (mk 0 o f STACK_CELL v 0 0 0 (slice_set gone STACK_CELL fr)) 1)
      (emptied cs STACK_CELL inside) ∙ ap (λ v. Done (mk 0 o f STACK_CELL 0 0 0 0 (slice_set gone STACK_CELL v)) 1)
      (sym base)
      ∙ ap (λ l. Done (mk 0 o f STACK_CELL 0 0 0 0 l) 1) (filled cs STACK_CELL)

  pub sets_out : Will im (line main_row) false (mk 0 0 0 0 0 0 0 0 cs)
      (λ o. o ≡ Done (mk 0 MAIN_OBJECT fr 0 0 0 0 0 cs) 6)
  sets_out =
      will_row im false main_row 6 _ _
      (next refl (omega arith) refl
      (next refl (omega arith) refl
      (next refl (omega arith) (exchanges false CONTENT ADDRESS (mk 0 MAIN_OBJECT 0 STACK_CELL 0 0 0 0 cs) inside
      ∙ ap (λ v. Done (mk 0 MAIN_OBJECT 0 STACK_CELL v 0 0 0 gone) 1) base)
      (next refl (omega arith) (ap (λ v. Done (mk 0 MAIN_OBJECT v STACK_CELL fr 0 0 0 gone) 1)
      (sum_is 0 fr fr (omega arith) (omega (arith, small))))
      (next refl (omega arith) (refills false MAIN_OBJECT fr)
      (next refl (omega arith) refl here))))))

  pub comes_home : Will im (line main_row) true (mk 0 MAIN_OBJECT fr 0 0 0 0 0 cs)
      (λ o. o ≡ Done (mk 0 0 0 0 0 0 0 0 cs) 6)
  comes_home =
      will_row im true (addi ADDRESS (negated STACK_CELL) ∷ exch CONTENT ADDRESS ∷ add FRAME CONTENT
      ∷ exch CONTENT ADDRESS ∷ addi ADDRESS STACK_CELL ∷ addi OBJECT MAIN_OBJECT ∷ []) 6 _ _
      (next refl (omega arith) refl
      (next refl (omega arith) (exchanges true CONTENT ADDRESS (mk 0 MAIN_OBJECT fr STACK_CELL 0 0 0 0 cs) inside
      ∙ ap (λ v. Done (mk 0 MAIN_OBJECT fr STACK_CELL v 0 0 0 gone) 1) base)
      (next refl (omega arith) (ap (λ v. Done (mk 0 MAIN_OBJECT v STACK_CELL fr 0 0 0 gone) 1)
      (difference_is fr fr 0 (omega arith) (omega (arith, small))))
      (next refl (omega arith) (refills true MAIN_OBJECT 0)
      (next refl (omega arith) refl
      (next refl (omega arith) refl here))))))

module _ (w : World) (knows : KnownCalls w) (f : FrameFacts w knows) (statics : List ℕ) (input : List FieldWord)
    (mf : MainFacts w statics input) (laws : AllMethods w) where
  abbrev program : Source
  program = w.setting.program

  abbrev limits : Limits
  limits = w.setting.limits

  abbrev loaded_cells : List ℕ
  loaded_cells = loaded statics limits input

  -- in main's call, $2 is 0
  record InMain (st : State) (m : Memory) : Type 0 where
    regs_are : m.regs ≡ registers 0 MAIN_OBJECT (w.frame_of mf.first) 0 0 0 0 0
    open_frame : w.opens (w.routines.scope mf.main) mf.first [] st m.cells

  returned : {n : ℕ} {t : RunResult State} {o : Outcome} (link : ℕ)
      → Meets (Entered w (w.routines.scope mf.main) mf.first link 0) w.rates n 40 t o
      → Returns link false (Meets InMain w.rates n 50 t) o
  returned link (fine {a = a} {m = m} {c = c} {k = k} r l x) =
      let known = as_known m _ (r.regs_are ∙ ap (λ o. registers link o (w.frame_of mf.first) 0 0 0 0 0) mf.object_is) in (
        ap (λ z. memory_reg z LINK) known,
        fine (record {
          regs_are = ap (λ z. (memory_with_reg z LINK 0).regs) known;
          open_frame = r.open_frame;
        }) (grow w.rates.counts k c l) (omega arith),
      )
    where
      grow : (b k c : ℕ) → c ≤ b * k → c ≤ b * (k + 7)
      grow b k c h = grind arith
  returned link (faults x) = faults (omega arith)
  returned {n = n} link (more {k = k} l) = more (grow w.rates.counts k l)
    where
      grow : (b k : ℕ) → n ≤ b * (k + 1) → n ≤ b * (3 + k + 1)
      grow b k h = grind arith

  abbrev start : Memory
  start = mk 0 0 0 0 0 0 0 0 loaded_cells

  -- the memory is the layout, and the registers are 0
  abbrev pub Ended : State → Memory → Type 0
  Ended st m = m ≡ mk 0 0 0 0 0 0 0 0 (layout program limits statics st.store st.log)

  pub main_does : (n : ℕ) → Will w.im (main_code (w.routines.number mf.main)) false start
      (Meets Ended w.rates n 900 (run_result (exec w.setting n (main_body program) (starting program input))))
  main_does n =
      let fr = w.frame_of mf.first in
      let s = w.routines.scope mf.main in
      let stands = f.image.placed mf.main mf.is_routine in
      let t = run_result (exec w.setting n (main_body program) (starting program input)) in
      let owed = all_owe w laws (suc n) n (omega arith) mf.main mf.is_routine in
      let inner : (link : ℕ) → 0 < link → link < 2 ^ 32 → Will w.im (w.routines.body mf.main) false
      (memory_with_reg (mk 0 MAIN_OBJECT fr 0 0 0 0 0 loaded_cells) 2 link)
      (Returns link false (Meets InMain w.rates n 50 t))
      =
      λ link pos lw.
      let inside : Entered w s mf.first link 0 (starting program input) (mk link MAIN_OBJECT fr 0 0 0 0 0 loaded_cells)
      =
      record { regs_are = ap (λ o. registers link o fr 0 0 0 0 0) (sym mf.object_is); open_frame = mf.starts } in
      will_more w.im (w.routines.body mf.main) false _ _ _
      (λ o q. returned link (meets_told _ _ (ap (λ b. run_result (exec w.setting n b (starting program input)))
      mf.is_main) q)) ((owed false mf.first link 0 mf.fresh pos lw (omega arith)).does
      (starting program input) (mk link MAIN_OBJECT fr 0 0 0 0 0 loaded_cells) inside) in
      let mid : Will w.im (Enter (w.routines.number mf.main) false ∷ []) false
      (mk 0 MAIN_OBJECT fr 0 0 0 0 0 loaded_cells)
      (Meets InMain w.rates n 50 t) =
      will_enter w.im (w.routines.number mf.main) (w.routines.top mf.main) (w.routines.body mf.main) false false
      (mk 0 MAIN_OBJECT fr 0 0 0 0 0 loaded_cells) _ stands f.image.tidy.short (omega arith) refl inner in
      let all = wraps w.im false (line main_row) (Enter (w.routines.number mf.main) false ∷ []) start
      (mk 0 MAIN_OBJECT fr 0 0 0 0 0 loaded_cells) InMain Ended w.rates n 50 6 6 t (λ a. Fine a 0)
      (sets_out w.im fr loaded_cells (mf.base_in _ _ mf.starts) (mf.base_is _ _ mf.starts) mf.frame_small) mid
      (λ a m2 c e i.
      let known = as_known m2 _ i.regs_are in
      let end : Ended a (mk 0 0 0 0 0 0 0 0 m2.cells) = ap (mk 0 0 0 0 0 0 0 0) (mf.ends a m2.cells i.open_frame) in
      subst (λ z. Will w.im (line main_row) true z (Meets Ended w.rates (n - c) 6 (Fine a 0))) (sym known)
      (will_more w.im (line main_row) true _ _ _ (λ o q. subst (Meets Ended w.rates (n - c) 6 (Fine a 0)) (sym q)
      (fine end (omega arith) (omega arith))) (comes_home w.im fr m2.cells (mf.base_in a m2.cells i.open_frame)
      (mf.base_is a m2.cells i.open_frame) mf.frame_small))) in
      will_more w.im (main_code (w.routines.number mf.main)) false _ _ _
      (λ o q. meets_told _ _ (alone t) (meets_slack 900 (omega arith) q)) all
