-- A routine's body: the link and the place are saved around the code of its block.
use Rattle.std.proofs.Common.{◌≡◌, ℕ, ◌+◌, ◌-◌, ◌^◌, ◌<◌, Bool, true, List, [], refl, sym, ap, ◌∙◌, subst, arith}
use Rattle.std.specs.Prelude.{slice_set}
use Rattle.refine_form.specs.rpp_tree.Tree.{Procedure}
use Rattle.refine_form.specs.pisa_isa.Machine.{Memory}
use Rattle.refine_form.specs.code_conventions.declared.memory.TheConstants.{PLACE_WORD}
use Rattle.refine_form.specs.paired_code.declared.part.Symbol.{Symbol}
use Rattle.refine_form.specs.paired_code.Pieces.{Will}
use Rattle.refine_form.specs.paired_code.Does.{Fine, told_then, Meets, fine}
use Rattle.refine_form.proofs.paired_code_laws.Laws.{will_more}
use Rattle.refine_form.specs.roopl_semantics.Store.{State}
use Rattle.refine_form.specs.roopl_semantics.Execution.{exec, in_direction}
use Rattle.refine_form.specs.Form.{World, Scope, HasOpenFrame, Entered, Owes, BlockLaw, MethodLaw, registers, run_result}
use Rattle.method_calls.specs.CallCode.{save_row, method_code}
use Rattle.method_calls.specs.Facts.{KnownCalls, FrameFacts}
use Rattle.refine_form.proofs.Rules.{as_known, wraps, meets_told, meets_slack}
use Rattle.refine_form.proofs.Told.{alone}
use Rattle.method_calls.proofs.Depth.{will_save, will_restore}
use Rattle.refine_form.specs.paired_code.Rows.{line}
use Rattle.refine_form.proofs.Memories.{mk}

module _ (w : World) (knows : KnownCalls w) (f : FrameFacts w knows) (s : Scope) (method : Procedure) (p : List Symbol)
    (hp : BlockLaw w s method.body p) where
  runs : (n : ℕ) → Owes w n → (d : Bool) (u : w.Under) (link place : ℕ) → w.IsFresh u → 0 < link → link < 2 ^ 32
      → place < 2 ^ 32 → (st : State) (m : Memory) → Entered w s u link place st m
      → Will w.im (method_code p) d m (Meets (Entered w s u link place) w.rates n 40
      (run_result (exec w.setting n (in_direction d method.body) st)))
  runs n owes d u link place fresh pos lw pw st m h =
      let ob = w.object_of u in
      let fr = w.frame_of u in
      let cs = m.cells in
      let t = run_result (exec w.setting n (in_direction d method.body) st) in
      let u2 = knows.put u link place in
      let free = f.puts.saves s u st cs h.open_frame fresh in
      let small = (f.steady s u [] st cs h.open_frame).frame_small in
      let cs1 = slice_set (slice_set cs fr link) (fr + PLACE_WORD) place in
      let inner : HasOpenFrame w s u2 st (mk 0 ob fr 0 0 0 0 0 cs1) = record {
        regs_are = ap (λ o. registers 0 o fr 0 0 0 0 0) (sym (f.puts.put_object u link place))
            ∙ ap (λ r. registers 0 (w.object_of u2) r 0 0 0 0 0) (sym (f.puts.put_frame u link place));
        open_frame = f.puts.put_opens s u st cs link place h.open_frame fresh lw pw;
      } in
      let all : Will w.im (method_code p) d (mk link ob fr 0 0 0 0 place cs)
      (Meets (Entered w s u link place) w.rates n (4 + (0 + 4)) (told_then t (λ c a. Fine a 0))) =
      wraps w.im d (line save_row) p (mk link ob fr 0 0 0 0 place cs) (mk 0 ob fr 0 0 0 0 0 cs1) (HasOpenFrame w s u2)
      (Entered w s u link place) w.rates n 0 4 4 t (λ a. Fine a 0)
      (will_save w.im ob fr link place cs free.words_in small free.link_word free.place_word)
      ((hp n owes d u2).does st _ inner) (λ a m2 c e r.
      let cs2 = m2.cells in
      let words = f.puts.put_words s u a cs2 link place r.open_frame fresh in
      let known : m2 ≡ mk 0 ob fr 0 0 0 0 0 cs2 = as_known m2 _
      (r.regs_are ∙ ap (λ o. registers 0 o (w.frame_of u2) 0 0 0 0 0) (f.puts.put_object u link place)
      ∙ ap (λ k. registers 0 ob k 0 0 0 0 0) (f.puts.put_frame u link place)) in
      let cs3 = slice_set (slice_set cs2 (fr + PLACE_WORD) 0) fr 0 in
      let end : Entered w s u link place a (mk link ob fr 0 0 0 0 place cs3) =
      record { regs_are = refl; open_frame = f.puts.put_back s u a cs2 link place r.open_frame fresh } in
      subst (λ z. Will w.im (line save_row) true z (Meets (Entered w s u link place) w.rates (n - c) 4 (Fine a 0)))
      (sym known)
      (will_more w.im (line save_row) true _ _ _ (λ o q. subst
      (Meets (Entered w s u link place) w.rates (n - c) 4 (Fine a 0)) (sym q)
      (fine end (omega arith) (omega arith))) (will_restore w.im ob fr link place cs2 words.words_in small
      words.link_word words.place_word))) in
      subst (λ z. Will w.im (method_code p) d z (Meets (Entered w s u link place) w.rates n 40 t))
      (sym (as_known m _ h.regs_are))
      (will_more w.im (method_code p) d _ _ _ (λ o q. meets_told _ _ (alone t) (meets_slack 40 (omega arith) q)) all)

  -- the code of a method
  pub method_law : MethodLaw w s method (method_code p)
  method_law n owes d u link place fresh pos lw pw = record
      { does = λ st m h. runs n owes d u link place fresh pos lw pw st m h }
