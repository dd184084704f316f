-- The wrapped run, with every bound, ends as the source does.
use Rattle.std.proofs.Common.{◌≡◌, ◌≢◌, ◌∙◌, sym, subst, refl, ℕ, ◌≤◌, arith, List, length, ⊎_elim}
use Rattle.std.proofs.lemmas.Bool.{cases_lt}
use Rattle.bennett_wrap.specs.rpp_words.declared.input.FieldWord.{FieldWord}
use Rattle.bennett_wrap.specs.rpp_words.declared.input.Limits.{Limits}
use Rattle.meaning_sound.specs.rpp_tree.Tree.{Source}
use Rattle.bennett_wrap.specs.pisa_isa.declared.cell.Cell.{Cell}
use Rattle.bennett_wrap.specs.pisa_isa.declared.machine.Stop.{Stop}
use Rattle.bennett_wrap.specs.pisa_isa.declared.machine.Stop.TheVariants.{Finished, Returned, Trap, BadAddress, OffCode, Bound}
use Rattle.bennett_wrap.specs.pisa_isa.Image.{Segments}
use Rattle.bennett_wrap.specs.pisa_isa.Runs.{End}
use Rattle.bennett_wrap.proofs.pisa_isa_laws.Reached.{spent-le}
use Rattle.meaning_sound.specs.roopl_semantics.Source.{GivesFault}
use Rattle.meaning_sound.specs.roopl_semantics.StandsFor.{Follows, run_of, enough_steps}
use Rattle.bennett_wrap.specs.Wrapped.{steps_wrapped}
use Rattle.bennett_wrap.proofs.Earlier.{earlier}
use Rattle.refine_wrap.specs.Programs.{wrapped_run, EndsDone, EndsAsSource, FollowsWrapped}
use Rattle.refine_wrap.specs.Laws.{WrappedProgramsFollow}
use Rattle.refine_wrap.proofs.Bounds.{WrapsProgram}
use Rattle.refine_wrap.proofs.Room.{wraps_program}

-- a run that is not over says nothing
not_over : (program : Source) (image : Segments) (cells : List ℕ) (limits : Limits) (input : List FieldWord) (e : End)
    → e.why ≡ Bound → EndsAsSource program image cells limits input e
not_over program image cells limits input e b = record {
  done = λ f. absurd (let x : Bound ≡ Finished = sym b ∙ f in cc);
  fault = λ w f. absurd (let x : Bound ≡ Trap w = sym b ∙ f in cc);
  not_returned = λ f. let x : Bound ≡ Returned = sym b ∙ f in cc;
  in_code = λ at f. let x : Bound ≡ OffCode at = sym b ∙ f in cc;
  in_memory = λ at f. let x : Bound ≡ BadAddress at = sym b ∙ f in cc;
}

at_done : (program : Source) (image : Segments) (cells : List ℕ) (limits : Limits) (input : List FieldWord) (e : End)
    → e.why ≡ Finished → EndsDone program image cells limits input e.last
    → EndsAsSource program image cells limits input e
at_done program image cells limits input e b d = record {
  done = λ f. d;
  fault = λ w f. absurd (let x : Finished ≡ Trap w = sym b ∙ f in cc);
  not_returned = λ f. let x : Finished ≡ Returned = sym b ∙ f in cc;
  in_code = λ at f. let x : Finished ≡ OffCode at = sym b ∙ f in cc;
  in_memory = λ at f. let x : Finished ≡ BadAddress at = sym b ∙ f in cc;
}

same_word : {v w : ℕ} → Trap v ≡ Trap w → v ≡ w
same_word e = cc

at_fault : (program : Source) (image : Segments) (cells : List ℕ) (limits : Limits) (input : List FieldWord) (e : End)
    (v : ℕ) → e.why ≡ Trap v → ((w : ℕ) → v ≡ w → GivesFault program limits input w)
    → EndsAsSource program image cells limits input e
at_fault program image cells limits input e v b g = record {
  done = λ f. absurd (let x : Trap v ≡ Finished = sym b ∙ f in cc);
  fault = λ w f. g w (same_word (sym b ∙ f));
  not_returned = λ f. let x : Trap v ≡ Returned = sym b ∙ f in cc;
  in_code = λ at f. let x : Trap v ≡ OffCode at = sym b ∙ f in cc;
  in_memory = λ at f. let x : Trap v ≡ BadAddress at = sym b ∙ f in cc;
}

module _ (program : Source) (image : Segments) (cells : List ℕ) (wrapped : List Cell) (limits : Limits)
    (input : List FieldWord) (follows : Follows program image limits input)
    (wraps : WrapsProgram program image cells wrapped limits input) (few : length cells ≤ 64) where
  abbrev all : ℕ → End
  all bound = wrapped_run image cells wrapped limits input bound

  -- if the run finishes within the bound: with steps enough the wrapped run finishes, and with
  -- fewer it is not over
  finishes_by : (m bound : ℕ) → (run_of image limits input m).why ≡ Finished
      → EndsAsSource program image cells limits input (all bound)
  finishes_by m bound fin =
      let total : ℕ = steps_wrapped (run_of image limits input m).spent cells in
      ⊎_elim
      (λ l.
      let a = wraps.adds m total fin (omega arith) in
      let spent = a.finishes.spent in
      not_over program image cells limits input (all bound) (earlier wrapped total bound _ (omega arith)))
      (λ l.
      let a = wraps.adds m bound fin l in
      at_done program image cells limits input (all bound) a.finishes.why
      (record { end = a.end; gives = a.gives; registers = a.finishes.registers; memory = a.finishes.memory }))
      (cases_lt bound total)

  ends_by : (bound : ℕ) (w : Stop) → (run_of image limits input bound).why ≡ w
      → EndsAsSource program image cells limits input (all bound)
  ends_by bound Finished e = finishes_by bound bound e
  ends_by bound (Trap v) e =
      let within : (run_of image limits input bound).spent ≤ bound = spent-le image.code bound _ in
      let a = wraps.faults bound bound v e within in
      at_fault program image cells limits input (all bound) v a.traps.why
      (λ w s. subst (GivesFault program limits input) s a.gives)
  ends_by bound Bound e = not_over program image cells limits input (all bound) (wraps.goes_on bound e)
  ends_by bound Returned e = absurd (follows.not_returned bound e)
  ends_by bound (OffCode at) e = absurd (follows.in_code bound at e)
  ends_by bound (BadAddress at) e = absurd (follows.in_memory bound at e)

  over_by : (m bound : ℕ) (w : Stop) → (run_of image limits input m).why ≡ w → w ≢ Bound → steps_wrapped m cells ≤ bound
      → (all bound).why ≢ Bound
  over_by m bound Finished e open_end le =
      let within : (run_of image limits input m).spent ≤ m = spent-le image.code m _ in
      let a = wraps.adds m bound e (omega arith) in
      λ b. let x : Finished ≡ Bound = sym a.finishes.why ∙ b in cc
  over_by m bound (Trap v) e open_end le =
      let within : (run_of image limits input m).spent ≤ m = spent-le image.code m _ in
      let a = wraps.faults m bound v e (omega arith) in
      λ b. let x : Trap v ≡ Bound = sym a.traps.why ∙ b in cc
  over_by m bound Bound e open_end le = absurd (open_end refl)
  over_by m bound Returned e open_end le = absurd (follows.not_returned m e)
  over_by m bound (OffCode at) e open_end le = absurd (follows.in_code m at e)
  over_by m bound (BadAddress at) e open_end le = absurd (follows.in_memory m at e)

  follows_wrapped : FollowsWrapped program image cells wrapped limits input
  follows_wrapped = record {
    ends = λ bound. ends_by bound (run_of image limits input bound).why refl;
    in_time = λ cost bound over le.
        over_by (enough_steps cost) bound (run_of image limits input (enough_steps cost)).why refl
        ((follows.in_time cost over).ends (enough_steps cost) (omega arith)) (omega arith);
  }

pub wrapped_programs_follow : WrappedProgramsFollow
wrapped_programs_follow program image cells wrapped limits input i stands wraps few statics l v words =
    follows_wrapped program image cells wrapped limits input (stands.follows limits input l v)
    (wraps_program program image cells wrapped limits input i stands wraps few statics l v words) few
