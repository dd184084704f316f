-- Where a walk has come to, the next step is undone; and so it is in every run of an accepted program.
use Rattle.std.proofs.Common.{◌≡◌, ℕ, zero, suc, ◌≤◌, arith, refl, sym, ap, subst, ◌∙◌, Bool, true, false, List}
use Rattle.std.proofs.Common.{[], ◌∷◌}
use Rattle.meaning_machine.specs.rpp_words.declared.input.FieldWord.{FieldWord}
use Rattle.meaning_machine.specs.rpp_words.declared.input.Limits.{Limits}
use Rattle.meaning_machine.specs.rpp_words.Limits.{IsLimits}
use Rattle.meaning_machine.specs.rpp_tree.Tree.{Statements, Source, End, Then}
use Rattle.meaning_machine.specs.class_rules.Program.{IsAccepted}
use Rattle.meaning_machine.specs.roopl_semantics.Run.{Done, after_cost, ◌>>=◌}
use Rattle.meaning_machine.specs.roopl_semantics.Store.{State}
use Rattle.meaning_machine.specs.roopl_semantics.Execution.{Setting}
use Rattle.meaning_machine.specs.roopl_semantics.Source.{IsValid, main_body, starting}
use Rattle.meaning_machine.specs.Machine.{Config, Open, next, walk}
use Rattle.meaning_machine.specs.MachineLaws.{gone_past, config_before}
use Rattle.meaning_machine.specs.SourceLaws.{set_for, start_config}
use Rattle.meaning_inverse.proofs.meaning_sound_laws.Accepted.{knows_classes}
use Rattle.meaning_inverse.proofs.meaning_sound_laws.Plainness.{program_plain}
use Rattle.meaning_inverse.proofs.Runs.{in_parts, done_result}
use Rattle.meaning_inverse.proofs.Later.{Ends}
use Rattle.meaning_inverse.proofs.Grounded.{checked_ground}
use Rattle.meaning_inverse.proofs.Law.{main_context, main_checked, starting_good}
use Rattle.meaning_reversed.specs.ReverseLaws.{LeadsTo, is_over, StepsAreUndone}
use Rattle.meaning_reversed.proofs.Undoing.{AllBack}
use Rattle.meaning_reversed.proofs.AllSteps.{all_back}

module _ (setting : Setting) where
  -- a run that is over stays where it is
  over_stays : (past rest : Statements) (params : ℕ) (around : List Open) (st : State) → is_over rest around ≡ true
      → let x = config_before past rest params around st in next setting x ≡ Done x 0
  over_stays past End params [] st e = refl
  over_stays past End params (o ∷ around) st e = cc
  over_stays past (Then s rest) params around st e = cc

  over_walks : (m : ℕ) (x : Config) → is_over x.rest x.around ≡ true → walk setting m x ≡ Done x 0
  over_walks zero x e = refl
  over_walks (suc m) x e =
      ap (λ r. r >>= walk setting m) (over_stays x.past x.rest x.params x.around x.state e)
      ∙ ap (after_cost 0) (over_walks m x e)

  -- a step is undone after so many that are
  along : (m : ℕ) (x z : Config) (c : ℕ) → AllBack setting (suc m) x → walk setting m x ≡ Done z c
      → is_over z.rest z.around ≡ false → Ends (next setting z) (LeadsTo setting z)
  along zero x z c all e going =
      let P : Config → Type 0 = λ w. is_over w.rest w.around ≡ false → Ends (next setting w) (LeadsTo setting w) in
      subst P (done_result x z 0 c e) (λ g. record { by = λ y d f. ((all g).by y d f).0 }) going
  along (suc m) x z c all e going = by (is_over x.rest x.around) refl (λ y d f. along m y z d f)
    where
      by : (t : Bool) → is_over x.rest x.around ≡ t
          → ((y : Config) (d : ℕ) → AllBack setting (suc m) y → walk setting m y ≡ Done z d
          → is_over z.rest z.around ≡ false → Ends (next setting z) (LeadsTo setting z))
          → Ends (next setting z) (LeadsTo setting z)
      by true over more =
          let same : x ≡ z = done_result x z 0 c (sym (over_walks (suc m) x over) ∙ e) in
          let not_so : true ≡ false = sym over ∙ ap (λ (w : Config). is_over w.rest w.around) same ∙ going in
          cc
      by false g more =
          let parts = in_parts (next setting x) (walk setting m) z c e in
          more parts.middle parts.after ((all g).by parts.middle parts.before parts.first).1 parts.second going

  -- nothing has to be shown after the end
  at_the_end : (n : ℕ) (past : Statements) (params : ℕ) (st : State)
      → AllBack setting n (config_before past End params [] st)
  at_the_end zero past params st = tt
  at_the_end (suc n) past params st = λ going. cc

module _ (program : Source) (limits : Limits) (input : List FieldWord) (accepted : IsAccepted program)
    (inside : IsLimits limits) (valid : IsValid program input) where
  -- so many steps from the start of an accepted program
  all_from_start : (n : ℕ) → AllBack (set_for program limits) n (start_config program input)
  all_from_start n =
      let setting : Setting = set_for program limits in
      let classes = knows_classes program accepted (program_plain program accepted) in
      let on = checked_ground setting classes in
      let main = main_context program limits input accepted inside valid in
      let start = starting program input in
      all_back setting on.ground on.fresh n n (let z : n ≤ n = omega arith in z) (on.context main) End
      (main_body program) 0 [] start
      (on.typed main (main_body program) (main_checked program limits input accepted inside valid))
      (on.good main start (starting_good program limits input accepted inside valid))
      (λ i li end cost runs. at_the_end setting i (gone_past (main_body program) End) 0 end)

-- each step of a run of an accepted program is undone
pub steps_undone : StepsAreUndone
steps_undone program limits input accepted inside valid steps x y cost step_cost came going e =
    (along (set_for program limits) steps (start_config program input) x cost
    (all_from_start program limits input accepted inside valid (suc steps)) came going).by y step_cost e
