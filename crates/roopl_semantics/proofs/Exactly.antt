-- An image that implements a program ends exactly as the source does.
use Rattle.std.proofs.Common.{◌≡◌, ℕ, ◌+◌, refl, sym, ap, ◌∙◌, arith, List, Some}
use Rattle.buddy_book.specs.rpp_words.declared.input.FieldWord.{FieldWord}
use Rattle.buddy_book.specs.rpp_words.declared.input.Limits.{Limits}
use Rattle.inverse_rules.specs.rpp_tree.Tree.{Source}
use Rattle.code_conventions.specs.pisa_isa.declared.machine.Stop.{Stop}
use Rattle.code_conventions.specs.pisa_isa.declared.machine.Stop.TheVariants.{Finished, Returned, Trap, BadAddress, OffCode, Bound}
use Rattle.code_conventions.specs.pisa_isa.Image.{Segments}
use Rattle.roopl_semantics.specs.Run.{Run, Done, Fault}
use Rattle.roopl_semantics.specs.Store.{State}
use Rattle.roopl_semantics.specs.Source.{GivesDone, GivesFault, source}
use Rattle.roopl_semantics.specs.Layout.{layout}
use Rattle.roopl_semantics.specs.StandsFor.{run_of, Follows, cost_of, enough_steps}
use Rattle.roopl_semantics.specs.Exact.{FinishesWith, TrapsWith, EndsExactly}
use Rattle.roopl_semantics.proofs.MoreFuel.{source_done, source_fault}

-- the parts of a run's result, or these
abbrev end_of : State → Run State → State
end_of none (Done end cost) = end
end_of none _ = none

abbrev code_of : ℕ → Run State → ℕ
code_of none (Fault code cost) = code
code_of none _ = none

same_end : (run : Run State) (end other : State) (cost cost' : ℕ) → run ≡ Done end cost → run ≡ Done other cost'
    → other ≡ end
same_end run end other cost cost' e f = ap (end_of end) (sym f ∙ e)

same_fault : (run : Run State) (code other cost cost' : ℕ) → run ≡ Fault code cost → run ≡ Fault other cost'
    → other ≡ code
same_fault run code other cost cost' e f = ap (code_of code) (sym f ∙ e)

module _ (program : Source) (limits : Limits) (input : List FieldWord) where
  -- the source gives one store
  pub one_end : (end other : State) → GivesDone program limits input end → GivesDone program limits input other
      → other ≡ end
  one_end end other a b =
      let first = source_done program limits input a.fuel (a.fuel + b.fuel) end a.cost (omega arith) a.done in
      let second = source_done program limits input b.fuel (a.fuel + b.fuel) other b.cost (omega arith) b.done in
      same_end (source program limits input (a.fuel + b.fuel)) end other a.cost b.cost first second

  pub one_fault : (code other : ℕ) → GivesFault program limits input code → GivesFault program limits input other
      → other ≡ code
  one_fault code other a b =
      let first = source_fault program limits input a.fuel (a.fuel + b.fuel) code a.cost (omega arith) a.faults in
      let second = source_fault program limits input b.fuel (a.fuel + b.fuel) other b.cost (omega arith) b.faults in
      same_fault (source program limits input (a.fuel + b.fuel)) code other a.cost b.cost first second

  -- and no fault with it
  pub no_fault : (A : Type 0) (end : State) (code : ℕ) → GivesDone program limits input end
      → GivesFault program limits input code → A
  no_fault A end code a b =
      let first = source_done program limits input a.fuel (a.fuel + b.fuel) end a.cost (omega arith) a.done in
      let second = source_fault program limits input b.fuel (a.fuel + b.fuel) code b.cost (omega arith) b.faults in
      let no : Done end a.cost ≡ Fault code b.cost = sym first ∙ second in
      cc

  module _ (image : Segments) (follows : Follows program image limits input) where
    finishes_by : (end : State) → GivesDone program limits input end → (m : ℕ) (why : Stop)
        → (run_of image limits input m).why ≡ why → ((run_of image limits input m).why ≡ Bound → ⊥)
        → FinishesWith program image limits input end
    finishes_by end gives m Finished e unbound =
        let final = follows.finished m e in
        let same = one_end end final.end gives final.gives in
        record {
          steps = m;
          finishes = e;
          cells = final.cells
              ∙ ap (λ s. layout program limits image.statics s.store s.log) same;
        }
    finishes_by end gives m Returned e unbound = absurd (follows.not_returned m e)
    finishes_by end gives m (Trap code) e unbound = no_fault (FinishesWith program image limits input end) end code
        gives (follows.trapped m code e)
    finishes_by end gives m (BadAddress address) e unbound = absurd (follows.in_memory m address e)
    finishes_by end gives m (OffCode at) e unbound = absurd (follows.in_code m at e)
    finishes_by end gives m Bound e unbound = absurd (unbound e)

    traps_by : (code : ℕ) → GivesFault program limits input code → (m : ℕ) (why : Stop)
        → (run_of image limits input m).why ≡ why → ((run_of image limits input m).why ≡ Bound → ⊥)
        → TrapsWith image limits input code
    traps_by code gives m Finished e unbound =
        let final = follows.finished m e in no_fault (TrapsWith image limits input code) final.end code final.gives
        gives
    traps_by code gives m Returned e unbound = absurd (follows.not_returned m e)
    traps_by code gives m (Trap other) e unbound =
        let same = one_fault code other gives (follows.trapped m other e) in
        record { steps = m; traps = e ∙ ap (λ c. Trap c) same }
    traps_by code gives m (BadAddress address) e unbound = absurd (follows.in_memory m address e)
    traps_by code gives m (OffCode at) e unbound = absurd (follows.in_code m at e)
    traps_by code gives m Bound e unbound = absurd (unbound e)

    -- the steps that the source's cost allows
    enough : (cost fuel : ℕ) → cost_of (source program limits input fuel) ≡ Some cost
        → (run_of image limits input (enough_steps cost)).why ≡ Bound → ⊥
    enough cost fuel over = (follows.in_time cost (record { fuel = fuel; over = over })).ends (enough_steps cost)
        (omega arith)

    pub exactly : EndsExactly program image limits input
    exactly =
        record {
          finishes = λ end gives.
              finishes_by end gives (enough_steps gives.cost) (run_of image limits input (enough_steps gives.cost)).why
              refl (enough gives.cost gives.fuel (ap cost_of gives.done));
          finished = follows.finished;
          traps = λ code gives.
              traps_by code gives (enough_steps gives.cost) (run_of image limits input (enough_steps gives.cost)).why
              refl (enough gives.cost gives.fuel (ap cost_of gives.faults));
          trapped = follows.trapped;
        }
