-- If the source never ends, an image that implements it never stops.
use Rattle.std.proofs.Common.{◌≡◌, ◌∙◌, sym, refl, ℕ, List}
use Rattle.refine_program.specs.rpp_words.declared.input.FieldWord.{FieldWord}
use Rattle.refine_program.specs.rpp_words.declared.input.Limits.{Limits}
use Rattle.refine_program.specs.rpp_tree.Tree.{Source}
use Rattle.refine_program.specs.pisa_isa.declared.machine.Stop.{Stop}
use Rattle.refine_program.specs.pisa_isa.declared.machine.Stop.TheVariants.{Finished, Returned, Trap, BadAddress, OffCode, Bound}
use Rattle.refine_program.specs.pisa_isa.Image.{Segments}
use Rattle.refine_program.specs.roopl_semantics.Run.{Run, Done, Fault, More}
use Rattle.refine_program.specs.roopl_semantics.Store.{State}
use Rattle.refine_program.specs.roopl_semantics.Source.{source}
use Rattle.refine_program.specs.roopl_semantics.StandsFor.{Follows, run_of}
use Rattle.program_codegen.specs.Endless.{EndlessImagesRunOn}

no_done : (A : Type 0) (run : Run State) (end : State) (cost : ℕ) → run ≡ More → run ≡ Done end cost → A
no_done A run end cost e f = let no : More ≡ Done end cost = sym e ∙ f in cc

no_fault : (A : Type 0) (run : Run State) (code cost : ℕ) → run ≡ More → run ≡ Fault code cost → A
no_fault A run code cost e f = let no : More ≡ Fault code cost = sym e ∙ f in cc

module _ (program : Source) (image : Segments) (limits : Limits) (input : List FieldWord)
    (follows : Follows program image limits input)
    (endless : (fuel : ℕ) → source program limits input fuel ≡ More) where
  bound_by : (m : ℕ) (why : Stop) → (run_of image limits input m).why ≡ why → why ≡ Bound
  bound_by m Finished e =
      let gives = (follows.finished m e).gives in
      no_done (Finished ≡ Bound) (source program limits input gives.fuel) (follows.finished m e).end gives.cost
      (endless gives.fuel) gives.done
  bound_by m (Trap code) e =
      let gives = follows.trapped m code e in
      no_fault (Trap code ≡ Bound) (source program limits input gives.fuel) code gives.cost (endless gives.fuel)
      gives.faults
  bound_by m Returned e = absurd (follows.not_returned m e)
  bound_by m (BadAddress address) e = absurd (follows.in_memory m address e)
  bound_by m (OffCode at) e = absurd (follows.in_code m at e)
  bound_by m Bound e = refl

pub run_on : EndlessImagesRunOn
run_on program image limits input stands in_range valid endless m =
    bound_by program image limits input (stands.follows limits input in_range valid) endless m
    (run_of image limits input m).why refl
