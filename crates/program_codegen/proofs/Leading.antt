-- The class tables of an image with the marks of a program lead to routines.
use Rattle.std.proofs.Common.{◌∙◌, ℕ, ◌+◌, List, []}
use Rattle.std.specs.Prelude.{slice_get}
use Rattle.std.specs.Option.{unwrap_or}
use Rattle.refine_program.specs.rpp_words.declared.input.Limits.{Limits}
use Rattle.refine_program.specs.rpp_tree.Tree.{Source}
use Rattle.refine_program.specs.pisa_isa.Image.{Segments}
use Rattle.refine_program.specs.paired_code.declared.part.Symbol.{Symbol}
use Rattle.refine_program.specs.refine_calls.Laws.{IsRouted}
use Rattle.refine_program.specs.Methods.{routine_in}
use Rattle.refine_program.specs.Laws.{statement_address}
use Rattle.program_codegen.specs.Subroutines.{TablesLeadToSwapbr, CallsEnterBySwapbr}

linked_leads : (program : Source) (image : Segments) (starts : List ℕ) (bodies : List (List Symbol)) (tops : ℕ → ℕ)
    (limits : Limits) → IsRouted (statement_address program image starts bodies tops limits) (routine_in program)
    → TablesLeadToSwapbr program image
linked_leads program image starts bodies tops limits linked = record {
  starts = starts;
  places = linked.has.places;
  words = linked.statics_are ∙ linked.has.words;
  leads = λ own class slot name above inside slot_is.
      let route = linked.routes own class slot name above inside slot_is in
      record {
        number = 1 + routine_in program own name;
        top = tops (routine_in program own name);
        body = unwrap_or (slice_get bodies (routine_in program own name)) [];
        behind_top = route.place_is;
        form = linked.placed (routine_in program own name) route.below;
      };
}

pub enter_by_swapbr : CallsEnterBySwapbr
enter_by_swapbr program image marks has =
    let limits : Limits = record { heap = 1; deep = 1 } in
    let routines = has.rows.routines in
    linked_leads program image has.rows.starts routines.bodies routines.tops limits (routines.linked limits)
