-- An image that is linked of the code of `main` and of all routines implements the program, with
-- its marks.
use Rattle.std.proofs.Common.{◌≡◌, ◌∙◌, sym, ap, subst, ℕ, ◌+◌, ◌*◌, ◌≤◌, List, [], ◌∷◌, ◌++◌, length, map, arith}
use Rattle.std.specs.List.{AllZip}
use Rattle.std.specs.List.Sorted.{IsPermutation, IsNonDecreasingBy}
use Rattle.std.proofs.lemmas.List.{length-map}
use Rattle.std.proofs.lemmas.List.Sorted.{IsPermutation-trans, IsPermutation-sym}
use Rattle.refine_program.specs.rpp_tree.Parts.{source_tokens}
use Rattle.refine_program.specs.rpp_tree.Tree.{Source}
use Rattle.refine_program.specs.class_rules.Program.{IsAccepted}
use Rattle.refine_program.specs.pisa_isa.declared.cell.Cell.{Cell}
use Rattle.refine_program.specs.pisa_isa.declared.notes.Mark.{Mark}
use Rattle.refine_program.specs.pisa_isa.Image.{Segments}
use Rattle.refine_program.specs.paired_code.declared.part.StaticWord.{StaticWord}
use Rattle.refine_program.specs.paired_code.declared.part.Symbol.{Symbol}
use Rattle.refine_program.specs.paired_code.Code.{Code, bodies, shift, routine_marks, link_marks, marks_size}
use Rattle.refine_program.specs.paired_code.Link.{link_positions, first_top, link_code, link_size, static_word, Linked}
use Rattle.refine_program.proofs.paired_code_laws.Linking.{length-link}
use Rattle.refine_program.specs.roopl_semantics.StandsFor.{StandsFor}
use Rattle.refine_program.specs.method_calls.Laws.{MainCode}
use Rattle.refine_program.specs.Laws.{most_cells, IsProgramImage}
use Rattle.refine_program.specs.Methods.{RoutineEntry, entries, main_routine, statics_of}
use Rattle.program_codegen.specs.Notes.{unmarked_from, HasMarks}
use Rattle.program_codegen.specs.Routines.{IsRoutine, AreRoutines}
use Rattle.refine_program.proofs.Stated.{linked_programs_stand, program_images_have_routines, statics_are_few}
use Rattle.program_codegen.proofs.Counts.{tokens_within, cells_few, marks_few}
use Rattle.program_codegen.proofs.Entries.{codes_of}
use Rattle.program_codegen.proofs.ImageMarks.{ranges_of}
use Rattle.program_codegen.proofs.Unmarked.{spare, at_most_all, unmarked_permuted, all_spare}

module _ (program : Source) (pieces : List Code) (are : AreRoutines program pieces) where
  -- what holds for the allocator and the methods holds for all
  of_all : (P : List Code → Type 0) → P (are.allocator ∷ are.methods) → P pieces
  of_all P h = subst P (sym are.all) h

  -- so many cells and marks are linked
  pub few_cells : (main : List Symbol) → length main ≡ 13
      → link_size main (bodies pieces) ≤ 200 * source_tokens program + 123
  few_cells main long =
      let few = cells_few program (entries program) are.methods are.codes in
      of_all (λ ps. link_size main (bodies ps) ≤ 200 * source_tokens program + 123)
      (omega (arith, long, are.allocates.size, few, tokens_within program))

  pub few_marks : (marks : List Mark) → marks ≡ [] → length marks + marks_size pieces ≤ source_tokens program
  few_marks marks none =
      let e : length marks ≡ 0 = ap length none in
      let a : length are.allocator.marks ≡ 0 = ap length are.allocates.marks in
      let few = marks_few program (entries program) are.methods are.codes in
      of_all (λ ps. length marks + marks_size ps ≤ source_tokens program)
      (omega (arith, e, a, few, tokens_within program))

  pub code_size : (main : List Symbol) (code : List Cell) → length main ≡ 13 → code ≡ link_code main (bodies pieces)
      → length code ≤ 200 * source_tokens program + 123
  code_size main code long is = omega (arith, ap length is, length-link main (bodies pieces), few_cells main long)

  module _ (main : Code) (image : Segments) (law : Linked main.cells (bodies pieces)
      (record { code = image.code; routines = link_positions (first_top main.cells) (bodies pieces) })) where
    pub is_program_image : IsAccepted program → (number : ℕ) → MainCode number main.cells
        → number ≡ 1 + main_routine program
        → image.statics ≡ statics_of program 1 (link_positions (first_top main.cells) (bodies pieces))
        → IsProgramImage program main.cells are.allocator.cells (bodies are.methods) image
    is_program_image accepted number made is statics =
        let at : List (List Symbol) → List ℕ = link_positions (first_top main.cells) in
        record {
          accepted = accepted;
          main_code = subst (λ n. MainCode n main.cells) is made;
          allocates = are.allocates.law;
          codes = codes_of program (entries program) are.methods are.codes;
          linked = subst (λ ps. Linked main.cells (bodies ps) (record { code = image.code; routines = at (bodies ps) }))
              are.all law;
          statics = statics ∙ ap (λ ps. statics_of program 1 (at (bodies ps))) are.all;
        }

    pub stands : IsProgramImage program main.cells are.allocator.cells (bodies are.methods) image
        → StandsFor program image
    stands is = linked_programs_stand program main.cells are.allocator.cells (bodies are.methods) image is

    -- the cells outside of bodies, and few of theirs
    few_unmarked : (es : List RoutineEntry) (ps : List Code) → AllZip (IsRoutine program) es ps
        → spare ps ≤ 12 * length es
    few_unmarked [] [] h = omega arith
    few_unmarked [] (p ∷ ps) h = absurd h
    few_unmarked (e ∷ es) [] h = absurd h
    few_unmarked (e ∷ es) (p ∷ ps) h = let one = h.0.unmarked in let more = few_unmarked es ps h.1 in
        omega (arith, one, more)

    pub has_marks : IsProgramImage program main.cells are.allocator.cells (bodies are.methods) image
        → (marks : List Mark) → length main.cells ≡ 13 → main.marks ≡ []
        → image.code ≡ link_code main.cells (bodies pieces)
        → IsPermutation (link_marks main pieces) marks → IsNonDecreasingBy (λ k. k.at) marks
        → HasMarks program image marks
    has_marks is marks long none code same ascending =
        let first = first_top main.cells in
        let starts = link_positions first (bodies (are.allocator ∷ are.methods)) in
        let has = program_images_have_routines program main.cells are.allocator.cells (bodies are.methods) image is in
        let next = first + 1 + 1 + 1 + length are.allocator.cells + 1 in
        let r = ranges_of program image starts is.accepted has 1 next (entries program) are.methods are.codes
        is.linked.routines_there.1 in
        let of_routines : IsPermutation (link_marks main pieces) r.ranges =
        of_all (λ ps. IsPermutation (link_marks main ps) r.ranges)
        (subst (λ z. IsPermutation (shift 1 z ++ (shift (first + 1 + 1 + 1) are.allocator.marks
        ++ routine_marks next are.methods)) r.ranges) (sym none)
        (subst (λ z. IsPermutation (shift (first + 1 + 1 + 1) z ++ routine_marks next are.methods) r.ranges)
        (sym are.allocates.marks) r.same))
        in
        record {
          rows = record {
            starts = starts;
            routines = has;
            ranges = r.ranges;
            same = IsPermutation-trans marks (link_marks main pieces) r.ranges
                (IsPermutation-sym (link_marks main pieces) marks same) of_routines;
            each = r.each;
          };
          nested = r.nested;
          ascending = ascending;
          few =
              (let outside = of_all (λ ps. unmarked_from (link_marks main ps) 0 (link_size main.cells (bodies ps)) ≤ 2 +
              length main.cells + spare ps) (all_spare main (are.allocator ∷ are.methods)) in
              let in_all = of_all (λ ps. spare ps ≤ 4 + 100 + 12 * length (entries program))
              (let few = few_unmarked (entries program) are.methods are.codes in
              let heap = at_most_all are.allocator.marks 0 (length are.allocator.cells) in
              omega (arith, few, heap, are.allocates.size)) in
              let here : unmarked_from marks 0 (length image.code)
              ≡ unmarked_from (link_marks main pieces) 0 (link_size main.cells (bodies pieces)) =
              sym (unmarked_permuted (link_marks main pieces) marks 0 (length image.code) same)
              ∙ ap (unmarked_from (link_marks main pieces) 0)
              (ap length code ∙ length-link main.cells (bodies pieces)) in
              omega (arith, here, outside, in_all, long));
        }

-- the static cells are few
pub few_statics : (program : Source) (words : List StaticWord) → IsAccepted program
    → ((link_positions : List ℕ) → map (static_word link_positions) words ≡ statics_of program 1 link_positions)
    → length words ≤ most_cells
few_statics program words accepted are =
    let e : length words ≡ length (statics_of program 1 []) = sym (length-map words (static_word []))
    ∙ ap length (are []) in
    omega (arith, e, statics_are_few program accepted 1 [])
