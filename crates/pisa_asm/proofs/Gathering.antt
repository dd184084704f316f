-- What both passes accept may be sealed.
use Rattle.std.proofs.Common.{◌≡◌, ◌∙◌, subst, refl, ℕ, ◌+◌, ◌<◌, ◌≤◌, ◌^◌, Bool, true, false, cond, arith, List, []}
use Rattle.std.proofs.Common.{◌∷◌, ◌++◌, length, Option, Some, None, Ok, Err, length-append}
use Rattle.std.specs.Prelude.{nat_lt}
use Rattle.std.specs.List.{All}
use Rattle.std.proofs.lemmas.List.Elements.{All-push}
use Rattle.std.proofs.lemmas.Bool.Decides.{nat_tests}
use Rattle.pisa_isa.specs.declared.cell.Cell.{Cell}
use Rattle.pisa_isa.specs.declared.image.TheConstants.{MOST_CELLS, MOST_STATICS}
use Rattle.pisa_isa.specs.Table.{IsCell, is_one_to_one}
use Rattle.pisa_asm.specs.declared.error.AsmError.TheVariants.{NotOneToOne, TooManyCells}
use Rattle.pisa_asm.specs.declared.item.Item.{Item}
use Rattle.pisa_asm.specs.declared.item.Item.TheVariants.{Nothing, Code, Static, Marked, Named}
use Rattle.pisa_asm.specs.Chain.{and_then}
use Rattle.pisa_asm.specs.Lines.{content_of, line_words}
use Rattle.pisa_asm.specs.LabelNames.{after_labels, label_names, Labels}
use Rattle.pisa_asm.specs.Items.{item_from}
use Rattle.pisa_asm.specs.Passes.{Surveyed, no_lines, labels_at, counted_item, surveyed_words, surveyed, resolved_cell}
use Rattle.pisa_asm.specs.Passes.{with_cell}
use Rattle.pisa_asm.specs.Passes.{linked_item, linked_cells}
use Rattle.pisa_asm.proofs.Chaining.{ok_then}
use Rattle.pisa_asm.proofs.Ranging.{ItemFits, CellFits, item_fits, resolved_fits}

-- code and a survey that may become an image
pub record Fit (survey : Surveyed) (code : List Cell) : Type 0 where
  pub counted : survey.cells ≡ length code
  pub few_cells : length code ≤ MOST_CELLS
  pub few_statics : length survey.statics ≤ MOST_STATICS
  pub cells : All IsCell code
  pub words : All (λ word. word < 2 ^ 32) survey.statics

-- what is on a line keeps that
item_keeps : (line : ℕ) (labels : Labels) (survey longer : Surveyed) (code more : List Cell) (item : Item)
    → ItemFits item → Fit survey code
    → counted_item line survey item ≡ Ok longer → linked_item line labels code item ≡ Ok more → Fit longer more
item_keeps line labels survey longer code more Nothing i f h g =
    let same : survey ≡ longer = cc in
    let same_code : code ≡ more = cc in
    rw (← same, ← same_code) f
item_keeps line labels survey longer code more (Code given) i f h g =
    by_tests (is_one_to_one given.cell) (nat_lt survey.cells MOST_CELLS) (resolved_cell labels (length code) given) refl
    refl
    refl h g
  where
    by_tests : (o t : Bool) (r : Option Cell) → is_one_to_one given.cell ≡ o → nat_lt survey.cells MOST_CELLS ≡ t
        → resolved_cell labels (length code) given ≡ r
        → cond o (cond t (Ok (record survey { cells = survey.cells + 1 })) (Err (TooManyCells line)))
        (Err (NotOneToOne line)) ≡ Ok longer
        → with_cell line code r ≡ Ok more → Fit longer more
    by_tests false t r p q e h g = absurd (cc)
    by_tests true false r p q e h g = absurd (cc)
    by_tests true true None p q e h g = absurd (cc)
    by_tests true true (Some cell) p q e h g =
        let same : record survey { cells = survey.cells + 1 } ≡ longer = cc in
        let same_code : code ++ cell ∷ [] ≡ more = cc in
        let fits : CellFits given cell = resolved_fits labels (length code) given cell i e in
        let count = f.counted in
        let room : survey.cells < MOST_CELLS = grind (arith, nat_tests) in
        rw (← same, ← same_code) (record {
          counted = rw length-append (omega arith);
          few_cells = rw length-append (omega arith);
          few_statics = f.few_statics;
          cells = All-push IsCell code cell f.cells (record { in_range = fits.in_range; one_to_one = fits.same ∙ p });
          words = f.words;
        })
item_keeps line labels survey longer code more (Static word) i f h g =
    by_test (nat_lt (length survey.statics) MOST_STATICS) refl h
  where
    by_test : (t : Bool) → nat_lt (length survey.statics) MOST_STATICS ≡ t
        → cond t (Ok (record survey { statics = survey.statics ++ word ∷ [] })) (Err (TooManyCells line)) ≡ Ok longer
        → Fit longer more
    by_test false e h = absurd (cc)
    by_test true e h =
        let same : record survey { statics = survey.statics ++ word ∷ [] } ≡ longer = cc in
        let same_code : code ≡ more = cc in
        let room : length survey.statics < MOST_STATICS = grind (arith, nat_tests) in
        rw (← same, ← same_code) (record {
          counted = f.counted;
          few_cells = f.few_cells;
          few_statics = rw length-append (omega arith);
          cells = f.cells;
          words = All-push (λ word. word < 2 ^ 32) survey.statics word f.words i;
        })
item_keeps line labels survey longer code more (Marked mark) i f h g =
    let same : survey ≡ longer = cc in
    let same_code : code ≡ more = cc in
    rw (← same, ← same_code) f
item_keeps line labels survey longer code more (Named name) i f h g =
    let same : survey ≡ longer = cc in
    let same_code : code ≡ more = cc in
    rw (← same, ← same_code) f

-- labels change no more
relabeled : (survey : Surveyed) (code : List Cell) (labels : Labels) → Fit survey code
    → Fit (record survey { labels = labels }) code
relabeled survey code labels f = record {
  counted = f.counted;
  few_cells = f.few_cells;
  few_statics = f.few_statics;
  cells = f.cells;
  words = f.words;
}

-- lines keep it
lines_keep : (number : ℕ) (labels : Labels) (survey end : Surveyed) (code whole : List Cell) (lines : List (List ℕ))
    → Fit survey code
    → surveyed number survey lines ≡ Ok end → linked_cells number labels code lines ≡ Ok whole → Fit end whole
lines_keep number labels survey end code whole [] f h g =
    let same : survey ≡ end = cc in
    let same_code : code ≡ whole = cc in
    rw (← same, ← same_code) f
lines_keep number labels survey end code whole (line ∷ lines) f h g =
    let words : List (List ℕ) = line_words (content_of line) in
    let s = ok_then (surveyed_words number survey words) (λ longer. surveyed (number + 1) longer lines) end h in
    let i = ok_then (item_from number (after_labels words))
    (λ item. and_then (labels_at number survey.cells survey.labels (label_names words)) (λ labels.
    counted_item number (record survey { labels = labels }) item)) s.0 s.1 in
    let l = ok_then (labels_at number survey.cells survey.labels (label_names words))
    (λ labels. counted_item number (record survey { labels = labels }) i.0) s.0 i.2 in
    let j = ok_then (item_from number (after_labels words))
    (λ item. and_then (linked_item number labels code item) (λ longer. linked_cells (number + 1) labels longer lines))
    whole g in
    let m = ok_then (linked_item number labels code j.0) (λ longer. linked_cells (number + 1) labels longer lines) whole
    j.2
    in
    let one : j.0 ≡ i.0 = cc (i.1, j.1) in
    lines_keep (number + 1) labels s.0 end m.0 whole lines
    (item_keeps number labels (record survey { labels = l.0 }) s.0 code m.0 i.0
    (item_fits number (after_labels words) i.0 i.1) (relabeled survey code l.0 f) l.2
    (let P : Item → Type 0 = λ item. linked_item number labels code item ≡ Ok m.0 in subst P one m.1))
    s.2 m.2

pub gathered : (lines : List (List ℕ)) (survey : Surveyed) (code : List Cell) → surveyed 1 no_lines lines ≡ Ok survey
    → linked_cells 1 survey.labels [] lines ≡ Ok code
    → Fit survey code
gathered lines survey code h g = lines_keep 1 survey.labels no_lines survey [] code lines
    (record {
      counted = refl;
      few_cells = omega arith;
      few_statics = omega arith;
      cells = λ k d below. absurd (omega arith);
      words = λ k d below. absurd (omega arith);
    }) h g
