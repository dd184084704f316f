use Rattle.std.proofs.Common.{◌≡◌, ◌∙◌, ◌≤◌, ◌++◌, ◌∷◌, [], ap, subst, sym}
use Rattle.image_inverter.specs.pisa_isa.declared.image.TheConstants.{MOST_CELLS}
use Rattle.image_inverter.specs.pisa_isa.Image.{Segments}
use Rattle.paired_code.specs.Cells.{start_cell, finish}
use Rattle.paired_code.specs.Code.{Code, bodies}
use Rattle.paired_code.specs.Link.{link_size, link_code}
use Rattle.bennett_wrap.proofs.Written.{small_row, linked_row}
use Rattle.bennett_wrap.proofs.copying.copy_image.Goals as goal

pub link-requires-clause-code_in_limit : goal.link-requires-clause-code_in_limit
link-requires-clause-code_in_limit c =
    subst (λ z. link_size c.in_ok-main.main.cells (bodies z) ≤ MOST_CELLS) (sym c.new.ensures.items)
    (small_row c.args.cells.now c.deref.result.now c.in_ok-main.main.cells c.requires
    (c.deref.ensures.value ∙ c.in_ok-row.ensures.row) (ap (λ (p : Code). p.cells) c.in_ok-main.ensures))

pub returns : goal.returns
returns c =
    let main = c.in_ok-main.main.cells in
    record {
      code = ap (λ (i : Segments). i.code) c.into_parts.ensures.image
          ∙ linked_row c.deref.result.now main c.in_ok-noted.noted.image.code
          (c.in_ok-noted.ensures.code ∙ ap (λ z. link_code main (bodies z)) c.new.ensures.items)
          (ap (λ (p : Code). p.cells) c.in_ok-main.ensures)
          ∙ ap (λ r. start_cell ∷ (r ++ finish ∷ [])) (c.deref.ensures.value ∙ c.in_ok-row.ensures.row);
    }
