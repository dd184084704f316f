use Rattle.std.proofs.Common.{◌≡◌, ◌∙◌, sym, ap, subst₂, true, List, length}
use Rattle.image_inverter.specs.pisa_isa.declared.cell.Cell.{Cell}
use Rattle.image_inverter.specs.pisa_isa.Image.{Segments}
use Rattle.image_inverter.specs.pisa_isa.Flipped.{flipped_image}
use Rattle.image_inverter.specs.pisa_isa.Notes.{NoteLists, fits, turned_notes}
use Rattle.image_inverter.proofs.pisa_isa_laws.Noting.{fits-flipped}
use Rattle.image_commands.proofs.images.flipped.Goals as goal

pub seal-requires : goal.seal-requires
seal-requires c =
    let n = c.args.noted.now in
    let turned = c.in_ok-turned.ensures.flipped ∙ ap flipped_image c.image-image.ensures.image in
    let notes = c.in_ok-notes.ensures
    ∙ ap (λ (code : List Cell). turned_notes (length code) c.notes.result.now)
    (c.code.ensures.code ∙ ap (λ (i : Segments). i.code) c.image-image.ensures.image)
    ∙ ap (turned_notes (length n.image.code)) c.notes.ensures.notes in
    subst₂ (λ (i : Segments) (s : NoteLists). fits i s ≡ true) (sym turned) (sym notes)
    (fits-flipped n c.image-image.ensures.fits)
