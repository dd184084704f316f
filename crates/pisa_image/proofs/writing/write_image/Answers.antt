use Rattle.std.proofs.Common.{rules, ◌≡◌, ◌<◌, ◌^◌, ◌∙◌, ap, subst, sym, List, ℕ, length}
use Rattle.std.specs.List.{All}
use Rattle.pisa_isa.specs.rpp_words.Words.{IsWord}
use Rattle.pisa_isa.specs.Image.{Segments, IsImage}
use Rattle.pisa_isa.specs.Notes.{NoteLists}
use Rattle.pisa_image.specs.ImageBytes.{image_bytes}
use Rattle.pisa_image.specs.Reading.{image_at}
use Rattle.pisa_image.proofs.NoteBytes.{short_names}
use Rattle.pisa_image.proofs.Whole.{image_again}
use Rattle.pisa_image.proofs.writing.write_image.Goals as goal

pub add_notes-requires-clause-texts : goal.add_notes-requires-clause-texts
add_notes-requires-clause-texts c =
    let n = c.args.noted.now in
    subst (λ (notes : NoteLists). All (λ m. length m.text < 2 ^ 32) notes.names) (sym c.notes-notes.ensures.notes)
    (short_names (length n.image.code) (length n.image.statics) n.notes c.notes-notes.ensures.fits)

pub returns-clause-reads_back : goal.returns-clause-reads_back
returns-clause-reads_back c =
    let n = c.args.noted.now in
    let text : c.add_notes.new.bytes.items ≡ image_bytes n = search rules in
    let image : IsImage n.image = subst IsImage c.image-image.ensures.image c.code-code.ensures.image in
    let same : c.statics-statics.result.now ≡ n.image.statics = c.statics-statics.ensures.statics
    ∙ ap (λ (i : Segments). i.statics) c.image-image.ensures.image in
    let words : All IsWord n.image.statics = subst (λ (statics : List ℕ). All IsWord statics) same
    c.add_words.ensures.words in
    ap image_at text ∙ image_again n image c.image-image.ensures.fits words
