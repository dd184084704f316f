use Rattle.std.proofs.Common.{◌≡◌, ◌≤◌, ◌∙◌, ap, subst, sym, ℕ, List, length, rules}
use Rattle.std.specs.Prelude.{string_bytes}
use Rattle.std.specs.List.{All}
use Rattle.pisa_isa.specs.rpp_words.Words.{IsWord}
use Rattle.pisa_isa.specs.declared.notes.FieldName.{FieldName}
use Rattle.pisa_isa.specs.Image.{Segments, IsImage}
use Rattle.pisa_isa.specs.Notes.{HasAsciiText}
use Rattle.pisa_isa.proofs.NoteNames.{ascii_names}
use Rattle.pisa_asm.specs.declared.assembler.TheConstants.{MOST_TEXT}
use Rattle.pisa_asm.specs.Passes.{noted_of_text}
use Rattle.pisa_asm.specs.Listing.{listing}
use Rattle.pisa_asm.proofs.Measuring.{listing_short}
use Rattle.pisa_asm.proofs.Relisting.{listing_read}
use Rattle.pisa_asm.proofs.listing.list.Goals as goal

pub add_names-requires : goal.add_names-requires
add_names-requires c =
    let n = c.args.noted.now in
    let names : c.deref-2.result.now ≡ n.notes.names = search rules in
    subst (λ (names : List FieldName). All HasAsciiText names) (sym names)
    (ascii_names n.image n.notes c.image-image.ensures.fits)

pub returns-clause-within : goal.returns-clause-within
returns-clause-within c =
    let n = c.args.noted.now in
    let whole : string_bytes c.add_names.new.out ≡ listing n = search rules in
    let image : IsImage n.image = subst IsImage c.image-image.ensures.image c.statics.ensures.image in
    let same : c.statics.result.now ≡ n.image.statics = c.statics.ensures.statics
    ∙ ap (λ (i : Segments). i.statics) c.image-image.ensures.image in
    let words : All IsWord n.image.statics = subst (λ (statics : List ℕ). All IsWord statics) same c.are_words.ensures
    in
    let short : length (string_bytes c.add_names.new.out) ≤ MOST_TEXT =
    subst (λ (text : List ℕ). length text ≤ MOST_TEXT) (sym whole)
    (listing_short n image words c.image-image.ensures.fits) in
    search rules

pub returns-clause-reads_back : goal.returns-clause-reads_back
returns-clause-reads_back c =
    let n = c.args.noted.now in
    let whole : string_bytes c.add_names.new.out ≡ listing n = search rules in
    let image : IsImage n.image = subst IsImage c.image-image.ensures.image c.statics.ensures.image in
    let same : c.statics.result.now ≡ n.image.statics = c.statics.ensures.statics
    ∙ ap (λ (i : Segments). i.statics) c.image-image.ensures.image in
    let words : All IsWord n.image.statics = subst (λ (statics : List ℕ). All IsWord statics) same c.are_words.ensures
    in
    ap noted_of_text whole ∙ listing_read n image words c.image-image.ensures.fits
