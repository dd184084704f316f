use Rattle.std.proofs.Common.{rules, ◌≡◌, ◌∙◌, sym, ap, subst, ℕ, map, reverse, List, Option, None, Some}
use Rattle.std.specs.List.{All}
use Rattle.pisa_isa.specs.declared.cell.Cell.{Cell}
use Rattle.pisa_isa.specs.declared.image.SealError.{SealError}
use Rattle.pisa_isa.specs.Table.{IsInRange, inverse_of}
use Rattle.pisa_isa.specs.Image.{Segments, first_seal_refusal}
use Rattle.pisa_isa.specs.Flipped.{flipped, flipped_image}
use Rattle.pisa_isa.proofs.Flips.{IsImage-flipped, flipped-flipped}
use Rattle.pisa_isa.proofs.Sealed.{accepted_by_seal}
use Rattle.image_inverter.specs.Leading.{LeadsBack}
use Rattle.image_inverter.proofs.Leading.{leads_back, map_reverse}
use Rattle.image_inverter.proofs.inverter.flip.Goals as goal

is_flipped : (cells code code' : List Cell) → cells ≡ map inverse_of (reverse code) → code ≡ code'
    → cells ≡ flipped code'
is_flipped cells code code' e f = e ∙ map_reverse code ∙ ap flipped f

pub seal-requires-clause-in_range : goal.seal-requires-clause-in_range
seal-requires-clause-in_range c =
    let turned = IsImage-flipped c.args.image.now c.code.ensures.image in
    let same : c.in_ok-code.code.items ≡ flipped c.args.image.now.code =
    is_flipped _ _ _ c.in_ok-code.ensures.code c.code.ensures.code in
    subst (All IsInRange) (sym same) (λ k d h. (turned.is_code.cells k d h).in_range)

abbrev segments : List Cell → List ℕ → Segments
segments code statics = record { code = code; statics = statics }

same_image : (code code' : List Cell) (statics statics' : List ℕ) → code ≡ code' → statics ≡ statics'
    → segments code statics ≡ segments code' statics'
same_image code code' statics statics' e f = rw (e, f)

clash : (o : Option SealError) (a : Option SealError) (e : SealError) → a ≡ None → o ≡ a → o ≡ Some e → ⊥
clash o a e n s r = cc

pub unreachable-requires : goal.unreachable-requires
unreachable-requires c =
    let accepted = accepted_by_seal (flipped_image c.args.image.now)
    (IsImage-flipped c.args.image.now c.code.ensures.image) in
    let same : first_seal_refusal c.in_ok-code.code.items ≡ first_seal_refusal (flipped c.args.image.now.code) =
    ap first_seal_refusal (is_flipped _ _ _ c.in_ok-code.ensures.code c.code.ensures.code) in
    let refused : first_seal_refusal c.in_ok-code.code.items ≡ Some c.in-Err._refusal = c.in-Err.ensures.sealed in
    clash _ _ _ accepted same refused

pub returns-clause-flipped : goal.returns-clause-flipped
returns-clause-flipped c =
    let code : c.in_ok-code.code.items ≡ flipped c.args.image.now.code =
    is_flipped _ _ _ c.in_ok-code.ensures.code c.code.ensures.code in
    let statics : c.in_ok-statics.statics.items ≡ c.args.image.now.statics = search rules in
    c.in-Ok.ensures.image ∙ same_image _ _ _ _ code statics

pub returns-clause-twice : goal.returns-clause-twice
returns-clause-twice c =
    ap flipped_image (returns-clause-flipped c)
    ∙ ap (λ (code : List Cell). record c.args.image.now { code = code })
    (flipped-flipped c.args.image.now.code c.code.ensures.image.is_code.cells)

pub returns-clause-restores : goal.returns-clause-restores
returns-clause-restores c =
    subst (λ (turned : Segments). LeadsBack c.args.image.now.code turned.code) (sym (returns-clause-flipped c))
    (leads_back c.args.image.now c.code.ensures.image)
