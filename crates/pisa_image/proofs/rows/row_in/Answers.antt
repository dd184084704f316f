use Rattle.std.proofs.Common.{◌≡◌, ◌∙◌, ◌-◌, ap, arith}
use Rattle.std.specs.Prelude.{slice_get}
use Rattle.pisa_image.proofs.RowNumbers.{row_there}
use Rattle.pisa_image.proofs.rows.row_in.Goals as goal

pub returns : goal.returns
returns c =
    let rows = c.args.rows.now in
    let found : c.row_at_place.result ≡ slice_get rows (c.args.number - 1) = c.row_at_place.ensures
    ∙ ap (λ k. slice_get rows (k - 1)) c.from.ensures in
    found ∙ row_there rows c.args.number (λ z. omega arith)
