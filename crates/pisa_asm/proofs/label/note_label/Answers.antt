use Rattle.std.proofs.Common.{◌≡◌, ◌∙◌, sym, refl, List, ℕ, None, Some}
use Rattle.std.specs.Str.{bytes_eq}
use Rattle.indexmap.specs.IndexMap.{insert_entry}
use Rattle.pisa_asm.specs.LabelNames.{Labels, label_address}
use Rattle.pisa_asm.proofs.Placing.{not_placed}
use Rattle.pisa_asm.proofs.label.note_label.Goals as goal

pub returns-in-None : goal.returns-in-None
returns-in-None c =
    let labels : Labels = c.args.labels.now.entries in
    let name : List ℕ = c.args.name.now in
    let none : label_address name labels ≡ None = rw c.in_ok-of.ensures at
    (sym c.in_ok-insert.ensures.old ∙ c.in-None.is) in
    let added : c.insert.new.self.entries ≡ insert_entry bytes_eq labels name c.args.place =
    rw c.in_ok-of.ensures at c.in_ok-insert.ensures.entries in
    rw (none, added, not_placed labels name c.args.place none) refl

pub returns-in-Some : goal.returns-in-Some
returns-in-Some c =
    let some : label_address c.args.name.now c.args.labels.now.entries ≡ Some c.in-Some._earlier =
    rw c.in_ok-of.ensures at (sym c.in_ok-insert.ensures.old ∙ c.in-Some.is) in
    λ free. rw some refl
