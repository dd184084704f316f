use Rattle.std.proofs.Common.{◌≡◌, ◌∙◌, sym, None}
use Rattle.std.specs.Prelude.{position}
use Rattle.pisa_isa.specs.Image.{is_start}
use Rattle.pisa_isa.proofs.Sealed.{has_start}
use Rattle.pisa_isa.proofs.image.Image.start.Goals as goal

pub unreachable-requires : goal.unreachable-requires
unreachable-requires c =
    let code = c.self.inside.code.items in
    let none : position is_start code ≡ None = rw (← c.deref.ensures.value) (sym c.first_start.ensures ∙ c.in-None.is)
    in
    has_start code c.self.invariant.one_start none
