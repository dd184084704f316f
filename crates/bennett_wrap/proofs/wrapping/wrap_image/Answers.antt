use Rattle.std.proofs.Common.{◌∙◌, ap, arith, length, subst, sym}
use Rattle.image_inverter.specs.pisa_isa.Image.{Segments}
use Rattle.bennett_wrap.specs.Wrapped.{Wrapped}
use Rattle.bennett_wrap.proofs.Written.{small_all, in_range, accepted, not_refused, size_is, wraps_all, words_of}
use Rattle.bennett_wrap.proofs.wrapping.wrap_image.Goals as goal

pub seal-requires-clause-code_in_limit : goal.seal-requires-clause-code_in_limit
seal-requires-clause-code_in_limit c =
    omega (
      arith,
      c.in_ok-all.all.ok.0,
      small_all c.args.image.now.code c.args.cells.now c.in_ok-all.all.items
          c.requires.code_in_limit c.requires.few c.in_ok-all.ensures,
    )

pub seal-requires-clause-in_range : goal.seal-requires-clause-in_range
seal-requires-clause-in_range c =
    in_range c.args.image.now c.args.cells.now c.in_ok-all.all.items c.statics.ensures.image
    (words_of c.args.cells.now c.type_inv.cells) c.requires.code_in_limit c.requires.few c.in_ok-all.ensures

pub unreachable-requires : goal.unreachable-requires
unreachable-requires c =
    not_refused _ (accepted c.args.image.now c.args.cells.now c.in_ok-all.all.items c.statics.ensures.image
    (words_of c.args.cells.now c.type_inv.cells) c.requires.code_in_limit c.requires.few c.in_ok-all.ensures)
    c.in-Err.ensures.sealed

pub returns-clause-size : goal.returns-clause-size
returns-clause-size c = ap (λ (z : Segments). length z.code) c.in-Ok.ensures.image
    ∙ size_is c.args.image.now.code c.args.cells.now c.in_ok-all.all.items c.in_ok-all.ensures

pub returns-clause-runs : goal.returns-clause-runs
returns-clause-runs c =
    subst (λ (z : Segments). Wrapped c.args.image.now.code c.args.cells.now z.code) (sym c.in-Ok.ensures.image)
    (wraps_all c.args.image.now c.args.cells.now c.in_ok-all.all.items c.statics.ensures.image c.requires.code_in_limit
    c.requires.few c.in_ok-all.ensures)
