use Rattle.std.proofs.Common.{◌≡◌, ◌∙◌, ◌+◌, ◌-◌, ◌*◌, ◌^◌, min, get_or, drop, ap, arith}
use Rattle.pisa_machine.specs.rpp_words.Texts.{decimal_from}
use Rattle.pisa_loader.proofs.Decimal.{one_more}
use Rattle.pisa_loader.proofs.lines.decimal.Goals as goal

pub loop-digit-preserved : goal.loop-digit-preserved
loop-digit-preserved c =
    let i = c.loop-digit.digit-index in
    let digits = c.args.digits.now in
    let number : c.min-number.result ≡ min (10 * c.loop-digit.number + (get_or digits i 0 - 48)) (2 ^ 32) =
    c.min-number.ensures ∙ ap (λ k. min (10 * c.loop-digit.number + k) (2 ^ 32))
    (c.from.ensures ∙ c.saturating_sub.ensures) in
    record {
      at_most = omega arith;
      so_far = ap (λ n. min (decimal_from n (drop (i + 1) digits)) (2 ^ 32)) number
          ∙ one_more (2 ^ 32) c.loop-digit.number i digits (omega arith) ∙ c.loop-digit.invariant.so_far;
    }
