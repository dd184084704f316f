use Rattle.std.proofs.Common.{refl, sym, subst, take}
use Rattle.std.specs.List.{AllPass}
use Rattle.std.specs.Char.{is_ascii_digit}
use Rattle.roopl_lexer.proofs.Fronts.{run_passes}
use Rattle.roopl_lexer.proofs.Found.{number_found, large_found}
use Rattle.roopl_lexer.proofs.lexer.number_at.Goals as goal

pub number_of-requires : goal.number_of-requires
number_of-requires c =
    subst (λ n. AllPass is_ascii_digit (take n c.args.rest.now)) (sym c.digits_len-len.ensures.length)
    (run_passes is_ascii_digit c.args.rest.now)

pub returns-in-Some : goal.returns-in-Some
returns-in-Some c = number_found c.args.rest.now c.requires.some_bytes c.args.at c.in-Some.number
    c.digits_len-len.result c.requires.digit c.digits_len-len.ensures.length c.in-Some.ensures.0 c.in-Some.ensures.1

pub returns-in-None : goal.returns-in-None
returns-in-None c = (
  refl,
  large_found c.args.rest.now c.requires.some_bytes c.digits_len-len.result c.requires.digit
      c.digits_len-len.ensures.length c.in-None.ensures,
)
