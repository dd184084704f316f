use Rattle.std.proofs.Common.{refl}
use Rattle.roopl_lexer.proofs.Fronts.{no_sign_no_token}
use Rattle.roopl_lexer.proofs.Found.{sign_found}
use Rattle.roopl_lexer.proofs.lexer.sign_at.Goals as goal

pub returns-in-Some : goal.returns-in-Some
returns-in-Some c = sign_found c.args.rest.now c.requires.some_bytes c.args.at c.sign_len.result c.in-Some.sign
    c.requires.no_letter c.requires.no_digit c.sign_len.ensures c.in-Some.ensures

pub returns-in-None : goal.returns-in-None
returns-in-None c = (refl, no_sign_no_token c.args.rest.now c.requires.no_letter c.requires.no_digit c.in-None.ensures)
