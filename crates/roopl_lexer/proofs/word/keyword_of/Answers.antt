use Rattle.std.proofs.Common.{◌<◌, ◌∙◌, sym, ap, arith}
use Rattle.roopl_lexer.specs.Signs.{keyword_bytes}
use Rattle.roopl_lexer.proofs.Words.{no_keyword, number_of, number_of-below, keyword_at}
use Rattle.roopl_lexer.proofs.word.keyword_of.Goals as goal

pub returns : goal.returns
returns c = no_keyword c.args.word.now (λ keyword same.
    let below : number_of keyword < 24 = number_of-below keyword in
    c.loop-keyword.invariant (number_of keyword) (omega arith) (same ∙ sym (ap keyword_bytes (keyword_at keyword))))
