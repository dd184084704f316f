use Rattle.std.proofs.Common.{subst, sym}
use Rattle.roopl_lexer.specs.declared.token.TokenKind.{TokenKind}
use Rattle.roopl_lexer.specs.Begins.{IsTokenAt}
use Rattle.roopl_lexer.proofs.Found.{keyword_found, name_found}
use Rattle.roopl_lexer.proofs.lexer.word_at.Goals as goal
use Rattle.roopl_lexer.proofs.lexer.word_at.Goals.{in-Some, in-None+in_ok-of-in-None}

pub returns : goal.returns
returns c =
    elim c.match-keyword_of.branch [
      | in-Some w ↦ subst (λ (k : TokenKind). IsTokenAt c.args.at c.args.rest.now
          (record { kind = k; at = c.args.at; len = c.name_len-len.result })) (sym w.kind-is)
          (keyword_found c.args.rest.now c.requires.some_bytes c.args.at c.name_len-len.result w.in-Some.keyword
          c.requires.letter c.name_len-len.ensures.length w.in-Some.ensures)
      | in-None+in_ok-of-in-None w ↦ subst (λ (k : TokenKind). IsTokenAt c.args.at c.args.rest.now
          (record { kind = k; at = c.args.at; len = c.name_len-len.result })) (sym w.kind-is)
          (name_found c.args.rest.now c.requires.some_bytes c.args.at c.name_len-len.result w.in_ok-of-in-None.field-0
          c.requires.letter c.name_len-len.ensures.length w.in-None.ensures w.in_ok-of-in-None.ensures)
    ]
