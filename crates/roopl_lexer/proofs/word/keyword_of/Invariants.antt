use Rattle.std.proofs.Common.{◌≡◌, ℕ, ◌<◌, get_or}
use Rattle.roopl_lexer.specs.declared.token.Keyword.TheVariants.{Class}
use Rattle.roopl_lexer.specs.Signs.{keyword_bytes}
use Rattle.roopl_lexer.proofs.word.keyword_of.Given as goal

abbrev pub invariant-loop-keyword : goal.invariant-loop-keyword
invariant-loop-keyword l = (j : ℕ) → j < l.keyword-index → l.word ≡ keyword_bytes (get_or l.keyword-items j Class) → ⊥
