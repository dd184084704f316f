use Rattle.std.proofs.Common.{◌≡◌, ◌∙◌, ap, sym, ℕ, ◌<◌, length, drop, arith, List, length-drop}
use Rattle.std.specs.List.{prefix_len, position_or_len}
use Rattle.pisa_asm.specs.Lines.{line_words, is_blank_byte}
use Rattle.pisa_asm.proofs.Cutting.{words_skip, words_cut, word_some, no_words, some_bytes}
use Rattle.pisa_asm.proofs.line.next_word.Goals as goal

pub returns-then-is_empty : goal.returns-then-is_empty
returns-then-is_empty c =
    let same : c.behind-line.result.now ≡ drop (prefix_len is_blank_byte c.args.line.now) c.args.line.now =
    c.behind-line.ensures ∙ ap (λ n. drop n c.args.line.now) c.blank_len.ensures.length in
    words_skip c.args.line.now ∙ ap line_words (sym same) ∙ no_words c.behind-line.result.now
    (sym c.is_empty.ensures ∙ c.if-is_empty.true)

pub returns : goal.returns
returns c =
    let rest : List ℕ = drop (prefix_len is_blank_byte c.args.line.now) c.args.line.now in
    let same : c.behind-line.result.now ≡ rest = c.behind-line.ensures
    ∙ ap (λ n. drop n c.args.line.now) c.blank_len.ensures.length in
    let some : 0 < length rest = rw same at (some_bytes c.behind-line.result.now
    (sym c.is_empty.ensures ∙ c.if-is_empty.false)) in
    let word = word_some c.args.line.now some in
    let cut : c.word_len.result ≡ position_or_len is_blank_byte rest = rw same at c.word_len.ensures.length in (
      rw (c.split_at.ensures.front, c.split_at.ensures.back, cut, same) (words_cut c.args.line.now some),
      rw (c.split_at.ensures.back, cut, same) (omega (arith, length-drop {A = ℕ})),
    )
