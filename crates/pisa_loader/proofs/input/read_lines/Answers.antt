use Rattle.std.proofs.Common.{◌≡◌, ◌∙◌, ◌≤◌, ◌+◌, sym, ap, [], map, length, Bor, List, ℕ, arith}
use Rattle.std.specs.Prelude.{nat_eq}
use Rattle.std.proofs.lemmas.Result.{err_from_is_err_and}
use Rattle.pisa_loader.specs.InputLines.{words_from, input_of}
use Rattle.pisa_loader.proofs.StateBytes.{fails_with}
use Rattle.pisa_loader.proofs.Inputs.{goes_on, stops, is_done, few_lines}
use Rattle.pisa_loader.proofs.input.read_lines.Goals as goal

abbrev text_of : Bor (List ℕ) → List ℕ
text_of line = line.now

abbrev no_line : Bor (List ℕ)
no_line = record { ref_ptr = (0, 0); now = [] }

pub returns-in_err-word : goal.returns-in_err-word
returns-in_err-word c =
    let p = err_from_is_err_and c.from_residual-in_err-word.result c.from_residual-in_err-word.ensures.1 in
    let items = c.deref-line-items.result.now in
    let fields = c.args.fields.now in
    let all : words_from fields 1 [] (map text_of items) ≡ input_of fields c.args.bytes.now =
    ap (λ xs. words_from fields 1 [] (map text_of xs)) c.deref-line-items.ensures.value
    ∙ ap (words_from fields 1 []) c.in_ok-lines.ensures in
    rw (p.1, p.2) (fails_with c.in_err-word.field-0.0 _ (input_of fields c.args.bytes.now)
    (λ r e. sym all ∙ stops text_of fields c.loop-line.number c.deref.result.now c.loop-line.words.items items
    c.loop-line.line-index no_line r (words_from fields 1 [] (map text_of items)) c.loop-line-test.true
    c.deref.ensures.value e c.loop-line.invariant.so_far)
    c.in_err-word.ensures)

pub overflow_add-number : goal.overflow_add-number
overflow_add-number c =
    let items = c.deref-line-items.result.now in
    let few : length items ≤ length c.args.bytes.now + 1 =
    few_lines text_of items (λ b. nat_eq b 10) c.args.bytes.now
    (ap (map text_of) c.deref-line-items.ensures.value ∙ c.in_ok-lines.ensures) in
    omega arith

pub loop-line-preserved : goal.loop-line-preserved
loop-line-preserved c =
    let items = c.deref-line-items.result.now in
    let fields = c.args.fields.now in
    record {
      line = omega arith;
      so_far = goes_on text_of fields c.loop-line.number c.deref.result.now c.loop-line.words.items
          c.add.new.words.items c.in_ok-word.word items c.loop-line.line-index no_line
          (words_from fields 1 [] (map text_of items)) c.loop-line-test.true c.deref.ensures.value c.in_ok-word.ensures
          c.in_ok-add.ensures c.loop-line.invariant.so_far;
    }

pub returns : goal.returns
returns c =
    let items = c.deref-line-items.result.now in
    let fields = c.args.fields.now in
    let all : words_from fields 1 [] (map text_of items) ≡ input_of fields c.args.bytes.now =
    ap (λ xs. words_from fields 1 [] (map text_of xs)) c.deref-line-items.ensures.value
    ∙ ap (words_from fields 1 []) c.in_ok-lines.ensures in
    sym all ∙ is_done text_of fields c.loop-line.number c.loop-line.words.items items c.loop-line.line-index
    (words_from fields 1 [] (map text_of items)) c.loop-line-test.false c.loop-line.invariant.so_far
