use Rattle.std.proofs.Common.{◌≡◌, ◌∙◌, ap, ◌<◌, ◌+◌, ◌++◌, ℕ, suc, ◌-◌, List, arith, append_assoc}
use Rattle.std.specs.Prelude.{string_bytes, replicate, codes}
use Rattle.std.specs.Fmt.{decimal}
use Rattle.refine_frame.specs.rpp_words.Texts.{line_end}
use Rattle.static_layout.specs.roopl_semantics.Report.{Text, element_lines, value_shown}
use Rattle.pisa_machine.specs.pisa_isa.Machine.{word_at as word_told}
use Rattle.store_report.specs.declared.leads.Lead.{Lead}
use Rattle.store_report.specs.Shown.{lead_value, values_by, addresses_of}
use Rattle.store_report.proofs.memories.add_elements.Goals as goal

abbrev line : List ℕ → ℕ → Lead → ℕ → Text
line names index lead word = codes "  [" ++ decimal index ++ codes "] = " ++ value_shown names (lead_value lead word)
    ++ line_end

next : (cells names : List ℕ) (before : Text) (at n count : ℕ) (lead : Lead) → n < count
    → (before ++ line names n lead (word_told cells (at + n)))
    ++ element_lines names (n + 1) (values_by cells (at + (n + 1)) (replicate (count - (n + 1)) lead))
    ≡ before ++ element_lines names n (values_by cells (at + n) (replicate (count - n) lead))
next cells names before at n count lead h =
    let e : suc (count - (n + 1)) ≡ count - n = omega arith in
    let f : at + (n + 1) ≡ at + n + 1 = omega arith in
    let rest = element_lines names (n + 1) (values_by cells (at + n + 1) (replicate (count - (n + 1)) lead)) in
    ap (λ a. (before ++ line names n lead (word_told cells (at + n)))
    ++ element_lines names (n + 1) (values_by cells a (replicate (count - (n + 1)) lead))) f
    ∙ append_assoc before (line names n lead (word_told cells (at + n))) rest
    ∙ ap (λ k. before ++ element_lines names n (values_by cells (at + n) (replicate k lead))) e

pub loop-index-preserved : goal.loop-index-preserved
loop-index-preserved c =
    let cells = c.args.machine.now.state.cells in
    let n = c.loop-index.index in
    let at = c.args.at in
    let names = addresses_of c.args.met.now.entries in
    let before = string_bytes c.loop-index.out in
    let rest = element_lines names (n + 1) (values_by cells (at + (n + 1))
    (replicate (c.args.count - (n + 1)) c.args.lead)) in
    let word : c.word_at.result ≡ word_told cells (at + n) = c.word_at.ensures
    ∙ ap (λ k. word_told cells (at + k)) c.from.ensures in
    ap (λ z. z ++ rest) c.in_ok-add_element.ensures
    ∙ ap (λ w. (before ++ line names n c.args.lead w) ++ rest) word
    ∙ next cells names before at n c.args.count c.args.lead (omega (arith, c.loop-index-test.true))
    ∙ c.loop-index.invariant
