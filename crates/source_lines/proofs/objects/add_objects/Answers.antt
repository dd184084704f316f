use Rattle.std.proofs.Common.{◌≡◌, ◌∙◌, ℕ, ◌+◌, ◌-◌, ◌++◌, refl, ap, arith, List}
use Rattle.std.specs.Prelude.{string_bytes}
use Rattle.source_steps.specs.rpp_tree.Views.{source_of}
use Rattle.source_steps.specs.roopl_semantics.Store.{object_named}
use Rattle.source_lines.specs.Named.{object_lines, objects_from}
use Rattle.source_lines.proofs.NextObject.{objects_next}
use Rattle.source_lines.proofs.objects.add_objects.Goals as goal

pub loop-at-preserved : goal.loop-at-preserved
loop-at-preserved c =
    let program = source_of c.args.checked.now in
    let store = c.args.heap.now.store in
    let a = c.from.ensures in
    let b = c.from-in-loop-at.ensures in
    let same : c.from.result + c.from-in-loop-at.result ≡ c.args.from + c.loop-at.at = omega arith in
    ap (λ (s : List ℕ). s ++ objects_from program store (c.args.from + (c.loop-at.at + 1))
    (c.args.count - (c.loop-at.at + 1)))
    (c.in_ok-add_named.ensures ∙ ap (λ (n : ℕ). string_bytes c.loop-at.out
    ++ object_lines program n (object_named store n)) same)
    ∙ objects_next program store c.args.from c.loop-at.at c.args.count (string_bytes c.loop-at.out)
    (object_lines program (c.args.from + c.loop-at.at) (object_named store (c.args.from + c.loop-at.at)))
    c.loop-at-test.true refl
    ∙ c.loop-at.invariant
