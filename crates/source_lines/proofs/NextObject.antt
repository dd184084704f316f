-- Names one after the other.
use Rattle.std.proofs.Common.{◌≡◌, ℕ, suc, ◌+◌, ◌-◌, ◌<◌, sym, ap, ◌∙◌, arith, append_assoc, ◌++◌}
use Rattle.source_steps.specs.rpp_tree.Tree.{Source}
use Rattle.source_steps.specs.roopl_semantics.Store.{Store, object_named}
use Rattle.source_steps.specs.roopl_semantics.Report.{Text}
use Rattle.source_lines.specs.Named.{object_lines, objects_from}

pub objects_next : (program : Source) (store : Store) (from at count : ℕ) (before line : Text) → at < count
    → line ≡ object_lines program (from + at) (object_named store (from + at))
    → before ++ line ++ objects_from program store (from + (at + 1)) (count - (at + 1))
    ≡ before ++ objects_from program store (from + at) (count - at)
objects_next program store from at count before line h e =
    let more : count - at ≡ suc (count - (at + 1)) = omega arith in
    let next : from + (at + 1) ≡ suc (from + at) = omega arith in
    append_assoc before line (objects_from program store (from + (at + 1)) (count - (at + 1)))
    ∙ ap (λ l. before ++ (l ++ objects_from program store (from + (at + 1)) (count - (at + 1)))) e
    ∙ ap (λ k. before ++ (object_lines program (from + at) (object_named store (from + at))
    ++ objects_from program store k (count - (at + 1)))) next
    ∙ ap (λ k. before ++ objects_from program store (from + at) k) (sym more)
