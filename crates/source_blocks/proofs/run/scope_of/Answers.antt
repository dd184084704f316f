use Rattle.std.proofs.Common.{List, ◌++◌, map, ap, refl, Bor, ℕ}
use Rattle.source_blocks.proofs.run.scope_of.Goals as goal

pub returns : goal.returns
returns c = (
  ap (λ (ls : List (Bor (List ℕ))). map (λ own. own.now) ls ++ map (λ var. var.name.text) c.args.params.now)
      c.deref.ensures.value,
  refl,
)
