use Rattle.std.proofs.Common.{◌≡◌, drop, map, length}
use Rattle.cluster_commands.specs.ClusterPlans.{images_at}
use Rattle.cluster_commands.proofs.ImagesOn.{with_front}
use Rattle.cluster_commands.proofs.planning.judge_images.Given as goal

-- the images so far and the texts that are left decide
abbrev pub invariant-loop-text : goal.invariant-loop-text
invariant-loop-text l = record {
  so_far : with_front l.images.items (images_at (map (λ v. v.items) (drop l.text-index l.texts)))
      ≡ images_at (map (λ v. v.items) l.texts);
  count : length l.images.items ≡ l.text-index;
}
