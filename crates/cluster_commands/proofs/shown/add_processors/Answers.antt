use Rattle.std.proofs.Common.{◌≡◌, ◌+◌, ◌++◌, subst, sym, drop, slice_get, option_map, Some, arith}
use Rattle.std.specs.Prelude.{string_bytes, suc}
use Rattle.pisa_cluster.specs.declared.processor.Processor.{Processor}
use Rattle.pisa_cluster.specs.Replay.{processor_at}
use Rattle.cluster_commands.specs.ClusterShown.{processor_line, processor_lines}
use Rattle.cluster_commands.proofs.Lines.{front_processor, line_on}
use Rattle.cluster_commands.proofs.shown.add_processors.Goals as goal

pub loop-before-preserved : goal.loop-before-preserved
loop-before-preserved c =
    let n = c.loop-before.before in
    let ps = c.args.cluster.now.joint.processors in
    let core = c.core.result.now in
    let next : suc n ≡ n + 1 = omega arith in
    let further : suc (n + 1) ≡ n + 1 + 1 = omega arith in
    let there : option_map (λ (p : Processor). p.core) (slice_get ps n) ≡ Some core =
    subst (λ k. option_map (λ (p : Processor). p.core) (processor_at c.args.cluster.now.joint k) ≡ Some core)
    (sym next) c.core.ensures.core in
    line_on (string_bytes c.loop-before.text) (string_bytes c.add_processor.new.text) (processor_line (n + 1) core)
    (processor_lines (n + 1 + 1) (drop (n + 1) ps)) (processor_lines (n + 1) (drop n ps)) _
    c.in_ok-add_processor.ensures (subst (λ k. processor_lines (n + 1) (drop n ps)
    ≡ processor_line (n + 1) core ++ processor_lines k (drop (n + 1) ps)) further
    (subst (λ k. processor_lines (n + 1) (drop n ps) ≡ processor_line (n + 1) core
    ++ processor_lines (suc (n + 1)) (drop k ps)) next (front_processor (n + 1) n ps core there)))
    c.loop-before.invariant
