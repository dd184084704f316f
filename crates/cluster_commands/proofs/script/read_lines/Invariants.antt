use Rattle.std.proofs.Common.{◌≡◌, ◌+◌, ◌≤◌, All, length, drop, map, []}
use Rattle.cluster_commands.specs.ClusterScripts.{events_from, IsEvent}
use Rattle.cluster_commands.proofs.script.read_lines.Given as goal

-- the events so far and the lines that are left decide
abbrev pub invariant-loop-line : goal.invariant-loop-line
invariant-loop-line l = record {
  line : l.number ≡ l.line-index + 1;
  so_far : events_from l.processors l.number l.events.items (map (λ line. line.now) (drop l.line-index l.line-items))
      ≡ events_from l.processors 1 [] (map (λ line. line.now) l.line-items);
  there : All (IsEvent l.processors) l.events.items;
  few : length l.events.items ≤ l.line-index;
}
