use Rattle.std.proofs.Common.{◌≡◌, ◌+◌, drop, map, []}
use Rattle.debugger_scripts.specs.Scripts.{commands_from}
use Rattle.debugger_scripts.proofs.script.read_lines.Given as goal

-- the commands so far and the lines that are left decide
abbrev pub invariant-loop-line : goal.invariant-loop-line
invariant-loop-line l = record {
  line : l.number ≡ l.line-index + 1;
  so_far : commands_from l.number l.commands.items (map (λ line. line.now) (drop l.line-index l.line-items))
      ≡ commands_from 1 [] (map (λ line. line.now) l.line-items);
}
