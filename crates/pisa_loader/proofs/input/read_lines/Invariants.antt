use Rattle.std.proofs.Common.{◌≡◌, ◌+◌, drop, map, []}
use Rattle.pisa_loader.specs.InputLines.{words_from}
use Rattle.pisa_loader.proofs.input.read_lines.Given as goal

abbrev pub invariant-loop-line : goal.invariant-loop-line
invariant-loop-line l = record {
  line : l.number ≡ l.line-index + 1;
  so_far : words_from l.fields l.number l.words.items (map (λ line. line.now) (drop l.line-index l.line-items))
      ≡ words_from l.fields 1 [] (map (λ line. line.now) l.line-items);
}
