use Rattle.source_meaning.proofs.Numbering.{AreListed}
use Rattle.source_meaning.proofs.store.all_numbers.Given as goal

abbrev pub invariant-loop-name : goal.invariant-loop-name
invariant-loop-name l = AreListed l.heap l.objects.items l.name
