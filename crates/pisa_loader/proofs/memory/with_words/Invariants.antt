use Rattle.std.proofs.Common.{◌≡◌, drop, length, vec_len}
use Rattle.pisa_machine.specs.pisa_isa.Loaded.{with_words}
use Rattle.pisa_loader.proofs.memory.with_words.Given as goal

abbrev pub invariant-loop-entry : goal.invariant-loop-entry
invariant-loop-entry l = record {
  size : vec_len l.words ≡ length l.statics;
  so_far : with_words (drop l.entry-index l.input) l.words.items ≡ with_words l.input l.statics;
}
