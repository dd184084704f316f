use Rattle.std.proofs.Common.{ap, ◌∙◌, map}
use Rattle.std.proofs.lemmas.List.{map-set}
use Rattle.source_checks.specs.source_store.declared.value.Value.TheVariants as held
use Rattle.source_checks.specs.source_store.ValueView.{value_of}
use Rattle.source_execution.proofs.execution.put_word.Goals as goal

pub returns : goal.returns
returns c = ap (map value_of) c.put_value.ensures ∙ map-set value_of c.args.cells.now.items c.args.field
    (held.Word c.args.word)
