use Rattle.std.proofs.Common.{◌≡◌, drop}
use Rattle.pisa_isa.specs.declared.notes.TheConstants.{MOST_NAME_BYTES}
use Rattle.pisa_isa.specs.Notes.{names_fit}
use Rattle.pisa_isa.proofs.notes.names_fit.Given as goal

abbrev pub invariant-loop-name : goal.invariant-loop-name
invariant-loop-name l = names_fit l.statics l.left (drop l.name-index l.names)
    ≡ names_fit l.statics MOST_NAME_BYTES l.names
