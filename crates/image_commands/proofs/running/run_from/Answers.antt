use Rattle.std.proofs.Common.{sym, subst}
use Rattle.std.specs.List.{All}
use Rattle.image_inverter.specs.pisa_isa.Notes.{NoteLists, HasAsciiText}
use Rattle.image_inverter.proofs.pisa_isa_laws.NoteNames.{ascii_names}
use Rattle.image_commands.proofs.running.run_from.Goals as goal

pub run_machine-requires-clause-names : goal.run_machine-requires-clause-names
run_machine-requires-clause-names g c =
    subst (λ (notes : NoteLists). All HasAsciiText notes.names) (sym c.into_parts-image.ensures.notes)
    (ascii_names c.args.noted.image c.args.noted.notes c.into_parts-image.ensures.fits)
