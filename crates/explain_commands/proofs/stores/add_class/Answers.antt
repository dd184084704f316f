use Rattle.std.proofs.Common.{sym, subst}
use Rattle.std.specs.Str.{IsAscii}
use Rattle.run_settings.specs.rpp_tree.Views.{source_of}
use Rattle.store_report.proofs.Names.{ascii_class_name}
use Rattle.explain_commands.proofs.stores.add_class.Goals as goal

pub add_bytes-requires : goal.add_bytes-requires
add_bytes-requires c = subst IsAscii (sym c.class_name.ensures)
    (ascii_class_name (source_of c.args.program.now) c.args.class c.requires)
