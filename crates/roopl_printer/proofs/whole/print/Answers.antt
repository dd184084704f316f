use Rattle.std.proofs.Common.{sym, subst}
use Rattle.std.specs.Str.{IsUtf8}
use Rattle.roopl_parser.specs.rpp_tree.Views.{source_of}
use Rattle.roopl_printer.proofs.TokenBytes.{printed_utf8}
use Rattle.roopl_printer.proofs.whole.print.Goals as goal

pub unreachable-requires : goal.unreachable-requires
unreachable-requires c =
    let utf8 = rw c.deref.ensures.value at c.in_ok-bytes.ensures in
    let is = c.from_utf8.ensures.succeeds (subst IsUtf8 (sym utf8)
    (printed_utf8 (source_of c.args.program.now) c.requires.names)) in
    let no = rw c.in-Err.is at is in
    cc
