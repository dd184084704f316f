use Rattle.std.proofs.Common.{◌∙◌, refl, sym, ap, map, string_bytes, option_map, Ok, Err}
use Rattle.std.specs.Prelude.{IsTrue}
use Rattle.command_line.specs.rpp_ports.Ports.{Rose}
use Rattle.command_line.specs.Lines.{asked, line_of}
use Rattle.rpp_command.proofs.Answered.{not_read, refused}
use Rattle.rpp_command.proofs.Early.{untouched}
use Rattle.rpp_command.proofs.top.rooplpp.Goals as goal

-- if no memory is found to read the words
pub returns-in_default-clause-memory : goal.returns-in_default-clause-memory
returns-in_default-clause-memory g c = λ _.
    untouched (line_of (map string_bytes c.args.words.now)) (g.P.Probes.watches c.args.probes.now)
    (g.S.Shelf.texts c.args.shelf.now) (Rose (g.S.Shelf.faults c.args.shelf.now) (g.S.Shelf.faults c.args.shelf.now))
    (Rose (g.K.Sink.faults c.args.out.now) (g.K.Sink.faults c.args.out.now))
    (IsTrue (g.K.Sink.needs_memory c.args.out.now)) (g.K.Sink.written c.args.out.now)

pub returns-in_default-clause-answer : goal.returns-in_default-clause-answer
returns-in_default-clause-answer g c =
    not_read (line_of (map string_bytes c.args.words.now)) _ _ _ _ c.status_of.result c.status_of.ensures

pub returns-in-Ok-say-clause-answer : goal.returns-in-Ok-say-clause-answer
returns-in-Ok-say-clause-answer g c =
    refused (line_of (map string_bytes c.args.words.now)) _ _ _ _ _ _ (Ok tt) c.status_of-in-Ok-say.result
    (sym c.in-Ok.ensures.line ∙ ap (option_map asked) c.in-None.is) refl c.in-Ok-say.ensures.put
    c.status_of-in-Ok-say.ensures

pub returns-in-Err-clause-answer : goal.returns-in-Err-clause-answer
returns-in-Err-clause-answer g c =
    refused (line_of (map string_bytes c.args.words.now)) _ _ _ _ _ _ (Err c.in-Err.broken) c.status_of-in-Err.result
    (sym c.in-Ok.ensures.line ∙ ap (option_map asked) c.in-None.is) refl c.in-Err.ensures.put
    c.status_of-in-Err.ensures
