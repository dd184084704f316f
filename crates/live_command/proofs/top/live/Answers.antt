use Rattle.std.proofs.Common.{◌∙◌, refl, sym, ap, option_map, Some}
use Rattle.live_command.specs.declared.beginning.Opening.{Opening}
use Rattle.live_command.specs.Beginnings.{session_begun, loads, session_opened, OfSource, OfImage}
use Rattle.live_command.proofs.Living.{prints, lives_not, lives_none, lives_some}
use Rattle.live_command.proofs.top.live.Goals as goal

pub returns-in-Err-clause-session : goal.returns-in-Err-clause-session
returns-in-Err-clause-session g c = lives_not _ _ _ _

pub returns-in-Ok-None-clause-session : goal.returns-in-Ok-None-clause-session
returns-in-Ok-None-clause-session g c = lives_none _ _ _ _ _ _
    (sym (ap (option_map session_opened) c.in-Ok-None.field-0-is) ∙ c.in-Ok-None.ensures)
    (prints _ _ _ (record {
      lines = g.A.Asker.lines c.args.asker.now;
      heard = g.A.Asker.events c.args.asker.now;
      out = record { bytes = g.K.Sink.written c.args.out.now; puts = g.K.Sink.puts c.args.out.now };
    }) (record { bytes = g.K.Sink.written c.report.new.out; puts = g.K.Sink.puts c.report.new.out }) _ refl
    c.report.ensures)

pub returns-in-Ok-Some-Source-clause-session : goal.returns-in-Ok-Some-Source-clause-session
returns-in-Ok-Some-Source-clause-session g c = lives_some _ (OfSource (session_begun c.in-Ok-Some-Source.beginning)) _ _
    _ _ _ _
    (ap (λ (o : Opening). Some (session_opened o)) (sym c.in-Ok-Some-Source.field-0-0-is)
    ∙ sym (ap (option_map session_opened) c.in-Ok-Some-Source.field-0-is) ∙ c.in-Ok-Some-Source.ensures)
    c.begin.ensures.session

pub returns-in-Ok-Some-Image-clause-session : goal.returns-in-Ok-Some-Image-clause-session
returns-in-Ok-Some-Image-clause-session g c = lives_some _ (OfImage (loads c.in-Ok-Some-Image.loading)) _ _ _ _ _ _
    (ap (λ (o : Opening). Some (session_opened o)) (sym c.in-Ok-Some-Image.field-0-0-is)
    ∙ sym (ap (option_map session_opened) c.in-Ok-Some-Image.field-0-is) ∙ c.in-Ok-Some-Image.ensures)
    c.begin_image.ensures.session
