use Rattle.std.proofs.Common.{◌∙◌, sym}
use Rattle.live_requests.proofs.Quits.{no_other_quits_err}
use Rattle.live_requests.proofs.request.read_request.Goals as goal

pub returns-clause-quit : goal.returns-clause-quit
returns-clause-quit c =
    no_other_quits_err c.read_commands.result c.args.line.now (sym c.is_word.ensures ∙ c.if-is_word.false)
