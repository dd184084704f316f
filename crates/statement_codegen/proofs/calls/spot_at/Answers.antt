use Rattle.std.proofs.Common.{sym, ◌≤◌, subst, length, arith}
use Rattle.std.proofs.lemmas.List.{length-reverse}
use Rattle.branch_codegen.specs.code_scope.Visible.{known_by}
use Rattle.branch_codegen.specs.method_calls.Facts.{IsNear}
use Rattle.statement_codegen.proofs.Names.{spot_near}
use Rattle.statement_codegen.proofs.calls.spot_at.Goals as goal

pub returns-clause-near : goal.returns-clause-near
returns-clause-near c =
    subst IsNear (sym c.spot_of.ensures.value)
    (spot_near (known_by c.names-names.result) c.args.name.now.text
    (let few = c.names-names.result.few in let q : length (known_by c.names-names.result).variables ≤ 48 = omega
    (arith, few, length-reverse c.names-names.result.variables.now) in q)
    c.names-names.result.few_fields)
