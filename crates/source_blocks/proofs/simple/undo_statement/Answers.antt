use Rattle.std.proofs.Common.{◌∙◌, ap, true}
use Rattle.source_steps.specs.rpp_tree.Views.{statement_of}
use Rattle.source_steps.proofs.rpp_tree_laws.Statements.{statement_new, statement_delete, statement_uncopy}
use Rattle.source_steps.specs.Ends.{turned}
use Rattle.source_steps.specs.Metered.{IsOwnOrFull}
use Rattle.source_blocks.proofs.Stopping.{own_so, may_so, anyhow}
use Rattle.source_blocks.proofs.simple.undo_statement.Goals as goal

pub returns-in-Update-clause-stops : goal.returns-in-Update-clause-stops
returns-in-Update-clause-stops c = own_so c.update.result (turned true (statement_of c.args.s.now)) c.update.ensures.own

pub returns-in-Swap-clause-stops : goal.returns-in-Swap-clause-stops
returns-in-Swap-clause-stops c = own_so c.swap.result (turned true (statement_of c.args.s.now)) c.swap.ensures.own

pub returns-in-New-clause-stops : goal.returns-in-New-clause-stops
returns-in-New-clause-stops c =
    anyhow c.delete_made.result (turned true (statement_of c.args.s.now)) _
    (ap (turned true) (ap statement_of c.in-New.is ∙ statement_new _ _ _)) (λ why. tt)

pub returns-in-Delete-clause-stops : goal.returns-in-Delete-clause-stops
returns-in-Delete-clause-stops c =
    anyhow c.new_made.result (turned true (statement_of c.args.s.now)) _
    (ap (turned true) (ap statement_of c.in-Delete.is ∙ statement_delete _ _ _)) (λ why. tt)

pub returns-in-Copy-clause-stops : goal.returns-in-Copy-clause-stops
returns-in-Copy-clause-stops c = own_so c.uncopy.result (turned true (statement_of c.args.s.now)) c.uncopy.ensures.own

pub returns-in-Uncopy-clause-stops : goal.returns-in-Uncopy-clause-stops
returns-in-Uncopy-clause-stops c =
    may_so c.copy.result (turned true (statement_of c.args.s.now)) _
    (ap (turned true) (ap statement_of c.in-Uncopy.is ∙ statement_uncopy _ _ _ _)) IsOwnOrFull (λ why own. own)
    c.copy.ensures.own
