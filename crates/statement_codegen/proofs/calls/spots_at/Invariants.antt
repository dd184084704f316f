use Rattle.std.proofs.Common.{◌≡◌, take, map}
use Rattle.std.specs.List.{All}
use Rattle.refine_objects.specs.rpp_tree.declared.tree.Ident.{Ident}
use Rattle.branch_codegen.specs.code_scope.Visible.{spot_of, known_in}
use Rattle.branch_codegen.specs.method_calls.Facts.{IsNear}
use Rattle.statement_codegen.proofs.calls.spots_at.Given as goal

abbrev pub invariant-loop-name : goal.invariant-loop-name
invariant-loop-name l =
    (l.spots.items ≡ map (λ (name : Ident). spot_of (known_in l.scope) name.text) (take l.name-index l.names))
    × All IsNear l.spots.items
