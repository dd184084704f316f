use Rattle.std.proofs.Common.{◌≡◌, drop, map, []}
use Rattle.wrap_commands.specs.WrapNames.{results_from}
use Rattle.wrap_commands.proofs.names.read_names.Given as goal

-- the results so far and the names that are left decide
abbrev pub invariant-loop-name : goal.invariant-loop-name
invariant-loop-name l = results_from l.fields l.results.items (map (λ name. name.now) (drop l.name-index l.name-items))
    ≡ results_from l.fields [] (map (λ name. name.now) l.name-items)
