-- The size of a compiled image, of any accepted program.
use Rattle.std.proofs.Common.{ℕ, ◌+◌, ◌*◌, ◌≤◌, arith}
use Rattle.run_settings.specs.rpp_tree.Parts.{source_tokens}
use Rattle.run_settings.specs.rpp_tree.Tree.{Source}
use Rattle.run_settings.specs.class_rules.Program.{IsAccepted}
use Rattle.program_runs.specs.declared.compiled.TheConstants.{MOST_COMPILED}

pub few_cells : (program : Source) (cells : ℕ) → IsAccepted program → cells ≤ 200 * source_tokens program + 8192
    → cells ≤ MOST_COMPILED
few_cells program cells accepted size = let few = accepted.limits.tokens_few in omega (arith, size, few)
