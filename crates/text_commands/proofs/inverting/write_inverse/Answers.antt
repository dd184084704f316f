use Rattle.std.proofs.Common.{subst, sym}
use Rattle.roopl_judge.specs.rpp_tree.Views.{source_of}
use Rattle.roopl_judge.specs.class_rules.Program.{IsAccepted}
use Rattle.text_commands.proofs.InverseNames.{inverse_names}
use Rattle.text_commands.proofs.inverting.write_inverse.Goals as goal

pub print-requires : goal.print-requires
print-requires c =
    record {
      names = inverse_names (source_of c.program.result.now) (source_of c.in_ok-inverse.inverse)
          c.in_ok-inverse.ensures (subst (λ program. IsAccepted (source_of program)) (sym c.program.ensures.program)
          c.program.ensures.accepted);
    }
