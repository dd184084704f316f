use Rattle.std.proofs.Common.{◌≡◌, ◌++◌, drop}
use Rattle.std.specs.Prelude.{string_bytes}
use Rattle.image_commands.specs.RunTexts.{name_lines}
use Rattle.image_commands.proofs.run_texts.add_names.Given as goal

-- the lines so far and those of the names that are left are the whole
abbrev pub invariant-loop-name : goal.invariant-loop-name
invariant-loop-name l =
    string_bytes l.text ++ name_lines l.machine.state.cells (drop l.name-index l.names)
    ≡ string_bytes l.initial.text ++ name_lines l.machine.state.cells l.names
