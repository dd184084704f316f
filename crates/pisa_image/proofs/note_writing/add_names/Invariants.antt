use Rattle.std.proofs.Common.{◌≡◌, ◌++◌, take}
use Rattle.std.specs.List.{flat_map}
use Rattle.pisa_image.specs.ImageBytes.{name_bytes}
use Rattle.pisa_image.proofs.note_writing.add_names.Given as goal

abbrev pub invariant-loop-name : goal.invariant-loop-name
invariant-loop-name l = l.bytes.items ≡ l.initial.bytes.items ++ flat_map name_bytes (take l.name-index l.names)
