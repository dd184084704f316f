-- A file that is to be read, as contracts see it.
use Rattle.std.specs.Prelude.{string_bytes}
use Rattle.command_plan.specs.Files.{Needed}
use Rattle.plan_serving.specs.declared.fetching.Wanted.{Wanted}

abbrev pub file_of : Wanted → Needed
file_of wanted = record { name = string_bytes wanted.name; limit = wanted.limit }
