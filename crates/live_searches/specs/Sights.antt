-- What `until change` watches and compares, as it is kept.
use Rattle.std.specs.Prelude.{ℕ, Option, Some, None}
use Rattle.live_requests.specs.pisa_scripts.declared.command.Command.{Command}
use Rattle.live_requests.specs.pisa_scripts.declared.command.Command.TheVariants.{Regs, Cells}
use Rattle.live_searches.specs.declared.watches.Watch.{Watch as KeptWatch}
use Rattle.live_searches.specs.declared.goals.Glance.{Glance}
use Rattle.live_searches.specs.declared.goals.Mark.{Mark as KeptMark}
use Rattle.live_searches.specs.Goals.{SearchWatch, Sight, SearchMark}

abbrev pub watch_in : KeptWatch → SearchWatch
watch_in watch = record { object = watch.object; start = watch.start.items }

abbrev pub sight_of : Glance → Sight
sight_of glance = record { depth = glance.depth; lines = glance.lines.items }

abbrev pub kept_mark_of : KeptMark → SearchMark
kept_mark_of kept = record { watch = watch_in kept.watch; sight = sight_of kept.glance }

-- the command that shows an object, or the variables
abbrev pub look_of : (object : Option ℕ) → Command
look_of None = Regs
look_of (Some object) = Cells object 1
