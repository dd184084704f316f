-- What the port in memory shows.
use Rattle.std.specs.Prelude.{ℕ, List, map}
use Rattle.live_port.specs.Heard.{Heard}
use Rattle.live_port.specs.declared.memory_asker.MemoryAsker.{MemoryAsker}

-- the lines that are still to come
abbrev pub asker_lines : MemoryAsker → List (List ℕ)
asker_lines asker = map (λ line. line.items) asker.lines.items

-- what was heard so far, the last first
abbrev pub asker_events : MemoryAsker → List Heard
asker_events asker = asker.trail.events
